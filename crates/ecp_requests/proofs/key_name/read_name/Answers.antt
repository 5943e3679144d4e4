use Rattle.ecp_requests.proofs.NamesLemmas.{word_named}
use Rattle.ecp_requests.proofs.key_name.read_name.Goals as goal

pub returns-else-text-ge4-clause-named : goal.returns-else-text-ge4-clause-named
returns-else-text-ge4-clause-named c = word_named c.args.text.now c.word.result c.word.ensures
