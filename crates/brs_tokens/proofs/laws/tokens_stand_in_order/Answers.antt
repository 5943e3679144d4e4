use Rattle.brs_tokens.proofs.TokensLemmas.{spelled-good_tokens}
use Rattle.brs_tokens.proofs.laws.tokens_stand_in_order.Goals as goal

pub returns : goal.returns
returns c src first_line tokens e = (spelled-good_tokens src first_line tokens e).1
