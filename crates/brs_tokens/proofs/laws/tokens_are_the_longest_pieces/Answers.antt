use Rattle.brs_tokens.proofs.Spelled.{spelled-tokens, tokens-spelled}
use Rattle.brs_tokens.proofs.laws.tokens_are_the_longest_pieces.Goals as goal

pub returns : goal.returns
returns c src first_line tokens = (spelled-tokens src first_line tokens, tokens-spelled src first_line tokens)
