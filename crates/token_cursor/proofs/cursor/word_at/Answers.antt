use Rattle.std.proofs.Common.{sym, ◌∙◌}
use Rattle.token_cursor.proofs.Drops.{token_next}
use Rattle.token_cursor.proofs.cursor.word_at.Goals as goal

pub returns-in-Some : goal.returns-in-Some
returns-in-Some c = c.word_of.ensures ∙ sym (token_next c.args.tokens.now c.args.at _ c.in-Some.ensures.token)
