use Rattle.token_cursor.proofs.Drops.{past_end, one_end, token_refused, token_taken}
use Rattle.token_cursor.proofs.cursor.Cursor.take.Goals as goal

pub returns-in-None : goal.returns-in-None
returns-in-None c test e = one_end test _ c.self.inside.tokens.now c.self.inside.at c.self.view_is (past_end _ _ c.in-None.ensures.found)

pub returns-then-not-passes : goal.returns-then-not-passes
returns-then-not-passes c test e = token_refused test _ _ c.self.inside.tokens.now c.self.inside.at _ c.self.view_is c.in-Some.ensures.token e c.if-not-passes.true

pub returns-else-not-passes : goal.returns-else-not-passes
returns-else-not-passes c test e = token_taken test _ _ c.self.inside.tokens.now c.self.inside.at _ c.self.view_is c.in-Some.ensures.token e c.if-not-passes.false
