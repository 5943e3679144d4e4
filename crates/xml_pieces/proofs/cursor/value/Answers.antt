use Rattle.std.proofs.Common.{sym}
use Rattle.xml_pieces.proofs.Loops.{value_more}
use Rattle.xml_pieces.proofs.cursor.value.Goals as goal

pub loop-turn-preserved : goal.loop-turn-preserved
loop-turn-preserved c =
    rw c.in_ok-push_part.ensures
    (value_more _ c.loop-turn._turn c.in_ok-part.part c.loop-turn.rest c.value_part.new.self c.loop-turn.found _ c.loop-turn-test.true (sym c.if-is_empty.ensures) c.in_ok-part.ensures c.loop-turn.invariant)
