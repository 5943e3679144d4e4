use Rattle.std.proofs.Common.{◌≡◌, true, false, Some}
use Rattle.xml_pieces.specs.Written.{is_space, is_attribute_byte, is_empty}
use Rattle.xml_pieces.specs.Reading.{run, after, first, attribute}
use Rattle.xml_pieces.proofs.Loops.{attributes_more}
use Rattle.xml_pieces.proofs.cursor.Cursor.attributes.Goals as goal

pub loop-turn-preserved : goal.loop-turn-preserved
loop-turn-preserved c =
    let gap : is_empty (run is_space c.loop-turn.self) ≡ false = cc in
    let name : is_attribute_byte (first (after is_space c.loop-turn.self)) ≡ true = cc in
    let next : attribute (after is_space c.loop-turn.self) ≡ Some (c.in_ok-next.next, c.attribute.new.self) = cc (c.in_ok-next.ensures) in
    rw c.in_ok-push.ensures.ok
    (attributes_more _ c.loop-turn._turn c.loop-turn.self c.attribute.new.self c.loop-turn.found c.in_ok-next.next _ c.loop-turn-test.true name gap next c.loop-turn.invariant)
