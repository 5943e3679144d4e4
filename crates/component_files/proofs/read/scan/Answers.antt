use Rattle.std.proofs.Common.{arith, sym, ap, length}
use Rattle.component_files.proofs.Turns.{turn_more, place_same}
use Rattle.component_files.proofs.read.scan.Goals as goal

pub loop-turn-preserved : goal.loop-turn-preserved
loop-turn-preserved c =
    let there = place_same c.loop-turn.place c.place_before-place.result c.left.result c.rest-before.result.now c.loop-turn.rest c.turn.new.rest c.place_before-place.ensures.place c.rest-before.ensures c.left.ensures in
    let size = ap length c.rest-before.ensures in (
      turn_more (length c.args.text.now) c.loop-turn._turn c.loop-turn.place c.place_before-place.result c.loop-turn.progress c.in-Ok.next c.loop-turn.rest c.turn.new.rest _ c.loop-turn-test.true (sym c.if-is_empty.ensures)
          c.in-Ok.ensures.reads there c.loop-turn.invariant.0,
      omega (arith, size, c.place_before-place.ensures.line, c.left.ensures, c.loop-turn.invariant.1),
      omega (arith, size, c.place_before-place.ensures.column, c.left.ensures, c.loop-turn.invariant.2),
    )
