use Rattle.std.proofs.Common.{arith}
use Rattle.moving_instructions.proofs.Going.{place_fits, is_behind}
use Rattle.moving_instructions.proofs.places.place_behind.Goals as goal

pub overflow_add-result : goal.overflow_add-result
overflow_add-result c = omega (arith, place_fits c.args.frames.now c.head-head.result c.requires.there c.head-head.ensures c.requires.inside)

pub returns : goal.returns
returns c = is_behind c.args.frames.now c.head-head.result c.head-head.ensures
