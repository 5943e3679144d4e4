use Rattle.frame_stack.specs.declared.header.Landing.TheVariants as d
use Rattle.frame_actions.proofs.Moving.{on_ok_then}
use Rattle.return_instructions.proofs.Landings.{lands_as, stays, settles_pushed, settles_released}
use Rattle.return_instructions.proofs.landing.land.Goals as goal

pub returns-in-Operands-clause-lands : goal.returns-in-Operands-clause-lands
returns-in-Operands-clause-lands c = on_ok_then c.push.result _ _ (λ e. lands_as c.args.v c.args.frames.now c.push.new.self c.head-head.result d.Operands c.head-head.ensures c.in-Operands.is e) c.push.ensures.ok

pub returns-in-Operands-clause-settles : goal.returns-in-Operands-clause-settles
returns-in-Operands-clause-settles c = on_ok_then c.push.result _ _ (λ e. settles_pushed c.args.heap.now c.args.v c.args.frames.now c.push.new.self c.requires e) c.push.ensures.ok

pub returns-in-Nowhere-clause-lands : goal.returns-in-Nowhere-clause-lands
returns-in-Nowhere-clause-lands c = lands_as c.args.v c.args.frames.now c.args.frames.now c.head-head.result d.Nowhere c.head-head.ensures c.in-Nowhere.is (stays c.args.v c.args.frames.now)

pub returns-in-Nowhere-clause-settles : goal.returns-in-Nowhere-clause-settles
returns-in-Nowhere-clause-settles c = settles_released c.args.heap.now c.release.new.self c.args.v c.args.frames.now c.release.ensures.moves
