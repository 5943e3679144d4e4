use Rattle.std.proofs.Common.{◌≡◌, sym, subst}
use Rattle.frame_stack.specs.Frame.{changed}
use Rattle.frame_actions.proofs.Moving.{on_ok_then}
use Rattle.member_instructions.specs.Settling.{landed}
use Rattle.member_instructions.proofs.Settled.{lands_nowhere, takes_pushed, takes_released}
use Rattle.member_instructions.proofs.settling.land.Goals as goal

pub returns-in-Operands-clause-takes : goal.returns-in-Operands-clause-takes
returns-in-Operands-clause-takes c = on_ok_then c.push_value.result _ _ (λ e. takes_pushed c.args.heap.now c.args.frames.now c.push_value.new.frames c.args.v c.args.place c.requires.there e) c.push_value.ensures.ok

pub returns-in-Nowhere-clause-frames : goal.returns-in-Nowhere-clause-frames
returns-in-Nowhere-clause-frames c = subst (λ d. c.args.frames.now ≡ changed (landed d c.args.v c.args.place) c.args.frames.now) (sym c.in-Nowhere.is) (lands_nowhere c.args.v c.args.place c.args.frames.now)

pub returns-in-Nowhere-clause-takes : goal.returns-in-Nowhere-clause-takes
returns-in-Nowhere-clause-takes c = takes_released c.args.heap.now c.release.new.self c.args.frames.now c.args.v c.release.ensures.moves
