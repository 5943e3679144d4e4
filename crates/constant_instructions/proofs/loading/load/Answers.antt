use Rattle.std.proofs.Common.{subst}
use Rattle.frame_stack.specs.Frame.{slots_of, slot_value}
use Rattle.moving_instructions.specs.Choices.{LoadPerformed}
use Rattle.constant_instructions.proofs.Naming.{set_row}
use Rattle.constant_instructions.proofs.loading.load.Goals as goal

pub returns-then-branch-clause-ok : goal.returns-then-branch-clause-ok
returns-then-branch-clause-ok c = λ line.
    set_row c.args.function.now c.args.entries.now c.args.built_ins.now c.args.functions c.args.slot (slot_value (slots_of c.args.frames.now) c.args.slot) c.args.heap.now c.load.new.heap c.args.frames.now c.load.new.frames line
    (subst (λ is_set. LoadPerformed (slot_value (slots_of c.args.frames.now) c.args.slot) is_set c.args.heap.now c.args.frames.now c.load.new.heap c.load.new.frames c.args.slot) c.if-branch.true c.in_ok-load.ensures.ok)
