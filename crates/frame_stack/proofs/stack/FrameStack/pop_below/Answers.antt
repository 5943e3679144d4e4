use Rattle.std.proofs.Common.{length}
use Rattle.std.specs.Prelude.{reverse}
use Rattle.frame_stack.specs.Operand.{operand_of}
use Rattle.frame_stack.proofs.CuttingLaws.{below_there, below_within, below_view}
use Rattle.frame_stack.proofs.stack.FrameStack.pop_below.Goals as goal

pub overflow_sub-header : goal.overflow_sub-header
overflow_sub-header c = below_there c.self.inside.top c.in-Some.header (reverse c.self.inside.below.items) c.self.inside.operands c.self.inside.slots.items (length c.self.inside.slots.items) c.args.self.now c.in-Some.is c.self.invariant.begin c.self.view_is c.requires.there

pub pop-requires : goal.pop-requires
pop-requires c = below_within c.self.inside.top c.in-Some.header (reverse c.self.inside.below.items) c.self.inside.operands (length c.self.inside.slots.items) c.in-Some.is c.self.invariant.begin (below_there c.self.inside.top c.in-Some.header (reverse c.self.inside.below.items) c.self.inside.operands c.self.inside.slots.items (length c.self.inside.slots.items) c.args.self.now c.in-Some.is c.self.invariant.begin c.self.view_is c.requires.there)

pub invariant_of-self : goal.invariant_of-self
invariant_of-self c =
    let p = below_view c.self.inside.top c.in-Some.header (reverse c.self.inside.below.items) (operand_of c.pop.result) c.self.inside.operands c.pop.new.self c.self.inside.slots.items (length c.self.inside.slots.items) c.args.self.now c.in-Some.is c.pop.ensures c.self.invariant.begin c.self.view_is c.requires.bare c.requires.there in
    record { begin = p.begin; whole = λ e. absurd cc }

pub returns-clause-taken : goal.returns-clause-taken
returns-clause-taken c =
    let p = below_view c.self.inside.top c.in-Some.header (reverse c.self.inside.below.items) (operand_of c.pop.result) c.self.inside.operands c.pop.new.self c.self.inside.slots.items (length c.self.inside.slots.items) c.args.self.now c.in-Some.is c.pop.ensures c.self.invariant.begin c.self.view_is c.requires.bare c.requires.there in
    p.taken

pub returns-clause-rest : goal.returns-clause-rest
returns-clause-rest c =
    let p = below_view c.self.inside.top c.in-Some.header (reverse c.self.inside.below.items) (operand_of c.pop.result) c.self.inside.operands c.pop.new.self c.self.inside.slots.items (length c.self.inside.slots.items) c.args.self.now c.in-Some.is c.pop.ensures c.self.invariant.begin c.self.view_is c.requires.bare c.requires.there in
    p.rest
