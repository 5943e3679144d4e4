-- The last operand as a type takes it, and what the heap counts then.
use Rattle.std.proofs.Common.{◌≡◌, ℕ, ◌+◌, List, Option, sym, ap, ◌∙◌, subst, arith}
use Rattle.heap_meaning.specs.Values.{Value}
use Rattle.heap_meaning.specs.Cells.{occurrence}
use Rattle.heap_meaning.specs.Stands.{Outside, meaning, Stands}
use Rattle.heap_meaning.specs.Heap.{Heap, Moves, no_references, references_of}
use Rattle.heap_meaning.proofs.Steps.{stands_same}
use Rattle.heap_meaning.proofs.Showing.{out_belongs}
use Rattle.brs_code.specs.declared.function.ValueType.{ValueType}
use Rattle.machine_meaning.specs.Statements.{typed}
use Rattle.frame_stack.specs.Frame.{Frame, operands_of}
use Rattle.call_release.specs.References.{call_references}
use Rattle.frame_actions.specs.Actions.{last_value, Carries, Hands}
use Rattle.frame_actions.proofs.Moving.{carries_release}
use Rattle.typed_values.specs.Taken.{TakenAs, LastTakenAs}

pub last_taken : (kind : ValueType) (old mid : Heap) (before middle : List Frame) (v : Value) (taken : Option Value) → Hands old before mid middle v → v ≡ last_value (operands_of before) → TakenAs kind mid v taken → LastTakenAs kind old before taken
last_taken kind old mid before middle v taken hands is takes = λ name store others s.
    let outside : Outside = λ k. others k + (occurrence k v + call_references k middle) in
    let held : Stands name mid.cells store outside = hands name store others s in
    ap (λ u. typed kind (meaning name u)) (sym is) ∙ takes name store outside held (out_belongs mid name store outside v held (λ k. omega arith))

pub hands_as : (old mid : Heap) (before middle : List Frame) (v taken : Value) → Hands old before mid middle v → ((k : ℕ) → occurrence k taken ≡ occurrence k v) → Hands old before mid middle taken
hands_as old mid before middle v taken hands same = λ name store others s.
    stands_same name mid.cells store (λ k. others k + (occurrence k v + call_references k middle)) (λ k. others k + (occurrence k taken + call_references k middle)) (hands name store others s) (λ k. let y = same k in omega arith)

pub carries_back : (old mid new : Heap) (before middle : List Frame) (v back : Value) → Hands old before mid middle v → back ≡ v → Moves mid new (references_of back) no_references → Carries old before new middle
carries_back old mid new before middle v back hands is moves = carries_release old mid new before middle v hands (subst (λ u. Moves mid new (references_of u) no_references) is moves)
