-- What the heap counts when numbers are put into the innermost call.
use Rattle.std.proofs.Common.{◌≡◌, ℕ, ◌+◌, ◌<◌, List, length, Option, ap, arith}
use Rattle.heap_meaning.specs.Values.{Value}
use Rattle.heap_meaning.specs.Cells.{occurrence}
use Rattle.heap_meaning.specs.Heap.{Heap, Moves, no_references}
use Rattle.frame_stack.specs.Frame.{Frame, with_slot, slot_value, slots_of, changed}
use Rattle.call_release.specs.References.{call_references}
use Rattle.call_release.specs.Taken.{slot_reference}
use Rattle.frame_actions.specs.Actions.{pushed, Carries}
use Rattle.frame_actions.proofs.Holding.{pushed_holds, slot_holds}
use Rattle.moving_instructions.proofs.Going.{carries_same}

pub carries_set : (h0 h1 : Heap) (f0 f1 : List Frame) (n : ℕ) (v : Value) (was : Option Value) → ((k : ℕ) → occurrence k v ≡ 0) → n < length (slots_of f0) → was ≡ slot_value (slots_of f0) n → f1 ≡ changed (with_slot n v) f0
    → Moves h0 h1 (λ k. slot_reference k was) no_references → Carries h0 f0 h1 f1
carries_set h0 h1 f0 f1 n v was plain p w set moves = λ name store others s.
    moves name store (λ k. others k + call_references k f0) (λ k. others k + call_references k f1) s
    (λ k.
    let a = slot_holds k n v f0 p in
    let b : slot_reference k was ≡ slot_reference k (slot_value (slots_of f0) n) = ap (slot_reference k) w in
    let c : call_references k f1 ≡ call_references k (changed (with_slot n v) f0) = ap (call_references k) set in
    let d = plain k in
    omega arith)

pub carries_pushed : (heap : Heap) (before after : List Frame) (v : Value) (to : ℕ) → ((k : ℕ) → occurrence k v ≡ 0) → 0 < length before → after ≡ changed (pushed v to) before → Carries heap before heap after
carries_pushed heap before after v to plain there e =
    carries_same heap before after
    (λ k. let y = pushed_holds k v to before there in let z : call_references k after ≡ call_references k (changed (pushed v to) before) = ap (call_references k) e in let d = plain k in omega arith)
