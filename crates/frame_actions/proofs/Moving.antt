-- What the heap stands for after moves of values.
use Rattle.std.proofs.Common.{◌≡◌, ℕ, ◌+◌, ◌<◌, ◌≤◌, List, [], ◌∷◌, length, take, Option, Some, Result, Ok, Err, refl, sym, ap, ◌∙◌, arith}
use Rattle.std.specs.Prelude.{IfSome, OnOk}
use Rattle.heap_meaning.specs.declared.plain.Plain.{Plain}
use Rattle.heap_meaning.specs.Values.{Value, Direct}
use Rattle.heap_meaning.specs.Cells.{occurrence}
use Rattle.heap_meaning.specs.Heap.{Heap, Belongs, Moves, no_references, references_of}
use Rattle.heap_meaning.proofs.Steps.{stands_same}
use Rattle.heap_meaning.proofs.Showing.{out_belongs}
use Rattle.frame_stack.specs.Operand.{Operand, Holds, value_of}
use Rattle.frame_stack.specs.Frame.{Frame, with_slot, without_operands, slot_value, innermost, operands_of, slots_of, changed}
use Rattle.call_release.specs.References.{operand_references, all_operand_references, call_references}
use Rattle.call_release.specs.Taken.{slot_reference}
use Rattle.frame_actions.specs.Actions.{at_place, dropped, pushed, last_value, stored, Carries, Hands}
use Rattle.frame_actions.proofs.Holding.{dropped_holds, pushed_holds, first_holds, slot_holds, slot_held, m_held}

-- ---- operands

pub carries_drop : (h0 h1 : Heap) (f0 f1 : List Frame) (n to : ℕ) → Moves h0 h1 (λ k. all_operand_references k (take n (operands_of f0))) no_references → f1 ≡ changed (dropped n to) f0 → Carries h0 f0 h1 f1
carries_drop h0 h1 f0 f1 n to moves e = λ name store others s.
    moves name store (λ k. others k + call_references k f0) (λ k. others k + call_references k f1) s
    (λ k. let a = dropped_holds k n to f0 in let y : call_references k f1 ≡ call_references k (changed (dropped n to) f0) = ap (call_references k) e in omega arith)

pub carries_push : (h0 h1 : Heap) (f0 f1 : List Frame) (v : Value) (to : ℕ) → 0 < length f0 → Hands h0 f0 h1 f0 v → f1 ≡ changed (pushed v to) f0 → Carries h0 f0 h1 f1
carries_push h0 h1 f0 f1 v to p hands e = λ name store others s.
    stands_same name h1.cells store (λ k. others k + (occurrence k v + call_references k f0)) (λ k. others k + call_references k f1) (hands name store others s)
    (λ k. let a = pushed_holds k v to f0 p in let y : call_references k f1 ≡ call_references k (changed (pushed v to) f0) = ap (call_references k) e in omega arith)

-- a value is taken out as it is
pub hands_value : (h : Heap) (f0 f1 : List Frame) (v : Value) → operands_of f0 ≡ Holds v ∷ operands_of f1 → f1 ≡ changed (without_operands 1) f0 → Hands h f0 h f1 v
hands_value h f0 f1 v taken rest = λ name store others s.
    stands_same name h.cells store (λ k. others k + call_references k f0) (λ k. others k + (occurrence k v + call_references k f1)) s (λ k. let a = first_holds k (Holds v) f0 f1 taken rest in omega arith)

-- an operand is taken back, and a plain value stands for it
pub hands_plain : (h0 h1 : Heap) (f0 f1 : List Frame) (o : Operand) (v : Value) → ((k : ℕ) → occurrence k v ≡ 0) → operands_of f0 ≡ o ∷ operands_of f1 → f1 ≡ changed (without_operands 1) f0 → Moves h0 h1 (λ k. operand_references k o) no_references → Hands h0 f0 h1 f1 v
hands_plain h0 h1 f0 f1 o v plain taken rest moves = λ name store others s.
    moves name store (λ k. others k + call_references k f0) (λ k. others k + (occurrence k v + call_references k f1)) s (λ k. let a = first_holds k o f0 f1 taken rest in let b = plain k in omega arith)

pub value_taken : (f0 f1 : List Frame) (o : Operand) (v : Value) → operands_of f0 ≡ o ∷ operands_of f1 → value_of o ≡ v → v ≡ last_value (operands_of f0)
value_taken f0 f1 o v taken is = sym (ap last_value taken ∙ is)

-- a value that was taken out is taken back
pub carries_release : (h0 h1 h2 : Heap) (f0 f1 : List Frame) (v : Value) → Hands h0 f0 h1 f1 v → Moves h1 h2 (references_of v) no_references → Carries h0 f0 h2 f1
carries_release h0 h1 h2 f0 f1 v hands moves = λ name store others s.
    moves name store (λ k. others k + (occurrence k v + call_references k f1)) (λ k. others k + call_references k f1) (hands name store others s) (λ k. omega arith)

-- ---- slots

pub stored_is : (n to : ℕ) (v : Value) (f0 f1 f2 f3 : List Frame) → v ≡ last_value (operands_of f0) → f1 ≡ changed (without_operands 1) f0 → f2 ≡ changed (with_slot n v) f1 → f3 ≡ changed (at_place to) f2 → f3 ≡ changed (stored n to) f0
stored_is n to v [] f1 f2 f3 is a b c = c ∙ ap (λ l. changed (at_place to) l) (b ∙ ap (changed (with_slot n v)) a)
stored_is n to v (x ∷ below) f1 f2 f3 is a b c =
    c ∙ ap (λ l. changed (at_place to) l) (b ∙ ap (changed (with_slot n v)) a) ∙ ap (λ w. at_place to (with_slot n w (without_operands 1 x)) ∷ below) is

pub place_holds : (k to : ℕ) (frames : List Frame) → call_references k (changed (at_place to) frames) ≡ call_references k frames
place_holds k to [] = refl
place_holds k to (x ∷ below) = refl

pub carries_store : (h0 h1 h2 : Heap) (f0 f1 f2 f3 : List Frame) (n to : ℕ) (v : Value) (was : Option Value) → Hands h0 f0 h1 f1 v → n < length (slots_of f1) → was ≡ slot_value (slots_of f1) n → f2 ≡ changed (with_slot n v) f1
    → Moves h1 h2 (λ k. slot_reference k was) no_references → f3 ≡ changed (at_place to) f2 → Carries h0 f0 h2 f3
carries_store h0 h1 h2 f0 f1 f2 f3 n to v was hands p w set moves to_place = λ name store others s.
    moves name store (λ k. others k + (occurrence k v + call_references k f1)) (λ k. others k + call_references k f3) (hands name store others s)
    (λ k.
    let a = slot_holds k n v f1 p in
    let b : slot_reference k was ≡ slot_reference k (slot_value (slots_of f1) n) = ap (slot_reference k) w in
    let c : call_references k f2 ≡ call_references k (changed (with_slot n v) f1) = ap (call_references k) set in
    let d : call_references k f3 ≡ call_references k (changed (at_place to) f2) = ap (call_references k) to_place in
    let e = place_holds k to f2 in
    omega arith)

-- ---- values that are held

pub hands_shared : (h0 h1 : Heap) (frames : List Frame) (v : Value) → ((k : ℕ) → occurrence k v ≤ call_references k frames) → (Belongs h0 v → Moves h0 h1 no_references (references_of v)) → Hands h0 frames h1 frames v
hands_shared h0 h1 frames v held moves = λ name store others s.
    let b = out_belongs h0 name store (λ k. others k + call_references k frames) v s (λ k. let l = held k in omega arith) in
    moves b name store (λ k. others k + call_references k frames) (λ k. others k + (occurrence k v + call_references k frames)) s (λ k. omega arith)

pub slot_shared : (h0 h1 : Heap) (frames : List Frame) (n : ℕ) (v : Value) → slot_value (slots_of frames) n ≡ Some v → (Belongs h0 v → Moves h0 h1 no_references (references_of v)) → Hands h0 frames h1 frames v
slot_shared h0 h1 frames n v e moves = hands_shared h0 h1 frames v (slot_held n v frames e) moves

pub slots_left : (n : ℕ) (frames : List Frame) → length (slots_of (changed (without_operands n) frames)) ≡ length (slots_of frames)
slots_left n [] = refl
slots_left n (x ∷ below) = refl

pub m_shared : (h0 h1 : Heap) (frames : List Frame) (v : Value) → 0 < length frames → IfSome (innermost frames) (λ frame. v ≡ frame.m) → (Belongs h0 v → Moves h0 h1 no_references (references_of v)) → Hands h0 frames h1 frames v
m_shared h0 h1 frames v p i moves = hands_shared h0 h1 frames v (m_held v frames p i) moves

-- ---- calls that are there

pub operand_there : (frames : List Frame) → 0 < length (operands_of frames) → 0 < length frames
operand_there [] p = absurd (omega arith)
operand_there (x ∷ below) p = omega arith

pub slot_there : (n : ℕ) (frames : List Frame) → n < length (slots_of frames) → 0 < length frames
slot_there n [] p = absurd (omega arith)
slot_there n (x ∷ below) p = omega arith

pub on_ok_then : {A E : Type 0} (r : Result A E) (P Q : Type 0) → (P → Q) → OnOk r P → OnOk r Q
on_ok_then (Ok x) P Q f h = f h
on_ok_then (Err x) P Q f h = tt
