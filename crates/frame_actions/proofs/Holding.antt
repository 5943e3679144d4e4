-- How often calls name a cell, when their innermost one changes.
use Rattle.std.proofs.Common.{◌≡◌, ℕ, zero, suc, ◌+◌, ◌<◌, ◌≤◌, List, [], ◌∷◌, length, take, drop, Some, None, refl, ap, ◌∙◌, arith}
use Rattle.std.specs.Prelude.{IfSome, slice_set}
use Rattle.heap_meaning.specs.Values.{Value, filler}
use Rattle.heap_meaning.specs.Cells.{occurrence}
use Rattle.frame_stack.specs.declared.header.CallHead.{CallHead}
use Rattle.frame_stack.specs.declared.each.Each.{Each}
use Rattle.frame_stack.specs.declared.each.Each.TheVariants as e
use Rattle.frame_stack.specs.Operand.{Operand, value_of, each_of}
use Rattle.frame_stack.specs.Frame.{Slots, Frame, with_head, without_operands, with_slot, slot_value, innermost, operands_of, slots_of, changed}
use Rattle.call_release.specs.References.{operand_references, all_operand_references, slot_references, call_references}
use Rattle.call_release.specs.Taken.{slot_reference}
use Rattle.frame_actions.specs.Actions.{head_at, at_place, dropped, pushed}

-- ---- the innermost call

pub still_there : (change : Frame → Frame) (frames : List Frame) → length (changed change frames) ≡ length frames
still_there change [] = refl
still_there change (x ∷ below) = refl

pub twice : (first second : Frame → Frame) (frames : List Frame) → changed second (changed first frames) ≡ changed (λ x. second (first x)) frames
twice first second [] = refl
twice first second (x ∷ below) = refl

pub moved : (old new : List Frame) (head : CallHead) (to : ℕ) → IfSome (innermost old) (λ frame. head ≡ frame.head) → new ≡ changed (with_head (head_at to head)) old → new ≡ changed (at_place to) old
moved [] new head to i e = e
moved (x ∷ below) new head to i e = e ∙ ap (λ h. with_head (head_at to h) x ∷ below) i

pub each_has_no_value : (each : Each) → value_of (each_of each) ≡ filler
each_has_no_value (e.Items array next) = refl
each_has_no_value (e.Keys keys) = refl

-- ---- operands

split : (k n : ℕ) (ops : List Operand) → all_operand_references k ops ≡ all_operand_references k (take n ops) + all_operand_references k (drop n ops)
split k zero [] = refl
split k zero (o ∷ ops) = omega arith
split k (suc n) [] = refl
split k (suc n) (o ∷ ops) = let e = split k n ops in omega arith

pub dropped_holds : (k n to : ℕ) (frames : List Frame) → call_references k frames ≡ all_operand_references k (take n (operands_of frames)) + call_references k (changed (dropped n to) frames)
dropped_holds k zero to [] = refl
dropped_holds k (suc n) to [] = refl
dropped_holds k n to (x ∷ below) = let e = split k n x.operands in omega arith

pub pushed_holds : (k : ℕ) (v : Value) (to : ℕ) (frames : List Frame) → 0 < length frames → call_references k (changed (pushed v to) frames) ≡ occurrence k v + call_references k frames
pushed_holds k v to [] p = absurd (omega arith)
pushed_holds k v to (x ∷ below) p = omega arith

pub first_holds : (k : ℕ) (o : Operand) (frames rest : List Frame) → operands_of frames ≡ o ∷ operands_of rest → rest ≡ changed (without_operands 1) frames → call_references k frames ≡ operand_references k o + call_references k rest
first_holds k o [] rest e r = absurd cc
first_holds k o (x ∷ below) rest e r =
    let a : all_operand_references k x.operands ≡ operand_references k o + all_operand_references k (operands_of rest) = ap (all_operand_references k) e in
    let b : all_operand_references k (operands_of rest) ≡ all_operand_references k (drop 1 x.operands) = ap (λ l. all_operand_references k (operands_of l)) r in
    let c : call_references k rest ≡ call_references k (without_operands 1 x ∷ below) = ap (call_references k) r in
    omega arith

-- ---- slots

slot_sets : (k n : ℕ) (v : Value) (slots : Slots) → n < length slots → slot_references k (slice_set slots n (Some v)) + slot_reference k (slot_value slots n) ≡ slot_references k slots + occurrence k v
slot_sets k n v [] p = absurd (omega arith)
slot_sets k zero v (None ∷ slots) p = omega arith
slot_sets k zero v (Some w ∷ slots) p = omega arith
slot_sets k (suc n) v (None ∷ slots) p = let e = slot_sets k n v slots (omega arith) in omega arith
slot_sets k (suc n) v (Some w ∷ slots) p = let e = slot_sets k n v slots (omega arith) in omega arith

pub slot_holds : (k n : ℕ) (v : Value) (frames : List Frame) → n < length (slots_of frames) → call_references k (changed (with_slot n v) frames) + slot_reference k (slot_value (slots_of frames) n) ≡ call_references k frames + occurrence k v
slot_holds k n v [] p = absurd (omega arith)
slot_holds k n v (x ∷ below) p = let e = slot_sets k n v x.slots p in omega arith

among_slots : (k n : ℕ) (v : Value) (slots : Slots) → slot_value slots n ≡ Some v → occurrence k v ≤ slot_references k slots
among_slots k n v [] e = absurd cc
among_slots k zero v (None ∷ slots) e = absurd cc
among_slots k zero v (Some w ∷ slots) e = let q : w ≡ v = cc in let y : occurrence k w ≡ occurrence k v = ap (occurrence k) q in omega arith
among_slots k (suc n) v (None ∷ slots) e = let y = among_slots k n v slots e in omega arith
among_slots k (suc n) v (Some w ∷ slots) e = let y = among_slots k n v slots e in omega arith

pub slot_held : (n : ℕ) (v : Value) (frames : List Frame) → slot_value (slots_of frames) n ≡ Some v → (k : ℕ) → occurrence k v ≤ call_references k frames
slot_held n v [] e k = absurd cc
slot_held n v (x ∷ below) e k = let y = among_slots k n v x.slots e in omega arith

pub m_held : (v : Value) (frames : List Frame) → 0 < length frames → IfSome (innermost frames) (λ frame. v ≡ frame.m) → (k : ℕ) → occurrence k v ≤ call_references k frames
m_held v [] p i k = absurd (omega arith)
m_held v (x ∷ below) p i k = let y : occurrence k v ≡ occurrence k x.m = ap (occurrence k) i in omega arith
