-- The last operands as the arguments of an operation.
use Rattle.std.proofs.Common.{◌≡◌, ℕ, zero, suc, ◌+◌, ◌≤◌, List, [], ◌∷◌, length, reverse, take, map, refl, sym, ap, ◌∙◌, arith}
use mathlib.Core.List.{reverse_aux}
use Rattle.std.proofs.lemmas.List.{reverse-reverse, length-take-le}
use Rattle.heap_meaning.specs.Values.{Value, StoreValue}
use Rattle.heap_meaning.specs.Cells.{occurrences}
use Rattle.heap_meaning.specs.Stands.{Naming, meaning}
use Rattle.machine_meaning.specs.Image.{Image}
use Rattle.machine_meaning.specs.Frame as mm
use Rattle.frame_stack.specs.Operand.{Operand, Holds, Items, Keys, values}
use Rattle.frame_stack.specs.Frame.{Frame, operands_of}
use Rattle.call_release.specs.References.{all_operand_references, call_references}
use Rattle.actor_meaning.specs.View.{FrameIs}
use Rattle.actor_meaning.proofs.Moves.{values_seen, operands_left}

-- ---- they are out

occurrences_onto : (k : ℕ) (xs ys : List Value) → occurrences k (reverse_aux xs ys) ≡ occurrences k xs + occurrences k ys
occurrences_onto k [] ys = omega arith
occurrences_onto k (x ∷ xs) ys = let e = occurrences_onto k xs (x ∷ ys) in omega arith

taken_occur : (k n : ℕ) (operands : List Operand) → occurrences k (take n (values operands)) ≤ all_operand_references k operands
taken_occur k zero [] = omega arith
taken_occur k zero (o ∷ operands) = omega arith
taken_occur k (suc n) [] = omega arith
taken_occur k (suc n) (Holds v ∷ operands) = let e = taken_occur k n operands in omega arith
taken_occur k (suc n) (Items array next ∷ operands) = let e = taken_occur k n operands in omega arith
taken_occur k (suc n) (Keys keys ∷ operands) = let e = taken_occur k n operands in omega arith

operands_occur : (k : ℕ) (frames : List Frame) → all_operand_references k (operands_of frames) ≤ call_references k frames
operands_occur k [] = omega arith
operands_occur k (x ∷ below) = omega arith

pub arguments_out : (arguments : List Value) (frames : List Frame) (n : ℕ) → reverse arguments ≡ take n (values (operands_of frames)) → (k : ℕ) → occurrences k arguments ≤ call_references k frames
arguments_out arguments frames n e k =
    let a = occurrences_onto k arguments [] in
    let b : occurrences k (reverse_aux arguments []) ≡ occurrences k (take n (values (operands_of frames))) = ap (occurrences k) e in
    let c = taken_occur k n (operands_of frames) in
    let d = operands_occur k frames in
    omega arith

-- ---- they are seen as the machine's last operands

map_onto : (m : Value → StoreValue) (xs ys : List Value) → map m (reverse_aux xs ys) ≡ reverse_aux (map m xs) (map m ys)
map_onto m [] ys = refl
map_onto m (x ∷ xs) ys = map_onto m xs (x ∷ ys)

turned : (m : Value → StoreValue) (arguments vs : List Value) → reverse arguments ≡ vs → reverse (map m vs) ≡ map m arguments
turned m arguments vs e = ap (λ l. reverse (map m l)) (sym e) ∙ ap reverse (map_onto m arguments []) ∙ reverse-reverse (map m arguments)

pub arguments_seen : (image : Image) (name : Naming) (x : Frame) (frame : mm.Frame) (n : ℕ) (arguments : List Value) → FrameIs image name x frame → reverse arguments ≡ take n (values x.operands)
    → reverse (mm.values (take n frame.operands)) ≡ map (meaning name) arguments
arguments_seen image name x frame n arguments f e = ap reverse (values_seen image name x frame n f) ∙ turned (meaning name) arguments (take n (values x.operands)) e

pub so_many : (image : Image) (name : Naming) (x : Frame) (frame : mm.Frame) (n : ℕ) → FrameIs image name x frame → n ≤ length x.operands → length (take n frame.operands) ≡ n
so_many image name x frame n f room = let e = operands_left image name x frame f in length-take-le n frame.operands (omega arith)
