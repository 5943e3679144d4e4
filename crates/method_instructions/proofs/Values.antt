-- The values that a call takes, in the order in which they were pushed.
use Rattle.std.proofs.Common.{◌≡◌, ℕ, suc, ◌+◌, ◌<◌, List, [], ◌∷◌, length, reverse, take, map, sym, ap, ◌∙◌, arith}
use Rattle.std.proofs.lemmas.List.{reverse-reverse, reverse-append}
use Rattle.std.proofs.Math.Seq.{take-suc}
use Rattle.heap_meaning.specs.Values.{Value, filler}
use Rattle.heap_meaning.specs.Stands.{Naming, meaning}
use Rattle.heap_meaning.proofs.Lists.{map_length}
use Rattle.object_operations.specs.Applies.{AreOut}
use Rattle.machine_meaning.specs.Image.{Image}
use Rattle.machine_meaning.specs.Frame as mm
use Rattle.frame_stack.specs.Operand.{value_of, values}
use Rattle.frame_stack.specs.Frame.{Frame, operands_of}
use Rattle.actor_meaning.specs.View.{Home, held, FrameIs}
use Rattle.actor_meaning.specs.Performed.{working}
use Rattle.operator_instructions.proofs.Arguments.{arguments_out, arguments_seen}
use Rattle.method_instructions.specs.Callees.{last_values, callee}

turned_back : (n : ℕ) (frames : List Frame) → reverse (last_values n frames) ≡ take n (values (operands_of frames))
turned_back n frames = reverse-reverse (take n (values (operands_of frames)))

-- what a stack hands out as its last values
pub in_order : (arguments : List Value) (n : ℕ) (frames : List Frame) → reverse arguments ≡ take n (values (operands_of frames)) → arguments ≡ last_values n frames
in_order arguments n frames e = sym (reverse-reverse arguments) ∙ ap reverse e

-- the value that the arguments are given to stands before them
pub callee_first : (count : ℕ) (frames : List Frame) → count < length (operands_of frames) → last_values (count + 1) frames ≡ callee count frames ∷ last_values count frames
callee_first count frames there =
    let l = map_length value_of (operands_of frames) in
    let e : count + 1 ≡ suc count = omega arith in
    ap (λ n. last_values n frames) e
    ∙ ap reverse (take-suc (values (operands_of frames)) count filler (omega arith))
    ∙ reverse-append (take count (values (operands_of frames))) (callee count frames ∷ [])

-- what a call holds is out
pub values_out : (number : ℕ) (own : List Home) (frames : List Frame) (n : ℕ) → AreOut (last_values n frames) (held (working number own frames))
values_out number own frames n = λ k. let y = arguments_out (last_values n frames) frames n (turned_back n frames) k in omega arith

pub callee_out : (number : ℕ) (own : List Home) (frames : List Frame) (count : ℕ) → count < length (operands_of frames) → AreOut (callee count frames ∷ []) (held (working number own frames))
callee_out number own frames count there = λ k.
    let y = arguments_out (callee count frames ∷ last_values count frames) frames (count + 1) (ap reverse (sym (callee_first count frames there)) ∙ turned_back (count + 1) frames) k in
    omega arith

-- they are seen as the machine's last operands
pub last_seen : (image : Image) (name : Naming) (x : Frame) (below : List Frame) (frame : mm.Frame) (n : ℕ) → FrameIs image name x frame → reverse (mm.values (take n frame.operands)) ≡ map (meaning name) (last_values n (x ∷ below))
last_seen image name x below frame n f = arguments_seen image name x frame n (last_values n (x ∷ below)) f (turned_back n (x ∷ below))

pub call_seen : (image : Image) (name : Naming) (x : Frame) (below : List Frame) (frame : mm.Frame) (count : ℕ) → FrameIs image name x frame → count < length x.operands
    → reverse (mm.values (take (count + 1) frame.operands)) ≡ meaning name (callee count (x ∷ below)) ∷ map (meaning name) (last_values count (x ∷ below))
call_seen image name x below frame count f there = last_seen image name x below frame (count + 1) f ∙ ap (map (meaning name)) (callee_first count (x ∷ below) there)
