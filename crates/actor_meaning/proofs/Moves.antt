-- What the innermost call is seen as, and what a change of it is in the machine.
use Rattle.std.proofs.Common.{◌≡◌, ℕ, zero, suc, ◌+◌, List, [], ◌∷◌, ◌++◌, length, take, drop, map, Some, None, refl, sym, ap, ◌∙◌, subst, arith}
use Rattle.std.specs.Option.{option_map}
use Rattle.std.specs.List.{drop-map, take-map}
use Rattle.heap_meaning.specs.Values.{Value}
use Rattle.heap_meaning.specs.Store.{Store}
use Rattle.heap_meaning.specs.Stands.{Naming, meaning}
use Rattle.heap_meaning.specs.Heap.{Heap}
use Rattle.heap_meaning.proofs.Lists.{map_set}
use Rattle.brs_meaning.specs.Locals as l
use Rattle.machine_meaning.specs.Image.{Image}
use Rattle.machine_meaning.specs.Frame as mm
use Rattle.machine_meaning.specs.Acted.{Acted, Goes}
use Rattle.machine_meaning.specs.Stepping.{carried}
use Rattle.frame_stack.specs.Operand.{Operand, Holds, Items, Keys, value_of, values}
use Rattle.frame_stack.specs.Frame.{Slots, Frame, with_operand, without_operands, with_slot, with_head, slot_value}
use Rattle.actor_meaning.specs.declared.outcome.Outcome.TheVariants.{Went}
use Rattle.actor_meaning.specs.View.{operand_meaning, slots_meaning, frame_meaning, FrameIs, Actor}
use Rattle.actor_meaning.specs.Promises.{SeenAs}
use Rattle.actor_meaning.specs.Performing.{ShownAs}

-- ---- what is seen of a call

-- the place behind the next instruction
pub place_seen : (image : Image) (name : Naming) (x : Frame) (frame : mm.Frame) (to : ℕ) → FrameIs image name x frame → to ≡ x.head.place + 1 → frame.place + 1 ≡ to
place_seen image name x frame to i e = ap (λ (f : mm.Frame). f.place + 1) i.is ∙ sym e

pub m_seen : (image : Image) (name : Naming) (x : Frame) (frame : mm.Frame) → FrameIs image name x frame → frame.m ≡ meaning name x.m
m_seen image name x frame i = ap (λ (f : mm.Frame). f.m) i.is

value_seen : (name : Naming) (o : Operand) → mm.value_of (operand_meaning name o) ≡ meaning name (value_of o)
value_seen name (Holds v) = refl
value_seen name (Items array next) = refl
value_seen name (Keys keys) = refl

all_seen : (name : Naming) (operands : List Operand) → mm.values (map (operand_meaning name) operands) ≡ map (meaning name) (values operands)
all_seen name [] = refl
all_seen name (o ∷ operands) = ap (λ v. v ∷ mm.values (map (operand_meaning name) operands)) (value_seen name o) ∙ ap (λ vs. meaning name (value_of o) ∷ vs) (all_seen name operands)

-- the values of the last operands
pub values_seen : (image : Image) (name : Naming) (x : Frame) (frame : mm.Frame) (n : ℕ) → FrameIs image name x frame → mm.values (take n frame.operands) ≡ map (meaning name) (take n (values x.operands))
values_seen image name x frame n i =
    ap (λ (f : mm.Frame). mm.values (take n f.operands)) i.is
    ∙ ap mm.values (take-map (operand_meaning name) n x.operands)
    ∙ all_seen name (take n x.operands)
    ∙ ap (map (meaning name)) (sym (take-map value_of n x.operands))

pub operands_left : (image : Image) (name : Naming) (x : Frame) (frame : mm.Frame) → FrameIs image name x frame → length frame.operands ≡ length x.operands
operands_left image name x frame i = ap (λ (f : mm.Frame). length f.operands) i.is ∙ go x.operands
  where
    go : (operands : List Operand) → length (map (operand_meaning name) operands) ≡ length operands
    go [] = refl
    go (o ∷ operands) = let e = go operands in omega arith

slot_meant : (name : Naming) (slots : Slots) (n : ℕ) → mm.slot_value (slots_meaning name slots) n ≡ option_map (meaning name) (slot_value slots n)
slot_meant name [] n = refl
slot_meant name (None ∷ slots) zero = refl
slot_meant name (Some v ∷ slots) zero = refl
slot_meant name (s ∷ slots) (suc n) = slot_meant name slots n

pub slot_seen : (image : Image) (name : Naming) (x : Frame) (frame : mm.Frame) (n : ℕ) → FrameIs image name x frame → mm.slot_value frame.slots n ≡ option_map (meaning name) (slot_value x.slots n)
slot_seen image name x frame n i = ap (λ (f : mm.Frame). mm.slot_value f.slots n) i.is ∙ slot_meant name x.slots n

-- ---- changes of a call

abbrev with_slots : mm.Slots → mm.Frame → mm.Frame
with_slots slots frame = record frame { slots = slots }

pub operand_more : (image : Image) (name : Naming) (x : Frame) (frame : mm.Frame) (o : Operand) → FrameIs image name x frame → FrameIs image name (with_operand o x) (mm.with_operands (operand_meaning name o ∷ frame.operands) frame)
operand_more image name x frame o i = record { function = i.function; path = i.path; is = ap (λ (f : mm.Frame). mm.with_operands (operand_meaning name o ∷ f.operands) f) i.is }

pub operands_fewer : (image : Image) (name : Naming) (x : Frame) (frame : mm.Frame) (n : ℕ) → FrameIs image name x frame → FrameIs image name (without_operands n x) (mm.with_operands (drop n frame.operands) frame)
operands_fewer image name x frame n i = record {
  function = i.function;
  path = i.path;
  is = ap (λ (f : mm.Frame). mm.with_operands (drop n f.operands) f) i.is ∙ ap (λ ops. mm.with_operands ops (frame_meaning name frame.function x)) (drop-map (operand_meaning name) n x.operands);
}

pub slot_more : (image : Image) (name : Naming) (x : Frame) (frame : mm.Frame) (n : ℕ) (v : Value) → FrameIs image name x frame → FrameIs image name (with_slot n v x) (with_slots (mm.with_slot n (meaning name v) frame.slots) frame)
slot_more image name x frame n v i = record {
  function = i.function;
  path = i.path;
  is = ap (λ (f : mm.Frame). with_slots (mm.with_slot n (meaning name v) f.slots) f) i.is ∙ ap (λ slots. with_slots slots (frame_meaning name frame.function x)) (sym (map_set (option_map (meaning name)) x.slots n (Some v)));
}

pub place_moved : (image : Image) (name : Naming) (x : Frame) (frame : mm.Frame) (to : ℕ) → FrameIs image name x frame → FrameIs image name (with_head (record x.head { place = to }) x) (mm.at_place to frame)
place_moved image name x frame to i = record { function = i.function; path = i.path; is = ap (mm.at_place to) i.is }

-- ---- an instruction that goes on

pub went : (image : Image) (heap : Heap) (a : Actor) (homes : List l.Home) (frame : mm.Frame) (line : ℕ) (rest : List mm.Operand) (below : List mm.Suspended) (old after : Store) (act : Acted) (slots : mm.Slots) (back : List mm.Operand) (to : ℕ)
    → act ≡ Goes slots after back to → SeenAs image heap a homes (mm.Works (record frame { place = to; operands = back ++ rest; slots = slots }) below) after
    → ShownAs image heap a Went homes (carried act homes frame line rest below old)
went image heap a homes frame line rest below old after act slots back to e seen = subst (λ act. ShownAs image heap a Went homes (carried act homes frame line rest below old)) (sym e) (tt, seen)
