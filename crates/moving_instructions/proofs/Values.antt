-- Instructions that put a value on the operands, or take one into a slot.
use Rattle.std.proofs.Common.{◌≡◌, ℕ, ◌+◌, ◌<◌, List, [], ◌∷◌, length, take, drop, map, Option, Some, None, refl, sym, ap, ◌∙◌, subst, arith}
use Rattle.std.specs.Prelude.{Bool, IfSome, slice_get}
use Rattle.std.specs.Option.{option_map}
use Rattle.heap_meaning.specs.declared.plain.Plain.{Plain}
use Rattle.heap_meaning.specs.Values.{Value, Direct, StoreValue, Scalar}
use Rattle.heap_meaning.specs.Store.{Store}
use Rattle.heap_meaning.specs.Stands.{Naming, meaning}
use Rattle.heap_meaning.specs.Heap.{Heap}
use Rattle.brs_code.specs.declared.instr.Instr.{Instr}
use Rattle.brs_code.specs.declared.instr.Instr.TheVariants as i
use Rattle.brs_code.specs.Instruction.{pops}
use Rattle.brs_meaning.specs.Given.{Gives}
use Rattle.brs_meaning.specs.Names.{found}
use Rattle.machine_meaning.specs.Image.{Image}
use Rattle.machine_meaning.specs.Frame as mm
use Rattle.machine_meaning.specs.Acted.{Goes}
use Rattle.machine_meaning.specs.Setting.{Setting, gives, function_named}
use Rattle.machine_meaning.specs.Statements.{set_slot}
use Rattle.machine_meaning.specs.Instructions.{acted}
use Rattle.machine_meaning.specs.Stepping.{setting_of}
use Rattle.frame_stack.specs.Operand.{Operand, Holds, values}
use Rattle.frame_stack.specs.Frame.{Frame, with_operand, without_operands, with_slot, slot_value, innermost, operands_of, slots_of, changed}
use Rattle.call_release.specs.References.{call_references}
use Rattle.frame_actions.specs.Actions.{pushed, last_value, stored, Loaded, Carries}
use Rattle.frame_actions.proofs.Holding.{pushed_holds}
use Rattle.frame_actions.proofs.Moving.{operand_there}
use Rattle.actor_meaning.specs.declared.outcome.Outcome.TheVariants.{Went}
use Rattle.actor_meaning.specs.View.{FrameIs}
use Rattle.actor_meaning.specs.Performed.{Performed}
use Rattle.actor_meaning.proofs.Moves.{place_seen, m_seen, values_seen, slot_seen, operand_more, operands_fewer, slot_more, place_moved}
use Rattle.moving_instructions.specs.Behind.{IsBehind}
use Rattle.moving_instructions.specs.Choices.{PushesPlain, LoadPerformed}
use Rattle.moving_instructions.proofs.Going.{GoesOn, performs, behind_of, operands_in, slots_in, carries_same}

-- ---- values that are pushed

pub pushed_seen : (image : Image) (name : Naming) (x : Frame) (frame : mm.Frame) (v : Value) (to : ℕ) → FrameIs image name x frame
    → FrameIs image name (pushed v to x) (record frame { place = to; operands = mm.Holds (meaning name v) ∷ frame.operands; slots = frame.slots })
pushed_seen image name x frame v to f = place_moved image name (with_operand (Holds v) x) (mm.with_operands (mm.Holds (meaning name v) ∷ frame.operands) frame) to (operand_more image name x frame (Holds v) f)

-- a value that goes on the operands, and leads to the place behind
pub passes_to : (frame : mm.Frame) (store : Store) (v w : StoreValue) (to : ℕ) → v ≡ w → frame.place + 1 ≡ to → Goes frame.slots store (mm.Holds v ∷ []) (frame.place + 1) ≡ Goes frame.slots store (mm.Holds w ∷ []) to
passes_to frame store v w to e p = ap (λ u. Goes frame.slots store (mm.Holds u ∷ []) (frame.place + 1)) e ∙ ap (λ q. Goes frame.slots store (mm.Holds w ∷ []) q) p

-- an instruction that gives this plain value
abbrev pub GivesPlain : Instr → Plain → Type 0
GivesPlain instr plain = (s : Setting) (store : Store) → acted s instr [] store ≡ gives s (Gives (Scalar plain) store)

plain_goes : (instr : Instr) (plain : Plain) (x : Frame) (to : ℕ) → pops instr ≡ 0 → GivesPlain instr plain → to ≡ x.head.place + 1 → GoesOn instr x (pushed (Direct plain) to x)
plain_goes instr plain x to unpopped given behind = λ image number name homes frame store f. record {
  slots = frame.slots;
  back = mm.Holds (Scalar plain) ∷ [];
  to = to;
  acts =
      ap (λ n. acted (setting_of image number homes frame) instr (take n frame.operands) store) unpopped
      ∙ given (setting_of image number homes frame) store
      ∙ passes_to frame store (Scalar plain) (Scalar plain) to refl (place_seen image name x frame to f behind);
  seen =
      subst (λ n. FrameIs image name (pushed (Direct plain) to x) (record frame { place = to; operands = mm.Holds (Scalar plain) ∷ drop n frame.operands; slots = frame.slots })) (sym unpopped)
      (pushed_seen image name x frame (Direct plain) to f);
}

carries_plain : (heap : Heap) (before after : List Frame) (plain : Plain) (to : ℕ) → 0 < length before → after ≡ changed (pushed (Direct plain) to) before → Carries heap before heap after
carries_plain heap before after plain to there e =
    carries_same heap before after (λ k. let y = pushed_holds k (Direct plain) to before there in let z : call_references k after ≡ call_references k (changed (pushed (Direct plain) to) before) = ap (call_references k) e in omega arith)

pub plain_pushed : (before after : List Frame) (plain : Plain) (to : ℕ) → IsBehind before to → after ≡ changed (pushed (Direct plain) to) before → PushesPlain plain before after
plain_pushed [] after plain to behind e = tt
plain_pushed (x ∷ below) after plain to behind e = e ∙ ap (λ p. pushed (Direct plain) p x ∷ below) behind

pub plain_row : (heap : Heap) (before after : List Frame) (instr : Instr) (plain : Plain) → 0 < length before → pops instr ≡ 0 → GivesPlain instr plain → PushesPlain plain before after → Performed heap before heap after Went instr
plain_row heap [] after instr plain there unpopped given e = absurd (omega arith)
plain_row heap (x ∷ below) after instr plain there unpopped given e =
    performs heap heap (x ∷ below) after (pushed (Direct plain) (x.head.place + 1)) instr there (λ y is. plain_goes instr plain y (x.head.place + 1) unpopped given (behind_of (x ∷ below) y (x.head.place + 1) refl is))
    (carries_plain heap (x ∷ below) after plain (x.head.place + 1) there e) e

pub load_m_row : (old new : Heap) (before after : List Frame) (to : ℕ) → 0 < length before → IsBehind before to → Carries old before new after → IfSome (innermost before) (λ x. after ≡ changed (pushed x.m to) before) → Performed old before new after Went i.LoadM
load_m_row old new [] after to there behind carries e = absurd (omega arith)
load_m_row old new (x ∷ below) after to there behind carries e = performs old new (x ∷ below) after (λ y. pushed y.m to y) i.LoadM there
    (λ y is image number name homes frame store f. record {
      slots = frame.slots;
      back = mm.Holds (meaning name y.m) ∷ [];
      to = to;
      acts = passes_to frame store frame.m (meaning name y.m) to (m_seen image name y frame f) (place_seen image name y frame to f (behind_of (x ∷ below) y to behind is));
      seen = pushed_seen image name y frame y.m to f;
    })
    carries e

-- what a slot reads as, by what it holds
abbrev reads : Setting → ℕ → Option StoreValue → Option StoreValue
reads s n held = elim held as (λ z. Option StoreValue) [ Some v ↦ Some v | None ↦ function_named s (slice_get s.frame.function.names n) ]

held_goes : (n to : ℕ) (v : Value) (x : Frame) → slot_value x.slots n ≡ Some v → to ≡ x.head.place + 1 → GoesOn (i.Load n) x (pushed v to x)
held_goes n to v x held behind = λ image number name homes frame store f. record {
  slots = frame.slots;
  back = mm.Holds (meaning name v) ∷ [];
  to = to;
  acts =
      ap (λ o. gives (setting_of image number homes frame) (found (reads (setting_of image number homes frame) n o) store)) (slot_seen image name x frame n f ∙ ap (option_map (meaning name)) held)
      ∙ passes_to frame store (meaning name v) (meaning name v) to refl (place_seen image name x frame to f behind);
  seen = pushed_seen image name x frame v to f;
}

pub load_row : (old new : Heap) (before after : List Frame) (n to : ℕ) (held : Option Value) (is_set : Bool) → 0 < length before → IsBehind before to → slot_value (slots_of before) n ≡ held → Loaded held to is_set old before new after
    → LoadPerformed held is_set old before new after n
load_row old new before after n to None is_set there behind held loaded = loaded
load_row old new before after n to (Some v) is_set there behind held loaded =
    (loaded.0, performs old new before after (pushed v to) (i.Load n) there (λ x is. held_goes n to v x (ap (λ l. slot_value l n) (sym (slots_in before x is)) ∙ held) (behind_of before x to behind is)) loaded.2 loaded.1)

-- ---- values that are stored

first_value : (m : Value → StoreValue) (operands : List Operand) → 0 < length operands → map m (take 1 (values operands)) ≡ m (last_value operands) ∷ []
first_value m [] there = absurd (omega arith)
first_value m (o ∷ operands) there = refl

-- the value of the last operand
pub last_seen : (image : Image) (name : Naming) (x : Frame) (frame : mm.Frame) → FrameIs image name x frame → 0 < length x.operands → mm.values (take 1 frame.operands) ≡ meaning name (last_value x.operands) ∷ []
last_seen image name x frame f there = values_seen image name x frame 1 f ∙ first_value (meaning name) x.operands there

pub store_row : (old new : Heap) (before after : List Frame) (n to : ℕ) → 0 < length (operands_of before) → IsBehind before to → Carries old before new after → after ≡ changed (stored n to) before → Performed old before new after Went (i.Store n)
store_row old new before after n to there behind carries e = performs old new before after (stored n to) (i.Store n) (operand_there before there)
    (λ x is image number name homes frame store f.
    let v : Value = last_value x.operands in
    let slots : mm.Slots = mm.with_slot n (meaning name v) frame.slots in
    let set : mm.Frame = record frame { slots = slots } in
    let p : frame.place + 1 ≡ to = place_seen image name x frame to f (behind_of before x to behind is) in
    record {
      slots = slots;
      back = [];
      to = to;
      acts = ap (λ vs. set_slot (setting_of image number homes frame) n vs store) (last_seen image name x frame f (subst (λ (l : List Operand). 0 < length l) (operands_in before x is) there)) ∙ ap (λ q. Goes slots store [] q) p;
      seen =
          place_moved image name (without_operands 1 (with_slot n v x)) (mm.with_operands (drop 1 frame.operands) set) to
          (operands_fewer image name (with_slot n v x) set 1 (slot_more image name x frame n v f));
    })
    carries e
