-- Texts and anonymous functions as constants.
use Rattle.std.proofs.Common.{◌≡◌, ℕ, ◌+◌, ◌<◌, List, [], ◌∷◌, length, Some, refl, sym, ap, ◌∙◌, arith}
use Rattle.std.specs.Prelude.{slice_get}
use Rattle.heap_meaning.specs.declared.plain.Plain.TheVariants as p
use Rattle.heap_meaning.specs.Values.{Value, Direct, Scalar, Words}
use Rattle.heap_meaning.specs.Stands.{Naming}
use Rattle.heap_meaning.specs.Heap.{Heap, MakesText}
use Rattle.object_operations.proofs.Answering.{gave_plain, gave_text}
use Rattle.brs_grammar.specs.Form.{Text}
use Rattle.brs_code.specs.declared.function.Function.{Function}
use Rattle.brs_code.specs.declared.instr.Instr.TheVariants as i
use Rattle.brs_meaning.specs.Given.{Gives}
use Rattle.machine_meaning.specs.Image.{Image, function_at, anonymous_number}
use Rattle.machine_meaning.specs.Frame as mm
use Rattle.machine_meaning.specs.Setting.{gives, with_text}
use Rattle.machine_meaning.specs.Stepping.{setting_of}
use Rattle.frame_stack.specs.Frame.{Frame, changed}
use Rattle.frame_actions.specs.Actions.{pushed}
use Rattle.actor_meaning.specs.declared.outcome.Outcome.TheVariants.{Went}
use Rattle.actor_meaning.specs.View.{FrameIs, held}
use Rattle.actor_meaning.specs.Performed.{working}
use Rattle.moving_instructions.specs.Behind.{IsBehind}
use Rattle.instruction_effects.specs.Effects.{Runs, PerformedWhere}
use Rattle.constant_instructions.specs.Reading.{RunsBehind}
use Rattle.constant_instructions.proofs.Giving.{GivesWhere, pushed_where}

-- the function that the call runs is the one that it is seen with
pub function_seen : (image : Image) (name : Naming) (x : Frame) (frame : mm.Frame) (f : Function) → FrameIs image name x frame → function_at image x.head.function ≡ Some f → frame.function ≡ f
function_seen image name x frame f seen runs = let e : Some frame.function ≡ Some f = sym seen.function ∙ runs in cc

-- ---- a text

text_given : (f : Function) (n : ℕ) (t : Text) (old mid : Heap) (x : Frame) (below : List Frame) (v : Value) → slice_get f.texts n ≡ Some t → MakesText old mid v t → GivesWhere (Runs f (x ∷ below)) old mid (x ∷ below) (i.Text n) 0 v
text_given f n t old mid x below v there made = λ image number own runs name homes frame waiting store seen. record {
  value = Words t;
  after = store;
  gave = gave_text name old mid store (held (working number own (x ∷ below))) v t seen.stands made;
  acts =
      ap (λ o. with_text o (λ u. gives (setting_of image number homes frame) (Gives (Words u) store)))
      (ap (λ (g : Function). slice_get g.texts n) (function_seen image name x frame f seen.machine_is.0 runs) ∙ there);
}

pub text_row : (f : Function) (n : ℕ) (t : Text) (old mid : Heap) (before after : List Frame) (to : ℕ) (v : Value) → 0 < length before → IsBehind before to → slice_get f.texts n ≡ Some t → MakesText old mid v t
    → after ≡ changed (pushed v to) before → PerformedWhere (Runs f before) old before mid after Went (i.Text n)
text_row f n t old mid [] after to v there behind text made e = absurd (omega arith)
text_row f n t old mid (x ∷ below) after to v there behind text made e = pushed_where (Runs f (x ∷ below)) old mid (x ∷ below) after (i.Text n) to v there behind refl (text_given f n t old mid x below v text made) e

-- ---- an anonymous function

function_given : (f : Function) (named n k : ℕ) (heap : Heap) (x : Frame) (below : List Frame) → k ≡ named + (f.first + n) → GivesWhere (RunsBehind named f (x ∷ below)) heap heap (x ∷ below) (i.Function n) 0 (Direct (p.Function k))
function_given f named n k heap x below is = λ image number own c name homes frame waiting store seen. record {
  value = Scalar (p.Function k);
  after = store;
  gave = gave_plain name heap store (held (working number own (x ∷ below))) (p.Function k) seen.stands;
  acts =
      ap (λ j. gives (setting_of image number homes frame) (Gives (Scalar (p.Function j)) store))
      (ap (λ (g : Function). anonymous_number image g n) (function_seen image name x frame f seen.machine_is.0 c.runs) ∙ ap (λ m. m + (f.first + n)) (sym c.behind) ∙ sym is);
}

pub function_row : (f : Function) (named n k : ℕ) (heap : Heap) (before after : List Frame) (to : ℕ) → 0 < length before → IsBehind before to → k ≡ named + (f.first + n) → after ≡ changed (pushed (Direct (p.Function k)) to) before
    → PerformedWhere (RunsBehind named f before) heap before heap after Went (i.Function n)
function_row f named n k heap [] after to there behind is e = absurd (omega arith)
function_row f named n k heap (x ∷ below) after to there behind is e =
    pushed_where (RunsBehind named f (x ∷ below)) heap heap (x ∷ below) after (i.Function n) to (Direct (p.Function k)) there behind refl (function_given f named n k heap x below is) e
