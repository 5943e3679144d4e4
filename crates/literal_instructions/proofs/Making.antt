-- Instructions that make an object of their operands.
use Rattle.std.proofs.Common.{◌≡◌, ℕ, ◌<◌, List, [], ◌∷◌, ◌++◌, length, reverse, take, drop, map, refl, sym, ap, ◌∙◌, arith}
use Rattle.chan_values.specs.Folded.{folded}
use Rattle.heap_meaning.specs.Values.{Value, Reference}
use Rattle.heap_meaning.specs.Store.{ArrayObject, MapObject}
use Rattle.heap_meaning.specs.Stands.{meaning}
use Rattle.heap_meaning.specs.Heap.{Heap}
use Rattle.object_operations.specs.Applies.{Applies, AreOut}
use Rattle.object_operations.specs.declared.applied.Applied.TheVariants as a
use Rattle.brs_grammar.specs.Form.{Text}
use Rattle.brs_code.specs.declared.function.Function.{Function}
use Rattle.brs_code.specs.declared.instr.Instr.TheVariants as i
use Rattle.brs_meaning.specs.Given.{makes}
use Rattle.brs_meaning.specs.Heads.{entries}
use Rattle.machine_meaning.specs.Frame as mm
use Rattle.machine_meaning.specs.Setting.{gives}
use Rattle.machine_meaning.specs.Stepping.{setting_of}
use Rattle.frame_stack.specs.Operand.{values}
use Rattle.frame_stack.specs.Frame.{Frame, operands_of, changed}
use Rattle.frame_actions.specs.Actions.{dropped, pushed, Carries}
use Rattle.actor_meaning.specs.declared.outcome.Outcome.TheVariants.{Went}
use Rattle.actor_meaning.specs.View.{Home, held}
use Rattle.actor_meaning.specs.Performed.{working, Performed}
use Rattle.moving_instructions.specs.Behind.{IsBehind}
use Rattle.operator_instructions.proofs.Arguments.{arguments_out, arguments_seen}
use Rattle.instruction_effects.specs.Effects.{Circumstance, PerformedWhere}
use Rattle.constant_instructions.proofs.Pushing.{function_seen}
use Rattle.constant_instructions.proofs.Giving.{GivesWhere, given_where}
use Rattle.literal_instructions.specs.Literals.{array_row, pairs_row, RunsWithKeys}

operands_out : (number : ℕ) (own : List Home) (frames : List Frame) (n : ℕ) (arguments : List Value) → reverse arguments ≡ take n (values (operands_of frames)) → AreOut arguments (held (working number own frames))
operands_out number own frames n arguments e = λ k. let y = arguments_out arguments frames n e k in omega arith

-- ---- an array

-- in any circumstance
abbrev pub anywhere : Circumstance
anywhere image number homes = Unit {0}

array_given : (old mid : Heap) (x : Frame) (below : List Frame) (n : ℕ) (arguments : List Value) (v : Value) → reverse arguments ≡ take n (values x.operands) → Applies old mid arguments (a.Value v) array_row → GivesWhere anywhere old mid (x ∷ below) (i.MakeArray n) n v
array_given old mid x below n arguments v e applies = λ image number own c name homes frame waiting store seen. record {
  value = Reference (length store);
  after = store ++ ArrayObject (map (meaning name) arguments) ∷ [];
  gave = applies.answers name store (held (working number own (x ∷ below))) seen.stands (operands_out number own (x ∷ below) n arguments e);
  acts = ap (λ vs. gives (setting_of image number homes frame) (makes (ArrayObject vs) store)) (arguments_seen image name x frame n arguments seen.machine_is.0 e);
}

pub array_row_done : (old mid new : Heap) (before after : List Frame) (n to : ℕ) (arguments : List Value) (v : Value) → 0 < length before → IsBehind before to → reverse arguments ≡ take n (values (operands_of before))
    → Applies old mid arguments (a.Value v) array_row → Carries mid before new (changed (dropped n to) before) → after ≡ changed (pushed v to) (changed (dropped n to) before) → Performed old before new after Went (i.MakeArray n)
array_row_done old mid new [] after n to arguments v there behind e applies carries is = absurd (omega arith)
array_row_done old mid new (x ∷ below) after n to arguments v there behind e applies carries is = λ image number own line operands.
    given_where anywhere old mid new (x ∷ below) (dropped n to x ∷ below) after (i.MakeArray n) n to v there behind refl (array_given old mid x below n arguments v e applies) carries refl is image number own line operands tt

-- ---- an associative array

pairs_given : (f : Function) (key n : ℕ) (keys : List Text) (old mid : Heap) (x : Frame) (below : List Frame) (arguments : List Value) (v : Value) → keys ≡ take n (drop key f.texts) → reverse arguments ≡ take n (values x.operands)
    → Applies old mid arguments (a.Value v) (pairs_row (map folded keys)) → GivesWhere (RunsWithKeys key n f (x ∷ below)) old mid (x ∷ below) (i.MakePairs key n) n v
pairs_given f key n keys old mid x below arguments v texts e applies = λ image number own c name homes frame waiting store seen.
    let same : frame.function ≡ f = function_seen image name x frame f seen.machine_is.0 c.runs in
    let keys_are : take n (drop key frame.function.texts) ≡ map folded keys = ap (λ (g : Function). take n (drop key g.texts)) same ∙ sym c.keys ∙ ap (map folded) (sym texts) in
    record {
      value = Reference (length store);
      after = store ++ MapObject (entries (map folded keys) (map (meaning name) arguments) []) ∷ [];
      gave = applies.answers name store (held (working number own (x ∷ below))) seen.stands (operands_out number own (x ∷ below) n arguments e);
      acts =
          ap (λ ks. gives (setting_of image number homes frame) (makes (MapObject (entries ks (reverse (mm.values (take n frame.operands))) [])) store)) keys_are
          ∙ ap (λ vs. gives (setting_of image number homes frame) (makes (MapObject (entries (map folded keys) vs [])) store)) (arguments_seen image name x frame n arguments seen.machine_is.0 e);
    }

pub pairs_row_done : (f : Function) (key n : ℕ) (keys : List Text) (old mid new : Heap) (before after : List Frame) (to : ℕ) (arguments : List Value) (v : Value) → 0 < length before → IsBehind before to → keys ≡ take n (drop key f.texts)
    → reverse arguments ≡ take n (values (operands_of before)) → Applies old mid arguments (a.Value v) (pairs_row (map folded keys)) → Carries mid before new (changed (dropped n to) before) → after ≡ changed (pushed v to) (changed (dropped n to) before)
    → PerformedWhere (RunsWithKeys key n f before) old before new after Went (i.MakePairs key n)
pairs_row_done f key n keys old mid new [] after to arguments v there behind texts e applies carries is = absurd (omega arith)
pairs_row_done f key n keys old mid new (x ∷ below) after to arguments v there behind texts e applies carries is =
    given_where (RunsWithKeys key n f (x ∷ below)) old mid new (x ∷ below) (dropped n to x ∷ below) after (i.MakePairs key n) n to v there behind refl (pairs_given f key n keys old mid x below arguments v texts e applies) carries refl is
