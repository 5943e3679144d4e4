-- What a name reads as where its slot is unset.
use Rattle.std.proofs.Common.{◌≡◌, ℕ, zero, suc, ◌<◌, List, [], ◌∷◌, length, map, Option, Some, None, refl, sym, ap, ◌∙◌, arith}
use Rattle.std.specs.Prelude.{true, false, slice_get}
use Rattle.std.specs.Option.{option_map}
use Rattle.chan_values.specs.declared.error_code.ErrorCode.TheVariants.{E1}
use Rattle.heap_meaning.specs.declared.plain.Plain.TheVariants as p
use Rattle.heap_meaning.specs.Values.{Value, Direct, StoreValue, Scalar}
use Rattle.heap_meaning.specs.Store.{Store}
use Rattle.heap_meaning.specs.Stands.{Naming, meaning}
use Rattle.heap_meaning.specs.Heap.{Heap}
use Rattle.object_operations.proofs.Answering.{gave_plain}
use Rattle.brs_grammar.specs.Form.{Text}
use Rattle.brs_code.specs.declared.function.Function.{Function}
use Rattle.brs_code.specs.declared.scope.ScopeEntry.{ScopeEntry}
use Rattle.brs_code.specs.declared.instr.Instr.TheVariants as i
use Rattle.brs_code.specs.Join.{function_count}
use Rattle.brs_meaning.specs.Locals as l
use Rattle.brs_meaning.specs.Names.{found}
use Rattle.brs_meaning.specs.Reduction.{home_of}
use Rattle.machine_meaning.specs.Image.{Image, among_entries, number_among, in_scope, scoped, built_in_number}
use Rattle.machine_meaning.specs.Frame as mm
use Rattle.machine_meaning.specs.Setting.{Setting, gives, function_named, slot_reads}
use Rattle.machine_meaning.specs.Stepping.{setting_of}
use Rattle.frame_stack.specs.Frame.{Frame, slots_of, slot_value, changed}
use Rattle.frame_actions.specs.Actions.{pushed}
use Rattle.actor_meaning.specs.View.{Home, home_meaning, held, ActorIs}
use Rattle.actor_meaning.specs.Performed.{working}
use Rattle.actor_meaning.proofs.Moves.{slot_seen}
use Rattle.moving_instructions.specs.Behind.{IsBehind}
use Rattle.moving_instructions.specs.Choices.{LoadPerformed}
use Rattle.instruction_effects.specs.Effects.{Does}
use Rattle.instruction_effects.specs.declared.effect.Effect.TheVariants as effect
use Rattle.constant_instructions.specs.Reading.{or_number, function_number, scope_in, entries_in, ReadsNames}
use Rattle.constant_instructions.proofs.Giving.{GivesWhere, pushed_where}
use Rattle.constant_instructions.proofs.Pushing.{function_seen}

-- ---- the scope of a home

scope_meant : (name : Naming) (own : List Home) (k : ℕ) → (home_of (map (home_meaning name) own) k).scope ≡ scope_in (slice_get own k)
scope_meant name [] k = refl
scope_meant name (h ∷ own) zero = refl
scope_meant name (h ∷ own) (suc k) = scope_meant name own k

entries_meant : (o : Option (List ScopeEntry)) (x : Text) → in_scope o x ≡ among_entries (entries_in o) x
entries_meant None x = refl
entries_meant (Some entries) x = refl

-- ---- the function of a name

abbrev as_value : Option ℕ → Option StoreValue
as_value (Some n) = Some (Scalar (p.Function n))
as_value None = None

either_value : (a b : Option ℕ) → elim a as (λ z. Option StoreValue) [ Some n ↦ Some (Scalar (p.Function n)) | None ↦ elim b as (λ z. Option StoreValue) [ Some n ↦ Some (Scalar (p.Function n)) | None ↦ None ] ] ≡ as_value (or_number a b)
either_value (Some n) b = refl
either_value None (Some n) = refl
either_value None None = refl

named_value : (s : Setting) (entries : List ScopeEntry) (built_ins : List Text) (functions : ℕ) (x : Text) → scoped s.image s.scope x ≡ among_entries entries x → built_in_number s.image x ≡ number_among built_ins x functions
    → function_named s (Some x) ≡ as_value (function_number entries built_ins functions x)
named_value s entries built_ins functions x a b =
    either_value (scoped s.image s.scope x) (built_in_number s.image x)
    ∙ ap (λ o. as_value (or_number o (built_in_number s.image x))) a
    ∙ ap (λ o. as_value (or_number (among_entries entries x) o)) b

-- what a slot reads as, by what it holds
abbrev slot_or_name : Setting → ℕ → Option StoreValue → Option StoreValue
slot_or_name s n None = function_named s (slice_get s.frame.function.names n)
slot_or_name s n (Some v) = Some v

slot_is : (s : Setting) (n : ℕ) (o : Option StoreValue) → elim o as (λ z. Option StoreValue) [ Some v ↦ Some v | None ↦ function_named s (slice_get s.frame.function.names n) ] ≡ slot_or_name s n o
slot_is s n None = refl
slot_is s n (Some v) = refl

module _ (f : Function) (entries : List ScopeEntry) (built_ins : List Text) (functions slot : ℕ) (t : Text) (heap : Heap) (x : Frame) (below : List Frame) (text : slice_get f.names slot ≡ Some t) (unset : slot_value x.slots slot ≡ None) where
  reads : (image : Image) (number : ℕ) (own : List Home) → ReadsNames f entries built_ins functions (x ∷ below) image number own
      → (name : Naming) (homes : List l.Home) (frame : mm.Frame) (waiting : List mm.Suspended) (store : Store) → ActorIs image name heap (working number own (x ∷ below)) homes (mm.Works frame waiting) store
      → slot_reads (setting_of image number homes frame) slot ≡ as_value (function_number entries built_ins functions t)
  reads image number own c name homes frame waiting store seen =
      let s : Setting = setting_of image number homes frame in
      let same : frame.function ≡ f = function_seen image name x frame f seen.machine_is.0 c.runs in
      let home : frame.home ≡ x.head.home = ap (λ (y : mm.Frame). y.home) seen.machine_is.0.is in
      let scope : s.scope ≡ scope_in (slice_get own x.head.home) =
      ap (λ hs. (home_of hs frame.home).scope) seen.homes_are ∙ ap (λ k. (home_of (map (home_meaning name) own) k).scope) home ∙ scope_meant name own x.head.home in
      let in_home : scoped image s.scope t ≡ among_entries entries t =
      ap (λ k. scoped image k t) scope ∙ entries_meant (slice_get image.code.scopes (scope_in (slice_get own x.head.home))) t ∙ ap (λ es. among_entries es t) (sym c.scope) in
      let of_all : built_in_number image t ≡ number_among built_ins t functions = ap (λ names. number_among names t (function_count image.code)) (sym c.built_in) ∙ ap (number_among built_ins t) (sym c.count) in
      slot_is s slot (mm.slot_value frame.slots slot)
      ∙ ap (slot_or_name s slot) (slot_seen image name x frame slot seen.machine_is.0 ∙ ap (option_map (meaning name)) unset)
      ∙ ap (λ (g : Function). function_named s (slice_get g.names slot)) same
      ∙ ap (function_named s) text
      ∙ named_value s entries built_ins functions t in_home of_all

  named_given : (n : ℕ) → function_number entries built_ins functions t ≡ Some n → GivesWhere (ReadsNames f entries built_ins functions (x ∷ below)) heap heap (x ∷ below) (i.Load slot) 0 (Direct (p.Function n))
  named_given n is = λ image number own c name homes frame waiting store seen. record {
    value = Scalar (p.Function n);
    after = store;
    gave = gave_plain name heap store (held (working number own (x ∷ below))) (p.Function n) seen.stands;
    acts = ap (λ o. gives (setting_of image number homes frame) (found o store)) (reads image number own c name homes frame waiting store seen ∙ ap as_value is);
  }

  pub nothing_named : (line : ℕ) → function_number entries built_ins functions t ≡ None → Does (ReadsNames f entries built_ins functions (x ∷ below)) line heap (x ∷ below) heap (x ∷ below) (effect.Raises E1) (i.Load slot)
  nothing_named line is = (
    (λ image number own c name homes frame waiting store seen. ap (λ o. gives (setting_of image number homes frame) (found o store)) (reads image number own c name homes frame waiting store seen ∙ ap as_value is)),
    (λ name store others s. s),
    refl,
  )

pub named_row : (f : Function) (entries : List ScopeEntry) (built_ins : List Text) (functions slot : ℕ) (t : Text) (heap : Heap) (before after : List Frame) (to n line : ℕ) → slice_get f.names slot ≡ Some t → slot_value (slots_of before) slot ≡ None
    → function_number entries built_ins functions t ≡ Some n → 0 < length before → IsBehind before to → after ≡ changed (pushed (Direct (p.Function n)) to) before
    → Does (ReadsNames f entries built_ins functions before) line heap before heap after effect.Went (i.Load slot)
named_row f entries built_ins functions slot t heap [] after to n line text unset is there behind e = absurd (omega arith)
named_row f entries built_ins functions slot t heap (x ∷ below) after to n line text unset is there behind e =
    pushed_where (ReadsNames f entries built_ins functions (x ∷ below)) heap heap (x ∷ below) after (i.Load slot) to (Direct (p.Function n)) there behind refl (named_given f entries built_ins functions slot t heap x below text unset n is) e

pub unnamed_row : (f : Function) (entries : List ScopeEntry) (built_ins : List Text) (functions slot : ℕ) (t : Text) (heap : Heap) (before : List Frame) (line : ℕ) → slice_get f.names slot ≡ Some t → slot_value (slots_of before) slot ≡ None
    → function_number entries built_ins functions t ≡ None → 0 < length before → Does (ReadsNames f entries built_ins functions before) line heap before heap before (effect.Raises E1) (i.Load slot)
unnamed_row f entries built_ins functions slot t heap [] line text unset is there = absurd (omega arith)
unnamed_row f entries built_ins functions slot t heap (x ∷ below) line text unset is there = nothing_named f entries built_ins functions slot t heap x below text unset line is

-- ---- a slot that is set

pub set_row : (f : Function) (entries : List ScopeEntry) (built_ins : List Text) (functions slot : ℕ) (held : Option Value) (old new : Heap) (before after : List Frame) (line : ℕ) → LoadPerformed held true old before new after slot
    → Does (ReadsNames f entries built_ins functions before) line old before new after effect.Went (i.Load slot)
set_row f entries built_ins functions slot None old new before after line h = absurd (let e : true ≡ false = h.0 in cc)
set_row f entries built_ins functions slot (Some v) old new before after line h = λ image number own line operands c. h.1 image number own line operands

-- what is known where it wasn't set
pub record Unset (held : Option Value) (old : Heap) (before : List Frame) (new : Heap) (after : List Frame) : Type 0 where
  pub unset : held ≡ None
  pub heap : new ≡ old
  pub frames : after ≡ before

pub not_set : (held : Option Value) (old new : Heap) (before after : List Frame) (slot : ℕ) → LoadPerformed held false old before new after slot → Unset held old before new after
not_set None old new before after slot h = record { unset = refl; heap = h.1; frames = h.2 }
not_set (Some v) old new before after slot h = absurd (let e : false ≡ true = h.0 in cc)
