-- The rows of the instructions of calls, by what is called.
use Rattle.std.proofs.Common.{◌≡◌, ℕ, ◌+◌, ◌<◌, List, [], ◌∷◌, length, reverse, take, map, Option, Some, None, refl, sym, ap, ◌∙◌, subst, arith}
use Rattle.std.specs.Prelude.{IfSome, slice_get}
use Rattle.chan_values.specs.declared.error_code.ErrorCode.TheVariants.{E5}
use Rattle.heap_meaning.specs.Values.{StoreValue}
use Rattle.heap_meaning.specs.Store.{Store}
use Rattle.heap_meaning.specs.Stands.{Naming, meaning}
use Rattle.heap_meaning.specs.Heap.{Heap}
use Rattle.heap_meaning.specs.Reading.{plain_of}
use Rattle.brs_code.specs.declared.function.Function.{Function}
use Rattle.brs_code.specs.declared.instr.Instr.TheVariants as i
use Rattle.brs_grammar.specs.Form.{Text}
use Rattle.brs_builtins.specs.declared.operation.Operation.{Operation}
use Rattle.brs_builtins.specs.Table.{applied}
use Rattle.brs_meaning.specs.Given.{answered}
use Rattle.brs_meaning.specs.Calls.{built_in_call}
use Rattle.brs_meaning.specs.Locals as l
use Rattle.machine_meaning.specs.Image.{Image, function_at, built_in_at}
use Rattle.machine_meaning.specs.Frame as mm
use Rattle.machine_meaning.specs.Acted.{Acted, Calls, Faults}
use Rattle.machine_meaning.specs.Setting.{Setting, gives, with_text}
use Rattle.machine_meaning.specs.Calls.{called, called_with, member_called_with}
use Rattle.machine_meaning.specs.Instructions.{acted}
use Rattle.machine_meaning.specs.Stepping.{setting_of}
use Rattle.frame_stack.specs.Frame.{Frame, operands_of}
use Rattle.actor_meaning.specs.View.{Home, held, ActorIs, FrameIs}
use Rattle.actor_meaning.specs.Performed.{working}
use Rattle.instruction_effects.specs.Effects.{Runs}
use Rattle.call_decisions.specs.declared.built_in.BuiltInCall.TheVariants as b
use Rattle.call_decisions.specs.Functions.{number_of}
use Rattle.call_decisions.specs.MemberCalls.{member_called}
use Rattle.call_decisions.specs.MemberRows.{member_acts}
use Rattle.call_decisions.specs.BuiltIns.{built_in_called}
use Rattle.call_decisions.specs.CallRows.{number_acts, built_in_gives}
use Rattle.call_decisions.proofs.MemberLaws.{member_row}
use Rattle.call_decisions.proofs.CallLaws.{call_row, built_in_row}
use Rattle.method_instructions.specs.Callees.{last_values, callee}
use Rattle.method_instructions.proofs.Values.{callee_out, call_seen}

-- ---- a function's number

abbrev called_as : Setting → Option Function → Option Text → (m : Option StoreValue) → (arguments : List StoreValue) → Store → Acted
called_as s (Some f) name m arguments store = Calls f m arguments
called_as s None (Some name) m arguments store = gives s (built_in_call s.actor name arguments store)
called_as s None None m arguments store = Faults E5

called_is : (s : Setting) (k : ℕ) (m : Option StoreValue) (arguments : List StoreValue) (store : Store) → called s k m arguments store ≡ called_as s (function_at s.image k) (built_in_at s.image k) m arguments store
called_is s k m arguments store = go (function_at s.image k) (built_in_at s.image k)
  where
    go : (x : Option Function) (y : Option Text)
        → (elim x as (λ z. Acted) [ Some f ↦ Calls f m arguments | None ↦ elim y as (λ z. Acted) [ Some name ↦ gives s (built_in_call s.actor name arguments store) | None ↦ Faults E5 ] ])
        ≡ called_as s x y m arguments store
    go (Some f) y = refl
    go None (Some name) = refl
    go None None = refl

pub built_in_acts : (s : Setting) (k : ℕ) (m : Option StoreValue) (arguments : List StoreValue) (store : Store) (name : Text) (operation : Operation) → function_at s.image k ≡ None → built_in_at s.image k ≡ Some name
    → built_in_called name ≡ b.Applies operation → called s k m arguments store ≡ gives s (answered (applied operation arguments store))
built_in_acts s k m arguments store name operation none some is =
    called_is s k m arguments store
    ∙ ap (λ x. called_as s x (built_in_at s.image k) m arguments store) none
    ∙ ap (λ y. called_as s None y m arguments store) some
    ∙ ap (gives s) (built_in_row name s.actor arguments store ∙ ap (λ d. built_in_gives d s.actor arguments store) is)

pub nothing_acts : (s : Setting) (k : ℕ) (m : Option StoreValue) (arguments : List StoreValue) (store : Store) → function_at s.image k ≡ None → IfSome (built_in_at s.image k) (λ name. built_in_called name ≡ b.Nothing)
    → called s k m arguments store ≡ Faults E5
nothing_acts s k m arguments store none unknown =
    called_is s k m arguments store ∙ ap (λ x. called_as s x (built_in_at s.image k) m arguments store) none ∙ go (built_in_at s.image k) unknown
  where
    go : (y : Option Text) → IfSome y (λ name. built_in_called name ≡ b.Nothing) → called_as s None y m arguments store ≡ Faults E5
    go None u = refl
    go (Some name) u = ap (gives s) (built_in_row name s.actor arguments store ∙ ap (λ d. built_in_gives d s.actor arguments store) u)

-- ---- an instruction

module _ (image : Image) (number : ℕ) (own : List Home) (heap : Heap) (count : ℕ) (name : Naming) (homes : List l.Home) (frame : mm.Frame) (waiting : List mm.Suspended) (store : Store) where
  abbrev setting : Setting
  setting = setting_of image number homes frame

  -- what a call of the member does
  pub member_acted : (frames : List Frame) (f : Function) (n : ℕ) (k : Text) → count < length (operands_of frames) → slice_get f.texts n ≡ Some k → Runs f frames image number own → ActorIs image name heap (working number own frames) homes (mm.Works frame waiting) store
      → acted setting (i.CallMember n count) (take (count + 1) frame.operands) store
      ≡ member_acts (member_called heap (callee count frames) k) setting (meaning name (callee count frames)) k (map (meaning name) (last_values count frames)) store
  member_acted [] f n k there text runs seen = absurd (omega arith)
  member_acted (x ∷ below) f n k there text runs seen =
      let is : FrameIs image name x frame = seen.machine_is.0 in
      let both : Some f ≡ Some frame.function = sym runs ∙ is.function in
      let same : f ≡ frame.function = cc in
      let there' : slice_get frame.function.texts n ≡ Some k = subst (λ (g : Function). slice_get g.texts n ≡ Some k) same text in
      ap (λ t. with_text t (λ key. member_called_with setting key (reverse (mm.values (take (count + 1) frame.operands))) store)) there'
      ∙ ap (λ vs. member_called_with setting k vs store) (call_seen image name x below frame count is there)
      ∙ member_row heap (callee count (x ∷ below)) k name store (held (working number own (x ∷ below))) seen.stands (callee_out number own (x ∷ below) count there) setting (map (meaning name) (last_values count (x ∷ below)))

  -- what a call of the value does
  pub call_acted : (frames : List Frame) → count < length (operands_of frames) → ActorIs image name heap (working number own frames) homes (mm.Works frame waiting) store
      → acted setting (i.Call count) (take (count + 1) frame.operands) store ≡ number_acts (number_of (plain_of (callee count frames))) setting (map (meaning name) (last_values count frames)) store
  call_acted [] there seen = absurd (omega arith)
  call_acted (x ∷ below) there seen =
      ap (λ vs. called_with setting vs store) (call_seen image name x below frame count seen.machine_is.0 there)
      ∙ call_row heap (callee count (x ∷ below)) name store (held (working number own (x ∷ below))) seen.stands (callee_out number own (x ∷ below) count there) setting (map (meaning name) (last_values count (x ∷ below)))
