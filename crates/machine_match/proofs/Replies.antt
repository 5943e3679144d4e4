-- Answers and calls on top keep what stands.
use Rattle.std.proofs.Common.{◌≡◌, ℕ, List, [], ◌∷◌, ◌++◌, length, Some, refl, sym, ap, ◌∙◌, subst}
use Rattle.chan_values.specs.declared.error_code.ErrorCode.{ErrorCode}
use Rattle.chan_values.specs.declared.place.Place as p
use Rattle.heap_meaning.specs.Values.{StoreValue, Reference}
use Rattle.heap_meaning.specs.Store.{MapObject, MessageObject, Store}
use Rattle.copy_meaning.specs.Laying.{value_of_tree}
use Rattle.brs_grammar.specs.Form.{Params, unnamed, required, optional}
use Rattle.brs_code.specs.declared.function.Function as code
use Rattle.brs_code.specs.declared.function.Parameter.{Parameter}
use Rattle.code_relation.specs.Standing.{ParametersAt}
use Rattle.brs_meaning.specs.Program.{Program, Function, place_in}
use Rattle.brs_meaning.specs.Locals.{Home}
use Rattle.brs_meaning.specs.Binding as tb
use Rattle.brs_meaning.specs.Running as r
use Rattle.brs_meaning.specs.Running.{OnTop, Held, Tree}
use Rattle.brs_meaning.specs.Reduction.{home_of}
use Rattle.brs_meaning.specs.Answering as ta
use Rattle.brs_meaning.specs.Answering.{Reply, Value, Told, Failed, Arguments, Values, Message', Start, Brought, brought}
use Rattle.machine_meaning.specs.Image.{Image, place_at}
use Rattle.machine_meaning.specs.Frame as f
use Rattle.machine_meaning.specs.Frame.{Suspended, Machine}
use Rattle.machine_meaning.specs.Entering as me
use Rattle.machine_meaning.specs.Answering as ma
use Rattle.machine_match.specs.Compiled.{Compiled}
use Rattle.machine_match.specs.Stands.{FunctionStands, compiled, HeldStands, CallsStand, Stands}
use Rattle.machine_match.specs.Laws.{StateStands, PutStands}
use Rattle.machine_match.proofs.Going.{BegunStands, next_stands, filled_stands, calls_length}
use Rattle.machine_match.proofs.Binding.{begun_stands}

module _ (image : Image) (q : Program) where
  received_stands : (v : StoreValue) (machine : Machine) (tree : Tree) → Stands image q machine tree → Stands image q (ma.received v machine) (ta.received v tree)
  received_stands v (f.Works frame below) (r.Works call spot tasks held) both = both
  received_stands v (f.Works frame below) (r.Waits held) both = absurd both
  received_stands v (f.Fails e h below) (r.Works call spot tasks held) both = both
  received_stands v (f.Fails e h below) (r.Waits held) both = absurd both
  received_stands v (f.Waits below) (r.Works call spot tasks held) both = absurd both
  received_stands v (f.Waits []) (r.Waits []) both = tt
  received_stands v (f.Waits []) (r.Waits (h ∷ held)) both = absurd both
  received_stands v (f.Waits (s ∷ below)) (r.Waits []) both = absurd both
  received_stands v (f.Waits (s ∷ below)) (r.Waits (h ∷ held)) both = filled_stands image q v s h below held both.0 both.1

  failing_stands : (e : ErrorCode) (machine : Machine) (tree : Tree) → Stands image q machine tree → Stands image q (ma.failing e machine) (ta.failing e tree)
  failing_stands e (f.Works frame below) (r.Works call spot tasks held) both = both
  failing_stands e (f.Works frame below) (r.Waits held) both = absurd both
  failing_stands e (f.Fails e' h below) (r.Works call spot tasks held) both = both
  failing_stands e (f.Fails e' h below) (r.Waits held) both = absurd both
  failing_stands e (f.Waits below) (r.Works call spot tasks held) both = absurd both
  failing_stands e (f.Waits []) (r.Waits []) both = tt
  failing_stands e (f.Waits []) (r.Waits (h ∷ held)) both = absurd both
  failing_stands e (f.Waits (s ∷ below)) (r.Waits []) both = absurd both
  failing_stands e (f.Waits (s ∷ below)) (r.Waits (h ∷ held)) both = record { at = h.place; same = refl; line = both.0.line; path = both.0.frame_stands.function.path }

  pub reply_stands : (reply : Reply) (machine : Machine) (tree : Tree) (store : Store) → Stands image q machine tree → StateStands image q (ma.replied reply machine store) (ta.replied reply tree store)
  reply_stands (Value v) machine tree store both = (refl, received_stands (value_of_tree store v) machine tree both)
  reply_stands (Told message) machine tree store both = (refl, received_stands (Reference (length store)) machine tree both)
  reply_stands (Failed e) machine tree store both = (refl, failing_stands e machine tree both)

  -- ---- calls on top

  taken_same : (c : Compiled) (ps : Params) (xs : List Parameter) (one : Brought) (store : Store) (number p end : ℕ) → ParametersAt c.function c.forms number p xs ps end → ma.where_taken xs one store ≡ ta.where_taken ps one store
  taken_same c unnamed [] one store number p end at = refl
  taken_same c unnamed (x ∷ xs) one store number p end at = absurd at
  taken_same c (required place name kind rest) [] one store number p end at = absurd at
  taken_same c (required place name kind rest) (x ∷ xs) one store number p end at = refl
  taken_same c (optional place name kind default rest) [] one store number p end at = absurd at
  taken_same c (optional place name kind default rest) (x ∷ xs) one store number p end at = refl

  brought_same : (callee : code.Function) (source : Function) (arguments : Arguments) (store : Store) → FunctionStands image q callee source → ma.bring arguments callee.parameters store ≡ ta.bring arguments source.callee.params store
  brought_same callee source (Values trees) store function = refl
  brought_same callee source (Message' message) store function =
      taken_same (compiled function) source.callee.params callee.parameters (brought (Reference (length store) ∷ []) (store ++ MessageObject message ∷ [])) store 0 function.code.entry callee.start function.code.parameters
  brought_same callee source Start store function =
      taken_same (compiled function) source.callee.params callee.parameters (brought (Reference (length store) ∷ []) (store ++ MapObject [] ∷ [])) store 0 function.code.entry callee.start function.code.parameters

  put_begun : (b : me.Begun) (c : tb.Begun) (below : List Suspended) (held : List Held) (store : Store) → BegunStands image q b c → CallsStand image q below held → PutStands image q (ma.put_with b below store) (ta.put_with c held store)
  put_begun (me.Begins frame) (tb.Begins call tasks) below held store begun calls = (refl, next_stands image q frame call begun.0 tasks below held begun.1 begun.2 calls)
  put_begun (me.Begins frame) (tb.Refuses e) below held store begun calls = absurd begun
  put_begun (me.Refuses e) (tb.Begins call tasks) below held store begun calls = absurd begun
  put_begun (me.Refuses e) (tb.Refuses e') below held store begun calls = begun

  pub put_stands : (callee : code.Function) (source : Function) (home : ℕ) (homes : List Home) (arguments : Arguments) (below : List Suspended) (held : List Held) (store : Store)
      → FunctionStands image q callee source → CallsStand image q below held → PutStands image q (ma.put callee home homes arguments below store) (ta.put source home homes arguments held store)
  put_stands callee source home homes arguments below held store function calls =
      let b = ma.bring arguments callee.parameters store in
      let m = (home_of homes home).m in
      let begun = begun_stands image q callee source function OnTop home m b.values (length below) in
      let begun' = subst (λ n. BegunStands image q (me.begun OnTop callee home m b.values (length below)) (tb.begun OnTop source home m b.values n)) (calls_length image q below held calls) begun in
      subst (λ c. PutStands image q (ma.put callee home homes arguments below store) (ta.put_with (tb.begun OnTop source home m c.values (length held)) held c.store)) (brought_same callee source arguments store function)
      (put_begun (me.begun OnTop callee home m b.values (length below)) (tb.begun OnTop source home m b.values (length held)) below held b.store begun' calls)

  -- ---- what the world asks

  pub idle_same : (machine : Machine) (tree : Tree) → Stands image q machine tree → ma.is_idle machine ≡ ta.is_idle tree
  idle_same (f.Works frame below) (r.Works call spot tasks held) both = refl
  idle_same (f.Works frame below) (r.Waits held) both = absurd both
  idle_same (f.Fails e h below) (r.Works call spot tasks held) both = refl
  idle_same (f.Fails e h below) (r.Waits held) both = absurd both
  idle_same (f.Waits below) (r.Works call spot tasks held) both = absurd both
  idle_same (f.Waits []) (r.Waits []) both = refl
  idle_same (f.Waits []) (r.Waits (h ∷ held)) both = absurd both
  idle_same (f.Waits (s ∷ below)) (r.Waits []) both = absurd both
  idle_same (f.Waits (s ∷ below)) (r.Waits (h ∷ held)) both = refl

  pub work_same : (machine : Machine) (tree : Tree) → Stands image q machine tree → ma.is_at_work machine ≡ ta.is_at_work tree
  work_same (f.Works frame below) (r.Works call spot tasks held) both = refl
  work_same (f.Works frame below) (r.Waits held) both = absurd both
  work_same (f.Fails e h below) (r.Works call spot tasks held) both = refl
  work_same (f.Fails e h below) (r.Waits held) both = absurd both
  work_same (f.Waits below) (r.Works call spot tasks held) both = absurd both
  work_same (f.Waits below) (r.Waits held) both = refl

  place_of : (s : Suspended) (h : Held) → HeldStands image q s h → Some (place_at s.frame.function s.line) ≡ Some (place_in h.call.function h.place)
  place_of s h stands =
      ap (λ l. Some (place_at s.frame.function l)) stands.line ∙ ap (λ file. let at : p.Place = record { path = file; line = h.place.line } in Some at) (sym stands.frame_stands.function.path)

  pub want_place_same : (machine : Machine) (tree : Tree) → Stands image q machine tree → ma.want_place machine ≡ ta.want_place tree
  want_place_same (f.Works frame below) (r.Works call spot tasks held) both = refl
  want_place_same (f.Works frame below) (r.Waits held) both = absurd both
  want_place_same (f.Fails e h below) (r.Works call spot tasks held) both = refl
  want_place_same (f.Fails e h below) (r.Waits held) both = absurd both
  want_place_same (f.Waits below) (r.Works call spot tasks held) both = absurd both
  want_place_same (f.Waits []) (r.Waits []) both = refl
  want_place_same (f.Waits []) (r.Waits (h ∷ held)) both = absurd both
  want_place_same (f.Waits (s ∷ below)) (r.Waits []) both = absurd both
  want_place_same (f.Waits (s ∷ below)) (r.Waits (h ∷ held)) both = place_of s h both.0

  pub want_home_same : (machine : Machine) (tree : Tree) → Stands image q machine tree → ma.want_home machine ≡ ta.want_home tree
  want_home_same (f.Works frame below) (r.Works call spot tasks held) both = refl
  want_home_same (f.Works frame below) (r.Waits held) both = absurd both
  want_home_same (f.Fails e h below) (r.Works call spot tasks held) both = refl
  want_home_same (f.Fails e h below) (r.Waits held) both = absurd both
  want_home_same (f.Waits below) (r.Works call spot tasks held) both = absurd both
  want_home_same (f.Waits []) (r.Waits []) both = refl
  want_home_same (f.Waits []) (r.Waits (h ∷ held)) both = absurd both
  want_home_same (f.Waits (s ∷ below)) (r.Waits []) both = absurd both
  want_home_same (f.Waits (s ∷ below)) (r.Waits (h ∷ held)) both = ap (λ (c : r.Call). Some c.home) both.0.frame_stands.same
