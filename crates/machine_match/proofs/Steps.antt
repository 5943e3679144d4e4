-- One step of the machine is one reduction.
use Rattle.std.proofs.Common.{◌≡◌, ℕ, suc, ◌+◌, List, [], ◌∷◌, ◌++◌, length, map, Some, None, Bool, true, false, cond, if◌then◌else◌, refl, sym, ap, ◌∙◌, subst}
use Rattle.std.proofs.lemmas.List.{length-map}
use Rattle.brs_tokens.specs.declared.place.Place.{Place}
use Rattle.brs_tokens.specs.declared.number.NumberValue.{NumberValue}
use Rattle.brs_tokens.specs.declared.number.NumberValue.TheVariants as value
use Rattle.brs_grammar.specs.Form as g
use Rattle.brs_grammar.specs.Form.{Head}
use Rattle.brs_forms.specs.Words as w
use Rattle.brs_forms.specs.Words.{is_m}
use Rattle.heap_meaning.specs.declared.plain.Plain.TheVariants as p
use Rattle.heap_meaning.specs.Values.{StoreValue, Scalar}
use Rattle.heap_meaning.specs.Store.{Store}
use Rattle.brs_code.specs.declared.instr.Instr.TheVariants as i
use Rattle.code_relation.specs.declared.exits.Exits.{Exits}
use Rattle.code_relation.specs.Heads.{head_instr, number_instr}
use Rattle.code_relation.specs.Standing.{BetweenAt}
use Rattle.brs_meaning.specs.Program.{Program, Function, place_in}
use Rattle.brs_meaning.specs.Locals.{Home, Locals}
use Rattle.brs_meaning.specs.Given as t
use Rattle.brs_meaning.specs.Given.{Given}
use Rattle.brs_meaning.specs.Binding as tb
use Rattle.brs_meaning.specs.Heads.{contract}
use Rattle.brs_meaning.specs.Running as r
use Rattle.brs_meaning.specs.Running.{Inner, Call, Task, Around, Under, Spot, AtHead, AtDecided, AtJob, AtEnd, AtFailure, Operand, Held, Tree}
use Rattle.brs_meaning.specs.Moving.{decides, give}
use Rattle.brs_meaning.specs.Reduction as tr
use Rattle.brs_meaning.specs.Reduction.{Went, reduced, reduce, at_spot, after_given, home_of, own_or}
use Rattle.brs_meaning.specs.Answering.{is_at_work}
use Rattle.machine_meaning.specs.Image.{Image, place_at}
use Rattle.machine_meaning.specs.Frame as f
use Rattle.machine_meaning.specs.Frame.{Holds, Frame, OnOperands, Suspended, Machine, at_place}
use Rattle.machine_meaning.specs.Acted.{Acted}
use Rattle.machine_meaning.specs.Entering as me
use Rattle.machine_meaning.specs.Stepping as ms
use Rattle.machine_meaning.specs.Stepping.{Shown, Shows, carried, free_way, suspended, StepOf}
use Rattle.machine_meaning.proofs.OneStep.{same_steps}
use Rattle.machine_match.specs.Places.{kept, RestAt, HoleAt, SpotAt}
use Rattle.machine_match.specs.Stands.{FunctionStands, ImageStands, SlotsAre, seen_as, compiled, WorkStands, CallsStand, Stands, ShownStands}
use Rattle.machine_match.proofs.Control.{give_stands}
use Rattle.machine_match.proofs.Heads.{Fits, head_fits}
use Rattle.machine_match.proofs.Going.{Stepped, performs, flow_steps, leave_stands, raised_stands, entered_stands, calls_length, BegunStands}
use Rattle.machine_match.proofs.Binding.{begun_stands}
use Rattle.machine_match.proofs.Jobs.{job_stands}

number_free : (v : NumberValue) (ops : List f.Operand) (place : ℕ) → free_way (number_instr v) ops place ≡ None
number_free (value.Integer n) ops place = refl
number_free (value.LongInteger n) ops place = refl

name_free : (b : Bool) (n : ℕ) (ops : List f.Operand) (place : ℕ) → free_way (if b then i.LoadM else i.Load n) ops place ≡ None
name_free true n ops place = refl
name_free false n ops place = refl

-- the instruction of a head takes a step
head_free : (h : Head) (n k : ℕ) (ops : List f.Operand) (place : ℕ) → free_way (head_instr h n k) ops place ≡ None
head_free (g.Number x) n k ops place = number_free (w.number_of x) ops place
head_free (g.Name x) n k ops place = name_free (is_m x) n ops place
head_free _ n k ops place = refl

module _ (image : Image) (q : Program) (actor : ℕ) (homes : List Home) (frame : Frame) (source : Function) (locals : Locals) (store : Store) (stands : ImageStands image q) (function : FunctionStands image q frame.function source) (slots : SlotsAre frame.function frame.slots locals) (room : length frame.slots ≡ length frame.function.names) (below : List Suspended) (held : List Held) (calls : CallsStand image q below held) where
  -- what an expression gives stands in its place
  given_stands : (does : Acted) (given : Given) (at : Place) (context : List Around) (base : Under) (rest : List f.Operand) (tasks : List Task) (x : Exits) (end : ℕ)
      → Fits image q actor homes frame source locals store stands function slots does given → HoleAt (compiled function) x (frame.place + 1) context base rest (kept tasks) end → RestAt (compiled function) x end tasks
      → ShownStands image q (carried does homes frame at.line rest below store) (after_given given homes (seen_as frame source locals) at context base tasks held store)
  given_stands does (t.Gives v after) at context base rest tasks x end fits hole behind =
      let land = give_stands (compiled function) v context base x (frame.place + 1) rest end tasks hole behind in
      subst (λ d. ShownStands image q (carried d homes frame at.line rest below store) (after_given (t.Gives v after) homes (seen_as frame source locals) at context base tasks held store)) (sym fits)
      (refl, refl, (record { frame_stands = record { function = function; same = refl; slots = slots; room = room }; place = land.place; flows = land.flows; exits = x; at = land.at }, calls))
  given_stands does (t.Wants request) at context base rest tasks x end fits hole behind =
      subst (λ d. ShownStands image q (carried d homes frame at.line rest below store) (after_given (t.Wants request) homes (seen_as frame source locals) at context base tasks held store)) (sym fits)
      (refl, refl, (record { frame_stands = record { function = function; same = refl; slots = slots; room = room }; line = refl; lands = (x, end, hole, behind) }, calls))
  given_stands does (t.Fails e) at context base rest tasks x end fits hole behind =
      subst (λ d. ShownStands image q (carried d homes frame at.line rest below store) (after_given (t.Fails e) homes (seen_as frame source locals) at context base tasks held store)) (sym fits)
      (raised_stands image q e e frame.function source at at.line store function.path refl refl)
  given_stands does (t.Calls h m vs) at context base rest tasks x end fits hole behind =
      let callee = fits.0 in
      let waits = suspended (record frame { place = frame.place + 1; operands = rest }) at.line OnOperands in
      let waiting : Held = record { call = seen_as frame source locals; place = at; hole = Operand context base; tasks = tasks } in
      let own = own_or m (home_of homes frame.home).m in
      let begun = begun_stands image q callee h fits.1 Inner frame.home own vs (suc (length below)) in
      let begun' = subst (λ n. BegunStands image q (me.begun Inner callee frame.home own vs (suc (length below))) (tb.begun Inner h frame.home own vs (suc n))) (calls_length image q below held calls) begun in
      subst (λ d. ShownStands image q (carried d homes frame at.line rest below store) (after_given (t.Calls h m vs) homes (seen_as frame source locals) at context base tasks held store)) (sym fits.2)
      (entered_stands image q (me.begun Inner callee frame.home own vs (suc (length below))) (tb.begun Inner h frame.home own vs (suc (length held))) waits waiting below held store begun'
      (record { frame_stands = record { function = function; same = refl; slots = slots; room = room }; line = refl; lands = (x, end, hole, behind) }) calls)

  -- a left side that decides
  decided_stands : (context : List Around) (base : Under) (v : StoreValue) (rest : List f.Operand) (tasks : List Task) (x : Exits) (to end : ℕ)
      → HoleAt (compiled function) x to context base rest (kept tasks) end → RestAt (compiled function) x end tasks
      → ShownStands image q (Shows Went (f.Works (record frame { place = to; operands = Holds v ∷ rest }) below) store) (reduced Went (r.Works (seen_as frame source locals) (give v context base) tasks held) store)
  decided_stands context base v rest tasks x to end hole behind =
      let land = give_stands (compiled function) v context base x to rest end tasks hole behind in
      (refl, refl, (record { frame_stands = record { function = function; same = refl; slots = slots; room = room }; place = land.place; flows = land.flows; exits = x; at = land.at }, calls))

  decides_stands : (h : Head) (at : Place) (v : StoreValue) (context : List Around) (base : Under) (tasks : List Task) (x : Exits) (rest : List f.Operand) (to n end : ℕ)
      → frame.operands ≡ Holds v ∷ rest → decides h v ≡ true → BetweenAt frame.function frame.place h at.line to n → HoleAt (compiled function) x to context base rest (kept tasks) end → RestAt (compiled function) x end tasks
      → Stepped image q actor homes below store frame (reduced Went (r.Works (seen_as frame source locals) (give v context base) tasks held) store)
  decides_stands g.And at v context base tasks x rest to n end ops decided between hole behind =
      performs image q actor homes below store frame (i.AndTest to) at.line (Holds v ∷ []) rest _ between.has ops refl (ap (λ b. cond b None (Some (frame.place + 1))) decided) (decided_stands context base v rest tasks x to end hole behind)
  decides_stands g.Or at v context base tasks x rest to n end ops decided between hole behind =
      performs image q actor homes below store frame (i.OrTest to) at.line (Holds v ∷ []) rest _ between.has ops refl (ap (λ b. cond b None (Some (frame.place + 1))) decided) (decided_stands context base v rest tasks x to end hole behind)
  decides_stands _ at v context base tasks x rest to n end ops decided between hole behind = absurd cc

  -- the end of the body
  end_stands : (tasks : List Task) → ShownStands image q (ms.leave frame.kind (Scalar p.Invalid) (place_at frame.function frame.function.line) below store) (tr.leave frame.kind (Scalar p.Invalid) (place_in source source.heading) held store)
  end_stands tasks =
      subst (λ l. ShownStands image q (ms.leave frame.kind (Scalar p.Invalid) (place_at frame.function l) below store) (tr.leave frame.kind (Scalar p.Invalid) (place_in source source.heading) held store)) (sym function.code.line)
      (subst (λ file. ShownStands image q (ms.leave frame.kind (Scalar p.Invalid) (record { path = file; line = source.heading.line }) below store) (tr.leave frame.kind (Scalar p.Invalid) (place_in source source.heading) held store)) function.path
      (leave_stands image q frame.kind (Scalar p.Invalid) (place_in source source.heading) below held store calls))

  -- ---- each redex

  pub spot_stands : (spot : Spot) (tasks : List Task) (x : Exits) → SpotAt (compiled function) x frame.place spot frame.operands tasks
      → Stepped image q actor homes below store frame (at_spot q actor homes (seen_as frame source locals) spot tasks held store)
  spot_stands (AtHead h at vs context base) tasks x sp =
      let head = sp.3 in
      let fits = head_fits image q actor homes frame source locals store stands function slots h at vs head.index head.names sp.4 in
      let hole = subst (λ n. HoleAt (compiled function) x n context base sp.0 (kept tasks) sp.5) (sym head.instr.next) sp.6 in
      performs image q actor homes below store frame (head_instr h head.index (length vs)) at.line (map Holds vs) sp.0 _ head.instr.has sp.1 (head.instr.takes ∙ sym (length-map vs Holds)) (head_free h head.index (length vs) (map Holds vs ++ sp.0) frame.place)
      (given_stands _ (contract (tr.setting_of q actor homes (seen_as frame source locals)) h at vs store) at context base sp.0 tasks x sp.5 fits hole sp.7)
  spot_stands (AtDecided h at v form fs context base) tasks x sp = decides_stands h at v context base tasks x sp.0 sp.3 sp.4 sp.6 sp.1 sp.2 sp.5 sp.7 sp.8
  spot_stands (AtJob job at vs) tasks x sp = job_stands image q actor homes frame source locals store stands function slots room below held calls job at vs tasks x sp.1 sp.0 sp.2 sp.3 sp.4
  spot_stands AtEnd tasks x sp = performs image q actor homes below store frame i.End 0 [] [] _ sp.2 sp.1 refl refl (end_stands tasks)
  spot_stands (AtFailure e at) tasks x sp = absurd sp

module _ (image : Image) (q : Program) (actor : ℕ) (homes : List Home) (store : Store) (stands : ImageStands image q) where
  work_steps : (frame : Frame) (call : Call) (spot : Spot) (tasks : List Task) (below : List Suspended) (held : List Held) → WorkStands image q frame call spot tasks → CallsStand image q below held
      → Stepped image q actor homes below store frame (at_spot q actor homes call spot tasks held store)
  work_steps frame call spot tasks below held work calls =
      let its = work.frame_stands in
      let there = spot_stands image q actor homes (at_place work.place frame) call.function call.locals store stands its.function its.slots its.room below held calls spot tasks work.exits work.at in
      subst (λ c. Stepped image q actor homes below store frame (at_spot q actor homes c spot tasks held store)) its.same
      (flow_steps image q actor homes below store frame (at_spot q actor homes (seen_as frame call.function call.locals) spot tasks held store) frame.place work.place work.flows there)

  pub step_is_reduction : (machine : Machine) (tree : Tree) (s : Shown) → Stands image q machine tree → StepOf image actor homes machine store s → ShownStands image q s (reduce q actor homes tree store)
  step_is_reduction (f.Works frame below) (r.Works call spot tasks held) s both step =
      let stepped = work_steps frame call spot tasks below held both.0 both.1 in
      subst (λ z. ShownStands image q z (at_spot q actor homes call spot tasks held store)) (same_steps image actor homes below store stepped.steps step) stepped.stands
  step_is_reduction (f.Works frame below) (r.Waits held) s both step = absurd both
  step_is_reduction (f.Waits below) tree s both step = absurd step
  step_is_reduction (f.Fails e h below) (r.Works call spot tasks held) s both step =
      subst (λ z. ShownStands image q z (at_spot q actor homes call spot tasks held store)) step
      (subst (λ z. ShownStands image q (ms.raised e (place_at h.frame.function h.line) store) (at_spot q actor homes call z tasks held store)) both.same
      (raised_stands image q e e h.frame.function call.function both.at h.line store both.path both.line refl))
  step_is_reduction (f.Fails e h below) (r.Waits held) s both step = absurd both

  pub never_stuck : (machine : Machine) (tree : Tree) → Stands image q machine tree → is_at_work tree ≡ true → (s : Shown) × StepOf image actor homes machine store s
  never_stuck (f.Works frame below) (r.Works call spot tasks held) both at_work = let stepped = work_steps frame call spot tasks below held both.0 both.1 in (stepped.shown, stepped.steps)
  never_stuck (f.Works frame below) (r.Waits held) both at_work = absurd both
  never_stuck (f.Waits below) (r.Works call spot tasks held) both at_work = absurd both
  never_stuck (f.Waits below) (r.Waits held) both at_work = absurd cc
  never_stuck (f.Fails e h below) tree both at_work = (ms.raised e (place_at h.frame.function h.line) store, refl)
