-- The step of a statement whose operands are values.
use Rattle.std.proofs.Common.{◌≡◌, ℕ, suc, ◌+◌, List, [], ◌∷◌, ◌++◌, length, map, take, drop, Option, Some, None, if◌then◌else◌, refl, sym, ap, ◌∙◌, subst, arith}
use Rattle.std.specs.Prelude.{pos, slice_get, reverse}
use Rattle.brs_tokens.specs.declared.place.Place.{Place}
use Rattle.brs_grammar.specs.declared.tree.LoopKind.{LoopKind}
use Rattle.brs_grammar.specs.declared.tree.LoopKind.TheVariants as loop
use Rattle.brs_grammar.specs.declared.tree.TypeWord.{TypeWord}
use Rattle.brs_grammar.specs.declared.tree.UpdateSign.{UpdateSign}
use Rattle.brs_grammar.specs.Form as g
use Rattle.brs_grammar.specs.Form.{Text, Aim, Form, none, more, Todo}
use Rattle.brs_forms.specs.Words.{readable}
use Rattle.heap_meaning.specs.declared.plain.Plain.TheVariants as p
use Rattle.heap_meaning.specs.Values.{StoreValue, Scalar, Words}
use Rattle.heap_meaning.specs.Store.{Store}
use Rattle.object_operations.specs.Answer as ao
use Rattle.object_operations.specs.Answer.{Answer}
use Rattle.plain_operations.specs.Operators.{operated}
use Rattle.brs_code.specs.declared.instr.Instr.TheVariants as i
use Rattle.code_relation.specs.declared.exits.Exits.{Exits}
use Rattle.code_relation.specs.Heads.{set_instr, update_operator, exit_instr}
use Rattle.code_relation.specs.Standing.{Has, InstrAt, SetAt, FormAt, BlockAt, inside_for, inside_while}
use Rattle.brs_meaning.specs.Program.{Program, Function}
use Rattle.brs_meaning.specs.Locals.{Home, Locals}
use Rattle.brs_meaning.specs.Given as t
use Rattle.brs_meaning.specs.Given.{answered}
use Rattle.brs_meaning.specs.Names.{found, name_value}
use Rattle.brs_meaning.specs.Members.{member_read, index_read}
use Rattle.brs_builtins.specs.Operands.{operand, answer_of}
use Rattle.brs_meaning.specs.Operators.{updating}
use Rattle.brs_meaning.specs.Typed as ty
use Rattle.brs_meaning.specs.Heads.{binary}
use Rattle.brs_meaning.specs.Printing.{printed}
use Rattle.brs_meaning.specs.Statements as ts
use Rattle.brs_meaning.specs.Statements.{act, task, chosen, read_first, combine, number, numbers, variable_number, stepped, object_at, items_of, left}
use Rattle.brs_meaning.specs.Running.{Job, Does, Combines, Tests, Again, Compares, Increases, NextItem, NextKey, Binds, Task, before, under, Held}
use Rattle.brs_meaning.specs.Reduction as tr
use Rattle.brs_meaning.specs.Reduction.{after_did}
use Rattle.machine_meaning.specs.Image.{Image}
use Rattle.machine_meaning.specs.Frame as f
use Rattle.machine_meaning.specs.Frame.{Holds, Items, Keys, slot_value, Frame, Suspended}
use Rattle.machine_meaning.specs.Setting.{gives, with_text}
use Rattle.machine_meaning.specs.Statements as mst
use Rattle.machine_meaning.specs.Statements.{form_mark, prints, leaves, binds, branch, compares, increases}
use Rattle.machine_meaning.specs.Stepping.{carried, setting_of, free_way}
use Rattle.machine_match.specs.Compiled.{FormIs, TodoIs, JobIs}
use Rattle.machine_match.specs.Places.{here, held_by, kept, JobAt, RestAt, NextAt, HoleAt}
use Rattle.machine_match.specs.Stands.{FunctionStands, ImageStands, SlotsAre, seen_as, compiled, CallsStand, ShownStands}
use Rattle.machine_match.proofs.Control.{block_rest, jump_rest, kept_before, rest_next, give_stands}
use Rattle.machine_match.proofs.Heads.{by_values, name_fits, update_same}
use Rattle.machine_match.proofs.Going.{Stepped, performs}
use Rattle.machine_match.proofs.Exits.{exit_to, exit_keeps, left_at}
use Rattle.machine_match.proofs.Statements.{typed_same, marks_same, stays, faults, does, set_stands, keeps_stand, prints_stand, leaves_stand, branch_stands, begins_stand, compares_stand, increases_stand, goes_over_stands, item_stands, binds_stand, sets}

set_free : (aim : Aim) (n : ℕ) (ops : List f.Operand) (place : ℕ) → free_way (set_instr aim n) ops place ≡ None
set_free (g.ToName x) n ops place = refl
set_free (g.ToMember k) n ops place = refl
set_free g.ToIndex n ops place = refl

exit_same : (x : Exits) (kind : LoopKind) → exit_instr x kind ≡ i.Exit (exit_keeps kind x) (exit_to kind x)
exit_same x loop.For = refl
exit_same x loop.While = refl

module _ (image : Image) (q : Program) (actor : ℕ) (homes : List Home) (frame : Frame) (source : Function) (locals : Locals) (store : Store) (stands : ImageStands image q) (function : FunctionStands image q frame.function source) (slots : SlotsAre frame.function frame.slots locals) (room : length frame.slots ≡ length frame.function.names) (below : List Suspended) (held : List Held) (calls : CallsStand image q below held) where
  -- what is to do, with this redex
  abbrev pub StepIs : (job : Job) (at : Place) (vs : List StoreValue) (tasks : List Task) → Type 0
  StepIs job at vs tasks =
      Stepped image q actor homes below store frame (after_did (act (tr.setting_of q actor homes (seen_as frame source locals)) job at vs store tasks) (seen_as frame source locals) at tasks held store)

  -- ---- assignments

  combine_stands : (answer : Answer) (aim : Aim) (at there : Place) (vs : List StoreValue) (rest : List f.Operand) (tasks : List Task) (x : Exits) (end : ℕ)
      → HoleAt (compiled function) x (frame.place + 1) [] (under (Does (g.Set aim)) at vs none) rest (kept tasks) end → RestAt (compiled function) x end tasks
      → ShownStands image q (carried (gives (setting_of image actor homes frame) (answered answer)) homes frame there.line rest below store)
      (after_did (combine aim (answered answer) there vs at) (seen_as frame source locals) at tasks held store)
  combine_stands (ao.Gives v after) aim at there vs rest tasks x end hole after_it =
      let land = give_stands (compiled function) v [] (under (Does (g.Set aim)) at vs none) x (frame.place + 1) rest end tasks hole after_it in
      (refl, refl, (record { frame_stands = record { function = function; same = refl; slots = slots; room = room }; place = land.place; flows = land.flows; exits = x; at = land.at }, calls))
  combine_stands (ao.Raises e) aim at there vs rest tasks x end hole after_it = faults image q actor homes frame source locals store stands function slots room below held calls e there rest

  combines : (aim : Aim) (sign : UpdateSign) (there at : Place) (vs : List StoreValue) (tasks : List Task) (x : Exits) (end : ℕ)
      → frame.operands ≡ map Holds vs ++ kept tasks → JobAt (compiled function) x frame.place (Combines aim sign there) at.line (length vs) end → RestAt (compiled function) x end tasks → StepIs (Combines aim sign there) at vs tasks
  combines aim sign there at [] tasks x end ops job rest = let two = job.1 in absurd (omega (arith, two))
  combines aim sign there at (v ∷ []) tasks x end ops job rest = let two = job.1 in absurd (omega (arith, two))
  combines aim sign there at (right ∷ left' ∷ vs) tasks x end ops job rest =
      let k : job.0 + 1 ≡ length vs + 1 = let two = job.1 in omega (arith, two) in
      let set_at : SetAt frame.function (frame.place + 1) aim at.line (job.0 + 1) end = subst (λ p. SetAt frame.function p aim at.line (job.0 + 1) end) (sym job.3.next) job.4 in
      let hole : HoleAt (compiled function) x (frame.place + 1) [] (under (Does (g.Set aim)) at vs none) (map Holds vs ++ kept tasks) (kept tasks) end = (refl, job.0 + 1, k, frame.place + 1, refl, tt, set_at, tt) in
      performs image q actor homes below store frame (i.Binary (update_operator sign)) there.line (Holds right ∷ Holds left' ∷ []) (map Holds vs ++ kept tasks) _ job.3.has ops refl refl
      (subst (λ o. ShownStands image q (carried (gives (setting_of image actor homes frame) (binary o (right ∷ left' ∷ []) store)) homes frame there.line (map Holds vs ++ kept tasks) below store)
      (after_did (combine aim (binary (updating sign) (right ∷ left' ∷ []) store) there vs at) (seen_as frame source locals) at tasks held store)) (sym (update_same sign))
      (combine_stands (answer_of (operated (updating sign) (operand left') (operand right)) store) aim at there vs (map Holds vs ++ kept tasks) tasks x end hole rest))

  variable_stands : (o : Option StoreValue) (at : Place) (y : Text) (sign : UpdateSign) (there : Place) (e : Form) (tasks : List Task) (x : Exits) (end : ℕ)
      → HoleAt (compiled function) x (frame.place + 1) [] (under (Combines (g.ToName y) sign there) at [] (more e none)) (kept tasks) (kept tasks) end → RestAt (compiled function) x end tasks
      → ShownStands image q (carried (gives (setting_of image actor homes frame) (found o store)) homes frame at.line (kept tasks) below store)
      (after_did (read_first (found o store) (under (Combines (g.ToName y) sign there) at [] (more e none)) at) (seen_as frame source locals) at tasks held store)
  variable_stands (Some v) at y sign there e tasks x end hole rest = keeps_stand image q actor homes frame source locals store stands function slots room below held calls (t.Gives v store) at (g.ToName y) sign there e [] tasks x end hole rest
  variable_stands None at y sign there e tasks x end hole rest = keeps_stand image q actor homes frame source locals store stands function slots room below held calls (found None store) at (g.ToName y) sign there e [] tasks x end hole rest

  update_hole : (aim : Aim) (sign : UpdateSign) (there : Place) (e : Form) (at : Place) (vs : List StoreValue) (tasks : List Task) (x : Exits) (end : ℕ)
      → JobAt (compiled function) x frame.place (Does (g.Update aim sign there e)) at.line (length vs) end → FormIs (compiled function) e
      → HoleAt (compiled function) x (frame.place + 1) [] (under (Combines aim sign there) at vs (more e none)) (map Holds vs ++ kept tasks) (kept tasks) end
  update_hole aim sign there e at vs tasks x end job is =
      let at_e = subst (λ p. FormAt frame.function function.forms p e job.2) (sym job.1.instr.next) job.3 in
      (refl, length vs + 2, omega arith, job.2, (job.2, at_e, refl), (is, tt), (length vs, refl, job.4, job.5, job.6), tt)

  updates : (aim : Aim) (sign : UpdateSign) (there : Place) (e : Form) (at : Place) (vs : List StoreValue) (tasks : List Task) (x : Exits) (end : ℕ)
      → frame.operands ≡ map Holds vs ++ kept tasks → JobAt (compiled function) x frame.place (Does (g.Update aim sign there e)) at.line (length vs) end → FormIs (compiled function) e → RestAt (compiled function) x end tasks → StepIs (Does (g.Update aim sign there e)) at vs tasks
  updates (g.ToName y) sign there e at [] tasks x end ops job is rest =
      let n = job.1.index in
      let load : InstrAt frame.function frame.place (i.Load n) at.line 0 job.0 = subst (λ b. InstrAt frame.function frame.place (if b then i.LoadM else i.Load n) at.line 0 job.0) (function.no_m n y job.1.aims) job.1.instr in
      let value = name_value (tr.setting_of q actor homes (seen_as frame source locals)) y in
      does image q actor homes frame source locals store stands function slots room below held calls (i.Load n) at.line [] (kept tasks) _ load.has ops load.takes refl
      (subst (λ z. ShownStands image q (carried z homes frame at.line (kept tasks) below store) (after_did (read_first (found value store) (under (Combines (g.ToName y) sign there) at [] (more e none)) at) (seen_as frame source locals) at tasks held store))
      (sym (name_fits image q actor homes frame source locals store stands function slots n y job.1.aims))
      (variable_stands value at y sign there e tasks x end (update_hole (g.ToName y) sign there e at [] tasks x end job is) rest))
  updates (g.ToName y) sign there e at (v ∷ vs) tasks x end ops job is rest =
      let n = job.1.index in
      let load : InstrAt frame.function frame.place (i.Load n) at.line (suc (length vs)) job.0 = subst (λ b. InstrAt frame.function frame.place (if b then i.LoadM else i.Load n) at.line (suc (length vs)) job.0) (function.no_m n y job.1.aims) job.1.instr in
      let none' : 0 ≡ suc (length vs) = load.takes in absurd (omega (arith, none'))
  updates (g.ToMember k) sign there e at [] tasks x end ops job is rest = let one : 1 ≡ 0 = job.1.instr.takes in absurd (omega (arith, one))
  updates (g.ToMember k) sign there e at (y ∷ []) tasks x end ops job is rest =
      does image q actor homes frame source locals store stands function slots room below held calls (i.KeepMember job.1.index) at.line (y ∷ []) (kept tasks) _ job.1.instr.has ops job.1.instr.takes refl
      (subst (λ o. ShownStands image q (carried (with_text o (λ k. mst.keep_member (setting_of image actor homes frame) k (Holds y ∷ []) (y ∷ []) store)) homes frame at.line (kept tasks) below store)
      (after_did (read_first (member_read y (readable k) store) (under (Combines (g.ToMember k) sign there) at (y ∷ []) (more e none)) at) (seen_as frame source locals) at tasks held store)) (sym job.1.aims)
      (keeps_stand image q actor homes frame source locals store stands function slots room below held calls (member_read y (readable k) store) at (g.ToMember k) sign there e (y ∷ []) tasks x end (update_hole (g.ToMember k) sign there e at (y ∷ []) tasks x end job is) rest))
  updates (g.ToMember k) sign there e at (y ∷ w ∷ vs) tasks x end ops job is rest = let one : 1 ≡ suc (suc (length vs)) = job.1.instr.takes in absurd (omega (arith, one))
  updates g.ToIndex sign there e at [] tasks x end ops job is rest = let two : 2 ≡ 0 = job.1.instr.takes in absurd (omega (arith, two))
  updates g.ToIndex sign there e at (w ∷ []) tasks x end ops job is rest = let two : 2 ≡ 1 = job.1.instr.takes in absurd (omega (arith, two))
  updates g.ToIndex sign there e at (k ∷ y ∷ []) tasks x end ops job is rest =
      does image q actor homes frame source locals store stands function slots room below held calls i.KeepIndex at.line (k ∷ y ∷ []) (kept tasks) _ job.1.instr.has ops job.1.instr.takes refl
      (keeps_stand image q actor homes frame source locals store stands function slots room below held calls (index_read y k store) at g.ToIndex sign there e (k ∷ y ∷ []) tasks x end (update_hole g.ToIndex sign there e at (k ∷ y ∷ []) tasks x end job is) rest)
  updates g.ToIndex sign there e at (k ∷ y ∷ w ∷ vs) tasks x end ops job is rest = let two : 2 ≡ suc (suc (suc (length vs))) = job.1.instr.takes in absurd (omega (arith, two))

  -- ---- returns

  returns_stand : (at : Place) (vs : List StoreValue) (tasks : List Task) (x : Exits) (end : ℕ)
      → frame.operands ≡ map Holds vs ++ kept tasks → JobAt (compiled function) x frame.place (Does g.Return) at.line (length vs) end → StepIs (Does g.Return) at vs tasks
  returns_stand at [] tasks x end ops job =
      does image q actor homes frame source locals store stands function slots room below held calls i.ReturnInvalid at.line [] (kept tasks) _ job.has ops job.takes refl
      (leaves_stand image q actor homes frame source locals store stands function slots room below held calls (Some (Scalar p.Invalid)) at tasks)
  returns_stand at (v ∷ []) tasks x end ops job =
      does image q actor homes frame source locals store stands function slots room below held calls i.Return at.line (v ∷ []) (kept tasks) _ job.has ops job.takes refl
      (subst (λ o. ShownStands image q (carried (leaves o) homes frame at.line (kept tasks) below store) (after_did (ts.returned_as (ty.typed source.callee.value v) at) (seen_as frame source locals) at tasks held store))
      (sym (typed_same frame.function.value source.callee.value v function.code.value))
      (leaves_stand image q actor homes frame source locals store stands function slots room below held calls (ty.typed source.callee.value v) at tasks))
  returns_stand at (v ∷ w ∷ vs) tasks x end ops job = let one : 1 ≡ suc (suc (length vs)) = job.takes in absurd (omega (arith, one))

  -- ---- loops

  tests_next : (c' : Form) (body : Todo) (at : Place) (tasks : List Task) (x : Exits) (s m e end : ℕ)
      → FormAt frame.function function.forms s c' m → Has frame.function m (i.Branch end) at.line → BlockAt frame.function function.forms (inside_while end x) (m + 1) body e → InstrAt frame.function e (i.Again s) at.line 0 end
      → FormIs (compiled function) c' → TodoIs (compiled function) body → RestAt (compiled function) x end tasks → NextAt (compiled function) s (task (Tests c' body) at (more c' none) ∷ tasks)
  tests_next c' body at tasks x s m e end form has block again is are rest =
      (x, end, record { start = s; leads = here; middle = m; operands = (m, form, refl); job = (refl, s, form, has, e, block, again); operands_are = (is, tt); job_is = (is, are) }, rest)

  compares_next : (name : Text) (limit step : StoreValue) (body : Todo) (at : Place) (tasks : List Task) (x : Exits) (n s e end : ℕ)
      → slice_get frame.function.names n ≡ Some name → Has frame.function s (i.ForTest n end) at.line → BlockAt frame.function function.forms (inside_for 2 end x) (s + 1) body e → InstrAt frame.function e (i.ForNext n s) at.line 2 end
      → TodoIs (compiled function) body → RestAt (compiled function) x end tasks → NextAt (compiled function) s (task (Compares name limit step body) at none ∷ tasks)
  compares_next name limit step body at tasks x n s e end named has block again are rest =
      (x, end, record { start = s; leads = here; middle = s; operands = refl; job = (refl, n, named, has, e, block, again); operands_are = tt; job_is = are }, rest)

  for_stands : (there : Place) (name : Text) (body : Todo) (at : Place) (vs : List StoreValue) (tasks : List Task) (x : Exits) (end : ℕ)
      → frame.operands ≡ map Holds vs ++ kept tasks → JobAt (compiled function) x frame.place (Does (g.For there name body)) at.line (length vs) end → TodoIs (compiled function) body → RestAt (compiled function) x end tasks → StepIs (Does (g.For there name body)) at vs tasks
  for_stands there name body at [] tasks x end ops job is rest = let two : 2 ≡ 0 = job.3.takes in absurd (omega (arith, two))
  for_stands there name body at (v ∷ []) tasks x end ops job is rest = let two : 2 ≡ 1 = job.3.takes in absurd (omega (arith, two))
  for_stands there name body at (limit ∷ start ∷ []) tasks x end ops job is rest =
      let step = Scalar (p.Small (pos 1)) in
      let next' = subst (λ p. NextAt (compiled function) p (task (Compares name limit step body) at none ∷ tasks)) (sym job.3.next) (compares_next name limit step body at tasks x job.0 job.2 job.5 end job.1 job.4 job.6 job.7 is rest) in
      does image q actor homes frame source locals store stands function slots room below held calls (i.For job.0) at.line (limit ∷ start ∷ []) (kept tasks) _ job.3.has ops job.3.takes refl
      (begins_stand image q actor homes frame source locals store stands function slots room below held calls (numbers (number start) (number limit) (number step)) job.0 name start limit step body at tasks job.1 next')
  for_stands there name body at (step ∷ limit ∷ start ∷ []) tasks x end ops job is rest =
      let next' = subst (λ p. NextAt (compiled function) p (task (Compares name limit step body) at none ∷ tasks)) (sym job.3.next) (compares_next name limit step body at tasks x job.0 job.2 job.5 end job.1 job.4 job.6 job.7 is rest) in
      does image q actor homes frame source locals store stands function slots room below held calls (i.ForStep job.0) at.line (step ∷ limit ∷ start ∷ []) (kept tasks) _ job.3.has ops job.3.takes refl
      (begins_stand image q actor homes frame source locals store stands function slots room below held calls (numbers (number start) (number limit) (number step)) job.0 name start limit step body at tasks job.1 next')
  for_stands there name body at (v ∷ w ∷ y ∷ z ∷ vs) tasks x end ops job is rest = let three : 3 ≡ suc (suc (suc (suc (length vs)))) = job.3.takes in absurd (omega (arith, three))

  each_next : (later : Job) (name : Text) (body : Todo) (at : Place) (tasks : List Task) (x : Exits) (p end : ℕ) → JobAt (compiled function) x p later at.line 0 end → JobIs (compiled function) later → RestAt (compiled function) x end tasks
      → NextAt (compiled function) p (task later at none ∷ tasks)
  each_next later name body at tasks x p end job is rest =
      (x, end, record { start = p; leads = here; middle = p; operands = refl; job = job; operands_are = tt; job_is = is }, rest)

  for_each_stands : (there : Place) (name : Text) (body : Todo) (at : Place) (vs : List StoreValue) (tasks : List Task) (x : Exits) (end : ℕ)
      → frame.operands ≡ map Holds vs ++ kept tasks → JobAt (compiled function) x frame.place (Does (g.ForEach there name body)) at.line (length vs) end → TodoIs (compiled function) body → RestAt (compiled function) x end tasks → StepIs (Does (g.ForEach there name body)) at vs tasks
  for_each_stands there name body at [] tasks x end ops job is rest = let one : 1 ≡ 0 = job.4.takes in absurd (omega (arith, one))
  for_each_stands there name body at (v ∷ []) tasks x end ops job is rest =
      does image q actor homes frame source locals store stands function slots room below held calls (i.ForEach job.2) at.line (v ∷ []) (kept tasks) _ job.4.has ops job.4.takes refl
      (goes_over_stands image q actor homes frame source locals store stands function slots room below held calls (object_at v store) v name job.2 body at tasks
      (each_next (NextItem name v 0 body) name body at tasks x job.2 end (refl, job.0, job.1, job.3, job.5, job.6) is rest)
      (λ keys. each_next (NextKey name keys body) name body at tasks x job.2 end (refl, job.0, job.1, job.3, job.5, job.6) is rest))
  for_each_stands there name body at (v ∷ w ∷ vs) tasks x end ops job is rest = let one : 1 ≡ suc (suc (length vs)) = job.4.takes in absurd (omega (arith, one))

  keys_stand : (name : Text) (keys : List Text) (body : Todo) (at : Place) (tasks : List Task) (x : Exits) (end : ℕ)
      → frame.operands ≡ Keys keys ∷ kept tasks → JobAt (compiled function) x frame.place (NextKey name keys body) at.line 0 end → TodoIs (compiled function) body → RestAt (compiled function) x end tasks → StepIs (NextKey name keys body) at [] tasks
  keys_stand name [] body at tasks x end ops job is rest =
      performs image q actor homes below store frame (i.EachNext job.1 job.3) at.line (Keys [] ∷ []) (kept tasks) _ job.5.has ops refl refl
      (stays image q actor homes frame source locals store stands function slots room below held calls store [] (kept tasks) (frame.place + 1) tasks refl
      (rest_next (compiled function) x (frame.place + 1) tasks (subst (λ p. RestAt (compiled function) x p tasks) (sym job.5.next) rest)))
  keys_stand name (k ∷ keys) body at tasks x end ops job is rest =
      let later = task (NextKey name keys body) at none in
      let again : RestAt (compiled function) (inside_for 1 end x) frame.place (later ∷ tasks) = (tt, x, end, record { start = frame.place; leads = here; middle = frame.place; operands = refl; job = (refl, job.1, job.2, job.3, job.4, job.5); operands_are = tt; job_is = is }, refl, rest) in
      performs image q actor homes below store frame (i.EachNext job.1 job.3) at.line (Keys (k ∷ keys) ∷ []) (kept tasks) _ job.5.has ops refl refl
      (sets image q actor homes frame source locals store stands function slots room below held calls job.1 name (Words k) store (Keys keys ∷ []) (kept tasks) job.3 (before body (later ∷ tasks)) job.2 (sym (kept_before body (later ∷ tasks)))
      (rest_next (compiled function) (inside_for 1 end x) job.3 (before body (later ∷ tasks)) (block_rest (compiled function) body (inside_for 1 end x) job.3 frame.place (later ∷ tasks) job.4 is again)))

  bind_stands : (name : Text) (kind : Option TypeWord) (at : Place) (vs : List StoreValue) (tasks : List Task) (x : Exits) (end : ℕ)
      → frame.operands ≡ map Holds vs ++ kept tasks → JobAt (compiled function) x frame.place (Binds name kind) at.line (length vs) end → RestAt (compiled function) x end tasks → StepIs (Binds name kind) at vs tasks
  bind_stands name kind at [] tasks x end ops job rest = let one : 1 ≡ 0 = job.5.takes in absurd (omega (arith, one))
  bind_stands name kind at (v ∷ []) tasks x end ops job rest =
      does image q actor homes frame source locals store stands function slots room below held calls (i.Bind job.0) at.line (v ∷ []) (kept tasks) _ job.5.has ops job.5.takes refl
      (subst (λ o. ShownStands image q (carried (mst.bind (setting_of image actor homes frame) o (v ∷ []) store) homes frame at.line (kept tasks) below store) (after_did (ts.bound_as name (ty.typed kind v) locals store tasks at) (seen_as frame source locals) at tasks held store)) (sym job.2)
      (subst (λ o. ShownStands image q (carried (binds (setting_of image actor homes frame) job.1.slot o store) homes frame at.line (kept tasks) below store) (after_did (ts.bound_as name (ty.typed kind v) locals store tasks at) (seen_as frame source locals) at tasks held store)) (sym (typed_same job.1.kind kind v job.4))
      (binds_stand image q actor homes frame source locals store stands function slots room below held calls (ty.typed kind v) job.1.slot name at tasks x job.3 (subst (λ p. RestAt (compiled function) x p tasks) (sym job.5.next) rest))))
  bind_stands name kind at (v ∷ w ∷ vs) tasks x end ops job rest = let one : 1 ≡ suc (suc (length vs)) = job.5.takes in absurd (omega (arith, one))

  -- ---- each statement

  pub job_stands : (job : Job) (at : Place) (vs : List StoreValue) (tasks : List Task) (x : Exits) (end : ℕ)
      → frame.operands ≡ map Holds vs ++ held_by job (kept tasks) → JobAt (compiled function) x frame.place job at.line (length vs) end → JobIs (compiled function) job → RestAt (compiled function) x end tasks → StepIs job at vs tasks
  job_stands (Does (g.Set aim)) at vs tasks x end ops job is rest =
      does image q actor homes frame source locals store stands function slots room below held calls (set_instr aim job.index) at.line vs (kept tasks) _ job.instr.has ops job.instr.takes (set_free aim job.index (map Holds vs ++ kept tasks) frame.place)
      (set_stands image q actor homes frame source locals store stands function slots room below held calls aim at vs job.index tasks x job.aims job.instr.takes (subst (λ p. RestAt (compiled function) x p tasks) (sym job.instr.next) rest))
  job_stands (Does (g.Update aim sign there e)) at vs tasks x end ops job is rest = updates aim sign there e at vs tasks x end ops job is rest
  job_stands (Combines aim sign there) at vs tasks x end ops job is rest = combines aim sign there at vs tasks x end ops job rest
  job_stands (Does g.Drop) at vs tasks x end ops job is rest =
      does image q actor homes frame source locals store stands function slots room below held calls i.Drop at.line vs (kept tasks) _ job.has ops job.takes refl
      (stays image q actor homes frame source locals store stands function slots room below held calls store [] (kept tasks) (frame.place + 1) tasks refl (rest_next (compiled function) x (frame.place + 1) tasks (subst (λ p. RestAt (compiled function) x p tasks) (sym job.next) rest)))
  job_stands (Does (g.Print marks)) at vs tasks x end ops job is rest =
      let marks_are = ap (map form_mark) job.1 ∙ marks_same marks in
      let after = after_did (ts.shown (printed marks (reverse vs) store) at) (seen_as frame source locals) at tasks held store in
      does image q actor homes frame source locals store stands function slots room below held calls (i.Print job.0 (length marks) (length vs)) at.line vs (kept tasks) _ job.2.has ops job.2.takes refl
      (by_values vs (λ l. ShownStands image q (carried (prints (printed (map form_mark (take (length marks) (drop job.0 frame.function.marks))) (reverse l) store)) homes frame at.line (kept tasks) below store) after)
      (subst (λ l. ShownStands image q (carried (prints (printed l (reverse vs) store)) homes frame at.line (kept tasks) below store) after) (sym marks_are)
      (prints_stand image q actor homes frame source locals store stands function slots room below held calls (printed marks (reverse vs) store) at tasks x (subst (λ p. RestAt (compiled function) x p tasks) (sym job.2.next) rest))))
  job_stands (Does g.Return) at vs tasks x end ops job is rest = returns_stand at vs tasks x end ops job
  job_stands (Does (g.Exit kind)) at [] tasks x end ops job is rest =
      let l = left_at (compiled function) kind x end tasks rest in
      let has = subst (λ z. Has frame.function frame.place z at.line) (exit_same x kind) job.1 in
      performs image q actor homes below store frame (i.Exit (exit_keeps kind x) (exit_to kind x)) at.line l.front (kept (left kind tasks)) _ has (ops ∙ l.operands) l.counts refl
      (stays image q actor homes frame source locals store stands function slots room below held calls store [] (kept (left kind tasks)) (exit_to kind x) (left kind tasks) refl (rest_next (compiled function) l.exits (exit_to kind x) (left kind tasks) l.behind))
  job_stands (Does (g.Exit kind)) at (v ∷ vs) tasks x end ops job is rest = let none' = job.0 in absurd (omega (arith, none'))
  job_stands (Does (g.If one other)) at vs tasks x end ops job is rest =
      let after = after_did (chosen vs locals store (before one tasks) (before other tasks) at) (seen_as frame source locals) at tasks held store in
      let at_one = block_rest (compiled function) one x (frame.place + 1) job.1 tasks job.3 is.0 (jump_rest (compiled function) x job.1 end 0 tasks job.4 rest) in
      let at_other = block_rest (compiled function) other x (job.1 + 1) end tasks job.5 is.1 rest in
      does image q actor homes frame source locals store stands function slots room below held calls (i.Branch (job.1 + 1)) at.line vs (kept tasks) _ job.2 ops (sym job.0) refl
      (by_values vs (λ l. ShownStands image q (carried (branch (setting_of image actor homes frame) (job.1 + 1) l store) homes frame at.line (kept tasks) below store) after)
      (branch_stands image q actor homes frame source locals store stands function slots room below held calls (job.1 + 1) vs at tasks (before one tasks) (before other tasks) (sym (kept_before one tasks)) (sym (kept_before other tasks))
      (rest_next (compiled function) x (frame.place + 1) (before one tasks) at_one) (rest_next (compiled function) x (job.1 + 1) (before other tasks) at_other)))
  job_stands (Does (g.While c' body)) at vs tasks x end ops job is rest =
      let tasks' = task (Tests c' body) at (more c' none) ∷ tasks in
      let next' = subst (λ p. NextAt (compiled function) p tasks') (sym job.1.next) (tests_next c' body at tasks x job.0 job.2 job.5 end job.3 job.4 job.6 job.7 is.0 is.1 rest) in
      does image q actor homes frame source locals store stands function slots room below held calls i.While at.line vs (kept tasks) _ job.1.has ops job.1.takes refl
      (stays image q actor homes frame source locals store stands function slots room below held calls store [] (kept tasks) (frame.place + 1) tasks' refl next')
  job_stands (Tests c' body) at vs tasks x end ops job is rest =
      let later = task (Again c' body) at none in
      let after = after_did (chosen vs locals store (before body (later ∷ tasks)) tasks at) (seen_as frame source locals) at tasks held store in
      let again : RestAt (compiled function) (inside_while end x) job.4 (later ∷ tasks) = (tt, x, end, record { start = job.4; leads = here; middle = job.4; operands = refl; job = (refl, job.1, job.6, frame.place, job.2, job.3, job.5); operands_are = tt; job_is = is }, refl, rest) in
      let at_body = block_rest (compiled function) body (inside_while end x) (frame.place + 1) job.4 (later ∷ tasks) job.5 is.1 again in
      does image q actor homes frame source locals store stands function slots room below held calls (i.Branch end) at.line vs (kept tasks) _ job.3 ops (sym job.0) refl
      (by_values vs (λ l. ShownStands image q (carried (branch (setting_of image actor homes frame) end l store) homes frame at.line (kept tasks) below store) after)
      (branch_stands image q actor homes frame source locals store stands function slots room below held calls end vs at tasks (before body (later ∷ tasks)) tasks (sym (kept_before body (later ∷ tasks))) refl
      (rest_next (compiled function) (inside_while end x) (frame.place + 1) (before body (later ∷ tasks)) at_body) (rest_next (compiled function) x end tasks rest)))
  job_stands (Again c' body) at [] tasks x end ops job is rest =
      let tasks' = task (Tests c' body) at (more c' none) ∷ tasks in
      performs image q actor homes below store frame (i.Again job.1) at.line [] (kept tasks) _ job.2.has ops refl refl
      (stays image q actor homes frame source locals store stands function slots room below held calls store [] (kept tasks) job.1 tasks' refl
      (tests_next c' body at tasks x job.1 job.3 frame.place end job.4 job.5 job.6 job.2 is.0 is.1 rest))
  job_stands (Again c' body) at (v ∷ vs) tasks x end ops job is rest = let none' = job.0 in absurd (omega (arith, none'))
  job_stands (Does (g.For there name body)) at vs tasks x end ops job is rest = for_stands there name body at vs tasks x end ops job is rest
  job_stands (Compares name limit step body) at [] tasks x end ops job is rest =
      let later = task (Increases name limit step body) at none in
      let taken = Holds step ∷ Holds limit ∷ [] in
      let again : RestAt (compiled function) (inside_for 2 end x) job.4 (later ∷ tasks) = (tt, x, end, record { start = job.4; leads = here; middle = job.4; operands = refl; job = (refl, job.1, job.2, frame.place, job.3, job.5, job.6); operands_are = tt; job_is = is }, refl, rest) in
      let at_body = block_rest (compiled function) body (inside_for 2 end x) (frame.place + 1) job.4 (later ∷ tasks) job.5 is again in
      performs image q actor homes below store frame (i.ForTest job.1 end) at.line taken (kept tasks) _ job.3 ops refl refl
      (subst (λ o. ShownStands image q (carried (compares (setting_of image actor homes frame) end taken (variable_number (slot_value frame.slots job.1)) (number limit) (number step) store) homes frame at.line (kept tasks) below store)
      (after_did (ts.compare (variable_number o) (number limit) (number step) locals store (before body (later ∷ tasks)) tasks at) (seen_as frame source locals) at tasks held store)) (sym (slots job.1 name job.2))
      (compares_stand image q actor homes frame source locals store stands function slots room below held calls (variable_number (slot_value frame.slots job.1)) (number limit) (number step) end taken at tasks (before body (later ∷ tasks)) tasks
      (sym (kept_before body (later ∷ tasks))) refl (rest_next (compiled function) (inside_for 2 end x) (frame.place + 1) (before body (later ∷ tasks)) at_body) (rest_next (compiled function) x end tasks rest)))
  job_stands (Compares name limit step body) at (v ∷ vs) tasks x end ops job is rest = let none' = job.0 in absurd (omega (arith, none'))
  job_stands (Increases name limit step body) at [] tasks x end ops job is rest =
      let again = task (Compares name limit step body) at none in
      let taken = Holds step ∷ Holds limit ∷ [] in
      performs image q actor homes below store frame (i.ForNext job.1 job.3) at.line taken (kept tasks) _ job.6.has ops refl refl
      (subst (λ o. ShownStands image q (carried (increases (setting_of image actor homes frame) job.1 job.3 taken (stepped (slot_value frame.slots job.1) step store)) homes frame at.line (kept tasks) below store)
      (after_did (ts.increased name (stepped o step store) locals again tasks at) (seen_as frame source locals) at tasks held store)) (sym (slots job.1 name job.2))
      (increases_stand image q actor homes frame source locals store stands function slots room below held calls (stepped (slot_value frame.slots job.1) step store) job.1 name job.3 taken again at tasks job.2 refl
      (compares_next name limit step body at tasks x job.1 job.3 frame.place end job.2 job.4 job.5 job.6 is rest)))
  job_stands (Increases name limit step body) at (v ∷ vs) tasks x end ops job is rest = let none' = job.0 in absurd (omega (arith, none'))
  job_stands (Does (g.ForEach there name body)) at vs tasks x end ops job is rest = for_each_stands there name body at vs tasks x end ops job is rest
  job_stands (NextItem name array n body) at [] tasks x end ops job is rest =
      let later = task (NextItem name array (suc n) body) at none in
      let again : RestAt (compiled function) (inside_for 1 end x) frame.place (later ∷ tasks) = (tt, x, end, record { start = frame.place; leads = here; middle = frame.place; operands = refl; job = (refl, job.1, job.2, job.3, job.4, job.5); operands_are = tt; job_is = is }, refl, rest) in
      performs image q actor homes below store frame (i.EachNext job.1 job.3) at.line (Items array n ∷ []) (kept tasks) _ job.5.has ops refl refl
      (item_stands image q actor homes frame source locals store stands function slots room below held calls (slice_get (items_of (object_at array store)) n) job.1 name job.3 (Items array (suc n)) at tasks (before body (later ∷ tasks)) job.2 (sym (kept_before body (later ∷ tasks)))
      (rest_next (compiled function) (inside_for 1 end x) job.3 (before body (later ∷ tasks)) (block_rest (compiled function) body (inside_for 1 end x) job.3 frame.place (later ∷ tasks) job.4 is again))
      (rest_next (compiled function) x (frame.place + 1) tasks (subst (λ p. RestAt (compiled function) x p tasks) (sym job.5.next) rest)))
  job_stands (NextItem name array n body) at (v ∷ vs) tasks x end ops job is rest = let none' = job.0 in absurd (omega (arith, none'))
  job_stands (NextKey name keys body) at [] tasks x end ops job is rest = keys_stand name keys body at tasks x end ops job is rest
  job_stands (NextKey name keys body) at (v ∷ vs) tasks x end ops job is rest = let none' = job.0 in absurd (omega (arith, none'))
  job_stands (Binds name kind) at vs tasks x end ops job is rest = bind_stands name kind at vs tasks x end ops job rest
