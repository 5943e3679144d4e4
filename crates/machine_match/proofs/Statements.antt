-- The instruction of a statement does what the statement does.
use Rattle.std.proofs.Common.{◌≡◌, ℕ, ℤ, suc, ◌+◌, List, [], ◌∷◌, ◌++◌, length, map, Option, Some, None, Bool, true, false, cond, refl, sym, ap, ◌∙◌, subst, arith}
use Rattle.std.specs.Prelude.{slice_get}
use Rattle.std.proofs.lemmas.List.{length-map}
use Rattle.brs_tokens.specs.declared.place.Place.{Place}
use Rattle.brs_grammar.specs.declared.tree.TypeWord.{TypeWord}
use Rattle.brs_grammar.specs.declared.tree.TypeWord.TheVariants as tw
use Rattle.brs_grammar.specs.declared.tree.UpdateSign.{UpdateSign}
use Rattle.brs_grammar.specs.Form as g
use Rattle.brs_grammar.specs.Form.{Text, Aim, Form, none, more, Todo}
use Rattle.brs_forms.specs.Words.{readable}
use Rattle.chan_values.specs.declared.error_code.ErrorCode.{ErrorCode}
use Rattle.chan_values.specs.declared.error_code.ErrorCode.TheVariants.{E2}
use Rattle.heap_meaning.specs.declared.plain.Plain.TheVariants as p
use Rattle.heap_meaning.specs.Values.{StoreValue, Scalar}
use Rattle.heap_meaning.specs.Keys.{keys_of}
use Rattle.heap_meaning.specs.Store.{Object, ArrayObject, MapObject, Store}
use Rattle.plain_operations.specs.Fit.{fitted}
use Rattle.brs_code.specs.declared.instr.Instr.{Instr}
use Rattle.brs_code.specs.declared.function.ValueType.{ValueType}
use Rattle.brs_code.specs.Instruction.{pops}
use Rattle.code_relation.specs.declared.exits.Exits.{Exits}
use Rattle.code_relation.specs.Heads.{mark_of, value_type, set_instr}
use Rattle.code_relation.specs.Standing.{Has, Aims}
use Rattle.brs_meaning.specs.Program.{Program, Function, place_in}
use Rattle.brs_meaning.specs.Locals.{Home, Locals, assigned}
use Rattle.brs_meaning.specs.Given as t
use Rattle.brs_meaning.specs.Given.{Given}
use Rattle.brs_meaning.specs.Members.{member_written, index_written}
use Rattle.brs_builtins.specs.Operands.{operand}
use Rattle.brs_meaning.specs.Typed as ty
use Rattle.brs_meaning.specs.Did as d
use Rattle.brs_meaning.specs.Printing.{Printing, Printed, Unprinted}
use Rattle.brs_meaning.specs.Statements as ts
use Rattle.brs_meaning.specs.Statements.{task, chosen, written, read_first, within}
use Rattle.brs_meaning.specs.Running.{Combines, Compares, NextItem, NextKey, Task, under, Held}
use Rattle.brs_meaning.specs.Moving.{next}
use Rattle.brs_meaning.specs.Reduction as tr
use Rattle.brs_meaning.specs.Reduction.{Reduced, reduced, Went, after_did, with_locals}
use Rattle.machine_meaning.specs.Image.{Image}
use Rattle.machine_meaning.specs.Frame as f
use Rattle.machine_meaning.specs.Frame.{Holds, Items, Keys, Slots, with_slot, Frame, Suspended}
use Rattle.machine_meaning.specs.Acted as a
use Rattle.machine_meaning.specs.Setting.{passes, writes, keeps, with_text}
use Rattle.machine_meaning.specs.Statements as mst
use Rattle.machine_meaning.specs.Statements.{form_mark, prints, typed, plain_type, leaves, binds, branch, compares, increases, goes_over, next_item}
use Rattle.machine_meaning.specs.Instructions.{acted}
use Rattle.machine_meaning.specs.Stepping as ms
use Rattle.machine_meaning.specs.Stepping.{Shows, carried, setting_of, free_way}
use Rattle.machine_match.specs.Places.{kept, RestAt, NextAt, HoleAt}
use Rattle.machine_match.specs.Stands.{FunctionStands, ImageStands, SlotsAre, seen_as, compiled, CallsStand, ShownStands}
use Rattle.machine_match.proofs.Control.{rest_next, give_stands}
use Rattle.machine_match.proofs.Words.{slots_set, room_set}
use Rattle.machine_match.proofs.Going.{Stepped, performs, next_stands, leave_stands, raised_stands}

-- ---- words

pub marks_same : (marks : List g.Mark) → map form_mark (map mark_of marks) ≡ marks
marks_same [] = refl
marks_same (g.Semicolon ∷ marks) = ap (λ l. g.Semicolon ∷ l) (marks_same marks)
marks_same (g.Comma ∷ marks) = ap (λ l. g.Comma ∷ l) (marks_same marks)
marks_same (g.Shown ∷ marks) = ap (λ l. g.Shown ∷ l) (marks_same marks)

type_same : (kind : Option TypeWord) → plain_type (value_type kind) ≡ ty.value_type kind
type_same None = refl
type_same (Some tw.Integer) = refl
type_same (Some tw.LongInteger) = refl
type_same (Some tw.String) = refl
type_same (Some tw.Boolean) = refl
type_same (Some tw.Function) = refl
type_same (Some tw.Object) = refl
type_same (Some tw.Dynamic) = refl
type_same (Some tw.Interface) = refl
type_same (Some tw.Void) = refl

pub typed_same : (kind : ValueType) (word : Option TypeWord) (v : StoreValue) → kind ≡ value_type word → typed kind v ≡ ty.typed word v
typed_same kind word v e = ap (λ z. ty.fit_value (fitted z (operand v)) v) (ap plain_type e ∙ type_same word)

module _ (image : Image) (q : Program) (actor : ℕ) (homes : List Home) (frame : Frame) (source : Function) (locals : Locals) (store : Store) (stands : ImageStands image q) (function : FunctionStands image q frame.function source) (slots : SlotsAre frame.function frame.slots locals) (room : length frame.slots ≡ length frame.function.names) (below : List Suspended) (held : List Held) (calls : CallsStand image q below held) where
  -- ---- what stands after a statement

  -- it goes on, with these slots and operands
  pub goes : (slots' : Slots) (locals' : Locals) (after : Store) (back rest : List f.Operand) (to : ℕ) (tasks : List Task)
      → SlotsAre frame.function slots' locals' → length slots' ≡ length frame.function.names → back ++ rest ≡ kept tasks → NextAt (compiled function) to tasks
      → ShownStands image q (Shows Went (f.Works (record frame { place = to; operands = back ++ rest; slots = slots' }) below) after) (reduced Went (next (with_locals (seen_as frame source locals) locals') tasks held) after)
  goes slots' locals' after back rest to tasks are fits ops at =
      (refl, refl, next_stands image q (record frame { place = to; operands = back ++ rest; slots = slots' }) (with_locals (seen_as frame source locals) locals') (record { function = function; same = refl; slots = are; room = fits }) tasks below held ops at calls)

  -- the locals stay
  pub stays : (after : Store) (back rest : List f.Operand) (to : ℕ) (tasks : List Task) → back ++ rest ≡ kept tasks → NextAt (compiled function) to tasks
      → ShownStands image q (Shows Went (f.Works (record frame { place = to; operands = back ++ rest; slots = frame.slots }) below) after) (reduced Went (next (with_locals (seen_as frame source locals) locals) tasks held) after)
  stays after back rest to tasks ops at = goes frame.slots locals after back rest to tasks slots room ops at

  -- a local is set
  pub sets : (n : ℕ) (x : Text) (v : StoreValue) (after : Store) (back rest : List f.Operand) (to : ℕ) (tasks : List Task) → slice_get frame.function.names n ≡ Some x → back ++ rest ≡ kept tasks → NextAt (compiled function) to tasks
      → ShownStands image q (Shows Went (f.Works (record frame { place = to; operands = back ++ rest; slots = with_slot n v frame.slots }) below) after) (reduced Went (next (with_locals (seen_as frame source locals) (assigned x v locals)) tasks held) after)
  sets n x v after back rest to tasks named ops at =
      goes (with_slot n v frame.slots) (assigned x v locals) after back rest to tasks (slots_set frame.function frame.slots locals n x v function.code.names room named slots) (room_set frame.function frame.slots n v room) ops at

  pub faults : (e : ErrorCode) (at : Place) (rest : List f.Operand) → ShownStands image q (carried (a.Faults e) homes frame at.line rest below store) (tr.raised e source at store)
  faults e at rest = raised_stands image q e e frame.function source at at.line store function.path refl refl

  -- an instruction that takes values
  pub does : (x : Instr) (line : ℕ) (vs : List StoreValue) (rest : List f.Operand) (after : Reduced)
      → Has frame.function frame.place x line → frame.operands ≡ map Holds vs ++ rest → pops x ≡ length vs → free_way x (map Holds vs ++ rest) frame.place ≡ None
      → ShownStands image q (carried (acted (setting_of image actor homes frame) x (map Holds vs) store) homes frame line rest below store) after → Stepped image q actor homes below store frame after
  does x line vs rest after has ops takes free shows = performs image q actor homes below store frame x line (map Holds vs) rest after has ops (takes ∙ sym (length-map vs Holds)) free shows

  -- ---- assignments

  pub writes_stand : (given : Given) (at : Place) (tasks : List Task) (x : Exits) → RestAt (compiled function) x (frame.place + 1) tasks
      → ShownStands image q (carried (writes (setting_of image actor homes frame) given) homes frame at.line (kept tasks) below store) (after_did (written given locals tasks at) (seen_as frame source locals) at tasks held store)
  writes_stand (t.Gives v after) at tasks x rest = stays after [] (kept tasks) (frame.place + 1) tasks refl (rest_next (compiled function) x (frame.place + 1) tasks rest)
  writes_stand (t.Wants request) at tasks x rest =
      (refl, refl, (record { frame_stands = record { function = function; same = refl; slots = slots; room = room }; line = refl; lands = (refl, x, rest) }, calls))
  writes_stand (t.Fails e) at tasks x rest = faults e at (kept tasks)
  writes_stand (t.Calls g m vs) at tasks x rest = faults E2 at (kept tasks)

  pub set_stands : (aim : Aim) (at : Place) (vs : List StoreValue) (n : ℕ) (tasks : List Task) (x : Exits) → Aims frame.function aim n → pops (set_instr aim n) ≡ length vs → RestAt (compiled function) x (frame.place + 1) tasks
      → ShownStands image q (carried (acted (setting_of image actor homes frame) (set_instr aim n) (map Holds vs) store) homes frame at.line (kept tasks) below store)
      (after_did (ts.set (tr.setting_of q actor homes (seen_as frame source locals)) aim vs store tasks at) (seen_as frame source locals) at tasks held store)
  set_stands (g.ToName y) at [] n tasks x aims takes rest = let one : 1 ≡ 0 = takes in absurd (omega (arith, one))
  set_stands (g.ToName y) at (v ∷ []) n tasks x aims takes rest = sets n y v store [] (kept tasks) (frame.place + 1) tasks aims refl (rest_next (compiled function) x (frame.place + 1) tasks rest)
  set_stands (g.ToName y) at (v ∷ w ∷ vs) n tasks x aims takes rest = let one : 1 ≡ suc (suc (length vs)) = takes in absurd (omega (arith, one))
  set_stands (g.ToMember k) at [] n tasks x aims takes rest = let two : 2 ≡ 0 = takes in absurd (omega (arith, two))
  set_stands (g.ToMember k) at (v ∷ []) n tasks x aims takes rest = let two : 2 ≡ 1 = takes in absurd (omega (arith, two))
  set_stands (g.ToMember k) at (v ∷ y ∷ []) n tasks x aims takes rest =
      subst (λ o. ShownStands image q (carried (with_text o (λ k. mst.set_member (setting_of image actor homes frame) k (v ∷ y ∷ []) store)) homes frame at.line (kept tasks) below store) (after_did (written (member_written y (readable k) v store) locals tasks at) (seen_as frame source locals) at tasks held store)) (sym aims)
      (writes_stand (member_written y (readable k) v store) at tasks x rest)
  set_stands (g.ToMember k) at (v ∷ y ∷ w ∷ vs) n tasks x aims takes rest = let two : 2 ≡ suc (suc (suc (length vs))) = takes in absurd (omega (arith, two))
  set_stands g.ToIndex at [] n tasks x aims takes rest = let three : 3 ≡ 0 = takes in absurd (omega (arith, three))
  set_stands g.ToIndex at (v ∷ []) n tasks x aims takes rest = let three : 3 ≡ 1 = takes in absurd (omega (arith, three))
  set_stands g.ToIndex at (v ∷ w ∷ []) n tasks x aims takes rest = let three : 3 ≡ 2 = takes in absurd (omega (arith, three))
  set_stands g.ToIndex at (v ∷ k ∷ y ∷ []) n tasks x aims takes rest = writes_stand (index_written y k v store) at tasks x rest
  set_stands g.ToIndex at (v ∷ k ∷ y ∷ w ∷ vs) n tasks x aims takes rest = let three : 3 ≡ suc (suc (suc (suc (length vs)))) = takes in absurd (omega (arith, three))

  -- what was read stands on the operands of the target, and the other side comes
  pub keeps_stand : (given : Given) (at : Place) (aim : Aim) (sign : UpdateSign) (there : Place) (e : Form) (vs : List StoreValue) (tasks : List Task) (x : Exits) (end : ℕ)
      → HoleAt (compiled function) x (frame.place + 1) [] (under (Combines aim sign there) at vs (more e none)) (map Holds vs ++ kept tasks) (kept tasks) end → RestAt (compiled function) x end tasks
      → ShownStands image q (carried (keeps (setting_of image actor homes frame) (map Holds vs) given) homes frame at.line (kept tasks) below store)
      (after_did (read_first given (under (Combines aim sign there) at vs (more e none)) at) (seen_as frame source locals) at tasks held store)
  keeps_stand (t.Gives v after) at aim sign there e vs tasks x end hole rest =
      let land = give_stands (compiled function) v [] (under (Combines aim sign there) at vs (more e none)) x (frame.place + 1) (map Holds vs ++ kept tasks) end tasks hole rest in
      (refl, refl, (record { frame_stands = record { function = function; same = refl; slots = slots; room = room }; place = land.place; flows = land.flows; exits = x; at = land.at }, calls))
  keeps_stand (t.Wants request) at aim sign there e vs tasks x end hole rest =
      (refl, refl, (record { frame_stands = record { function = function; same = refl; slots = slots; room = room }; line = refl; lands = (x, end, hole, rest) }, calls))
  keeps_stand (t.Fails error) at aim sign there e vs tasks x end hole rest = faults error at (kept tasks)
  keeps_stand (t.Calls g' m ws) at aim sign there e vs tasks x end hole rest = faults E2 at (kept tasks)

  -- ---- prints and returns

  pub prints_stand : (printing : Printing) (at : Place) (tasks : List Task) (x : Exits) → RestAt (compiled function) x (frame.place + 1) tasks
      → ShownStands image q (carried (prints printing) homes frame at.line (kept tasks) below store) (after_did (ts.shown printing at) (seen_as frame source locals) at tasks held store)
  prints_stand (Printed text) at tasks x rest =
      (refl, refl, next_stands image q (record frame { place = frame.place + 1; operands = kept tasks }) (seen_as frame source locals) (record { function = function; same = refl; slots = slots; room = room }) tasks below held refl (rest_next (compiled function) x (frame.place + 1) tasks rest) calls)
  prints_stand (Unprinted e) at tasks x rest = faults e at (kept tasks)

  pub leaves_stand : (o : Option StoreValue) (at : Place) (tasks : List Task)
      → ShownStands image q (carried (leaves o) homes frame at.line (kept tasks) below store) (after_did (ts.returned_as o at) (seen_as frame source locals) at tasks held store)
  leaves_stand (Some v) at tasks =
      subst (λ file. ShownStands image q (ms.leave frame.kind v (record { path = file; line = at.line }) below store) (tr.leave frame.kind v (place_in source at) held store)) function.path (leave_stands image q frame.kind v (place_in source at) below held store calls)
  leaves_stand None at tasks = faults E2 at (kept tasks)

  -- ---- choices and loops

  pub branch_stands : (to : ℕ) (vs : List StoreValue) (at : Place) (tasks one other : List Task) → kept tasks ≡ kept one → kept tasks ≡ kept other → NextAt (compiled function) (frame.place + 1) one → NextAt (compiled function) to other
      → ShownStands image q (carried (branch (setting_of image actor homes frame) to vs store) homes frame at.line (kept tasks) below store) (after_did (chosen vs locals store one other at) (seen_as frame source locals) at tasks held store)
  branch_stands to (Scalar (p.Truth true) ∷ []) at tasks one other k l yes' no' = stays store [] (kept tasks) (frame.place + 1) one k yes'
  branch_stands to (Scalar (p.Truth false) ∷ []) at tasks one other k l yes' no' = stays store [] (kept tasks) to other l no'
  branch_stands to _ at tasks one other k l yes' no' = faults E2 at (kept tasks)

  pub begins_stand : (b : Bool) (n : ℕ) (name : Text) (start end step : StoreValue) (body : Todo) (at : Place) (tasks : List Task) → slice_get frame.function.names n ≡ Some name → NextAt (compiled function) (frame.place + 1) (task (Compares name end step body) at none ∷ tasks)
      → ShownStands image q (carried (cond b (passes (setting_of image actor homes frame) (with_slot n start frame.slots) store (Holds step ∷ Holds end ∷ [])) (a.Faults E2)) homes frame at.line (kept tasks) below store)
      (after_did (cond b (d.Goes (assigned name start locals) store (task (Compares name end step body) at none ∷ tasks)) (d.Breaks E2 at)) (seen_as frame source locals) at tasks held store)
  begins_stand true n name start end step body at tasks named next' = sets n name start store (Holds step ∷ Holds end ∷ []) (kept tasks) (frame.place + 1) (task (Compares name end step body) at none ∷ tasks) named refl next'
  begins_stand false n name start end step body at tasks named next' = faults E2 at (kept tasks)

  within_stand : (b : Bool) (to : ℕ) (taken : List f.Operand) (at : Place) (tasks one other : List Task) → taken ++ kept tasks ≡ kept one → kept tasks ≡ kept other → NextAt (compiled function) (frame.place + 1) one → NextAt (compiled function) to other
      → ShownStands image q (carried (cond b (passes (setting_of image actor homes frame) frame.slots store taken) (a.Goes frame.slots store [] to)) homes frame at.line (kept tasks) below store)
      (after_did (cond b (d.Goes locals store one) (d.Goes locals store other)) (seen_as frame source locals) at tasks held store)
  within_stand true to taken at tasks one other k l yes' no' = stays store taken (kept tasks) (frame.place + 1) one k yes'
  within_stand false to taken at tasks one other k l yes' no' = stays store [] (kept tasks) to other l no'

  pub compares_stand : (now end step : Option ℤ) (to : ℕ) (taken : List f.Operand) (at : Place) (tasks one other : List Task) → taken ++ kept tasks ≡ kept one → kept tasks ≡ kept other → NextAt (compiled function) (frame.place + 1) one → NextAt (compiled function) to other
      → ShownStands image q (carried (compares (setting_of image actor homes frame) to taken now end step store) homes frame at.line (kept tasks) below store)
      (after_did (ts.compare now end step locals store one other at) (seen_as frame source locals) at tasks held store)
  compares_stand (Some now) (Some end) (Some step) to taken at tasks one other k l yes' no' = within_stand (within now end step) to taken at tasks one other k l yes' no'
  compares_stand _ _ _ to taken at tasks one other k l yes' no' = faults E2 at (kept tasks)

  pub increases_stand : (given : Given) (n : ℕ) (name : Text) (to : ℕ) (taken : List f.Operand) (again : Task) (at : Place) (tasks : List Task) → slice_get frame.function.names n ≡ Some name → taken ++ kept tasks ≡ kept (again ∷ tasks) → NextAt (compiled function) to (again ∷ tasks)
      → ShownStands image q (carried (increases (setting_of image actor homes frame) n to taken given) homes frame at.line (kept tasks) below store) (after_did (ts.increased name given locals again tasks at) (seen_as frame source locals) at tasks held store)
  increases_stand (t.Gives v after) n name to taken again at tasks named k next' = sets n name v after taken (kept tasks) to (again ∷ tasks) named k next'
  increases_stand _ n name to taken again at tasks named k next' = faults E2 at (kept tasks)

  pub goes_over_stands : (o : Option Object) (v : StoreValue) (name : Text) (to : ℕ) (body : Todo) (at : Place) (tasks : List Task)
      → NextAt (compiled function) to (task (NextItem name v 0 body) at none ∷ tasks) → ((keys : List Text) → NextAt (compiled function) to (task (NextKey name keys body) at none ∷ tasks))
      → ShownStands image q (carried (goes_over (setting_of image actor homes frame) to v o store) homes frame at.line (kept tasks) below store) (after_did (ts.each_begun name v o body locals store tasks at) (seen_as frame source locals) at tasks held store)
  goes_over_stands (Some (ArrayObject items)) v name to body at tasks by_item by_key = stays store (Items v 0 ∷ []) (kept tasks) to (task (NextItem name v 0 body) at none ∷ tasks) refl by_item
  goes_over_stands (Some (MapObject es)) v name to body at tasks by_item by_key = stays store (Keys (keys_of es) ∷ []) (kept tasks) to (task (NextKey name (keys_of es) body) at none ∷ tasks) refl (by_key (keys_of es))
  goes_over_stands _ v name to body at tasks by_item by_key = faults E2 at (kept tasks)

  pub item_stands : (o : Option StoreValue) (n : ℕ) (name : Text) (to : ℕ) (later : f.Operand) (at : Place) (tasks one : List Task) → slice_get frame.function.names n ≡ Some name → later ∷ kept tasks ≡ kept one → NextAt (compiled function) to one → NextAt (compiled function) (frame.place + 1) tasks
      → ShownStands image q (carried (next_item (setting_of image actor homes frame) n to later o store) homes frame at.line (kept tasks) below store) (after_did (ts.next_item name o locals store one tasks) (seen_as frame source locals) at tasks held store)
  item_stands (Some v) n name to later at tasks one named k at_one at_other = sets n name v store (later ∷ []) (kept tasks) to one named k at_one
  item_stands None n name to later at tasks one named k at_one at_other = stays store [] (kept tasks) (frame.place + 1) tasks refl at_other

  pub binds_stand : (o : Option StoreValue) (n : ℕ) (name : Text) (at : Place) (tasks : List Task) (x : Exits) → slice_get frame.function.names n ≡ Some name → RestAt (compiled function) x (frame.place + 1) tasks
      → ShownStands image q (carried (binds (setting_of image actor homes frame) n o store) homes frame at.line (kept tasks) below store) (after_did (ts.bound_as name o locals store tasks at) (seen_as frame source locals) at tasks held store)
  binds_stand (Some v) n name at tasks x named rest = sets n name v store [] (kept tasks) (frame.place + 1) tasks named refl (rest_next (compiled function) x (frame.place + 1) tasks rest)
  binds_stand None n name at tasks x named rest = faults E2 at (kept tasks)
