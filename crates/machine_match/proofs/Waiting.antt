-- What the next step waits for, and what many steps show.
use Rattle.std.proofs.Common.{◌≡◌, ℕ, ℤ, zero, suc, List, [], ◌∷◌, length, Option, Some, None, Bool, true, false, cond, refl, ap, ◌∙◌}
use Rattle.std.specs.Prelude.{pos, slice_get, reverse}
use Rattle.brs_tokens.specs.declared.place.Place.{Place}
use Rattle.chan_values.specs.declared.place.Place as c
use Rattle.chan_values.specs.Tree as v
use Rattle.chan_values.specs.declared.error_code.ErrorCode.TheVariants.{E2}
use Rattle.brs_grammar.specs.declared.tree.TypeWord.{TypeWord}
use Rattle.brs_grammar.specs.Form as g
use Rattle.brs_grammar.specs.Form.{Text, Aim, Todo}
use Rattle.brs_forms.specs.Words.{readable}
use Rattle.heap_meaning.specs.declared.plain.Plain.TheVariants as p
use Rattle.heap_meaning.specs.Values.{StoreValue, Scalar, Words}
use Rattle.heap_meaning.specs.Store.{Object, ArrayObject, MapObject, Store}
use Rattle.object_operations.specs.Answer as ao
use Rattle.object_operations.specs.Answer.{Answer}
use Rattle.object_operations.specs.Members.{read_member_row, write_member_row, read_index_row, write_index_row}
use Rattle.brs_meaning.specs.Program.{Program, place_in}
use Rattle.brs_meaning.specs.Locals.{Home, Locals, local, assigned}
use Rattle.brs_meaning.specs.Request.{Request, Asks, MakePort, Wait, Poll}
use Rattle.brs_meaning.specs.Given as t
use Rattle.brs_meaning.specs.Given.{Given, Setting, answered}
use Rattle.brs_meaning.specs.Did as d
use Rattle.brs_meaning.specs.Did.{Did}
use Rattle.brs_meaning.specs.Binding as tb
use Rattle.brs_meaning.specs.Names.{found, name_value}
use Rattle.brs_meaning.specs.Heads.{contract, binary}
use Rattle.brs_meaning.specs.Leaving.{leaving}
use Rattle.brs_meaning.specs.Members.{member_read, index_read, node_index_read, field_set, member_written, node_index_written, index_written, target_read, target_written}
use Rattle.brs_meaning.specs.Operators.{updating}
use Rattle.brs_meaning.specs.Printing.{Printing, Printed, Unprinted, printed}
use Rattle.brs_meaning.specs.Typed.{typed}
use Rattle.brs_meaning.specs.Statements as ts
use Rattle.brs_meaning.specs.Statements.{act, within, number, numbers, variable_number, stepped, object_at, items_of}
use Rattle.brs_meaning.specs.Running as r
use Rattle.brs_meaning.specs.Running.{Kind, Inner, OnTop, Call, Job, Does, Combines, Tests, Again, Compares, Increases, NextItem, NextKey, Binds, Task, Around, Under, under, Spot, AtHead, AtDecided, AtJob, AtEnd, AtFailure, Hole, Operand, Held, Tree, before}
use Rattle.brs_meaning.specs.Reduction as tr
use Rattle.brs_meaning.specs.Reduction.{Outcome, reduce, after_given, after_did, home_of, own_or}
use Rattle.brs_meaning.specs.Runs.{seen, outcomes}
use Rattle.brs_meaning.specs.Answering as ta
use Rattle.machine_meaning.specs.Image.{Image}
use Rattle.machine_meaning.specs.Frame as f
use Rattle.machine_meaning.specs.Frame.{Machine}
use Rattle.machine_meaning.specs.Stepping.{Shown, Shows, Stuck, StepOf}
use Rattle.machine_meaning.specs.Answering.{wait_of, next_wait}
use Rattle.machine_meaning.specs.Runs.{Runs}
use Rattle.machine_match.specs.Stands.{ImageStands, Stands, ShownStands}
use Rattle.machine_match.proofs.Steps.{step_is_reduction}

-- ---- a statement never waits for a message

abbrev IsNoWait : Request → Type 0
IsNoWait (Wait port limited) = ⊥
IsNoWait request = Unit {0}

abbrev GivenIs : Given → Type 0
GivenIs (t.Wants request) = IsNoWait request
GivenIs given = Unit {0}

abbrev DidIs : Did → Type 0
DidIs (d.Awaits request hole) = IsNoWait request
DidIs did = Unit {0}

answered_is : (answer : Answer) → GivenIs (answered answer)
answered_is (ao.Gives v store) = tt
answered_is (ao.Raises e) = tt

member_read_is : (x : StoreValue) (k : Text) (store : Store) → GivenIs (member_read x k store)
member_read_is (Scalar (p.Node n)) k store = tt
member_read_is x k store = answered_is (read_member_row (x ∷ Words k ∷ []) store)

node_index_is : (n : ℕ) (i : StoreValue) → GivenIs (node_index_read n i)
node_index_is n (Words k) = tt
node_index_is n _ = tt

index_read_is : (x i : StoreValue) (store : Store) → GivenIs (index_read x i store)
index_read_is (Scalar (p.Node n)) i store = node_index_is n i
index_read_is x i store = answered_is (read_index_row (x ∷ i ∷ []) store)

field_set_is : (n : ℕ) (k : Text) (o : Option v.Tree) → GivenIs (field_set n k o)
field_set_is n k (Some tree) = tt
field_set_is n k None = tt

member_written_is : (x : StoreValue) (k : Text) (w : StoreValue) (store : Store) → GivenIs (member_written x k w store)
member_written_is (Scalar (p.Node n)) k w store = field_set_is n k (leaving store w)
member_written_is x k w store = answered_is (write_member_row (x ∷ Words k ∷ w ∷ []) store)

node_written_is : (n : ℕ) (i w : StoreValue) (store : Store) → GivenIs (node_index_written n i w store)
node_written_is n (Words k) w store = field_set_is n k (leaving store w)
node_written_is n _ w store = tt

index_written_is : (x i w : StoreValue) (store : Store) → GivenIs (index_written x i w store)
index_written_is (Scalar (p.Node n)) i w store = node_written_is n i w store
index_written_is x i w store = answered_is (write_index_row (x ∷ i ∷ w ∷ []) store)

found_is : (o : Option StoreValue) (store : Store) → GivenIs (found o store)
found_is (Some w) store = tt
found_is None store = tt

target_read_is : (s : Setting) (aim : Aim) (vs : List StoreValue) (store : Store) → GivenIs (target_read s aim vs store)
target_read_is s (g.ToName x) vs store = found_is (name_value s x) store
target_read_is s (g.ToMember k) (x ∷ []) store = member_read_is x (readable k) store
target_read_is s g.ToIndex (i ∷ x ∷ []) store = index_read_is x i store
target_read_is s _ _ store = tt

target_written_is : (aim : Aim) (vs : List StoreValue) (w : StoreValue) (store : Store) → GivenIs (target_written aim vs w store)
target_written_is (g.ToMember k) (x ∷ []) w store = member_written_is x (readable k) w store
target_written_is g.ToIndex (i ∷ x ∷ []) w store = index_written_is x i w store
target_written_is _ _ w store = tt

written_is : (given : Given) (locals : Locals) (tasks : List Task) (at : Place) → GivenIs given → DidIs (ts.written given locals tasks at)
written_is (t.Gives w store) locals tasks at h = tt
written_is (t.Wants request) locals tasks at h = h
written_is (t.Fails e) locals tasks at h = tt
written_is (t.Calls f m vs) locals tasks at h = tt

set_is : (s : Setting) (aim : Aim) (vs : List StoreValue) (store : Store) (tasks : List Task) (at : Place) → DidIs (ts.set s aim vs store tasks at)
set_is s (g.ToName x) [] store tasks at = tt
set_is s (g.ToName x) (w ∷ []) store tasks at = tt
set_is s (g.ToName x) (w ∷ y ∷ vs) store tasks at = written_is (target_written (g.ToName x) (y ∷ vs) w store) s.locals tasks at (target_written_is (g.ToName x) (y ∷ vs) w store)
set_is s (g.ToMember k) [] store tasks at = tt
set_is s (g.ToMember k) (w ∷ vs) store tasks at = written_is (target_written (g.ToMember k) vs w store) s.locals tasks at (target_written_is (g.ToMember k) vs w store)
set_is s g.ToIndex [] store tasks at = tt
set_is s g.ToIndex (w ∷ vs) store tasks at = written_is (target_written g.ToIndex vs w store) s.locals tasks at (target_written_is g.ToIndex vs w store)

read_first_is : (given : Given) (base : Under) (at : Place) → GivenIs given → DidIs (ts.read_first given base at)
read_first_is (t.Gives w store) base at h = tt
read_first_is (t.Wants request) base at h = h
read_first_is (t.Fails e) base at h = tt
read_first_is (t.Calls f m vs) base at h = tt

combine_is : (aim : Aim) (given : Given) (there : Place) (vs : List StoreValue) (at : Place) → DidIs (ts.combine aim given there vs at)
combine_is aim (t.Gives w store) there vs at = tt
combine_is aim (t.Fails e) there vs at = tt
combine_is aim _ there vs at = tt

chosen_is : (vs : List StoreValue) (locals : Locals) (store : Store) (one other : List Task) (at : Place) → DidIs (ts.chosen vs locals store one other at)
chosen_is (Scalar (p.Truth true) ∷ []) locals store one other at = tt
chosen_is (Scalar (p.Truth false) ∷ []) locals store one other at = tt
chosen_is _ locals store one other at = tt

either_is : (b : Bool) (x y : Did) → DidIs x → DidIs y → DidIs (cond b x y)
either_is true x y h k = h
either_is false x y h k = k

begin_for_is : (x : Text) (vs : List StoreValue) (body : Todo) (locals : Locals) (store : Store) (tasks : List Task) (at : Place) → DidIs (ts.begin_for x vs body locals store tasks at)
begin_for_is x (end ∷ start ∷ []) body locals store tasks at =
    let step = Scalar (p.Small (pos 1)) in
    either_is (numbers (number start) (number end) (number step)) (d.Goes (assigned x start locals) store (ts.task (Compares x end step body) at g.none ∷ tasks)) (d.Breaks E2 at) tt tt
begin_for_is x (step ∷ end ∷ start ∷ []) body locals store tasks at =
    either_is (numbers (number start) (number end) (number step)) (d.Goes (assigned x start locals) store (ts.task (Compares x end step body) at g.none ∷ tasks)) (d.Breaks E2 at) tt tt
begin_for_is x _ body locals store tasks at = tt

compare_is : (now end step : Option ℤ) (locals : Locals) (store : Store) (one other : List Task) (at : Place) → DidIs (ts.compare now end step locals store one other at)
compare_is (Some now) (Some end) (Some step) locals store one other at = either_is (within now end step) (d.Goes locals store one) (d.Goes locals store other) tt tt
compare_is _ _ _ locals store one other at = tt

increased_is : (x : Text) (given : Given) (locals : Locals) (again : Task) (tasks : List Task) (at : Place) → DidIs (ts.increased x given locals again tasks at)
increased_is x (t.Gives w store) locals again tasks at = tt
increased_is x _ locals again tasks at = tt

each_is : (x : Text) (w : StoreValue) (o : Option Object) (body : Todo) (locals : Locals) (store : Store) (tasks : List Task) (at : Place) → DidIs (ts.each_begun x w o body locals store tasks at)
each_is x w (Some (ArrayObject items)) body locals store tasks at = tt
each_is x w (Some (MapObject es)) body locals store tasks at = tt
each_is x w _ body locals store tasks at = tt

begin_each_is : (x : Text) (vs : List StoreValue) (body : Todo) (locals : Locals) (store : Store) (tasks : List Task) (at : Place) → DidIs (ts.begin_each x vs body locals store tasks at)
begin_each_is x (w ∷ []) body locals store tasks at = each_is x w (object_at w store) body locals store tasks at
begin_each_is x _ body locals store tasks at = tt

item_is : (x : Text) (o : Option StoreValue) (locals : Locals) (store : Store) (one other : List Task) → DidIs (ts.next_item x o locals store one other)
item_is x (Some w) locals store one other = tt
item_is x None locals store one other = tt

key_is : (x : Text) (keys : List Text) (again : List Text → Task) (body : Todo) (locals : Locals) (store : Store) (tasks : List Task) → DidIs (ts.next_key x keys again body locals store tasks)
key_is x [] again body locals store tasks = tt
key_is x (k ∷ keys) again body locals store tasks = tt

returned_is : (s : Setting) (vs : List StoreValue) (at : Place) → DidIs (ts.returned s vs at)
returned_is s [] at = tt
returned_is s (w ∷ vs) at = go (typed s.function.callee.value w)
  where
    go : (o : Option StoreValue) → DidIs (ts.returned_as o at)
    go (Some y) = tt
    go None = tt

bind_is : (x : Text) (kind : Option TypeWord) (vs : List StoreValue) (locals : Locals) (store : Store) (tasks : List Task) (at : Place) → DidIs (ts.bind x kind vs locals store tasks at)
bind_is x kind [] locals store tasks at = tt
bind_is x kind (w ∷ []) locals store tasks at = go (typed kind w)
  where
    go : (o : Option StoreValue) → DidIs (ts.bound_as x o locals store tasks at)
    go (Some y) = tt
    go None = tt
bind_is x kind (w ∷ y ∷ vs) locals store tasks at = tt

shown_is : (printing : Printing) (at : Place) → DidIs (ts.shown printing at)
shown_is (Printed text) at = tt
shown_is (Unprinted e) at = tt

act_is : (s : Setting) (job : Job) (at : Place) (vs : List StoreValue) (store : Store) (tasks : List Task) → DidIs (act s job at vs store tasks)
act_is s (Does (g.Set aim)) at vs store tasks = set_is s aim vs store tasks at
act_is s (Does (g.Update aim sign there e)) at vs store tasks = read_first_is (target_read s aim vs store) (under (Combines aim sign there) at vs (g.more e g.none)) at (target_read_is s aim vs store)
act_is s (Combines aim sign there) at (right ∷ left ∷ vs) store tasks = combine_is aim (binary (updating sign) (right ∷ left ∷ []) store) there vs at
act_is s (Combines aim sign there) at [] store tasks = tt
act_is s (Combines aim sign there) at (w ∷ []) store tasks = tt
act_is s (Does g.Drop) at vs store tasks = tt
act_is s (Does (g.Print marks)) at vs store tasks = shown_is (printed marks (reverse vs) store) at
act_is s (Does g.Return) at vs store tasks = returned_is s vs at
act_is s (Does (g.Exit kind)) at vs store tasks = tt
act_is s (Does (g.If one other)) at vs store tasks = chosen_is vs s.locals store (before one tasks) (before other tasks) at
act_is s (Does (g.While e body)) at vs store tasks = tt
act_is s (Tests e body) at vs store tasks = chosen_is vs s.locals store (before body (ts.task (Again e body) at g.none ∷ tasks)) tasks at
act_is s (Again e body) at vs store tasks = tt
act_is s (Does (g.For there x body)) at vs store tasks = begin_for_is x vs body s.locals store tasks at
act_is s (Compares x end step body) at vs store tasks = compare_is (variable_number (local x s.locals)) (number end) (number step) s.locals store (before body (ts.task (Increases x end step body) at g.none ∷ tasks)) tasks at
act_is s (Increases x end step body) at vs store tasks = increased_is x (stepped (local x s.locals) step store) s.locals (ts.task (Compares x end step body) at g.none) tasks at
act_is s (Does (g.ForEach there x body)) at vs store tasks = begin_each_is x vs body s.locals store tasks at
act_is s (NextItem x w n body) at vs store tasks = item_is x (slice_get (items_of (object_at w store)) n) s.locals store (before body (ts.task (NextItem x w (suc n) body) at g.none ∷ tasks)) tasks
act_is s (NextKey x keys body) at vs store tasks = key_is x keys (λ later. ts.task (NextKey x later body) at g.none) body s.locals store tasks
act_is s (Binds x kind) at vs store tasks = bind_is x kind vs s.locals store tasks at

-- ---- so it is an expression that waits

left_waits : (o : Option v.Tree) (at : c.Place) (below : List Held) (store : Store) → wait_of (tr.left o at below store).outcome ≡ None
left_waits (Some tree) at below store = refl
left_waits None at below store = refl

leave_waits : (kind : Kind) (w : StoreValue) (at : c.Place) (below : List Held) (store : Store) → wait_of (tr.leave kind w at below store).outcome ≡ None
leave_waits OnTop w at below store = left_waits (leaving store w) at below store
leave_waits Inner w at [] store = left_waits (leaving store w) at [] store
leave_waits Inner w at (h ∷ below) store = refl

did_waits : (did : Did) (call : Call) (at : Place) (todo : List Task) (below : List Held) (old : Store) → DidIs did → wait_of (after_did did call at todo below old).outcome ≡ None
did_waits (d.Goes locals store tasks) call at todo below old is = refl
did_waits (d.Continues w base store) call at todo below old is = refl
did_waits (d.Awaits (Wait port limited) hole) call at todo below old is = absurd is
did_waits (d.Awaits (Asks access) hole) call at todo below old is = refl
did_waits (d.Awaits MakePort hole) call at todo below old is = refl
did_waits (d.Awaits (Poll port) hole) call at todo below old is = refl
did_waits (d.Prints text) call at todo below old is = refl
did_waits (d.Returns w) call at todo below old is = leave_waits call.kind w (place_in call.function at) below old
did_waits (d.Breaks e there) call at todo below old is = refl

entered_waits : (b : tb.Begun) (call : Call) (at : Place) (hole : Hole) (tasks : List Task) (below : List Held) (store : Store) → wait_of (tr.entered b call at hole tasks below store).outcome ≡ None
entered_waits (tb.Begins inner todo) call at hole tasks below store = refl
entered_waits (tb.Refuses e) call at hole tasks below store = refl

given_waits : (given : Given) (homes : List Home) (call : Call) (at : Place) (context : List Around) (base : Under) (tasks : List Task) (below : List Held) (old : Store)
    → wait_of (after_given given homes call at context base tasks below old).outcome ≡ ta.wait_of given
given_waits (t.Gives w store) homes call at context base tasks below old = refl
given_waits (t.Calls f m vs) homes call at context base tasks below old = entered_waits (tb.begun Inner f call.home (own_or m (home_of homes call.home).m) vs (suc (length below))) call at (Operand context base) tasks below old
given_waits (t.Wants (Wait port limited)) homes call at context base tasks below old = refl
given_waits (t.Wants (Asks access)) homes call at context base tasks below old = refl
given_waits (t.Wants MakePort) homes call at context base tasks below old = refl
given_waits (t.Wants (Poll port)) homes call at context base tasks below old = refl
given_waits (t.Fails e) homes call at context base tasks below old = refl

tree_waits : (q : Program) (actor : ℕ) (homes : List Home) (tree : Tree) (store : Store) → wait_of (reduce q actor homes tree store).outcome ≡ ta.next_wait q actor homes tree store
tree_waits q actor homes (r.Waits below) store = refl
tree_waits q actor homes (r.Works call (AtHead h at vs context base) tasks below) store = given_waits (contract (tr.setting_of q actor homes call) h at vs store) homes call at context base tasks below store
tree_waits q actor homes (r.Works call (AtDecided h at w e es context base) tasks below) store = refl
tree_waits q actor homes (r.Works call (AtJob job at vs) tasks below) store =
    did_waits (act (tr.setting_of q actor homes call) job at vs store tasks) call at tasks below store (act_is (tr.setting_of q actor homes call) job at vs store tasks)
tree_waits q actor homes (r.Works call AtEnd tasks below) store = leave_waits call.kind (Scalar p.Invalid) (place_in call.function call.function.heading) below store
tree_waits q actor homes (r.Works call (AtFailure e at) tasks below) store = refl

shown_waits : (image : Image) (q : Program) (actor : ℕ) (homes : List Home) (tree : Tree) (store : Store) (s : Shown) → ShownStands image q s (reduce q actor homes tree store) → next_wait s ≡ ta.next_wait q actor homes tree store
shown_waits image q actor homes tree store (Shows outcome machine after) stands = ap wait_of stands.0 ∙ tree_waits q actor homes tree store
shown_waits image q actor homes tree store Stuck stands = absurd stands

pub wait_same : (image : Image) (q : Program) (actor : ℕ) (homes : List Home) (machine : Machine) (tree : Tree) (store : Store) (s : Shown) → ImageStands image q → Stands image q machine tree → StepOf image actor homes machine store s
    → next_wait s ≡ ta.next_wait q actor homes tree store
wait_same image q actor homes machine tree store s stands both step = shown_waits image q actor homes tree store s (step_is_reduction image q actor homes store stands machine tree s both step)

-- ---- many steps

module _ (image : Image) (q : Program) (actor : ℕ) (homes : List Home) (stands : ImageStands image q) where
  work_outcomes : (n : ℕ) (call : Call) (spot : Spot) (tasks : List Task) (held : List Held) (store after : Store) (machine : Machine) (outcome : Outcome) (rest : List Outcome)
      → ShownStands image q (Shows outcome machine after) (reduce q actor homes (r.Works call spot tasks held) store)
      → ((tree : Tree) → Stands image q machine tree → rest ≡ outcomes q actor homes n tree after)
      → seen outcome rest ≡ outcomes q actor homes (suc n) (r.Works call spot tasks held) store
  work_outcomes n call spot tasks held store after machine outcome rest shows more =
      let reduced = reduce q actor homes (r.Works call spot tasks held) store in
      ap (λ o. seen o rest) shows.0
      ∙ ap (seen reduced.outcome) (more reduced.tree shows.2 ∙ ap (outcomes q actor homes n reduced.tree) shows.1)

  pub runs_same : (n : ℕ) (machine : Machine) (tree : Tree) (store : Store) (shown : List Outcome) → Stands image q machine tree → Runs image actor homes n machine store shown → shown ≡ outcomes q actor homes n tree store
  runs_same zero machine tree store shown both runs = runs
  runs_same (suc n) (f.Waits below) (r.Works call spot tasks held) store shown both runs = absurd both
  runs_same (suc n) (f.Waits below) (r.Waits held) store shown both runs = runs
  runs_same (suc n) (f.Works frame below) (r.Works call spot tasks held) store shown both runs =
      runs.6
      ∙ work_outcomes n call spot tasks held store runs.2 runs.1 runs.0 runs.3 (step_is_reduction image q actor homes store stands (f.Works frame below) (r.Works call spot tasks held) (Shows runs.0 runs.1 runs.2) both runs.4)
      (λ tree its. runs_same n runs.1 tree runs.2 runs.3 its runs.5)
  runs_same (suc n) (f.Works frame below) (r.Waits held) store shown both runs = absurd both
  runs_same (suc n) (f.Fails e h below) (r.Works call spot tasks held) store shown both runs =
      runs.6
      ∙ work_outcomes n call spot tasks held store runs.2 runs.1 runs.0 runs.3 (step_is_reduction image q actor homes store stands (f.Fails e h below) (r.Works call spot tasks held) (Shows runs.0 runs.1 runs.2) both runs.4)
      (λ tree its. runs_same n runs.1 tree runs.2 runs.3 its runs.5)
  runs_same (suc n) (f.Fails e h below) (r.Waits held) store shown both runs = absurd both
