-- What a statement does with the values of its operands, of which the last stands first: one row for each statement.
use Rattle.std.specs.Prelude.{ℤ, pos, suc, Bool, true, false, List, [], ◌∷◌, reverse, Option, Some, None, cond, slice_get, int_lt, int_le}
use Rattle.brs_tokens.specs.declared.place.Place.{Place}
use Rattle.brs_grammar.specs.declared.tree.LoopKind.{LoopKind}
use Rattle.brs_grammar.specs.declared.tree.LoopKind.TheVariants as loop
use Rattle.brs_grammar.specs.declared.tree.TypeWord.{TypeWord}
use Rattle.brs_grammar.specs.declared.tree.UpdateSign.{UpdateSign}
use Rattle.brs_grammar.specs.Form.{Text, Aim, ToName, Form, Forms, none, more, Set, Update, Drop, Print, Return, Exit, If, While, For, ForEach, Todo}
use Rattle.chan_values.specs.declared.error_code.ErrorCode.TheVariants.{E2}
use Rattle.heap_meaning.specs.declared.plain.Plain.TheVariants.{Invalid, Truth, Small, Big}
use Rattle.heap_meaning.specs.Values.{StoreValue, Scalar, Words, Reference}
use Rattle.heap_meaning.specs.Keys.{keys_of}
use Rattle.heap_meaning.specs.Store.{Object, ArrayObject, MapObject, Store}
use Rattle.brs_meaning.specs.Locals.{Locals, local, assigned}
use Rattle.brs_meaning.specs.Given.{Given, Gives, Calls, Wants, Fails, Setting}
use Rattle.brs_meaning.specs.Running.{Job, Does, Combines, Tests, Again, Compares, Increases, NextItem, NextKey, Binds, Task, before, Under, under, Operand, Ends}
use Rattle.brs_meaning.specs.Did.{Did, Goes, Continues, Awaits, Prints, Returns, Breaks}
use Rattle.brs_meaning.specs.Typed.{typed}
use Rattle.brs_meaning.specs.Members.{target_read, target_written}
use Rattle.brs_meaning.specs.Operators.{updating}
use Rattle.brs_meaning.specs.Heads.{binary}
use Rattle.plain_operations.specs.declared.operator.Operator.TheVariants as o
use Rattle.brs_meaning.specs.Printing.{Printing, Printed, Unprinted, printed}

-- ---- assignments

-- a write ends the statement, a node's only when its answer is there
abbrev pub written : Given → Locals → List Task → Place → Did
written (Gives v store) locals tasks at = Goes locals store tasks
written (Wants request) locals tasks at = Awaits request Ends
written (Fails e) locals tasks at = Breaks e at
-- no write is a call
written (Calls f m vs) locals tasks at = Breaks E2 at

abbrev pub set : Setting → Aim → List StoreValue → Store → List Task → Place → Did
set s (ToName x) (v ∷ []) store tasks at = Goes (assigned x v s.locals) store tasks
set s aim (v ∷ operands) store tasks at = written (target_written aim operands v store) s.locals tasks at
set s aim [] store tasks at = Breaks E2 at

-- `T += e`: what T has becomes an operand, e comes after it, and what both give is written
abbrev pub read_first : Given → Under → Place → Did
read_first (Gives v store) base at = Continues v base store
read_first (Wants request) base at = Awaits request (Operand [] base)
read_first (Fails e) base at = Breaks e at
read_first (Calls f m vs) base at = Breaks E2 at

abbrev pub update : Setting → Aim → UpdateSign → (sign_at : Place) → Form → List StoreValue → Store → Place → Did
update s aim sign there e operands store at = read_first (target_read s aim operands store) (under (Combines aim sign there) at operands (more e none)) at

abbrev pub combine : Aim → Given → (sign_at : Place) → List StoreValue → Place → Did
combine aim (Gives v store) there operands at = Continues v (under (Does (Set aim)) at operands none) store
combine aim (Fails e) there operands at = Breaks e there
combine aim _ there operands at = Breaks E2 there

-- ---- choices and loops

abbrev pub chosen : List StoreValue → Locals → Store → (one other : List Task) → Place → Did
chosen (Scalar (Truth true) ∷ []) locals store one other at = Goes locals store one
chosen (Scalar (Truth false) ∷ []) locals store one other at = Goes locals store other
chosen _ locals store one other at = Breaks E2 at

abbrev pub task : Job → Place → Forms → Task
task job at fs = record { job = job; place = at; operands = fs }

abbrev pub number : StoreValue → Option ℤ
number (Scalar (Small n)) = Some n
number (Scalar (Big n)) = Some n
number _ = None

-- the variable of a `for` is set to the start where start, end and step are numbers
abbrev pub numbers : Option ℤ → Option ℤ → Option ℤ → Bool
numbers (Some a) (Some b) (Some c) = true
numbers _ _ _ = false

abbrev pub for_begun : Text → (start end step : StoreValue) → Todo → Locals → Store → List Task → Place → Did
for_begun x start end step body locals store tasks at =
    cond (numbers (number start) (number end) (number step)) (Goes (assigned x start locals) store (task (Compares x end step body) at none ∷ tasks)) (Breaks E2 at)

abbrev pub begin_for : Text → List StoreValue → Todo → Locals → Store → List Task → Place → Did
begin_for x (end ∷ start ∷ []) body locals store tasks at = for_begun x start end (Scalar (Small (pos 1))) body locals store tasks at
begin_for x (step ∷ end ∷ start ∷ []) body locals store tasks at = for_begun x start end step body locals store tasks at
begin_for x _ body locals store tasks at = Breaks E2 at

-- up to the end where the step isn't negative, else down to it
abbrev pub within : (now end step : ℤ) → Bool
within now end step = cond (int_lt step (pos 0)) (int_le end now) (int_le now end)

abbrev pub compare : Option ℤ → Option ℤ → Option ℤ → Locals → Store → (one other : List Task) → Place → Did
compare (Some now) (Some end) (Some step) locals store one other at = cond (within now end step) (Goes locals store one) (Goes locals store other)
compare _ _ _ locals store one other at = Breaks E2 at

abbrev pub variable_number : Option StoreValue → Option ℤ
variable_number None = None
variable_number (Some v) = number v

-- the variable and the step are added where both are numbers
abbrev pub stepped : Option StoreValue → StoreValue → Store → Given
stepped None step store = Fails E2
stepped (Some v) step store = cond (numbers (number v) (number step) (Some (pos 0))) (binary o.Add (step ∷ v ∷ []) store) (Fails E2)

abbrev pub increased : Text → Given → Locals → Task → List Task → Place → Did
increased x (Gives v store) locals again tasks at = Goes (assigned x v locals) store (again ∷ tasks)
increased x _ locals again tasks at = Breaks E2 at

-- `for each`: an array by its items as they are then, an associative array by the keys that it had at the begin
abbrev pub each_begun : Text → StoreValue → Option Object → Todo → Locals → Store → List Task → Place → Did
each_begun x v (Some (ArrayObject items)) body locals store tasks at = Goes locals store (task (NextItem x v 0 body) at none ∷ tasks)
each_begun x v (Some (MapObject entries)) body locals store tasks at = Goes locals store (task (NextKey x (keys_of entries) body) at none ∷ tasks)
each_begun x v _ body locals store tasks at = Breaks E2 at

abbrev pub object_at : StoreValue → Store → Option Object
object_at (Reference n) store = slice_get store n
object_at _ store = None

abbrev pub begin_each : Text → List StoreValue → Todo → Locals → Store → List Task → Place → Did
begin_each x (v ∷ []) body locals store tasks at = each_begun x v (object_at v store) body locals store tasks at
begin_each x _ body locals store tasks at = Breaks E2 at

abbrev pub items_of : Option Object → List StoreValue
items_of (Some (ArrayObject items)) = items
items_of _ = []

abbrev pub next_item : Text → Option StoreValue → Locals → Store → (one other : List Task) → Did
next_item x (Some v) locals store one other = Goes (assigned x v locals) store one
next_item x None locals store one other = Goes locals store other

abbrev pub next_key : Text → List Text → (List Text → Task) → Todo → Locals → Store → List Task → Did
next_key x [] again body locals store tasks = Goes locals store tasks
next_key x (k ∷ keys) again body locals store tasks = Goes (assigned x (Words k) locals) store (before body (again keys ∷ tasks))

-- ---- the end of a loop, of a call, of a statement

-- whether the task is what a loop of this kind has still to do; `for` covers `for each`
abbrev pub is_loop : LoopKind → Job → Bool
is_loop loop.While (Again c body) = true
is_loop loop.For (Increases x end step body) = true
is_loop loop.For (NextItem x v n body) = true
is_loop loop.For (NextKey x keys body) = true
is_loop kind job = false

-- what is to do behind the innermost loop of this kind
abbrev pub left : LoopKind → List Task → List Task
left kind [] = []
left kind (t ∷ tasks) = cond (is_loop kind t.job) tasks (left kind tasks)

abbrev pub returned_as : Option StoreValue → Place → Did
returned_as (Some v) at = Returns v
returned_as None at = Breaks E2 at

abbrev pub returned : Setting → List StoreValue → Place → Did
returned s [] at = Returns (Scalar Invalid)
returned s (v ∷ vs) at = returned_as (typed s.function.callee.value v) at

abbrev pub bound_as : Text → Option StoreValue → Locals → Store → List Task → Place → Did
bound_as x (Some v) locals store tasks at = Goes (assigned x v locals) store tasks
bound_as x None locals store tasks at = Breaks E2 at

abbrev pub bind : Text → Option TypeWord → List StoreValue → Locals → Store → List Task → Place → Did
bind x kind (v ∷ []) locals store tasks at = bound_as x (typed kind v) locals store tasks at
bind x kind _ locals store tasks at = Breaks E2 at

abbrev pub shown : Printing → Place → Did
shown (Printed t) at = Prints t
shown (Unprinted e) at = Breaks e at

abbrev pub act : Setting → Job → Place → List StoreValue → Store → List Task → Did
act s (Does (Set aim)) at vs store tasks = set s aim vs store tasks at
act s (Does (Update aim sign there e)) at vs store tasks = update s aim sign there e vs store at
act s (Combines aim sign there) at (right ∷ left ∷ operands) store tasks = combine aim (binary (updating sign) (right ∷ left ∷ []) store) there operands at
act s (Combines aim sign there) at _ store tasks = Breaks E2 there
act s (Does Drop) at vs store tasks = Goes s.locals store tasks
act s (Does (Print marks)) at vs store tasks = shown (printed marks (reverse vs) store) at
act s (Does Return) at vs store tasks = returned s vs at
act s (Does (Exit kind)) at vs store tasks = Goes s.locals store (left kind tasks)
act s (Does (If one other)) at vs store tasks = chosen vs s.locals store (before one tasks) (before other tasks) at
act s (Does (While c body)) at vs store tasks = Goes s.locals store (task (Tests c body) at (more c none) ∷ tasks)
act s (Tests c body) at vs store tasks = chosen vs s.locals store (before body (task (Again c body) at none ∷ tasks)) tasks at
act s (Again c body) at vs store tasks = Goes s.locals store (task (Tests c body) at (more c none) ∷ tasks)
act s (Does (For there x body)) at vs store tasks = begin_for x vs body s.locals store tasks at
act s (Compares x end step body) at vs store tasks =
    compare (variable_number (local x s.locals)) (number end) (number step) s.locals store (before body (task (Increases x end step body) at none ∷ tasks)) tasks at
act s (Increases x end step body) at vs store tasks = increased x (stepped (local x s.locals) step store) s.locals (task (Compares x end step body) at none) tasks at
act s (Does (ForEach there x body)) at vs store tasks = begin_each x vs body s.locals store tasks at
act s (NextItem x v n body) at vs store tasks =
    next_item x (slice_get (items_of (object_at v store)) n) s.locals store (before body (task (NextItem x v (suc n) body) at none ∷ tasks)) tasks
act s (NextKey x keys body) at vs store tasks = next_key x keys (λ later. task (NextKey x later body) at none) body s.locals store tasks
act s (Binds x kind) at vs store tasks = bind x kind vs s.locals store tasks at
