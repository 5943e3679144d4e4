-- Channels for runs that are worked out by hand: their code as trees, and their tables.
use Rattle.std.specs.Prelude.{ℕ, pos, Bool, false, List, [], ◌∷◌, ◌++◌, map, cond, ◌==◌, Option, Some, None, slice_get, codes}
use Rattle.std.specs.Str.{bytes_eq}
use Rattle.std.proofs.Common.{◌≡◌, refl, arith}
use Rattle.brs_tokens.specs.declared.place.Place as t
use Rattle.chan_values.specs.declared.portable.Portable.TheVariants as p
use Rattle.field_types.specs.declared.types.FieldType.{FieldType}
use Rattle.field_types.specs.declared.types.FieldType.TheVariants as ty
use Rattle.field_types.specs.declared.plans.FieldPlan.{FieldPlan}
use Rattle.field_types.specs.declared.plans.ChildPlan.{ChildPlan}
use Rattle.field_types.specs.declared.plans.KindPlan.{KindPlan}
use Rattle.field_types.specs.Plans.{IsNext, IsPlanTable}
use Rattle.field_types.proofs.Tables.{table_more}
use Rattle.heap_meaning.specs.Values.{Entry}
use Rattle.brs_grammar.specs.Form as f
use Rattle.brs_grammar.specs.Form.{Text, Form, Node, none, more, Params, unnamed, Todo, finish, first}
use Rattle.brs_grammar.specs.Parts.{forms}
use Rattle.brs_meaning.specs.Program.{Function, Scope}
use Rattle.world_meaning.specs.Channel.{Channel, Component}

-- ---- code: everything stands on line 2, but for the headings on line 1

abbrev pub here : t.Place
here = record { line = 2; column = 1 }

abbrev pub number : Text → Form
number n = Node (f.Number n) here none

-- with its quotes
abbrev pub text : Text → Form
text x = Node (f.Quoted x) here none

abbrev pub truth : Bool → Form
truth b = Node (f.Truth b) here none

abbrev pub name : Text → Form
name x = Node (f.Name x) here none

abbrev pub member : Form → Text → Form
member x k = Node (f.Member k) here (more x none)

abbrev pub called : Text → List Form → Form
called x es = Node f.Call here (more (name x) (forms es))

-- `x.k(..)`
abbrev pub method : Form → Text → List Form → Form
method x k es = Node (f.CallMember k) here (more x (forms es))

abbrev pub m_top : Form
m_top = member (name (codes "m")) (codes "top")

abbrev pub create : Text → Form
create kind = called (codes "createobject") (text (codes "\"roSGNode\"") ∷ text kind ∷ [])

abbrev pub new_port : Form
new_port = called (codes "createobject") (text (codes "\"roMessagePort\"") ∷ [])

-- `x = e`, `x.k = e`, `print e`, `return e`, and a call as a statement
abbrev pub set : Text → Form → Todo → Todo
set x e rest = first (f.Set (f.ToName x)) here (more e none) rest

abbrev pub put : Form → Text → Form → Todo → Todo
put x k e rest = first (f.Set (f.ToMember k)) here (more x (more e none)) rest

abbrev pub print : Form → Todo → Todo
print e rest = first (f.Print (f.Shown ∷ [])) here (more e none) rest

abbrev pub return : Form → Todo
return e = first f.Return here (more e none) finish

abbrev pub drop : Form → Todo → Todo
drop e rest = first f.Drop here (more e none) rest

abbrev pub function : Params → Todo → Function
function params body = record { file = 0; path = 0; heading = record { line = 1; column = 1 }; callee = record { params = params; value = None; body = body } }

abbrev pub sub : Todo → Function
sub body = function unnamed body

-- ---- tables

abbrev pub field : Text → FieldType → Bool → FieldPlan
field id kind always = record { id = id; kind = kind; always = always; opening = p.Nothing }

abbrev pub text_field : Text → FieldPlan
text_field id = record { id = id; kind = ty.String; always = false; opening = p.Words [] }

abbrev pub number_field : Text → Bool → FieldPlan
number_field id always = record { id = id; kind = ty.Integer; always = always; opening = p.Small (pos 0) }

abbrev pub plan : Text → Option ℕ → List FieldPlan → List ChildPlan → (nodes : ℕ) → KindPlan
plan kind base fields children nodes = record { kind = kind; base = base; fields = fields; children = children; nodes = nodes }

abbrev node_plan : KindPlan
node_plan = plan (codes "Node") None (text_field (codes "id") ∷ []) [] 1

abbrev group_plan : KindPlan
group_plan = plan (codes "Group") (Some 0) [] [] 1

abbrev task_plan : KindPlan
task_plan = plan (codes "Task") (Some 0) (text_field (codes "functionName") ∷ text_field (codes "control") ∷ record { id = codes "state"; kind = ty.String; always = false; opening = p.Words (codes "init") } ∷ []) [] 1

-- Node, Group and Task at the places 0, 1 and 2
abbrev pub built_in_plans : List KindPlan
built_in_plans = node_plan ∷ group_plan ∷ task_plan ∷ []

none_table : IsPlanTable []
none_table = record { each = λ at p e. absurd cc }

-- a plan behind them makes a table of them and of itself
pub table_with : (p : KindPlan) → IsNext built_in_plans p → IsPlanTable (built_in_plans ++ p ∷ [])
table_with p next =
    let one : IsPlanTable (node_plan ∷ []) = table_more [] node_plan none_table (record { base = (refl, refl); openings = (refl, tt); elements = tt; nodes = refl }) in
    let two : IsPlanTable (node_plan ∷ group_plan ∷ []) = table_more (node_plan ∷ []) group_plan one (record { base = omega arith; openings = tt; elements = tt; nodes = refl }) in
    let three : IsPlanTable built_in_plans = table_more (node_plan ∷ group_plan ∷ []) task_plan two (record { base = omega arith; openings = (refl, (refl, (refl, tt))); elements = tt; nodes = refl }) in
    table_more built_in_plans p three next

-- the function of a name, by its number
abbrev pub at : Text → ℕ → Entry ℕ
at x n = record { key = x; value = n }

abbrev pub component : (scope : ℕ) → Option ℕ → List (Entry Text) → List Text → Component
component scope init on_change interface = record { scope = scope; init = init; on_change = on_change; interface = interface }

abbrev built_in_of : ℕ → Option Text
built_in_of n = cond (n == 100) (Some (codes "wait")) (cond (n == 101) (Some (codes "createobject")) None)

abbrev built_in_number_of : Text → Option ℕ
built_in_number_of x = cond (bytes_eq x (codes "wait")) (Some 100) (cond (bytes_eq x (codes "createobject")) (Some 101) None)

-- `Main` is function 0, and scope 0 is that of the folder `source`; the components have the places from 3 on
abbrev pub channel : (main : Todo) → List Function → List Scope → List KindPlan → List Component → Channel
channel main functions scopes plans components = record {
  program = record {
    function = λ n. slice_get (sub main ∷ functions) n;
    built_in = built_in_of;
    anonymous = λ n at. 0;
    built_in_number = built_in_number_of;
    scopes = (at (codes "main") 0 ∷ []) ∷ scopes;
  };
  plans = built_in_plans ++ plans;
  components = None ∷ None ∷ None ∷ map (λ c. Some c) components;
  source = 0;
  paths = codes "source/main.brs" ∷ [];
}
