-- From one redex to the next, without a step.
use Rattle.std.specs.Prelude.{Bool, true, false, List, [], ◌∷◌, cond}
use Rattle.brs_tokens.specs.declared.place.Place.{Place}
use Rattle.brs_grammar.specs.Form.{Head, And, Or, Form, Node, Forms, none, more}
use Rattle.heap_meaning.specs.declared.plain.Plain.TheVariants.{Truth}
use Rattle.heap_meaning.specs.Values.{StoreValue, Scalar}
use Rattle.brs_meaning.specs.Running.{Call, Job, Task, Around, around, Under, under, Spot, AtHead, AtDecided, AtJob, AtEnd, Hole, Operand, Ends, Held, Tree, Works}

-- whether the left side decides the operator
abbrev pub decides : Head → StoreValue → Bool
decides And (Scalar (Truth false)) = true
decides Or (Scalar (Truth true)) = true
decides _ _ = false

-- into a form, to its leftmost innermost redex
abbrev pub down : Form → List Around → Under → Spot
down (Node head place none) context base = AtHead head place [] context base
down (Node head place (more f fs)) context base = down f (around head place [] fs ∷ context) base

abbrev pub begin : Job → Place → Forms → Spot
begin job place none = AtJob job place []
begin job place (more f fs) = down f [] (under job place [] fs)

-- a value in place of the operand of a statement at work
abbrev pub give_under : StoreValue → Under → Spot
give_under v (under job place done none) = AtJob job place (v ∷ done)
give_under v (under job place done (more f fs)) = down f [] (under job place (v ∷ done) fs)

-- a value in place of the operand at work, where further operands are left
abbrev pub go_on : StoreValue → Head → Place → List StoreValue → Form → Forms → List Around → Under → Spot
go_on v head place [] f fs context base = cond (decides head v) (AtDecided head place v f fs context base) (down f (around head place (v ∷ []) fs ∷ context) base)
go_on v head place done f fs context base = down f (around head place (v ∷ done) fs ∷ context) base

-- a value in place of the operand at work
abbrev pub give : StoreValue → List Around → Under → Spot
give v [] base = give_under v base
give v (around head place done none ∷ context) base = AtHead head place (v ∷ done) context base
give v (around head place done (more f fs) ∷ context) base = go_on v head place done f fs context base

-- the next statement of a call
abbrev pub next : Call → List Task → List Held → Tree
next call [] below = Works call AtEnd [] below
next call (t ∷ tasks) below = Works call (begin t.job t.place t.operands) tasks below

-- a value in the place where a call waits for it
abbrev pub filled : StoreValue → Call → Hole → List Task → List Held → Tree
filled v call (Operand context base) tasks below = Works call (give v context base) tasks below
filled v call Ends tasks below = next call tasks below
