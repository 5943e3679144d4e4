-- What the parts of a tree are as forms, and how they are put together.
use Rattle.std.specs.Prelude.{List, [], ◌∷◌, Option, None, Some}
use lib.Chars.{codes}
use Rattle.brs_tokens.specs.declared.place.Place.{Place}
use Rattle.brs_grammar.specs.declared.tree.CountSign.{CountSign}
use Rattle.brs_grammar.specs.declared.tree.CountSign.TheVariants as count
use Rattle.brs_grammar.specs.declared.tree.TypeWord.{TypeWord}
use Rattle.brs_grammar.specs.declared.tree.UpdateSign.{UpdateSign}
use Rattle.brs_grammar.specs.declared.tree.UpdateSign.TheVariants as update
use Rattle.brs_grammar.specs.Form as p
use Rattle.brs_grammar.specs.Form.{Text, Kind, Mark, Head, Form, Node, Forms, none, more, Params, unnamed, required, optional, Doing, Todo, finish, first}

-- ---- what the parts of a tree are

pub record Step : Type 0 where
  pub doing : Doing
  pub place : Place
  pub operands : Forms

-- what stands behind a value
pub data Tail : Type 0 where
  member : Place → Text → Tail
  index : Place → Form → Tail
  arguments : Place → Forms → Tail

pub data Printed : Type 0 where
  semicolon : Printed
  comma : Printed
  value : Form → Printed

-- an operator and its right side
pub record Operand : Type 0 where
  pub head : Head
  pub place : Place
  pub right : Form

pub record Choice : Type 0 where
  pub place : Place
  pub condition : Form
  pub body : Todo

pub record Entry : Type 0 where
  pub key : p.Key
  pub value : Form

pub record Formal : Type 0 where
  pub place : Place
  pub name : Text
  pub default : Option Form
  pub kind : Option TypeWord

-- what is called: its parameters, the type of its value, and its body
pub record Callee : Type 0 where
  pub params : Params
  pub value : Option TypeWord
  pub body : Todo

-- a name with what stands behind it
pub record Aim : Type 0 where
  pub place : Place
  pub name : Text
  pub tails : List Tail

-- what is set, with its operands
pub record Aimed : Type 0 where
  pub to : p.Aim
  pub place : Place
  pub operands : Forms

-- a named function: its kind, the place of its first word, its name with its place, and what is called
pub record Named : Type 0 where
  pub kind : Kind
  pub place : Place
  pub name_place : Place
  pub name : Text
  pub callee : Callee

-- ---- lists

abbrev pub forms : List Form → Forms
forms [] = none
forms (x ∷ xs) = more x (forms xs)

abbrev pub join : Forms → Forms → Forms
join none gs = gs
join (more f fs) gs = more f (join fs gs)

abbrev pub maybe : Option Form → Forms
maybe None = none
maybe (Some x) = more x none

abbrev pub todos : List Step → Todo
todos [] = finish
todos (s ∷ ss) = first s.doing s.place s.operands (todos ss)

abbrev pub parameter : Formal → Params → Params
parameter x rest = elim x.default [ None ↦ required x.place x.name x.kind rest | Some e ↦ optional x.place x.name x.kind e rest ]

abbrev pub params : List Formal → Params
params [] = unnamed
params (x ∷ xs) = parameter x (params xs)

abbrev pub mark : Printed → Mark
mark semicolon = p.Semicolon
mark comma = p.Comma
mark (value e) = p.Shown

abbrev pub shown : List Printed → Forms
shown [] = none
shown (semicolon ∷ xs) = shown xs
shown (comma ∷ xs) = shown xs
shown (value e ∷ xs) = more e (shown xs)

-- ---- chains

-- a chain of operators groups to the left
abbrev pub chained : Form → List Operand → Form
chained x [] = x
chained x (y ∷ ys) = chained (Node y.head y.place (more x (more y.right none))) ys

-- a member that arguments follow directly is called
abbrev pub tailed : Form → List Tail → Form
tailed x [] = x
tailed x (member at k ∷ arguments there es ∷ ts) = tailed (Node (p.CallMember k) there (more x es)) ts
tailed x (member at k ∷ ts) = tailed (Node (p.Member k) at (more x none)) ts
tailed x (index at e ∷ ts) = tailed (Node p.Index at (more x (more e none))) ts
tailed x (arguments at es ∷ ts) = tailed (Node p.Call at (more x es)) ts

abbrev pub variable : Place → Text → Form
variable at x = Node (p.Name x) at none

abbrev pub called : Aim → Form
called a = tailed (variable a.place a.name) a.tails

-- ---- what is set

abbrev pub but_last : Tail → List Tail → List Tail
but_last t [] = []
but_last t (u ∷ us) = t ∷ but_last u us

abbrev pub last_of : Tail → List Tail → Tail
last_of t [] = t
last_of t (u ∷ us) = last_of u us

abbrev pub aimed_last : Form → Tail → Aimed
aimed_last x (member at k) = record { to = p.ToMember k; place = at; operands = more x none }
aimed_last x (index at e) = record { to = p.ToIndex; place = at; operands = more x (more e none) }
-- no target ends in arguments
aimed_last x (arguments at es) = record { to = p.ToIndex; place = at; operands = more x es }

abbrev pub aimed : Aim → Aimed
aimed a = elim a.tails [
  | [] ↦ record { to = p.ToName a.name; place = a.place; operands = none }
  | t ∷ ts ↦ aimed_last (tailed (variable a.place a.name) (but_last t ts)) (last_of t ts)
]

abbrev pub assign_step : Aim → Form → Step
assign_step a e = let t = aimed a in record { doing = p.Set t.to; place = t.place; operands = join t.operands (more e none) }

abbrev pub update_step : Aim → Place → UpdateSign → Form → Step
update_step a at sign e = let t = aimed a in record { doing = p.Update t.to sign at e; place = t.place; operands = t.operands }

-- `++` adds 1, and `--` takes 1 away
abbrev pub counted : CountSign → UpdateSign
counted count.Increment = update.Plus
counted count.Decrement = update.Minus

abbrev pub one : Place → Form
one at = Node (p.Number (codes "1")) at none

-- ---- choices

abbrev pub or_else : Option Todo → Todo
or_else None = finish
or_else (Some b) = b

-- each further arm is an `if` in the other block of the one before it
abbrev pub choices : List Choice → Todo → Todo
choices [] other = other
choices (c ∷ cs) other = first (p.If c.body (choices cs other)) c.place (more c.condition none) finish

abbrev pub if_step : Choice → List Choice → Todo → Step
if_step c cs other = record { doing = p.If c.body (choices cs other); place = c.place; operands = more c.condition none }
