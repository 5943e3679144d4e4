-- A function with its code, and what its forms keep besides the relation of code to forms.
use Rattle.std.specs.Prelude.{◌≡◌, ℕ, List, length, Some, slice_get}
use Rattle.brs_tokens.specs.declared.place.Place.{Place}
use Rattle.brs_grammar.specs.Form.{Head, Pairs, Anonymous, Form, Node, Forms, none, more, Params, unnamed, required, optional, Doing, Update, If, While, For, ForEach, Todo, finish, first}
use Rattle.brs_code.specs.declared.function.Function.{Function}
use Rattle.brs_meaning.specs.Running.{Job, Does, Combines, Tests, Again, Compares, Increases, NextItem, NextKey, Binds}
use Rattle.code_relation.specs.Heads.{count}
use Rattle.code_relation.specs.Standing.{FunctionForm}

-- the code of a function, the anonymous functions of its file, and their numbers: by the place of the first word, and by the place in
-- that list
pub record Compiled : Type 0 where
  pub function : Function
  pub forms : List FunctionForm
  pub number_of : Place → ℕ
  pub number_at : ℕ → ℕ

-- each key of `{..}` has a value, and each anonymous function has its number
abbrev pub HeadIs : Compiled → Head → Place → (operands : ℕ) → Type 0
HeadIs c (Pairs keys) at k = length keys ≡ k
HeadIs c (Anonymous kind params value body) at k =
    (n : ℕ) → slice_get c.forms n ≡ Some (record { line = at.line; callee = record { params = params; value = value; body = body } }) → c.number_of at ≡ c.number_at n
HeadIs c h at k = Unit {0}

abbrev mutual
  pub FormIs : Compiled → Form → Type 0
  FormIs c (Node h at fs) = HeadIs c h at (count fs) × FormsAre c fs

  pub FormsAre : Compiled → Forms → Type 0
  FormsAre c none = Unit {0}
  FormsAre c (more f fs) = FormIs c f × FormsAre c fs

abbrev mutual
  pub DoingIs : Compiled → Doing → Type 0
  DoingIs c (Update aim sign at e) = FormIs c e
  DoingIs c (If a b) = TodoIs c a × TodoIs c b
  DoingIs c (While f body) = FormIs c f × TodoIs c body
  DoingIs c (For at x body) = TodoIs c body
  DoingIs c (ForEach at x body) = TodoIs c body
  DoingIs c doing = Unit {0}

  pub TodoIs : Compiled → Todo → Type 0
  TodoIs c finish = Unit {0}
  TodoIs c (first doing at fs rest) = DoingIs c doing × FormsAre c fs × TodoIs c rest

abbrev pub ParamsAre : Compiled → Params → Type 0
ParamsAre c unnamed = Unit {0}
ParamsAre c (required at x kind rest) = ParamsAre c rest
ParamsAre c (optional at x kind default rest) = FormIs c default × ParamsAre c rest

-- the same of what a statement of a running call does
abbrev pub JobIs : Compiled → Job → Type 0
JobIs c (Does doing) = DoingIs c doing
JobIs c (Combines aim sign at) = Unit {0}
JobIs c (Tests f body) = FormIs c f × TodoIs c body
JobIs c (Again f body) = FormIs c f × TodoIs c body
JobIs c (Compares x end step body) = TodoIs c body
JobIs c (Increases x end step body) = TodoIs c body
JobIs c (NextItem x array next body) = TodoIs c body
JobIs c (NextKey x keys body) = TodoIs c body
JobIs c (Binds x kind) = Unit {0}
