-- A function value that reads what stands inside a form, at a nesting number.
use Rattle.std.specs.Prelude.{◌≡◌, ℕ, List, Result, Ok, Err}
use Rattle.std.specs.declared.alloc.Global.{Global}
use denote.Ref.{MutBor}
use Rattle.brs_tokens.specs.Tok.{Tok}
use Rattle.grammar_rules.specs.Reading.{Outcome}
use Rattle.token_cursor.specs.declared.cursor.ParseError.{ParseError}
use Rattle.token_cursor.specs.Reads.{Reads}
use Rattle.brs_grammar.specs.ReadExpressions.{Inside}
use Rattle.brs_grammar.specs.ReadFunctions.{inside}
use Rattle.expression_parser.specs.declared.level.Inner.{Inner}
use Rattle.expression_parser.specs.declared.level.Inner.TheVariants as inner
use Rattle.expression_parser.specs.declared.level.Part.{Part}
use Rattle.expression_parser.specs.declared.level.Part.TheVariants as part

-- What comes for a part that is asked for: that part, as it is read inside.
abbrev pub Comes : Inside → Part → List Tok → Result Inner ParseError → List Tok → Type 0
Comes j part.Expression ts (Ok (inner.Expression x)) new = Reads (j.expression ts) (Ok x) new
Comes j part.Arguments ts (Ok (inner.Arguments x)) new = Reads (j.arguments ts) (Ok x) new
Comes j part.Items ts (Ok (inner.Items x)) new = Reads (j.items ts) (Ok x) new
Comes j part.Pairs ts (Ok (inner.Pairs x)) new = Reads (j.pairs ts) (Ok x) new
Comes j part.Negation ts (Ok (inner.Negation x)) new = Reads (j.negation ts) (Ok x) new
Comes j part.Minus ts (Ok (inner.Minus x)) new = Reads (j.minus ts) (Ok x) new
Comes j part.Block ts (Ok (inner.Block x)) new = Reads (j.block ts) (Ok x) new
Comes j part.Rest ts (Ok (inner.Rest x)) new = Reads (j.rest ts) (Ok x) new
Comes j part.Expression ts (Err e) new = Reads (j.expression ts) (Err e) new
Comes j part.Arguments ts (Err e) new = Reads (j.arguments ts) (Err e) new
Comes j part.Items ts (Err e) new = Reads (j.items ts) (Err e) new
Comes j part.Pairs ts (Err e) new = Reads (j.pairs ts) (Err e) new
Comes j part.Negation ts (Err e) new = Reads (j.negation ts) (Err e) new
Comes j part.Minus ts (Err e) new = Reads (j.minus ts) (Err e) new
Comes j part.Block ts (Err e) new = Reads (j.block ts) (Err e) new
Comes j part.Rest ts (Err e) new = Reads (j.rest ts) (Err e) new
Comes j p ts (Ok x) new = ⊥

pub record Nests (depth : ℕ)
    (pre : Global → MutBor (List Tok) → ℕ → Part → Type 0)
    (post : Global → MutBor (List Tok) → ℕ → Part → Result Inner ParseError → MutBor (List Tok) → Type 0) : Type 0 where
  pub callable : (alloc : Global) (old : MutBor (List Tok)) (p : Part) → pre alloc old depth p
  pub reads : (alloc : Global) (old new : MutBor (List Tok)) (p : Part) (r : Result Inner ParseError) → post alloc old depth p r new → Comes (inside depth) p old.now r new.now
