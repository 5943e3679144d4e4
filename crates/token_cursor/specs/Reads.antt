-- What a function that reads ensures: it answers what its reading gives, unless memory runs out.
use Rattle.std.specs.Prelude.{◌≡◌, List, Result, Ok, Err}
use Rattle.brs_tokens.specs.Tok.{Tok}
use Rattle.grammar_rules.specs.Reading.{Outcome}
use Rattle.token_cursor.specs.declared.cursor.ParseError.{ParseError}
use Rattle.token_cursor.specs.declared.cursor.ParseError.TheVariants.{Fault, NoMemory}

-- Beside a reading's outcome: the answer as a view shows it, and the tokens that are left. At a fault these begin with the faulty token.
abbrev pub Gives : {X Y : Type 0} → (X → Y) → Outcome Y → Result X ParseError → List Tok → Type 0
Gives view outcome (Ok x) new = outcome ≡ Ok (view x, new)
Gives view outcome (Err Fault) new = outcome ≡ Err new
Gives view outcome (Err NoMemory) new = Unit {0}

abbrev pub Reads : {A : Type 0} → Outcome A → Result A ParseError → List Tok → Type 0
Reads = Gives (λ a. a)
