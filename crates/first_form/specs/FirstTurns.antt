-- Function values that test what stands ahead, and that read a turn.
use Rattle.std.specs.Prelude.{◌≡◌, Bool, List, Option, Result}
use denote.Ref.{Bor, MutBor}
use Rattle.brs_tokens.specs.Tok.{Tok}
use Rattle.first_form.specs.declared.cursor.Stop.{Stop}
use Rattle.first_form.specs.FirstStop.{ReadsItems}

pub record Tests (post : Bor (List Tok) → Bool → Type 0) (test : List Tok → Bool) : Type 0 where
  pub gives : (tokens : Bor (List Tok)) (b : Bool) → post tokens b → b ≡ test tokens.now

pub record TurnsBy (A : Type 0) (post : MutBor (List Tok) → Result (Option A) Stop → MutBor (List Tok) → Type 0) (p : List Tok → Option (List A × List Tok)) : Type 0 where
  pub reads : (old new : MutBor (List Tok)) (r : Result (Option A) Stop) → post old r new → ReadsItems (p old.now) r new.now
