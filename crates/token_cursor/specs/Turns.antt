-- Function values that test a word, and that read a turn of a list.
use Rattle.std.specs.Prelude.{◌≡◌, Bool, List, Option, Result}
use Rattle.std.specs.Option.{option_to_list}
use denote.Ref.{MutBor}
use Rattle.brs_tokens.specs.Tok.{Tok}
use Rattle.grammar_rules.specs.declared.word.Word.{Word}
use Rattle.token_cursor.specs.declared.cursor.ParseError.{ParseError}
use Rattle.token_cursor.specs.Reads.{Gives, Reads}

pub record Tests (post : Word → Bool → Type 0) (test : Word → Bool) : Type 0 where
  pub gives : (k : Word) (b : Bool) → post k b → b ≡ test k

pub record TurnsBy (A : Type 0) (post : MutBor (List Tok) → Result (Option A) ParseError → MutBor (List Tok) → Type 0) (p : List Tok → Result (List A × List Tok) (List Tok)) : Type 0 where
  pub reads : (old new : MutBor (List Tok)) (r : Result (Option A) ParseError) → post old r new → Gives option_to_list (p old.now) r new.now

pub record GapsBy (A : Type 0) (post : MutBor (List Tok) → Result (List A) ParseError → MutBor (List Tok) → Type 0) (p : List Tok → Result (List A × List Tok) (List Tok)) : Type 0 where
  pub reads : (old new : MutBor (List Tok)) (r : Result (List A) ParseError) → post old r new → Reads (p old.now) r new.now
