-- Function values that read the parts of turns with a last turn of another kind.
use Rattle.std.specs.Prelude.{List, Option, Result}
use Rattle.std.specs.Option.{option_to_list}
use denote.Ref.{MutBor}
use Rattle.brs_tokens.specs.Tok.{Tok}
use Rattle.grammar_rules.specs.Rules.{Ending}
use Rattle.token_cursor.specs.declared.cursor.ParseError.{ParseError}
use Rattle.token_cursor.specs.declared.ending.EndedTurns.{EndedTurns}
use Rattle.token_cursor.specs.Reads.{Gives, Reads}

abbrev pub ending_of : {A B : Type 0} → EndedTurns A B → Ending A B
ending_of x = record { turns = x.turns; last = x.last }

pub record HeadsBy (E : Type 0) (post : MutBor (List Tok) → Result E ParseError → MutBor (List Tok) → Type 0) (p : List Tok → Result (E × List Tok) (List Tok)) : Type 0 where
  pub reads : (old new : MutBor (List Tok)) (r : Result E ParseError) → post old r new → Reads (p old.now) r new.now

pub record OthersBy (E A : Type 0) (post : MutBor (List Tok) → E → Result (Option A) ParseError → MutBor (List Tok) → Type 0) (p : E → List Tok → Result (List A × List Tok) (List Tok)) : Type 0 where
  pub reads : (old new : MutBor (List Tok)) (e : E) (r : Result (Option A) ParseError) → post old e r new → Gives option_to_list (p e old.now) r new.now

pub record LastsBy (E B : Type 0) (post : MutBor (List Tok) → E → Result B ParseError → MutBor (List Tok) → Type 0) (p : E → List Tok → Result (B × List Tok) (List Tok)) : Type 0 where
  pub reads : (old new : MutBor (List Tok)) (e : E) (r : Result B ParseError) → post old e r new → Reads (p e old.now) r new.now
