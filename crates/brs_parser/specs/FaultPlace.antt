-- Where a syntax fault stands.
use Rattle.std.specs.Prelude.{◌≡◌, ℕ, ◌+◌, ◌-◌, ◌^◌, ◌<◌, ◌≤◌, List, length, slice_get, Some, None, Ok}
use Rattle.brs_tokens.specs.Spelling.{spelling}
use Rattle.brs_tokens.specs.Tok.{Tok}
use Rattle.brs_tokens.specs.declared.place.Place.{Place}
use Rattle.brs_tokens.specs.declared.token.TokenKind.TheVariants.{Newline}
use Rattle.grammar_rules.specs.Words.{place_of}
use Rattle.brs_parser.specs.declared.fault.SyntaxFault.{SyntaxFault}

-- The tokens are those of a source file whose lines and columns are numbers below 2^32.
pub record IsSpelled (tokens : List Tok) : Type 0 where
  pub src : List ℕ
  pub first_line : ℕ
  pub line : 1 ≤ first_line
  pub fits : first_line + length src < 2 ^ 32
  pub spelled : spelling src first_line ≡ Ok tokens

-- the lines and columns of the tokens and of the end, and the number of tokens, are below 2^32
pub record Fits (tokens : List Tok) : Type 0 where
  pub line : (k : ℕ) (t : Tok) → slice_get tokens k ≡ Some t → t.line + 1 < 2 ^ 32
  pub column : (k : ℕ) (t : Tok) → slice_get tokens k ≡ Some t → t.column + length t.slice < 2 ^ 32
  pub count : length tokens < 2 ^ 32

-- the place directly behind a token
abbrev pub place_behind : Tok → Place
place_behind t = elim t.kind [ Newline ↦ record { line = t.line + 1; column = 1 } | _ ↦ record { line = t.line; column = t.column + length t.slice } ]

-- the place of the end: directly behind the last token
abbrev pub end_place : List Tok → Place
end_place tokens = elim (slice_get tokens (length tokens - 1)) [ Some t ↦ place_behind t | None ↦ record { line = 1; column = 1 } ]

-- the place of the token at k, counted from 0, or of the end
abbrev pub place_at : List Tok → ℕ → Place
place_at tokens k = elim (slice_get tokens k) [ Some t ↦ place_of t | None ↦ end_place tokens ]

-- a fault at the token at k
abbrev pub fault_at : List Tok → ℕ → SyntaxFault
fault_at tokens k = record { token = k; line = (place_at tokens k).line; column = (place_at tokens k).column }
