-- What holds of the tokens of each source file.
use Rattle.std.specs.Prelude.{◌≡◌, ℕ, false, List, [], ◌∷◌, ◌++◌, Some, IsUtf8}
use Rattle.brs_tokens.specs.Numbers.{is_too_large}
use Rattle.brs_tokens.specs.Pieces.{piece_kind}
use Rattle.brs_tokens.specs.Spelling.{place_after}
use Rattle.brs_tokens.specs.Tok.{Tok}
use Rattle.brs_tokens.specs.declared.place.Place.{Place}
use Rattle.brs_tokens.specs.declared.piece.PieceKind.TheVariants.{Token}
use Rattle.brs_tokens.specs.declared.token.TokenKind.TheVariants.{Number}

-- its bytes spell its kind and are a text, and a number is not too large
pub record IsToken (t : Tok) : Type 0 where
  pub spells : piece_kind t.slice ≡ Some (Token t.kind)
  pub utf8 : IsUtf8 t.slice
  pub fits : t.kind ≡ Number → is_too_large t.slice ≡ false

-- Bytes that begin at place p hold the slices of the tokens in their order, each at its line and column.
abbrev pub StandIn : Place → List ℕ → List Tok → Type 0
StandIn p bytes [] = Unit {0}
StandIn p bytes (t ∷ ts) =
    (gap : List ℕ) × (rest : List ℕ) × (bytes ≡ gap ++ (t.slice ++ rest))
    × (place_after p gap ≡ record { line = t.line; column = t.column }) × StandIn (place_after (place_after p gap) t.slice) rest ts
