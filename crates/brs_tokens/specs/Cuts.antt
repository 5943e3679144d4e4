-- The tokens of a source file, and its lexical fault, by its longest pieces.
use Rattle.std.specs.Prelude.{◌≡◌, ℕ, ◌+◌, ◌≤◌, ◌==◌, List, [], ◌∷◌, ◌++◌, length, take, drop, reverse, IsUtf8}
use Rattle.std.specs.List.{count_by, prefix_len, flat_map}
use Rattle.brs_tokens.specs.Classes.{line_feed, stays_in_line}
use Rattle.brs_tokens.specs.Kinds.{IsLongestPiece}
use Rattle.brs_tokens.specs.FaultTable.{Row}
use Rattle.brs_tokens.specs.Spelling.{mark_len, token_of}
use Rattle.brs_tokens.specs.Tok.{Tok}
use Rattle.brs_tokens.specs.declared.piece.PieceKind.{PieceKind}
use Rattle.brs_tokens.specs.declared.place.Place.{Place}
use Rattle.brs_tokens.specs.declared.lex_fault.LexFault.{LexFault}
use Rattle.brs_tokens.specs.declared.lex_fault.LexKind.{LexKind}
use Rattle.brs_tokens.specs.declared.lex_fault.LexKind.TheVariants.{NotUtf8}

-- a piece as it is written: its kind and its bytes
pub record WrittenPiece : Type 0 where
  pub kind : PieceKind
  pub slice : List ℕ

abbrev pub slices : List WrittenPiece → List ℕ
slices pieces = flat_map (λ (p : WrittenPiece). p.slice) pieces

-- The bytes are these pieces one after another and then a rest. Each piece is the longest that begins where it does, and no fault
-- of the table stands there.
abbrev pub Cut : List ℕ → List WrittenPiece → List ℕ → Type 0
Cut bytes [] rest = bytes ≡ rest
Cut bytes (piece ∷ pieces) rest =
    (behind : List ℕ) × (bytes ≡ piece.slice ++ behind) × IsLongestPiece piece.kind piece.slice behind × ((kind : LexKind) → Row kind bytes → ⊥)
    × Cut behind pieces rest

-- The place behind these bytes of the source: a line further for each LF, and a column for each byte since the last one.
abbrev pub place_behind : ℕ → List ℕ → Place
place_behind first_line before = record { line = first_line + count_by (λ b. b == line_feed) before; column = 1 + prefix_len stays_in_line (reverse before) }

-- the pieces behind these bytes that are neither spaces nor comments, each at its place
abbrev pub tokens_of : ℕ → List ℕ → List WrittenPiece → List Tok
tokens_of first_line before [] = []
tokens_of first_line before (piece ∷ pieces) =
    token_of piece.kind piece.slice (place_behind first_line before) ++ tokens_of first_line (before ++ piece.slice) pieces

-- the byte order mark, or nothing where the source has none, and what stands behind it
abbrev pub mark_of : List ℕ → List ℕ
mark_of src = take (mark_len src) src

abbrev pub behind_mark : List ℕ → List ℕ
behind_mark src = drop (mark_len src) src

-- The source is UTF-8 and is cut into pieces, of which these are the tokens.
pub record AreTokens (src : List ℕ) (first_line : ℕ) (tokens : List Tok) : Type 0 where
  pub utf8 : IsUtf8 src
  pub pieces : List WrittenPiece
  pub cut : Cut (behind_mark src) pieces []
  pub tokens_are : tokens ≡ tokens_of first_line (mark_of src) pieces

-- Behind `before` a piece of the source should begin.
pub record IsPieceStart (src before rest : List ℕ) : Type 0 where
  pub pieces : List WrittenPiece
  pub cut : Cut (behind_mark src) pieces rest
  pub before_is : before ≡ mark_of src ++ slices pieces

-- where a fault of the kind is looked for: behind any characters, or where a piece should begin
abbrev pub IsLookedFor : LexKind → List ℕ → List ℕ → List ℕ → Type 0
IsLookedFor NotUtf8 src before rest = IsUtf8 before
IsLookedFor kind src before rest = IsPieceStart src before rest

-- A fault of this kind stands behind `before`.
pub record StandsAt (src : List ℕ) (kind : LexKind) (before rest : List ℕ) : Type 0 where
  pub src_is : src ≡ before ++ rest
  pub place : IsLookedFor kind src before rest
  pub row : Row kind rest

-- Pieces of the source reach up to this many bytes, or further.
pub record ReachTo (src : List ℕ) (len : ℕ) : Type 0 where
  pub pieces : List WrittenPiece
  pub rest : List ℕ
  pub cut : Cut (behind_mark src) pieces rest
  pub reach : len ≤ length (mark_of src ++ slices pieces)

-- The fault stands in the source, with pieces before it, and no fault stands earlier.
pub record IsFirstFault (src : List ℕ) (first_line : ℕ) (fault : LexFault) : Type 0 where
  pub before : List ℕ
  pub rest : List ℕ
  pub stands : StandsAt src fault.kind before rest
  pub pieces : ReachTo src (length before)
  pub first : (kind : LexKind) (less more : List ℕ) → StandsAt src kind less more → length before ≤ length less
  pub place : place_behind first_line before ≡ record { line = fault.line; column = fault.column }
