-- Lines, columns and numbers of the tokens of a source file are below 2^32.
use Rattle.std.proofs.Common.{◌≡◌, ℕ, zero, suc, ◌+◌, ◌^◌, ◌<◌, ◌≤◌, Bool, true, false, cond, List, [], ◌∷◌, ◌++◌, length, length-append, Some, None, Ok, ap, ◌∙◌, subst, arith}
use Rattle.std.specs.Prelude.{◌==◌, slice_get, All}
use Rattle.std.proofs.lemmas.Option.{slice_get_past}
use Rattle.brs_tokens.specs.Classes.{line_feed}
use Rattle.brs_tokens.specs.Pieces.{piece_kind}
use Rattle.brs_tokens.specs.Spelling.{after_byte, place_after, spelling}
use Rattle.brs_tokens.specs.Tok.{Tok}
use Rattle.brs_tokens.specs.Tokens.{IsToken, StandIn}
use Rattle.brs_tokens.specs.declared.piece.PieceKind.{PieceKind}
use Rattle.brs_tokens.specs.declared.place.Place.{Place}
use Rattle.brs_parser.specs.FaultPlace.{IsSpelled, Fits}

-- how far a place moves over n bytes
record Moved (p q : Place) (n : ℕ) : Type 0 where
  line : q.line ≤ p.line + n
  column : q.column ≤ p.column + n
  some : 1 ≤ q.column

step : (p : Place) (b : ℕ) → 1 ≤ p.column → Moved p (after_byte p b) 1
step p b some = go (b == line_feed)
  where
    go : (t : Bool) → Moved p (cond t (record { line = p.line + 1; column = 1 }) (record { line = p.line; column = p.column + 1 })) 1
    go true = record { line = omega arith; column = omega arith; some = omega arith }
    go false = record { line = omega arith; column = omega arith; some = omega arith }

moved : (p : Place) (bytes : List ℕ) → 1 ≤ p.column → Moved p (place_after p bytes) (length bytes)
moved p [] some = record { line = omega arith; column = omega arith; some = some }
moved p (b ∷ bytes) some =
    let one = step p b some in
    let more = moved (after_byte p b) bytes one.some in
    record { line = omega (arith, one.line, more.line); column = omega (arith, one.column, more.column); some = more.some }

some_bytes : (bytes : List ℕ) (kind : PieceKind) → piece_kind bytes ≡ Some kind → 1 ≤ length bytes
unfolding piece_kind
some_bytes [] kind e = absurd (cc)
some_bytes (b ∷ bytes) kind e = omega arith

first_some : (t : Tok) (ts : List Tok) → All IsToken (t ∷ ts) → 1 ≤ length t.slice
first_some t ts all = some_bytes t.slice _ (all 0 t (omega arith)).spells

others : (t : Tok) (ts : List Tok) → All IsToken (t ∷ ts) → All IsToken ts
others t ts all = λ k d h. all (suc k) d (omega arith)

-- where a token stands among n bytes from p on
pub record Within (p : Place) (n : ℕ) (t : Tok) : Type 0 where
  pub line : t.line + 1 ≤ p.line + n
  pub column : t.column + length t.slice ≤ p.column + n

-- the place behind a token and the bytes before it, with how far it moved
module _ (p : Place) (bytes : List ℕ) (t : Tok) (ts : List Tok) (some : 1 ≤ p.column) (s : StandIn p bytes (t ∷ ts)) where
  sizes : length bytes ≡ length s.0 + (length t.slice + length s.1)
  sizes = ap length s.2 ∙ length-append s.0 (t.slice ++ s.1) ∙ ap (λ n. length s.0 + n) (length-append t.slice s.1)

  before : Moved p (record { line = t.line; column = t.column }) (length s.0)
  before = subst (λ q. Moved p q (length s.0)) s.3 (moved p s.0 some)

  behind : Moved p (place_after (place_after p s.0) t.slice) (length s.0 + length t.slice)
  behind =
      let one = moved p s.0 some in
      let more = moved (place_after p s.0) t.slice one.some in
      record { line = omega (arith, one.line, more.line); column = omega (arith, one.column, more.column); some = more.some }

within : (p : Place) (bytes : List ℕ) (ts : List Tok) (k : ℕ) (t : Tok) → 1 ≤ p.column → StandIn p bytes ts → All IsToken ts → slice_get ts k ≡ Some t → Within p (length bytes) t
within p bytes [] k t some s all e = absurd (cc)
within p bytes (x ∷ ts) zero t some s all e =
    let same : x ≡ t = cc in
    let at = before p bytes x ts some s in
    let size = sizes p bytes x ts some s in
    let bytes_ = first_some x ts all in
    subst (Within p (length bytes)) same (record { line = omega (arith, at.line, size, bytes_); column = omega (arith, at.column, size) })
within p bytes (x ∷ ts) (suc k) t some s all e =
    let at = behind p bytes x ts some s in
    let size = sizes p bytes x ts some s in
    let more = within (place_after (place_after p s.0) x.slice) s.1 ts k t at.some s.4 (others x ts all) e in
    record { line = omega (arith, at.line, more.line, size); column = omega (arith, at.column, more.column, size) }

count : (p : Place) (bytes : List ℕ) (ts : List Tok) → 1 ≤ p.column → StandIn p bytes ts → All IsToken ts → length ts ≤ length bytes
count p bytes [] some s all = omega arith
count p bytes (x ∷ ts) some s all =
    let at = behind p bytes x ts some s in
    let size = sizes p bytes x ts some s in
    let bytes_ = first_some x ts all in
    omega (arith, size, bytes_, count (place_after (place_after p s.0) x.slice) s.1 ts at.some s.4 (others x ts all))

pub all_fit : (ts : List Tok) → IsSpelled ts
    → ((src : List ℕ) (first_line : ℕ) (tokens : List Tok) → spelling src first_line ≡ Ok tokens → All IsToken tokens)
    → ((src : List ℕ) (first_line : ℕ) (tokens : List Tok) → spelling src first_line ≡ Ok tokens → StandIn (record { line = first_line; column = 1 }) src tokens)
    → Fits ts
all_fit ts s are stand =
    let tokens = are s.src s.first_line ts s.spelled in
    let order = stand s.src s.first_line ts s.spelled in
    record {
      line = λ k t e. let is = within (record { line = s.first_line; column = 1 }) s.src ts k t (omega arith) order tokens e in omega (arith, is.line, s.fits);
      column = λ k t e. let is = within (record { line = s.first_line; column = 1 }) s.src ts k t (omega arith) order tokens e in omega (arith, is.column, s.fits, s.line);
      count = omega (arith, count (record { line = s.first_line; column = 1 }) s.src ts (omega arith) order tokens, s.fits);
    }

pub line_fits : (ts : List Tok) (k : ℕ) (t : Tok) → ((tokens : List Tok) → IsSpelled tokens → Fits tokens) → IsSpelled ts → slice_get ts k ≡ Some t → t.line + 1 < 2 ^ 32
line_fits ts k t fit s e = (fit ts s).line k t e

pub column_fits : (ts : List Tok) (k : ℕ) (t : Tok) → ((tokens : List Tok) → IsSpelled tokens → Fits tokens) → IsSpelled ts → slice_get ts k ≡ Some t → t.column + length t.slice < 2 ^ 32
column_fits ts k t fit s e = (fit ts s).column k t e

pub count_fits : (ts : List Tok) (n : ℕ) → ((tokens : List Tok) → IsSpelled tokens → Fits tokens) → IsSpelled ts → n ≤ length ts → n < 2 ^ 32
count_fits ts n fit s within = omega (arith, (fit ts s).count, within)

pub is_spelled : (src : List ℕ) (first_line : ℕ) (tokens : List Tok) → 1 ≤ first_line → first_line + length src < 2 ^ 32 → spelling src first_line ≡ Ok tokens → IsSpelled tokens
is_spelled src first_line tokens line fits e = record { src = src; first_line = first_line; line = line; fits = fits; spelled = e }

pub not_there : (ts : List Tok) (k : ℕ) → (k < length ts → ⊥) → slice_get ts k ≡ None
not_there ts k past = slice_get_past ts k (omega (arith, past))
