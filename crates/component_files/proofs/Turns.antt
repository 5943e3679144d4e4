-- Turns of the reading.
use Rattle.std.proofs.Common.{◌≡◌, ℕ, suc, ◌+◌, ◌-◌, ◌<◌, false, List, length, length-append, take, Some, Result, Ok, Err, cond, ap, sym, ◌∙◌, arith}
use Rattle.std.specs.Prelude.{OnOk}
use Rattle.xml_pieces.specs.declared.piece.Piece.{Piece}
use Rattle.xml_pieces.specs.Reading.{a_piece}
use Rattle.xml_pieces.proofs.Pieces.{piece_taken, some_spelled}
use Rattle.xml_pieces.specs.Written.{is_empty, spelled}
use Rattle.component_files.specs.declared.place.Place.{Place}
use Rattle.component_files.specs.declared.element.ComponentFile.{ComponentFile}
use Rattle.component_files.specs.declared.state.Progress.{Progress}
use Rattle.component_files.specs.Places.{place_after}
use Rattle.component_files.specs.Scan.{finish, turn, goes_on, before, scan}

-- a piece takes a byte at least
pub piece_shorter : (bs : List ℕ) (p : Piece) (rest : List ℕ) → a_piece bs ≡ Some (p, rest) → length rest < length bs
piece_shorter bs p rest e =
    let t = piece_taken bs p rest e in
    omega (arith, ap length t.whole, length-append (spelled t.written) rest, some_spelled t.written t.good)

pub on_ok : {A E : Type 0} (r : Result A E) (P : Type 0) → P → OnOk r P
on_ok (Ok x) P h = h
on_ok (Err e) P h = tt

pub turn_more : (n at : ℕ) (place now : Place) (s next : Progress) (bs rest : List ℕ) (o : Result ComponentFile ℕ) → at < n → is_empty bs ≡ false → turn s place bs ≡ Some (next, rest)
    → now ≡ place_after place (before bs rest) → o ≡ scan (n - at) s place bs → o ≡ scan (n - (at + 1)) next now rest
unfolding scan
turn_more n at place now s next bs rest o below some t there e =
    let one : n - at ≡ suc (n - (at + 1)) = omega arith in
    e ∙ ap (λ k. scan k s place bs) one
    ∙ ap (λ z. cond z (finish s place.line) (goes_on (turn s place bs) (λ next rest. scan (n - (at + 1)) next (place_after place (before bs rest)) rest) place.line)) some
    ∙ ap (λ z. goes_on z (λ next rest. scan (n - (at + 1)) next (place_after place (before bs rest)) rest) place.line) t
    ∙ ap (λ z. scan (n - (at + 1)) next z rest) (sym there)

pub place_same : (place now : Place) (left : ℕ) (bs bs' rest : List ℕ) → now ≡ place_after place (take (length bs - left) bs) → bs ≡ bs' → left ≡ length rest → now ≡ place_after place (before bs' rest)
place_same place now left bs bs' rest e f g = e ∙ ap (λ z. place_after place (take (length z - left) z)) f ∙ ap (λ z. place_after place (take (length bs' - z) bs')) g
