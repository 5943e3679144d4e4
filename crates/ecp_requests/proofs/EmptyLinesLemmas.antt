-- What a walk over the bytes has seen of empty lines.
use Rattle.std.proofs.Common.{◌≡◌, ℕ, ◌+◌, ◌-◌, ◌<◌, ◌≤◌, Bool, true, false, ◌&&◌, ◌||◌, List, length, take, drop, get_or, sym, refl, ap, arith, ⊎_elim, below_more, length-drop}
use Rattle.std.proofs.lemmas.Bool.{false≢true, both_ways, cases_lt}
use Rattle.std.proofs.lemmas.List.{drop_all, take_all}
use Rattle.ecp_requests.specs.EmptyLines.{is_text, begins_empty_line, IsEmptyLineAt, HasEmptyLine}

-- of the bytes before `at`: whether one is neither CR nor LF, and that no empty line stands at any
pub record Scanned (bytes : List ℕ) (at : ℕ) (begun : Bool) : Type 0 where
  pub some : begun ≡ true → (text : ℕ) × (text < at) × (is_text (get_or bytes text 0) ≡ true)
  pub none : begun ≡ false → (text : ℕ) → text < at → is_text (get_or bytes text 0) ≡ false
  pub before : (line : ℕ) → line < at → IsEmptyLineAt bytes line → ⊥

pub scanned_start : (bytes : List ℕ) → Scanned bytes 0 false
scanned_start bytes = record {
  some = λ e. absurd (false≢true e);
  none = λ _ text h. absurd (omega arith);
  before = λ line h _. absurd (omega arith);
}

some_more : (bytes : List ℕ) (at : ℕ) (begun : Bool) → Scanned bytes at begun → (begun || is_text (get_or bytes at 0)) ≡ true
    → (text : ℕ) × (text < at + 1) × (is_text (get_or bytes text 0) ≡ true)
some_more bytes at true h e = let t = h.some refl in (t.0, (let lt = t.1 in omega arith), t.2)
some_more bytes at false h e = (at, omega arith, e)

none_more : (bytes : List ℕ) (at : ℕ) (begun : Bool) → Scanned bytes at begun → (begun || is_text (get_or bytes at 0)) ≡ false
    → (text : ℕ) → text < at + 1 → is_text (get_or bytes text 0) ≡ false
none_more bytes at true h e = absurd (false≢true (sym e))
none_more bytes at false h e = below_more (λ text. is_text (get_or bytes text 0) ≡ false) at (h.none refl) e

-- no empty line stands at a place where none begins, or before which there is no text
none_here : (bytes : List ℕ) (at : ℕ) (begun : Bool) → Scanned bytes at begun → (begun && begins_empty_line (drop at bytes)) ≡ false
    → IsEmptyLineAt bytes at → ⊥
none_here bytes at true h e line = both_ways _ e line.line_is
none_here bytes at false h e line = both_ways _ (h.none refl line.text line.before) line.text_is

pub scanned_more : (bytes : List ℕ) (at : ℕ) (begun : Bool) → Scanned bytes at begun → (begun && begins_empty_line (drop at bytes)) ≡ false
    → Scanned bytes (at + 1) (begun || is_text (get_or bytes at 0))
scanned_more bytes at begun h e = record {
  some = some_more bytes at begun h;
  none = none_more bytes at begun h;
  before = below_more (λ line. IsEmptyLineAt bytes line → ⊥) at h.before (none_here bytes at begun h e);
}

pub found_here : (bytes : List ℕ) (at : ℕ) (begun : Bool) → Scanned bytes at begun → begun ≡ true → begins_empty_line (drop at bytes) ≡ true
    → HasEmptyLine bytes
found_here bytes at begun h b e = let t = h.some b in (at, record { text = t.0; before = t.1; text_is = t.2; line_is = e })

pub none_at_all : (bytes : List ℕ) (at : ℕ) (begun : Bool) → length bytes ≤ at → Scanned bytes at begun → HasEmptyLine bytes → ⊥
none_at_all bytes at begun end h line =
    ⊎_elim
    (λ within. h.before line.0 (omega arith) line.1)
    (λ past. both_ways _ (ap begins_empty_line (drop_all line.0 bytes past)) line.1.line_is)
    (cases_lt line.0 (length bytes))

pub whole_rest : (bytes : List ℕ) (at : ℕ) → take (length bytes - at) (drop at bytes) ≡ drop at bytes
whole_rest bytes at = take_all _ _ (omega (arith, length-drop at bytes))
