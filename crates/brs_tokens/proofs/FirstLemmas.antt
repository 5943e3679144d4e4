-- The first form from piece to piece, and that it has no lexical fault.
use Rattle.std.proofs.Common.{◌≡◌, ◌≢◌, ℕ, zero, suc, ◌+◌, ◌-◌, ◌^◌, ◌<◌, ◌≤◌, inl, inr, Bool, true, false, cond, List, [], ◌∷◌, length, get_or, take, drop, Some, None, Result, Ok, Err, nat_eq, refl, sym, ap, ◌∙◌, arith}
use Rattle.std.specs.Prelude.{◌&&◌, ◌||◌, ◌==◌, nat_le, nat_lt, not}
use Rattle.std.specs.List.{prefix_len, list_all}
use Rattle.std.specs.Str.{IsAscii}
use Rattle.std.specs.Str.Lossy.{utf8_valid_len}
use Rattle.std.proofs.lemmas.Bool.{false≢true, ne_eqb}
use Rattle.std.proofs.lemmas.Bool.Decides.{nat_tests, eqb_tells}
use Rattle.std.proofs.lemmas.Str.{IsUtf8-from_ascii, utf8_valid_len-IsUtf8}
use Rattle.brs_tokens.specs.Classes.{is_blank, is_digit, begins_name}
use Rattle.brs_tokens.specs.Numbers.{magnitude, is_hexadecimal, is_too_large}
use Rattle.brs_tokens.specs.Lengths.{digits_len, sign_len}
use Rattle.brs_tokens.specs.Tok.{Tok}
use Rattle.brs_tokens.specs.Spelling.{longest_piece, begins_float, begins_exponent, piece_at, is_number, with_tokens, after_byte, spelling_from, spelling, mark_len}
use Rattle.brs_tokens.specs.FirstForm.{is_plain, is_first_piece, are_first_pieces}
use Rattle.brs_tokens.proofs.Longest.{run-longest, run-within}
use Rattle.brs_tokens.proofs.LengthsLemmas.{digits_len-long, digits_len-plain}
use Rattle.brs_tokens.proofs.LongestPiece.{IsUnnamed, IsUndigited, piece, whole, piece-decimal, piece-sign}
use Rattle.brs_tokens.specs.declared.piece.Piece.{Piece}
use Rattle.brs_tokens.specs.declared.piece.PieceKind.{PieceKind}
use Rattle.brs_tokens.specs.declared.piece.PieceKind.TheVariants.{Blank, Comment, Token}
use Rattle.brs_tokens.specs.declared.place.Place.{Place}
use Rattle.brs_tokens.specs.declared.token.TokenKind.TheVariants.{Newline, Name, Keyword, Number, Text, Sign}
use Rattle.brs_tokens.specs.declared.lex_fault.LexFault.{LexFault}

-- from piece to piece

pub first-nil : are_first_pieces 0 [] ≡ true
unfolding are_first_pieces
first-nil = refl

pub first-pass : (n : ℕ) (bs : List ℕ) → n ≤ length bs → are_first_pieces n bs ≡ are_first_pieces 0 (drop n bs)
unfolding are_first_pieces
first-pass zero bs within = refl
first-pass (suc n) [] within = absurd (omega arith)
first-pass (suc n) (b ∷ bs) within = first-pass n bs (omega arith)

pub first-none : (bs : List ℕ) → 0 < length bs → longest_piece bs ≡ None → are_first_pieces 0 bs ≡ false
unfolding are_first_pieces
first-none [] some e = absurd (omega arith)
first-none (b ∷ bs) some e = rw (e, are_first_pieces) refl

pub first-step : (bs : List ℕ) (p : Piece) → 0 < length bs → longest_piece bs ≡ Some p → 0 < p.len → p.len ≤ length bs
    → are_first_pieces 0 bs ≡ (is_first_piece p.kind (take p.len bs) (get_or bs p.len 0) && are_first_pieces 0 (drop p.len bs))
unfolding are_first_pieces
first-step [] p some e long within = absurd (omega arith)
first-step (b ∷ bs) p some e long within =
    rw (e, are_first_pieces) (ap (λ t. is_first_piece p.kind (take p.len (b ∷ bs)) (get_or (b ∷ bs) p.len 0) && t) (rest p.len long within))
  where
    rest : (len : ℕ) → 0 < len → len ≤ length (b ∷ bs) → are_first_pieces (len - 1) bs ≡ are_first_pieces 0 (drop len (b ∷ bs))
    rest zero l w = absurd (omega arith)
    rest (suc len) l w = let same : suc len - 1 ≡ len = omega arith in rw same (first-pass len bs (omega arith))

-- no number with a point or an exponent

and_false : (a b c : Bool) → (((a && false) && b) && c) ≡ false
and_false true b c = refl
and_false false b c = refl

and_parts : (a b : Bool) → (a && b) ≡ true → (a ≡ true) × (b ≡ true)
and_parts true true e = (refl, refl)
and_parts true false e = absurd (false≢true e)
and_parts false b e = absurd (false≢true e)

dot-first : (bs : List ℕ) → are_first_pieces 0 (46 ∷ bs) ≡ false
unfolding are_first_pieces
dot-first bs = by_len (sign_len (46 ∷ bs)) refl
  where
    is : IsUndigited 46
    is = record { unnamed = record { other = record { blank = refl; newline = omega arith; apostrophe = omega arith }; name = refl }; digit = refl }

    refused : (n : ℕ) → longest_piece (46 ∷ bs) ≡ Some (piece (Token Sign) (suc n)) → are_first_pieces 0 (46 ∷ bs) ≡ false
    refused n found = rw (found, are_first_pieces) (and_false _ _ _)

    by_len : (n : ℕ) → sign_len (46 ∷ bs) ≡ n → are_first_pieces 0 (46 ∷ bs) ≡ false
    by_len zero e = first-none (46 ∷ bs) (omega arith) (piece-sign 46 bs is (omega arith) (omega arith) ∙ ap (whole (Token Sign)) e)
    by_len (suc n) e =
        let found : longest_piece (46 ∷ bs) ≡ Some (piece (Token Sign) (suc n)) = piece-sign 46 bs is (omega arith) (omega arith) ∙ ap (whole (Token Sign)) e in
        refused n found

-- which row a digit is in

not_blank : (b : ℕ) → is_digit b ≡ true → is_blank b ≡ false
not_blank b h = grind (arith, nat_tests)

not_newline : (b : ℕ) → is_digit b ≡ true → b ≢ 10
not_newline b h = grind (arith, nat_tests)

not_apostrophe : (b : ℕ) → is_digit b ≡ true → b ≢ 39
not_apostrophe b h = grind (arith, nat_tests)

not_name : (b : ℕ) → is_digit b ≡ true → begins_name b ≡ false
not_name b h = grind (arith, nat_tests)

digit-unnamed : (b : ℕ) → is_digit b ≡ true → IsUnnamed b
digit-unnamed b h = record { other = record { blank = not_blank b h; newline = not_newline b h; apostrophe = not_apostrophe b h }; name = not_name b h }

and_no : (a : Bool) → (a && false) ≡ false
and_no true = refl
and_no false = refl

not_no : (a : Bool) → not a ≡ true → a ≡ false
not_no true e = absurd (false≢true e)
not_no false e = refl

in_list : (bs : List ℕ) (i : ℕ) → 0 < get_or bs i 0 → i < length bs
in_list [] i e = absurd (omega arith)
in_list (b ∷ bs) zero e = omega arith
in_list (b ∷ bs) (suc i) e = omega (arith, in_list bs i e)

first-drop : (n : ℕ) (bs : List ℕ) → get_or (drop n bs) 0 0 ≡ get_or bs n 0
first-drop zero bs = refl
first-drop (suc n) [] = refl
first-drop (suc n) (b ∷ bs) = first-drop n bs

exponent-none : (c : ℕ) (cs : List ℕ) → begins_name c ≡ false → begins_exponent (c ∷ cs) ≡ false
exponent-none c cs h =
    let e : nat_eq c 101 ≡ false = ne_eqb c 101 (λ same. false≢true (sym h ∙ ap begins_name same)) in
    let d : nat_eq c 100 ≡ false = ne_eqb c 100 (λ same. false≢true (sym h ∙ ap begins_name same)) in
    rw (e, d) refl

-- what follows digits is no point and no exponent
after-no_float : (after : List ℕ) (n : ℕ) → begins_name (get_or after 0 0) ≡ false → are_first_pieces 0 after ≡ true
    → ((get_or after 0 0 == 46 && is_digit (get_or after 1 0)) || (nat_lt 0 n && begins_exponent after)) ≡ false
after-no_float [] n name first = and_no (nat_lt 0 n)
after-no_float (c ∷ cs) n name first = elim (eqb_tells c 46) [
  | inl dot ↦ let first' = rw dot.1 at first in absurd (false≢true (sym (dot-first cs) ∙ first'))
  | inr other ↦ rw (other.0, exponent-none c cs name) (and_no (nat_lt 0 n))
]

-- what the points say of a number
first-number : (b : ℕ) (bs : List ℕ) (n : ℕ) → longest_piece (b ∷ bs) ≡ Some (piece (Token Number) (suc n)) → are_first_pieces 0 (b ∷ bs) ≡ true
    → (list_all is_digit (take (suc n) (b ∷ bs)) ≡ true) × (begins_name (get_or bs n 0) ≡ false) × (are_first_pieces n bs ≡ true)
unfolding are_first_pieces
first-number b bs n found first =
    let same : suc n - 1 ≡ n = omega arith in
    let first' = rw (found, are_first_pieces) at first in
    let parts = and_parts _ _ first' in
    let points = and_parts _ _ parts.0 in
    ((and_parts _ _ points.0).0, not_no _ points.1, ap (λ k. are_first_pieces k bs) (sym same) ∙ parts.1)

-- digits that may stand in the first form aren't followed by a point or an exponent
number-no_float : (b : ℕ) (bs : List ℕ) → is_digit b ≡ true → are_first_pieces 0 (b ∷ bs) ≡ true → begins_float (b ∷ bs) ≡ false
number-no_float b bs h first = elim (eqb_tells (get_or bs (prefix_len is_digit bs) 0) 38) [
  | inl long ↦
      let within : prefix_len is_digit bs < length bs = in_list bs (prefix_len is_digit bs) (omega (arith, long.1)) in
      let len : digits_len is_digit bs ≡ prefix_len is_digit bs + 1 = digits_len-long is_digit bs within long.1 in
      let all = (first-number b bs (digits_len is_digit bs) found first).0 in
      let run : prefix_len is_digit (b ∷ bs) ≡ 1 + prefix_len is_digit bs = rw h refl in
      let none = run-longest is_digit (b ∷ bs) (suc (digits_len is_digit bs)) (omega arith) (omega arith) in
      absurd (false≢true (sym none ∙ all))
  | inr plain ↦
      let len : digits_len is_digit bs ≡ prefix_len is_digit bs = digits_len-plain is_digit bs (λ _. plain.1) in
      let is = first-number b bs (digits_len is_digit bs) found first in
      let name : begins_name (get_or bs (prefix_len is_digit bs) 0) ≡ false = ap (λ n. begins_name (get_or bs n 0)) (sym len) ∙ is.1 in
      let rest : are_first_pieces (prefix_len is_digit bs) bs ≡ true = ap (λ n. are_first_pieces n bs) (sym len) ∙ is.2 in
      let here : get_or (drop (prefix_len is_digit bs) bs) 0 0 ≡ get_or bs (prefix_len is_digit bs) 0 = first-drop (prefix_len is_digit bs) bs in
      let name' : begins_name (get_or (drop (prefix_len is_digit bs) bs) 0 0) ≡ false = ap begins_name here ∙ name in
      let rest' : are_first_pieces 0 (drop (prefix_len is_digit bs) bs) ≡ true = sym (first-pass (prefix_len is_digit bs) bs (run-within is_digit bs)) ∙ rest in
      let more : 1 + prefix_len is_digit bs ≡ suc (prefix_len is_digit bs) = omega arith in
      rw (h, more) (after-no_float (drop (prefix_len is_digit bs) bs) (suc (prefix_len is_digit bs)) name' rest')
]
  where
    found : longest_piece (b ∷ bs) ≡ Some (piece (Token Number) (suc (digits_len is_digit bs)))
    found =
        let more : 1 + digits_len is_digit bs ≡ suc (digits_len is_digit bs) = omega arith in
        piece-decimal b bs (digit-unnamed b h) h ∙ ap (λ n. Some (piece (Token Number) n)) more

pub first-no_float : (bs : List ℕ) → are_first_pieces 0 bs ≡ true → begins_float bs ≡ false
first-no_float [] first = refl
first-no_float (b ∷ bs) first =
    elim (is_digit b) as (λ t. (is_digit b ≡ t) → begins_float (b ∷ bs) ≡ false) [
      | true ↦ λ h. number-no_float b bs h first
      | false ↦ λ h. elim (eqb_tells b 46) [
        | inl dot ↦ let first' = rw dot.1 at first in absurd (false≢true (sym (dot-first bs) ∙ first'))
        | inr other ↦ rw (h, other.0) refl
      ]
    ] refl

-- no number is too large
small : (m : ℕ) (h : Bool) → nat_le m 2147483647 ≡ true → nat_le (cond h (2 ^ 64) (2 ^ 63)) m ≡ false
small m true e = grind (arith, nat_tests)
small m false e = grind (arith, nat_tests)

first-small : (kind : PieceKind) (slice : List ℕ) (next : ℕ) → is_first_piece kind slice next ≡ true → (is_number kind && is_too_large slice) ≡ false
first-small Blank slice next e = refl
first-small Comment slice next e = refl
first-small (Token Newline) slice next e = refl
first-small (Token Name) slice next e = refl
first-small (Token Keyword) slice next e = refl
first-small (Token Text) slice next e = refl
first-small (Token Sign) slice next e = refl
first-small (Token Number) slice next e =
    small (magnitude slice) (is_hexadecimal slice) (and_parts _ _ (and_parts _ _ e).0).1

-- so each piece of the first form is good
first-piece_at : (bs : List ℕ) (p : Piece) → are_first_pieces 0 bs ≡ true → longest_piece bs ≡ Some p
    → is_first_piece p.kind (take p.len bs) (get_or bs p.len 0) ≡ true → piece_at bs ≡ Ok p
unfolding piece_at
first-piece_at bs p first found e = rw (first-no_float bs first, found, first-small p.kind (take p.len bs) (get_or bs p.len 0) e) refl

with_tokens-err : (a : List Tok) (r : Result (List Tok) LexFault) (fault : LexFault) → with_tokens a r ≡ Err fault → r ≡ Err fault
with_tokens-err a (Ok more) fault e = absurd (cc)
with_tokens-err a (Err other) fault e = e

pub first-spelled : (bs : List ℕ) (inside : ℕ) (p : Place) (fault : LexFault) → are_first_pieces inside bs ≡ true → spelling_from (length bs) inside p bs ≡ Err fault → ⊥
unfolding spelling_from are_first_pieces
first-spelled [] inside p fault first e = cc
first-spelled (b ∷ bs) (suc inside) p fault first e = first-spelled bs inside (after_byte p b) fault first e
first-spelled (b ∷ bs) zero p fault first e =
    elim (longest_piece (b ∷ bs)) as (λ t. (longest_piece (b ∷ bs) ≡ t) → ⊥) [
      | None ↦ λ found. false≢true (sym (first-none (b ∷ bs) (omega arith) found) ∙ first)
      | Some q ↦ λ found.
          let first' = rw (found, are_first_pieces) at first in
          let parts = and_parts _ _ first' in
          let at = first-piece_at (b ∷ bs) q first found parts.0 in
          let e' = rw (at, spelling_from) at e in
          first-spelled bs (q.len - 1) (after_byte p b) fault parts.1 (with_tokens-err _ _ _ e')
    ] refl

-- bytes

plain-ascii : (b : ℕ) → is_plain b ≡ true → b < 128
plain-ascii b e = grind (arith, nat_tests)

plain_all-ascii : (bs : List ℕ) → list_all is_plain bs ≡ true → (i : ℕ) → get_or bs i 0 < 128
plain_all-ascii [] e i = omega arith
plain_all-ascii (b ∷ bs) e zero = plain-ascii b (and_parts _ _ e).0
plain_all-ascii (b ∷ bs) e (suc i) = plain_all-ascii bs (and_parts _ _ e).1 i

pub first-no_fault : (src : List ℕ) (first_line : ℕ) (fault : LexFault) → list_all is_plain src ≡ true → are_first_pieces 0 src ≡ true → spelling src first_line ≡ Err fault → ⊥
first-no_fault src first_line fault plain first e =
    let ascii : IsAscii src = plain_all-ascii src plain in
    let good : utf8_valid_len src ≡ length src = utf8_valid_len-IsUtf8 src (IsUtf8-from_ascii src ascii) in
    let head : get_or src 0 0 < 128 = ascii 0 in
    let unmarked : mark_len src ≡ 0 = no_mark (get_or src 0 0) _ _ head in
    let e' = rw (good, unmarked) at e in
    first-spelled src 0 (record { line = first_line; column = 1 }) fault first e'
  where
    no_mark : (b : ℕ) (x y : Bool) → b < 128 → ◌≡◌ {A = ℕ} (cond (((b == 0xEF) && x) && y) 3 0) 0
    no_mark b x y l = rw (ne_eqb b 0xEF (omega arith)) refl

-- a step of the walk over the pieces
pub walk-none : (src rest : List ℕ) → are_first_pieces 0 rest ≡ are_first_pieces 0 src → 0 < length rest → longest_piece rest ≡ None → false ≡ are_first_pieces 0 src
walk-none src rest kept some found = sym (first-none rest some found) ∙ kept

pub walk-refused : (src rest slice : List ℕ) (next : ℕ) (p : Piece) → are_first_pieces 0 rest ≡ are_first_pieces 0 src → 0 < length rest → longest_piece rest ≡ Some p
    → 0 < p.len → p.len ≤ length rest → slice ≡ take p.len rest → next ≡ get_or rest p.len 0 → is_first_piece p.kind slice next ≡ false → false ≡ are_first_pieces 0 src
walk-refused src rest slice next p kept some found long within s n refused =
    let no_ : is_first_piece p.kind (take p.len rest) (get_or rest p.len 0) ≡ false =
    ap (λ t. is_first_piece p.kind t (get_or rest p.len 0)) (sym s) ∙ ap (λ t. is_first_piece p.kind slice t) (sym n) ∙ refused in
    sym (first-step rest p some found long within ∙ ap (λ t. t && are_first_pieces 0 (drop p.len rest)) no_) ∙ kept

pub walk-kept : (src rest slice more : List ℕ) (next : ℕ) (p : Piece) → are_first_pieces 0 rest ≡ are_first_pieces 0 src → 0 < length rest → longest_piece rest ≡ Some p
    → 0 < p.len → p.len ≤ length rest → slice ≡ take p.len rest → more ≡ drop p.len rest → next ≡ get_or rest p.len 0 → is_first_piece p.kind slice next ≡ true
    → are_first_pieces 0 more ≡ are_first_pieces 0 src
walk-kept src rest slice more next p kept some found long within s m n good =
    let yes_ : is_first_piece p.kind (take p.len rest) (get_or rest p.len 0) ≡ true =
    ap (λ t. is_first_piece p.kind t (get_or rest p.len 0)) (sym s) ∙ ap (λ t. is_first_piece p.kind slice t) (sym n) ∙ good in
    ap (λ t. are_first_pieces 0 t) m ∙ sym (first-step rest p some found long within ∙ ap (λ t. t && are_first_pieces 0 (drop p.len rest)) yes_) ∙ kept

pub walk-end : (src rest : List ℕ) → are_first_pieces 0 rest ≡ are_first_pieces 0 src → rest ≡ [] → true ≡ are_first_pieces 0 src
walk-end src rest kept none = sym (ap (λ t. are_first_pieces 0 t) none ∙ first-nil) ∙ kept
