-- What is cut off a text is text: each piece ends where a character does.
use Rattle.std.proofs.Common.{◌≡◌, ℕ, zero, suc, ◌+◌, ◌-◌, ◌<◌, ◌≤◌, ◌⊎◌, inl, inr, Bool, true, false, List, [], ◌∷◌, ◌++◌, length, get_or, take, drop, nat_eq, refl, sym, ap, ◌∙◌, subst, append_assoc, append-nil, length-append, arith}
use Rattle.std.specs.Prelude.{IsUtf8, nat_lt, codes, slice_index}
use Rattle.std.specs.List.{list_all}
use Rattle.std.specs.Str.{IsAscii, IsCharBoundary}
use Rattle.std.proofs.Math.Seq.{take-append_seam, drop-append_seam}
use Rattle.std.proofs.lemmas.Bool.{false≢true, and_parts, and_from}
use Rattle.std.proofs.lemmas.Bool.Decides.{nat_tests, eqb_tells}
use Rattle.std.proofs.lemmas.List.{get_or-drop}
use Rattle.std.proofs.lemmas.List.Folds.{list_all-append}
use Rattle.std.proofs.lemmas.Str.{IsUtf8-append, IsUtf8-take, IsUtf8-from_ascii, IsCharBoundary-before_ascii}
use Rattle.brs_tokens.specs.Classes.{is_blank, stays_in_line, is_digit, is_hex_digit, begins_name, is_name_byte}
use Rattle.brs_tokens.specs.Pieces.{is_word, is_keyword, is_sign}
use Rattle.brs_tokens.specs.Kinds.{AreAll, IsName, IsRem, IsComment, IsNumber, quotes_doubled, IsText, Spells, IsLongestPiece}
use Rattle.brs_tokens.specs.Cuts.{WrittenPiece, slices, Cut}
use Rattle.brs_tokens.specs.declared.piece.PieceKind.{PieceKind}
use Rattle.brs_tokens.specs.declared.piece.PieceKind.TheVariants.{Blank, Comment, Token}
use Rattle.brs_tokens.specs.declared.token.TokenKind.TheVariants.{Newline, Name, Keyword, Number, Text, Sign}
use Rattle.brs_tokens.proofs.KindsLemmas.{rem-name, among-passed, listed-passed, signs_of_two}
use Rattle.brs_tokens.proofs.KindsConverse.{cons-some}
use Rattle.brs_tokens.proofs.Fronts.{IsTextFront, text-rest, front-split}

-- pieces of ASCII bytes

abbrev is_ascii : ℕ → Bool
is_ascii b = nat_lt b 128

ascii-byte : (b : ℕ) → is_ascii b ≡ true → b < 128
ascii-byte b h = grind (arith, nat_tests)

ascii-text : (bytes : List ℕ) → AreAll is_ascii bytes → IsUtf8 bytes
ascii-text bytes all = IsUtf8-from_ascii bytes (each bytes all)
  where
    each : (bytes : List ℕ) → AreAll is_ascii bytes → IsAscii bytes
    each [] all i = omega arith
    each (b ∷ bytes) all zero = ascii-byte b (and_parts (is_ascii b) (list_all is_ascii bytes) all).0
    each (b ∷ bytes) all (suc i) = each bytes (and_parts (is_ascii b) (list_all is_ascii bytes) all).1 i

all-among : (p q : ℕ → Bool) (bytes : List ℕ) → ((b : ℕ) → p b ≡ true → q b ≡ true) → AreAll p bytes → AreAll q bytes
all-among p q [] each all = refl
all-among p q (b ∷ bytes) each all =
    let parts = and_parts (p b) (list_all p bytes) all in
    and_from (q b) (list_all q bytes) (each b parts.0) (all-among p q bytes each parts.1)

all-both : (p : ℕ → Bool) (xs ys : List ℕ) → AreAll p xs → AreAll p ys → AreAll p (xs ++ ys)
all-both p xs ys first second = list_all-append p xs ys ∙ and_from (list_all p xs) (list_all p ys) first second

name-ascii : (b : ℕ) → is_name_byte b ≡ true → is_ascii b ≡ true
name-ascii b h = grind (arith, nat_tests)

first-ascii : (b : ℕ) → begins_name b ≡ true → is_ascii b ≡ true
first-ascii b h = grind (arith, nat_tests)

blank-ascii : (b : ℕ) → is_blank b ≡ true → is_ascii b ≡ true
blank-ascii b h = grind (arith, nat_tests)

digit-ascii : (b : ℕ) → is_digit b ≡ true → is_ascii b ≡ true
digit-ascii b h = grind (arith, nat_tests)

hex-ascii : (b : ℕ) → is_hex_digit b ≡ true → is_ascii b ≡ true
hex-ascii b h = grind (arith, nat_tests)

is-name-text : (bytes : List ℕ) → IsName bytes → IsUtf8 bytes
is-name-text bytes name =
    subst IsUtf8 (sym name.2) (ascii-text (name.0 ∷ name.1)
    (and_from (is_ascii name.0) (list_all is_ascii name.1) (first-ascii name.0 name.3) (all-among is_name_byte is_ascii name.1 name-ascii name.4)))

number-text : (bytes : List ℕ) → IsNumber bytes → IsUtf8 bytes
number-text bytes n = subst IsUtf8 (sym n.bytes_are) (ascii-text (n.digits ++ n.end) (all-both is_ascii n.digits n.end written ends))
  where
    ends : AreAll is_ascii n.end
    ends = elim n.ends [ inl none ↦ ap (list_all is_ascii) none | inr mark ↦ ap (list_all is_ascii) mark ]

    letter : (h : ℕ) → (h ≡ 104) ⊎ (h ≡ 72) → is_ascii h ≡ true
    letter h (inl small) = ap is_ascii small
    letter h (inr large) = ap is_ascii large

    written : AreAll is_ascii n.digits
    written = elim n.written [
      | inl decimal ↦ all-among is_digit is_ascii n.digits digit-ascii decimal.1
      | inr hex ↦
          ap (list_all is_ascii) hex.2
          ∙ and_from (is_ascii hex.0) (list_all is_ascii hex.1) (letter hex.0 hex.3) (all-among is_hex_digit is_ascii hex.1 hex-ascii hex.4.1)
    ]

sign-text : (bytes : List ℕ) → is_sign bytes ≡ true → IsUtf8 bytes
unfolding is_sign
sign-text [] h = absurd (false≢true h)
sign-text (b ∷ []) h = ascii-text (b ∷ []) (and_from (is_ascii b) true (among-passed is_ascii (codes "+-*\\=<>()[]{},:;.?") b refl h) refl)
sign-text (b ∷ c ∷ []) h = ascii-text (b ∷ c ∷ []) (listed-passed (list_all is_ascii) signs_of_two (b ∷ c ∷ []) refl h)
sign-text (b ∷ c ∷ d ∷ bs) h = absurd (false≢true h)

-- texts and comments, of which an ASCII byte is the last or follows

before-ascii : (xs ys : List ℕ) (b : ℕ) → b < 128 → IsUtf8 (xs ++ (b ∷ ys)) → IsUtf8 xs
before-ascii xs ys b small utf8 =
    let size = length-append xs (b ∷ ys) in
    let here : get_or (drop (length xs) (xs ++ (b ∷ ys))) 0 0 ≡ get_or (xs ++ (b ∷ ys)) (length xs + 0) 0 = get_or-drop (length xs) (xs ++ (b ∷ ys)) 0 0 in
    let first : get_or (drop (length xs) (xs ++ (b ∷ ys))) 0 0 ≡ b = ap (λ t. get_or t 0 0) (drop-append_seam xs (b ∷ ys)) in
    let place : length xs + 0 ≡ length xs = omega arith in
    let at : get_or (xs ++ (b ∷ ys)) (length xs) 0 ≡ b = ap (λ n. get_or (xs ++ (b ∷ ys)) n 0) (sym place) ∙ sym here ∙ first in
    let bound : IsCharBoundary (xs ++ (b ∷ ys)) (length xs) = IsCharBoundary-before_ascii (xs ++ (b ∷ ys)) (length xs) (omega arith) (omega arith) in
    subst IsUtf8 (take-append_seam xs (b ∷ ys)) (IsUtf8-take (xs ++ (b ∷ ys)) (length xs) utf8 bound)

text-text : (slice more : List ℕ) → IsText slice → IsUtf8 (slice ++ more) → IsUtf8 slice
text-text slice more text utf8 =
    let split : slice ++ more ≡ (34 ∷ quotes_doubled text.0) ++ (34 ∷ more) = ap (λ t. t ++ more) text.1 ∙ append_assoc (34 ∷ quotes_doubled text.0) (34 ∷ []) more in
    let front : IsUtf8 (34 ∷ quotes_doubled text.0) = before-ascii (34 ∷ quotes_doubled text.0) more 34 (omega arith) (subst IsUtf8 split utf8) in
    subst IsUtf8 (sym text.1) (IsUtf8-append (34 ∷ quotes_doubled text.0) (34 ∷ []) front (ascii-text (34 ∷ []) refl))

named-kind : (bytes : List ℕ) → IsName bytes → (kind : PieceKind) × Spells kind bytes
named-kind bytes name = by_rem (is_word (codes "rem") bytes) refl
  where
    by_keyword : is_word (codes "rem") bytes ≡ false → (w : Bool) → is_keyword bytes ≡ w → (kind : PieceKind) × Spells kind bytes
    by_keyword rem true word = (Token Keyword, (name, word))
    by_keyword rem false word = (Token Name, (name, word, rem))

    by_rem : (t : Bool) → is_word (codes "rem") bytes ≡ t → (kind : PieceKind) × Spells kind bytes
    by_rem true rem = (Comment, record { mark = bytes; line = []; bytes_are = sym (append-nil bytes); begins = inr (rem, refl); in_line = refl })
    by_rem false rem = by_keyword rem (is_keyword bytes) refl

-- a comment goes on with any byte but a line feed
comment-more : (slice : List ℕ) (b : ℕ) → IsComment slice → stays_in_line b ≡ true → (kind : PieceKind) × Spells kind (slice ++ b ∷ [])
comment-more slice b c stays = elim c.begins [ inl sign ↦ (Comment, longer (inl sign)) | inr rem ↦ by_line c.line refl rem ]
  where
    split : slice ++ b ∷ [] ≡ c.mark ++ (c.line ++ b ∷ [])
    split = ap (λ t. t ++ b ∷ []) c.bytes_are ∙ append_assoc c.mark c.line (b ∷ [])

    in_line : AreAll stays_in_line (c.line ++ b ∷ [])
    in_line = all-both stays_in_line c.line (b ∷ []) c.in_line (and_from (stays_in_line b) true stays refl)

    longer : ((c.mark ≡ 39 ∷ []) ⊎ (IsRem c.mark × (is_name_byte (slice_index (c.line ++ b ∷ []) 0) ≡ false))) → IsComment (slice ++ b ∷ [])
    longer begins = record { mark = c.mark; line = c.line ++ b ∷ []; bytes_are = split; begins = begins; in_line = in_line }

    by_byte : c.line ≡ [] → IsRem c.mark → (t : Bool) → is_name_byte b ≡ t → (kind : PieceKind) × Spells kind (slice ++ b ∷ [])
    by_byte none rem true h =
        let name = rem-name c.mark rem in
        let whole : slice ++ b ∷ [] ≡ name.0 ∷ (name.1 ++ b ∷ []) = split ∙ ap (λ t. c.mark ++ (t ++ b ∷ [])) none ∙ ap (λ t. t ++ b ∷ []) name.2 in
        named-kind (slice ++ b ∷ []) (name.0, name.1 ++ b ∷ [], whole, name.3, all-both is_name_byte name.1 (b ∷ []) name.4 (and_from (is_name_byte b) true h refl))
    by_byte none rem false h = (Comment, longer (inr (rem, ap (λ t. is_name_byte (slice_index (t ++ b ∷ []) 0)) none ∙ h)))

    by_line : (line : List ℕ) → c.line ≡ line → IsRem c.mark × (is_name_byte (slice_index c.line 0) ≡ false) → (kind : PieceKind) × Spells kind (slice ++ b ∷ [])
    by_line [] none rem = by_byte none rem.0 (is_name_byte b) refl
    by_line (x ∷ line) some rem =
        let first : is_name_byte x ≡ false = ap (λ t. is_name_byte (slice_index t 0)) (sym some) ∙ rem.1 in
        (Comment, longer (inr (rem.0, ap (λ t. is_name_byte (slice_index (t ++ b ∷ []) 0)) some ∙ first)))

comment-ends : (slice : List ℕ) (b : ℕ) (bs : List ℕ) → IsLongestPiece Comment slice (b ∷ bs) → b ≡ 10
comment-ends slice b bs is = elim (eqb_tells b 10) [
  | inl line ↦ line.1
  | inr other ↦
      let more = comment-more slice b is.spells (stays other.0) in
      absurd (cons-some b [] (is.longest more.0 (b ∷ []) bs refl more.1))
]
  where
    stays : nat_eq b 10 ≡ false → stays_in_line b ≡ true
    stays h = rw h refl

comment-text : (slice behind : List ℕ) (k : ℕ) → IsLongestPiece Comment slice behind → IsUtf8 (slice ++ take k behind) → IsUtf8 slice
comment-text slice behind zero is utf8 = subst IsUtf8 (append-nil slice) utf8
comment-text slice [] (suc k) is utf8 = subst IsUtf8 (append-nil slice) utf8
comment-text slice (b ∷ bs) (suc k) is utf8 =
    let line = comment-ends slice b bs is in
    before-ascii slice (take k bs) b (omega arith) utf8

-- a piece, and a cut

piece-text : (before : List ℕ) (kind : PieceKind) (slice behind : List ℕ) (n : ℕ) → IsTextFront (before ++ (slice ++ behind)) n → IsUtf8 before → IsLongestPiece kind slice behind
    → length before + length slice ≤ n → IsUtf8 slice
piece-text before kind slice behind n is utf8 longest within = by_kind kind longest
  where
    left : length slice ≤ n - length before
    left = omega arith

    rest : IsUtf8 (slice ++ take ((n - length before) - length slice) behind)
    rest =
        let front = front-split before (slice ++ behind) n (omega arith) in
        let more : IsUtf8 (take (n - length before) (slice ++ behind)) = text-rest before (take (n - length before) (slice ++ behind)) utf8 (subst IsUtf8 front is.text) in
        subst IsUtf8 (front-split slice behind (n - length before) left) more

    by_kind : (kind : PieceKind) → IsLongestPiece kind slice behind → IsUtf8 slice
    by_kind Blank longest = let s = longest.spells in subst IsUtf8 (sym s.1) (ascii-text (s.0 ∷ []) (and_from (is_ascii s.0) true (blank-ascii s.0 s.2) refl))
    by_kind Comment longest = comment-text slice behind ((n - length before) - length slice) longest rest
    by_kind (Token Newline) longest = subst IsUtf8 (sym longest.spells) (ascii-text (10 ∷ []) refl)
    by_kind (Token Name) longest = is-name-text slice longest.spells.0
    by_kind (Token Keyword) longest = is-name-text slice longest.spells.0
    by_kind (Token Number) longest = number-text slice longest.spells
    by_kind (Token Text) longest = text-text slice (take ((n - length before) - length slice) behind) longest.spells rest
    by_kind (Token Sign) longest = sign-text slice longest.spells

pub cut-text : (before bytes : List ℕ) (pieces : List WrittenPiece) (rest : List ℕ) (n : ℕ) → Cut bytes pieces rest → IsTextFront (before ++ bytes) n → IsUtf8 before
    → length (before ++ slices pieces) ≤ n → IsUtf8 (before ++ slices pieces)
cut-text before bytes [] rest n cut is utf8 within = subst IsUtf8 (sym (append-nil before)) utf8
cut-text before bytes (p ∷ pieces) rest n (behind, split, longest, none, cut) is utf8 within =
    let whole = append_assoc before p.slice (slices pieces) in
    let here : IsTextFront (before ++ (p.slice ++ behind)) n = subst (λ t. IsTextFront (before ++ t) n) split is in
    let fits : length before + length p.slice ≤ n = omega (arith, length-append before (p.slice ++ slices pieces), length-append p.slice (slices pieces)) in
    let piece : IsUtf8 (before ++ p.slice) = IsUtf8-append before p.slice utf8 (piece-text before p.kind p.slice behind n here utf8 longest fits) in
    let further : IsTextFront ((before ++ p.slice) ++ behind) n = subst (λ t. IsTextFront t n) (sym (append_assoc before p.slice behind)) here in
    subst IsUtf8 (append_assoc before p.slice (slices pieces)) (cut-text (before ++ p.slice) behind pieces rest n cut further piece (omega (arith, ap length whole)))
