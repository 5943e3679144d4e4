-- The rows of the table of lexical faults, as they are computed.
use Rattle.std.proofs.Common.{◌≡◌, ◌≢◌, ℕ, zero, suc, ◌<◌, ◌≤◌, ◌⊎◌, inl, inr, Bool, true, false, List, [], ◌∷◌, ◌++◌, length, take, drop, Option, Some, None, Ok, Err, refl, sym, ap, ◌∙◌, subst, append_assoc, append-nil, arith}
use Rattle.std.specs.Prelude.{IsUtf8, ◌&&◌, ◌||◌, ◌==◌, nat_lt, slice_index}
use Rattle.std.specs.Char.{encode_utf8}
use Rattle.std.specs.Str.{encode_utf8_all, IsAscii}
use Rattle.std.specs.List.{prefix_len}
use Rattle.std.proofs.Math.Seq.{take-append_seam, drop-append_seam}
use Rattle.std.proofs.lemmas.Bool.{false≢true, and_parts, and_from, or_cases}
use Rattle.std.proofs.lemmas.Bool.Decides.{nat_tests, eqb_tells}
use Rattle.std.proofs.lemmas.List.{take-append-drop, length-take-le}
use Rattle.std.proofs.lemmas.Str.{IsUtf8-from_ascii}
use Rattle.brs_tokens.specs.Classes.{is_digit}
use Rattle.brs_tokens.specs.Numbers.{is_too_large}
use Rattle.brs_tokens.specs.Pieces.{is_sign, is_text_end}
use Rattle.brs_tokens.specs.Kinds.{AreAll, AreSome, IsText, Spells, Begins, IsLongestPiece}
use Rattle.brs_tokens.specs.FaultTable.{IsCharacter, IsPointed, IsFloat, IsOpenText, BeginsSlash, Row}
use Rattle.brs_tokens.specs.Spelling.{longest_piece, begins_float, begins_exponent, stray_kind, is_number, piece_at}
use Rattle.brs_tokens.specs.declared.piece.Piece.{Piece}
use Rattle.brs_tokens.specs.declared.piece.PieceKind.{PieceKind}
use Rattle.brs_tokens.specs.declared.piece.PieceKind.TheVariants.{Blank, Comment, Token}
use Rattle.brs_tokens.specs.declared.token.TokenKind.TheVariants.{Newline, Name, Keyword, Number, Text, Sign}
use Rattle.brs_tokens.specs.declared.lex_fault.LexKind.{LexKind}
use Rattle.brs_tokens.specs.declared.lex_fault.LexKind.TheVariants.{NotUtf8, BadCharacter, OpenText, FloatLiteral, Slash, NumberTooLarge}
use Rattle.brs_tokens.proofs.Longest.{run-passes, run-within}
use Rattle.brs_tokens.proofs.LongestPiece.{IsUndigited, kind-text, kind-sign}
use Rattle.brs_tokens.proofs.TokensLemmas.{kind-ascii, piece_at-longest}
use Rattle.brs_tokens.proofs.KindsLemmas.{run-over, spells-kind}
use Rattle.brs_tokens.proofs.KindsConverse.{nothing-made, where_-some, either_byte}
use Rattle.brs_tokens.proofs.LongestKinds.{longest-found, longest-meant, none-meant, none-found}

-- characters

-- text has a character at its front
pub utf8-begins : (front behind : List ℕ) → 0 < length front → IsUtf8 front → Begins IsCharacter (front ++ behind)
utf8-begins front behind some ([], (all, spells)) = absurd (omega (arith, ap length spells))
utf8-begins front behind some (c ∷ cs, (all, spells)) = record {
  front = encode_utf8 c;
  behind = encode_utf8_all cs ++ behind;
  bytes_are = ap (λ t. t ++ behind) (sym spells) ∙ append_assoc (encode_utf8 c) (encode_utf8_all cs) behind;
  is = (c, (and_parts _ _ all).0, refl);
}

pub ascii-begins : (b : ℕ) (bs : List ℕ) → b < 128 → Begins IsCharacter (b ∷ bs)
ascii-begins b bs small = utf8-begins (b ∷ []) bs (omega arith) (IsUtf8-from_ascii (b ∷ []) ascii)
  where
    ascii : IsAscii (b ∷ [])
    ascii zero = small
    ascii (suc i) = omega arith

-- a piece begins with a character
pub piece-begins : (kind : PieceKind) (piece behind : List ℕ) → Spells kind piece → Begins IsCharacter (piece ++ behind)
piece-begins kind [] behind s = absurd (nothing-made kind (spells-kind kind [] s))
piece-begins kind (b ∷ bs) behind s = ascii-begins b (bs ++ behind) (kind-ascii b bs kind (spells-kind kind (b ∷ bs) s))

-- numbers with a point or an exponent

abbrev float_past : ℕ → List ℕ → Bool
float_past n after = (slice_index after 0 == 46 && is_digit (slice_index after 1)) || (nat_lt 0 n && begins_exponent after)

float-past : (digits behind : List ℕ) → AreAll is_digit digits → is_digit (slice_index behind 0) ≡ false → begins_float (digits ++ behind) ≡ float_past (length digits) behind
float-past digits behind all ends =
    let len : prefix_len is_digit (digits ++ behind) ≡ length digits = run-over is_digit digits behind all ends in
    ap (λ n. float_past n (drop n (digits ++ behind))) len ∙ ap (float_past (length digits)) (drop-append_seam digits behind)

or_right : (x y : Bool) → y ≡ true → (x || y) ≡ true
or_right true y e = refl
or_right false y e = e

some_digits : (digits : List ℕ) → digits ≢ [] → nat_lt 0 (length digits) ≡ true
some_digits [] some = absurd (some refl)
some_digits (d ∷ digits) some = grind (arith, nat_tests)

letter-ends : (letter : ℕ) → (letter ≡ 101) ⊎ (letter ≡ 100) → is_digit letter ≡ false
letter-ends letter (inl e) = rw e refl
letter-ends letter (inr d) = rw d refl

exponent-found : (letter last : ℕ) (sign behind : List ℕ) → (letter ≡ 101) ⊎ (letter ≡ 100) → (sign ≡ []) ⊎ ((sign ≡ 43 ∷ []) ⊎ (sign ≡ 45 ∷ [])) → is_digit last ≡ true
    → begins_exponent (letter ∷ (sign ++ last ∷ behind)) ≡ true
exponent-found letter last sign behind scale signed ends = and_from (letter == 101 || letter == 100) _ (first scale) (second signed)
  where
    first : (letter ≡ 101) ⊎ (letter ≡ 100) → (letter == 101 || letter == 100) ≡ true
    first (inl e) = rw e refl
    first (inr d) = rw d refl

    past_letter : List ℕ → Bool
    past_letter t = is_digit (slice_index t 0) || ((slice_index t 0 == 43 || slice_index t 0 == 45) && is_digit (slice_index t 1))

    second : (sign ≡ []) ⊎ ((sign ≡ 43 ∷ []) ⊎ (sign ≡ 45 ∷ [])) → past_letter (sign ++ last ∷ behind) ≡ true
    second (inl none) = ap (λ t. past_letter (t ++ last ∷ behind)) none ∙ rw ends refl
    second (inr (inl plus)) = ap (λ t. past_letter (t ++ last ∷ behind)) plus ∙ rw ends refl
    second (inr (inr minus)) = ap (λ t. past_letter (t ++ last ∷ behind)) minus ∙ rw ends refl

pub float-found : (bs : List ℕ) → Begins IsFloat bs → begins_float bs ≡ true
float-found bs b = elim b.is [
  | inl p ↦
      let split : bs ≡ p.digits ++ (46 ∷ p.last ∷ b.behind) = b.bytes_are ∙ ap (λ t. t ++ b.behind) p.bytes_are ∙ append_assoc p.digits (46 ∷ p.last ∷ []) b.behind in
      ap begins_float split ∙ float-past p.digits (46 ∷ p.last ∷ b.behind) p.all refl ∙ rw p.ends refl
  | inr s ↦
      let split : bs ≡ s.digits ++ (s.letter ∷ ((s.sign ++ s.last ∷ []) ++ b.behind)) =
      b.bytes_are ∙ ap (λ t. t ++ b.behind) s.bytes_are ∙ append_assoc s.digits (s.letter ∷ (s.sign ++ s.last ∷ [])) b.behind in
      let more : bs ≡ s.digits ++ (s.letter ∷ (s.sign ++ s.last ∷ b.behind)) =
      split ∙ ap (λ t. s.digits ++ (s.letter ∷ t)) (append_assoc s.sign (s.last ∷ []) b.behind) in
      ap begins_float more
      ∙ float-past s.digits (s.letter ∷ (s.sign ++ s.last ∷ b.behind)) s.some.1 (letter-ends s.letter s.scale)
      ∙ or_right _ _ (and_from (nat_lt 0 (length s.digits)) _ (some_digits s.digits s.some.0) (exponent-found s.letter s.last s.sign b.behind s.scale s.signed s.ends))
]

pointed : (digits after : List ℕ) → AreAll is_digit digits → (slice_index after 0 == 46) ≡ true → is_digit (slice_index after 1) ≡ true → Begins IsFloat (digits ++ after)
pointed digits [] all point last = absurd (false≢true point)
pointed digits (a ∷ []) all point last = absurd (false≢true last)
pointed digits (a ∷ d ∷ after) all point last = record {
  front = digits ++ (46 ∷ d ∷ []);
  behind = after;
  bytes_are = ap (λ t. digits ++ (t ∷ d ∷ after)) (dot_is (eqb_tells a 46)) ∙ sym (append_assoc digits (46 ∷ d ∷ []) after);
  is = inl (record { digits = digits; last = d; bytes_are = refl; all = all; ends = last });
}
  where
    dot_is : ((a == 46) ≡ true) × (a ≡ 46) ⊎ ((a == 46) ≡ false) × (a ≢ 46) → a ≡ 46
    dot_is (inl is) = is.1
    dot_is (inr other) = absurd (false≢true (sym other.0 ∙ point))

scaled : (digits after : List ℕ) → AreSome is_digit digits → begins_exponent after ≡ true → Begins IsFloat (digits ++ after)
scaled digits [] some e = absurd (false≢true e)
scaled digits (a ∷ []) some e = absurd (false≢true (and_parts (a == 101 || a == 100) false e).1)
scaled digits (a ∷ c ∷ after) some e =
    let parts = and_parts (a == 101 || a == 100) (is_digit c || ((c == 43 || c == 45) && is_digit (slice_index after 0))) e in
    past (either_byte a 101 100 parts.0) after (or_cases (is_digit c) ((c == 43 || c == 45) && is_digit (slice_index after 0)) parts.1)
  where
    past : (a ≡ 101) ⊎ (a ≡ 100) → (after : List ℕ) → (is_digit c ≡ true) ⊎ (((c == 43 || c == 45) && is_digit (slice_index after 0)) ≡ true) → Begins IsFloat (digits ++ (a ∷ c ∷ after))
    past letter after (inl last) = record {
      front = digits ++ (a ∷ c ∷ []);
      behind = after;
      bytes_are = sym (append_assoc digits (a ∷ c ∷ []) after);
      is = inr (record { digits = digits; letter = a; sign = []; last = c; bytes_are = refl; some = some; scale = letter; signed = inl refl; ends = last });
    }
    past letter [] (inr signed) = absurd (false≢true (and_parts (c == 43 || c == 45) false signed).1)
    past letter (d ∷ after) (inr signed) =
        let parts = and_parts (c == 43 || c == 45) (is_digit d) signed in
        record {
          front = digits ++ (a ∷ c ∷ d ∷ []);
          behind = after;
          bytes_are = sym (append_assoc digits (a ∷ c ∷ d ∷ []) after);
          is = inr (record {
            digits = digits;
            letter = a;
            sign = c ∷ [];
            last = d;
            bytes_are = refl;
            some = some;
            scale = letter;
            signed = inr (elim (either_byte c 43 45 parts.0) [ inl plus ↦ inl (ap (λ t. t ∷ []) plus) | inr minus ↦ inr (ap (λ t. t ∷ []) minus) ]);
            ends = parts.1;
          });
        }

some_taken : (bs : List ℕ) (n : ℕ) → n ≤ length bs → nat_lt 0 n ≡ true → take n bs ≢ []
some_taken bs n within some none =
    let long : 0 < n = grind (arith, nat_tests) in
    absurd (omega (arith, ap length none, length-take-le n bs within))

pub float-meant : (bs : List ℕ) → begins_float bs ≡ true → Begins IsFloat bs
float-meant bs e =
    let split = take-append-drop (prefix_len is_digit bs) bs in
    subst (Begins IsFloat) split (cases (or_cases (slice_index (drop (prefix_len is_digit bs) bs) 0 == 46 && is_digit (slice_index (drop (prefix_len is_digit bs) bs) 1))
    (nat_lt 0 (prefix_len is_digit bs) && begins_exponent (drop (prefix_len is_digit bs) bs)) e))
  where
    cases : (((slice_index (drop (prefix_len is_digit bs) bs) 0 == 46 && is_digit (slice_index (drop (prefix_len is_digit bs) bs) 1)) ≡ true)
        ⊎ ((nat_lt 0 (prefix_len is_digit bs) && begins_exponent (drop (prefix_len is_digit bs) bs)) ≡ true))
        → Begins IsFloat (take (prefix_len is_digit bs) bs ++ drop (prefix_len is_digit bs) bs)
    cases (inl point) =
        let parts = and_parts _ _ point in
        pointed (take (prefix_len is_digit bs) bs) (drop (prefix_len is_digit bs) bs) (run-passes is_digit bs) parts.0 parts.1
    cases (inr scale) =
        let parts = and_parts _ _ scale in
        scaled (take (prefix_len is_digit bs) bs) (drop (prefix_len is_digit bs) bs)
        (some_taken bs (prefix_len is_digit bs) (run-within is_digit bs) parts.0, run-passes is_digit bs) parts.1

-- where one begins, so does a number or a sign
float-piece : (bs : List ℕ) → Begins IsFloat bs → (kind : PieceKind) × Begins (Spells kind) bs
unfolding is_sign
float-piece bs b = elim b.is [ inl p ↦ at_point p.digits p refl | inr s ↦ at_digits s.digits (s.letter ∷ (s.sign ++ s.last ∷ [])) s.some s.bytes_are ]
  where
    at_digits : (digits more : List ℕ) → AreSome is_digit digits → b.front ≡ digits ++ more → (kind : PieceKind) × Begins (Spells kind) bs
    at_digits digits more some is = (
      Token Number,
      record {
        front = digits;
        behind = more ++ b.behind;
        bytes_are = b.bytes_are ∙ ap (λ t. t ++ b.behind) is ∙ append_assoc digits more b.behind;
        is = record { digits = digits; end = []; bytes_are = sym (append-nil digits); written = inl some; ends = inl refl };
      },
    )

    at_point : (digits : List ℕ) (p : IsPointed b.front) → p.digits ≡ digits → (kind : PieceKind) × Begins (Spells kind) bs
    at_point [] p none = (
      Token Sign,
      record {
        front = 46 ∷ [];
        behind = p.last ∷ b.behind;
        bytes_are = b.bytes_are ∙ ap (λ t. t ++ b.behind) (p.bytes_are ∙ ap (λ t. t ++ 46 ∷ p.last ∷ []) none);
        is = refl;
      },
    )
    at_point (d ∷ digits) p some =
        at_digits (d ∷ digits) (46 ∷ p.last ∷ []) (λ none. absurd (cons_some none), subst (AreAll is_digit) some p.all) (p.bytes_are ∙ ap (λ t. t ++ 46 ∷ p.last ∷ []) some)
      where
        cons_some : d ∷ digits ≡ [] → ⊥
        cons_some none = absurd (omega (arith, ap length none))

-- what is computed where the bytes begin

at-float : (bs : List ℕ) → begins_float bs ≡ true → piece_at bs ≡ Err FloatLiteral
unfolding piece_at
at-float bs float = rw float refl

at-none : (bs : List ℕ) → begins_float bs ≡ false → longest_piece bs ≡ None → piece_at bs ≡ Err (stray_kind (slice_index bs 0))
unfolding piece_at
at-none bs float none = rw (float, none) refl

at-large : (bs : List ℕ) (p : Piece) → begins_float bs ≡ false → longest_piece bs ≡ Some p → (is_number p.kind && is_too_large (take p.len bs)) ≡ true → piece_at bs ≡ Err NumberTooLarge
unfolding piece_at
at-large bs p float some large = rw (float, some, large) refl

at-piece : (bs : List ℕ) (p : Piece) → begins_float bs ≡ false → longest_piece bs ≡ Some p → (is_number p.kind && is_too_large (take p.len bs)) ≡ false → piece_at bs ≡ Ok p
unfolding piece_at
at-piece bs p float some fits = rw (float, some, fits) refl

not_true : (t : Bool) → (t ≡ true → ⊥) → t ≡ false
not_true true never = absurd (never refl)
not_true false never = refl

no_float : (bs : List ℕ) → (Begins IsFloat bs → ⊥) → begins_float bs ≡ false
no_float bs never = not_true (begins_float bs) (λ e. never (float-meant bs e))

-- where the row holds, the fault is computed

-- nothing that begins with a quote is a piece but a text
quote-text : (kind : PieceKind) (bs : List ℕ) → Spells kind (34 ∷ bs) → IsText (34 ∷ bs)
quote-text kind bs s =
    let both = where_-some (is_text_end bs) (Token Text) kind (sym (kind-text bs) ∙ spells-kind kind (34 ∷ bs) s) in
    subst (λ k. Spells k (34 ∷ bs)) (sym both.1) s

first-byte : (kind : PieceKind) (b : ℕ) (bs : List ℕ) (begins : Begins (Spells kind) (b ∷ bs)) → (more : List ℕ) × (begins.front ≡ b ∷ more)
first-byte kind b bs begins = of_front begins.front begins.behind begins.bytes_are begins.is
  where
    of_front : (front behind : List ℕ) → b ∷ bs ≡ front ++ behind → Spells kind front → (more : List ℕ) × (front ≡ b ∷ more)
    of_front [] behind split s = absurd (nothing-made kind (spells-kind kind [] s))
    of_front (c ∷ front) behind split s = (front, cc)

open-none : (bs : List ℕ) → (Begins IsText (34 ∷ bs) → ⊥) → longest_piece (34 ∷ bs) ≡ None
open-none bs never = none-found (34 ∷ bs) none
  where
    none : (kind : PieceKind) → Begins (Spells kind) (34 ∷ bs) → ⊥
    none kind begins =
        let first = first-byte kind 34 bs begins in
        let s : Spells kind (34 ∷ first.0) = subst (Spells kind) first.1 begins.is in
        never (record { front = begins.front; behind = begins.behind; bytes_are = begins.bytes_are; is = subst IsText (sym first.1) (quote-text kind first.0 s) })

slash-undigited : IsUndigited 47
slash-undigited = record { unnamed = record { other = record { blank = refl; newline = omega arith; apostrophe = omega arith }; name = refl }; digit = refl }

slash-sign : (bs : List ℕ) → is_sign (47 ∷ bs) ≡ false
unfolding is_sign
slash-sign [] = refl
slash-sign (c ∷ []) = refl
slash-sign (c ∷ d ∷ bs) = refl

slash-none : (bs : List ℕ) → longest_piece (47 ∷ bs) ≡ None
slash-none bs = none-found (47 ∷ bs) none
  where
    no_kind : (kind : PieceKind) (more : List ℕ) → Spells kind (47 ∷ more) → ⊥
    no_kind kind more s =
        let made = sym (kind-sign 47 more slash-undigited (omega arith) (omega arith)) ∙ spells-kind kind (47 ∷ more) s in
        false≢true (sym (slash-sign more) ∙ (where_-some (is_sign (47 ∷ more)) (Token Sign) kind made).0)

    none : (kind : PieceKind) → Begins (Spells kind) (47 ∷ bs) → ⊥
    none kind begins = let first = first-byte kind 47 bs begins in no_kind kind first.0 (subst (Spells kind) first.1 begins.is)

bad-kind : (bs : List ℕ) → (BeginsSlash bs → ⊥) → (IsOpenText bs → ⊥) → (Begins IsText bs → ⊥) → stray_kind (slice_index bs 0) ≡ BadCharacter
bad-kind [] slash open_text text = refl
bad-kind (b ∷ bs) slash open_text text = elim (eqb_tells b 47) [
  | inl is ↦ absurd (slash (record { front = 47 ∷ []; behind = bs; bytes_are = ap (λ t. t ∷ bs) is.1; is = refl }))
  | inr other ↦ elim (eqb_tells b 34) [
    | inl is ↦ absurd (open_text (record { front = 34 ∷ []; behind = bs; bytes_are = ap (λ t. t ∷ bs) is.1; is = refl }, text))
    | inr also ↦ rw (other.0, also.0) refl
  ]
]

begins-with : (b : ℕ) (bs : List ℕ) (begins : Begins (λ front. front ≡ b ∷ []) bs) → bs ≡ b ∷ begins.behind
begins-with b bs begins = begins.bytes_are ∙ ap (λ t. t ++ begins.behind) begins.is

pub row-found : (kind : LexKind) (bs : List ℕ) → kind ≢ NotUtf8 → Row kind bs → piece_at bs ≡ Err kind
row-found NotUtf8 bs other row = absurd (other refl)
row-found BadCharacter bs other row =
    let float = no_float bs (λ b. let piece = float-piece bs b in row.1 piece.0 piece.1) in
    at-none bs float (none-found bs row.1) ∙ ap Err (bad-kind bs row.2 row.3 (row.1 (Token Text)))
row-found OpenText bs other row =
    let split = begins-with 34 bs row.0 in
    let none : longest_piece (34 ∷ row.0.behind) ≡ None = open-none row.0.behind (λ text. row.1 (subst (Begins IsText) (sym split) text)) in
    ap piece_at split ∙ at-none (34 ∷ row.0.behind) refl none
row-found FloatLiteral bs other row = at-float bs (float-found bs row)
row-found Slash bs other row =
    let split = begins-with 47 bs row in
    ap piece_at split ∙ at-none (47 ∷ row.behind) refl (slash-none row.behind)
row-found NumberTooLarge bs other row =
    let large = row.0 in
    let front : take (length large.number) bs ≡ large.number = ap (take (length large.number)) large.bytes_are ∙ take-append_seam large.number large.behind in
    at-large bs (record { kind = Token Number; len = length large.number }) (no_float bs row.1)
    (ap longest_piece large.bytes_are ∙ longest-found (Token Number) large.number large.behind large.longest)
    (ap is_too_large front ∙ large.too_large)

-- where the fault is computed, the row holds

number_is : (kind : PieceKind) → is_number kind ≡ true → kind ≡ Token Number
number_is Blank e = absurd (false≢true e)
number_is Comment e = absurd (false≢true e)
number_is (Token Newline) e = absurd (false≢true e)
number_is (Token Name) e = absurd (false≢true e)
number_is (Token Keyword) e = absurd (false≢true e)
number_is (Token Number) e = refl
number_is (Token Text) e = absurd (false≢true e)
number_is (Token Sign) e = absurd (false≢true e)

-- a fault of the table other than a byte that begins no character
abbrev IsRowAt : List ℕ → LexKind → Type 0
IsRowAt bs kind = Row kind bs × (kind ≢ NotUtf8)

float_at : (bs : List ℕ) → begins_float bs ≡ true → IsRowAt bs FloatLiteral
float_at bs e = (float-meant bs e, λ same. absurd (cc))

stray_at : (bs : List ℕ) → 0 < length bs → Begins IsCharacter bs → longest_piece bs ≡ None → IsRowAt bs (stray_kind (slice_index bs 0))
stray_at [] some char none = absurd (omega arith)
stray_at (b ∷ bs) some char none = elim (eqb_tells b 47) [
  | inl is ↦ rw is.0 (record { front = 47 ∷ []; behind = bs; bytes_are = ap (λ t. t ∷ bs) is.1; is = refl }, λ same. absurd (cc))
  | inr other ↦ elim (eqb_tells b 34) [
    | inl is ↦
        rw (other.0, is.0) ((record { front = 34 ∷ []; behind = bs; bytes_are = ap (λ t. t ∷ bs) is.1; is = refl }, none-meant (b ∷ bs) none (Token Text)), λ same. absurd (cc))
    | inr also ↦
        rw (other.0, also.0) (
          (
            char,
            none-meant (b ∷ bs) none,
            λ slash. other.1 (first_is b bs 47 (begins-with 47 (b ∷ bs) slash)),
            λ text. also.1 (first_is b bs 34 (begins-with 34 (b ∷ bs) text.0)),
          ),
          λ same. absurd (cc),
        )
  ]
]
  where
    first_is : (b : ℕ) (bs : List ℕ) (c : ℕ) {more : List ℕ} → b ∷ bs ≡ c ∷ more → b ≡ c
    first_is b bs c e = cc

pub fault-meant : (bs : List ℕ) (kind : LexKind) → 0 < length bs → Begins IsCharacter bs → piece_at bs ≡ Err kind → IsRowAt bs kind
fault-meant bs kind some char e = by_float (begins_float bs) refl
  where
    same_kind : (made : LexKind) → piece_at bs ≡ Err made → IsRowAt bs made → IsRowAt bs kind
    same_kind made at row = let same : made ≡ kind = cc in subst (IsRowAt bs) same row

    by_size : (p : Piece) → begins_float bs ≡ false → longest_piece bs ≡ Some p → (large : Bool) → (is_number p.kind && is_too_large (take p.len bs)) ≡ large → IsRowAt bs kind
    by_size p float found true large =
        let parts = and_parts (is_number p.kind) (is_too_large (take p.len bs)) large in
        let longest = subst (λ k. IsLongestPiece k (take p.len bs) (drop p.len bs)) (number_is p.kind parts.0) (longest-meant bs p found) in
        same_kind NumberTooLarge (at-large bs p float found large) (
          (
            record { number = take p.len bs; behind = drop p.len bs; bytes_are = sym (take-append-drop p.len bs); longest = longest; too_large = parts.1 },
            λ b. false≢true (sym float ∙ float-found bs b),
          ),
          λ same. absurd (cc),
        )
    by_size p float found false fits = let at = at-piece bs p float found fits in absurd (cc)

    by_piece : begins_float bs ≡ false → (found : Option Piece) → longest_piece bs ≡ found → IsRowAt bs kind
    by_piece float None none = same_kind (stray_kind (slice_index bs 0)) (at-none bs float none) (stray_at bs some char none)
    by_piece float (Some p) found = by_size p float found (is_number p.kind && is_too_large (take p.len bs)) refl

    by_float : (float : Bool) → begins_float bs ≡ float → IsRowAt bs kind
    by_float true float = same_kind FloatLiteral (at-float bs float) (float_at bs float)
    by_float false float = by_piece float (longest_piece bs) refl

-- a piece begins

pub kind_tells : (kind : LexKind) → (kind ≡ NotUtf8) ⊎ (kind ≢ NotUtf8)
kind_tells NotUtf8 = inl refl
kind_tells BadCharacter = inr (λ same. absurd (cc))
kind_tells OpenText = inr (λ same. absurd (cc))
kind_tells FloatLiteral = inr (λ same. absurd (cc))
kind_tells Slash = inr (λ same. absurd (cc))
kind_tells NumberTooLarge = inr (λ same. absurd (cc))

pub piece-meant : (bs : List ℕ) (p : Piece) → piece_at bs ≡ Ok p → IsLongestPiece p.kind (take p.len bs) (drop p.len bs) × ((kind : LexKind) → Row kind bs → ⊥)
piece-meant bs p e = (longest, no_row)
  where
    longest : IsLongestPiece p.kind (take p.len bs) (drop p.len bs)
    longest = longest-meant bs p (piece_at-longest bs p e).0

    no_row : (kind : LexKind) → Row kind bs → ⊥
    no_row kind row = elim (kind_tells kind) [
      | inl same ↦
          let bad : Row NotUtf8 bs = subst (λ k. Row k bs) same row in
          bad.1 (subst (Begins IsCharacter) (take-append-drop p.len bs) (piece-begins p.kind (take p.len bs) (drop p.len bs) longest.spells))
      | inr other ↦ let fault = row-found kind bs other row in absurd (cc)
    ]

pub piece-found : (kind : PieceKind) (piece behind : List ℕ) → IsLongestPiece kind piece behind → ((fault : LexKind) → Row fault (piece ++ behind) → ⊥)
    → piece_at (piece ++ behind) ≡ Ok (record { kind = kind; len = length piece })
piece-found kind piece behind is none =
    at-piece (piece ++ behind) (record { kind = kind; len = length piece }) float found (not_true _ fits)
  where
    float : begins_float (piece ++ behind) ≡ false
    float = no_float (piece ++ behind) (none FloatLiteral)

    found : longest_piece (piece ++ behind) ≡ Some (record { kind = kind; len = length piece })
    found = longest-found kind piece behind is

    fits : (is_number kind && is_too_large (take (length piece) (piece ++ behind))) ≡ true → ⊥
    fits large =
        let parts = and_parts (is_number kind) (is_too_large (take (length piece) (piece ++ behind))) large in
        none NumberTooLarge (
          record {
            number = piece;
            behind = behind;
            bytes_are = refl;
            longest = subst (λ k. IsLongestPiece k piece behind) (number_is kind parts.0) is;
            too_large = ap is_too_large (sym (take-append_seam piece behind)) ∙ parts.1;
          },
          none FloatLiteral,
        )

-- where a row other than the first holds, a character begins
pub row-begins : (kind : LexKind) (bs : List ℕ) → kind ≢ NotUtf8 → Row kind bs → Begins IsCharacter bs
row-begins NotUtf8 bs other row = absurd (other refl)
row-begins BadCharacter bs other row = row.0
row-begins OpenText bs other row = subst (Begins IsCharacter) (sym (begins-with 34 bs row.0)) (ascii-begins 34 row.0.behind (omega arith))
row-begins FloatLiteral bs other row = let piece = float-piece bs row in front-begins piece.0 bs piece.1
  where
    front-begins : (kind : PieceKind) (bs : List ℕ) → Begins (Spells kind) bs → Begins IsCharacter bs
    front-begins kind bs b = subst (Begins IsCharacter) (sym b.bytes_are) (piece-begins kind b.front b.behind b.is)
row-begins Slash bs other row = subst (Begins IsCharacter) (sym (begins-with 47 bs row)) (ascii-begins 47 row.behind (omega arith))
row-begins NumberTooLarge bs other row =
    subst (Begins IsCharacter) (sym row.0.bytes_are) (piece-begins (Token Number) row.0.number row.0.behind row.0.longest.spells)
