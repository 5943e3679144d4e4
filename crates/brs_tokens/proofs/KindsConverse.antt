-- What is a piece of a kind spells a piece of that kind.
use Rattle.std.proofs.Common.{◌≡◌, ◌≢◌, ℕ, suc, ◌+◌, ◌⊎◌, inl, inr, Bool, true, false, cond, List, [], ◌∷◌, ◌++◌, take, drop, Some, refl, sym, ap, ◌∙◌, subst, append-nil, arith}
use Rattle.std.specs.Prelude.{◌&&◌, ◌||◌, ◌==◌, codes, slice_index}
use Rattle.std.specs.List.{prefix_len, list_all}
use Rattle.std.proofs.lemmas.Bool.{false≢true, and_parts, and_from}
use Rattle.std.proofs.lemmas.Bool.Decides.{eqb_tells}
use Rattle.std.proofs.lemmas.List.{take-append-drop}
use Rattle.brs_tokens.specs.Classes.{is_blank, stays_in_line, is_digit, is_hex_digit, begins_name, is_name_byte}
use Rattle.brs_tokens.specs.Pieces.{piece_kind, where_, is_empty, is_digits, is_hex_end, is_text_end, is_word, is_keyword, word_kind}
use Rattle.brs_tokens.specs.Kinds.{AreAll, IsName, quotes_doubled, Spells}
use Rattle.brs_tokens.proofs.Longest.{run-passes}
use Rattle.brs_tokens.proofs.LongestPiece.{IsOther, IsUnnamed, IsUndigited, kind-blank, kind-newline, kind-comment, kind-word, kind-decimal, kind-hex, kind-text, kind-sign}
use Rattle.brs_tokens.specs.declared.piece.PieceKind.{PieceKind}
use Rattle.brs_tokens.specs.declared.piece.PieceKind.TheVariants.{Blank, Comment, Token}
use Rattle.brs_tokens.specs.declared.token.TokenKind.TheVariants.{Newline, Name, Keyword, Number, Text, Sign}

pub where_-some : (test : Bool) (made kind : PieceKind) → where_ test made ≡ Some kind → (test ≡ true) × (made ≡ kind)
where_-some true made kind e = (refl, cc)
where_-some false made kind e = absurd (cc)

pub cons-some : (b : ℕ) (bs : List ℕ) → b ∷ bs ≢ []
cons-some b bs none = absurd (cc)

empty-nil : (bs : List ℕ) → is_empty bs ≡ true → bs ≡ []
empty-nil [] e = refl
empty-nil (b ∷ bs) e = absurd (false≢true e)

-- behind a run its class ends
run-ends : (p : ℕ → Bool) (bs : List ℕ) → p 0 ≡ false → p (slice_index (drop (prefix_len p bs) bs) 0) ≡ false
run-ends p [] ends = ends
run-ends p (b ∷ bs) ends =
    elim (p b) as (λ t. (p b ≡ t) → p (slice_index (drop (prefix_len p (b ∷ bs)) (b ∷ bs)) 0) ≡ false) [
      | true ↦ λ h. let more : 1 + prefix_len p bs ≡ suc (prefix_len p bs) = omega arith in rw (h, more) (run-ends p bs ends)
      | false ↦ λ h. rw (h, h) refl
    ] refl

-- names, keywords and comments by word

named : (b : ℕ) (bs : List ℕ) → begins_name b ≡ true → take (prefix_len is_name_byte (b ∷ bs)) (b ∷ bs) ≡ b ∷ bs → IsName (b ∷ bs)
named b bs begins whole =
    let all : list_all is_name_byte (b ∷ bs) ≡ true = ap (list_all is_name_byte) (sym whole) ∙ run-passes is_name_byte (b ∷ bs) in
    (b, bs, refl, begins, (and_parts (is_name_byte b) (list_all is_name_byte bs) all).1)

whole_name : (name : List ℕ) (kind : PieceKind) → IsName name → is_word (codes "rem") name ≡ false → (w : Bool) → is_keyword name ≡ w
    → Token (cond w Keyword Name) ≡ kind → Spells kind name
whole_name name kind is rem true word e = subst (λ k. Spells k name) e (is, word)
whole_name name kind is rem false word e = subst (λ k. Spells k name) e (is, word, rem)

word-spells : (b : ℕ) (bs : List ℕ) (kind : PieceKind) → begins_name b ≡ true → word_kind (b ∷ bs) ≡ Some kind → Spells kind (b ∷ bs)
unfolding word_kind
word-spells b bs kind begins e =
    let split = take-append-drop (prefix_len is_name_byte (b ∷ bs)) (b ∷ bs) in
    elim (is_word (codes "rem") (take (prefix_len is_name_byte (b ∷ bs)) (b ∷ bs))) as (λ t. (is_word (codes "rem") (take (prefix_len is_name_byte (b ∷ bs)) (b ∷ bs)) ≡ t) → Spells kind (b ∷ bs)) [
      | true ↦ λ rem.
          let e' = rw rem at e in
          let both = where_-some _ Comment kind e' in
          subst (λ k. Spells k (b ∷ bs)) both.1 (record {
            mark = take (prefix_len is_name_byte (b ∷ bs)) (b ∷ bs);
            line = drop (prefix_len is_name_byte (b ∷ bs)) (b ∷ bs);
            bytes_are = sym split;
            begins = inr (rem, run-ends is_name_byte (b ∷ bs) refl);
            in_line = both.0;
          })
      | false ↦ λ rem.
          let e' = rw rem at e in
          let both = where_-some _ _ kind e' in
          let none = empty-nil _ both.0 in
          let whole : take (prefix_len is_name_byte (b ∷ bs)) (b ∷ bs) ≡ b ∷ bs = sym (append-nil _) ∙ ap (λ t. take (prefix_len is_name_byte (b ∷ bs)) (b ∷ bs) ++ t) (sym none) ∙ split in
          whole_name (b ∷ bs) kind (named b bs begins whole) (ap (is_word (codes "rem")) (sym whole) ∙ rem) (is_keyword (take (prefix_len is_name_byte (b ∷ bs)) (b ∷ bs))) (ap is_keyword (sym whole)) both.1
    ] refl

-- numbers

pub digits-split : (p : ℕ → Bool) (bs : List ℕ) → is_digits p bs ≡ true → (digits : List ℕ) × (end : List ℕ) × (bs ≡ digits ++ end) × AreAll p digits × ((end ≡ []) ⊎ (end ≡ 38 ∷ []))
digits-split p [] e = ([], [], refl, refl, inl refl)
digits-split p (b ∷ bs) e =
    elim (p b) as (λ t. (p b ≡ t) → (digits : List ℕ) × (end : List ℕ) × (b ∷ bs ≡ digits ++ end) × AreAll p digits × ((end ≡ []) ⊎ (end ≡ 38 ∷ []))) [
      | true ↦ λ h.
          let e' = rw h at e in
          let more = digits-split p bs e' in
          (b ∷ more.0, more.1, ap (λ t. b ∷ t) more.2, rw h more.3, more.4)
      | false ↦ λ h.
          let e' = rw h at e in
          let parts = and_parts (b == 38) (is_empty bs) e' in
          let none = empty-nil bs parts.1 in
          ([], b ∷ bs, refl, refl, elim (eqb_tells b 38) [ inl is ↦ inr (cc) | inr other ↦ absurd (false≢true (sym other.0 ∙ parts.0)) ])
    ] refl

decimal-spells : (b : ℕ) (bs : List ℕ) → is_digit b ≡ true → is_digits is_digit bs ≡ true → Spells (Token Number) (b ∷ bs)
decimal-spells b bs first e =
    let more = digits-split is_digit bs e in
    record {
      digits = b ∷ more.0;
      end = more.1;
      bytes_are = ap (λ t. b ∷ t) more.2;
      written = inl (cons-some b more.0, and_from (is_digit b) (list_all is_digit more.0) first more.3);
      ends = more.4;
    }

pub either_byte : (b x y : ℕ) → (b == x || b == y) ≡ true → (b ≡ x) ⊎ (b ≡ y)
either_byte b x y e = elim (eqb_tells b x) [
  | inl is ↦ inl is.1
  | inr other ↦ elim (eqb_tells b y) [ inl is ↦ inr is.1 | inr also ↦ let e' = rw (other.0, also.0) at e in absurd (false≢true e') ]
]

hex-spells : (bs : List ℕ) → is_hex_end bs ≡ true → Spells (Token Number) (38 ∷ bs)
hex-spells [] e = absurd (false≢true e)
hex-spells (h ∷ []) e = absurd (false≢true e)
hex-spells (h ∷ d ∷ bs) e =
    let parts = and_parts ((h == 104 || h == 72) && is_hex_digit d) (is_digits is_hex_digit bs) e in
    let begins = and_parts (h == 104 || h == 72) (is_hex_digit d) parts.0 in
    let more = digits-split is_hex_digit bs parts.1 in
    record {
      digits = 38 ∷ h ∷ d ∷ more.0;
      end = more.1;
      bytes_are = ap (λ t. 38 ∷ h ∷ d ∷ t) more.2;
      written = inr (h, d ∷ more.0, refl, either_byte h 104 72 begins.0, (cons-some d more.0, and_from (is_hex_digit d) (list_all is_hex_digit more.0) begins.1 more.3));
      ends = more.4;
    }

-- texts

two_quotes : (b c : ℕ) (bs end : List ℕ) → b ≡ 34 → c ≡ 34 → bs ≡ end → b ∷ c ∷ bs ≡ 34 ∷ 34 ∷ end
two_quotes b c bs end first second more = cc

one_byte : (b : ℕ) (bs inner : List ℕ) → (b == 34) ≡ false → bs ≡ quotes_doubled inner ++ 34 ∷ [] → b ∷ bs ≡ quotes_doubled (b ∷ inner) ++ 34 ∷ []
one_byte b bs inner apart more = rw apart (ap (λ t. b ∷ t) more)

doubled-split : (bs : List ℕ) → is_text_end bs ≡ true → (inner : List ℕ) × (bs ≡ quotes_doubled inner ++ 34 ∷ []) × AreAll stays_in_line inner
doubled-split [] e = absurd (false≢true e)
doubled-split (b ∷ []) e = elim (eqb_tells b 34) [
  | inl is ↦ ([], cc, refl)
  | inr other ↦ absurd (false≢true (sym other.0 ∙ e))
]
doubled-split (b ∷ c ∷ bs) e = elim (eqb_tells b 34) [
  | inl is ↦
      let e' = rw is.0 at e in
      let parts = and_parts (c == 34) (is_text_end bs) e' in
      elim (eqb_tells c 34) [
        | inl also ↦
            let more = doubled-split bs parts.1 in
            (34 ∷ more.0, two_quotes b c bs _ is.1 also.1 more.1, more.2)
        | inr other ↦ absurd (false≢true (sym other.0 ∙ parts.0))
      ]
  | inr other ↦
      let e' = rw other.0 at e in
      let parts = and_parts (stays_in_line b) (is_text_end (c ∷ bs)) e' in
      let more = doubled-split (c ∷ bs) parts.1 in
      (b ∷ more.0, one_byte b (c ∷ bs) more.0 other.0 more.1, and_from (stays_in_line b) (list_all stays_in_line more.0) parts.0 more.2)
]

text-spells : (bs : List ℕ) → is_text_end bs ≡ true → Spells (Token Text) (34 ∷ bs)
text-spells bs e = let inner = doubled-split bs e in (inner.0, ap (λ t. 34 ∷ t) inner.1, inner.2)

pub nothing-made : (kind : PieceKind) → piece_kind [] ≡ Some kind → ⊥
unfolding piece_kind
nothing-made kind e = cc

pub kind-spells : (kind : PieceKind) (bytes : List ℕ) → piece_kind bytes ≡ Some kind → Spells kind bytes
kind-spells kind [] e = absurd (nothing-made kind e)
kind-spells kind (b ∷ bs) e = by_blank (is_blank b) refl
  where
    made : (test : Bool) (k : PieceKind) → piece_kind (b ∷ bs) ≡ where_ test k → (test ≡ true) × (k ≡ kind)
    made test k is = where_-some test k kind (sym is ∙ e)

    moved : (k : PieceKind) → k ≡ kind → Spells k (b ∷ bs) → Spells kind (b ∷ bs)
    moved k same s = subst (λ t. Spells t (b ∷ bs)) same s

    by_sign : IsUndigited b → Spells kind (b ∷ bs)
    by_sign is = elim (eqb_tells b 38) [
      | inl amp ↦
          let both = made _ (Token Number) (ap (λ t. piece_kind (t ∷ bs)) amp.1 ∙ kind-hex bs) in
          moved _ both.1 (subst (λ t. Spells (Token Number) (t ∷ bs)) (sym amp.1) (hex-spells bs both.0))
      | inr apart ↦ elim (eqb_tells b 34) [
        | inl quote ↦
            let both = made _ (Token Text) (ap (λ t. piece_kind (t ∷ bs)) quote.1 ∙ kind-text bs) in
            moved _ both.1 (subst (λ t. Spells (Token Text) (t ∷ bs)) (sym quote.1) (text-spells bs both.0))
        | inr also ↦
            let both = made _ (Token Sign) (kind-sign b bs is apart.1 also.1) in
            moved _ both.1 both.0
      ]
    ]

    by_digit : (t : Bool) → is_digit b ≡ t → IsUnnamed b → Spells kind (b ∷ bs)
    by_digit true h is =
        let both = made _ (Token Number) (kind-decimal b bs is h) in
        moved _ both.1 (decimal-spells b bs h both.0)
    by_digit false h is = by_sign (record { unnamed = is; digit = h })

    by_name : (t : Bool) → begins_name b ≡ t → IsOther b → Spells kind (b ∷ bs)
    by_name true h is = word-spells b bs kind h (sym (kind-word b bs is h) ∙ e)
    by_name false h is = by_digit (is_digit b) refl (record { other = is; name = h })

    by_blank : (t : Bool) → is_blank b ≡ t → Spells kind (b ∷ bs)
    by_blank true h =
        let both = made _ Blank (kind-blank b bs h) in
        moved _ both.1 (b, ap (λ t. b ∷ t) (empty-nil bs both.0), h)
    by_blank false h = elim (eqb_tells b 10) [
      | inl line ↦
          let both = made _ (Token Newline) (ap (λ t. piece_kind (t ∷ bs)) line.1 ∙ kind-newline bs) in
          let none = empty-nil bs both.0 in
          moved _ both.1 (cc)
      | inr apart ↦ elim (eqb_tells b 39) [
        | inl mark ↦
            let both = made _ Comment (ap (λ t. piece_kind (t ∷ bs)) mark.1 ∙ kind-comment bs) in
            moved _ both.1 (record { mark = 39 ∷ []; line = bs; bytes_are = cc; begins = inl refl; in_line = both.0 })
        | inr also ↦ by_name (begins_name b) refl (record { blank = h; newline = apart.1; apostrophe = also.1 })
      ]
    ]
