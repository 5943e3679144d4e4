-- What holds of the tokens, from piece to piece.
use Rattle.std.proofs.Common.{◌≡◌, ◌≢◌, ℕ, zero, suc, ◌+◌, ◌-◌, ◌<◌, ◌≤◌, ◌⊎◌, inl, inr, Bool, true, false, cond, List, [], ◌∷◌, ◌++◌, length, get_or, take, drop, Some, None, Result, Ok, Err, nat_eq, append_assoc, refl, sym, ap, ◌∙◌, subst, arith}
use Rattle.std.specs.Prelude.{IsUtf8, ◌&&◌, nat_lt, codes, All}
use Rattle.std.specs.List.{list_all}
use Rattle.std.specs.Str.{is_utf8, IsCharBoundary}
use Rattle.std.specs.Str.Lossy.{utf8_valid_len, valid_len_up_to}
use Rattle.std.proofs.lemmas.Bool.{false≢true, ne_eqb}
use Rattle.std.proofs.lemmas.Bool.Decides.{nat_tests, eqb_tells}
use Rattle.std.proofs.lemmas.List.{nil_from_length, take-append-drop, take_all, length-drop, get_or-drop}
use Rattle.std.proofs.lemmas.List.Elements.{All-nil, All-cons}
use Rattle.std.proofs.lemmas.Str.{IsUtf8-nil, IsUtf8-take, IsUtf8-drop, IsUtf8-from_is_utf8, IsCharBoundary-before_ascii, IsCharBoundary-end}
use Rattle.brs_tokens.specs.Classes.{is_among, is_blank, begins_name, is_digit}
use Rattle.brs_tokens.specs.Pieces.{piece_kind, is_sign}
use Rattle.brs_tokens.specs.Numbers.{is_too_large}
use Rattle.brs_tokens.specs.Spelling.{longest_within, longest_piece, begins_float, is_number, piece_at, place_after, after_byte, token_of, with_tokens, spelling_from, spelling, mark_len}
use Rattle.brs_tokens.specs.Tok.{Tok}
use Rattle.brs_tokens.specs.Tokens.{IsToken, StandIn}
use Rattle.brs_tokens.proofs.SpellingLemmas.{spelling-nil, spelling-pass, spelling-fault, spelling-piece}
use Rattle.brs_tokens.specs.declared.piece.Piece.{Piece}
use Rattle.brs_tokens.specs.declared.piece.PieceKind.{PieceKind}
use Rattle.brs_tokens.specs.declared.piece.PieceKind.TheVariants.{Blank, Comment, Token}
use Rattle.brs_tokens.specs.declared.place.Place.{Place}
use Rattle.brs_tokens.specs.declared.lex_fault.LexFault.{LexFault}

-- a piece begins with an ASCII character

among-none : (bytes : List ℕ) (b : ℕ) → list_all (λ x. nat_lt x 128) bytes ≡ true → 128 ≤ b → is_among bytes b ≡ false
among-none [] b all past = refl
among-none (x ∷ xs) b all past =
    elim (nat_lt x 128) as (λ t. (nat_lt x 128 ≡ t) → is_among (x ∷ xs) b ≡ false) [
      | true ↦ λ h. let all' = rw h at all in rw (ne_eqb x b (apart x b h past)) (among-none xs b all' past)
      | false ↦ λ h. let all' = rw h at all in absurd (false≢true all')
    ] refl
  where
    apart : (x b : ℕ) → nat_lt x 128 ≡ true → 128 ≤ b → x ≢ b
    apart x b h past = grind (arith, nat_tests)

sign-none : (b : ℕ) (bs : List ℕ) → 128 ≤ b → is_sign (b ∷ bs) ≡ false
unfolding is_sign
sign-none b [] past = among-none (codes "+-*\\=<>()[]{},:;.?") b refl past
sign-none b (c ∷ []) past =
    rw (ne_eqb 60 b (omega arith), ne_eqb 62 b (omega arith), ne_eqb 43 b (omega arith), ne_eqb 45 b (omega arith), ne_eqb 42 b (omega arith), ne_eqb 92 b (omega arith)) refl
sign-none b (c ∷ d ∷ bs) past = refl

not_blank : (b : ℕ) → 128 ≤ b → is_blank b ≡ false
not_blank b past = grind (arith, nat_tests)

not_name : (b : ℕ) → 128 ≤ b → begins_name b ≡ false
not_name b past = grind (arith, nat_tests)

not_digit : (b : ℕ) → 128 ≤ b → is_digit b ≡ false
not_digit b past = grind (arith, nat_tests)

kind-none : (b : ℕ) (bs : List ℕ) → 128 ≤ b → piece_kind (b ∷ bs) ≡ None
unfolding piece_kind
kind-none b bs past =
    rw (not_blank b past, ne_eqb b 10 (omega arith), ne_eqb b 39 (omega arith), not_name b past, not_digit b past, ne_eqb b 38 (omega arith), ne_eqb b 34 (omega arith), sign-none b bs past) refl

pub kind-ascii : (b : ℕ) (bs : List ℕ) (kind : PieceKind) → piece_kind (b ∷ bs) ≡ Some kind → b < 128
kind-ascii b bs kind e = by_size (grind arith)
  where
    by_size : (b < 128) ⊎ (128 ≤ b) → b < 128
    by_size (inl small) = small
    by_size (inr past) = let none = kind-none b bs past in absurd (cc)

-- what a longest piece is
pub record IsPiece (bytes : List ℕ) (p : Piece) : Type 0 where
  pub some : 0 < p.len
  pub within : p.len ≤ length bytes
  pub spells : piece_kind (take p.len bytes) ≡ Some p.kind

pub longest-is : (k : ℕ) (bytes : List ℕ) (p : Piece) → k ≤ length bytes → longest_within k bytes ≡ Some p → IsPiece bytes p
unfolding longest_within
longest-is zero bytes p fits e = absurd (cc)
longest-is (suc k) bytes p fits e =
    elim (piece_kind (take (suc k) bytes)) as (λ t. (piece_kind (take (suc k) bytes) ≡ t) → IsPiece bytes p) [
      | Some kind ↦ λ h.
          let e' = rw (h, longest_within) at e in
          let same : ◌≡◌ {A = Piece} (record { kind = kind; len = suc k }) p = cc in
          subst (λ q. IsPiece bytes q) same (record { some = omega arith; within = fits; spells = h })
      | None ↦ λ h. let e' = rw (h, longest_within) at e in longest-is k bytes p (omega arith) e'
    ] refl

pub piece_at-longest : (bytes : List ℕ) (p : Piece) → piece_at bytes ≡ Ok p → (longest_piece bytes ≡ Some p) × ((is_number p.kind && is_too_large (take p.len bytes)) ≡ false)
unfolding piece_at
piece_at-longest bytes p e =
    elim (begins_float bytes) as (λ t. (begins_float bytes ≡ t) → (longest_piece bytes ≡ Some p) × ((is_number p.kind && is_too_large (take p.len bytes)) ≡ false)) [
      | true ↦ λ float. let e' = rw float at e in absurd (cc)
      | false ↦ λ float.
          let e' = rw float at e in
          elim (longest_piece bytes) as (λ t. (longest_piece bytes ≡ t) → (longest_piece bytes ≡ Some p) × ((is_number p.kind && is_too_large (take p.len bytes)) ≡ false)) [
            | None ↦ λ found. let e'' = rw found at e' in absurd (cc)
            | Some q ↦ λ found.
                let e'' = rw found at e' in
                elim (is_number q.kind && is_too_large (take q.len bytes)) as (λ t. ((is_number q.kind && is_too_large (take q.len bytes)) ≡ t) → (longest_piece bytes ≡ Some p) × ((is_number p.kind && is_too_large (take p.len bytes)) ≡ false)) [
                  | true ↦ λ large. let f = rw large at e'' in absurd (cc)
                  | false ↦ λ large.
                      let f = rw large at e'' in
                      let same : q ≡ p = cc in
                      (found ∙ ap Some same, subst (λ r. (is_number r.kind && is_too_large (take r.len bytes)) ≡ false) same large)
                ] refl
          ] refl
    ] refl

piece_at-is : (bytes : List ℕ) (p : Piece) → piece_at bytes ≡ Ok p → IsPiece bytes p
piece_at-is bytes p e = longest-is (length bytes) bytes p (omega arith) (piece_at-longest bytes p e).0

-- what a spelled source file is

with_tokens-ok : (a tokens : List Tok) (r : Result (List Tok) LexFault) → with_tokens a r ≡ Ok tokens → (more : List Tok) × (r ≡ Ok more) × (tokens ≡ a ++ more)
with_tokens-ok a tokens (Ok more) e = (more, refl, cc)
with_tokens-ok a tokens (Err fault) e = absurd (cc)

-- each byte is part of a character
spelled-good : (good inside : ℕ) (p : Place) (bs : List ℕ) (tokens : List Tok) → spelling_from good inside p bs ≡ Ok tokens → length bs ≤ good
unfolding spelling_from
spelled-good good inside p [] tokens e = omega arith
spelled-good zero inside p (b ∷ bs) tokens e = absurd (cc)
spelled-good (suc good) (suc inside) p (b ∷ bs) tokens e = omega (arith, spelled-good good inside (after_byte p b) bs tokens e)
spelled-good (suc good) zero p (b ∷ bs) tokens e =
    elim (piece_at (b ∷ bs)) as (λ t. (piece_at (b ∷ bs) ≡ t) → length (b ∷ bs) ≤ suc good) [
      | Err kind ↦ λ h. let e' = rw (h, spelling_from) at e in absurd (cc)
      | Ok q ↦ λ h.
          let e' = rw (h, spelling_from) at e in
          let more = with_tokens-ok _ _ _ e' in
          omega (arith, spelled-good good (q.len - 1) (after_byte p b) bs more.0 more.1)
    ] refl

-- where a piece begins
pub record Begins (good : ℕ) (p : Place) (bs : List ℕ) (tokens : List Tok) : Type 0 where
  pub piece : Piece
  pub at : piece_at bs ≡ Ok piece
  pub is : IsPiece bs piece
  pub more : List Tok
  pub rest : spelling_from (good - piece.len) 0 (place_after p (take piece.len bs)) (drop piece.len bs) ≡ Ok more
  pub tokens_are : tokens ≡ token_of piece.kind (take piece.len bs) p ++ more

begins-of : (good : ℕ) (p : Place) (bs : List ℕ) (tokens : List Tok) → 0 < length bs → spelling_from good 0 p bs ≡ Ok tokens → Begins good p bs tokens
begins-of good p bs tokens some e =
    let fits : length bs ≤ good = spelled-good good 0 p bs tokens e in
    elim (piece_at bs) as (λ t. (piece_at bs ≡ t) → Begins good p bs tokens) [
      | Err kind ↦ λ h. let f = spelling-fault good p bs kind (omega arith) some h in absurd (cc)
      | Ok q ↦ λ h.
          let is : IsPiece bs q = piece_at-is bs q h in
          let f = spelling-piece good p bs q (omega arith) some h is.some in
          let parts = with_tokens-ok _ tokens _ (sym f ∙ e) in
          let pass = spelling-pass q.len good p bs is.within (omega (arith, is.within)) in
          record { piece = q; at = h; is = is; more = parts.0; rest = sym pass ∙ parts.1; tokens_are = parts.2 }
    ] refl

begins-ascii : (good : ℕ) (p : Place) (bs : List ℕ) (tokens : List Tok) → 0 < length bs → spelling_from good 0 p bs ≡ Ok tokens → get_or bs 0 0 < 128
begins-ascii good p [] tokens some e = absurd (omega arith)
begins-ascii good p (b ∷ bs) tokens some e =
    let at = begins-of good p (b ∷ bs) tokens some e in
    first_byte at.piece.len at.is.some at.is.spells
  where
    first_byte : (n : ℕ) → 0 < n → {kind : PieceKind} → piece_kind (take n (b ∷ bs)) ≡ Some kind → b < 128
    first_byte zero l h = absurd (omega arith)
    first_byte (suc n) l {kind = kind} h = kind-ascii b (take n bs) kind h

-- a piece of a text ends where a character does
ends-character : (good n : ℕ) (p : Place) (bs : List ℕ) (tokens : List Tok) → n ≤ length bs → spelling_from good 0 p (drop n bs) ≡ Ok tokens → IsCharBoundary bs n
ends-character good n p bs tokens within e = by_end (grind arith)
  where
    by_end : (n < length bs) ⊎ (length bs ≤ n) → IsCharBoundary bs n
    by_end (inl less) =
        let some : 0 < length (drop n bs) = omega (arith, length-drop n bs) in
        let first = begins-ascii good p (drop n bs) tokens some e in
        let same : n + 0 ≡ n = omega arith in
        let here : get_or (drop n bs) 0 0 ≡ get_or bs n 0 = get_or-drop n bs 0 0 ∙ ap (λ k. get_or bs k 0) same in
        IsCharBoundary-before_ascii bs n less (omega (arith, first, here))
    by_end (inr past) = let all : n ≡ length bs = omega arith in subst (IsCharBoundary bs) (sym all) (IsCharBoundary-end bs)

-- the tokens in order

place_after-append : (p : Place) (a b : List ℕ) → place_after p (a ++ b) ≡ place_after (place_after p a) b
place_after-append p [] b = refl
place_after-append p (x ∷ a) b = place_after-append (after_byte p x) a b

prepend : (pre : List ℕ) (p : Place) (bs : List ℕ) (tokens : List Tok) → StandIn (place_after p pre) bs tokens → StandIn p (pre ++ bs) tokens
prepend pre p bs [] s = tt
prepend pre p bs (t ∷ ts) s = (
  pre ++ s.0,
  s.1,
  ap (λ r. pre ++ r) s.2 ∙ sym (append_assoc pre s.0 (t.slice ++ s.1)),
  place_after-append p pre s.0 ∙ s.3,
  subst (λ q. StandIn (place_after q t.slice) s.1 ts) (sym (place_after-append p pre s.0)) s.4,
)

abbrev AreGood : Place → List ℕ → List Tok → Type 0
AreGood p bs tokens = All IsToken tokens × StandIn p bs tokens

good-piece : (kind : PieceKind) (p : Place) (slice rest : List ℕ) (more : List Tok) → piece_kind slice ≡ Some kind → IsUtf8 slice → (is_number kind && is_too_large slice) ≡ false
    → AreGood (place_after p slice) rest more → AreGood p (slice ++ rest) (token_of kind slice p ++ more)
good-piece Blank p slice rest more spells utf8 fits good = (good.0, prepend slice p rest more good.1)
good-piece Comment p slice rest more spells utf8 fits good = (good.0, prepend slice p rest more good.1)
good-piece (Token kind) p slice rest more spells utf8 fits good =
    let is : IsToken (record { kind = kind; slice = slice; line = p.line; column = p.column }) =
    record { spells = spells; utf8 = utf8; fits = λ e. subst (λ k. (is_number (Token k) && is_too_large slice) ≡ false) e fits } in
    (All-cons IsToken _ more is good.0, ([], rest, refl, refl, good.1))

tokens-from : (k good : ℕ) (p : Place) (bs : List ℕ) (tokens : List Tok) → length bs ≤ k → IsUtf8 bs → spelling_from good 0 p bs ≡ Ok tokens → AreGood p bs tokens
tokens-from k good p [] tokens fits utf8 e =
    let none : [] ≡ tokens = ok_same (sym (spelling-nil good 0 p) ∙ e) in
    subst (λ ts. AreGood p [] ts) none (All-nil IsToken, tt)
  where
    ok_same : ◌≡◌ {A = Result (List Tok) LexFault} (Ok []) (Ok tokens) → [] ≡ tokens
    ok_same same = cc
tokens-from zero good p (b ∷ bs) tokens fits utf8 e = absurd (omega arith)
tokens-from (suc k) good p (b ∷ bs) tokens fits utf8 e =
    let at = begins-of good p (b ∷ bs) tokens (omega arith) e in
    let len = at.piece.len in
    let back_len : length (drop at.piece.len (b ∷ bs)) ≡ length (b ∷ bs) - at.piece.len = length-drop at.piece.len (b ∷ bs) in
    let bound = ends-character (good - at.piece.len) at.piece.len (place_after p (take at.piece.len (b ∷ bs))) (b ∷ bs) at.more at.is.within at.rest in
    let rest = tokens-from k (good - at.piece.len) (place_after p (take at.piece.len (b ∷ bs))) (drop at.piece.len (b ∷ bs)) at.more
    (omega (arith, at.is.some, at.is.within, back_len, fits)) (IsUtf8-drop (b ∷ bs) at.piece.len utf8 bound) at.rest in
    let fine = (piece_at-longest (b ∷ bs) at.piece at.at).1 in
    let all = good-piece at.piece.kind p (take at.piece.len (b ∷ bs)) (drop at.piece.len (b ∷ bs)) at.more at.is.spells (IsUtf8-take (b ∷ bs) at.piece.len utf8 bound) fine rest in
    subst (λ t. AreGood p (b ∷ bs) t) (sym at.tokens_are) (subst (λ t. AreGood p t (token_of at.piece.kind (take at.piece.len (b ∷ bs)) p ++ at.more)) (take-append-drop at.piece.len (b ∷ bs)) all)

-- the whole file

valid-whole : (bs : List ℕ) → length bs ≤ utf8_valid_len bs → IsUtf8 bs
unfolding utf8_valid_len
valid-whole bs e = by_len (length bs) refl e
  where
    below : (bs : List ℕ) (n : ℕ) → valid_len_up_to bs n ≤ n
    below bs zero = omega arith
    below bs (suc n) = elim (is_utf8 (take (suc n) bs)) as (λ t. cond t (suc n) (valid_len_up_to bs n) ≤ suc n) [ true ↦ omega arith | false ↦ omega (arith, below bs n) ]

    by_len : (n : ℕ) → length bs ≡ n → n ≤ valid_len_up_to bs n → IsUtf8 bs
    by_len zero none l = subst IsUtf8 (sym (nil_from_length bs none)) IsUtf8-nil
    by_len (suc n) size l =
        elim (is_utf8 (take (suc n) bs)) as (λ t. (is_utf8 (take (suc n) bs) ≡ t) → IsUtf8 bs) [
          | true ↦ λ h. subst IsUtf8 (take_all (suc n) bs (omega arith)) (IsUtf8-from_is_utf8 (take (suc n) bs) h)
          | false ↦ λ h. let l' = rw h at l in absurd (omega (arith, below bs n))
        ] refl

in_list : (bs : List ℕ) (i : ℕ) → 0 < get_or bs i 0 → i < length bs
in_list [] i e = absurd (omega arith)
in_list (b ∷ bs) zero e = omega arith
in_list (b ∷ bs) (suc i) e = omega (arith, in_list bs i e)

at_most : (c : Bool) (n : ℕ) → 3 ≤ n → cond c 3 0 ≤ n
at_most true n l = l
at_most false n l = omega arith

no_mark : (c : Bool) → cond (c && false) 3 0 ≤ 0
no_mark true = omega arith
no_mark false = omega arith

pub mark-within : (src : List ℕ) → mark_len src ≤ length src
mark-within src = elim (eqb_tells (get_or src 2 0) 0xBF) [
  | inl is ↦ at_most _ (length src) (omega (arith, in_list src 2 (omega (arith, is.1))))
  | inr other ↦ let none : mark_len src ≤ 0 = rw other.0 (no_mark (nat_eq (get_or src 0 0) 0xEF && nat_eq (get_or src 1 0) 0xBB)) in omega arith
]

pub spelled-good_tokens : (src : List ℕ) (first_line : ℕ) (tokens : List Tok) → spelling src first_line ≡ Ok tokens → AreGood (record { line = first_line; column = 1 }) src tokens
spelled-good_tokens src first_line tokens e =
    let start : Place = record { line = first_line; column = 1 } in
    let fits = spelled-good (utf8_valid_len src) (mark_len src) start src tokens e in
    let utf8 : IsUtf8 src = valid-whole src fits in
    from_mark (mark_len src) (utf8_valid_len src) (mark-within src) fits utf8 e
  where
    from_mark : (n good : ℕ) → n ≤ length src → length src ≤ good → IsUtf8 src → spelling_from good n (record { line = first_line; column = 1 }) src ≡ Ok tokens
        → AreGood (record { line = first_line; column = 1 }) src tokens
    from_mark n good within fits utf8 e =
        let p : Place = record { line = first_line; column = 1 } in
        let rest : spelling_from (good - n) 0 (place_after p (take n src)) (drop n src) ≡ Ok tokens = sym (spelling-pass n good p src within (omega arith)) ∙ e in
        let bound = ends-character (good - n) n (place_after p (take n src)) src tokens within rest in
        let all = tokens-from (length (drop n src)) (good - n) (place_after p (take n src)) (drop n src) tokens (omega arith) (IsUtf8-drop src n utf8 bound) rest in
        (all.0, subst (λ t. StandIn p t tokens) (take-append-drop n src) (prepend (take n src) p (drop n src) tokens all.1))
