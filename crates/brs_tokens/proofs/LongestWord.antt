-- The longest name, keyword or comment by word.
use Rattle.std.proofs.Common.{◌≡◌, ℕ, zero, suc, ◌+◌, ◌-◌, ◌<◌, ◌≤◌, Bool, true, false, cond, List, [], ◌∷◌, length, take, drop, Option, Some, None, refl, ap, ◌∙◌, subst, arith}
use Rattle.std.specs.Prelude.{if◌then◌else◌, codes}
use Rattle.std.specs.List.{prefix_len, list_all}
use Rattle.std.proofs.lemmas.List.{length-drop, drop-take}
use Rattle.brs_tokens.specs.Classes.{is_name_byte, stays_in_line}
use Rattle.brs_tokens.specs.Pieces.{piece_kind, where_, is_empty, is_word, is_keyword, word_kind}
use Rattle.brs_tokens.specs.Lengths.{word_piece}
use Rattle.brs_tokens.specs.Spelling.{longest_piece}
use Rattle.brs_tokens.proofs.Longest.{longest_within-some, run, run-within, alone}
use Rattle.brs_tokens.specs.declared.piece.PieceKind.{PieceKind}
use Rattle.brs_tokens.specs.declared.piece.PieceKind.TheVariants.{Comment, Token}
use Rattle.brs_tokens.specs.declared.token.TokenKind.TheVariants.{Name, Keyword}

-- a run in a front that holds the whole run

none-front : (p : ℕ → Bool) (b : ℕ) (bs : List ℕ) (k : ℕ) → p b ≡ false → prefix_len p (take k (b ∷ bs)) ≡ 0
none-front p b bs zero h = refl
none-front p b bs (suc k) h = rw h refl

front-len : (p : ℕ → Bool) (bs : List ℕ) (k : ℕ) → prefix_len p (take (prefix_len p bs + k) bs) ≡ prefix_len p bs
front-len p [] k = empty k
  where
    empty : (k : ℕ) → prefix_len p (take (0 + k) []) ≡ 0
    empty k = let e : 0 + k ≡ k = omega arith in rw e (at k)
      where
        at : (k : ℕ) → prefix_len p (take k []) ≡ 0
        at zero = refl
        at (suc k) = refl
front-len p (b ∷ bs) k =
    elim (p b) as (λ t. (p b ≡ t) → prefix_len p (take (cond t (1 + prefix_len p bs) 0 + k) (b ∷ bs)) ≡ cond t (1 + prefix_len p bs) 0) [
      | true ↦ λ h.
          let e : (1 + prefix_len p bs) + k ≡ suc (prefix_len p bs + k) = omega arith in
          rw (e, h) (ap (λ n. 1 + n) (front-len p bs k))
      | false ↦ λ h. let e : 0 + k ≡ k = omega arith in rw e (none-front p b bs k h)
    ] refl

front-word : (n k : ℕ) (bs : List ℕ) → take n (take (n + k) bs) ≡ take n bs
front-word zero k bs = refl
front-word (suc n) k [] = let e : suc n + k ≡ suc (n + k) = omega arith in rw e refl
front-word (suc n) k (b ∷ bs) = let e : suc n + k ≡ suc (n + k) = omega arith in rw e (ap (λ t. b ∷ t) (front-word n k bs))

-- what a front is, from the end of the name on
abbrev kind_past : List ℕ → List ℕ → Option PieceKind
kind_past name more =
    if is_word (codes "rem") name then where_ (list_all stays_in_line more) Comment
    else where_ (is_empty more) (Token (if is_keyword name then Keyword else Name))

word_kind-front : (bs : List ℕ) (k : ℕ) → word_kind (take (prefix_len is_name_byte bs + k) bs)
    ≡ kind_past (take (prefix_len is_name_byte bs) bs) (take k (drop (prefix_len is_name_byte bs) bs))
unfolding word_kind
word_kind-front bs k =
    let n = prefix_len is_name_byte bs in
    let len : prefix_len is_name_byte (take (prefix_len is_name_byte bs + k) bs) ≡ prefix_len is_name_byte bs = front-len is_name_byte bs k in
    ap (λ m. kind_past (take m (take (prefix_len is_name_byte bs + k) bs)) (drop m (take (prefix_len is_name_byte bs + k) bs))) len
    ∙ ap (λ w. kind_past w (drop (prefix_len is_name_byte bs) (take (prefix_len is_name_byte bs + k) bs))) (front-word (prefix_len is_name_byte bs) k bs)
    ∙ ap (λ w. kind_past (take (prefix_len is_name_byte bs) bs) w) (drop-take (prefix_len is_name_byte bs) k bs)

word-front : (bs : List ℕ) (n m : ℕ) → prefix_len is_name_byte bs ≡ n → n ≤ m → word_kind (take m bs) ≡ kind_past (take n bs) (take (m - n) (drop n bs))
word-front bs n m e fits =
    let sum : n + (m - n) ≡ m = omega arith in
    let P : ℕ → ℕ → Type 0 = λ a t. word_kind (take t bs) ≡ kind_past (take a bs) (take (m - n) (drop a bs)) in
    let here : P (prefix_len is_name_byte bs) (prefix_len is_name_byte bs + (m - n)) = word_kind-front bs (m - n) in
    subst (λ t. P n t) sum (subst (λ a. P a (a + (m - n))) e here)

pub longest_within-at : (bytes : List ℕ) (kind : PieceKind) (n : ℕ) → 0 < n → piece_kind (take n bytes) ≡ Some kind → n ≤ length bytes
    → ((m : ℕ) → n < m → m ≤ length bytes → piece_kind (take m bytes) ≡ None) → longest_piece bytes ≡ Some (record { kind = kind; len = n })
longest_within-at bytes kind zero some found within none = absurd (omega arith)
longest_within-at bytes kind (suc n) some found within none = longest_within-some bytes kind n (length bytes) found within none

-- from what the front of a name is to what the longest piece is
word-at : (bytes : List ℕ) (n : ℕ) → ((m : ℕ) → 0 < m → piece_kind (take m bytes) ≡ word_kind (take m bytes)) → 0 < n → prefix_len is_name_byte bytes ≡ n
    → longest_piece bytes ≡ Some (
    if is_word (codes "rem") (take n bytes) then record { kind = Comment; len = n + prefix_len stays_in_line (drop n bytes) }
    else record { kind = Token (if is_keyword (take n bytes) then Keyword else Name); len = n })
word-at bytes n spells some len =
    elim (is_word (codes "rem") (take n bytes)) as (λ t. (is_word (codes "rem") (take n bytes) ≡ t) → longest_piece bytes ≡ Some (
    if t then record { kind = Comment; len = n + prefix_len stays_in_line (drop n bytes) }
    else record { kind = Token (if is_keyword (take n bytes) then Keyword else Name); len = n })) [
      | true ↦ λ h.
          let line = run stays_in_line (drop n bytes) in
          let fits : n + prefix_len stays_in_line (drop n bytes) ≤ length bytes = omega (arith, line.within, length-drop n bytes, within) in
          longest_within-at bytes Comment (n + prefix_len stays_in_line (drop n bytes)) (omega arith)
          (spells (n + prefix_len stays_in_line (drop n bytes)) (omega arith)
          ∙ word_kind-sum line.passes h)
          fits
          (λ m l u. spells m (omega arith) ∙ word-front bytes n m len (omega arith) ∙ past_comment (m - n) h (line.longest (m - n) (omega arith) (omega (arith, length-drop n bytes, within))))
      | false ↦ λ h.
          longest_within-at bytes (Token (if is_keyword (take n bytes) then Keyword else Name)) n some
          (spells n some ∙ word-front bytes n n len (omega arith) ∙ whole_name h)
          within
          (λ m l u. spells m (omega arith) ∙ word-front bytes n m len (omega arith) ∙ past_name (m - n) h ((alone (drop n bytes)).longest (m - n) (omega arith) (omega (arith, length-drop n bytes, within))))
    ] refl
  where
    within : n ≤ length bytes
    within = omega (arith, run-within is_name_byte bytes)

    past_comment : (k : ℕ) → is_word (codes "rem") (take n bytes) ≡ true → list_all stays_in_line (take k (drop n bytes)) ≡ false → kind_past (take n bytes) (take k (drop n bytes)) ≡ None
    past_comment k h none = rw (h, none) refl

    past_name : (k : ℕ) → is_word (codes "rem") (take n bytes) ≡ false → is_empty (take k (drop n bytes)) ≡ false → kind_past (take n bytes) (take k (drop n bytes)) ≡ None
    past_name k h none = rw (h, none) refl

    whole_name : is_word (codes "rem") (take n bytes) ≡ false → kind_past (take n bytes) (take (n - n) (drop n bytes)) ≡ Some (Token (if is_keyword (take n bytes) then Keyword else Name))
    whole_name h = let e : n - n ≡ 0 = omega arith in rw (h, e) refl

    word_kind-sum : list_all stays_in_line (take (prefix_len stays_in_line (drop n bytes)) (drop n bytes)) ≡ true → is_word (codes "rem") (take n bytes) ≡ true
        → word_kind (take (n + prefix_len stays_in_line (drop n bytes)) bytes) ≡ Some Comment
    word_kind-sum all h =
        let r = prefix_len stays_in_line (drop n bytes) in
        let e : (n + prefix_len stays_in_line (drop n bytes)) - n ≡ prefix_len stays_in_line (drop n bytes) = omega arith in
        word-front bytes n (n + prefix_len stays_in_line (drop n bytes)) len (omega arith) ∙ rw (h, e, all) refl

pub longest-word : (bytes : List ℕ) → ((m : ℕ) → 0 < m → piece_kind (take m bytes) ≡ word_kind (take m bytes)) → 0 < prefix_len is_name_byte bytes
    → longest_piece bytes ≡ Some (word_piece bytes)
longest-word bytes spells some =
    word-at bytes (prefix_len is_name_byte bytes) spells some refl
