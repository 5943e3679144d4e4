-- The first place of a text among characters.
use Rattle.std.proofs.Common.{◌≡◌, ℕ, ◌+◌, ◌<◌, ◌≤◌, true, false, if◌then◌else◌, nat_le, ℤ, List, [], ◌∷◌, ◌++◌, length, take, drop, nat_eq, refl, sym, ap, ◌∙◌, arith, subst, length-append, length-take}
use Rattle.std.proofs.lemmas.Bool.Decides.{nat_tests}
use Rattle.std.proofs.lemmas.List.{take-append-drop, drop_at, take_at, drop-drop}
use Rattle.std.proofs.lemmas.Str.{encodes-chars, chars-append, encodes-append, length-le-encodes, IsUtf8-take}
use Rattle.std.specs.List.{starts_with}
use Rattle.std.specs.Str.{IsUtf8, IsCharBoundary, chars, encode_utf8_all}
use Rattle.std.specs.Str.Pattern.{LacksTextAt}
use lib.Pointwise.{bytes_decides}
use Rattle.plain_operations.specs.Texts.{least_place, before_place, character_count, place_in}

-- a list that starts with another is it and some more
starts_parts : (xs ts : List ℕ) → starts_with nat_eq xs ts ≡ true → xs ≡ ts ++ drop (length ts) xs
starts_parts xs ts e = sym (take-append-drop (length ts) xs) ∙ ap (λ f. f ++ drop (length ts) xs) (sym ((bytes_decides ts (take (length ts) xs)).0 e))

parts_start : (xs ts us : List ℕ) → xs ≡ ts ++ us → starts_with nat_eq xs ts ≡ true
parts_start xs ts us e = (bytes_decides ts (take (length ts) xs)).1 (sym (ap (take (length ts)) e ∙ take_at ts us (length ts) refl))

-- the bytes of these characters start with those of a text
start_bytes : (xs ts : List ℕ) → starts_with nat_eq xs ts ≡ true → encode_utf8_all xs ≡ encode_utf8_all ts ++ encode_utf8_all (drop (length ts) xs)
start_bytes xs ts e = ap encode_utf8_all (starts_parts xs ts e) ∙ encodes-append ts (drop (length ts) xs)

lacks_start : (xs ts : List ℕ) → LacksTextAt (encode_utf8_all ts) (encode_utf8_all xs) 0 → starts_with nat_eq xs ts ≡ false
lacks_start xs ts l = elim (starts_with nat_eq xs ts) as (λ b. starts_with nat_eq xs ts ≡ b → b ≡ false) [ true ↦ λ e. absurd (l (encode_utf8_all (drop (length ts) xs)) (start_bytes xs ts e)) | false ↦ λ e. refl ] refl

-- what lacks a text at a place behind the first character
lacks_next : (c : ℕ) (xs t : List ℕ) (k : ℕ) → LacksTextAt t (encode_utf8_all (c ∷ xs)) (length (encode_utf8_all (c ∷ [])) + k) → LacksTextAt t (encode_utf8_all xs) k
lacks_next c xs t k l rest e =
    let f = encode_utf8_all (c ∷ []) in
    l rest (sym (drop-drop k (length f) (encode_utf8_all (c ∷ xs))) ∙ ap (drop k) (ap (drop (length f)) (encodes-append (c ∷ []) xs) ∙ drop_at f (encode_utf8_all xs) (length f) refl) ∙ e)

longer : (c : ℕ) (fs : List ℕ) → length (encode_utf8_all (c ∷ fs)) ≡ length (encode_utf8_all (c ∷ [])) + length (encode_utf8_all fs)
longer c fs = ap length (encodes-append (c ∷ []) fs) ∙ length-append (encode_utf8_all (c ∷ [])) (encode_utf8_all fs)

-- behind a front without the text it stands at once
place_after : (at : ℕ) (fs gs ts : List ℕ) → ((k : ℕ) → k < length (encode_utf8_all fs) → LacksTextAt (encode_utf8_all ts) (encode_utf8_all (fs ++ gs)) k) → starts_with nat_eq gs ts ≡ true → least_place at (fs ++ gs) ts ≡ at + length fs
place_after at [] [] ts l e = ap (λ b. if b then at else 0) e ∙ omega arith
place_after at [] (g ∷ gs) ts l e = ap (λ b. if b then at else least_place (at + 1) gs ts) e ∙ omega arith
place_after at (c ∷ fs) gs ts l e =
    let n = lacks_start (c ∷ (fs ++ gs)) ts (l 0 (omega (arith, length-le-encodes (c ∷ fs)))) in
    let more = place_after (at + 1) fs gs ts (λ k h. lacks_next c (fs ++ gs) (encode_utf8_all ts) k (l (length (encode_utf8_all (c ∷ [])) + k) (omega (arith, longer c fs)))) e in
    ap (λ b. if b then at else least_place (at + 1) (fs ++ gs) ts) n ∙ more ∙ omega arith

pub place_nowhere : (at : ℕ) (xs ts : List ℕ) → ((k : ℕ) → k ≤ length (encode_utf8_all xs) → LacksTextAt (encode_utf8_all ts) (encode_utf8_all xs) k) → least_place at xs ts ≡ 0
place_nowhere at [] ts l = ap (λ b. if b then at else 0) (lacks_start [] ts (l 0 (omega arith)))
place_nowhere at (c ∷ xs) ts l =
    let n = lacks_start (c ∷ xs) ts (l 0 (omega arith)) in
    let more = place_nowhere (at + 1) xs ts (λ k h. lacks_next c xs (encode_utf8_all ts) k (l (length (encode_utf8_all (c ∷ [])) + k) (omega (arith, longer c xs)))) in
    ap (λ b. if b then at else least_place (at + 1) xs ts) n ∙ more

-- the same at the bytes of texts
pub finds_none : (at : ℕ) (rest t : List ℕ) → IsUtf8 rest → IsUtf8 t → ((k : ℕ) → k ≤ length rest → LacksTextAt t rest k) → least_place at (chars rest) (chars t) ≡ 0
finds_none at rest t u v l =
    place_nowhere at (chars rest) (chars t) (λ k h.
    subst (λ x. LacksTextAt x (encode_utf8_all (chars rest)) k) (sym (encodes-chars t v)) (subst (λ x. LacksTextAt t x k) (sym (encodes-chars rest u)) (l k (omega (arith, ap length (encodes-chars rest u))))))

pub finds_some : (at : ℕ) (rest t : List ℕ) (i j : ℕ) → IsUtf8 rest → IsUtf8 t → IsCharBoundary rest i → ((k : ℕ) → k < i → LacksTextAt t rest k) → drop i rest ≡ t ++ drop j rest → least_place at (chars rest) (chars t) ≡ at + length (chars (take i rest))
finds_some at rest t i j u v b l e =
    let f = take i rest in
    let g = drop i rest in
    let uf = IsUtf8-take rest i u b in
    let whole : chars rest ≡ chars f ++ chars g = ap chars (sym (take-append-drop i rest)) ∙ chars-append f g uf in
    let bytes : encode_utf8_all (chars f ++ chars g) ≡ rest = sym (ap encode_utf8_all whole) ∙ encodes-chars rest u in
    let short : length (encode_utf8_all (chars f)) ≤ i = omega (arith, ap length (encodes-chars f uf), length-take i rest) in
    let starts = parts_start (chars g) (chars t) (chars (drop j rest)) (ap chars e ∙ chars-append t (drop j rest) v) in
    ap (λ x. least_place at x (chars t)) whole
    ∙ place_after at (chars f) (chars g) (chars t) (λ k h.
    subst (λ x. LacksTextAt x (encode_utf8_all (chars f ++ chars g)) k) (sym (encodes-chars t v)) (subst (λ x. LacksTextAt t x k) (sym bytes) (l k (omega arith)))) starts

-- the place, where a place before the end was asked for
pub place_is : (p : ℤ) (s t : List ℕ) (b n : ℕ) → b ≡ before_place p → b ≤ character_count s → least_place (b + 1) (drop b (chars s)) (chars t) ≡ n → n ≡ place_in p s t
place_is p s t b n e l f =
    let h : nat_le (before_place p) (character_count s) ≡ true = grind (arith, nat_tests, e, l) in
    sym f ∙ ap (λ x. least_place (x + 1) (drop x (chars s)) (chars t)) e
    ∙ sym (ap (λ q. if q then least_place (before_place p + 1) (drop (before_place p) (chars s)) (chars t) else 0) h)
