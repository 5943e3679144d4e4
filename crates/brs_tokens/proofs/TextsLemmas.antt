-- What a text is worth, from quote to quote.
use Rattle.std.proofs.Common.{◌≡◌, ◌≢◌, ℕ, zero, suc, ◌+◌, ◌-◌, ◌<◌, ◌≤◌, inl, inr, List, [], ◌∷◌, ◌++◌, length, get_or, take, drop, ◌⊎◌, append-nil, append_assoc, refl, sym, ap, ◌∙◌, subst, arith}
use Rattle.std.specs.Prelude.{IsUtf8}
use Rattle.std.specs.List.{prefix_len}
use Rattle.std.proofs.lemmas.Bool.{ne_eqb}
use Rattle.std.proofs.lemmas.Bool.Decides.{nat_tests, eqb_tells}
use Rattle.std.proofs.lemmas.List.{take_all, length-drop, get_or-drop}
use Rattle.std.proofs.lemmas.Str.{IsUtf8-take, IsUtf8-drop, IsCharBoundary-before_ascii, IsCharBoundary-after_ascii}
use Rattle.brs_tokens.specs.Classes.{is_unquoted}
use Rattle.brs_tokens.specs.Texts.{characters, text_value}

-- up to the next quote
characters-plain : (b : ℕ) (bs : List ℕ) → b ≢ 34 → characters (b ∷ bs) ≡ b ∷ characters bs
characters-plain b [] q = grind (arith, nat_tests)
characters-plain b (c ∷ bs) q = grind (arith, nat_tests)

pub characters-run : (bs : List ℕ) → characters bs ≡ take (prefix_len is_unquoted bs) bs ++ characters (drop (prefix_len is_unquoted bs) bs)
characters-run [] = refl
characters-run (b ∷ bs) = elim (eqb_tells b 34) [
  | inl quote ↦ rw quote.0 refl
  | inr other ↦
      let more : 1 + prefix_len is_unquoted bs ≡ suc (prefix_len is_unquoted bs) = omega arith in
      characters-plain b bs other.1 ∙ rw (other.0, more) (ap (λ t. b ∷ t) (characters-run bs))
]

-- the byte that ends the run is a quote
pub run-quote : (bs : List ℕ) → prefix_len is_unquoted bs < length bs → get_or bs (prefix_len is_unquoted bs) 0 ≡ 34
run-quote [] within = absurd (omega arith)
run-quote (b ∷ bs) within = elim (eqb_tells b 34) [
  | inl quote ↦ rw quote.0 quote.1
  | inr other ↦
      let within' = rw other.0 at within in
      let more : 1 + prefix_len is_unquoted bs ≡ suc (prefix_len is_unquoted bs) = omega arith in
      rw (other.0, more) (run-quote bs (omega arith))
]

-- what is read so far, and then what the rest is worth
pub record IsReading (text value rest : List ℕ) : Type 0 where
  pub utf8 : IsUtf8 rest
  pub so_far : value ++ characters rest ≡ text_value text

in_list : (bs : List ℕ) (i : ℕ) → get_or bs i 0 ≡ 34 → i < length bs
in_list [] i e = absurd (omega arith)
in_list (b ∷ bs) zero e = omega arith
in_list (b ∷ bs) (suc i) e = omega (arith, in_list bs i e)

pub quote-within : (bs : List ℕ) (i : ℕ) → get_or bs i 0 ≡ 34 → i + 1 ≤ length bs
quote-within bs i e = omega (arith, in_list bs i e)

pub reading-none : (text : List ℕ) → get_or text 0 0 ≢ 34 → text_value text ≡ []
reading-none [] e = refl
reading-none (b ∷ bs) e = rw (ne_eqb b 34 e) refl

pub reading-start : (text value rest : List ℕ) → IsUtf8 text → get_or text 0 0 ≡ 34 → value ≡ [] → rest ≡ drop 1 text → IsReading text value rest
reading-start [] value rest utf8 e v r = absurd (omega arith)
reading-start (b ∷ bs) value rest utf8 e v r = record {
  utf8 = subst IsUtf8 (sym r) (IsUtf8-drop (b ∷ bs) 1 utf8 (IsCharBoundary-after_ascii (b ∷ bs) 0 utf8 (omega arith) (omega (arith, e))));
  so_far = rw (v, r, e) refl;
}

-- the run before the next quote is a text
pub front-utf8 : (rest front : List ℕ) (n : ℕ) → IsUtf8 rest → n ≡ prefix_len is_unquoted rest → front ≡ take n rest → IsUtf8 front
front-utf8 rest front n utf8 len e = subst IsUtf8 (sym e) (by_end (grind arith))
  where
    by_end : (n < length rest) ⊎ (length rest ≤ n) → IsUtf8 (take n rest)
    by_end (inl within) =
        let quote : get_or rest n 0 ≡ 34 = ap (λ k. get_or rest k 0) len ∙ run-quote rest (omega arith) in
        IsUtf8-take rest n utf8 (IsCharBoundary-before_ascii rest n within (omega arith))
    by_end (inr past) = subst IsUtf8 (sym (take_all n rest past)) utf8

first-drop : (n : ℕ) (bs : List ℕ) → get_or (drop n bs) 0 0 ≡ get_or bs n 0
first-drop zero bs = refl
first-drop (suc n) [] = refl
first-drop (suc n) (b ∷ bs) = first-drop n bs

drop-twice : (n : ℕ) (bs : List ℕ) → drop 2 (drop n bs) ≡ drop ((n + 1) + 1) bs
drop-twice zero bs = refl
drop-twice (suc n) [] = let e : (suc n + 1) + 1 ≡ suc ((n + 1) + 1) = omega arith in rw e refl
drop-twice (suc n) (b ∷ bs) = let e : (suc n + 1) + 1 ≡ suc ((n + 1) + 1) = omega arith in rw e (drop-twice n bs)

-- the text ends at this quote, or with the bytes
characters-close : (more : List ℕ) → (0 < length more → get_or more 0 0 ≡ 34) → get_or more 1 0 ≢ 34 → characters more ≡ []
characters-close [] first second = refl
characters-close (b ∷ []) first second = let e : b ≡ 34 = first (omega arith) in rw e refl
characters-close (b ∷ c ∷ bs) first second = let e : b ≡ 34 = first (omega arith) in rw (e, ne_eqb c 34 second) refl

characters-pair : (more : List ℕ) → get_or more 0 0 ≡ 34 → get_or more 1 0 ≡ 34 → characters more ≡ 34 ∷ characters (drop 2 more)
characters-pair [] first second = absurd (omega arith)
characters-pair (b ∷ []) first second = absurd (omega arith)
characters-pair (b ∷ c ∷ bs) first second = rw (first, second) refl

-- what follows the run begins with a quote
more-quote : (rest more : List ℕ) (n : ℕ) → n ≡ prefix_len is_unquoted rest → more ≡ drop n rest → 0 < length more → get_or more 0 0 ≡ 34
more-quote rest more n len e some =
    let here : get_or more 0 0 ≡ get_or rest n 0 = ap (λ t. get_or t 0 0) e ∙ first-drop n rest in
    let size : length more ≡ length rest - n = ap length e ∙ length-drop n rest in
    here ∙ ap (λ k. get_or rest k 0) len ∙ run-quote rest (omega arith)

run-split : (rest front more : List ℕ) (n : ℕ) → n ≡ prefix_len is_unquoted rest → front ≡ take n rest → more ≡ drop n rest → characters rest ≡ front ++ characters more
run-split rest front more n len f m =
    characters-run rest ∙ ap (λ k. take k rest ++ characters (drop k rest)) (sym len) ∙ ap (λ t. t ++ characters (drop n rest)) (sym f) ∙ ap (λ t. front ++ characters t) (sym m)

pub reading-end : (text value rest front more new : List ℕ) (n : ℕ) → IsReading text value rest → n ≡ prefix_len is_unquoted rest → front ≡ take n rest → more ≡ drop n rest
    → get_or more 1 0 ≢ 34 → new ≡ value ++ front → new ≡ text_value text
reading-end text value rest front more new n is len f m second e =
    let none : characters more ≡ [] = characters-close more (more-quote rest more n len m) second in
    let all : characters rest ≡ front = run-split rest front more n len f m ∙ rw none (simp append-nil) in
    e ∙ ap (λ t. value ++ t) (sym all) ∙ is.so_far

pub reading-pair : (text value rest front more between new after : List ℕ) (n : ℕ) → IsReading text value rest → n ≡ prefix_len is_unquoted rest → front ≡ take n rest → more ≡ drop n rest
    → get_or more 1 0 ≡ 34 → between ≡ value ++ front → new ≡ between ++ 34 ∷ [] → after ≡ drop 2 more → IsReading text new after
reading-pair text value rest front more between new after n is len f m second b e a =
    let size : length more ≡ length rest - n = ap length m ∙ length-drop n rest in
    let two : 1 < length more = in_list more 1 second in
    let first : get_or more 0 0 ≡ 34 = more-quote rest more n len m (omega arith) in
    let at : get_or rest (n + 1) 0 ≡ 34 = sym (get_or-drop n rest 1 0) ∙ ap (λ t. get_or t 1 0) (sym m) ∙ second in
    let past : after ≡ drop ((n + 1) + 1) rest = a ∙ ap (drop 2) m ∙ drop-twice n rest in
    record {
      utf8 = subst IsUtf8 (sym past) (IsUtf8-drop rest ((n + 1) + 1) is.utf8 (IsCharBoundary-after_ascii rest (n + 1) is.utf8 (omega arith) (omega arith)));
      so_far = joined;
    }
  where
    first_quote : 1 < length more → get_or more 0 0 ≡ 34
    first_quote two = more-quote rest more n len m (omega arith)

    regroup : ((value ++ front) ++ 34 ∷ []) ++ characters (drop 2 more) ≡ value ++ (front ++ 34 ∷ characters (drop 2 more))
    regroup = simp append_assoc

    joined : new ++ characters after ≡ text_value text
    joined =
        let all : characters rest ≡ front ++ 34 ∷ characters (drop 2 more) =
        run-split rest front more n len f m ∙ ap (λ t. front ++ t) (characters-pair more (first_quote (in_list more 1 second)) second) in
        rw (e, b, a) (regroup ∙ ap (λ t. value ++ t) (sym all) ∙ is.so_far)
