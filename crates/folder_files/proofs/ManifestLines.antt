-- A line of a manifest is tested from its front: the spaces at its end don't matter.
use Rattle.std.proofs.Common.{◌≡◌, ℕ, ◌<◌, ◌≤◌, Bool, true, false, ◌||◌, eqb, eq-eqb, cond, List, [], ◌∷◌, ◌++◌, length, get_or, drop, reverse, refl, sym, ap, ◌∙◌, arith}
use Rattle.std.specs.List.{list_any}
use Rattle.std.proofs.lemmas.List.{reverse-append}
use Rattle.std.proofs.lemmas.Bool.Decides.{nat_tests}
use Rattle.folder_files.specs.Manifest.{is_space, without_first_spaces, is_good_trimmed, is_good_line}

-- the test as it goes from the front
abbrev pub is_good_from : List ℕ → Bool
is_good_from [] = true
is_good_from (b ∷ more) = cond (is_space b) (is_good_from more) (eqb b 35 || list_any (λ c. eqb c 61) more)

or_swap : (a b c : Bool) → (a || (b || c)) ≡ (b || (a || c))
or_swap true true c = refl
or_swap true false c = refl
or_swap false true c = refl
or_swap false false c = refl

any_push : (p : ℕ → Bool) (xs : List ℕ) (y : ℕ) → list_any p (xs ++ y ∷ []) ≡ (p y || list_any p xs)
any_push p [] y = refl
any_push p (x ∷ xs) y = ap (λ b. p x || b) (any_push p xs y) ∙ or_swap (p x) (p y) (list_any p xs)

any_reverse : (p : ℕ → Bool) (xs : List ℕ) → list_any p (reverse xs) ≡ list_any p xs
any_reverse p [] = refl
any_reverse p (x ∷ xs) = ap (list_any p) (reverse-append (x ∷ []) xs) ∙ any_push p (reverse xs) x ∙ ap (λ b. p x || b) (any_reverse p xs)

no_space_any : (space : Bool) (p : ℕ → Bool) (b : ℕ) (xs ys : List ℕ) → (space ≡ true → p b ≡ false) → list_any p ys ≡ list_any p xs → list_any p (cond space ys (b ∷ xs)) ≡ list_any p (b ∷ xs)
no_space_any true p b xs ys h e = e ∙ sym (ap (λ c. c || list_any p xs) (h refl))
no_space_any false p b xs ys h e = refl

any_spaces : (p : ℕ → Bool) → ((b : ℕ) → is_space b ≡ true → p b ≡ false) → (xs : List ℕ) → list_any p (without_first_spaces xs) ≡ list_any p xs
any_spaces p h [] = refl
any_spaces p h (b ∷ xs) = no_space_any (is_space b) p b xs (without_first_spaces xs) (h b) (any_spaces p h xs)

cond_push : (space : Bool) (b y : ℕ) (xs ys zs : List ℕ) → zs ≡ ys ++ y ∷ [] → cond space zs (b ∷ (xs ++ y ∷ [])) ≡ cond space ys (b ∷ xs) ++ y ∷ []
cond_push true b y xs ys zs e = e
cond_push false b y xs ys zs e = refl

spaces_push : (xs : List ℕ) (y : ℕ) → is_space y ≡ false → without_first_spaces (xs ++ y ∷ []) ≡ without_first_spaces xs ++ y ∷ []
spaces_push [] y e = ap (λ b. cond b [] (y ∷ [])) e
spaces_push (b ∷ xs) y e = cond_push (is_space b) b y xs (without_first_spaces xs) (without_first_spaces (xs ++ y ∷ [])) (spaces_push xs y e)

eqb_apart : (b : ℕ) → is_space b ≡ true → eqb b 61 ≡ false
eqb_apart b e = grind (arith, nat_tests)

kept_front : (b : ℕ) (more : List ℕ) → is_space b ≡ false → is_good_trimmed (reverse (without_first_spaces (reverse (b ∷ more)))) ≡ (eqb b 35 || list_any (λ c. eqb c 61) more)
kept_front b more e =
    let front : reverse (without_first_spaces (reverse (b ∷ more))) ≡ b ∷ reverse (without_first_spaces (reverse more)) =
    ap (λ xs. reverse (without_first_spaces xs)) (reverse-append (b ∷ []) more)
    ∙ ap reverse (spaces_push (reverse more) b e)
    ∙ reverse-append (without_first_spaces (reverse more)) (b ∷ [])
    in
    ap is_good_trimmed front
    ∙ ap (λ c. eqb b 35 || c) (any_reverse (λ c. eqb c 61) (without_first_spaces (reverse more)) ∙ any_spaces (λ c. eqb c 61) eqb_apart (reverse more) ∙ any_reverse (λ c. eqb c 61) more)

good_front : (space : Bool) (b : ℕ) (more : List ℕ) → is_space b ≡ space → is_good_line more ≡ is_good_from more
    → is_good_trimmed (reverse (without_first_spaces (reverse (cond space (without_first_spaces more) (b ∷ more))))) ≡ cond space (is_good_from more) (eqb b 35 || list_any (λ c. eqb c 61) more)
good_front true b more e h = h
good_front false b more e h = kept_front b more e

pub good_from_front : (line : List ℕ) → is_good_line line ≡ is_good_from line
good_from_front [] = refl
good_from_front (b ∷ more) = good_front (is_space b) b more refl (good_from_front more)

first_byte : (line : List ℕ) → 1 ≤ length line → is_space (get_or line 0 0) ≡ false → is_good_from line ≡ (eqb (get_or line 0 0) 35 || list_any (λ c. eqb c 61) (drop 1 line))
first_byte [] some e = absurd (omega arith)
first_byte (b ∷ more) some e = ap (λ s. cond s (is_good_from more) (eqb b 35 || list_any (λ c. eqb c 61) more)) e

or_true : (a b : Bool) → a ≡ true → a ≡ (a || b)
or_true true b e = refl
or_true false b e = absurd (cc)

or_false : (a b : Bool) → a ≡ false → b ≡ (a || b)
or_false true b e = absurd (cc)
or_false false b e = refl

-- a comment
pub comment_line : (line : List ℕ) → 1 ≤ length line → is_space (get_or line 0 0) ≡ false → get_or line 0 0 ≡ 35 → eqb (get_or line 0 0) 35 ≡ is_good_from line
comment_line line some e hash = or_true (eqb (get_or line 0 0) 35) (list_any (λ c. eqb c 61) (drop 1 line)) (eq-eqb (get_or line 0 0) 35 hash) ∙ sym (first_byte line some e)

eqb_differs : (a b : ℕ) → (a ≡ b → ⊥) → eqb a b ≡ false
eqb_differs a b h = grind (arith, nat_tests)

-- a line that is no comment
pub other_line : (line : List ℕ) → 1 ≤ length line → is_space (get_or line 0 0) ≡ false → (get_or line 0 0 ≡ 35 → ⊥) → list_any (λ c. eqb c 61) (drop 1 line) ≡ is_good_from line
other_line line some e no_hash = or_false (eqb (get_or line 0 0) 35) (list_any (λ c. eqb c 61) (drop 1 line)) (eqb_differs (get_or line 0 0) 35 no_hash) ∙ sym (first_byte line some e)

pub empty_line : (line : List ℕ) → length line < 1 → true ≡ is_good_from line
empty_line [] none = refl
empty_line (b ∷ more) none = absurd (omega arith)
