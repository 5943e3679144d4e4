-- Small facts on outcomes, tests and lists.
use Rattle.std.proofs.Common.{◌≡◌, ◌<◌, ◌≤◌, Bool, true, false, ◌&&◌, ◌||◌, not, ◌⊎◌, inl, inr, List, [], ◌∷◌, ◌++◌, length, length-append, Ok, Err, cond, refl, ap, ◌∙◌, arith}
use Rattle.grammar_rules.specs.declared.word.Word.{Word}
use Rattle.brs_tokens.specs.Tok.{Tok}
use Rattle.grammar_rules.specs.Words.{next}
use Rattle.grammar_rules.specs.Reading.{Outcome, Parser, and_then, choose}

pub bind_ok : {A B : Type 0} (o : Outcome A) (f : A → Parser B) (y : B × List Tok) → and_then o f ≡ Ok y → (x : A × List Tok) × (o ≡ Ok x) × (f x.0 x.1 ≡ Ok y)
bind_ok (Ok x) f y e = (x, refl, e)
bind_ok (Err d) f y e = absurd (cc)

pub bind_err : {A B : Type 0} (o : Outcome A) (f : A → Parser B) (d : List Tok) → and_then o f ≡ Err d
    → (o ≡ Err d) ⊎ ((x : A × List Tok) × (o ≡ Ok x) × (f x.0 x.1 ≡ Err d))
bind_err (Ok x) f d e = inr (x, refl, e)
bind_err (Err c) f d e = inl (cc)

pub chosen : {A : Type 0} (b : Bool) (x y z : A) → cond b x y ≡ z → ((b ≡ true) × (x ≡ z)) ⊎ ((b ≡ false) × (y ≡ z))
chosen true x y z e = inl (refl, e)
chosen false x y z e = inr (refl, e)

-- the next token of a list that goes on is its own, or that of what follows
pub next_along : (front a b : List Tok) → next a ≡ next b → next (front ++ a) ≡ next (front ++ b)
next_along [] a b e = e
next_along (t ∷ front) a b e = refl

pub choose_first : {A : Type 0} (test : Word → Bool) (p q : Parser A) (ts : List Tok) → test (next ts) ≡ true → choose test p q ts ≡ p ts
choose_first test p q ts e = ap (λ b. cond b (p ts) (q ts)) e

pub choose_second : {A : Type 0} (test : Word → Bool) (p q : Parser A) (ts : List Tok) → test (next ts) ≡ false → choose test p q ts ≡ q ts
choose_second test p q ts e = ap (λ b. cond b (p ts) (q ts)) e

pub and_parts : (a b : Bool) → (a && b) ≡ true → (a ≡ true) × (b ≡ true)
and_parts true b e = (refl, e)
and_parts false b e = absurd (cc)

pub or_first : (a b : Bool) → a ≡ true → (a || b) ≡ true
or_first true b e = refl
or_first false b e = absurd (cc)

pub or_second : (a b : Bool) → b ≡ true → (a || b) ≡ true
or_second true b e = refl
or_second false b e = e

-- what holds where `a` does
pub implied : (a b : Bool) → (not a || b) ≡ true → a ≡ true → b ≡ true
implied true b e t = e
implied false b e t = absurd (cc)

pub not_true : (a : Bool) → not a ≡ true → a ≡ false
not_true true e = absurd (cc)
not_true false e = refl

pub and_both : (a b : Bool) → a ≡ true → b ≡ true → (a && b) ≡ true
and_both true b e f = f
and_both false b e f = absurd (cc)

pub shorter : (front rest ts : List Tok) → ts ≡ front ++ rest → (front ≡ [] → ⊥) → length rest < length ts
shorter [] rest ts e h = absurd (h refl)
shorter (t ∷ front) rest ts e h = omega (arith, ap length e, length-append front rest)

abbrev pub done : {A : Type 0} → A → List Tok → Outcome A
done a ts = Ok (a, ts)

abbrev pub stopped : {A : Type 0} → List Tok → Outcome A
stopped ts = Err ts

pub ok_parts : {A : Type 0} (a b : A) (s t : List Tok) → done a s ≡ done b t → (a ≡ b) × (s ≡ t)
ok_parts {A} a b s t e = let x : ◌≡◌ {A = A × List Tok} (a, s) (b, t) = cc in (ap (λ z. z.0) x, ap (λ z. z.1) x)

pub err_parts : {A : Type 0} (s t : List Tok) → stopped {A = A} s ≡ stopped t → s ≡ t
err_parts s t e = cc

pub or_parts : (a b : Bool) → (a || b) ≡ true → (a ≡ true) ⊎ (b ≡ true)
or_parts true b e = inl refl
or_parts false b e = inr e

pub or_nothing : (b : Bool) → (b || false) ≡ true → b ≡ true
or_nothing true e = refl
or_nothing false e = e

pub same_bind : {A B : Type 0} (o : Outcome A) (f g : A → Parser B) → ((x : A × List Tok) → o ≡ Ok x → f x.0 x.1 ≡ g x.0 x.1) → and_then o f ≡ and_then o g
same_bind (Ok x) f g h = h x refl
same_bind (Err e) f g h = refl

pub no_length : (ts : List Tok) → length ts ≤ 0 → ts ≡ []
no_length [] h = refl
no_length (t ∷ ts) h = absurd (omega arith)

pub same_front : (front front' rest : List Tok) → front ++ rest ≡ front' ++ rest → front ≡ front'
same_front [] [] rest e = refl
same_front [] (t ∷ front') rest e = absurd (omega (arith, ap length e, length-append front' rest))
same_front (t ∷ front) [] rest e = absurd (omega (arith, ap length e, length-append front rest))
same_front (t ∷ front) (s ∷ front') rest e = let h : t ≡ s = cc in let f = same_front front front' rest (cc) in ap (λ z. z ∷ front) h ∙ ap (λ z. s ∷ z) f
