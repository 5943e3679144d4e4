-- The byte order of names.
use Rattle.std.proofs.Common.{◌≡◌, ℕ, Bool, true, false, ◌||◌, List, ◌∷◌, refl, sym, ap, ◌∙◌, subst}
use Rattle.std.specs.Cmp.Lexicographic.{slice_cmp}
use Rattle.std.specs.Ordering.{is_eq, is_gt, is_lt, nat_cmp, ordering_reverse}
use Rattle.std.specs.Str.{bytes_eq}
use Rattle.std.specs.declared.cmp.Ordering.{Ordering}
use Rattle.std.specs.declared.cmp.Ordering.TheVariants.{Less, Equal, Greater}
use Rattle.std.proofs.lemmas.Cmp.{nat_list_cmp_total, tied_itself, upto}
use Rattle.std.proofs.lemmas.Map.Text.{is_eq-slice_cmp}
use Rattle.std.proofs.lemmas.Slice.Eq.{bytes_eq-Decides}
use Rattle.folder_rules.specs.Names.{is_among}
use Rattle.ordered_names.specs.Values.{is_before}

abbrev compared : List ℕ → List ℕ → Ordering
compared a b = slice_cmp nat_cmp a b

less : (o : Ordering) → is_lt o ≡ true → o ≡ Less
less Less e = refl
less Equal e = absurd cc
less Greater e = absurd cc

turned : (o : Ordering) → is_lt (ordering_reverse o) ≡ is_gt o
turned Less = refl
turned Equal = refl
turned Greater = refl

flip : (a b : List ℕ) → is_before b a ≡ is_gt (compared a b)
flip a b = ap is_lt (nat_list_cmp_total.antisymm b a) ∙ turned (compared a b)

pub before_itself : (a : List ℕ) → is_before a a ≡ false
before_itself a = ap is_lt (tied_itself nat_list_cmp_total a)

pub before_both : (a b c : List ℕ) → is_before a b ≡ true → is_before b c ≡ true → is_before a c ≡ true
before_both a b c p q = ap is_lt (nat_list_cmp_total.trans a b c (less (compared a b) p) (less (compared b c) q))

-- a stands behind b or is it, and b so to c
pub not_before_both : (a b c : List ℕ) → is_before a b ≡ false → is_before b c ≡ false → is_before a c ≡ false
not_before_both a b c p q = flip c a ∙ upto nat_list_cmp_total c b a (sym (flip c b) ∙ q) (sym (flip b a) ∙ p)

pub less_is_before : (a b : List ℕ) → compared a b ≡ Less → is_before a b ≡ true
less_is_before a b e = ap is_lt e

pub never_both : (a b : List ℕ) → is_before a b ≡ true → is_before b a ≡ false
never_both a b e = go (is_before b a) refl
  where
    go : (t : Bool) → is_before b a ≡ t → t ≡ false
    go true h = sym (before_both a b a e h) ∙ before_itself a
    go false h = refl

pub same : (a b : List ℕ) → is_before a b ≡ false → is_before b a ≡ false → a ≡ b
same a b p q = (bytes_eq-Decides a b).0 (sym (is_eq-slice_cmp a b) ∙ equal (compared a b) p (sym (flip a b) ∙ q))
  where
    equal : (o : Ordering) → is_lt o ≡ false → is_gt o ≡ false → is_eq o ≡ true
    equal Less h k = absurd cc
    equal Equal h k = refl
    equal Greater h k = absurd cc

pub is_itself : (a : List ℕ) → bytes_eq a a ≡ true
is_itself a = (bytes_eq-Decides a a).1 refl

pub or_true : (b : Bool) → (b || true) ≡ true
or_true true = refl
or_true false = refl

-- a name that is among names is the first or among the others
pub among_cases : (P : List ℕ → Type 0) (x : List ℕ) (xs : List (List ℕ)) → P x → ((y : List ℕ) → is_among xs y ≡ true → P y) → (y : List ℕ) → is_among (x ∷ xs) y ≡ true → P y
among_cases P x xs here behind y h = go (bytes_eq x y) refl h
  where
    go : (b : Bool) → bytes_eq x y ≡ b → (b || is_among xs y) ≡ true → P y
    go true e k = subst P ((bytes_eq-Decides x y).0 e) here
    go false e k = behind y k
