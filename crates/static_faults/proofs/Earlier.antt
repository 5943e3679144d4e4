-- The first fault by place of two lists, and that it stands first.
use Rattle.std.proofs.Common.{◌≡◌, Bool, true, false, cond, List, [], ◌∷◌, ◌++◌, Option, None, Some, refl, sym, ap, ◌∙◌, arith}
use Rattle.std.proofs.lemmas.Grind.{common_steps}
use Rattle.static_faults.specs.declared.fault.StaticFault.{StaticFault}
use Rattle.static_faults.specs.First.{is_before, earlier, first_by_place}

before_trans : (a b c : StaticFault) → is_before a b ≡ true → is_before b c ≡ true → is_before a c ≡ true
before_trans a b c x y = grind (arith, common_steps)

pub before_self : (a : StaticFault) → is_before a a ≡ false
before_self a = grind (arith, common_steps)

pub before_once : (a b : StaticFault) → is_before b a ≡ true → is_before a b ≡ false
before_once a b x = grind (arith, common_steps)

-- one that is not before a is not before what stands before a
pub before_not : (a b c : StaticFault) → is_before b a ≡ false → is_before c b ≡ false → is_before c a ≡ false
before_not a b c x y = grind (arith, common_steps)

chosen : (x y : StaticFault) (t : Bool) → is_before y x ≡ t → earlier (Some x) (Some y) ≡ cond t (Some y) (Some x)
chosen x y t e = ap (λ t. cond t (Some y) (Some x)) e

earlier_assoc : (a b c : StaticFault) → earlier (Some a) (earlier (Some b) (Some c)) ≡ earlier (earlier (Some a) (Some b)) (Some c)
earlier_assoc a b c = go (is_before b a) (is_before c b) refl refl
  where
    go : (x y : Bool) → is_before b a ≡ x → is_before c b ≡ y → earlier (Some a) (earlier (Some b) (Some c)) ≡ earlier (earlier (Some a) (Some b)) (Some c)
    go true true e f = ap (earlier (Some a)) (chosen b c true f) ∙ chosen a c true (before_trans c b a f e) ∙ sym (ap (λ z. earlier z (Some c)) (chosen a b true e) ∙ chosen b c true f)
    go true false e f = ap (earlier (Some a)) (chosen b c false f) ∙ chosen a b true e ∙ sym (ap (λ z. earlier z (Some c)) (chosen a b true e) ∙ chosen b c false f)
    go false true e f = ap (earlier (Some a)) (chosen b c true f) ∙ sym (ap (λ z. earlier z (Some c)) (chosen a b false e))
    go false false e f = ap (earlier (Some a)) (chosen b c false f) ∙ chosen a b false e ∙ sym (ap (λ z. earlier z (Some c)) (chosen a b false e) ∙ chosen a c false (before_not a b c e f))

assoc : (a : StaticFault) (b c : Option StaticFault) → earlier (Some a) (earlier b c) ≡ earlier (earlier (Some a) b) c
assoc a None c = refl
assoc a (Some b) None = go (earlier (Some a) (Some b))
  where
    go : (x : Option StaticFault) → x ≡ earlier x None
    go None = refl
    go (Some x) = refl
assoc a (Some b) (Some c) = earlier_assoc a b c

pub first_append : (xs ys : List StaticFault) → first_by_place (xs ++ ys) ≡ earlier (first_by_place xs) (first_by_place ys)
first_append [] ys = refl
first_append (x ∷ xs) ys = ap (earlier (Some x)) (first_append xs ys) ∙ assoc x (first_by_place xs) (first_by_place ys)
