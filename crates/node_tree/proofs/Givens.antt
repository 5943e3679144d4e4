-- What a kind gives its nodes, whatever the bound on kinds that stand inside one another, and how many nodes that are.
use Rattle.std.proofs.Common.{◌≡◌, ℕ, zero, suc, ◌+◌, ◌<◌, min, List, [], ◌∷◌, Option, Some, None, take, length, refl, sym, ap, subst, ◌∙◌, arith}
use Rattle.std.specs.Prelude.{slice_get}
use Rattle.std.proofs.lemmas.List.{length-take-le}
use Rattle.std.proofs.lemmas.Option.{slice_get_within}
use Rattle.field_types.specs.declared.plans.KindPlan.{KindPlan}
use Rattle.field_types.specs.Elements.{Element, element, Elements, none as no_element, more as more_elements}
use Rattle.field_types.specs.Plans.{too_many, elements_of, made_by, element_nodes, elements_nodes, base_nodes, IsElement, AreElements, IsBase, IsPlanTable}
use Rattle.node_tree.specs.Subtree.{subtree, Subtrees, none, more, joined, size, all_sizes, of_element, of_elements}
use Rattle.node_tree.specs.Making.{base_in, elements_in, children_given, made_count}
use Rattle.node_tree.specs.Pending.{gives}

pub none_given : (k : ℕ) (plans : List KindPlan) → children_given k plans None ≡ none
none_given zero plans = refl
none_given (suc k) plans = refl

-- elements make the same where their kinds give the same
mutual
  same_element : (below : ℕ) (f g : ℕ → Subtrees) → ((place : ℕ) → place < below → f place ≡ g place) → (e : Element) → IsElement below e → of_element f e ≡ of_element g e
  same_element below f g same (element place values children) h =
      ap (λ ts. subtree place values (joined ts (of_elements f children))) (same place h.0)
      ∙ ap (λ ts. subtree place values (joined (g place) ts)) (same_elements below f g same children h.2)

  same_elements : (below : ℕ) (f g : ℕ → Subtrees) → ((place : ℕ) → place < below → f place ≡ g place) → (es : Elements) → AreElements below es → of_elements f es ≡ of_elements g es
  same_elements below f g same no_element h = refl
  same_elements below f g same (more_elements e es) h =
      ap (λ t. more t (of_elements f es)) (same_element below f g same e h.0)
      ∙ ap (λ ts. more (of_element g e) ts) (same_elements below f g same es h.1)

-- ---- the table

pub there_at : {A : Type 0} (xs : List A) (i : ℕ) → i < length xs → (x : A) × (slice_get xs i ≡ Some x)
there_at [] i h = absurd (omega arith)
there_at (x ∷ xs) zero h = (x, refl)
there_at (x ∷ xs) (suc i) h = there_at xs i (omega arith)

pub get_take : {A : Type 0} (xs : List A) (n i : ℕ) → i < n → slice_get (take n xs) i ≡ slice_get xs i
get_take xs zero i h = absurd (omega arith)
get_take [] (suc n) i h = refl
get_take (x ∷ xs) (suc n) zero h = refl
get_take (x ∷ xs) (suc n) (suc i) h = get_take xs n i (omega arith)

before : (plans : List KindPlan) (at : ℕ) (p : KindPlan) → slice_get plans at ≡ Some p → length (take at plans) ≡ at
before plans at p e = let within = slice_get_within plans at p e in length-take-le at plans (omega arith)

pub base_below : (plans : List KindPlan) → IsPlanTable plans → (at : ℕ) (p : KindPlan) → slice_get plans at ≡ Some p → (b : ℕ) → p.base ≡ Some b → b < at
base_below plans table at p e b eb = subst (λ n. b < n) (before plans at p e) (subst (IsBase (length (take at plans)) p.kind) eb (table.each at p e).base)

elements_below : (plans : List KindPlan) → IsPlanTable plans → (at : ℕ) (p : KindPlan) → slice_get plans at ≡ Some p → AreElements at (elements_of p.children)
elements_below plans table at p e = subst (λ n. AreElements n (elements_of p.children)) (before plans at p e) (table.each at p e).elements

-- ---- a larger bound gives the same

abbrev inside : ℕ → List KindPlan → ℕ → Subtrees
inside k plans q = children_given k plans (Some q)

enough_base : (plans : List KindPlan) (k m place : ℕ) → ((q : ℕ) → q < place → inside k plans q ≡ inside m plans q) → (o : Option ℕ) → ((b : ℕ) → o ≡ Some b → b < place) → children_given k plans o ≡ children_given m plans o
enough_base plans k m place ih None h = none_given k plans ∙ sym (none_given m plans)
enough_base plans k m place ih (Some b) h = ih b (h b refl)

enough_at : (plans : List KindPlan) → IsPlanTable plans → (k m place : ℕ) → ((q : ℕ) → q < place → inside k plans q ≡ inside m plans q) → (o : Option KindPlan) → slice_get plans place ≡ o → joined (children_given k plans (base_in o)) (of_elements (inside k plans) (elements_in o)) ≡ joined (children_given m plans (base_in o)) (of_elements (inside m plans) (elements_in o))
enough_at plans table k m place ih None e = ap (λ ts. joined ts none) (none_given k plans ∙ sym (none_given m plans))
enough_at plans table k m place ih (Some p) e =
    ap (λ ts. joined ts (of_elements (inside k plans) (elements_of p.children))) (enough_base plans k m place ih p.base (base_below plans table place p e))
    ∙ ap (λ ts. joined (children_given m plans p.base) ts) (same_elements place (inside k plans) (inside m plans) ih (elements_of p.children) (elements_below plans table place p e))

enough : (plans : List KindPlan) → IsPlanTable plans → (k m place : ℕ) → place < k → place < m → inside k plans place ≡ inside m plans place
enough plans table zero m place h l = absurd (omega arith)
enough plans table (suc k) zero place h l = absurd (omega arith)
enough plans table (suc k) (suc m) place h l = enough_at plans table k m place (λ q s. enough plans table k m q (omega arith) (omega arith)) (slice_get plans place) refl

-- what a kind gives: what its base gives, and then what its own elements make
pub given_is : (plans : List KindPlan) → IsPlanTable plans → (place : ℕ) (p : KindPlan) → slice_get plans place ≡ Some p → gives plans place ≡ joined (children_given (length plans) plans p.base) (of_elements (gives plans) (elements_of p.children))
given_is plans table place p e =
    let within = slice_get_within plans place p e in
    enough plans table (length plans) (suc (length plans)) place within (omega arith)
    ∙ ap (λ o. joined (children_given (length plans) plans (base_in o)) (of_elements (gives plans) (elements_in o))) e

none_in : (k : ℕ) (plans : List KindPlan) (place : ℕ) → slice_get plans place ≡ None → inside k plans place ≡ none
none_in zero plans place e = refl
none_in (suc k) plans place e = ap (λ o. joined (children_given k plans (base_in o)) (of_elements (inside k plans) (elements_in o))) e ∙ ap (λ ts. joined ts none) (none_given k plans)

pub given_none : (plans : List KindPlan) (place : ℕ) → slice_get plans place ≡ None → gives plans place ≡ none
given_none plans place e = none_in (length plans) plans place e

-- ---- how many nodes

pub sizes_joined : (ts us : Subtrees) → all_sizes (joined ts us) ≡ all_sizes ts + all_sizes us
sizes_joined none us = omega arith
sizes_joined (more t ts) us = let ih = sizes_joined ts us in omega (arith, ih)

-- the plans tell how many nodes each kind makes, up to the bound
abbrev Tells : List KindPlan → ℕ → (ℕ → Subtrees) → Type 0
Tells plans below f = (place : ℕ) → place < below → min too_many (made_by (slice_get plans place)) ≡ min too_many (suc (all_sizes (f place)))

mutual
  element_size : (plans : List KindPlan) (below : ℕ) (f : ℕ → Subtrees) → Tells plans below f → (e : Element) → IsElement below e → min too_many (element_nodes plans e) ≡ min too_many (size (of_element f e))
  element_size plans below f tells (element place values children) h =
      let a = tells place h.0 in
      let b = elements_size plans below f tells children h.2 in
      let j = sizes_joined (f place) (of_elements f children) in
      omega (arith, a, b, j)

  elements_size : (plans : List KindPlan) (below : ℕ) (f : ℕ → Subtrees) → Tells plans below f → (es : Elements) → AreElements below es → min too_many (elements_nodes plans es) ≡ min too_many (all_sizes (of_elements f es))
  elements_size plans below f tells no_element h = refl
  elements_size plans below f tells (more_elements e es) h =
      let a = element_size plans below f tells e h.0 in
      let b = elements_size plans below f tells es h.1 in
      omega (arith, a, b)

base_size : (plans : List KindPlan) (below : ℕ) → Tells (take below plans) below (gives plans) → (o : Option ℕ) → ((b : ℕ) → o ≡ Some b → b < below) → min too_many (base_nodes (take below plans) o) ≡ min too_many (suc (all_sizes (children_given (length plans) plans o)))
base_size plans below tells None h = let none_is = ap all_sizes (none_given (length plans) plans) in omega (arith, none_is)
base_size plans below tells (Some b) h = tells b (h b refl)

told : (plans : List KindPlan) → IsPlanTable plans → (place : ℕ) (p : KindPlan) → slice_get plans place ≡ Some p → Tells (take place plans) place (gives plans) → p.nodes ≡ min too_many (suc (all_sizes (gives plans place)))
told plans table place p e tells =
    let is = (table.each place p e).nodes in
    let a = base_size plans place tells p.base (base_below plans table place p e) in
    let b = elements_size (take place plans) place (gives plans) tells (elements_of p.children) (elements_below plans table place p e) in
    let j = ap all_sizes (given_is plans table place p e) ∙ sizes_joined (children_given (length plans) plans p.base) (of_elements (gives plans) (elements_of p.children)) in
    omega (arith, is, a, b, j)

-- a plan says how many nodes a making makes, but for those past the bound
made_up_to : (plans : List KindPlan) → IsPlanTable plans → (k place : ℕ) (p : KindPlan) → place < k → slice_get plans place ≡ Some p → p.nodes ≡ min too_many (suc (all_sizes (gives plans place)))
made_up_to plans table zero place p h e = absurd (omega arith)
made_up_to plans table (suc k) place p h e = told plans table place p e (λ q l. at q l (λ r re. made_up_to plans table k q r (omega arith) re))
  where
    at : (q : ℕ) → q < place → ((r : KindPlan) → slice_get plans q ≡ Some r → r.nodes ≡ min too_many (suc (all_sizes (gives plans q)))) → min too_many (made_by (slice_get (take place plans) q)) ≡ min too_many (suc (all_sizes (gives plans q)))
    at q l ih =
        let within = slice_get_within plans place p e in
        let r = there_at plans q (omega arith) in
        let read : made_by (slice_get (take place plans) q) ≡ r.0.nodes = ap made_by (get_take plans place q l ∙ r.1) in
        let nodes = ih r.0 r.1 in
        omega (arith, read, nodes)

pub made_is : (plans : List KindPlan) → IsPlanTable plans → (place : ℕ) (p : KindPlan) → slice_get plans place ≡ Some p → p.nodes ≡ min too_many (made_count plans place)
made_is plans table place p e = made_up_to plans table (suc place) place p (omega arith) e
