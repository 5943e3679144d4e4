-- What is still to be made, as a list of elements whose next one is last.
use Rattle.std.proofs.Common.{◌≡◌, ℕ, suc, List, [], ◌∷◌, ◌++◌, Option, Some, None, map, length, refl, sym, ap, ◌∙◌}
use Rattle.std.specs.Prelude.{reverse, slice_get}
use Rattle.std.proofs.lemmas.List.{reverse-append}
use Rattle.field_types.specs.declared.plans.ChildPlan.{ChildPlan}
use Rattle.field_types.specs.declared.plans.KindPlan.{KindPlan}
use Rattle.field_types.specs.Elements.{element_of}
use Rattle.field_types.specs.Plans.{elements_of}
use Rattle.node_tree.specs.declared.make.PendingElement.{PendingElement}
use Rattle.node_tree.specs.Subtree.{Subtrees, none, more, joined, of_element, of_elements}
use Rattle.node_tree.specs.Making.{children_given}
use Rattle.node_tree.specs.Pending.{Work, works, gives, work_of, to_make}
use Rattle.node_tree.proofs.Givens.{given_none}

abbrev pub element_work : List KindPlan → ℕ → ChildPlan → Work
element_work plans parent p = record { tree = of_element (gives plans) (element_of p); parent = parent }

pub works_of : (plans : List KindPlan) (parent : ℕ) (ps : List ChildPlan) → map (element_work plans parent) ps ≡ works parent (of_elements (gives plans) (elements_of ps))
works_of plans parent [] = refl
works_of plans parent (p ∷ ps) = ap (λ l. element_work plans parent p ∷ l) (works_of plans parent ps)

pub works_joined : (parent : ℕ) (ts us : Subtrees) → works parent (joined ts us) ≡ works parent ts ++ works parent us
works_joined parent none us = refl
works_joined parent (more t ts) us = ap (λ l. record { tree = t; parent = parent } ∷ l) (works_joined parent ts us)

pub last_first : (plans : List KindPlan) (rest : List PendingElement) (e : PendingElement) → to_make plans (rest ++ e ∷ []) ≡ work_of plans e ∷ to_make plans rest
last_first plans rest e = ap (map (work_of plans)) (reverse-append rest (e ∷ []))

-- one element more
pub pushed : (plans : List KindPlan) (parent : ℕ) (before pending new : List PendingElement) (done next : List ChildPlan) (e : PendingElement) → e.parent ≡ parent → new ≡ pending ++ e ∷ [] → next ≡ done ++ e.element.now ∷ [] → to_make plans pending ≡ map (element_work plans parent) (reverse done) ++ to_make plans before → to_make plans new ≡ map (element_work plans parent) (reverse next) ++ to_make plans before
pushed plans parent before pending new done next e at grown further so_far =
    ap (to_make plans) grown
    ∙ last_first plans pending e
    ∙ ap (λ k. element_work plans k e.element.now ∷ to_make plans pending) at
    ∙ ap (λ l. element_work plans parent e.element.now ∷ l) so_far
    ∙ ap (λ l. map (element_work plans parent) l ++ to_make plans before) (sym (ap reverse further ∙ reverse-append done (e.element.now ∷ [])))

-- ---- a kind and the kinds that it extends

abbrev pub places_up : Option ℕ → ℕ
places_up None = 0
places_up (Some place) = suc place

pub kind_over : (plans : List KindPlan) (parent place : ℕ) (o : Option ℕ) (rest all : List Work) → o ≡ Some place → slice_get plans place ≡ None → works parent (children_given (length plans) plans o) ++ rest ≡ all → rest ≡ all
kind_over plans parent place o rest all e none_there is = sym (ap (λ q. works parent (children_given (length plans) plans q) ++ rest) e ∙ ap (λ ts. works parent ts ++ rest) (given_none plans place none_there)) ∙ is

pub twice_reversed : {A : Type 0} (xs : List A) → reverse (reverse xs) ≡ xs
twice_reversed [] = refl
twice_reversed (x ∷ xs) = ap reverse (reverse-append (x ∷ []) xs) ∙ reverse-append (reverse xs) (x ∷ []) ∙ ap (λ l. x ∷ l) (twice_reversed xs)
