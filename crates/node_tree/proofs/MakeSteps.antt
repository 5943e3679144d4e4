-- The steps of a making, as its functions take them.
use Rattle.std.proofs.Common.{◌≡◌, ℕ, zero, suc, ◌+◌, ◌-◌, ◌<◌, ◌≤◌, Bool, true, false, List, [], ◌∷◌, ◌++◌, Option, Some, None, length, refl, sym, ap, subst, ◌∙◌, append_assoc, arith}
use Rattle.std.specs.Prelude.{slice_get, if◌then◌else◌}
use Rattle.field_types.specs.declared.plans.KindPlan.{KindPlan}
use Rattle.field_types.specs.Plans.{elements_of, IsPlanTable}
use Rattle.node_tree.specs.declared.node.Node.{Node}
use Rattle.node_tree.specs.declared.make.PendingElement.{PendingElement}
use Rattle.node_tree.specs.Subtree.{Subtrees, of_elements}
use Rattle.node_tree.specs.Making.{children_given, kind_subtree, made_count, made_node, numbered}
use Rattle.node_tree.specs.Pending.{Work, works, gives, work_of, to_make, finished, HaveParents}
use Rattle.node_tree.specs.Closed.{MayLead, IsKept}
use Rattle.node_tree.proofs.NamedLists.{at_end}
use Rattle.node_tree.proofs.Givens.{given_is, made_is, base_below}
use Rattle.node_tree.proofs.Works.{works_joined, last_first, places_up}
use Rattle.node_tree.proofs.Numbered.{length_one, root_made, fewer, parents_works}
use Rattle.node_tree.proofs.Sound.{more_family, more_rooted}
use Rattle.node_tree.proofs.Bounds.{Bound}
use Rattle.node_tree.proofs.MadeBounds.{root_bounded}
use Rattle.node_tree.proofs.Kept.{from_bounded, none_leads, made_kept}
use Rattle.node_tree.specs.Family.{is as is_parent, once_where, times, Rooted, top}
use Rattle.node_tree.specs.Nodes.{node_at, parent_of, children_of}

-- ---- up from a kind

pub kind_on : (plans : List KindPlan) → IsPlanTable plans → (parent here : ℕ) (p : KindPlan) (o : Option ℕ) (before new : List PendingElement) (all : List Work) → o ≡ Some here → slice_get plans here ≡ Some p → to_make plans new ≡ works parent (of_elements (gives plans) (elements_of p.children)) ++ to_make plans before → works parent (children_given (length plans) plans o) ++ to_make plans before ≡ all → works parent (children_given (length plans) plans p.base) ++ to_make plans new ≡ all
kind_on plans table parent here p o before new all is there pushed so_far =
    let base : List Work = works parent (children_given (length plans) plans p.base) in
    let own : List Work = works parent (of_elements (gives plans) (elements_of p.children)) in
    ap (λ l. base ++ l) pushed
    ∙ sym (append_assoc base own (to_make plans before))
    ∙ ap (λ l. l ++ to_make plans before) (sym (works_joined parent (children_given (length plans) plans p.base) (of_elements (gives plans) (elements_of p.children))) ∙ ap (works parent) (sym (given_is plans table here p there)))
    ∙ ap (λ q. works parent (children_given (length plans) plans q) ++ to_make plans before) (sym is)
    ∙ so_far

pub kind_smaller : (plans : List KindPlan) → IsPlanTable plans → (here : ℕ) (p : KindPlan) (o : Option ℕ) → o ≡ Some here → slice_get plans here ≡ Some p → places_up p.base < places_up o
kind_smaller plans table here p o is there = subst (λ q. places_up p.base < places_up q) (sym is) (go p.base (base_below plans table here p there))
  where
    go : (q : Option ℕ) → ((b : ℕ) → q ≡ Some b → b < here) → places_up q < suc here
    go None h = omega arith
    go (Some b) h = let less = h b refl in omega (arith, less)

-- ---- the loop

pub making_begins : (plans : List KindPlan) (owner first place : ℕ) (empty nodes : List Node) (x : Node) (none pending : List PendingElement) → empty ≡ [] → nodes ≡ empty ++ x ∷ [] → x ≡ made_node plans owner None place [] [] → none ≡ [] → to_make plans pending ≡ works 0 (gives plans place) ++ to_make plans none → (finished plans owner first nodes (to_make plans pending) ≡ numbered plans owner None first (kind_subtree plans place)) × HaveParents nodes (to_make plans pending)
making_begins plans owner first place empty nodes x none pending e more is nothing work =
    let kids : Subtrees = gives plans place in
    let all : nodes ≡ made_node plans owner None place [] [] ∷ [] = more ∙ ap (λ l. l ++ x ∷ []) e ∙ ap (λ y. y ∷ []) is in
    let left : to_make plans pending ≡ works 0 kids = work ∙ ap (λ l. works 0 kids ++ to_make plans l) nothing ∙ at_end (works 0 kids) in
    let size : length nodes ≡ 1 = ap length all in (
      ap (λ l. finished plans owner first l (to_make plans pending)) all ∙ ap (finished plans owner first (made_node plans owner None place [] [] ∷ [])) left ∙ root_made plans owner first place kids,
      subst (HaveParents nodes) (at_end (works 0 kids) ∙ sym left) (parents_works nodes 0 kids [] (omega (arith, size)) tt),
    )

-- while there is work, there is room for one node more
pub making_room : (plans : List KindPlan) (owner first place : ℕ) (nodes : List Node) (pending rest : List PendingElement) (e : PendingElement) → pending ≡ rest ++ e ∷ [] → finished plans owner first nodes (to_make plans pending) ≡ numbered plans owner None first (kind_subtree plans place) → length nodes < made_count plans place
making_room plans owner first place nodes pending rest e is whole =
    let split : to_make plans pending ≡ work_of plans e ∷ to_make plans rest = ap (to_make plans) is ∙ last_first plans rest e in
    let all = ap length (sym (ap (finished plans owner first nodes) split) ∙ whole) in
    let size = length_one plans owner None first (kind_subtree plans place) in
    let less = fewer plans owner first nodes (work_of plans e) (to_make plans rest) in
    omega (arith, all, size, less)

-- ---- the whole

pub too_many_is : (plans : List KindPlan) → IsPlanTable plans → (place count : ℕ) (p : KindPlan) → Some p ≡ slice_get plans place → count ≤ 1048576 → 1048576 - count < p.nodes → 1048576 < count + made_count plans place
too_many_is plans table place count p there most more = let is = made_is plans table place p (sym there) in omega (arith, is)

pub room_is : (plans : List KindPlan) → IsPlanTable plans → (place count : ℕ) (p : KindPlan) → Some p ≡ slice_get plans place → count ≤ 1048576 → p.nodes ≤ 1048576 - count → count + made_count plans place ≤ 1048576
room_is plans table place count p there most less = let is = made_is plans table place p (sym there) in omega (arith, is)

pub grown_kept : (grew : Bool) (nodes new block : List Node) (plans : List KindPlan) (place owner number : ℕ) (closed : Bool) → IsPlanTable plans → number ≡ suc (length nodes) → block ≡ numbered plans owner None number (kind_subtree plans place) → new ≡ (if grew then nodes ++ block else nodes) → length nodes + made_count plans place ≤ 1048576 → IsKept nodes closed → IsKept new closed
grown_kept false nodes new block plans place owner number closed table at is e room kept = subst (λ l. IsKept l closed) (sym e) kept
grown_kept true nodes new block plans place owner number closed table at is e room kept =
    subst (λ l. IsKept l closed) (sym (e ∙ ap (λ l. nodes ++ l) (is ∙ ap (λ n. numbered plans owner None n (kind_subtree plans place)) at))) (made_kept nodes plans place owner closed table room kept)

-- ---- the first node

nobody_rooted : (n : ℕ) → Rooted [] n
nobody_rooted zero = top refl
nobody_rooted (suc i) = top refl

nobody_once : (p m : ℕ) → times m (children_of [] p) ≡ once_where (is_parent p (parent_of [] m))
nobody_once zero zero = refl
nobody_once zero (suc m) = refl
nobody_once (suc p) zero = refl
nobody_once (suc p) (suc m) = refl

nobody_bounded : (n : ℕ) (x : Node) → node_at [] n ≡ Some x → Bound MayLead MayLead [] x
nobody_bounded zero x e = absurd cc
nobody_bounded (suc i) x e = absurd cc

pub first_kept : (plans : List KindPlan) → IsPlanTable plans → (empty nodes : List Node) (x : Node) → empty ≡ [] → nodes ≡ empty ++ x ∷ [] → x ≡ made_node plans 0 None 0 [] [] → IsKept nodes true
first_kept plans table empty nodes x e more is =
    let one : Node = made_node plans 0 None 0 [] [] in
    let all : nodes ≡ one ∷ [] = more ∙ ap (λ l. l ++ x ∷ []) e ∙ ap (λ y. y ∷ []) is in
    subst (λ l. IsKept l true) (sym all) (record {
      sound = record { family = more_family [] one refl refl (record { once = nobody_once }); rooted = more_rooted [] one refl nobody_rooted; most = omega arith };
      closed = λ t. from_bounded (one ∷ []) (root_bounded MayLead MayLead none_leads none_leads plans table 0 (λ h. h) [] 0 nobody_bounded);
    })
