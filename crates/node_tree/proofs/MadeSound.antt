-- A making keeps what holds of the nodes at each moment.
use Rattle.std.proofs.Common.{◌≡◌, ◌≢◌, ℕ, zero, suc, ◌+◌, ◌<◌, ◌≤◌, List, [], ◌∷◌, ◌++◌, Some, None, length, drop, refl, sym, ap, subst, ◌∙◌, length-append, arith}
use Rattle.std.specs.Prelude.{slice_get}
use Rattle.std.proofs.lemmas.Option.{slice_get_within}
use Rattle.std.proofs.Math.Seq.{take-length}
use Rattle.field_types.specs.declared.plans.AttributeValue.{AttributeValue}
use Rattle.field_types.specs.declared.plans.KindPlan.{KindPlan}
use Rattle.node_tree.specs.declared.node.Node.{Node}
use Rattle.node_tree.specs.declared.children.Place.TheVariants.{Last}
use Rattle.node_tree.specs.Nodes.{parent_in, parent_of, changed, with_children, with_parent, owner_of}
use Rattle.node_tree.specs.Family.{with_child, left_parent, standing, IsFamily, Rooted, top, below, IsSound}
use Rattle.node_tree.specs.Subtree.{Subtree, subtree, Subtrees, none, more}
use Rattle.node_tree.specs.Making.{children_given, made_node, kind_subtree, numbered, made_count, made}
use Rattle.node_tree.proofs.Places.{length_changed, changed_by, read_changed}
use Rattle.node_tree.proofs.Kin.{IsLeft, left_is, standing_family, parent_is_node}
use Rattle.node_tree.proofs.Ascents.{moved_rooted}
use Rattle.node_tree.proofs.Sound.{more_family, more_rooted}
use Rattle.node_tree.proofs.Numbered.{with_more, length_one, get_last, owner_some, Have, AllHave, made_keeps}

-- ---- changes in a longer list

changed_front : {A : Type 0} (f : A → A) (xs ys : List A) (i : ℕ) → i < length xs → changed f (xs ++ ys) i ≡ changed f xs i ++ ys
changed_front f [] ys i h = absurd (omega arith)
changed_front f (x ∷ xs) ys zero h = refl
changed_front f (x ∷ xs) ys (suc i) h = ap (λ l. x ∷ l) (changed_front f xs ys i (omega arith))

changed_last : {A : Type 0} (f : A → A) (xs : List A) (y : A) → changed f (xs ++ y ∷ []) (length xs) ≡ xs ++ f y ∷ []
changed_last f [] y = refl
changed_last f (x ∷ xs) y = ap (λ l. x ∷ l) (changed_last f xs y)

pub get_but_last : {A : Type 0} (xs : List A) (y : A) (i : ℕ) → i ≢ length xs → slice_get (xs ++ y ∷ []) i ≡ slice_get xs i
get_but_last [] y zero ne = absurd (ne refl)
get_but_last [] y (suc i) ne = refl
get_but_last (x ∷ xs) y zero ne = refl
get_but_last (x ∷ xs) y (suc i) ne = get_but_last xs y i (λ e. ne (ap suc e))

drop_all : {A : Type 0} (xs : List A) → drop (length xs) xs ≡ []
drop_all [] = refl
drop_all (x ∷ xs) = drop_all xs

last_child : (c : ℕ) (ks : List ℕ) → with_child Last c ks ≡ ks ++ c ∷ []
last_child c ks = ap (λ l. l ++ c ∷ drop (length ks) ks) (take-length ks) ∙ ap (λ l. ks ++ c ∷ l) (drop_all ks)

mutual
  any_value : (t : Subtree) → Have (λ values. Unit {0}) t
  any_value (subtree place values children) = (tt, any_values children)

  any_values : (ts : Subtrees) → AllHave (λ values. Unit {0}) ts
  any_values none = tt
  any_values (more t ts) = (any_value t, any_values ts)

module _ (plans : List KindPlan) (owner : ℕ) where
  -- a new child, as a node that is made alone and then takes its place
  child_stands : (nodes : List Node) (p place : ℕ) (values : List AttributeValue) (x : Node) → slice_get nodes p ≡ Some x → standing Last (nodes ++ made_node plans owner None place values [] ∷ []) (suc p) (suc (length nodes)) ≡ changed (with_more (suc (length nodes) ∷ [])) nodes p ++ made_node plans owner (Some (suc p)) place values [] ∷ []
  child_stands nodes p place values x e =
      let c : ℕ = suc (length nodes) in
      let y : Node = made_node plans owner None place values [] in
      let f = with_children (with_child Last c) in
      let within : p < length nodes = slice_get_within nodes p x e in
      let same = length_changed f nodes p in
      ap (λ l. changed (with_parent (Some (suc p))) l (length nodes)) (changed_front f nodes (y ∷ []) p within)
      ∙ ap (changed (with_parent (Some (suc p))) (changed f nodes p ++ y ∷ [])) (sym same)
      ∙ changed_last (with_parent (Some (suc p))) (changed f nodes p) y
      ∙ ap (λ l. l ++ made_node plans owner (Some (suc p)) place values [] ∷ []) (changed_by f (with_more (c ∷ [])) nodes p x e (ap (λ l. let z : Node = record x { children = l } in z) (last_child c x.children)))

  child_family : (nodes : List Node) (p place : ℕ) (values : List AttributeValue) → IsFamily nodes → owner_of nodes (suc p) ≡ Some owner → IsFamily (changed (with_more (suc (length nodes) ∷ [])) nodes p ++ made_node plans owner (Some (suc p)) place values [] ∷ [])
  child_family nodes p place values family own =
      let x = owner_some nodes p owner own in
      let y : Node = made_node plans owner None place values [] in
      let c : ℕ = suc (length nodes) in
      let more : List Node = nodes ++ y ∷ [] in
      let size : length (nodes ++ y ∷ []) ≡ length nodes + 1 = length-append nodes (y ∷ []) in
      let within : p < length nodes = slice_get_within nodes p x.0 x.1 in
      let grown = more_family nodes y refl refl family in
      let none : parent_of more c ≡ None = ap parent_in (get_last nodes y) in
      let gone = subst (λ l. IsLeft more l c) (ap (λ o. left_parent o c more) none) (left_is more grown c) in
      subst IsFamily (child_stands nodes p place values x.0 x.1)
      (standing_family Last more more (suc p) c gone (record { from = omega arith; to = omega arith }) (record { from = omega arith; to = omega arith }))

  child_parents : (nodes : List Node) (p place : ℕ) (values : List AttributeValue) (m : ℕ) → suc (length nodes) ≢ m → parent_of (changed (with_more (suc (length nodes) ∷ [])) nodes p ++ made_node plans owner (Some (suc p)) place values [] ∷ []) m ≡ parent_of nodes m
  child_parents nodes p place values zero ne = refl
  child_parents nodes p place values (suc i) ne =
      let f = with_more (suc (length nodes) ∷ []) in
      let same = length_changed f nodes p in
      ap parent_in (get_but_last (changed f nodes p) (made_node plans owner (Some (suc p)) place values []) i (λ e. ne (ap suc (sym (e ∙ same)))))
      ∙ read_changed parent_in f (λ x. refl) nodes p i

  child_parent : (nodes : List Node) (p place : ℕ) (values : List AttributeValue) → parent_of (changed (with_more (suc (length nodes) ∷ [])) nodes p ++ made_node plans owner (Some (suc p)) place values [] ∷ []) (suc (length nodes)) ≡ Some (suc p)
  child_parent nodes p place values =
      let f = with_more (suc (length nodes) ∷ []) in
      ap (λ i. parent_in (slice_get (changed f nodes p ++ made_node plans owner (Some (suc p)) place values [] ∷ []) i)) (sym (length_changed f nodes p))
      ∙ ap parent_in (get_last (changed f nodes p) (made_node plans owner (Some (suc p)) place values []))

  -- the nodes that were there go up as before
  old_rooted : (nodes after : List Node) → IsFamily nodes → ((m : ℕ) → suc (length nodes) ≢ m → parent_of after m ≡ parent_of nodes m) → (n : ℕ) → n ≤ length nodes → Rooted nodes n → Rooted after n
  old_rooted nodes after family same n le (top e) = top (same n (λ q. absurd (omega (arith, le, q))) ∙ e)
  old_rooted nodes after family same n le (below {p = q} e r) =
      let there = parent_is_node nodes family n q e in
      below (same n (λ k. absurd (omega (arith, le, k))) ∙ e) (old_rooted nodes after family same q there.to r)

  child_rooted : (nodes : List Node) (p place : ℕ) (values : List AttributeValue) → IsFamily nodes → ((n : ℕ) → Rooted nodes n) → owner_of nodes (suc p) ≡ Some owner → (n : ℕ) → Rooted (changed (with_more (suc (length nodes) ∷ [])) nodes p ++ made_node plans owner (Some (suc p)) place values [] ∷ []) n
  child_rooted nodes p place values family rooted own n =
      let x = owner_some nodes p owner own in
      let within : p < length nodes = slice_get_within nodes p x.0 x.1 in
      let after : List Node = changed (with_more (suc (length nodes) ∷ [])) nodes p ++ made_node plans owner (Some (suc p)) place values [] ∷ [] in
      let same = child_parents nodes p place values in
      moved_rooted nodes after (suc (length nodes)) same (below (child_parent nodes p place values) (old_rooted nodes after family same (suc p) (omega arith) (rooted (suc p)))) n (rooted n)

  pub made_sound : (nodes : List Node) (place : ℕ) → length nodes + made_count plans place ≤ 1048576 → IsSound nodes → IsSound (made nodes plans place owner)
  made_sound nodes place room sound =
      let grove = made_keeps plans owner (λ values. Unit {0}) (λ l. IsFamily l × ((n : ℕ) → Rooted l n))
      (λ l p q values v h own. (child_family l p q values h.0 own, child_rooted l p q values h.0 h.1 own))
      (λ l q h. (more_family l (made_node plans owner None q [] []) refl refl h.0, more_rooted l (made_node plans owner None q [] []) refl h.1))
      nodes place (any_values (children_given (length plans) plans (Some place))) (sound.family, sound.rooted) in
      let parts : length (made nodes plans place owner) ≡ length nodes + length (numbered plans owner None (suc (length nodes)) (kind_subtree plans place)) = length-append nodes (numbered plans owner None (suc (length nodes)) (kind_subtree plans place)) in
      let size = length_one plans owner None (suc (length nodes)) (kind_subtree plans place) in
      record { family = grove.0; rooted = grove.1; most = omega (arith, parts, size, room) }
