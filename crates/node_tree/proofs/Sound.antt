-- What holds of the nodes at each moment, after each change.
use Rattle.std.proofs.Common.{◌≡◌, ℕ, zero, suc, ◌≤◌, true, false, List, [], ◌∷◌, ◌++◌, Option, Some, None, length, refl, sym, ap, ◌∙◌, arith}
use Rattle.std.specs.Prelude.{slice_get}
use Rattle.node_tree.specs.declared.field.Field.{Field}
use Rattle.node_tree.specs.declared.node.Node.{Node}
use Rattle.node_tree.specs.declared.children.Place.{Place}
use Rattle.node_tree.specs.Nodes.{node_at, IsNode, parent_in, children_in, with_node, with_children, with_parent, with_fields}
use Rattle.node_tree.specs.Family.{has, ancestry, without, with_child, left, standing, is as is_parent, once_where, times, IsFamily, Rooted, top, IsSound}
use Rattle.node_tree.specs.Nodes.{children_of}
use Rattle.node_tree.proofs.Places.{length_with, still_node, read_with}
use Rattle.node_tree.proofs.Kin.{left_is, taken_left, standing_family, alone_family, child_has_parent, child_is_node, parent_here, parent_other, parent_kept, length_left}
use Rattle.node_tree.proofs.Ascents.{same_parents, moved_rooted, stood_rooted}

pub fields_sound : (f : List Field → List Field) (nodes : List Node) (n : ℕ) → IsSound nodes → IsSound (with_node (with_fields f) nodes n)
fields_sound f nodes n sound =
    let size : length (with_node (with_fields f) nodes n) ≡ length nodes = length_with (with_fields f) nodes n in
    let most : length nodes ≤ 1048576 = sound.most in
    record {
      family = record { once = λ p m. ap (times m) (read_with children_in (with_fields f) (λ x. refl) nodes n p) ∙ sound.family.once p m ∙ ap (λ o. once_where (is_parent p o)) (sym (read_with parent_in (with_fields f) (λ x. refl) nodes n m)) };
      rooted = λ m. same_parents nodes (with_node (with_fields f) nodes n) (λ i. read_with parent_in (with_fields f) (λ x. refl) nodes n i) m (sound.rooted m);
      most = omega arith;
    }

pub standing_sound : (place : Place) (nodes : List Node) (n c : ℕ) → IsSound nodes → IsNode nodes n → IsNode nodes c → has c (ancestry nodes n) ≡ false → IsSound (standing place (left nodes c) n c)
standing_sound place nodes n c sound node child clear =
    let after : List Node = left nodes c in
    let put : List Node = with_node (with_children (with_child place c)) after n in
    let left_size : length (left nodes c) ≡ length nodes = length_left nodes c in
    let put_size : length (with_node (with_children (with_child place c)) (left nodes c) n) ≡ length (left nodes c) = length_with (with_children (with_child place c)) (left nodes c) n in
    let size : length (standing place (left nodes c) n c) ≡ length (with_node (with_children (with_child place c)) (left nodes c) n) = length_with (with_parent (Some n)) (with_node (with_children (with_child place c)) (left nodes c) n) c in
    let most : length nodes ≤ 1048576 = sound.most in
    let n_from : 1 ≤ n = node.from in
    let n_to : n ≤ length nodes = node.to in
    let c_from : 1 ≤ c = child.from in
    let c_to : c ≤ length nodes = child.to in
    let n_there : IsNode (left nodes c) n = record { from = n_from; to = omega arith } in
    let c_there : IsNode (left nodes c) c = record { from = c_from; to = omega arith } in
    let gone = left_is nodes sound.family c in
    record {
      family = standing_family place nodes (left nodes c) n c gone n_there c_there;
      rooted = stood_rooted nodes (standing place (left nodes c) n c) sound.family sound.rooted n c node clear
          (parent_here (Some n) put c (still_node (with_children (with_child place c)) (left nodes c) n c c_there))
          (λ m ne. parent_other (Some n) put c m ne ∙ parent_kept (with_child place c) (left nodes c) n m ∙ gone.parents m);
      most = omega arith;
    }

pub removed_sound : (nodes : List Node) (n c : ℕ) → IsSound nodes → has c (children_of nodes n) ≡ true → IsSound (with_node (with_parent None) (with_node (with_children (without c)) nodes n) c)
removed_sound nodes n c sound h =
    let out : List Node = with_node (with_children (without c)) nodes n in
    let size : length (with_node (with_children (without c)) nodes n) ≡ length nodes = length_with (with_children (without c)) nodes n in
    let more : length (with_node (with_parent None) (with_node (with_children (without c)) nodes n) c) ≡ length (with_node (with_children (without c)) nodes n) = length_with (with_parent None) (with_node (with_children (without c)) nodes n) c in
    let most : length nodes ≤ 1048576 = sound.most in
    let there = still_node (with_children (without c)) nodes n c (child_is_node nodes sound.family n c h) in
    record {
      family = alone_family nodes (with_node (with_children (without c)) nodes n) c (taken_left nodes sound.family c n (child_has_parent nodes sound.family n c h)) there;
      rooted = λ m. moved_rooted nodes (with_node (with_parent None) (with_node (with_children (without c)) nodes n) c) c
          (λ i ne. parent_other None out c i ne ∙ parent_kept (without c) nodes n i)
          (top (parent_here None out c there)) m (sound.rooted m);
      most = omega arith;
    }

-- ---- one node more, alone

read_more : {B : Type 0} (r : Option Node → B) (x : Node) → r (Some x) ≡ r None → (nodes : List Node) (i : ℕ) → r (slice_get (nodes ++ x ∷ []) i) ≡ r (slice_get nodes i)
read_more r x e [] zero = e
read_more r x e [] (suc i) = refl
read_more r x e (y ∷ ys) zero = refl
read_more r x e (y ∷ ys) (suc i) = read_more r x e ys i

read_node : {B : Type 0} (r : Option Node → B) (x : Node) → r (Some x) ≡ r None → (nodes : List Node) (n : ℕ) → r (node_at (nodes ++ x ∷ []) n) ≡ r (node_at nodes n)
read_node r x e nodes zero = refl
read_node r x e nodes (suc i) = read_more r x e nodes i

pub more_family : (nodes : List Node) (x : Node) → x.parent ≡ None → x.children ≡ [] → IsFamily nodes → IsFamily (nodes ++ x ∷ [])
more_family nodes x alone none family = record { once = λ p m. ap (times m) (read_node children_in x none nodes p) ∙ family.once p m ∙ ap (λ o. once_where (is_parent p o)) (sym (read_node parent_in x alone nodes m)) }

pub more_rooted : (nodes : List Node) (x : Node) → x.parent ≡ None → ((n : ℕ) → Rooted nodes n) → (n : ℕ) → Rooted (nodes ++ x ∷ []) n
more_rooted nodes x alone rooted n = same_parents nodes (nodes ++ x ∷ []) (read_node parent_in x alone nodes) n (rooted n)
