-- A making, one node after another: what is made in the end, and what each step keeps.
use Rattle.std.proofs.Common.{◌≡◌, ℕ, zero, suc, ◌+◌, ◌<◌, ◌≤◌, List, [], ◌∷◌, ◌++◌, Option, Some, None, length, refl, sym, ap, subst, ◌∙◌, append_assoc, length-append, arith}
use Rattle.std.specs.Prelude.{slice_get, option_map}
use Rattle.field_types.specs.declared.plans.AttributeValue.{AttributeValue}
use Rattle.field_types.specs.declared.plans.KindPlan.{KindPlan}
use Rattle.node_tree.specs.declared.node.Node.{Node}
use Rattle.node_tree.specs.Nodes.{changed, with_children, owner_of}
use Rattle.node_tree.specs.Subtree.{Subtree, subtree, Subtrees, none, more, size, all_sizes}
use Rattle.node_tree.specs.Making.{numbers, made_node, numbered, all_numbered, children_given, made}
use Rattle.node_tree.specs.Pending.{Work, works, added, finished, HaveParents}
use Rattle.node_tree.proofs.Places.{length_changed, get_changed}
use Rattle.node_tree.proofs.NamedLists.{at_end}

abbrev pub with_more : List ℕ → Node → Node
with_more ks x = with_children (λ l. l ++ ks) x

abbrev pub one_work : ℕ → Subtree → Work
one_work parent t = record { tree = t; parent = parent }

pub changed_middle : {A : Type 0} (f : A → A) (before : List A) (x : A) (after : List A) → changed f (before ++ x ∷ after) (length before) ≡ before ++ f x ∷ after
changed_middle f [] x after = refl
changed_middle f (y ∷ before) x after = ap (λ l. y ∷ l) (changed_middle f before x after)

no_more : (x : Node) → with_more [] x ≡ x
no_more x = ap (λ l. let y : Node = record x { children = l } in y) (at_end x.children)

more_twice : (n : ℕ) (ks : List ℕ) (x : Node) → with_more ks (with_more (n ∷ []) x) ≡ with_more (n ∷ ks) x
more_twice n ks x = ap (λ l. let y : Node = record x { children = l } in y) (append_assoc x.children (n ∷ []) ks)

module _ (plans : List KindPlan) (owner : ℕ) where
  mutual
    pub length_one : (parent : Option ℕ) (first : ℕ) (t : Subtree) → length (numbered plans owner parent first t) ≡ size t
    length_one parent first (subtree place values children) = ap suc (length_all (Some first) (suc first) children)

    pub length_all : (parent : Option ℕ) (first : ℕ) (ts : Subtrees) → length (all_numbered plans owner parent first ts) ≡ all_sizes ts
    length_all parent first none = refl
    length_all parent first (more t ts) =
        let parts = length-append (numbered plans owner parent first t) (all_numbered plans owner parent (first + size t) ts) in
        let a = length_one parent first t in
        let b = length_all parent (first + size t) ts in
        omega (arith, parts, a, b)

module _ (plans : List KindPlan) (owner first : ℕ) where
  next_number : (before after : List Node) (x y : Node) (parent : Option ℕ) (n : ℕ) (t : Subtree) → first + length (before ++ y ∷ (after ++ numbered plans owner parent n t)) ≡ (first + length (before ++ x ∷ after)) + size t
  next_number before after x y parent n t =
      let block : List Node = numbered plans owner parent n t in
      let a = length-append before (y ∷ (after ++ block)) in
      let b = length-append after block in
      let c = length-append before (x ∷ after) in
      let d = length_one plans owner parent n t in
      omega (arith, a, b, c, d)

  -- all children of a node that stands among others
  pub finish_all : (before : List Node) (x : Node) (after : List Node) (ts : Subtrees) (rest : List Work) → finished plans owner first (before ++ x ∷ after) (works (length before) ts ++ rest) ≡ finished plans owner first (before ++ with_more (numbers (first + length (before ++ x ∷ after)) ts) x ∷ (after ++ all_numbered plans owner (Some (first + length before)) (first + length (before ++ x ∷ after)) ts)) rest
  finish_all before x after none rest =
      ap (λ y. finished plans owner first (before ++ y ∷ after) rest) (sym (no_more x))
      ∙ ap (λ l. finished plans owner first (before ++ with_more [] x ∷ l) rest) (sym (at_end after))
  finish_all before x after (more t ts) rest =
      let n : ℕ = first + length (before ++ x ∷ after) in
      let up : Option ℕ = Some (first + length before) in
      let block : List Node = numbered plans owner up n t in
      let y : Node = with_more (n ∷ []) x in
      ap (λ l. finished plans owner first (l ++ block) (works (length before) ts ++ rest)) (changed_middle (with_more (n ∷ [])) before x after)
      ∙ ap (λ l. finished plans owner first l (works (length before) ts ++ rest)) (append_assoc before (y ∷ after) block)
      ∙ finish_all before y (after ++ block) ts rest
      ∙ ap (λ z. finished plans owner first (before ++ with_more (numbers z ts) y ∷ ((after ++ block) ++ all_numbered plans owner up z ts)) rest) (next_number before after x y up n t)
      ∙ ap (λ z. finished plans owner first (before ++ z ∷ ((after ++ block) ++ all_numbered plans owner up (n + size t) ts)) rest) (more_twice n (numbers (n + size t) ts) x)
      ∙ ap (λ l. finished plans owner first (before ++ with_more (n ∷ numbers (n + size t) ts) x ∷ l) rest) (append_assoc after block (all_numbered plans owner up (n + size t) ts))

  -- one node, with the work that it leaves in place of that which it was
  pub element_made : (nodes : List Node) (p place : ℕ) (values : List AttributeValue) (kids : Subtrees) (rest : List Work) → finished plans owner first (changed (with_more ((first + length nodes) ∷ [])) nodes p ++ made_node plans owner (Some (first + p)) place values [] ∷ []) (works (length nodes) kids ++ rest) ≡ finished plans owner first nodes (one_work p (subtree place values kids) ∷ rest)
  element_made nodes p place values kids rest =
      let n : ℕ = first + length nodes in
      let before : List Node = changed (with_more (n ∷ [])) nodes p in
      let x : Node = made_node plans owner (Some (first + p)) place values [] in
      let same : length before ≡ length nodes = length_changed (with_more (n ∷ [])) nodes p in
      let one = length-append before (x ∷ []) in
      let here : first + length before ≡ n = omega arith in
      let next : first + length (before ++ x ∷ []) ≡ suc n = omega (arith, one, same) in
      ap (λ k. finished plans owner first (before ++ x ∷ []) (works k kids ++ rest)) (sym same)
      ∙ finish_all before x [] kids rest
      ∙ ap (λ z. finished plans owner first (before ++ with_more (numbers z kids) x ∷ all_numbered plans owner (Some (first + length before)) z kids) rest) next
      ∙ ap (λ z. finished plans owner first (before ++ with_more (numbers (suc n) kids) x ∷ all_numbered plans owner (Some z) (suc n) kids) rest) here

  pub root_made : (place : ℕ) (kids : Subtrees) → finished plans owner first (made_node plans owner None place [] [] ∷ []) (works 0 kids) ≡ numbered plans owner None first (subtree place [] kids)
  root_made place kids =
      let x : Node = made_node plans owner None place [] [] in
      let here : first + 0 ≡ first = omega arith in
      let next : first + 1 ≡ suc first = omega arith in
      ap (finished plans owner first (x ∷ [])) (sym (at_end (works 0 kids)))
      ∙ finish_all [] x [] kids []
      ∙ ap (λ z. with_more (numbers z kids) x ∷ all_numbered plans owner (Some (first + 0)) z kids) next
      ∙ ap (λ z. with_more (numbers (suc first) kids) x ∷ all_numbered plans owner (Some z) (suc first) kids) here

  -- ---- how many

  pub all_work : List Work → ℕ
  all_work [] = 0
  all_work (w ∷ ws) = size w.tree + all_work ws

  added_length : (nodes : List Node) (w : Work) → length (added plans owner first nodes w) ≡ length nodes + size w.tree
  added_length nodes w =
      let f = with_more ((first + length nodes) ∷ []) in
      let parts = length-append (changed f nodes w.parent) (numbered plans owner (Some (first + w.parent)) (first + length nodes) w.tree) in
      let a = length_changed f nodes w.parent in
      let b = length_one plans owner (Some (first + w.parent)) (first + length nodes) w.tree in
      omega (arith, parts, a, b)

  some_nodes : (t : Subtree) → 1 ≤ size t
  some_nodes (subtree place values children) = omega arith

  grows : (nodes : List Node) (ws : List Work) → length nodes ≤ length (finished plans owner first nodes ws)
  grows nodes [] = omega arith
  grows nodes (w ∷ ws) = let a = added_length nodes w in let ih = grows (added plans owner first nodes w) ws in omega (arith, a, ih)

  -- while there is work, fewer nodes were made than there will be
  pub fewer : (nodes : List Node) (w : Work) (ws : List Work) → length nodes < length (finished plans owner first nodes (w ∷ ws))
  fewer nodes w ws =
      let a = added_length nodes w in
      let b = some_nodes w.tree in
      let c = grows (added plans owner first nodes w) ws in
      omega (arith, a, b, c)

-- ---- parents

pub parents_more : (nodes new : List Node) (ws : List Work) → length nodes ≤ length new → HaveParents nodes ws → HaveParents new ws
parents_more nodes new [] le h = tt
parents_more nodes new (w ∷ ws) le h = (let here = h.0 in omega (arith, le, here), parents_more nodes new ws le h.1)

pub parents_works : (nodes : List Node) (p : ℕ) (ts : Subtrees) (rest : List Work) → p < length nodes → HaveParents nodes rest → HaveParents nodes (works p ts ++ rest)
parents_works nodes p none rest l h = h
parents_works nodes p (more t ts) rest l h = (l, parents_works nodes p ts rest l h)

-- ---- what each step keeps, the whole making keeps

pub get_front : {A : Type 0} (xs ys : List A) (i : ℕ) (x : A) → slice_get xs i ≡ Some x → slice_get (xs ++ ys) i ≡ Some x
get_front [] ys i x e = absurd cc
get_front (z ∷ xs) ys zero x e = e
get_front (z ∷ xs) ys (suc i) x e = get_front xs ys i x e

pub get_last : {A : Type 0} (xs : List A) (y : A) → slice_get (xs ++ y ∷ []) (length xs) ≡ Some y
get_last [] y = refl
get_last (x ∷ xs) y = get_last xs y

pub owner_some : (nodes : List Node) (p owner : ℕ) → owner_of nodes (suc p) ≡ Some owner → (x : Node) × (slice_get nodes p ≡ Some x) × (x.owner ≡ owner)
owner_some nodes p owner e = go (slice_get nodes p) refl e
  where
    go : (o : Option Node) → slice_get nodes p ≡ o → option_map (λ x. x.owner) o ≡ Some owner → (x : Node) × (slice_get nodes p ≡ Some x) × (x.owner ≡ owner)
    go None f g = absurd cc
    go (Some x) f g = (x, f, (let same : x.owner ≡ owner = cc in same))

-- all values that attributes give the nodes of a subtree
module _ (V : List AttributeValue → Type 0) where
  abbrev mutual
    pub Have : Subtree → Type 0
    Have (subtree place values children) = V values × AllHave children

    pub AllHave : Subtrees → Type 0
    AllHave none = Unit {0}
    AllHave (more t ts) = Have t × AllHave ts

module _ (plans : List KindPlan) (owner : ℕ) (V : List AttributeValue → Type 0) (P : List Node → Type 0)
    (child : (nodes : List Node) (p place : ℕ) (values : List AttributeValue) → V values → P nodes → owner_of nodes (suc p) ≡ Some owner → P (changed (with_more (suc (length nodes) ∷ [])) nodes p ++ made_node plans owner (Some (suc p)) place values [] ∷ []))
    (root : (nodes : List Node) (place : ℕ) → P nodes → P (nodes ++ made_node plans owner None place [] [] ∷ [])) where
  stays_own : (nodes block : List Node) (p : ℕ) (ks : List ℕ) → owner_of nodes (suc p) ≡ Some owner → owner_of (changed (with_more ks) nodes p ++ block) (suc p) ≡ Some owner
  stays_own nodes block p ks e =
      let x = owner_some nodes p owner e in
      ap (option_map (λ y. y.owner)) (get_front (changed (with_more ks) nodes p) block p (with_more ks x.0) (get_changed (with_more ks) nodes p x.0 x.1))
      ∙ ap Some x.2

  last_own : (before : List Node) (x : Node) (k : ℕ) → length before ≡ k → x.owner ≡ owner → owner_of (before ++ x ∷ []) (suc k) ≡ Some owner
  last_own before x k e own =
      ap (λ i. owner_of (before ++ x ∷ []) (suc i)) (sym e)
      ∙ ap (option_map (λ y. y.owner)) (get_last before x)
      ∙ ap Some own

  one_child : (nodes : List Node) (p place : ℕ) (values : List AttributeValue) → V values → P nodes → owner_of nodes (suc p) ≡ Some owner → P (changed (with_more ((1 + length nodes) ∷ [])) nodes p ++ made_node plans owner (Some (1 + p)) place values [] ∷ [])
  one_child nodes p place values v h own =
      let count : suc (length nodes) ≡ 1 + length nodes = omega arith in
      let up : suc p ≡ 1 + p = omega arith in
      subst (λ n. P (changed (with_more (n ∷ [])) nodes p ++ made_node plans owner (Some (1 + p)) place values [] ∷ [])) count
      (subst (λ n. P (changed (with_more (suc (length nodes) ∷ [])) nodes p ++ made_node plans owner (Some n) place values [] ∷ [])) up (child nodes p place values v h own))

  mutual
    keeps_one : (nodes : List Node) (p : ℕ) (t : Subtree) → Have V t → P nodes → owner_of nodes (suc p) ≡ Some owner → P (added plans owner 1 nodes (one_work p t))
    keeps_one nodes p (subtree place values kids) v h own =
        let before : List Node = changed (with_more ((1 + length nodes) ∷ [])) nodes p in
        let x : Node = made_node plans owner (Some (1 + p)) place values [] in
        subst P (ap (finished plans owner 1 (before ++ x ∷ [])) (sym (at_end (works (length nodes) kids))) ∙ element_made plans owner 1 nodes p place values kids [])
        (keeps_all (before ++ x ∷ []) (length nodes) kids v.1 (one_child nodes p place values v.0 h own) (last_own before x (length nodes) (length_changed (with_more ((1 + length nodes) ∷ [])) nodes p) refl))

    keeps_all : (nodes : List Node) (p : ℕ) (ts : Subtrees) → AllHave V ts → P nodes → owner_of nodes (suc p) ≡ Some owner → P (finished plans owner 1 nodes (works p ts))
    keeps_all nodes p none v h own = h
    keeps_all nodes p (more t ts) v h own =
        keeps_all (added plans owner 1 nodes (one_work p t)) p ts v.1 (keeps_one nodes p t v.0 h own)
        (stays_own nodes (numbered plans owner (Some (1 + p)) (1 + length nodes) t) p ((1 + length nodes) ∷ []) own)

  whole_made : (nodes : List Node) (place : ℕ) (kids : Subtrees) → finished plans owner 1 (nodes ++ made_node plans owner None place [] [] ∷ []) (works (length nodes) kids) ≡ nodes ++ numbered plans owner None (suc (length nodes)) (subtree place [] kids)
  whole_made nodes place kids =
      let x : Node = made_node plans owner None place [] [] in
      let here : 1 + length nodes ≡ suc (length nodes) = omega arith in
      let parts = length-append nodes (x ∷ []) in
      let next : 1 + length (nodes ++ x ∷ []) ≡ suc (suc (length nodes)) = omega (arith, parts) in
      ap (finished plans owner 1 (nodes ++ x ∷ [])) (sym (at_end (works (length nodes) kids)))
      ∙ finish_all plans owner 1 nodes x [] kids []
      ∙ ap (λ z. nodes ++ with_more (numbers z kids) x ∷ all_numbered plans owner (Some (1 + length nodes)) z kids) next
      ∙ ap (λ z. nodes ++ with_more (numbers (suc (suc (length nodes))) kids) x ∷ all_numbered plans owner (Some z) (suc (suc (length nodes))) kids) here

  pub made_keeps : (nodes : List Node) (place : ℕ) → AllHave V (children_given (length plans) plans (Some place)) → P nodes → P (made nodes plans place owner)
  made_keeps nodes place v h =
      let kids : Subtrees = children_given (length plans) plans (Some place) in
      let x : Node = made_node plans owner None place [] [] in
      subst P (whole_made nodes place kids) (keeps_all (nodes ++ x ∷ []) (length nodes) kids v (root nodes place h) (last_own nodes x (length nodes) refl refl))
