-- A search in preorder with a list of the nodes to look at, the next one last.
use Rattle.std.proofs.Common.{◌≡◌, ℕ, zero, suc, ◌+◌, ◌<◌, Bool, true, false, cond, List, [], ◌∷◌, ◌++◌, Option, Some, map, refl, sym, ap, ◌∙◌, append_assoc, arith}
use Rattle.std.specs.Prelude.{reverse, find}
use Rattle.std.specs.List.{flat_map}
use Rattle.std.proofs.lemmas.List.{reverse-append}
use Rattle.node_tree.specs.declared.node.Node.{Node}
use Rattle.node_tree.specs.declared.search.Pending.{Pending}
use Rattle.node_tree.specs.Nodes.{children_of}
use Rattle.node_tree.specs.Search.{preorder}
use Rattle.node_tree.specs.Pending.{pending_at}

-- ---- what is still to be looked at

abbrev pub below : List Node → Pending → List ℕ
below nodes e = preorder e.levels nodes e.node

abbrev pub to_come : List Node → List Pending → List ℕ
to_come nodes pending = flat_map (below nodes) (reverse pending)

joined : {A B : Type 0} (f : A → List B) (xs ys : List A) → flat_map f (xs ++ ys) ≡ flat_map f xs ++ flat_map f ys
joined f [] ys = refl
joined f (x ∷ xs) ys = ap (λ l. f x ++ l) (joined f xs ys) ∙ sym (append_assoc (f x) (flat_map f xs) (flat_map f ys))

pub last_first : (nodes : List Node) (rest : List Pending) (e : Pending) → to_come nodes (rest ++ e ∷ []) ≡ below nodes e ++ to_come nodes rest
last_first nodes rest e = ap (flat_map (below nodes)) (reverse-append rest (e ∷ []))

reversed : {A : Type 0} (x : A) (xs : List A) → reverse (x ∷ xs) ≡ reverse xs ++ x ∷ []
reversed x xs = reverse-append (x ∷ []) xs

mapped : {A B : Type 0} (f : A → B) (xs ys : List A) → map f (xs ++ ys) ≡ map f xs ++ map f ys
mapped f [] ys = refl
mapped f (x ∷ xs) ys = ap (λ l. f x ∷ l) (mapped f xs ys)

pending_more : (levels k : ℕ) (ks : List ℕ) → map (pending_at levels) (reverse (k ∷ ks)) ≡ map (pending_at levels) (reverse ks) ++ pending_at levels k ∷ []
pending_more levels k ks = ap (map (pending_at levels)) (reversed k ks) ∙ mapped (pending_at levels) (reverse ks) (k ∷ [])

of_children : (nodes : List Node) (levels : ℕ) (ks : List ℕ) → to_come nodes (map (pending_at levels) (reverse ks)) ≡ flat_map (preorder levels nodes) ks
of_children nodes levels [] = refl
of_children nodes levels (k ∷ ks) =
    ap (to_come nodes) (pending_more levels k ks)
    ∙ last_first nodes (map (pending_at levels) (reverse ks)) (pending_at levels k)
    ∙ ap (λ l. preorder levels nodes k ++ l) (of_children nodes levels ks)

pub children_to_come : (nodes : List Node) (levels : ℕ) (ks : List ℕ) (rest : List Pending) → to_come nodes (rest ++ map (pending_at levels) (reverse ks)) ≡ flat_map (preorder levels nodes) ks ++ to_come nodes rest
children_to_come nodes levels ks rest =
    ap (flat_map (below nodes)) (reverse-append rest (map (pending_at levels) (reverse ks)))
    ∙ joined (below nodes) (reverse (map (pending_at levels) (reverse ks))) (reverse rest)
    ∙ ap (λ l. l ++ to_come nodes rest) (of_children nodes levels ks)

at_end : {A : Type 0} (xs : List A) → xs ++ [] ≡ xs
at_end [] = refl
at_end (x ∷ xs) = ap (λ l. x ∷ l) (at_end xs)

pub begun : (p : ℕ → Bool) (nodes : List Node) (levels n : ℕ) (pending : List Pending) → pending ≡ map (pending_at levels) (reverse (children_of nodes n)) → find p (to_come nodes pending) ≡ find p (flat_map (preorder levels nodes) (children_of nodes n))
begun p nodes levels n pending e = ap (λ l. find p (to_come nodes l)) e ∙ ap (find p) (of_children nodes levels (children_of nodes n))

-- ---- one turn

levels_are : (nodes : List Node) (rest : List Pending) (e : Pending) (most : ℕ) → e.levels ≡ most → to_come nodes (rest ++ e ∷ []) ≡ preorder most nodes e.node ++ to_come nodes rest
levels_are nodes rest e most h = last_first nodes rest e ∙ ap (λ k. preorder k nodes e.node ++ to_come nodes rest) h

pub passed_over : (p : ℕ → Bool) (nodes : List Node) (pending rest : List Pending) (e : Pending) (all : Option ℕ) → pending ≡ rest ++ e ∷ [] → e.levels ≡ 0 → find p (to_come nodes pending) ≡ all → find p (to_come nodes rest) ≡ all
passed_over p nodes pending rest e all h none said = sym (ap (λ l. find p (to_come nodes l)) h ∙ ap (find p) (levels_are nodes rest e 0 none)) ∙ said

pub visited : (p : ℕ → Bool) (nodes : List Node) (pending rest new : List Pending) (e : Pending) (most : ℕ) (all : Option ℕ) → pending ≡ rest ++ e ∷ [] → e.levels ≡ suc most → p e.node ≡ false → new ≡ rest ++ map (pending_at most) (reverse (children_of nodes e.node)) → find p (to_come nodes pending) ≡ all → find p (to_come nodes new) ≡ all
visited p nodes pending rest new e most all h some misses more said =
    ap (λ l. find p (to_come nodes l)) more
    ∙ ap (find p) (children_to_come nodes most (children_of nodes e.node) rest)
    ∙ sym (ap (λ b. cond b (Some e.node) (find p (flat_map (preorder most nodes) (children_of nodes e.node) ++ to_come nodes rest))) misses)
    ∙ sym (ap (find p) (levels_are nodes rest e (suc most) some))
    ∙ sym (ap (λ l. find p (to_come nodes l)) h)
    ∙ said

pub here_found : (p : ℕ → Bool) (nodes : List Node) (pending rest : List Pending) (e : Pending) (most : ℕ) (all : Option ℕ) → pending ≡ rest ++ e ∷ [] → e.levels ≡ suc most → p e.node ≡ true → find p (to_come nodes pending) ≡ all → Some e.node ≡ all
here_found p nodes pending rest e most all h some hits said =
    sym (ap (λ b. cond b (Some e.node) (find p (flat_map (preorder most nodes) (children_of nodes e.node) ++ to_come nodes rest))) hits)
    ∙ sym (ap (find p) (levels_are nodes rest e (suc most) some))
    ∙ sym (ap (λ l. find p (to_come nodes l)) h)
    ∙ said

-- ---- the work that is left

abbrev all_weights : (ℕ → ℕ) → List ℕ → ℕ
all_weights f [] = 0
all_weights f (x ∷ xs) = f x + all_weights f xs

-- all the nodes that a search below a node would look at
abbrev weight : ℕ → List Node → ℕ → ℕ
weight zero nodes n = 1
weight (suc most) nodes n = suc (all_weights (weight most nodes) (children_of nodes n))

abbrev pub total : List Node → List Pending → ℕ
total nodes [] = 0
total nodes (e ∷ es) = weight e.levels nodes e.node + total nodes es

total_append : (nodes : List Node) (xs ys : List Pending) → total nodes (xs ++ ys) ≡ total nodes xs + total nodes ys
total_append nodes [] ys = omega arith
total_append nodes (x ∷ xs) ys = let ih = total_append nodes xs ys in omega (arith, ih)

total_children : (nodes : List Node) (levels : ℕ) (ks : List ℕ) → total nodes (map (pending_at levels) (reverse ks)) ≡ all_weights (weight levels nodes) ks
total_children nodes levels [] = refl
total_children nodes levels (k ∷ ks) =
    let more = ap (total nodes) (pending_more levels k ks) in
    let parts = total_append nodes (map (pending_at levels) (reverse ks)) (pending_at levels k ∷ []) in
    let ih = total_children nodes levels ks in
    omega (arith, more, parts, ih)

pub less_over : (nodes : List Node) (pending rest : List Pending) (e : Pending) → pending ≡ rest ++ e ∷ [] → e.levels ≡ 0 → total nodes rest < total nodes pending
less_over nodes pending rest e h none =
    let is = ap (total nodes) h in
    let parts = total_append nodes rest (e ∷ []) in
    let one : weight e.levels nodes e.node ≡ 1 = ap (λ k. weight k nodes e.node) none in
    omega (arith, is, parts, one)

pub less_visited : (nodes : List Node) (pending rest new : List Pending) (e : Pending) (most : ℕ) → pending ≡ rest ++ e ∷ [] → e.levels ≡ suc most → new ≡ rest ++ map (pending_at most) (reverse (children_of nodes e.node)) → total nodes new < total nodes pending
less_visited nodes pending rest new e most h some more =
    let is = ap (total nodes) h in
    let parts = total_append nodes rest (e ∷ []) in
    let one : weight e.levels nodes e.node ≡ suc (all_weights (weight most nodes) (children_of nodes e.node)) = ap (λ k. weight k nodes e.node) some in
    let after = ap (total nodes) more in
    let after_parts = total_append nodes rest (map (pending_at most) (reverse (children_of nodes e.node))) in
    let children = total_children nodes most (children_of nodes e.node) in
    omega (arith, is, parts, one, after, after_parts, children)
