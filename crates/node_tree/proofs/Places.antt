-- A change of one item of a list, and of one node.
use Rattle.std.proofs.Common.{◌≡◌, ◌≢◌, ℕ, zero, suc, ◌-◌, ◌<◌, ◌≤◌, List, [], ◌∷◌, Option, Some, length, set, get_or, refl, sym, ap, ◌∙◌, arith}
use Rattle.std.specs.Prelude.{slice_get}
use Rattle.std.proofs.lemmas.Option.{slice_get_read}
use Rattle.node_tree.specs.declared.field.Field.{Field}
use Rattle.node_tree.specs.declared.node.Node.{Node}
use Rattle.node_tree.specs.Nodes.{node_at, IsNode, changed, with_node, with_fields, with_children, with_parent}

-- ---- one item of a list

pub set_changed : {A : Type 0} (f : A → A) (xs : List A) (i : ℕ) (x : A) → slice_get xs i ≡ Some x → set xs i (f x) ≡ changed f xs i
set_changed f [] i x e = absurd cc
set_changed f (y ∷ xs) zero x e = let same : x ≡ y = cc in ap (λ z. f z ∷ xs) same
set_changed f (y ∷ xs) (suc i) x e = ap (λ r. y ∷ r) (set_changed f xs i x e)

pub length_changed : {A : Type 0} (f : A → A) (xs : List A) (i : ℕ) → length (changed f xs i) ≡ length xs
length_changed f [] i = refl
length_changed f (y ∷ xs) zero = refl
length_changed f (y ∷ xs) (suc i) = ap suc (length_changed f xs i)

pub get_changed : {A : Type 0} (f : A → A) (xs : List A) (i : ℕ) (x : A) → slice_get xs i ≡ Some x → slice_get (changed f xs i) i ≡ Some (f x)
get_changed f [] i x e = absurd cc
get_changed f (y ∷ xs) zero x e = let same : y ≡ x = cc in ap (λ z. Some (f z)) same
get_changed f (y ∷ xs) (suc i) x e = get_changed f xs i x e

pub get_other : {A : Type 0} (f : A → A) (xs : List A) (i j : ℕ) → i ≢ j → slice_get (changed f xs i) j ≡ slice_get xs j
get_other f [] i j ne = refl
get_other f (y ∷ xs) zero zero ne = absurd (ne refl)
get_other f (y ∷ xs) zero (suc j) ne = refl
get_other f (y ∷ xs) (suc i) zero ne = refl
get_other f (y ∷ xs) (suc i) (suc j) ne = get_other f xs i j (λ e. ne (ap suc e))

-- what a change leaves alone is read as before
pub read_changed : {A B : Type 0} (r : Option A → B) (f : A → A) → ((x : A) → r (Some (f x)) ≡ r (Some x)) → (xs : List A) (i j : ℕ) → r (slice_get (changed f xs i) j) ≡ r (slice_get xs j)
read_changed r f same [] i j = refl
read_changed r f same (y ∷ xs) zero zero = same y
read_changed r f same (y ∷ xs) zero (suc j) = refl
read_changed r f same (y ∷ xs) (suc i) zero = refl
read_changed r f same (y ∷ xs) (suc i) (suc j) = read_changed r f same xs i j

pub changed_same : {A : Type 0} (f : A → A) (xs : List A) (i : ℕ) (x : A) → slice_get xs i ≡ Some x → f x ≡ x → changed f xs i ≡ xs
changed_same f [] i x e s = refl
changed_same f (y ∷ xs) zero x e s = let same : y ≡ x = cc in ap (λ z. f z ∷ xs) same ∙ ap (λ z. z ∷ xs) (s ∙ sym same)
changed_same f (y ∷ xs) (suc i) x e s = ap (λ r. y ∷ r) (changed_same f xs i x e s)

pub changed_twice : {A : Type 0} (f g : A → A) (xs : List A) (i : ℕ) → changed f (changed g xs i) i ≡ changed (λ x. f (g x)) xs i
changed_twice f g [] i = refl
changed_twice f g (y ∷ xs) zero = refl
changed_twice f g (y ∷ xs) (suc i) = ap (λ r. y ∷ r) (changed_twice f g xs i)

pub changed_swap : {A : Type 0} (f g : A → A) (xs : List A) (i j : ℕ) → i ≢ j → changed f (changed g xs j) i ≡ changed g (changed f xs i) j
changed_swap f g [] i j ne = refl
changed_swap f g (y ∷ xs) zero zero ne = absurd (ne refl)
changed_swap f g (y ∷ xs) zero (suc j) ne = refl
changed_swap f g (y ∷ xs) (suc i) zero ne = refl
changed_swap f g (y ∷ xs) (suc i) (suc j) ne = ap (λ r. y ∷ r) (changed_swap f g xs i j (λ e. ne (ap suc e)))

-- changes that agree at the item are one
pub changed_by : {A : Type 0} (f g : A → A) (xs : List A) (i : ℕ) (x : A) → slice_get xs i ≡ Some x → f x ≡ g x → changed f xs i ≡ changed g xs i
changed_by f g [] i x e s = refl
changed_by f g (y ∷ xs) zero x e s = let same : y ≡ x = cc in ap (λ z. f z ∷ xs) same ∙ ap (λ z. z ∷ xs) (s ∙ ap g (sym same))
changed_by f g (y ∷ xs) (suc i) x e s = ap (λ r. y ∷ r) (changed_by f g xs i x e s)

-- ---- one node

pub node_read : (nodes : List Node) (n : ℕ) (x : Node) → IsNode nodes n → x ≡ get_or nodes (n - 1) x → node_at nodes n ≡ Some x
node_read nodes zero x h e = absurd (let from : 1 ≤ 0 = h.from in omega arith)
node_read nodes (suc p) x h e =
    let same : suc p - 1 ≡ p = omega arith in
    let to : suc p ≤ length nodes = h.to in
    let within : p < length nodes = omega arith in
    slice_get_read nodes (length nodes) p x refl within (e ∙ ap (λ i. get_or nodes i x) same)

pub node_written : (f : Node → Node) (nodes : List Node) (n : ℕ) (x y : Node) → IsNode nodes n → x ≡ get_or nodes (n - 1) x → y ≡ f x → set nodes (n - 1) y ≡ with_node f nodes n
node_written f nodes zero x y h e r = absurd (let from : 1 ≤ 0 = h.from in omega arith)
node_written f nodes (suc p) x y h e r =
    let same : suc p - 1 ≡ p = omega arith in
    let read : slice_get nodes p ≡ Some x = node_read nodes (suc p) x h e in
    ap (λ i. set nodes i y) same ∙ ap (set nodes p) r ∙ set_changed f nodes p x read

pub children_written : (f : List ℕ → List ℕ) (nodes : List Node) (n : ℕ) (x : Node) (ks : List ℕ) → IsNode nodes n → x ≡ get_or nodes (n - 1) x → ks ≡ f x.children → set nodes (n - 1) (record x { children = ks }) ≡ with_node (with_children f) nodes n
children_written f nodes n x ks h e r = node_written (with_children f) nodes n x (record x { children = ks }) h e (ap (λ l. let y : Node = record x { children = l } in y) r)

pub fields_written : (f : List Field → List Field) (nodes : List Node) (n : ℕ) (x : Node) (fields : List Field) → IsNode nodes n → x ≡ get_or nodes (n - 1) x → fields ≡ f x.fields → set nodes (n - 1) (record x { fields = fields }) ≡ with_node (with_fields f) nodes n
fields_written f nodes n x fields h e r = node_written (with_fields f) nodes n x (record x { fields = fields }) h e (ap (λ l. let y : Node = record x { fields = l } in y) r)

pub parent_written : (o : Option ℕ) (nodes : List Node) (n : ℕ) (x : Node) → IsNode nodes n → x ≡ get_or nodes (n - 1) x → set nodes (n - 1) (record x { parent = o }) ≡ with_node (with_parent o) nodes n
parent_written o nodes n x h e = node_written (with_parent o) nodes n x (record x { parent = o }) h e refl

pub length_with : (f : Node → Node) (nodes : List Node) (n : ℕ) → length (with_node f nodes n) ≡ length nodes
length_with f nodes zero = refl
length_with f nodes (suc p) = length_changed f nodes p

pub still_node : (f : Node → Node) (nodes : List Node) (n m : ℕ) → IsNode nodes m → IsNode (with_node f nodes n) m
still_node f nodes n m h =
    let from : 1 ≤ m = h.from in
    let to : m ≤ length nodes = h.to in
    let size : length (with_node f nodes n) ≡ length nodes = length_with f nodes n in
    record { from = from; to = omega arith }

pub with_twice : (f g : Node → Node) (nodes : List Node) (n : ℕ) → with_node f (with_node g nodes n) n ≡ with_node (λ x. f (g x)) nodes n
with_twice f g nodes zero = refl
with_twice f g nodes (suc p) = changed_twice f g nodes p

pub with_swap : (f g : Node → Node) (nodes : List Node) (n m : ℕ) → n ≢ m → with_node f (with_node g nodes m) n ≡ with_node g (with_node f nodes n) m
with_swap f g nodes zero m ne = refl
with_swap f g nodes (suc n) zero ne = refl
with_swap f g nodes (suc n) (suc m) ne = changed_swap f g nodes n m (λ e. ne (ap suc e))

pub with_same : (f : Node → Node) (nodes : List Node) (n : ℕ) (x : Node) → node_at nodes n ≡ Some x → f x ≡ x → with_node f nodes n ≡ nodes
with_same f nodes zero x e s = refl
with_same f nodes (suc p) x e s = changed_same f nodes p x e s

pub with_by : (f g : Node → Node) (nodes : List Node) (n : ℕ) (x : Node) → node_at nodes n ≡ Some x → f x ≡ g x → with_node f nodes n ≡ with_node g nodes n
with_by f g nodes zero x e s = refl
with_by f g nodes (suc p) x e s = changed_by f g nodes p x e s

pub at_same : (f : Node → Node) (nodes : List Node) (n : ℕ) (x : Node) → node_at nodes n ≡ Some x → node_at (with_node f nodes n) n ≡ Some (f x)
at_same f nodes zero x e = absurd cc
at_same f nodes (suc p) x e = get_changed f nodes p x e

pub at_other : (f : Node → Node) (nodes : List Node) (n m : ℕ) → n ≢ m → node_at (with_node f nodes n) m ≡ node_at nodes m
at_other f nodes zero m ne = refl
at_other f nodes (suc n) zero ne = refl
at_other f nodes (suc n) (suc m) ne = get_other f nodes n m (λ e. ne (ap suc e))

-- what a change of a node leaves alone is read as before
pub read_with : {B : Type 0} (r : Option Node → B) (f : Node → Node) → ((x : Node) → r (Some (f x)) ≡ r (Some x)) → (nodes : List Node) (n m : ℕ) → r (node_at (with_node f nodes n) m) ≡ r (node_at nodes m)
read_with r f same nodes zero m = refl
read_with r f same nodes (suc n) zero = refl
read_with r f same nodes (suc n) (suc m) = read_changed r f same nodes n m
