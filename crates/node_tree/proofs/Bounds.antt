-- What holds of each node and of those that it is linked with, by their owners, after each change.
use Rattle.std.proofs.Common.{◌≡◌, ◌≢◌, ℕ, zero, suc, Bool, true, false, cond, ◌⊎◌, inl, inr, List, [], ◌∷◌, ◌++◌, Option, Some, None, take, drop, length, refl, sym, ap, subst, ◌∙◌}
use Rattle.std.specs.Prelude.{option_map, is_some, nat_eq}
use Rattle.std.specs.List.{AllByRecursion}
use Rattle.chan_values.specs.Tree.{Tree}
use Rattle.field_types.specs.declared.types.FieldType.{FieldType}
use Rattle.field_types.specs.declared.types.FieldType.TheVariants as t
use Rattle.field_types.specs.NamedNodes.{nodes_in}
use Rattle.field_types.specs.Opening.{opening_of}
use Rattle.field_types.specs.Words.{is_alike}
use Rattle.node_tree.specs.declared.field.Field.{Field}
use Rattle.node_tree.specs.declared.node.Node.{Node}
use Rattle.node_tree.specs.declared.children.Place.{Place}
use Rattle.node_tree.specs.Nodes.{node_at, owner_of, parent_of, with_node, with_fields, with_children, with_parent, change_first}
use Rattle.node_tree.specs.Fields.{field_named, with_fit, fit_of, fields_after_set, after_set, has_field, added_field, after_add}
use Rattle.node_tree.specs.Family.{without, place_in, with_child, left_parent, left, standing}
use Rattle.node_tree.specs.Reach.{parent_and, kin, named_by}
use Rattle.node_tree.proofs.Places.{at_same, at_other, read_with}
use Rattle.node_tree.proofs.Kin.{same_or}

-- ---- lists

pub all_map : (P Q : ℕ → Type 0) → ((n : ℕ) → P n → Q n) → (xs : List ℕ) → AllByRecursion P xs → AllByRecursion Q xs
all_map P Q f [] h = tt
all_map P Q f (x ∷ xs) h = (f x h.0, all_map P Q f xs h.1)

pub all_append : (P : ℕ → Type 0) (xs ys : List ℕ) → AllByRecursion P xs → AllByRecursion P ys → AllByRecursion P (xs ++ ys)
all_append P [] ys h k = k
all_append P (x ∷ xs) ys h k = (h.0, all_append P xs ys h.1 k)

pub all_left : (P : ℕ → Type 0) (xs ys : List ℕ) → AllByRecursion P (xs ++ ys) → AllByRecursion P xs
all_left P [] ys h = tt
all_left P (x ∷ xs) ys h = (h.0, all_left P xs ys h.1)

pub all_right : (P : ℕ → Type 0) (xs ys : List ℕ) → AllByRecursion P (xs ++ ys) → AllByRecursion P ys
all_right P [] ys h = h
all_right P (x ∷ xs) ys h = all_right P xs ys h.1

all_take : (P : ℕ → Type 0) (n : ℕ) (xs : List ℕ) → AllByRecursion P xs → AllByRecursion P (take n xs)
all_take P zero xs h = tt
all_take P (suc n) [] h = tt
all_take P (suc n) (x ∷ xs) h = (h.0, all_take P n xs h.1)

all_drop : (P : ℕ → Type 0) (n : ℕ) (xs : List ℕ) → AllByRecursion P xs → AllByRecursion P (drop n xs)
all_drop P zero xs h = h
all_drop P (suc n) [] h = tt
all_drop P (suc n) (x ∷ xs) h = all_drop P n xs h.1

all_without : (P : ℕ → Type 0) (c : ℕ) (ks : List ℕ) → AllByRecursion P ks → AllByRecursion P (without c ks)
all_without P c [] h = tt
all_without P c (k ∷ ks) h = go (nat_eq k c) h (all_without P c ks h.1)
  where
    go : (b : Bool) → AllByRecursion P (k ∷ ks) → AllByRecursion P (without c ks) → AllByRecursion P (cond b ks (k ∷ without c ks))
    go true h rest = h.1
    go false h rest = (h.0, rest)

all_with_child : (P : ℕ → Type 0) (place : Place) (c : ℕ) (ks : List ℕ) → P c → AllByRecursion P ks → AllByRecursion P (with_child place c ks)
all_with_child P place c ks one h =
    let at : ℕ = place_in place (length ks) in
    all_append P (take at ks) (c ∷ drop at ks) (all_take P at ks h) (one, all_drop P at ks h)

pub kin_children : (P : ℕ → Type 0) (o : Option ℕ) (ks ls : List ℕ) → (AllByRecursion P ks → AllByRecursion P ls) → AllByRecursion P (parent_and o ks) → AllByRecursion P (parent_and o ls)
kin_children P None ks ls f h = f h
kin_children P (Some p) ks ls f h = (h.0, f h.1)

pub kin_below : (P : ℕ → Type 0) (o : Option ℕ) (ks : List ℕ) → AllByRecursion P (parent_and o ks) → AllByRecursion P ks
kin_below P None ks h = h
kin_below P (Some p) ks h = h.1

-- ---- what fields name

some_same : {A : Type 0} {x y : A} → Some x ≡ Some y → x ≡ y
some_same e = cc

pub opening_names : (P : ℕ → Type 0) (k : FieldType) → AllByRecursion P (nodes_in (opening_of k))
opening_names P t.Integer = tt
opening_names P t.LongInteger = tt
opening_names P t.Boolean = tt
opening_names P t.String = tt
opening_names P t.Node = tt
opening_names P t.AssocArray = tt
opening_names P t.Array = tt
opening_names P t.StringArray = tt
opening_names P t.IntArray = tt
opening_names P t.BoolArray = tt
opening_names P t.NodeArray = tt

pub named_value : (P : ℕ → Type 0) (p : Field → Bool) (g : Field → Field) (v : Tree) → ((f : Field) → (g f).value ≡ v) → (fields : List Field) → AllByRecursion P (nodes_in v) → AllByRecursion P (named_by fields) → AllByRecursion P (named_by (change_first p g fields))
named_value P p g v is [] one h = tt
named_value P p g v is (f ∷ fields) one h = go (p f) (named_value P p g v is fields one (all_right P (nodes_in f.value) (named_by fields) h))
  where
    go : (b : Bool) → AllByRecursion P (named_by (change_first p g fields)) → AllByRecursion P (named_by (cond b (g f ∷ fields) (f ∷ change_first p g fields)))
    go true rest = all_append P (nodes_in (g f).value) (named_by fields) (subst (λ u. AllByRecursion P (nodes_in u)) (sym (is f)) one) (all_right P (nodes_in f.value) (named_by fields) h)
    go false rest = all_append P (nodes_in f.value) (named_by (change_first p g fields)) (all_left P (nodes_in f.value) (named_by fields) h) rest

pub named_last : (P : ℕ → Type 0) (fields : List Field) (f : Field) → AllByRecursion P (nodes_in f.value) → AllByRecursion P (named_by fields) → AllByRecursion P (named_by (fields ++ f ∷ []))
named_last P [] f one h = all_append P (nodes_in f.value) [] one tt
named_last P (g ∷ fields) f one h = all_append P (nodes_in g.value) (named_by (fields ++ f ∷ [])) (all_left P (nodes_in g.value) (named_by fields) h) (named_last P fields f one (all_right P (nodes_in g.value) (named_by fields) h))

-- ---- owners and links

module _ (K F : ℕ → Option ℕ → Type 0) where
  pub record Bound (nodes : List Node) (x : Node) : Type 0 where
    pub kin_of : AllByRecursion (λ n. K x.owner (owner_of nodes n)) (kin x)
    pub fields : AllByRecursion (λ n. F x.owner (owner_of nodes n)) (named_by x.fields)

  abbrev pub Bounded : List Node → Type 0
  Bounded nodes = (n : ℕ) (x : Node) → node_at nodes n ≡ Some x → Bound nodes x

  -- the owners are the same
  bound_same : (before after : List Node) → ((n : ℕ) → owner_of after n ≡ owner_of before n) → (x : Node) → Bound before x → Bound after x
  bound_same before after same x h = record {
    kin_of = all_map (λ n. K x.owner (owner_of before n)) (λ n. K x.owner (owner_of after n)) (λ n. subst (K x.owner) (sym (same n))) (kin x) h.kin_of;
    fields = all_map (λ n. F x.owner (owner_of before n)) (λ n. F x.owner (owner_of after n)) (λ n. subst (F x.owner) (sym (same n))) (named_by x.fields) h.fields;
  }

  -- one node is changed, but not its owner
  bounded_with : (f : Node → Node) → ((x : Node) → (f x).owner ≡ x.owner) → (nodes : List Node) (n : ℕ) → ((x : Node) → node_at nodes n ≡ Some x → Bound nodes x → Bound nodes (f x)) → Bounded nodes → Bounded (with_node f nodes n)
  bounded_with f same nodes n g h m y e =
      bound_same nodes (with_node f nodes n) (λ i. read_with (option_map (λ x. x.owner)) f (λ x. ap Some (same x)) nodes n i) y
      (go (same_or n m) (node_at nodes n) refl)
    where
      go : (n ≡ m) ⊎ ((n ≢ m) × ((nat_eq n m) ≡ false)) → (o : Option Node) → node_at nodes n ≡ o → Bound nodes y
      go (inl is) (Some x) there = subst (Bound nodes) (some_same (sym (at_same f nodes n x there) ∙ ap (node_at (with_node f nodes n)) is ∙ e)) (g x there (h n x there))
      go (inl is) None there = absurd (nobody there is)
        where
          nobody : node_at nodes n ≡ None → n ≡ m → ⊥
          nobody none_there is = let read = read_with is_some f (λ x. refl) nodes n n in
              let some_there = ap is_some (ap (node_at (with_node f nodes n)) is ∙ e) in
              let no_one = ap is_some none_there in cc
      go (inr ne) o there = h m y (sym (at_other f nodes n m ne.0) ∙ e)

  bounded_fields : (f : List Field → List Field) (nodes : List Node) (n : ℕ) → ((x : Node) → node_at nodes n ≡ Some x → AllByRecursion (λ i. F x.owner (owner_of nodes i)) (named_by x.fields) → AllByRecursion (λ i. F x.owner (owner_of nodes i)) (named_by (f x.fields))) → Bounded nodes → Bounded (with_node (with_fields f) nodes n)
  bounded_fields f nodes n g h = bounded_with (with_fields f) (λ x. refl) nodes n (λ x e b. record { kin_of = b.kin_of; fields = g x e b.fields }) h

  pub bounded_set : (nodes : List Node) (n : ℕ) (name : List ℕ) (v : Tree) → ((x : Node) (w : Tree) → node_at nodes n ≡ Some x → fit_of (field_named name x.fields) v ≡ Some w → AllByRecursion (λ i. F x.owner (owner_of nodes i)) (nodes_in w)) → Bounded nodes → Bounded (after_set nodes n name v)
  bounded_set nodes n name v names h = bounded_fields (fields_after_set name v) nodes n (λ x e b. go x b (fit_of (field_named name x.fields) v) (λ w f. names x w e f)) h
    where
      go : (x : Node) → AllByRecursion (λ i. F x.owner (owner_of nodes i)) (named_by x.fields) → (o : Option Tree) → ((w : Tree) → o ≡ Some w → AllByRecursion (λ i. F x.owner (owner_of nodes i)) (nodes_in w)) → AllByRecursion (λ i. F x.owner (owner_of nodes i)) (named_by (with_fit name o x.fields))
      go x b None f = b
      go x b (Some w) f = named_value (λ i. F x.owner (owner_of nodes i)) (λ g. is_alike g.id name) (λ g. record g { value = w }) w (λ g. refl) x.fields (f w refl) b

  pub bounded_add : (nodes : List Node) (n : ℕ) (name : List ℕ) (k : FieldType) (always : Bool) → Bounded nodes → Bounded (after_add nodes n name k always)
  bounded_add nodes n name k always h = go (has_field nodes n name)
    where
      go : (b : Bool) → Bounded (cond b nodes (with_node (with_fields (λ fields. fields ++ added_field name k always ∷ [])) nodes n))
      go true = h
      go false = bounded_fields (λ fields. fields ++ added_field name k always ∷ []) nodes n (λ x e b. named_last (λ i. F x.owner (owner_of nodes i)) x.fields (added_field name k always) (opening_names (λ i. F x.owner (owner_of nodes i)) k) b) h

  -- ---- children

  bounded_out : (nodes : List Node) (p c : ℕ) → Bounded nodes → Bounded (with_node (with_children (without c)) nodes p)
  bounded_out nodes p c h = bounded_with (with_children (without c)) (λ x. refl) nodes p (λ x e b. record { kin_of = kin_children (λ i. K x.owner (owner_of nodes i)) x.parent x.children (without c x.children) (all_without (λ i. K x.owner (owner_of nodes i)) c x.children) b.kin_of; fields = b.fields }) h

  bounded_alone : (nodes : List Node) (c : ℕ) → Bounded nodes → Bounded (with_node (with_parent None) nodes c)
  bounded_alone nodes c h = bounded_with (with_parent None) (λ x. refl) nodes c (λ x e b. record { kin_of = kin_below (λ i. K x.owner (owner_of nodes i)) x.parent x.children b.kin_of; fields = b.fields }) h

  pub bounded_left : (nodes : List Node) (c : ℕ) → Bounded nodes → Bounded (left nodes c)
  bounded_left nodes c h = go (parent_of nodes c)
    where
      go : (o : Option ℕ) → Bounded (left_parent o c nodes)
      go None = h
      go (Some p) = bounded_out nodes p c h

  pub bounded_out_alone : (nodes : List Node) (n c : ℕ) → Bounded nodes → Bounded (with_node (with_parent None) (with_node (with_children (without c)) nodes n) c)
  bounded_out_alone nodes n c h = bounded_alone (with_node (with_children (without c)) nodes n) c (bounded_out nodes n c h)

  owner_read : (nodes : List Node) (n a : ℕ) (x : Node) → node_at nodes n ≡ Some x → owner_of nodes n ≡ Some a → x.owner ≡ a
  owner_read nodes n a x e own = some_same (sym (ap (option_map (λ y. y.owner)) e) ∙ own)

  bounded_in : (place : Place) (nodes : List Node) (n c a b : ℕ) → owner_of nodes n ≡ Some a → owner_of nodes c ≡ Some b → K a (Some b) → Bounded nodes → Bounded (with_node (with_children (with_child place c)) nodes n)
  bounded_in place nodes n c a b own_n own_c may h = bounded_with (with_children (with_child place c)) (λ x. refl) nodes n (λ x e k. record {
    kin_of = kin_children (λ i. K x.owner (owner_of nodes i)) x.parent x.children (with_child place c x.children)
        (all_with_child (λ i. K x.owner (owner_of nodes i)) place c x.children (subst (K x.owner) (sym own_c) (subst (λ o. K o (Some b)) (sym (owner_read nodes n a x e own_n)) may)))
        k.kin_of;
    fields = k.fields;
  }) h

  bounded_below : (nodes : List Node) (n c a b : ℕ) → owner_of nodes n ≡ Some a → owner_of nodes c ≡ Some b → K b (Some a) → Bounded nodes → Bounded (with_node (with_parent (Some n)) nodes c)
  bounded_below nodes n c a b own_n own_c may h = bounded_with (with_parent (Some n)) (λ x. refl) nodes c (λ x e k. record {
    kin_of = (subst (K x.owner) (sym own_n) (subst (λ o. K o (Some a)) (sym (owner_read nodes c b x e own_c)) may), kin_below (λ i. K x.owner (owner_of nodes i)) x.parent x.children k.kin_of);
    fields = k.fields;
  }) h

  pub bounded_standing : (place : Place) (nodes : List Node) (n c a b : ℕ) → owner_of nodes n ≡ Some a → owner_of nodes c ≡ Some b → K a (Some b) → K b (Some a) → Bounded nodes → Bounded (standing place nodes n c)
  bounded_standing place nodes n c a b own_n own_c down up h =
      let put : List Node = with_node (with_children (with_child place c)) nodes n in
      let same : (i : ℕ) → owner_of put i ≡ owner_of nodes i = (λ i. read_with (option_map (λ x. x.owner)) (with_children (with_child place c)) (λ x. refl) nodes n i) in
      bounded_below put n c a b (same n ∙ own_n) (same c ∙ own_c) up (bounded_in place nodes n c a b own_n own_c down h)
