-- Maps by node and by folded name, read as what each node and field has.
use Rattle.std.proofs.Common.{◌≡◌, ℕ, Bool, true, false, cond, ◌&&◌, ◌==◌, List, [], ◌∷◌, map, refl, ap, subst, sym, ◌∙◌, arith, Option, None, Some, if◌then◌else◌, Vec, Global}
use Rattle.std.specs.Prelude.{unwrap_or, IsSome}
use Rattle.std.specs.Option.{option_map}
use Rattle.std.specs.Str.{bytes_eq}
use Rattle.std.specs.Map.{lookup, KeepsOthers, IsKeyTest, AreApart}
use Rattle.std.specs.BTreeMap.{BTreeMap, UpdatesBy, get_by, get}
use Rattle.std.specs.Ordering.{is_eq, nat_cmp, eq_by_cmp}
use Rattle.std.specs.Cmp.Lexicographic.{slice_cmp, nat_list_cmp_total, nat_list_eq_equiv}
use Rattle.std.specs.Cmp.{eq_by_cmp_equiv}
use Rattle.std.proofs.lemmas.Bool.{eqb-true}
use Rattle.std.proofs.lemmas.Bool.Decides.{nat_tests}
use Rattle.std.proofs.lemmas.Slice.Eq.{bytes_eq-Decides}
use Rattle.std.proofs.lemmas.Map.Text.{is_eq-slice_cmp}
use Rattle.field_observers.specs.declared.target.Registration.{Registration}
use Rattle.field_observers.specs.Registered.{of_field, registrations_of, is_place}

-- two tests that agree find the same
pub lookup_alike : {K X : Type 0} (p q : K → Bool) → ((k : K) → p k ≡ q k) → (es : List (K × X)) → lookup p es ≡ lookup q es
lookup_alike p q same [] = refl
lookup_alike p q same (e ∷ es) = ap (λ b. cond b (Some e.1) (lookup p es)) (same e.0) ∙ ap (λ r. cond (q e.0) (Some e.1) r) (lookup_alike p q same es)

option_map-cond : {X Y : Type 0} (g : X → Y) (b : Bool) (x y : Option X) → option_map g (cond b x y) ≡ cond b (option_map g x) (option_map g y)
option_map-cond g true x y = refl
option_map-cond g false x y = refl

-- what is found among entries that are seen in another form
lookup-map : {K L X Y : Type 0} (f : K → L) (g : X → Y) (p : L → Bool) (es : List (K × X))
    → lookup p (map (λ e. (f e.0, g e.1)) es) ≡ option_map g (lookup (λ k. p (f k)) es)
lookup-map f g p [] = refl
lookup-map f g p (e ∷ es) = ap (λ r. cond (p (f e.0)) (Some (g e.1)) r) (lookup-map f g p es) ∙ sym (option_map-cond g (p (f e.0)) (Some e.1) (lookup (λ k. p (f k)) es))

abbrev Named : Type 0
Named = BTreeMap (Vec ℕ Global) (Vec Registration Global)

abbrev pub Fields : Type 0
Fields = List (List ℕ × List Registration)

-- a map by name as the list that contracts see
abbrev pub seen : Named → Fields
seen m = map (λ e. (e.0.items, e.1.items)) m.entries

-- what the map has at a name
abbrev pub at_name : List ℕ → Named → Option (Vec Registration Global)
at_name name m = get_by (λ k. slice_cmp nat_cmp name k.items) m

abbrev items_of : Option (Vec Registration Global) → List Registration
items_of o = unwrap_or (option_map (λ v. v.items) o) []

of_field-seen : (m : Named) (f : List ℕ) → of_field (seen m) f ≡ items_of (at_name f m)
of_field-seen m f = ap (λ r. unwrap_or r [])
    (lookup-map (λ (k : Vec ℕ Global). k.items) (λ (v : Vec Registration Global). v.items) (bytes_eq f) m.entries
    ∙ ap (option_map (λ (v : Vec Registration Global). v.items)) (lookup_alike (λ k. bytes_eq f k.items) (λ k. is_eq (slice_cmp nat_cmp f k.items)) (λ k. sym (is_eq-slice_cmp f k.items)) m.entries))

pub found_at : (m : Named) (name : List ℕ) (v : Vec Registration Global) → at_name name m ≡ Some v → of_field (seen m) name ≡ v.items
found_at m name v is = of_field-seen m name ∙ ap items_of is

pub is_some_at : (m : Named) (name : List ℕ) (v : Vec Registration Global) → at_name name m ≡ Some v → IsSome (at_name name m)
is_some_at m name v is = subst IsSome (sym is) refl

pub absent_at : (m : Named) (name : List ℕ) → at_name name m ≡ None → of_field (seen m) name ≡ []
absent_at m name is = of_field-seen m name ∙ ap items_of is

apart_in_order : (bs cs ks : List ℕ) → bytes_eq bs cs ≡ false → is_eq (slice_cmp nat_cmp bs ks) ≡ true → is_eq (slice_cmp nat_cmp cs ks) ≡ false
apart_in_order bs cs ks n y =
    is_eq-slice_cmp cs ks ∙ (nat_list_eq_equiv.symm cs ks ∙ sym (nat_list_eq_equiv.congr bs ks cs (sym (is_eq-slice_cmp bs ks) ∙ y)) ∙ n)

others_stay : {K X : Type 0} (eq : K → K → Bool) (test : K → Bool) (old new : List (K × X)) → KeepsOthers eq test old new
    → (other : K → Bool) → IsKeyTest eq other → AreApart test other → lookup other new ≡ lookup other old
unfolding KeepsOthers
others_stay eq test old new h = h

abbrev pub by_items : Vec ℕ Global → Vec ℕ Global → Rattle.std.specs.declared.cmp.Ordering.Ordering
by_items x y = slice_cmp nat_cmp x.items y.items

-- a name's registrations were changed by h, and no others
pub fields_changed : (h : List Registration → List Registration) (m n : Named) (name : List ℕ) (w : Vec Registration Global)
    → w.items ≡ h (of_field (seen m) name)
    → UpdatesBy by_items (λ k. slice_cmp nat_cmp name k.items) m n (Some w)
    → (f : List ℕ) → of_field (seen n) f ≡ (if bytes_eq name f then h (of_field (seen m) f) else of_field (seen m) f)
fields_changed h m n name w is u f = choose (bytes_eq name f) refl
  where
    choose : (b : Bool) → bytes_eq name f ≡ b → of_field (seen n) f ≡ (if b then h (of_field (seen m) f) else of_field (seen m) f)
    choose true e =
        let same : name ≡ f = (bytes_eq-Decides name f).0 e in
        ap (of_field (seen n)) (sym same) ∙ found_at n name w u.1 ∙ is ∙ ap (λ g. h (of_field (seen m) g)) same
    choose false e =
        of_field-seen n f
        ∙ ap items_of (others_stay _ _ m.entries n.entries u.3 (λ k. is_eq (slice_cmp nat_cmp f k.items))
        (λ x y. (eq_by_cmp_equiv nat_list_cmp_total).congr f x.items y.items) (λ k. apart_in_order name f k.items e))
        ∙ sym (of_field-seen m f)

-- the same where the list was seen
pub fields_changed_seen : (h : List Registration → List Registration) (old : Fields) (m n : Named) (name : List ℕ) (w : Vec Registration Global)
    → seen m ≡ old → w.items ≡ h (of_field old name)
    → UpdatesBy by_items (λ k. slice_cmp nat_cmp name k.items) m n (Some w)
    → (f : List ℕ) → of_field (seen n) f ≡ (if bytes_eq name f then h (of_field old f) else of_field old f)
fields_changed_seen h old m n name w view is u f =
    fields_changed h m n name w (is ∙ ap (λ s. h (of_field s name)) (sym view)) u f ∙ ap (λ s. if bytes_eq name f then h (of_field s f) else of_field s f) view

-- a name whose registrations were written back as they were
pub fields_same : (old : Fields) (m n : Named) (name : List ℕ) (w : Vec Registration Global)
    → seen m ≡ old → w.items ≡ of_field old name
    → UpdatesBy by_items (λ k. slice_cmp nat_cmp name k.items) m n (Some w)
    → (f : List ℕ) → of_field (seen n) f ≡ of_field old f
fields_same old m n name w view is u f = fields_changed_seen (λ rs. rs) old m n name w view is u f ∙ if_same (bytes_eq name f) (of_field old f)
  where
    if_same : (b : Bool) (rs : List Registration) → (if b then rs else rs) ≡ rs
    if_same true rs = refl
    if_same false rs = refl

-- where a name has nothing, there is nothing to drop
pub none_to_drop : (h : List Registration → List Registration) → h [] ≡ [] → (old : Fields) (m n : Named) (name : List ℕ) → seen m ≡ old → seen n ≡ old → at_name name m ≡ None
    → (f : List ℕ) → of_field (seen n) f ≡ (if bytes_eq name f then h (of_field old f) else of_field old f)
none_to_drop h empty old m n name view same none f = ap (λ s. of_field s f) same ∙ choose (bytes_eq name f) refl
  where
    choose : (b : Bool) → bytes_eq name f ≡ b → of_field old f ≡ (if b then h (of_field old f) else of_field old f)
    choose true e =
        let there : of_field old f ≡ [] = ap (of_field old) (sym ((bytes_eq-Decides name f).0 e)) ∙ ap (λ s. of_field s name) (sym view) ∙ absent_at m name none in
        there ∙ sym empty ∙ ap h (sym there)
    choose false e = refl

abbrev Nodes : Type 0
Nodes = BTreeMap ℕ Fields

is_eq-nat_cmp : (a b : ℕ) → is_eq (nat_cmp a b) ≡ (b == a)
is_eq-nat_cmp a b = grind (arith, nat_tests)

of_node : (m : Nodes) (n : ℕ) → lookup (λ k. k == n) m.entries ≡ get nat_cmp m n
of_node m n = lookup_alike (λ k. k == n) (λ k. is_eq (nat_cmp n k)) (λ k. sym (is_eq-nat_cmp n k)) m.entries

-- what a node's fields are
abbrev pub fields_at : Nodes → ℕ → Fields
fields_at m n = unwrap_or (get nat_cmp m n) []

pub registrations-fields_at : (m : Nodes) (n : ℕ) (f : List ℕ) → registrations_of m.entries n f ≡ of_field (fields_at m n) f
registrations-fields_at m n f = ap (λ o. of_field (unwrap_or o []) f) (of_node m n)

-- the registrations of a field of a node were changed by h, and no others
pub nodes_changed : (h : List Registration → List Registration) (m n : Nodes) (node : ℕ) (name : List ℕ) (w : Fields)
    → ((f : List ℕ) → of_field w f ≡ (if bytes_eq name f then h (of_field (fields_at m node) f) else of_field (fields_at m node) f))
    → UpdatesBy nat_cmp (nat_cmp node) m n (Some w)
    → (k : ℕ) (f : List ℕ) → registrations_of n.entries k f ≡ (if is_place node name k f then h (registrations_of m.entries k f) else registrations_of m.entries k f)
nodes_changed h m n node name w is u k f = choose (k == node) refl
  where
    read : registrations_of n.entries k f ≡ of_field (fields_at n k) f
    read = registrations-fields_at n k f

    choose : (b : Bool) → (k == node) ≡ b
        → registrations_of n.entries k f ≡ (if b && bytes_eq name f then h (registrations_of m.entries k f) else registrations_of m.entries k f)
    choose true e =
        let same : k ≡ node = eqb-true k node e in
        let now : get nat_cmp n k ≡ Some w = ap (get nat_cmp n) same ∙ u.1 in
        let was : of_field (fields_at m node) f ≡ registrations_of m.entries k f =
        ap (λ q. of_field (fields_at m q) f) (sym same) ∙ sym (registrations-fields_at m k f) in
        read ∙ ap (λ o. of_field (unwrap_or o []) f) now ∙ is f ∙ ap (λ rs. if bytes_eq name f then h rs else rs) was
    choose false e =
        let apart : is_eq (nat_cmp node k) ≡ false = is_eq-nat_cmp node k ∙ e in
        read ∙ ap (λ o. of_field (unwrap_or o []) f) (u.2 k apart) ∙ sym (registrations-fields_at m k f)

-- the registrations of a node were written back as they were
pub nodes_same : (m n : Nodes) (node : ℕ) (w : Fields)
    → ((f : List ℕ) → of_field w f ≡ of_field (fields_at m node) f)
    → UpdatesBy nat_cmp (nat_cmp node) m n (Some w)
    → (k : ℕ) (f : List ℕ) → registrations_of n.entries k f ≡ registrations_of m.entries k f
nodes_same m n node w is u k f =
    nodes_changed (λ rs. rs) m n node f w (λ g. is g ∙ sym (if_same (bytes_eq f g) (of_field (fields_at m node) g))) u k f ∙ if_same (is_place node f k f) (registrations_of m.entries k f)
  where
    if_same : (b : Bool) (rs : List Registration) → (if b then rs else rs) ≡ rs
    if_same true rs = refl
    if_same false rs = refl

pub node_is_there : (m : Nodes) (node : ℕ) (w : Fields) → get nat_cmp m node ≡ Some w → IsSome (get nat_cmp m node)
node_is_there m node w is = subst IsSome (sym is) refl

pub node_had : (m : Nodes) (node : ℕ) (w : Fields) → get nat_cmp m node ≡ Some w → (f : List ℕ) → of_field (fields_at m node) f ≡ of_field w f
node_had m node w is f = ap (λ o. of_field (unwrap_or o []) f) is

-- where nothing was, nothing is left
pub nothing_left : (b : Bool) (h : List Registration → List Registration) (rs : List Registration) → h [] ≡ [] → rs ≡ [] → (if b then h rs else rs) ≡ []
nothing_left true h rs empty none = ap h none ∙ empty
nothing_left false h rs empty none = none
