-- What a set and an addition of a field make of the nodes.
use Rattle.std.proofs.Common.{◌≡◌, ℕ, ◌-◌, Bool, true, false, List, [], ◌∷◌, ◌++◌, Option, Some, None, set, get_or, refl, sym, ap, ◌∙◌}
use Rattle.std.specs.Prelude.{is_some, if◌then◌else◌}
use Rattle.std.specs.Option.{option_copied}
use Rattle.std.specs.Borrow.{Bor}
use Rattle.chan_values.specs.Folded.{folded}
use Rattle.field_types.specs.Opening.{opening_of}
use Rattle.chan_values.specs.Tree.{Tree}
use Rattle.field_types.specs.declared.types.FieldType.{FieldType}
use Rattle.field_types.specs.Words.{is_alike}
use Rattle.field_types.specs.Conversion.{converted}
use Rattle.node_tree.specs.declared.field.Field.{Field}
use Rattle.node_tree.specs.declared.node.Node.{Node}
use Rattle.node_tree.specs.SameTree.{same_tree}
use Rattle.node_tree.specs.Nodes.{node_at, IsNode, fields_in, with_node, with_fields}
use Rattle.node_tree.specs.Fields.{field_named, with_value, with_fit, fit_of, fields_after_set, after_set, has_field, added_field, after_add}
use Rattle.node_tree.proofs.Places.{with_same, fields_written, node_read}
use Rattle.node_tree.proofs.Firsts.{same_first}
use Rattle.node_tree.proofs.SameTrees.{same_tells}

fields_same : (f : List Field → List Field) (nodes : List Node) (n : ℕ) (x : Node) → node_at nodes n ≡ Some x → f x.fields ≡ x.fields → with_node (with_fields f) nodes n ≡ nodes
fields_same f nodes n x e s = with_same (with_fields f) nodes n x e (ap (λ l. let y : Node = record x { fields = l } in y) s)

-- ---- a set that changes nothing

pub no_field : (nodes : List Node) (n : ℕ) (x : Node) (name : List ℕ) (v : Tree) → node_at nodes n ≡ Some x → field_named name x.fields ≡ None → after_set nodes n name v ≡ nodes
no_field nodes n x name v e none = fields_same (fields_after_set name v) nodes n x e (ap (λ o. with_fit name (fit_of o v) x.fields) none)

pub no_fit : (nodes : List Node) (n : ℕ) (x : Node) (name : List ℕ) (v : Tree) (f : Field) → node_at nodes n ≡ Some x → field_named name x.fields ≡ Some f → converted f.kind v ≡ None → after_set nodes n name v ≡ nodes
no_fit nodes n x name v f e found none = fields_same (fields_after_set name v) nodes n x e (ap (λ o. with_fit name (fit_of o v) x.fields) found ∙ ap (λ q. with_fit name q x.fields) none)

pub same_value : (nodes : List Node) (n : ℕ) (x : Node) (name : List ℕ) (v w : Tree) (f : Field) → node_at nodes n ≡ Some x → field_named name x.fields ≡ Some f → converted f.kind v ≡ Some w → same_tree w f.value ≡ true → after_set nodes n name v ≡ nodes
same_value nodes n x name v w f e found fits same =
    fields_same (fields_after_set name v) nodes n x e
    (ap (λ o. with_fit name (fit_of o v) x.fields) found ∙ ap (λ q. with_fit name q x.fields) fits
    ∙ same_first (λ g. is_alike g.id name) (λ g. record g { value = w }) x.fields f found
    (ap (λ t. let g : Field = record f { value = t } in g) (same_tells w f.value same)))

-- ---- a set that changes the field

-- a node that is read twice is one
read_again : (nodes : List Node) (n : ℕ) (x y : Node) → IsNode nodes n → node_at nodes n ≡ Some y → x ≡ get_or nodes (n - 1) x → y ≡ x
read_again nodes n x y h e r = let again : node_at nodes n ≡ Some x = node_read nodes n x h r in let both : Some y ≡ Some x = sym e ∙ again in cc

pub set_value : (seen nodes : List Node) (n : ℕ) (x y : Node) (name : List ℕ) (v w : Tree) (f : Field) (fields : List Field) → nodes ≡ seen → IsNode seen n → node_at seen n ≡ Some y → x ≡ get_or nodes (n - 1) x → field_named name y.fields ≡ Some f → converted f.kind v ≡ Some w → fields ≡ with_value name w x.fields → set nodes (n - 1) (record x { fields = fields }) ≡ after_set seen n name v
set_value seen nodes n x y name v w f fields same h e r found fits is =
    let read : x ≡ get_or seen (n - 1) x = r ∙ ap (λ l. get_or l (n - 1) x) same in
    let one : y ≡ x = read_again seen n x y h e read in
    ap (λ l. set l (n - 1) (let z : Node = record x { fields = fields } in z)) same
    ∙ fields_written (fields_after_set name v) seen n x fields h read
    (is ∙ sym (ap (λ o. with_fit name (fit_of o v) x.fields) (ap (λ z. field_named name z.fields) (sym one) ∙ found) ∙ ap (λ q. with_fit name q x.fields) fits))

-- ---- an addition

pub has_already : (nodes : List Node) (n : ℕ) (name : List ℕ) (t : FieldType) (always : Bool) → has_field nodes n name ≡ true → after_add nodes n name t always ≡ nodes
has_already nodes n name t always h = ap (λ b. if b then nodes else with_node (with_fields (λ fields. fields ++ added_field name t always ∷ [])) nodes n) h

pub add_new : (seen nodes : List Node) (n : ℕ) (x : Node) (name : List ℕ) (t : FieldType) (always : Bool) (fields : List Field) → nodes ≡ seen → IsNode seen n → x ≡ get_or nodes (n - 1) x → has_field seen n name ≡ false → fields ≡ x.fields ++ added_field name t always ∷ [] → set nodes (n - 1) (record x { fields = fields }) ≡ after_add seen n name t always
add_new seen nodes n x name t always fields same h r none is =
    ap (λ l. set l (n - 1) (let z : Node = record x { fields = fields } in z)) same
    ∙ fields_written (λ l. l ++ added_field name t always ∷ []) seen n x fields h (r ∙ ap (λ l. get_or l (n - 1) x) same) is
    ∙ sym (ap (λ b. if b then seen else with_node (with_fields (λ l. l ++ added_field name t always ∷ [])) seen n) none)

-- the field that is added, by its parts
pub one_field : (name id : List ℕ) (t : FieldType) (always : Bool) (v o : Tree) → id ≡ folded name → v ≡ opening_of t → o ≡ opening_of t → (let f : Field = record { id = id; kind = t; always = always; value = v; opening = o } in f) ≡ added_field name t always
one_field name id t always v o e f g =
    ap (λ i. let x : Field = record { id = i; kind = t; always = always; value = v; opening = o } in x) e
    ∙ ap (λ u. let x : Field = record { id = folded name; kind = t; always = always; value = u; opening = o } in x) f
    ∙ ap (λ u. let x : Field = record { id = folded name; kind = t; always = always; value = opening_of t; opening = u } in x) g

copied_is : {A : Type 0} (o : Option (Bor A)) → is_some (option_copied o) ≡ is_some o
copied_is None = refl
copied_is (Some x) = refl

pub has_none : (nodes : List Node) (n : ℕ) (x : Node) (name : List ℕ) (o : Option (Bor Field)) (b : Bool) → node_at nodes n ≡ Some x → option_copied o ≡ field_named name x.fields → b ≡ is_some o → b ≡ false → has_field nodes n name ≡ false
has_none nodes n x name o b e is test none = ap (λ q. is_some (field_named name (fields_in q))) e ∙ ap is_some (sym is) ∙ copied_is o ∙ sym test ∙ none
