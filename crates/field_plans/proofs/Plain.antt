-- No opening value of a field and no value of an attribute names a node.
use Rattle.std.proofs.Common.{◌≡◌, ℕ, false, List, [], ◌∷◌, ◌++◌, map, Option, Some, None, refl, sym, ap, ◌∙◌, subst, inl, inr}
use Rattle.std.specs.List.{AllByRecursion, flat_map}
use Rattle.chan_values.specs.Tree.{Tree}
use Rattle.component_files.specs.declared.element.FieldElement.{FieldElement}
use Rattle.field_types.specs.Attribute.{Reads}
use Rattle.field_types.specs.NamedNodes.{nodes_in}
use Rattle.field_types.specs.Opening.{opening_of}
use Rattle.field_types.specs.Plans.{NameNoNode}
use Rattle.field_types.specs.Words.{type_words, type_beside}
use Rattle.field_types.specs.declared.plans.AttributeValue.{AttributeValue}
use Rattle.field_types.specs.declared.plans.FieldPlan.{FieldPlan}
use Rattle.field_types.specs.declared.types.FieldType.{FieldType}
use Rattle.field_types.specs.declared.types.FieldType.TheVariants as t
use Rattle.folder_rules.specs.FieldFaults.{type_of}
use Rattle.folder_rules.specs.Kinds.{Kind, field_named, field_table}
use Rattle.chan_values.specs.Folded.{folded}
use Rattle.xml_pieces.specs.declared.piece.AttributeText.{AttributeText}
use Rattle.field_plans.specs.Values.{value_read}
use Rattle.field_plans.specs.Fields.{OwnField, NameNoNodes, field_of, field_where, first_value, own_field, own_fields, value_or_usual}
use Rattle.field_plans.specs.Attributes.{Given, given, given_by, given_of, given_where}
use Rattle.field_plans.proofs.Read.{is_read}

-- ---- lists

pub all_append : {A : Type 0} (P : A → Type 0) (xs ys : List A) → AllByRecursion P xs → AllByRecursion P ys → AllByRecursion P (xs ++ ys)
all_append P [] ys h k = k
all_append P (x ∷ xs) ys h k = (h.0, all_append P xs ys h.1 k)

all_flat : {A B : Type 0} (P : B → Type 0) (f : A → List B) → ((x : A) → AllByRecursion P (f x)) → (xs : List A) → AllByRecursion P (flat_map f xs)
all_flat P f h [] = tt
all_flat P f h (x ∷ xs) = all_append P (f x) (flat_map f xs) (h x) (all_flat P f h xs)

all_map : {A B : Type 0} (P : B → Type 0) (f : A → B) → ((x : A) → P (f x)) → (xs : List A) → AllByRecursion P (map f xs)
all_map P f h [] = tt
all_map P f h (x ∷ xs) = (h x, all_map P f h xs)

all_shown : {A B : Type 0} (P : B → Type 0) (f : A → B) (xs : List A) → AllByRecursion P (map f xs) → AllByRecursion (λ x. P (f x)) xs
all_shown P f [] h = tt
all_shown P f (x ∷ xs) h = (h.0, all_shown P f xs h.1)

-- ---- values

usual_plain : (k : FieldType) → nodes_in (opening_of k) ≡ []
usual_plain t.Integer = refl
usual_plain t.LongInteger = refl
usual_plain t.Boolean = refl
usual_plain t.String = refl
usual_plain t.Node = refl
usual_plain t.AssocArray = refl
usual_plain t.Array = refl
usual_plain t.StringArray = refl
usual_plain t.IntArray = refl
usual_plain t.BoolArray = refl
usual_plain t.NodeArray = refl

reads_plain : (k : FieldType) (text : List ℕ) (v : Tree) → Reads k text v → nodes_in v ≡ []
reads_plain t.Integer text v r = ap nodes_in r.1
reads_plain t.LongInteger text v r = ap nodes_in r.1
reads_plain t.Boolean text v (inl r) = ap nodes_in r.1
reads_plain t.Boolean text v (inr r) = ap nodes_in r.1
reads_plain t.String text v r = ap nodes_in r
reads_plain t.Node text v r = ap nodes_in r.1
reads_plain t.AssocArray text v r = ap nodes_in r.1
reads_plain t.Array text v r = ap nodes_in r.1
reads_plain t.StringArray text v r = ap nodes_in r.1
reads_plain t.IntArray text v r = ap nodes_in r.1
reads_plain t.BoolArray text v r = ap nodes_in r.1
reads_plain t.NodeArray text v r = ap nodes_in r.1

read_plain : (k : FieldType) (text : List ℕ) (o : Option Tree) → value_read k text ≡ o → nodes_in (value_or_usual k o) ≡ []
read_plain k text None e = usual_plain k
read_plain k text (Some v) e = reads_plain k text v (is_read k text v e)

first_plain : (k : FieldType) (text : Option (List ℕ)) → nodes_in (first_value k text) ≡ []
first_plain k None = usual_plain k
first_plain k (Some text) = read_plain k text (value_read k text) refl

-- ---- fields

abbrev IsPlain : OwnField → Type 0
IsPlain f = nodes_in f.opening ≡ []

where_plain : (e : FieldElement) (o : Option FieldType) → AllByRecursion IsPlain (field_where e o)
where_plain e None = tt
where_plain e (Some k) = (first_plain k e.value, tt)

pub own_plain : (fields : List FieldPlan) (es : List FieldElement) → map field_of fields ≡ own_fields es → NameNoNodes fields
own_plain fields es e = all_shown IsPlain field_of fields (subst (AllByRecursion IsPlain) (sym e) (all_flat IsPlain own_field (λ x. where_plain x (type_beside type_words x.word)) es))

pub told_plain : {A : Type 0} (id : A → List ℕ) (holds : A → FieldType) (text : A → List ℕ) (told : A → OwnField) → ((x : A) → told x ≡ record { id = id x; holds = holds x; always = false; opening = first_value (holds x) (Some (text x)) })
    → (fields : List FieldPlan) (words : List A) → map field_of fields ≡ map told words → NameNoNodes fields
told_plain id holds text told is fields words e =
    all_shown IsPlain field_of fields (subst (AllByRecursion IsPlain) (sym e) (all_map IsPlain told (λ x. ap (λ f. nodes_in f.opening) (is x) ∙ first_plain (holds x) (Some (text x))) words))

-- ---- attributes

abbrev GivesPlain : Given → Type 0
GivesPlain g = nodes_in g.value ≡ []

given_where_plain : (k : FieldType) (a : AttributeText) (o : Option Tree) → value_read k a.value ≡ o → AllByRecursion GivesPlain (given_where a.name o)
given_where_plain k a None e = tt
given_where_plain k a (Some v) e = (reads_plain k a.value v (is_read k a.value v e), tt)

given_plain : (o : Option FieldType) (a : AttributeText) → AllByRecursion GivesPlain (given o a)
given_plain None a = tt
given_plain (Some k) a = given_where_plain k a (value_read k a.value) refl

pub values_plain : (values : List AttributeValue) (kinds : List Kind) (kind : List ℕ) (attributes : List AttributeText) → map given_of values ≡ flat_map (given_by kinds kind) attributes → NameNoNode values
values_plain values kinds kind attributes e =
    all_shown GivesPlain given_of values (subst (AllByRecursion GivesPlain) (sym e) (all_flat GivesPlain (given_by kinds kind) (λ a. given_plain (type_of (field_named (field_table kinds kind) (folded a.name))) a) attributes))
