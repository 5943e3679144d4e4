-- What attributes say, one after another.
use Rattle.std.proofs.Common.{◌≡◌, ℕ, suc, ◌+◌, ◌<◌, ◌≤◌, List, ◌∷◌, drop, length, get_or, sym, ap, ◌∙◌, add-one}
use Rattle.std.proofs.Math.Seq.{drop-cons}
use Rattle.std.proofs.Math.ListN.{drop_of_length-le}
use Rattle.chan_values.specs.View.{tree_of}
use Rattle.field_types.specs.declared.plans.AttributeValue.{AttributeValue}
use Rattle.node_tree.specs.declared.field.Field.{Field}
use Rattle.node_tree.specs.Fields.{with_value}
use Rattle.node_tree.specs.Making.{with_attributes}

pub attribute_next : (values : List AttributeValue) (i : ℕ) (v : AttributeValue) (fields new all : List Field) → i < length values → v ≡ get_or values i v → new ≡ with_value v.field (tree_of v.value) fields → with_attributes (drop i values) fields ≡ all → with_attributes (drop (i + 1) values) new ≡ all
attribute_next values i v fields new all h e is so_far =
    ap (with_attributes (drop (i + 1) values)) is
    ∙ ap (λ k. with_attributes (drop k values) (with_value v.field (tree_of v.value) fields)) (add-one i)
    ∙ sym (ap (λ l. with_attributes l fields) (drop-cons values i v h ∙ ap (λ w. w ∷ drop (suc i) values) (sym e)))
    ∙ so_far

pub attributes_over : (values : List AttributeValue) (i : ℕ) (fields all : List Field) → length values ≤ i → with_attributes (drop i values) fields ≡ all → fields ≡ all
attributes_over values i fields all h so_far = sym (ap (λ l. with_attributes l fields) (drop_of_length-le values h)) ∙ so_far
