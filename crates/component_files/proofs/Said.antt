-- What a field's tag says, put together.
use Rattle.std.proofs.Common.{◌≡◌, ℕ, Bool, false, List, codes, Some, Option, subst}
use Rattle.xml_pieces.specs.declared.piece.AttributeText.{AttributeText}
use Rattle.xml_pieces.specs.declared.piece.Tag.{Tag}
use Rattle.xml_pieces.specs.Written.{has_name}
use Rattle.component_files.specs.declared.place.Place.{Place}
use Rattle.component_files.specs.Elements.{field, needed, truth, value_of}

pub field_said : (t : Tag) (place : Place) (u : List AttributeText) (id word : List ℕ) (notify value on_change : Option (List ℕ)) (always : Bool) → u ≡ t.attributes → needed u (codes "id") ≡ Some id → needed u (codes "type") ≡ Some word
    → notify ≡ value_of u (codes "alwaysNotify") → truth notify ≡ Some always → has_name u (codes "alias") ≡ false → value ≡ value_of u (codes "value") → on_change ≡ value_of u (codes "onChange")
    → field t place ≡ Some (record { id = id; word = word; value = value; always = always; on_change = on_change; line = place.line; column = place.column })
unfolding field
field_said t place u id word notify value on_change always same a b n c d e f =
    let a_ : needed t.attributes (codes "id") ≡ Some id = subst (λ z. needed z (codes "id") ≡ Some id) same a in
    let b_ : needed t.attributes (codes "type") ≡ Some word = subst (λ z. needed z (codes "type") ≡ Some word) same b in
    let n_ : notify ≡ value_of t.attributes (codes "alwaysNotify") = subst (λ z. notify ≡ value_of z (codes "alwaysNotify")) same n in
    let c_ : truth (value_of t.attributes (codes "alwaysNotify")) ≡ Some always = subst (λ z. truth z ≡ Some always) n_ c in
    let d_ : has_name t.attributes (codes "alias") ≡ false = subst (λ z. has_name z (codes "alias") ≡ false) same d in
    let e_ : value ≡ value_of t.attributes (codes "value") = subst (λ z. value ≡ value_of z (codes "value")) same e in
    let f_ : on_change ≡ value_of t.attributes (codes "onChange") = subst (λ z. on_change ≡ value_of z (codes "onChange")) same f in
    rw e_ (rw f_ (simp (a_, b_, c_, d_)))
