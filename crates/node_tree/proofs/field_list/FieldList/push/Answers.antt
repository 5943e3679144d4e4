use Rattle.std.proofs.Common.{rules, ◌≡◌, ◌++◌, ◌∷◌, [], insert, length, ap, ◌∙◌, subst, subst₂}
use Rattle.chan_values.specs.Folded.{folded}
use Rattle.node_tree.specs.NameOrder.{names_of, IsNamedAt, IsNameGap}
use Rattle.node_tree.proofs.NameGrowth.{pushed_again, pushed_new}
use Rattle.node_tree.proofs.field_list.FieldList.push.Goals as goal

pub invariant_of-self-in-Ok : goal.invariant_of-self-in-Ok
invariant_of-self-in-Ok c =
    let here : IsNamedAt (names_of c.self.inside.items.items) c.self.inside.order.items (folded c.as_bytes.result.now) c.in-Ok.field-0 = subst₂ (λ fs os. IsNamedAt (names_of fs) os (folded c.as_bytes.result.now) c.in-Ok.field-0) c.as_slice.ensures.value c.as_slice-2.ensures.value c.in-Ok.ensures.found in
    let more : c.push.new.self.items ≡ c.self.inside.items.items ++ c.args.field ∷ [] = search rules in
    pushed_again c.self.inside.items.items c.push.new.self.items c.self.inside.order.items c.args.field c.in-Ok.field-0 c.self.invariant
    (subst (λ name. IsNamedAt (names_of c.self.inside.items.items) c.self.inside.order.items (folded name) c.in-Ok.field-0) (c.as_bytes.ensures.value ∙ c.as_str.ensures.bytes) here)
    more

pub invariant_of-self-in-Ok-insert : goal.invariant_of-self-in-Ok-insert
invariant_of-self-in-Ok-insert c =
    let gap : IsNameGap (names_of c.self.inside.items.items) c.self.inside.order.items (folded c.as_bytes.result.now) c.in-Err.place = subst₂ (λ fs os. IsNameGap (names_of fs) os (folded c.as_bytes.result.now) c.in-Err.place) c.as_slice.ensures.value c.as_slice-2.ensures.value c.in-Err.ensures.gap in
    let more : c.push.new.self.items ≡ c.self.inside.items.items ++ c.args.field ∷ [] = search rules in
    let place : c.len-at.result ≡ length c.self.inside.items.items = search rules in
    pushed_new c.self.inside.items.items c.push.new.self.items c.self.inside.order.items c.insert.new.self.items c.args.field c.in-Err.place c.self.invariant
    (subst (λ name. IsNameGap (names_of c.self.inside.items.items) c.self.inside.order.items (folded name) c.in-Err.place) (c.as_bytes.ensures.value ∙ c.as_str.ensures.bytes) gap)
    more
    (c.in-Ok-insert.ensures.items ∙ ap (insert c.self.inside.order.items c.in-Err.place) place)
