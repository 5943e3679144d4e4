use Rattle.std.proofs.Common.{◌∙◌, [], ◌∷◌, ◌++◌, map, ap, sym, subst, arith}
use Rattle.std.proofs.lemmas.List.{map-append}
use Rattle.chan_values.specs.Tree.{trees, deepest, all_parts, array_of}
use Rattle.chan_values.specs.Portable.{IsBounded, IsPortable}
use Rattle.chan_values.specs.View.{tree_of}
use Rattle.chan_values.proofs.Walk.{deepest_more, parts_more}
use Rattle.chan_values.proofs.Lists.{item_more}
use Rattle.chan_values.proofs.portable.ItemList.push.Goals as goal

pub invariant_of-self : goal.invariant_of-self
invariant_of-self c =
    let before = map tree_of c.self.inside.items in
    let t = tree_of c.args.item in
    let more = ap (map tree_of) c.in-Ok.ensures.ok ∙ map-append tree_of c.self.inside.items (c.args.item ∷ []) in
    let bounds = subst (λ ts. IsBounded (array_of (ts ++ t ∷ []))) (sym c.self.view_is) c.requires in
    let d = ap (λ ts. deepest (trees ts)) more ∙ deepest_more before t in
    let n = ap (λ ts. all_parts (trees ts)) more ∙ parts_more before t in
    let h = c.self.invariant.1.deep in let k = c.self.invariant.1.many in (
      subst (λ ts. IsPortable (array_of ts)) (sym more) (item_more before t c.self.invariant.0 c.measure-one.ensures.portable bounds),
      record { deep = omega arith; many = omega arith },
    )
