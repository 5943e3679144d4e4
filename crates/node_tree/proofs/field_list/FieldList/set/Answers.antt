use Rattle.std.proofs.Common.{set, get_or, sym, ap, ◌∙◌}
use Rattle.field_types.specs.Words.{is_alike}
use Rattle.node_tree.specs.declared.field.Field.{Field}
use Rattle.node_tree.proofs.Firsts.{changed_at, changed_none}
use Rattle.node_tree.proofs.NameGrowth.{set_keeps}
use Rattle.node_tree.proofs.field_list.FieldList.set.Goals as goal

pub returns-in-Some : goal.returns-in-Some
returns-in-Some c =
    ap (λ l. set l c.in-Some.at (let x : Field = record c.index_mut.result.now { value = c.args.value } in x)) c.self.view_is
    ∙ changed_at (λ f. is_alike f.id c.args.name.now) (λ f. record f { value = c.args.value }) c.args.self.now c.in-Some.at c.index_mut.result.now (sym c.place_of.ensures ∙ c.in-Some.is)
    (c.index_mut.ensures.value ∙ ap (λ l. get_or l c.in-Some.at c.index_mut.result.now) c.self.view_is)

pub returns-in_default : goal.returns-in_default
returns-in_default c = changed_none (λ f. is_alike f.id c.args.name.now) (λ f. record f { value = c.args.value }) c.args.self.now (sym c.place_of.ensures ∙ c.in_default.is)

pub invariant_of-self : goal.invariant_of-self
invariant_of-self c = set_keeps c.self.inside.items.items c.self.inside.order.items c.in-Some.at _ c.index_mut.result.now c.self.invariant (ap (λ (f : Field). f.id) c.index_mut.ensures.value)
