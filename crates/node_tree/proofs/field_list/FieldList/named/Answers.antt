use Rattle.std.proofs.Common.{get_or, sym, ap, ◌∙◌}
use Rattle.field_types.specs.Words.{is_alike}
use Rattle.node_tree.proofs.NamePlaces.{found_by, missed_by}
use Rattle.node_tree.proofs.field_list.FieldList.named.Goals as goal

pub returns-in-Some : goal.returns-in-Some
returns-in-Some c = found_by (λ f. is_alike f.id c.args.name.now) c.args.self.now c.in-Some.at c.index.result.now (sym c.place_of.ensures ∙ c.in-Some.is) (c.index.ensures ∙ ap (λ fs. get_or fs c.in-Some.at c.index.result.now) c.self.view_is)

pub returns-in-None : goal.returns-in-None
returns-in-None c = missed_by (λ f. is_alike f.id c.args.name.now) c.args.self.now (sym c.place_of.ensures ∙ c.in-None.is)
