use Rattle.component_sources.proofs.Components.{one_component}
use Rattle.component_sources.proofs.laws.one_component.Goals as goal

pub returns : goal.returns
returns c = one_component c.one_tree.ensures c.one_file.ensures
