use Rattle.component_sources.proofs.Components.{component_or_fault}
use Rattle.component_sources.proofs.laws.component_or_fault.Goals as goal

pub returns : goal.returns
returns c = component_or_fault c.tree_or_fault.ensures c.file_or_fault.ensures
