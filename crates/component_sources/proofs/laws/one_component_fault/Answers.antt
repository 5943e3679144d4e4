use Rattle.component_sources.proofs.Components.{one_fault}
use Rattle.component_sources.proofs.laws.one_component_fault.Goals as goal

pub returns : goal.returns
returns c = one_fault c.one_fault.ensures c.never_both.ensures c.one_file.ensures c.one_fault-2.ensures c.never_both-2.ensures
