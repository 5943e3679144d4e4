use Rattle.component_sources.proofs.Components.{all_checked, all_refused}
use Rattle.component_sources.proofs.component.read_component_file.Goals as goal

pub returns-clause-all : goal.returns-clause-all
returns-clause-all c checked good = all_checked _ _ (c.one_component.ensures _) (c.never_both_of_components.ensures _) c.component_of.ensures.file c.component_of.ensures.fault checked good

pub returns-clause-first : goal.returns-clause-first
returns-clause-first c fault is = all_refused _ _ (c.one_component_fault.ensures _) (c.never_both_of_components.ensures _) c.component_of.ensures.file c.component_of.ensures.fault fault is
