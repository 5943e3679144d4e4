use Rattle.component_sources.proofs.Components.{never_both}
use Rattle.component_sources.proofs.laws.never_both_of_components.Goals as goal

pub returns : goal.returns
returns c = never_both c.never_both.ensures c.one_file.ensures c.never_both-2.ensures
