use Rattle.chan_values.proofs.Lists.{no_pairs_yet}
use Rattle.chan_values.proofs.portable.PairList.new.Goals as goal

pub invariant_of-result : goal.invariant_of-result
invariant_of-result c = no_pairs_yet _ c.new.ensures
