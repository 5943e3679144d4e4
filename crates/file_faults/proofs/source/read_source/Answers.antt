use Rattle.file_faults.proofs.Sources.{all_read, all_refused}
use Rattle.file_faults.proofs.source.read_source.Goals as goal

pub returns-clause-all : goal.returns-clause-all
returns-clause-all c functions good = all_read _ _ _ (c.one_tree.ensures _ _) (c.never_both.ensures _ _) c.tree_of.ensures.tree c.tree_of.ensures.fault functions good

pub returns-clause-first : goal.returns-clause-first
returns-clause-first c fault is = all_refused _ _ _ (c.one_fault.ensures _ _) (c.never_both.ensures _ _) c.tree_of.ensures.tree c.tree_of.ensures.fault fault is
