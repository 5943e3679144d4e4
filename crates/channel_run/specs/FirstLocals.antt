-- The numbers of the locals in a map by their names.
use Rattle.std.specs.Prelude.{ℕ, ℤ, pos, List, unwrap_or}
use Rattle.std.specs.Borrow.{Bor}
use Rattle.std.specs.BTreeMap.{BTreeMap, get_by}
use Rattle.std.specs.Ordering.{nat_cmp}
use Rattle.std.specs.Cmp.Lexicographic.{slice_cmp}
use Rattle.channel_run.specs.FirstLines.{Numbers}

-- 0 for a local that isn't there
abbrev pub numbers_in : BTreeMap (Bor (List ℕ)) ℤ → Numbers
numbers_in locals name = unwrap_or (get_by (λ local. slice_cmp nat_cmp name local.now) locals) (pos 0)
