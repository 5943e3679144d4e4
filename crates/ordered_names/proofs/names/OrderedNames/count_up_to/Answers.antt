use Rattle.std.proofs.Common.{rules}
use Rattle.std.proofs.lemmas.List.Sorted.{IsPartitionPoint-from_clause}
use Rattle.std.specs.Cmp.Lexicographic.{slice_cmp}
use Rattle.std.specs.Ordering.{is_le, nat_cmp}
use Rattle.ordered_names.proofs.Search.{names_behind, parted}
use Rattle.ordered_names.proofs.names.OrderedNames.count_up_to.Goals as goal

pub returns : goal.returns
returns g c =
    let point = IsPartitionPoint-from_clause (λ entry. is_le (slice_cmp nat_cmp entry.0 c.args.name.now)) _ _ c.partition_point.ensures.partitioned (parted _ (rw c.deref.ensures.value c.self.invariant) c.args.name.now) (λ a r f called. search rules) in
    rw (← c.self.view_is, ← c.deref.ensures.value) (names_behind _ c.args.name.now _ point)
