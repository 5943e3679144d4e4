use Rattle.std.proofs.Common.{rules}
use Rattle.std.proofs.lemmas.Fn.{always_returns_same}
use Rattle.std.specs.Cmp.Lexicographic.{slice_cmp}
use Rattle.std.specs.Ordering.{nat_cmp}
use Rattle.chan_values.specs.Folded.{folded}
use Rattle.ordered_names.proofs.Search.{searched}
use Rattle.ordered_names.proofs.names.OrderedNames.search.Goals as goal

-- the closure compares an entry's name
pub returns : goal.returns
returns g c =
    let facts = c.binary_search_by.ensures in
    let by_name = facts.position (λ entry. slice_cmp nat_cmp entry.0 (folded c.args.name.now)) (always_returns_same _ _ _ (λ a r f called. search rules)) in
    rw (← c.self.view_is, ← c.deref.ensures.value) (searched _ (rw c.deref.ensures.value c.self.invariant) (folded c.args.name.now) _ facts.bound by_name)
