-- Along steps that lead to no lower number, only a kind that names one of its own number comes back to itself.
use Rattle.std.proofs.Common.{◌≡◌, ◌≢◌, ℕ, ◌<◌, ◌≤◌, List, [], length, arith, slice_index}
use Rattle.std.specs.List.{All}
use Rattle.std.proofs.lemmas.List.Elements.{All-contains}
use Rattle.component_cycles.specs.declared.graph.NamedKinds.{NamedKinds}
use Rattle.component_cycles.specs.Graph.{named_at, Names, Leads, at_once, by_way_of, Ascends}
use Rattle.component_cycles.proofs.Searches.{there}

-- each kind in turn
pub ascends_by_kinds : (graph : List NamedKinds) (numbers : List ℕ) → ((place : ℕ) → place < length graph → All (λ other. slice_index numbers place ≤ slice_index numbers other) (named_at graph place)) → Ascends graph numbers
ascends_by_kinds graph numbers each = λ place other n. All-contains (λ q. slice_index numbers place ≤ slice_index numbers q) (named_at graph place) other (each place (there graph place other n)) n

pub no_numbers : (graph : List NamedKinds) → Ascends graph []
no_numbers graph = λ place other n. omega arith

module _ (graph : List NamedKinds) (numbers : List ℕ) (up : Ascends graph numbers) where
  goes_up : (place other : ℕ) → Leads graph place other → slice_index numbers place ≤ slice_index numbers other
  goes_up place other (at_once n) = up place other n
  goes_up place other (by_way_of {next = m} n more) = let a = up place m n in let b = goes_up m other more in omega arith

  pub does_not_come_back : (place : ℕ) → All (λ other. slice_index numbers other ≢ slice_index numbers place) (named_at graph place) → Leads graph place place → ⊥
  does_not_come_back place differ (at_once n) = let d = All-contains (λ q. slice_index numbers q ≢ slice_index numbers place) (named_at graph place) place differ n in absurd (omega arith)
  does_not_come_back place differ (by_way_of {next = m} n more) =
      let a = up place m n in
      let b = goes_up m place more in
      let d = All-contains (λ q. slice_index numbers q ≢ slice_index numbers place) (named_at graph place) m differ n in
      absurd (omega arith)
