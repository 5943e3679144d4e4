-- What a count of parts answers, where so many were left before and are left after.
use Rattle.std.specs.Prelude.{◌≡◌, ℕ, ◌+◌, ◌<◌, Option, Some, None, Result, Ok, Err}
use Rattle.chan_values.specs.Tree.{Tree, Trees, parts, all_parts}
use Rattle.brs_copy.specs.declared.count.Excess.{Excess}
use Rattle.brs_copy.specs.declared.count.Excess.TheVariants.{TooDeep, TooLarge}

-- there is a tree, and its parts were taken from those that were left
pub record Counted (o : Option Tree) (before after : ℕ) : Type 0 where
  pub tree : Tree
  pub is : o ≡ Some tree
  pub taken : after + parts tree ≡ before

-- there are trees, and the parts of all were taken from those that were left
pub record CountedAll (os : Option Trees) (before after : ℕ) : Type 0 where
  pub trees : Trees
  pub are : os ≡ Some trees
  pub taken : after + all_parts trees ≡ before

-- on a value with this tree, None where it is too deep
abbrev pub Counts : Option Tree → ℕ → ℕ → Result (Unit {0}) Excess → Type 0
Counts o before after (Ok done) = Counted o before after
Counts o before after (Err TooDeep) = o ≡ None
Counts o before after (Err TooLarge) = (t : Tree) → o ≡ Some t → before < parts t

-- on items with these trees
abbrev pub CountsAll : Option Trees → ℕ → ℕ → Result (Unit {0}) Excess → Type 0
CountsAll os before after (Ok done) = CountedAll os before after
CountsAll os before after (Err TooDeep) = os ≡ None
CountsAll os before after (Err TooLarge) = (ts : Trees) → os ≡ Some ts → before < all_parts ts
