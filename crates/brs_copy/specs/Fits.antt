-- What keeps the bounds of a portable value.
use Rattle.std.specs.Prelude.{◌≡◌, Option, Some}
use Rattle.chan_values.specs.Tree.{Tree, Trees, Array, Branch}
use Rattle.chan_values.specs.Portable.{IsBounded}

-- there is a tree, which keeps the bounds
pub record Fits (o : Option Tree) : Type 0 where
  pub tree : Tree
  pub is : o ≡ Some tree
  pub bounded : IsBounded tree

-- there are trees, which keep the bounds as the items of an array
pub record FitsAll (os : Option Trees) : Type 0 where
  pub trees : Trees
  pub are : os ≡ Some trees
  pub bounded : IsBounded (Branch Array trees)
