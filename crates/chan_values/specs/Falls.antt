-- Each list inside a list is less deep.
use Rattle.std.specs.Prelude.{◌≤◌, List, [], ◌∷◌, map, max}
use Rattle.std.proofs.Common.{arith}
use denote.Param.Weighed.{most}
use Rattle.chan_values.specs.declared.portable.Portable.{Portable}
use Rattle.chan_values.specs.declared.portable.Portable.TheVariants as p
use Rattle.chan_values.specs.declared.portable.Pair.{Pair}
use Rattle.chan_values.specs.declared.portable.ItemList.TheDeep.{deep-Portable, deep-Pair}
use Rattle.chan_values.specs.Tree.{trees, deepest, depth, values_of}
use Rattle.chan_values.specs.View.{tree_of, tree_pair_of}

one_falls : (x : Portable) → deep-Portable x ≤ depth (tree_of x)
one_falls p.Nothing = omega arith
one_falls (p.Truth b) = omega arith
one_falls (p.Small n) = omega arith
one_falls (p.Big n) = omega arith
one_falls (p.Words t) = omega arith
one_falls (p.Items ts) = omega arith
one_falls (p.Pairs ps) = omega arith
one_falls (p.Node n) = omega arith
one_falls (p.Port n) = omega arith

items_most : (xs : List Portable) → most deep-Portable xs ≤ deepest (trees (map tree_of xs))
items_most [] = omega arith
items_most (x ∷ xs) = omega (arith, items_most xs, one_falls x)

pairs_most : (xs : List Pair) → most deep-Pair xs ≤ deepest (trees (values_of (map tree_pair_of xs)))
pairs_most [] = omega arith
pairs_most (x ∷ xs) = omega (arith, pairs_most xs, one_falls x.value)

pub items_fall : (xs : List Portable) → max (most deep-Portable xs) 0 ≤ deepest (trees (map tree_of xs))
items_fall xs = omega (arith, items_most xs)

pub pairs_fall : (xs : List Pair) → max (most deep-Pair xs) 0 ≤ deepest (trees (values_of (map tree_pair_of xs)))
pairs_fall xs = omega (arith, pairs_most xs)
