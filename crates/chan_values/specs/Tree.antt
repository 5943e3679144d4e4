-- Portable values as pure trees.
use Rattle.std.specs.Prelude.{ℕ, ℤ, ◌+◌, Bool, List, [], ◌∷◌, map, max}

-- a value without items
pub data Plain : Type 0 where
  Invalid : Plain
  Boolean : (b : Bool) → Plain
  Integer : (n : ℤ) → Plain
  LongInteger : (n : ℤ) → Plain
  Words : (bytes : List ℕ) → Plain
  NodeNumber : (n : ℕ) → Plain
  PortNumber : (n : ℕ) → Plain

-- an array, or an associative array with these keys
pub data Kind : Type 0 where
  Array : Kind
  Keyed : (keys : List (List ℕ)) → Kind

-- a plain value, or an array or associative array with its items in order
mutual
  pub data Tree : Type 0 where
    Leaf : Plain → Tree
    Branch : Kind → Trees → Tree

  pub data Trees : Type 0 where
    none : Trees
    more : Tree → Trees → Trees

-- a key with its value
pub record TreePair : Type 0 where
  pub key : List ℕ
  pub tree : Tree

abbrev mutual
  -- a plain value has depth 0, an array or associative array one more than its deepest item
  pub depth : Tree → ℕ
  depth (Leaf p) = 0
  depth (Branch k ts) = deepest ts + 1

  pub deepest : Trees → ℕ
  deepest none = 0
  deepest (more t ts) = max (depth t) (deepest ts)

abbrev mutual
  -- every value counts as one part
  pub parts : Tree → ℕ
  parts (Leaf p) = 1
  parts (Branch k ts) = all_parts ts + 1

  pub all_parts : Trees → ℕ
  all_parts none = 0
  all_parts (more t ts) = parts t + all_parts ts

abbrev pub count_of : Trees → ℕ
count_of none = 0
count_of (more t ts) = count_of ts + 1

abbrev pub trees : List Tree → Trees
trees [] = none
trees (t ∷ ts) = more t (trees ts)

abbrev pub keys_of : List TreePair → List (List ℕ)
keys_of ps = map (λ p. p.key) ps

abbrev pub values_of : List TreePair → List Tree
values_of ps = map (λ p. p.tree) ps

-- the array of these items
abbrev pub array_of : List Tree → Tree
array_of ts = Branch Array (trees ts)

-- the associative array of these pairs
abbrev pub pairs_of : List TreePair → Tree
pairs_of ps = Branch (Keyed (keys_of ps)) (trees (values_of ps))
