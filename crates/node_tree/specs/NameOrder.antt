-- The places of fields in the order of their names, by which a field is found.
use Rattle.std.specs.Prelude.{◌≡◌, ℕ, ◌<◌, ◌≤◌, List, [], map, length, slice_index_or}
use Rattle.std.specs.Cmp.Lexicographic.{slice_cmp}
use Rattle.std.specs.Ordering.{nat_cmp}
use Rattle.std.specs.declared.cmp.Ordering.{Ordering}
use Rattle.std.specs.declared.cmp.Ordering.TheVariants.{Less}
use Rattle.chan_values.specs.Folded.{folded}
use Rattle.node_tree.specs.declared.field.Field.{Field}

-- the names of fields, folded
abbrev pub names_of : List Field → List (List ℕ)
names_of fields = map (λ f. folded f.id) fields

-- how one name stands to another, byte by byte
abbrev pub name_cmp : List ℕ → List ℕ → Ordering
name_cmp a b = slice_cmp nat_cmp a b

-- the name to which the order leads at a place of its own
abbrev pub name_at : List (List ℕ) → List ℕ → ℕ → List ℕ
name_at names order k = slice_index_or names (slice_index_or order k 0) []

-- the order leads to this name, by a field that is no later than this one
pub record Leads (names : List (List ℕ)) (order : List ℕ) (name : List ℕ) (at : ℕ) : Type 0 where
  pub k : ℕ
  pub within : k < length order
  pub early : slice_index_or order k 0 ≤ at
  pub same : name_at names order k ≡ name

-- the order has places of fields alone, their names ascend, and it leads to the first field of each name
pub record IsNameOrder (names : List (List ℕ)) (order : List ℕ) : Type 0 where
  pub inside : (k : ℕ) → k < length order → slice_index_or order k 0 < length names
  pub ascending : (i j : ℕ) → i < j → j < length order → name_cmp (name_at names order i) (name_at names order j) ≡ Less
  pub leads : (at : ℕ) → at < length names → Leads names order (slice_index_or names at []) at

-- the order leads to this name here
pub record IsNamedAt (names : List (List ℕ)) (order : List ℕ) (name : List ℕ) (k : ℕ) : Type 0 where
  pub within : k < length order
  pub same : name_at names order k ≡ name

-- the name is none of those to which the order leads, and would stand here among them
pub record IsNameGap (names : List (List ℕ)) (order : List ℕ) (name : List ℕ) (k : ℕ) : Type 0 where
  pub within : k ≤ length order
  pub before : (j : ℕ) → j < k → name_cmp (name_at names order j) name ≡ Less
  pub after : (j : ℕ) → k ≤ j → j < length order → name_cmp name (name_at names order j) ≡ Less
