-- Values that leave their actor.
use Rattle.std.specs.Prelude.{List, [], ◌∷◌, Option, Some, None}
use Rattle.chan_values.specs.Tree.{Tree}
use Rattle.copy_meaning.specs.Answers.{Answer, Copy, unfolded}
use Rattle.heap_meaning.specs.Values.{StoreValue}
use Rattle.heap_meaning.specs.Store.{Store}

abbrev pub copy_of : Answer → Option Tree
copy_of (Copy t) = Some t
copy_of _ = None

-- the portable value, or None where the value is too deep or too large
abbrev pub leaving : Store → StoreValue → Option Tree
leaving store v = copy_of (unfolded store v)

abbrev pub joined : Option Tree → Option (List Tree) → Option (List Tree)
joined (Some t) (Some ts) = Some (t ∷ ts)
joined _ _ = None

abbrev pub all_leaving : Store → List StoreValue → Option (List Tree)
all_leaving store [] = Some []
all_leaving store (v ∷ vs) = joined (leaving store v) (all_leaving store vs)
