-- Sets of names.
use Rattle.std.specs.Prelude.{ℕ, Bool, List}
use Rattle.std.specs.HashSet.{contains_text}
use Rattle.xml_pieces.specs.declared.name_set.NameSet.{NameSet}

-- whether a set has a name
abbrev pub is_in : NameSet → List ℕ → Bool
is_in set name = contains_text set.names name
