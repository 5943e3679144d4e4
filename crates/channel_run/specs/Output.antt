-- What was written to an output.
use Rattle.std.specs.Prelude.{ℕ, List, take, Option}
use Rattle.std.specs.Io.KnownBytes.{Appends}

-- known bytes grow by a front of these
pub record AppendsPrefix (old new : Option (List ℕ)) (bytes : List ℕ) : Type 0 where
  pub count : ℕ
  pub front : Appends old new (take count bytes)
