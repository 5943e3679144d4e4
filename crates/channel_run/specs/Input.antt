-- What of the input was read.
use Rattle.std.specs.Prelude.{ℕ, ◌<◌, List, Option}
use Rattle.std.specs.Io.KnownBytes.{Consumes, IsAtEnd}
use Rattle.channel_run.specs.declared.input.InputRead.{InputRead}
use Rattle.channel_run.specs.declared.input.InputRead.TheVariants.{Whole, LongLine}
use Rattle.channel_run.specs.Script.{unended_length}

-- these bytes were read, and a line that doesn't end in them has byte 16,777,217
pub record ReadsLongLine (old new : Option (List ℕ)) (bytes : List ℕ) : Type 0 where
  pub consumed : Consumes old new bytes
  pub long : 16777216 < unended_length bytes

-- all bytes were read
pub record ReadsAll (old new : Option (List ℕ)) (bytes : List ℕ) : Type 0 where
  pub consumed : Consumes old new bytes
  pub end : IsAtEnd new

abbrev pub Reads : Option (List ℕ) → Option (List ℕ) → InputRead → Type 0
Reads old new (Whole bytes) = ReadsAll old new bytes
Reads old new (LongLine bytes) = ReadsLongLine old new bytes
