-- How long a text may grow.
use Rattle.std.specs.Prelude.{ℕ}

-- in characters
abbrev pub longest_text : ℕ
longest_text = 1_048_576
