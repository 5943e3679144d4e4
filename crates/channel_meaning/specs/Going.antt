-- How a run goes on: nothing that was recorded is taken back.
use Rattle.std.specs.Prelude.{◌≡◌, ℕ, List, ◌++◌}
use Rattle.trace_report.specs.declared.entry.EntryName.{EntryName}
use Rattle.channel_meaning.specs.History.{Line, History}

-- the trace and the arrivals after something begin with those before it
pub record GoesOn (before after : History) : Type 0 where
  pub lines : List Line
  pub trace : after.trace ≡ before.trace ++ lines
  pub names : List EntryName
  pub arrivals : after.arrivals ≡ before.arrivals ++ names

-- a text begins with another
pub record BeginsWith (text front : List ℕ) : Type 0 where
  pub rest : List ℕ
  pub is : text ≡ front ++ rest
