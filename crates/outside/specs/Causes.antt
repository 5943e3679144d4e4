-- When a count of faults rises.
use Rattle.std.specs.Prelude.{◌≡◌, ℕ, ◌+◌, ◌-◌, ◌^◌, ◌<◌, ◌≤◌, min, Result, Ok, Err}
use Rattle.outside.specs.declared.faults.Failed.{Failed as CallFailed}
use Rattle.outside.specs.declared.faults.FilesFault.{FilesFault}
use Rattle.outside.specs.declared.faults.FilesFault.TheVariants.{Failed, NoMemory}

-- the count rose, or it stood at its last value and could not
abbrev pub Rose : ℕ → ℕ → Type 0
Rose before now = min (before + 1) (2 ^ 64 - 1) ≤ now

-- the count rose, and did not fall
abbrev pub Rises : ℕ → ℕ → Type 0
Rises before now = (before ≤ now) × Rose before now

-- a call fails exactly where the count rose in it
abbrev pub CountsFailure : {T : Type 0} → ℕ → ℕ → Result T CallFailed → Type 0
CountsFailure before now (Ok x) = now ≡ before
CountsFailure before now (Err e) = Rises before now

-- the same where memory may be wanting too, which is no fault
abbrev pub CountsFault : {T : Type 0} → ℕ → ℕ → Result T FilesFault → Type 0
CountsFault before now (Ok x) = now ≡ before
CountsFault before now (Err Failed) = Rises before now
CountsFault before now (Err NoMemory) = now ≡ before

-- the count did not rise, and could have
abbrev pub Stayed : ℕ → ℕ → Type 0
Stayed before now = now < min (before + 1) (2 ^ 64 - 1)
