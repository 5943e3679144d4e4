-- What the words ask for.
use Rattle.std.specs.Prelude.{ℕ, nat_lt, List, [], ◌∷◌, length, codes, ◌&&◌, Option, None, Some, if◌then◌else◌}
use Rattle.std.specs.Str.{bytes_eq}
use Rattle.channel_run.specs.Decimal.{number_up_to}
use Rattle.channel_run.specs.declared.command.Work.{Work}
use Rattle.channel_run.specs.declared.command.Work.TheVariants as work

-- a channel folder, and what is done with it
pub record Command : Type 0 where
  pub root : List ℕ
  pub work : Work

abbrev pub run_with : List ℕ → Option ℕ → Option Command
run_with root None = None
run_with root (Some bound) = Some (record { root = root; work = work.Run bound })

-- The words `check F` or `run F N`: F isn't empty, and N is a number up to 4,000,000.
abbrev pub command_of : List (List ℕ) → Option Command
command_of (word ∷ root ∷ []) =
    if bytes_eq word (codes "check") && nat_lt 0 (length root) then Some (record { root = root; work = work.Check }) else None
command_of (word ∷ root ∷ bound ∷ []) =
    if bytes_eq word (codes "run") && nat_lt 0 (length root) then run_with root (number_up_to 4000000 bound) else None
command_of words = None

-- the command reads a script
abbrev pub IsRun : Work → Type 0
IsRun work.Check = ⊥
IsRun (work.Run bound) = Unit {0}
