-- Who can step.
use Rattle.std.specs.Prelude.{ℕ, zero, suc, Bool, true, false, ◌&&◌, ◌||◌, not, List, [], ◌∷◌, Option, Some, None, is_some}
use Rattle.brs_meaning.specs.Running.{Tree}
use Rattle.brs_meaning.specs.Answering.{is_idle, is_at_work}
use Rattle.world_meaning.specs.Channel.{Channel}
use Rattle.world_meaning.specs.Core as k
use Rattle.world_meaning.specs.Core.{Entry, Begun, Agenda, Deliveries, Inits, Actor, Core, actor_at}
use Rattle.world_meaning.specs.Steps.{waits}

-- the place of the innermost access or entry has a job that can begin
abbrev pub has_job : List Agenda → Bool
has_job (Deliveries false message (r ∷ rest) next ∷ later) = true
has_job (Inits false (i ∷ rest) reply ∷ later) = true
has_job (k.Visits key press None (n ∷ rest) ∷ later) = true
has_job agendas = false

-- an entry that has begun can end, or one that waits can begin
abbrev pub has_entry : Option Begun → List Entry → Bool
has_entry (Some b) inbox = is_some b.closing
has_entry None [] = false
has_entry None (e ∷ rest) = true

abbrev pub is_none : List Agenda → Bool
is_none [] = true
is_none (agenda ∷ later) = false

-- a redex of its calls or a job, or, where it is idle with nothing to do, an entry
abbrev pub first_can : Tree → Core → Bool
first_can tree c = is_at_work tree || (has_job c.agendas || (is_idle tree && (is_none c.agendas && has_entry c.begun c.inbox)))

-- a redex that isn't a wait on an empty port
abbrev pub other_can : Channel → ℕ → Actor → Core → Bool
other_can ch a x c = is_at_work x.tree && not (waits ch a x c)

abbrev pub can_by_number : Channel → ℕ → Actor → Core → Bool
can_by_number ch zero x c = first_can x.tree c
can_by_number ch (suc b) x c = other_can ch (suc b) x c

abbrev pub actor_can : Channel → ℕ → Option Actor → Core → Bool
actor_can ch a None c = false
actor_can ch a (Some x) c = x.live && can_by_number ch a x c

-- the run hasn't ended, and the actor is started, hasn't ended and has something to do
abbrev pub can_step : Channel → ℕ → Core → Bool
can_step ch a c = not (is_some c.ending) && actor_can ch a (actor_at c a) c
