-- An actor has a step exactly where it can step.
use Rattle.std.proofs.Common.{◌≡◌, ℕ, zero, suc, Bool, true, false, List, [], ◌∷◌, Option, Some, None, refl}
use Rattle.std.specs.Prelude.{not, ◌&&◌, ◌||◌, is_some}
use Rattle.chan_values.specs.declared.end_reason.EndReason.{EndReason}
use Rattle.trace_report.specs.declared.entry.EntryName.{EntryName}
use Rattle.brs_meaning.specs.Running.{Tree, Works, Waits}
use Rattle.brs_meaning.specs.Answering.{is_idle, is_at_work}
use Rattle.world_meaning.specs.Channel.{Channel}
use Rattle.world_meaning.specs.Core as k
use Rattle.world_meaning.specs.Core.{Entry, Closing, Begun, Agenda, Deliveries, Inits, Called, Actor, Core, Moved, actor_at}
use Rattle.world_meaning.specs.Entries.{end_entry, at_inbox}
use Rattle.world_meaning.specs.Steps.{if_idle, first_waits, step_first, unless, waits, step_other, step_live, step_actor, step_running, step}
use Rattle.world_meaning.specs.CanStep.{has_job, has_entry, is_none, first_can, can_by_number, actor_can, can_step}

end_can : (name : EntryName) (o : Option Closing) (c : Core) → is_some (end_entry name o c) ≡ is_some o
end_can name None c = refl
end_can name (Some closing) c = refl

entry_can : (ch : Channel) (o : Option Begun) (inbox : List Entry) (c : Core) → is_some (at_inbox ch o inbox c) ≡ has_entry o inbox
entry_can ch (Some b) inbox c = end_can b.name b.closing c
entry_can ch None [] c = refl
entry_can ch None (e ∷ rest) c = refl

off : (idle e : Bool) → false ≡ (idle && (false && e))
off true e = refl
off false e = refl

idle_can : (ch : Channel) (idle : Bool) (c : Core) → is_some (if_idle idle (at_inbox ch c.begun c.inbox c)) ≡ (idle && (true && has_entry c.begun c.inbox))
idle_can ch true c = entry_can ch c.begun c.inbox c
idle_can ch false c = refl

waits_can : (ch : Channel) (idle : Bool) (agendas : List Agenda) (c : Core) → is_some (first_waits ch idle agendas c) ≡ (has_job agendas || (idle && (is_none agendas && has_entry c.begun c.inbox)))
waits_can ch idle [] c = idle_can ch idle c
waits_can ch idle (Deliveries true message left next ∷ later) c = off idle (has_entry c.begun c.inbox)
waits_can ch idle (Deliveries false message [] next ∷ later) c = off idle (has_entry c.begun c.inbox)
waits_can ch idle (Deliveries false message (r ∷ rest) next ∷ later) c = refl
waits_can ch idle (Inits true left reply ∷ later) c = off idle (has_entry c.begun c.inbox)
waits_can ch idle (Inits false [] reply ∷ later) c = off idle (has_entry c.begun c.inbox)
waits_can ch idle (Inits false (i ∷ rest) reply ∷ later) c = refl
waits_can ch idle (Called ∷ later) c = off idle (has_entry c.begun c.inbox)
waits_can ch idle (k.Visits key press (Some n) left ∷ later) c = off idle (has_entry c.begun c.inbox)
waits_can ch idle (k.Visits key press None [] ∷ later) c = off idle (has_entry c.begun c.inbox)
waits_can ch idle (k.Visits key press None (n ∷ rest) ∷ later) c = refl

first_has : (ch : Channel) (x : Actor) (tree : Tree) (c : Core) → is_some (step_first ch x tree c) ≡ first_can tree c
first_has ch x (Works call spot tasks below) c = refl
first_has ch x (Waits below) c = waits_can ch (is_idle (Waits below)) c.agendas c

unless_can : (b : Bool) (m : Moved) → is_some (unless b m) ≡ not b
unless_can true m = refl
unless_can false m = refl

other_has : (ch : Channel) (a : ℕ) (x : Actor) (tree : Tree) (c : Core) → is_some (step_other ch a x tree c) ≡ (is_at_work tree && not (waits ch a x c))
other_has ch a x (Works call spot tasks below) c = unless_can (waits ch a x c) _
other_has ch a x (Waits below) c = refl

live_has : (b : Bool) (ch : Channel) (a : ℕ) (x : Actor) (c : Core) → is_some (step_live b ch a x c) ≡ (b && can_by_number ch a x c)
live_has false ch a x c = refl
live_has true ch zero x c = first_has ch x x.tree c
live_has true ch (suc b) x c = other_has ch (suc b) x x.tree c

actor_has : (ch : Channel) (a : ℕ) (o : Option Actor) (c : Core) → is_some (step_actor ch a o c) ≡ actor_can ch a o c
actor_has ch a None c = refl
actor_has ch a (Some x) c = live_has x.live ch a x c

pub step_where_it_can : (ch : Channel) (a : ℕ) (c : Core) → is_some (step ch a c) ≡ can_step ch a c
step_where_it_can ch a c = running c.ending
  where
    running : (o : Option EndReason) → is_some (step_running o ch a c) ≡ (not (is_some o) && actor_can ch a (actor_at c a) c)
    running (Some reason) = refl
    running None = actor_has ch a (actor_at c a) c
