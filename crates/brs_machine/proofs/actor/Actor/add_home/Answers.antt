use Rattle.std.proofs.Common.{subst}
use Rattle.chan_values.specs.Tree.{pairs_of}
use Rattle.actor_meaning.specs.View.{Actor}
use Rattle.brs_machine.specs.Actors.{AddsHome}
use Rattle.brs_machine.proofs.Homes.{added_as}
use Rattle.brs_machine.proofs.actor.Actor.add_home.Goals as goal

pub returns-clause-added : goal.returns-clause-added
returns-clause-added c =
    let inside = c.self.inside in
    let before : Actor = record { number = inside.number; homes = inside.homes.items; phase = inside.phase; frames = inside.frames } in
    let homes = c.push_home.new.homes.items in
    subst (λ a. AddsHome c.args.heap.now a c.first_m.new.heap (record before { homes = homes }) (pairs_of c.args.first.now)) c.self.view_is
    (added_as c.args.heap.now c.first_m.new.heap before homes c.in_ok-m.m (pairs_of c.args.first.now) c.in_ok-m.ensures.lays c.in_ok-push_home.ensures.ok)
