use Rattle.std.proofs.Common.{◌≡◌, length, sym, ap, ◌∙◌, subst, arith}
use Rattle.object_operations.specs.declared.applied.Applied.TheVariants as a
use Rattle.frame_actions.specs.Actions.{dropped}
use Rattle.frame_actions.proofs.Holding.{still_there}
use Rattle.actor_meaning.specs.declared.outcome.Request.TheVariants as s
use Rattle.instruction_effects.specs.declared.effect.Effect.TheVariants as e
use Rattle.member_accesses.specs.declared.reached.Reached.TheVariants as r
use Rattle.member_instructions.specs.Settling.{Settles}
use Rattle.member_instructions.proofs.Settled.{value_settled, want_settled}
use Rattle.member_instructions.proofs.settling.settle.Goals as goal

pub land-requires : goal.land-requires
land-requires c =
    let e : length c.drop_to.new.frames ≡ length c.args.frames.now = ap length c.drop_to.ensures.frames ∙ still_there (dropped c.args.taken c.place_behind-next.result) c.args.frames.now in
    omega (arith, c.requires.there)

pub wait-requires : goal.wait-requires
wait-requires c =
    let e : length c.drop_to-in-Asks.new.frames ≡ length c.args.frames.now = ap length c.drop_to-in-Asks.ensures.frames ∙ still_there (dropped c.args.taken c.place_behind-next.result) c.args.frames.now in
    omega (arith, c.requires.there)

pub returns-in_ok-land-in-Done-Value-clause-settles : goal.returns-in_ok-land-in-Done-Value-clause-settles
returns-in_ok-land-in-Done-Value-clause-settles c =
    let q : c.args.reached ≡ r.Done (a.Value c.in-Done-Value.v) = c.in-Done-Value.is ∙ ap r.Done c.in-Done-Value.field-0-is in
    subst (λ y. Settles c.args.landing c.args.line c.args.taken y e.Went c.args.heap.now c.args.frames.now c.land.new.heap c.land.new.frames) (sym q)
    (value_settled c.args.landing c.args.line c.args.taken c.place_behind-next.result c.in-Done-Value.v c.args.heap.now c.drop_to.new.heap c.land.new.heap c.args.frames.now c.drop_to.new.frames c.land.new.frames c.requires.there c.place_behind-next.ensures c.drop_to.ensures.carries
    c.drop_to.ensures.frames c.in_ok-land-in-Done-Value.ensures.frames c.in_ok-land-in-Done-Value.ensures.takes)

pub returns-in-Asks-clause-settles : goal.returns-in-Asks-clause-settles
returns-in-Asks-clause-settles c =
    subst (λ y. Settles c.args.landing c.args.line c.args.taken y (e.Asks (s.Access c.in-Asks.access)) c.args.heap.now c.args.frames.now c.drop_to-in-Asks.new.heap c.wait.new.frames) (sym c.in-Asks.is)
    (want_settled c.args.landing c.args.line c.args.taken c.place_behind-next.result c.in-Asks.access c.args.heap.now c.drop_to-in-Asks.new.heap c.args.frames.now c.drop_to-in-Asks.new.frames c.wait.new.frames c.requires.there c.place_behind-next.ensures c.drop_to-in-Asks.ensures.carries
    c.drop_to-in-Asks.ensures.frames c.wait.ensures)
