use Rattle.std.proofs.Common.{◌≡◌, rules, sym, ◌∙◌, subst, []}
use Rattle.heap_meaning.specs.declared.plain.Plain.TheVariants.{Invalid}
use Rattle.heap_meaning.specs.Values.{Direct}
use Rattle.object_operations.specs.Applies.{AppliesToMap}
use Rattle.object_operations.specs.declared.applied.Applied.TheVariants as a
use Rattle.object_operations.proofs.MapLaws.{map_handed, map_unmoved}
use Rattle.member_accesses.specs.Named.{named_lookup}
use Rattle.member_accesses.proofs.NamedLaws.{looks_up_none, looks_up}
use Rattle.member_accesses.proofs.named.look_up.Goals as goal

pub returns-in-None-clause-answer : goal.returns-in-None-clause-answer
returns-in-None-clause-answer c =
    let k : c.as_bytes.result.now ≡ c.args.name.now = search rules in
    map_handed c.plain.ensures (map_unmoved c.in-None.ensures.unchanged
    (subst (λ b. AppliesToMap c.args.heap.now c.args.heap.now c.args.pairs.now [] (a.Value (Direct Invalid)) (named_lookup b)) k
    (looks_up_none c.args.heap.now c.args.pairs.now c.as_bytes.result.now (sym c.share_key.ensures.same ∙ c.in-None.is))))

pub returns-in-Some-clause-answer : goal.returns-in-Some-clause-answer
returns-in-Some-clause-answer c =
    let k : c.as_bytes.result.now ≡ c.args.name.now = search rules in
    subst (λ b. AppliesToMap c.args.heap.now c.share_key.new.self c.args.pairs.now [] (a.Value c.in-Some.item) (named_lookup b)) k
    (looks_up c.args.heap.now c.share_key.new.self c.args.pairs.now c.in-Some.item c.as_bytes.result.now (sym c.share_key.ensures.same ∙ c.in-Some.is) c.in-Some.ensures.moves)
