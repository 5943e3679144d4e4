use Rattle.std.proofs.Common.{◌≡◌, ◌+◌, ◌<◌, ◌≤◌, [], ◌∷◌, ◌++◌, length, sym, subst, ap, ◌∙◌, arith, length-append}
use Rattle.std.proofs.lemmas.Grind.{common_steps}
use Rattle.channel_run.proofs.Lines.{Leads, leads_none, leads_more, ends_bad, ends_whole, lines_shorter}
use Rattle.channel_run.proofs.script.read_lines.Goals as goal

pub loop-rest-init : goal.loop-rest-init
loop-rest-init c = record {
  leads = leads_none c.new-events.result c.args.bytes.now c.new-events.ensures;
  counted = omega (arith, ap length c.new-events.ensures);
}

pub returns-in-None-clause-script : goal.returns-in-None-clause-script
returns-in-None-clause-script c =
    let some : 0 < length c.loop-rest.rest.now = grind (arith, common_steps) in
    ends_bad c.loop-rest.events c.loop-rest.rest.now c.args.bytes.now _ _ c.loop-rest.invariant.leads some c.split_line.ensures.line c.split_line.ensures.lines c.in-None.ensures.found

pub returns-in-None-clause-counted : goal.returns-in-None-clause-counted
returns-in-None-clause-counted c =
    let some : 0 < length c.loop-rest.rest.now = grind (arith, common_steps) in
    λ _. omega (arith, c.loop-rest.invariant.counted)

pub loop-rest-preserved : goal.loop-rest-preserved
loop-rest-preserved c =
    let some : 0 < length c.loop-rest.rest.now = grind (arith, common_steps) in
    let pushed : c.push.new.self ≡ c.loop-rest.events ++ c.in-Some.event ∷ [] = grind (arith, common_steps) in
    let shorter = lines_shorter c.loop-rest.rest.now some in
    record {
      leads = subst (λ es. Leads es c.split_line.result.1.now c.args.bytes.now) (sym pushed)
          (leads_more c.loop-rest.events c.loop-rest.rest.now c.args.bytes.now _ _ c.in-Some.event c.loop-rest.invariant.leads some c.split_line.ensures.line c.split_line.ensures.lines c.in-Some.ensures.says c.in-Some.ensures.found);
      counted = omega (arith, c.loop-rest.invariant.counted, ap length pushed, length-append c.loop-rest.events (c.in-Some.event ∷ []), shorter, ap length c.split_line.ensures.lines);
    }

pub returns-clause-script : goal.returns-clause-script
returns-clause-script c =
    let none : length c.loop-rest.rest.now ≡ 0 = grind (arith, common_steps) in
    ends_whole c.loop-rest.events c.loop-rest.rest.now c.args.bytes.now c.loop-rest.invariant.leads none
