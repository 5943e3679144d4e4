use Rattle.std.proofs.Common.{◌≡◌, ◌∙◌, Some, ap, sym, subst}
use Rattle.chan_values.specs.Folded.{folded}
use Rattle.folder_rules.specs.Answers.{Refuses}
use Rattle.folder_rules.specs.Faults.{fault_on}
use Rattle.folder_rules.specs.KindFaults.{cycle_fault}
use Rattle.folder_rules.specs.Names.{number_in}
use Rattle.folder_rules.proofs.Found.{err_refuses}
use Rattle.component_cycles.specs.Graph.{LeadsBack}
use Rattle.component_cycles.specs.Judged.{Judged}
use Rattle.component_cycles.proofs.Judges.{not_named, inside_cycle, outside_cycles}
use Rattle.component_cycles.proofs.cycles.check_component.Goals as goal

pub returns-in_default : goal.returns-in_default
returns-in_default c =
    let name = c.as_str-2.ensures.bytes ∙ c.in_ok-name.ensures ∙ ap folded (c.as_bytes.ensures.value ∙ c.as_str.ensures.bytes) in
    not_named c.args.names.now c.args.graph.now c.args.component.now (sym (c.get.ensures ∙ ap (number_in c.args.names.now) name) ∙ c.in_default.is)

pub returns-then-branch : goal.returns-then-branch
returns-then-branch c =
    let component = c.args.component.now in
    let own = c.in_ok-name.ensures ∙ ap folded (c.as_bytes.ensures.value ∙ c.as_str.ensures.bytes) in
    let at = sym (c.get.ensures ∙ ap (number_in c.args.names.now) (c.as_str-2.ensures.bytes ∙ own)) ∙ c.in-Some.is in
    err_refuses (Unit {0}) (Judged (LeadsBack c.args.names.now c.args.graph.now component) (cycle_fault component)) (cycle_fault component)
    (inside_cycle c.args.names.now c.args.graph.now component c.in-Some.place at c.in_ok-is_in_cycle.field-0 c.in_ok-is_in_cycle.ensures c.if-branch.true)
    c.refusal.result (subst (λ n. Refuses (fault_on 11 component.path component.file.line n) c.refusal.result) own c.refusal.ensures)

pub returns : goal.returns
returns c =
    let name = c.as_str-2.ensures.bytes ∙ c.in_ok-name.ensures ∙ ap folded (c.as_bytes.ensures.value ∙ c.as_str.ensures.bytes) in
    outside_cycles c.args.names.now c.args.graph.now c.args.component.now c.in-Some.place (sym (c.get.ensures ∙ ap (number_in c.args.names.now) name) ∙ c.in-Some.is) c.in_ok-is_in_cycle.field-0 c.in_ok-is_in_cycle.ensures c.if-branch.false
