use Rattle.std.proofs.Common.{◌≡◌, ◌∙◌, ap, subst, Err}
use Rattle.file_faults.specs.declared.source.SourceAnswer.TheVariants as answer
use Rattle.file_faults.specs.SourceFaults.{IsGoodSource, IsSourceFault}
use Rattle.component_sources.proofs.Scripts.{good_told, fault_here}
use Rattle.component_sources.proofs.component.add_inline.Goals as goal

pub returns-in-Ok-clause-good : goal.returns-in-Ok-clause-good
returns-in-Ok-clause-good c =
    good_told c.add_tree.result c.args.script.now c.args.trees.now c.add_tree.new.trees c.in-Ok.tree c.add_tree.ensures.ok
    (subst (λ bs. IsGoodSource bs c.args.script.now.first_line c.in-Ok.tree) (c.as_bytes.ensures.value ∙ c.as_str.ensures.bytes) c.in-Ok.ensures.tree)

pub returns-in-Err-clause-fault : goal.returns-in-Err-clause-fault
returns-in-Err-clause-fault c fault before after e are =
    let same : c.in-Err.answer ≡ answer.Fault fault = cc in
    fault_here before after c.args.script.now c.args.trees.now fault are
    (subst (λ bs. IsSourceFault bs c.args.script.now.first_line fault) (c.as_bytes.ensures.value ∙ c.as_str.ensures.bytes) (c.in-Err.ensures.fault fault (ap (λ a. Err a) same)))
