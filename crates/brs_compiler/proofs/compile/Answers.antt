use Rattle.std.proofs.Common.{map, ◌∙◌}
use Rattle.std.proofs.lemmas.Result.{IfOk-weaker}
use Rattle.code_relation.specs.Standing.{named_form}
use Rattle.form_operands.proofs.Files.{files_take}
use Rattle.brs_compiler.proofs.Compiled.{stands, drafts_of, all_functions}
use Rattle.brs_compiler.proofs.RuleFiles.{file_part}
use Rattle.brs_compiler.proofs.compile.Goals as goal

pub lowered-requires : goal.lowered-requires
lowered-requires c = all_functions c.args.tree.now.functions c.as_slice.result.now (c.as_slice.ensures ∙ c.in_ok-drafts.ensures)

pub returns-clause-stands : goal.returns-clause-stands
returns-clause-stands c tokens h =
    IfOk-weaker c.lowered.result _ _ (λ code law. stands code c.args.tree.now _ (c.as_slice.ensures ∙ c.in_ok-drafts.ensures) law (files_take tokens c.args.tree.now.functions h)) c.lowered.ensures.stands

pub returns-clause-file_part : goal.returns-clause-file_part
returns-clause-file_part c tokens h =
    IfOk-weaker c.lowered.result _ _ (λ code a. file_part code _ a (map named_form c.args.tree.now.functions) (c.as_slice.ensures ∙ c.in_ok-drafts.ensures ∙ drafts_of c.args.tree.now.functions) (files_take tokens c.args.tree.now.functions h))
    c.lowered.ensures.functions
