use Rattle.std.proofs.Common.{ap, ◌∙◌}
use Rattle.std.proofs.lemmas.Result.{IfOk-weaker}
use Rattle.code_drafts.specs.declared.draft.Draft.{out-Draft}
use Rattle.code_lowering.proofs.Snoc.{named_drafted, made_as}
use Rattle.code_lowering.proofs.Split.{opens_function}
use Rattle.code_lowering.proofs.file.named.Goals as goal

pub returns-clause-stands : goal.returns-clause-stands
returns-clause-stands c = IfOk-weaker c.lower_function.result _ _ (λ g law. named_drafted c.args.file.now _ c.args.draft.now _ _ _ _ _ _ g (ap out-Draft c.in-Function.is ∙ opens_function _ _ _ _ _ _) (made_as _ _ _ _ _ _ _ _ _ _ g c.as_slice.ensures c.as_slice-in-Function.ensures law)) c.lower_function.ensures.function
