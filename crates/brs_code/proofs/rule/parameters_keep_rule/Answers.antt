use Rattle.std.proofs.Common.{sym, ◌∙◌, refl}
use Rattle.std.proofs.lemmas.List.{take_all}
use Rattle.std.proofs.lemmas.List.Elements.{All-more, All-same}
use Rattle.brs_code.specs.Rule.{ParameterRule}
use Rattle.brs_code.proofs.rule.parameters_keep_rule.Goals as goal

pub loop-x-preserved : goal.loop-x-preserved
loop-x-preserved c =
    All-more (ParameterRule c.args.f.now) c.as_slice-parameters.result.now c.loop-x.x-index _ c.loop-x-test.true c.loop-x.invariant
    (c.parameter_keeps_rule.ensures.0 c.if-not-parameter_keeps_rule.false)

pub returns : goal.returns
returns c =
    (λ _. All-same (ParameterRule c.args.f.now) _ _ (sym (take_all _ _ c.loop-x-test.false ∙ c.as_slice-parameters.ensures)) c.loop-x.invariant, λ _. refl)
