use Rattle.std.proofs.Common.{sym, subst, refl}
use Rattle.std.proofs.lemmas.List.{take_all}
use Rattle.std.proofs.lemmas.List.Elements.{All-more, All-same}
use Rattle.brs_code.specs.declared.function.Function.{Function}
use Rattle.brs_code.specs.Rule.{FunctionRule}
use Rattle.brs_code.proofs.rule.functions_keep_rule.Goals as goal

pub loop-f-preserved : goal.loop-f-preserved
loop-f-preserved c =
    let P : Function → Type 0 = FunctionRule c.args.anonymous in
    All-more P c.args.functions.now c.loop-f.f-index c.f-item.result c.loop-f-test.true c.loop-f.invariant
    (subst P c.f-item.is (c.function_keeps_rule.ensures.0 c.if-not-function_keeps_rule.false))

pub returns : goal.returns
returns c = (λ _. All-same (FunctionRule c.args.anonymous) _ _ (sym (take_all _ _ c.loop-f-test.false)) c.loop-f.invariant, λ _. refl)
