use Rattle.std.proofs.Common.{◌<◌, sym, subst, refl, ◌∙◌, arith}
use Rattle.std.proofs.lemmas.List.{take_all}
use Rattle.std.proofs.lemmas.List.Elements.{All-more, All-same}
use Rattle.brs_code.specs.declared.scope.ScopeEntry.{ScopeEntry}
use Rattle.brs_code.proofs.verified.entries_are_there.Goals as goal

pub loop-entry-preserved : goal.loop-entry-preserved
loop-entry-preserved c =
    let P : ScopeEntry → Type 0 = λ entry. entry.function < c.args.functions in
    let below : c.entry-item.result.function < c.args.functions = omega arith in
    All-more P c.as_slice-entry-items.result.now c.loop-entry.entry-index c.entry-item.result c.loop-entry-test.true c.loop-entry.invariant (subst P c.entry-item.is below)

pub returns : goal.returns
returns c = (λ _. All-same (λ (entry : ScopeEntry). entry.function < c.args.functions) _ _ (sym (take_all _ _ c.loop-entry-test.false ∙ c.as_slice-entry-items.ensures)) c.loop-entry.invariant, λ _. refl)
