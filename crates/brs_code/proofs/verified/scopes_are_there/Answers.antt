use Rattle.std.proofs.Common.{◌<◌, All, List, sym, subst, refl}
use Rattle.std.proofs.lemmas.List.{take_all}
use Rattle.std.proofs.lemmas.List.Elements.{All-more, All-same}
use Rattle.brs_code.specs.declared.scope.ScopeEntry.{ScopeEntry}
use Rattle.brs_code.proofs.verified.scopes_are_there.Goals as goal

pub loop-scope-preserved : goal.loop-scope-preserved
loop-scope-preserved c =
    let P : List ScopeEntry → Type 0 = All (λ (entry : ScopeEntry). entry.function < c.args.functions) in
    All-more P c.args.scopes.now c.loop-scope.scope-index c.scope-item.result c.loop-scope-test.true c.loop-scope.invariant
    (subst P c.scope-item.is (c.entries_are_there.ensures.0 c.if-not-entries_are_there.false))

pub returns : goal.returns
returns c = (λ _. All-same (All (λ (entry : ScopeEntry). entry.function < c.args.functions)) _ _ (sym (take_all _ _ c.loop-scope-test.false)) c.loop-scope.invariant, λ _. refl)
