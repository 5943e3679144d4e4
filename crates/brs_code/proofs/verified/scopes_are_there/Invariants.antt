use Rattle.std.proofs.Common.{◌<◌, All, List, take}
use Rattle.brs_code.specs.declared.scope.ScopeEntry.{ScopeEntry}
use Rattle.brs_code.proofs.verified.scopes_are_there.Given as goal

abbrev pub invariant-loop-scope : goal.invariant-loop-scope
invariant-loop-scope l = All (λ (scope : List ScopeEntry). All (λ (entry : ScopeEntry). entry.function < l.functions) scope) (take l.scope-index l.scopes)
