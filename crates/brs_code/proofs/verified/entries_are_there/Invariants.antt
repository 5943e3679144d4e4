use Rattle.std.proofs.Common.{◌<◌, All, take}
use Rattle.brs_code.specs.declared.scope.ScopeEntry.{ScopeEntry}
use Rattle.brs_code.proofs.verified.entries_are_there.Given as goal

abbrev pub invariant-loop-entry : goal.invariant-loop-entry
invariant-loop-entry l = All (λ (entry : ScopeEntry). entry.function < l.functions) (take l.entry-index l.entry-items)
