use Rattle.std.proofs.Common.{◌≡◌, ◌++◌, map}
use Rattle.ordered_names.proofs.Drafts.{entry_of}
use Rattle.ordered_names.proofs.draft.NameDraft.into_ordered.Given as goal

abbrev pub invariant-loop-name : goal.invariant-loop-name
invariant-loop-name g l = l.entries.items ++ map entry_of l.name-iterator ≡ map entry_of l.fn.self.values.entries
