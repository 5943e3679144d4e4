use Rattle.std.proofs.Common.{◌≡◌, ◌++◌, take}
use Rattle.lowering_parts.proofs.tables.Tables.words.Given as goal

abbrev pub invariant-loop-word : goal.invariant-loop-word
invariant-loop-word l = l.self ≡ record l.fn.self { texts = l.fn.self.texts ++ take l.word-index l.words }
