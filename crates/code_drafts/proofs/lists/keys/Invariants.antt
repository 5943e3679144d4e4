use Rattle.std.proofs.Common.{◌≡◌, map, take}
use Rattle.brs_forms.specs.Words.{key_of}
use Rattle.brs_grammar.specs.View.{Entry, pair_of}
use Rattle.code_drafts.proofs.lists.keys.Given as goal

abbrev pub invariant-loop-x : goal.invariant-loop-x
invariant-loop-x l = l.keys ≡ map key_of (map (λ (x : Entry). x.key) (map pair_of (take l.x-index l.xs)))
