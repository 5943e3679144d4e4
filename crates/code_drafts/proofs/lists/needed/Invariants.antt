use Rattle.std.proofs.Common.{◌≡◌, ◌≤◌, map, drop}
use Rattle.brs_grammar.specs.View.{params, parameter_of}
use Rattle.code_relation.specs.Heads.{needed_from}
use Rattle.code_drafts.proofs.lists.needed.Given as goal

abbrev pub invariant-loop-i : goal.invariant-loop-i
invariant-loop-i l = needed_from 0 0 (params (map parameter_of l.xs)) ≡ needed_from l.i l.found (params (map parameter_of (drop l.i l.xs)))
