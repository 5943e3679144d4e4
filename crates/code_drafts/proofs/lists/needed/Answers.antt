use Rattle.std.proofs.Common.{◌∙◌, ap, sym, arith}
use Rattle.brs_grammar.specs.View.{params, parameter_of}
use Rattle.code_relation.specs.Heads.{needed_from}
use Rattle.code_drafts.proofs.Prints.{needed_none, needed_some}
use Rattle.std.proofs.Common.{map, drop, ◌+◌}
use Rattle.code_drafts.proofs.lists.needed.Goals as goal
use Rattle.code_drafts.proofs.lists.needed.Goals.{in-None, in-Some}

pub loop-i-preserved : goal.loop-i-preserved
loop-i-preserved c =
    elim c.match-x.branch [
      | in-None w ↦ c.loop-i.invariant ∙ needed_none c.args.xs.now c.loop-i.i c.loop-i.found c.index-xs-i.result (omega arith) c.index-xs-i.is w.in-None.is ∙ ap (λ n. needed_from (c.loop-i.i + 1) n (params (map parameter_of (drop (c.loop-i.i + 1) c.args.xs.now)))) (sym w.found-is)
      | in-Some w ↦ c.loop-i.invariant ∙ needed_some c.args.xs.now c.loop-i.i c.loop-i.found c.index-xs-i.result _ (omega arith) c.index-xs-i.is w.in-Some.is ∙ ap (λ n. needed_from (c.loop-i.i + 1) n (params (map parameter_of (drop (c.loop-i.i + 1) c.args.xs.now)))) (sym w.found-is)
    ]
