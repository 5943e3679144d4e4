use Rattle.std.proofs.Common.{◌++◌, map, ap, ◌∙◌}
use Rattle.std.specs.Prelude.{reverse}
use Rattle.std.proofs.lemmas.Iterator.Adapters.{YieldsList-from_rev_slice}
use Rattle.std.proofs.lemmas.Iterator.Consumers.{YieldsList-end}
use Rattle.node_tree.specs.Pending.{to_make}
use Rattle.node_tree.proofs.Works.{element_work, works_of, twice_reversed}
use Rattle.node_tree.proofs.make.push_elements.Goals as goal

pub returns : goal.returns
returns c =
    let all = YieldsList-end (YieldsList-from_rev_slice c.args.elements.now cc) c.loop-element.yielded _ c.loop-element.yielded_by _ _ c.in-None.is c.next.ensures.steps in
    λ plans. c.loop-element.invariant plans ∙ ap (λ l. l ++ to_make plans c.args.pending.now.items) (ap (λ l. map (element_work plans c.args.parent) (reverse l)) all.0 ∙ ap (map (element_work plans c.args.parent)) (twice_reversed c.args.elements.now) ∙ works_of plans c.args.parent c.args.elements.now)
