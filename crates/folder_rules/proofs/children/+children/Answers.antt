use Rattle.std.proofs.Common.{[], ◌∷◌, ◌++◌, ap, ◌∙◌}
use Rattle.std.proofs.lemmas.Result.{on_ok_weaker}
use Rattle.folder_rules.specs.Children.{own_tags, child_tags}
use Rattle.folder_rules.proofs.Tags.{element_more}
use Rattle.folder_rules.proofs.children.+children.Goals as goal

pub push_child-returns-in-Ok : goal.push_child-returns-in-Ok
push_child-returns-in-Ok t c =
    on_ok_weaker c.push_children.result
    (λ e. element_more c.args.elements.now.items c.args.child (own_tags c.push_children.new.elements.items)
    (e ∙ ap (λ l. own_tags l ++ child_tags c.as_slice.result.now) c.in-Ok.ensures.items ∙ ap (λ l. own_tags (c.args.elements.now.items ++ c.args.child ∷ []) ++ child_tags l) c.as_slice.ensures))
    c.push_children.ensures
