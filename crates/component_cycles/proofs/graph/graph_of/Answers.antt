use Rattle.std.proofs.Common.{◌≡◌, ◌∙◌, ◌+◌, ◌<◌, [], ◌∷◌, ◌++◌, ap, sym, subst, length, take, arith}
use Rattle.std.proofs.lemmas.List.{take_more}
use Rattle.folder_rules.specs.Kinds.{kind_names}
use Rattle.component_cycles.specs.Graph.{HasStepsOf, HasStepsMore, IsWithoutSteps}
use Rattle.component_cycles.proofs.Steps.{no_steps, names_count, steps_more, whole}
use Rattle.component_cycles.proofs.graph.graph_of.Goals as goal

pub loop-component-init : goal.loop-component-init
loop-component-init c =
    let cs = c.args.components.now in
    let graph = c.in_ok-graph.graph.items in
    no_steps (kind_names cs) graph (subst (λ n. IsWithoutSteps n graph) (names_count cs) c.in_ok-graph.ensures)

pub loop-component-preserved : goal.loop-component-preserved
loop-component-preserved c =
    let cs = c.args.components.now in
    let names = kind_names cs in
    let table = c.args.names.now in
    let i = c.loop-component.component-index in
    let item = c.component-item.result in
    let here : i < length cs = omega arith in
    let before = c.loop-component.graph.items in
    let after = c.add_component.new.graph in
    let more : HasStepsMore table item before after = subst (λ g. HasStepsMore table item g after) c.as_mut_slice.ensures.value c.in_ok-add_component.ensures in
    let size : length before ≡ c.loop-component.graph.len = omega (arith, c.loop-component.graph.ok.0) in
    let taken : take (i + 1) cs ≡ take i cs ++ item ∷ [] = take_more cs i item here ∙ ap (λ y. take i cs ++ y ∷ []) (sym c.component-item.is) in
    subst (λ g. HasStepsOf names (take (i + 1) cs) g) (sym (whole c.loop-component.graph.len after before (more.size ∙ size) size))
    (subst (λ l. HasStepsOf names l after) (sym taken) (steps_more table names c.requires (take i cs) item before after c.loop-component.invariant more))
