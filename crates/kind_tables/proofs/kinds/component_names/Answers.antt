use Rattle.std.proofs.Common.{◌≡◌, ◌∙◌, ◌<◌, ◌≤◌, ℕ, List, is_some, length, map, refl, ap, arith}
use Rattle.std.proofs.lemmas.List.{take_all}
use Rattle.std.proofs.lemmas.Result.{IfOk-weaker}
use Rattle.folder_rules.specs.Names.{is_among}
use Rattle.ordered_names.specs.Values.{value_in, value_of}
use Rattle.kind_tables.proofs.Ascending.{units_among}
use Rattle.folder_rules.specs.Kinds.{component_name}
use Rattle.kind_tables.proofs.Named.{added}
use Rattle.kind_tables.proofs.kinds.component_names.Goals as goal

pub loop-component-preserved : goal.loop-component-preserved
loop-component-preserved c =
    let all = c.args.components.now in
    let here : c.loop-component.component-index < length all = omega arith in
    added (λ c. (component_name c, tt {0})) all c.loop-component.component-index c.component-item.result here c.component-item.is c.loop-component.names c.add_folded.new.self _ _ refl refl c.loop-component.invariant c.in_ok-add_folded.ensures.ok

pub returns : goal.returns
returns c =
    let all = c.args.components.now in
    let done : length all ≤ c.loop-component.component-index = omega arith in
    IfOk-weaker c.into_ordered.result (λ names. (name : List ℕ) → value_of names name ≡ value_in c.loop-component.names name) (λ names. (name : List ℕ) → is_some (value_of names name) ≡ is_among (map component_name all) name)
    (λ names e name. ap is_some (e name ∙ c.loop-component.invariant name ∙ ap (λ l. value_of (map (λ x. (component_name x, tt {0})) l) name) (take_all c.loop-component.component-index all done)) ∙ units_among component_name all name)
    c.into_ordered.ensures
