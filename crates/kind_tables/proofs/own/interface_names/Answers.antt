use Rattle.std.proofs.Common.{◌≡◌, ◌∙◌, ◌<◌, ◌≤◌, ℕ, List, is_some, length, map, refl, ap, arith}
use Rattle.std.proofs.lemmas.List.{take_all}
use Rattle.std.proofs.lemmas.Result.{IfOk-weaker}
use Rattle.folder_rules.specs.Names.{is_among}
use Rattle.ordered_names.specs.Values.{value_in, value_of}
use Rattle.kind_tables.proofs.Ascending.{units_among}
use Rattle.kind_tables.specs.Rows.{interface_name}
use Rattle.kind_tables.proofs.Named.{added}
use Rattle.kind_tables.proofs.own.interface_names.Goals as goal

pub loop-function-preserved : goal.loop-function-preserved
loop-function-preserved c =
    let all = c.args.functions.now in
    let here : c.loop-function.function-index < length all = omega arith in
    added (λ f. (interface_name f, tt {0})) all c.loop-function.function-index c.function-item.result here c.function-item.is c.loop-function.names c.add_folded.new.self _ _ refl refl c.loop-function.invariant c.in_ok-add_folded.ensures.ok

pub returns : goal.returns
returns c =
    let all = c.args.functions.now in
    let done : length all ≤ c.loop-function.function-index = omega arith in
    IfOk-weaker c.into_ordered.result (λ names. (name : List ℕ) → value_of names name ≡ value_in c.loop-function.names name) (λ names. (name : List ℕ) → is_some (value_of names name) ≡ is_among (map interface_name all) name)
    (λ names e name. ap is_some (e name ∙ c.loop-function.invariant name ∙ ap (λ l. value_of (map (λ x. (interface_name x, tt {0})) l) name) (take_all c.loop-function.function-index all done)) ∙ units_among interface_name all name)
    c.into_ordered.ensures
