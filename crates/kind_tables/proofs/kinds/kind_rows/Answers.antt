use Rattle.std.proofs.Common.{◌∙◌, ◌<◌, ◌≤◌, ◌+◌, ◌∷◌, [], ◌++◌, ap, sym, length, map, take, arith, subst, append_assoc}
use Rattle.std.proofs.lemmas.List.{append-nil, take_all}
use Rattle.folder_rules.specs.Kinds.{built_in_kinds, built_in_names, component_kind, component_name, kind_names}
use Rattle.folder_rules.proofs.Lists.{map_more}
use Rattle.script_faults.specs.Rows.{Each}
use Rattle.script_faults.specs.Sources.{all_sources}
use Rattle.script_faults.proofs.Distinct.{distinct}
use Rattle.script_faults.proofs.KindRows.{each_more}
use Rattle.kind_tables.specs.Rows.{IsRow}
use Rattle.kind_tables.proofs.KindRows.{built_in_are_rows, component_is_row}
use Rattle.kind_tables.proofs.kinds.kind_rows.Goals as goal

pub loop-component-init : goal.loop-component-init
loop-component-init c =
    let all = c.args.components.now in
    subst (Each (IsRow (all_sources c.args.table.now) all (kind_names all)) c.in_ok-rows.rows.items) (sym (append-nil built_in_kinds))
    (built_in_are_rows (all_sources c.args.table.now) all (distinct built_in_names all c.requires.distinct) (map component_name all) c.in_ok-rows.rows.items c.in_ok-rows.ensures)

pub loop-component-preserved : goal.loop-component-preserved
loop-component-preserved c =
    let sources = all_sources c.args.table.now in
    let all = c.args.components.now in
    let i = c.loop-component.component-index in
    let names = kind_names all in
    let item = c.component-item.result in
    let here : i < length all = omega arith in
    let kinds = built_in_kinds ++ map component_kind (take i all) in
    subst (λ l. Each (IsRow sources all names) l (built_in_kinds ++ map component_kind (take (i + 1) all))) (sym c.in_ok-push_row.ensures)
    (subst (Each (IsRow sources all names) (c.loop-component.rows.items ++ c.in_ok-row.row ∷ [])) (append_assoc built_in_kinds (map component_kind (take i all)) (component_kind item ∷ []) ∙ ap (λ l. built_in_kinds ++ l) (sym (map_more component_kind all i item here c.component-item.is)))
    (each_more (IsRow sources all names) c.loop-component.rows.items kinds c.in_ok-row.row (component_kind item) c.loop-component.invariant
    (component_is_row sources all (distinct built_in_names all c.requires.distinct) c.args.names.now names c.requires.places i item here c.component-item.is c.in_ok-row.row c.in_ok-row.ensures)))

pub returns : goal.returns
returns c =
    let all = c.args.components.now in
    let done : length all ≤ c.loop-component.component-index = omega arith in
    subst (Each (IsRow (all_sources c.args.table.now) all (kind_names all)) c.loop-component.rows.items) (ap (λ l. built_in_kinds ++ map component_kind l) (take_all c.loop-component.component-index all done)) c.loop-component.invariant
