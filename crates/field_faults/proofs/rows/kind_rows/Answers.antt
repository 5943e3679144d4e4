use Rattle.std.proofs.Common.{◌∙◌, ◌<◌, ◌≤◌, ◌∷◌, [], ◌++◌, ap, sym, length, map, take, arith, subst, append_assoc}
use Rattle.std.proofs.lemmas.List.{append-nil, take_all}
use Rattle.folder_rules.specs.Kinds.{base_name, built_in_kinds, component_kind, component_name, declared_field, kind_names}
use Rattle.folder_rules.specs.Names.{number_in}
use Rattle.folder_rules.proofs.Lists.{map_more}
use Rattle.field_faults.specs.Rows.{AreRows, IsRow, IsOf}
use Rattle.field_faults.proofs.KindRows.{one_more, component_is_row}
use Rattle.field_faults.proofs.rows.kind_rows.Goals as goal

pub loop-component-init : goal.loop-component-init
loop-component-init c = subst (AreRows (kind_names c.args.components.now) c.in_ok-rows.rows.items) (sym (append-nil built_in_kinds)) (c.in_ok-rows.ensures (map component_name c.args.components.now))

pub loop-component-preserved : goal.loop-component-preserved
loop-component-preserved c =
    let all = c.args.components.now in
    let i = c.loop-component.component-index in
    let names = kind_names all in
    let item = c.component-item.result in
    let here : i < length all = omega arith in
    subst (AreRows names c.push_component.new.rows.items) (append_assoc built_in_kinds (map component_kind (take i all)) (component_kind item ∷ []) ∙ ap (λ l. built_in_kinds ++ l) (sym (map_more component_kind all i item here c.component-item.is)))
    (one_more (IsRow names) c.loop-component.rows.items c.push_component.new.rows.items (built_in_kinds ++ map component_kind (take i all)) (component_kind item) (IsOf (number_in c.args.names.now (base_name item)) (map declared_field item.file.fields)) c.loop-component.invariant c.in_ok-push_component.ensures
    (λ r h. component_is_row c.args.names.now names c.requires item r h))

pub returns : goal.returns
returns c =
    let all = c.args.components.now in
    let done : length all ≤ c.loop-component.component-index = omega arith in
    subst (AreRows (kind_names all) c.loop-component.rows.items) (ap (λ l. built_in_kinds ++ map component_kind l) (take_all c.loop-component.component-index all done)) c.loop-component.invariant
