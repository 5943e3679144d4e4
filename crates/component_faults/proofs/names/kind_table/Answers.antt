use Rattle.std.proofs.Common.{◌≡◌, ◌∙◌, ◌<◌, ◌+◌, ◌++◌, ap, sym, length, map, take, arith}
use Rattle.std.proofs.lemmas.Result.{err_from_is_err_and}
use Rattle.folder_rules.specs.Kinds.{built_in_names, component_name}
use Rattle.folder_rules.specs.Names.{is_known, place_of}
use Rattle.folder_rules.proofs.Tables.{places_more, known_is_among, kinds_before, kinds_more}
use Rattle.component_faults.proofs.Repeats.{repeat_refused, repeats_next}
use Rattle.component_faults.proofs.names.kind_table.Goals as goal

pub returns-in_err-add_component-clause-first : goal.returns-in_err-add_component-clause-first
returns-in_err-add_component-clause-first c =
    let here : c.loop-i.i < length c.args.components.now = omega arith in
    let before = built_in_names ++ map component_name (take c.loop-i.i c.args.components.now) in
    let p = err_from_is_err_and c.from_residual-in_err-add_component.result c.from_residual-in_err-add_component.ensures.1 in
    rw (p.1, p.2)
    (repeat_refused (Unit {0}) (Unit {0}) before c.args.components.now c.loop-i.i c.index-components-i.result here c.index-components-i.is (is_known c.loop-i.names (component_name c.index-components-i.result))
    (known_is_among c.loop-i.names before c.loop-i.invariant.table (component_name c.index-components-i.result)) _ c.loop-i.invariant.left c.in_err-add_component.field-0.0 c.in_err-add_component.ensures.first)

pub loop-i-preserved : goal.loop-i-preserved
loop-i-preserved c =
    let here : c.loop-i.i < length c.args.components.now = omega arith in
    let before = built_in_names ++ map component_name (take c.loop-i.i c.args.components.now) in
    let name = component_name c.index-components-i.result in
    let more = kinds_more c.args.components.now c.loop-i.i c.index-components-i.result here c.index-components-i.is in
    record {
      table = λ other.
          places_more c.loop-i.names c.add_component.new.names before name (9 + c.loop-i.i) (kinds_before c.args.components.now c.loop-i.i here) c.loop-i.invariant.table c.in_ok-add_component.ensures.added other
          ∙ ap (λ l. place_of l other) more;
      left = repeats_next before c.args.components.now c.loop-i.i c.index-components-i.result here c.index-components-i.is (is_known c.loop-i.names name)
          (known_is_among c.loop-i.names before c.loop-i.invariant.table name) _ c.loop-i.invariant.left c.in_ok-add_component.ensures.first _ more;
    }
