use Rattle.std.proofs.Common.{◌∙◌, ◌<◌, ap, sym, length, map, take, arith}
use Rattle.std.proofs.lemmas.Result.{err_from_is_err_and}
use Rattle.chan_values.specs.Folded.{folded}
use Rattle.folder_rules.specs.Names.{is_among, is_known}
use Rattle.folder_rules.proofs.Lists.{map_more}
use Rattle.field_faults.specs.Rows.{has_field}
use Rattle.field_faults.proofs.FieldRepeats.{among_one, ids_refused, ids_next}
use Rattle.field_faults.proofs.fields.check_fields.Goals as goal

pub returns-in_err-add_field : goal.returns-in_err-add_field
returns-in_err-add_field c =
    let fields = c.args.fields.now in
    let i = c.loop-field.field-index in
    let item = c.field-item.result in
    let here : i < length fields = omega arith in
    let p = err_from_is_err_and c.from_residual.result c.from_residual.ensures.1 in
    rw (p.1, p.2)
    (ids_refused (Unit {0}) (Unit {0}) (has_field c.args.rows.now c.args.base) c.args.path.now (map (λ e. folded e.id) (take i fields)) fields i item here c.field-item.is (is_known c.loop-field.ids (folded item.id))
    (c.loop-field.invariant.table (folded item.id)) _ c.loop-field.invariant.left c.in_err-add_field.field-0.0 c.in_err-add_field.ensures.first)

pub loop-field-preserved : goal.loop-field-preserved
loop-field-preserved c =
    let fields = c.args.fields.now in
    let i = c.loop-field.field-index in
    let item = c.field-item.result in
    let here : i < length fields = omega arith in
    let before = map (λ e. folded e.id) (take i fields) in
    let more = sym (map_more (λ e. folded e.id) fields i item here c.field-item.is) in
    record {
      table = λ id. c.in_ok-add_field.ensures.added id ∙ among_one (is_known c.loop-field.ids id) before (folded item.id) id (c.loop-field.invariant.table id) ∙ ap (λ l. is_among l id) more;
      left = ids_next (has_field c.args.rows.now c.args.base) c.args.path.now before fields i item here c.field-item.is (is_known c.loop-field.ids (folded item.id))
          (c.loop-field.invariant.table (folded item.id)) _ c.loop-field.invariant.left c.in_ok-add_field.ensures.first _ more;
    }
