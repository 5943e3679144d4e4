use Rattle.std.proofs.Common.{◌<◌, ◌≤◌, length, take, arith, sym, subst}
use Rattle.std.specs.List.{flat_map}
use Rattle.std.proofs.lemmas.List.{take_all}
use Rattle.folder_rules.specs.FieldFaults.{field_text}
use Rattle.folder_rules.proofs.Lists.{flat_map_more}
use Rattle.field_faults.specs.Values.{LooksAt}
use Rattle.field_faults.proofs.Looks.{looks_more}
use Rattle.field_faults.proofs.values.look_at_fields.Goals as goal

pub loop-field-preserved : goal.loop-field-preserved
loop-field-preserved c =
    let all = c.args.fields.now in
    let i = c.loop-field.field-index in
    let here : i < length all = omega arith in
    λ path.
    subst (λ l. LooksAt path l c.args.first c.in_ok-first.first) (sym (flat_map_more (field_text path) all i c.field-item.result here c.field-item.is))
    (looks_more path (flat_map (field_text path) (take i all)) (field_text path c.field-item.result) c.args.first c.loop-field.first c.in_ok-first.first (c.loop-field.invariant path) (c.in_ok-first.ensures path))

pub returns : goal.returns
returns c =
    let all = c.args.fields.now in
    let done : length all ≤ c.loop-field.field-index = omega arith in
    λ path. subst (λ l. LooksAt path (flat_map (field_text path) l) c.args.first c.loop-field.first) (take_all c.loop-field.field-index all done) (c.loop-field.invariant path)
