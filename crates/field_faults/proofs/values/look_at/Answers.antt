use Rattle.std.proofs.Common.{◌∙◌, ap}
use Rattle.chan_values.specs.Folded.{folded}
use Rattle.field_faults.specs.Values.{earlier_of}
use Rattle.field_faults.proofs.Looks.{looks_at_good, looks_at_bad}
use Rattle.field_faults.proofs.values.look_at.Goals as goal

pub returns-then-branch : goal.returns-then-branch
returns-then-branch c = λ path. looks_at_good path c.args.line c.args.column (folded c.args.id.now) c.args.text.now c.args.holds c.in-Some.holds c.in-Some.is c.in_ok-is_read.field-0 c.in_ok-is_read.ensures c.if-branch.true c.args.first

pub returns : goal.returns
returns c =
    let id = c.in_ok-id.ensures ∙ ap folded (c.as_bytes.ensures.value ∙ c.as_str.ensures.bytes) in
    λ path.
    looks_at_bad path c.args.line c.args.column (folded c.args.id.now) c.args.text.now c.args.holds c.in-Some.holds c.in-Some.is c.in_ok-is_read.field-0 c.in_ok-is_read.ensures c.if-branch.false c.args.first c.earlier_of.result
    (c.earlier_of.ensures ∙ ap (λ i. earlier_of c.args.first (record { line = c.args.line; column = c.args.column; id = i })) id)
