use Rattle.std.proofs.Common.{[]}
use Rattle.chan_values.specs.Folded.{folded}
use Rattle.field_types.specs.Words.{type_words, type_beside}
use Rattle.field_faults.proofs.Looks.{looks_at_no_text}
use Rattle.field_faults.proofs.values.look_at_field.Goals as goal

pub returns-in-None : goal.returns-in-None
returns-in-None c =
    let field = c.args.field.now in
    λ path. looks_at_no_text path field.line field.column (folded field.id) [] (type_beside type_words field.word) field.value c.in-None.is c.args.first
