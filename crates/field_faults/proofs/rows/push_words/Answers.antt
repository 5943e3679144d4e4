use Rattle.std.proofs.Common.{map}
use Rattle.folder_rules.specs.Kinds.{field}
use Rattle.field_faults.proofs.KindRows.{all_fields}
use Rattle.field_faults.proofs.rows.push_words.Goals as goal
use Rattle.field_faults.proofs.rows.push_words.Goals.{in-Ok, in-Err}

pub returns : goal.returns
returns c =
    elim c.match-push.branch [
      | in-Ok w ↦ rw w.result-is
          (record {
            row = c.add_words.new.row;
            rows = w.in-Ok.ensures.items;
            is = all_fields c.new-row.result c.add_words.new.row c.args.base (map (λ word. field word.0.now word.1) c.args.words.now) c.new-row.ensures c.in_ok-add_words.ensures;
          })
      | in-Err w ↦ rw w.result-is tt
    ]
