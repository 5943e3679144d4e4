use Rattle.std.proofs.Common.{◌<◌, [], List, ℕ, Option, None, sym, subst, length, map, take, get_or, arith, Bor}
use Rattle.field_types.specs.declared.types.FieldType.{FieldType}
use Rattle.folder_rules.specs.Kinds.{Field, field}
use Rattle.folder_rules.proofs.Lists.{get_or_self, map_more}
use Rattle.field_faults.specs.Rows.{Each, IsOfWords}
use Rattle.field_faults.proofs.KindRows.{one_more}
use Rattle.field_faults.proofs.rows.rows_of.Goals as goal

pub loop-row-preserved : goal.loop-row-preserved
loop-row-preserved c =
    let table : List (Option ℕ × Bor (List (Bor (List ℕ) × FieldType))) = c.args.table.now in
    let i : ℕ = c.loop-row.row-index in
    let here : i < length table = omega arith in
    let none : Option ℕ × Bor (List (Bor (List ℕ) × FieldType)) = (None, record { ref_ptr = (0, 0); now = [] }) in
    let item : Option ℕ × Bor (List (Bor (List ℕ) × FieldType)) = get_or table i none in
    let words : (Option ℕ × Bor (List (Bor (List ℕ) × FieldType))) → (Option ℕ × List Field) = λ row. (row.0, map (λ (word : Bor (List ℕ) × FieldType). field word.0.now word.1) row.1.now) in
    subst (Each IsOfWords c.push_words.new.rows.items) (sym (map_more words table i item here (get_or_self table i none here)))
    (one_more IsOfWords c.loop-row.rows.items c.push_words.new.rows.items (map words (take i table)) (words item) (λ row. IsOfWords row (words item)) c.loop-row.invariant c.in_ok-push_words.ensures (λ row h. h))
