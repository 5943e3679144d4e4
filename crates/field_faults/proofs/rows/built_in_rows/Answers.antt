use Rattle.std.proofs.Common.{◌++◌, List, ℕ}
use Rattle.std.proofs.lemmas.Result.{IfOk-weaker}
use Rattle.folder_rules.specs.Kinds.{built_in_kinds, built_in_names}
use Rattle.field_faults.specs.Rows.{Each, AreRows, IsOfWords}
use Rattle.field_faults.proofs.KindRows.{words_are_rows}
use Rattle.field_faults.proofs.BuiltIn.{built_in_words, built_in_say}
use Rattle.field_faults.proofs.rows.built_in_rows.Goals as goal

pub returns : goal.returns
returns c =
    IfOk-weaker c.rows_of.result (λ rows. Each IsOfWords rows.items built_in_words) (λ rows. (names : List (List ℕ)) → AreRows (built_in_names ++ names) rows.items built_in_kinds)
    (λ rows e names. words_are_rows (built_in_names ++ names) rows.items built_in_words built_in_kinds e (built_in_say names))
    c.rows_of.ensures
