use Rattle.std.proofs.Common.{◌≡◌, ◌∙◌, ℕ, List, ap, sym, subst, map}
use Rattle.std.proofs.lemmas.Result.{IfOk-weaker}
use Rattle.folder_rules.specs.Scripts.{source_functions}
use Rattle.ordered_names.specs.Values.{value_of}
use Rattle.script_faults.specs.Functions.{functions_of}
use Rattle.script_faults.specs.Sources.{all_sources}
use Rattle.kind_tables.specs.Rows.{AreSmall, named_number, placed_number}
use Rattle.kind_tables.proofs.Named.{placed_is}
use Rattle.kind_tables.proofs.Numbers.{source_small}
use Rattle.kind_tables.proofs.tables.source_names.Goals as goal

pub function_names-requires : goal.function_names-requires
function_names-requires c = subst AreSmall (sym (ap functions_of c.as_slice.ensures.value ∙ c.in_ok-functions.ensures)) (source_small (all_sources c.args.table.now) c.requires)

pub returns : goal.returns
returns c =
    let all = source_functions (all_sources c.args.table.now) in
    let same : map placed_number c.as_slice.result.now ≡ map named_number all = placed_is c.as_slice.result.now ∙ ap (λ l. map named_number (functions_of l)) c.as_slice.ensures.value ∙ ap (map named_number) c.in_ok-functions.ensures in
    IfOk-weaker c.function_names.result (λ names. (name : List ℕ) → value_of names name ≡ value_of (map placed_number c.as_slice.result.now) name) (λ names. (name : List ℕ) → value_of names name ≡ value_of (map named_number all) name)
    (λ names e name. e name ∙ ap (λ l. value_of l name) same)
    c.function_names.ensures
