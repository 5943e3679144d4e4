use Rattle.std.proofs.Common.{◌≡◌, ◌∙◌, ap, sym}
use Rattle.std.specs.Prelude.{option_map}
use Rattle.folder_rules.specs.Faults.{first, in_order}
use Rattle.folder_rules.specs.ScriptFaults.{duplicate_fault, duplicate_functions, is_earlier_function}
use Rattle.folder_rules.proofs.Found.{err_refuses}
use Rattle.script_faults.specs.Functions.{all_later, function_of, functions_of}
use Rattle.script_faults.specs.Sources.{all_sources}
use Rattle.script_faults.proofs.Collected.{first_map}
use Rattle.script_faults.proofs.repeats.check_duplicate_functions.Goals as goal

pub returns-in-Some : goal.returns-in-Some
returns-in-Some c =
    let later = all_later (all_sources c.args.table.now) c.args.components.now in
    err_refuses (Unit {0}) (λ found. found ≡ first (duplicate_functions (all_sources c.args.table.now) c.args.components.now)) (duplicate_fault (function_of c.in-Some.function))
    (ap (option_map duplicate_fault)
    (ap (option_map function_of) (sym c.in-Some.is) ∙ c.earliest.ensures ∙ ap (λ l. first (in_order is_earlier_function (functions_of l))) c.as_slice.ensures.value ∙ ap (λ l. first (in_order is_earlier_function l)) c.in_ok-later.ensures)
    ∙ sym (first_map duplicate_fault (in_order is_earlier_function later)))
    c.refusal_of.result c.refusal_of.ensures

pub returns : goal.returns
returns c =
    let later = all_later (all_sources c.args.table.now) c.args.components.now in
    ap (option_map duplicate_fault)
    (ap (option_map function_of) (sym c.in-None.is) ∙ c.earliest.ensures ∙ ap (λ l. first (in_order is_earlier_function (functions_of l))) c.as_slice.ensures.value ∙ ap (λ l. first (in_order is_earlier_function l)) c.in_ok-later.ensures)
    ∙ sym (first_map duplicate_fault (in_order is_earlier_function later))
