use Rattle.std.proofs.Common.{◌≡◌, ◌∙◌, [], ◌++◌, ℕ, List, Bool, None, ap, sym, length, map}
use Rattle.std.specs.Prelude.{filter, option_map}
use Rattle.std.specs.List.{flat_map}
use Rattle.std.proofs.lemmas.Result.{IfOk-weaker}
use Rattle.folder_rules.specs.Faults.{first, in_order}
use Rattle.folder_rules.specs.ScriptFaults.{change_function, interface_function, is_earlier_name}
use Rattle.script_faults.specs.Named.{is_unknown, named_of, unknown_after}
use Rattle.script_faults.specs.Rows.{has_function}
use Rattle.script_faults.proofs.NamedFaults.{after_both, after_first}
use Rattle.script_faults.proofs.unknown.unknown_name.Goals as goal

pub returns : goal.returns
returns c =
    let is_there : List ℕ → Bool = has_function (length c.args.scope.rows.now) c.args.scope.rows.now c.args.scope.kind in
    let changes = flat_map change_function c.args.component.now.file.fields in
    let functions = c.args.component.now.file.functions in
    IfOk-weaker c.with_interface.result (λ unknown. option_map named_of unknown ≡ unknown_after is_there (option_map named_of c.in_ok-unknown.unknown) (map interface_function c.as_slice-2.result.now))
    (λ unknown. option_map named_of unknown ≡ first (in_order is_earlier_name (filter (is_unknown is_there) (changes ++ map interface_function functions))))
    (λ unknown e.
    e ∙ ap (λ l. unknown_after is_there (option_map named_of c.in_ok-unknown.unknown) (map interface_function l)) c.as_slice-2.ensures
    ∙ ap (λ o. unknown_after is_there o (map interface_function functions)) (c.in_ok-unknown.ensures ∙ ap (λ l. unknown_after is_there None (flat_map change_function l)) c.as_slice.ensures)
    ∙ sym (after_both is_there None changes (map interface_function functions))
    ∙ after_first is_there [] (changes ++ map interface_function functions))
    c.with_interface.ensures
