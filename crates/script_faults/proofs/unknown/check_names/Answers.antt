use Rattle.std.proofs.Common.{◌≡◌, ◌∙◌, ◌++◌, ℕ, List, Bool, ap, sym, length, map}
use Rattle.std.specs.Prelude.{option_map}
use Rattle.std.specs.List.{flat_map}
use Rattle.folder_rules.specs.Faults.{fault_on, first}
use Rattle.folder_rules.specs.ScriptFaults.{change_function, interface_function, named_functions}
use Rattle.folder_rules.proofs.Found.{err_refuses}
use Rattle.script_faults.specs.Named.{named_of}
use Rattle.script_faults.specs.Rows.{has_function, unknown_by}
use Rattle.script_faults.proofs.NamedFaults.{fault_of, first_unknown_fault}
use Rattle.script_faults.proofs.unknown.check_names.Goals as goal

pub returns-in-Some : goal.returns-in-Some
returns-in-Some c =
    let is_there : List ℕ → Bool = has_function (length c.args.scope.rows.now) c.args.scope.rows.now c.args.scope.kind in
    let path = c.args.component.now.path in
    let all = flat_map change_function c.args.component.now.file.fields ++ map interface_function c.args.component.now.file.functions in
    err_refuses (Unit {0}) (λ found. found ≡ first (flat_map (unknown_by is_there path) (named_functions c.args.component.now))) (fault_on 17 path c.in-Some.unknown.line c.in-Some.unknown.name)
    (ap (option_map (fault_of path)) (ap (option_map named_of) (sym c.in-Some.is) ∙ c.in_ok-unknown.ensures) ∙ first_unknown_fault is_there path all)
    c.refusal.result c.refusal.ensures

pub returns-in-None : goal.returns-in-None
returns-in-None c =
    let is_there : List ℕ → Bool = has_function (length c.args.scope.rows.now) c.args.scope.rows.now c.args.scope.kind in
    let path = c.args.component.now.path in
    let all = flat_map change_function c.args.component.now.file.fields ++ map interface_function c.args.component.now.file.functions in
    ap (option_map (fault_of path)) (ap (option_map named_of) (sym c.in-None.is) ∙ c.in_ok-unknown.ensures) ∙ first_unknown_fault is_there path all
