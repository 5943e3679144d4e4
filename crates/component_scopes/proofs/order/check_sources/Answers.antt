use Rattle.std.proofs.Common.{◌∷◌, Err, ap, ◌∙◌}
use Rattle.std.proofs.lemmas.Result.{err_from_is_err_and}
use Rattle.folder_rules.specs.FirstFault as kind
use Rattle.folder_rules.specs.Faults.{first}
use Rattle.folder_rules.specs.ScriptFaults.{missing_scripts, duplicate_functions}
use Rattle.folder_rules.specs.Scripts.{numbered}
use Rattle.script_faults.specs.Sources.{all_sources}
use Rattle.component_scopes.specs.Groups.{from_fields}
use Rattle.component_scopes.proofs.FaultKinds.{behind, found_same, indexed, refused}
use Rattle.component_scopes.proofs.order.check_sources.Goals as goal

pub check_scripts-requires : goal.check_scripts-requires
check_scripts-requires c = indexed c.args.table.now (numbered 0 c.args.sources.now) c.requires.sources

pub check_duplicate_functions-requires : goal.check_duplicate_functions-requires
check_duplicate_functions-requires c = indexed c.args.table.now (numbered 0 c.args.sources.now) c.requires.sources

pub returns-in_err-check_scripts : goal.returns-in_err-check_scripts
returns-in_err-check_scripts c =
    let p = err_from_is_err_and c.from_residual.result c.from_residual.ensures.1 in
    rw (p.1, p.2)
    (refused c.args.components.now c.args.sources.now (Unit {0}) (Unit {0}) kind.MissingScript (kind.DuplicateFunction ∷ from_fields) c.in_err-check_scripts.field-0.0 (found_same {T = Unit {0}} (λ all. missing_scripts all c.args.components.now) (all_sources c.args.table.now) (numbered 0 c.args.sources.now) c.requires.sources.all (Err c.in_err-check_scripts.field-0.0) c.in_err-check_scripts.ensures))

pub returns-in_err-check_duplicate_functions : goal.returns-in_err-check_duplicate_functions
returns-in_err-check_duplicate_functions c =
    let p = err_from_is_err_and c.from_residual-in_err-check_duplicate_functions.result c.from_residual-in_err-check_duplicate_functions.ensures.1 in
    rw (p.1, p.2)
    (behind c.args.components.now c.args.sources.now {T = Unit {0}} kind.MissingScript (kind.DuplicateFunction ∷ from_fields) (c.in_ok-check_scripts.ensures ∙ ap (λ all. first (missing_scripts all c.args.components.now)) c.requires.sources.all) (Err c.in_err-check_duplicate_functions.field-0.0)
    (refused c.args.components.now c.args.sources.now (Unit {0}) (Unit {0}) kind.DuplicateFunction from_fields c.in_err-check_duplicate_functions.field-0.0 (found_same {T = Unit {0}} (λ all. duplicate_functions all c.args.components.now) (all_sources c.args.table.now) (numbered 0 c.args.sources.now) c.requires.sources.all (Err c.in_err-check_duplicate_functions.field-0.0) c.in_err-check_duplicate_functions.ensures)))

pub returns : goal.returns
returns c =
    behind c.args.components.now c.args.sources.now {T = Unit {0}} kind.MissingScript (kind.DuplicateFunction ∷ from_fields) (c.in_ok-check_scripts.ensures ∙ ap (λ all. first (missing_scripts all c.args.components.now)) c.requires.sources.all) c.check_fields.result
    (behind c.args.components.now c.args.sources.now {T = Unit {0}} kind.DuplicateFunction from_fields (c.in_ok-check_duplicate_functions.ensures ∙ ap (λ all. first (duplicate_functions all c.args.components.now)) c.requires.sources.all) c.check_fields.result
    c.check_fields.ensures)
