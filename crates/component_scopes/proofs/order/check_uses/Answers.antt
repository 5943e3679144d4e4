use Rattle.std.proofs.Common.{[], ◌∷◌, Err, ap, ◌∙◌}
use Rattle.std.proofs.lemmas.Result.{err_from_is_err_and}
use Rattle.folder_rules.specs.FirstFault as kind
use Rattle.folder_rules.specs.Faults.{first}
use Rattle.folder_rules.specs.ScriptFaults.{unknown_functions}
use Rattle.folder_rules.specs.Scripts.{numbered}
use Rattle.script_faults.specs.Sources.{all_sources}
use Rattle.component_scopes.proofs.FaultKinds.{behind, found_same, indexed, last, refused}
use Rattle.component_scopes.proofs.order.check_uses.Goals as goal

pub check_functions-requires-clause-indexed : goal.check_functions-requires-clause-indexed
check_functions-requires-clause-indexed c = indexed c.args.table.now (numbered 0 c.args.sources.now) c.requires.sources

pub returns-in_err-check_functions : goal.returns-in_err-check_functions
returns-in_err-check_functions c =
    let p = err_from_is_err_and c.from_residual.result c.from_residual.ensures.1 in
    rw (p.1, p.2)
    (refused c.args.components.now c.args.sources.now (Unit {0}) (Unit {0}) kind.UnknownFunction (kind.UnknownChild ∷ (kind.NoMain ∷ [])) c.in_err-check_functions.field-0.0 (found_same {T = Unit {0}} (λ all. unknown_functions all c.args.components.now) (all_sources c.args.table.now) (numbered 0 c.args.sources.now) c.requires.sources.all (Err c.in_err-check_functions.field-0.0) c.in_err-check_functions.ensures))

pub returns-in_err-check_children : goal.returns-in_err-check_children
returns-in_err-check_children c =
    let p = err_from_is_err_and c.from_residual-in_err-check_children.result c.from_residual-in_err-check_children.ensures.1 in
    rw (p.1, p.2)
    (behind c.args.components.now c.args.sources.now {T = Unit {0}} kind.UnknownFunction (kind.UnknownChild ∷ (kind.NoMain ∷ [])) (c.in_ok-check_functions.ensures ∙ ap (λ all. first (unknown_functions all c.args.components.now)) c.requires.sources.all) (Err c.in_err-check_children.field-0.0)
    (refused c.args.components.now c.args.sources.now (Unit {0}) (Unit {0}) kind.UnknownChild (kind.NoMain ∷ []) c.in_err-check_children.field-0.0 c.in_err-check_children.ensures))

pub returns : goal.returns
returns c =
    behind c.args.components.now c.args.sources.now {T = Unit {0}} kind.UnknownFunction (kind.UnknownChild ∷ (kind.NoMain ∷ [])) (c.in_ok-check_functions.ensures ∙ ap (λ all. first (unknown_functions all c.args.components.now)) c.requires.sources.all) c.check_main.result
    (behind c.args.components.now c.args.sources.now {T = Unit {0}} kind.UnknownChild (kind.NoMain ∷ []) c.in_ok-check_children.ensures c.check_main.result
    (last c.args.components.now c.args.sources.now {T = Unit {0}} kind.NoMain c.check_main.result c.check_main.ensures))
