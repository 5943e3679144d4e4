use Rattle.std.proofs.Common.{◌∷◌, Err}
use Rattle.std.proofs.lemmas.Result.{err_from_is_err_and}
use Rattle.folder_rules.specs.FirstFault as kind
use Rattle.component_scopes.specs.Groups.{from_functions}
use Rattle.component_scopes.proofs.FaultKinds.{behind, refused}
use Rattle.component_scopes.proofs.order.check_fields.Goals as goal

pub returns-in_err-check_duplicate_fields : goal.returns-in_err-check_duplicate_fields
returns-in_err-check_duplicate_fields c =
    let p = err_from_is_err_and c.from_residual.result c.from_residual.ensures.1 in
    rw (p.1, p.2)
    (refused c.args.components.now c.args.sources.now (Unit {0}) (Unit {0}) kind.DuplicateField (kind.BadFieldType ∷ (kind.BadFieldValue ∷ from_functions)) c.in_err-check_duplicate_fields.field-0.0 c.in_err-check_duplicate_fields.ensures)

pub returns-in_err-check_types : goal.returns-in_err-check_types
returns-in_err-check_types c =
    let p = err_from_is_err_and c.from_residual-in_err-check_types.result c.from_residual-in_err-check_types.ensures.1 in
    rw (p.1, p.2)
    (behind c.args.components.now c.args.sources.now {T = Unit {0}} kind.DuplicateField (kind.BadFieldType ∷ (kind.BadFieldValue ∷ from_functions)) c.in_ok-check_duplicate_fields.ensures (Err c.in_err-check_types.field-0.0)
    (refused c.args.components.now c.args.sources.now (Unit {0}) (Unit {0}) kind.BadFieldType (kind.BadFieldValue ∷ from_functions) c.in_err-check_types.field-0.0 c.in_err-check_types.ensures))

pub returns-in_err-check_values : goal.returns-in_err-check_values
returns-in_err-check_values c =
    let p = err_from_is_err_and c.from_residual-in_err-check_values.result c.from_residual-in_err-check_values.ensures.1 in
    rw (p.1, p.2)
    (behind c.args.components.now c.args.sources.now {T = Unit {0}} kind.DuplicateField (kind.BadFieldType ∷ (kind.BadFieldValue ∷ from_functions)) c.in_ok-check_duplicate_fields.ensures (Err c.in_err-check_values.field-0.0)
    (behind c.args.components.now c.args.sources.now {T = Unit {0}} kind.BadFieldType (kind.BadFieldValue ∷ from_functions) c.in_ok-check_types.ensures (Err c.in_err-check_values.field-0.0)
    (refused c.args.components.now c.args.sources.now (Unit {0}) (Unit {0}) kind.BadFieldValue from_functions c.in_err-check_values.field-0.0 c.in_err-check_values.ensures)))

pub returns : goal.returns
returns c =
    behind c.args.components.now c.args.sources.now {T = Unit {0}} kind.DuplicateField (kind.BadFieldType ∷ (kind.BadFieldValue ∷ from_functions)) c.in_ok-check_duplicate_fields.ensures c.check_uses.result
    (behind c.args.components.now c.args.sources.now {T = Unit {0}} kind.BadFieldType (kind.BadFieldValue ∷ from_functions) c.in_ok-check_types.ensures c.check_uses.result
    (behind c.args.components.now c.args.sources.now {T = Unit {0}} kind.BadFieldValue from_functions c.in_ok-check_values.ensures c.check_uses.result
    c.check_uses.ensures))
