use Rattle.std.proofs.lemmas.Result.{err_from_is_err_and}
use Rattle.folder_rules.specs.FirstFault as kind
use Rattle.folder_rules.specs.declared.names.NameTable.{NameTable}
use Rattle.component_scopes.specs.Groups.{from_bases}
use Rattle.component_scopes.proofs.FaultKinds.{behind, refused}
use Rattle.component_scopes.proofs.order.first_fault.Goals as goal

pub returns-in_err-names : goal.returns-in_err-names
returns-in_err-names c =
    let p = err_from_is_err_and c.from_residual.result c.from_residual.ensures.1 in
    rw (p.1, p.2)
    (refused c.args.components.now c.args.sources.now NameTable (Unit {0}) kind.DuplicateComponent from_bases c.in_err-names.field-0.0 c.in_err-names.ensures.first)

pub returns : goal.returns
returns c =
    behind c.args.components.now c.args.sources.now {T = Unit {0}} kind.DuplicateComponent from_bases c.in_ok-names.ensures.first c.check_named.result
    c.check_named.ensures
