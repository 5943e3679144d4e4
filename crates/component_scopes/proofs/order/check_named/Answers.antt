use Rattle.std.proofs.Common.{◌∷◌, Err}
use Rattle.std.proofs.lemmas.Result.{err_from_is_err_and}
use Rattle.folder_rules.specs.FirstFault as kind
use Rattle.component_scopes.specs.Groups.{from_scripts}
use Rattle.component_scopes.proofs.FaultKinds.{behind, refused}
use Rattle.component_scopes.proofs.order.check_named.Goals as goal

pub returns-in_err-check_bases : goal.returns-in_err-check_bases
returns-in_err-check_bases c =
    let p = err_from_is_err_and c.from_residual.result c.from_residual.ensures.1 in
    rw (p.1, p.2)
    (refused c.args.components.now c.args.sources.now (Unit {0}) (Unit {0}) kind.UnknownBase (kind.Cycle ∷ from_scripts) c.in_err-check_bases.field-0.0 c.in_err-check_bases.ensures)

pub returns-in_err-check_cycles : goal.returns-in_err-check_cycles
returns-in_err-check_cycles c =
    let p = err_from_is_err_and c.from_residual-in_err-check_cycles.result c.from_residual-in_err-check_cycles.ensures.1 in
    rw (p.1, p.2)
    (behind c.args.components.now c.args.sources.now {T = Unit {0}} kind.UnknownBase (kind.Cycle ∷ from_scripts) c.in_ok-check_bases.ensures (Err c.in_err-check_cycles.field-0.0)
    (refused c.args.components.now c.args.sources.now (Unit {0}) (Unit {0}) kind.Cycle from_scripts c.in_err-check_cycles.field-0.0 c.in_err-check_cycles.ensures))

pub returns : goal.returns
returns c =
    behind c.args.components.now c.args.sources.now {T = Unit {0}} kind.UnknownBase (kind.Cycle ∷ from_scripts) c.in_ok-check_bases.ensures c.check_sources.result
    (behind c.args.components.now c.args.sources.now {T = Unit {0}} kind.Cycle from_scripts c.in_ok-check_cycles.ensures c.check_sources.result
    c.check_sources.ensures)
