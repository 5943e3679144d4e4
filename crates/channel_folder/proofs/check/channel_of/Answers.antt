use Rattle.std.proofs.Common.{◌≡◌, Err, ap, arith}
use Rattle.std.proofs.lemmas.Result.{err_from_is_err_and}
use Rattle.folder_files.proofs.BadLines.{none_long}
use Rattle.channel_folder.specs.declared.contents.Contents.{Contents}
use Rattle.channel_folder.proofs.FolderKinds.{of_manifest, of_files, of_components, of_none}
use Rattle.channel_folder.proofs.check.channel_of.Goals as goal

pub read_files-read-requires-clause-short : goal.read_files-read-requires-clause-short
read_files-read-requires-clause-short g c = λ κs bounds. none_long c.args.files.now c.requires.sizes

pub check_components-requires : goal.check_components-requires
check_components-requires g c =
    record { few = omega (arith, c.few_functions.ensures c.args.files.now c.in_ok-contents.contents c.requires.sizes c.in_ok-contents.ensures.held) }

pub returns-in_err-check_manifest-clause-first : goal.returns-in_err-check_manifest-clause-first
returns-in_err-check_manifest-clause-first g c =
    let p = err_from_is_err_and c.from_residual.result c.from_residual.ensures.1 in
    rw (p.1, p.2) (of_manifest c.args.files.now c.requires.sizes (Unit {0}) Contents c.in_err-check_manifest.field-0.0 c.in_err-check_manifest.ensures)

pub returns-in_err-contents-clause-first : goal.returns-in_err-contents-clause-first
returns-in_err-contents-clause-first g c =
    let p = err_from_is_err_and c.from_residual-in_err-contents.result c.from_residual-in_err-contents.ensures.1 in
    rw (p.1, p.2)
    (of_files c.args.files.now c.requires.sizes Contents c.in_ok-check_manifest.ensures c.in_err-contents.field-0.0
    (λ fault e. c.in_err-contents.ensures.fault fault (ap (λ a. Err a) e)))

pub returns-in_err-check_components-clause-first : goal.returns-in_err-check_components-clause-first
returns-in_err-check_components-clause-first g c =
    let p = err_from_is_err_and c.from_residual-in_err-check_components.result c.from_residual-in_err-check_components.ensures.1 in
    rw (p.1, p.2)
    (of_components c.args.files.now c.requires.sizes (Unit {0}) Contents c.in_ok-contents.contents c.in_ok-check_manifest.ensures c.in_ok-contents.ensures.held
    c.in_err-check_components.field-0.0 c.in_err-check_components.ensures)

pub returns-clause-first : goal.returns-clause-first
returns-clause-first g c =
    of_none c.args.files.now c.requires.sizes c.in_ok-contents.contents c.in_ok-check_manifest.ensures c.in_ok-contents.ensures.held c.in_ok-check_components.ensures
