use Rattle.std.proofs.Common.{◌≡◌, ◌≤◌, ◌∙◌, Some, ap, sym, subst, codes, length}
use Rattle.std.specs.List.{position_from}
use Rattle.folder_files.specs.Manifest.{lines_of}
use Rattle.folder_files.proofs.BadLines.{is_bad, short_content, found_line, no_line}
use Rattle.folder_files.proofs.manifest.first_manifest_fault.Goals as goal

pub first_bad_line-requires : goal.first_bad_line-requires
first_bad_line-requires c =
    subst (λ bs. length bs ≤ 1048576) (sym c.as_slice.ensures) (short_content c.args.files.now (codes "manifest") c.in-Some.bytes.now c.requires (sym c.in-Some.ensures))

pub returns-in_ok-line_fault-in-Some-first_bad_line : goal.returns-in_ok-line_fault-in-Some-first_bad_line
returns-in_ok-line_fault-in-Some-first_bad_line c =
    let at : Some c.in-Some-first_bad_line.line ≡ position_from is_bad 1 (lines_of c.in-Some.bytes.now) = c.in-Some-first_bad_line.ensures ∙ ap (λ bs. position_from is_bad 1 (lines_of bs)) c.as_slice.ensures in
    found_line c.args.files.now c.in-Some.bytes.now c.in-Some-first_bad_line.line c.in_ok-line_fault-in-Some-first_bad_line.field-0 c.in-Some.ensures at c.in_ok-line_fault-in-Some-first_bad_line.ensures

pub returns-in-None-first_bad_line : goal.returns-in-None-first_bad_line
returns-in-None-first_bad_line c =
    no_line c.args.files.now c.in-Some.bytes.now c.in-Some.ensures (c.in-None-first_bad_line.ensures ∙ ap (λ bs. position_from is_bad 1 (lines_of bs)) c.as_slice.ensures)
