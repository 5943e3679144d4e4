use Rattle.std.proofs.Common.{◌+◌, ◌∙◌, ap, sym, arith}
use Rattle.std.specs.Prelude.{option_map}
use Rattle.folder_files.specs.Manifest.{lines_of}
use Rattle.folder_files.proofs.BadLines.{at_line, shifted}
use Rattle.folder_files.proofs.manifest.first_bad_line.Goals as goal

pub overflow_cast-result : goal.overflow_cast-result
overflow_cast-result c = omega (arith, c.requires, at_line c.args.bytes.now c.in-Some.count (sym c.in-Some.ensures))

pub overflow_add-result : goal.overflow_add-result
overflow_add-result c = omega (arith, c.requires, at_line c.args.bytes.now c.in-Some.count (sym c.in-Some.ensures))

pub returns-in-Some : goal.returns-in-Some
returns-in-Some c = sym (shifted 0 (lines_of c.args.bytes.now) ∙ ap (option_map (λ k. k + 1)) (sym c.in-Some.ensures))

pub returns-in-None : goal.returns-in-None
returns-in-None c = sym (shifted 0 (lines_of c.args.bytes.now) ∙ ap (option_map (λ k. k + 1)) (sym c.in-None.ensures))
