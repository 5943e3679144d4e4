use Rattle.std.proofs.Common.{◌≡◌, drop}
use Rattle.std.specs.BTreeSet.{contains_text}
use Rattle.first_form.specs.FirstForm.{names_good}
use Rattle.first_form.specs.FirstKnown.{lines_in}
use Rattle.first_form.proofs.names.are_names_good.Given as goal

abbrev pub invariant-loop-line : goal.invariant-loop-line
invariant-loop-line l = names_good l.lines ≡ lines_in (contains_text l.known) (drop l.line-index l.lines)
