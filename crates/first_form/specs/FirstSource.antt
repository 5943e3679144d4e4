-- The tree of a source file of the first form.
use Rattle.std.specs.Prelude.{ℕ, List, Option, None, option_and_then, if◌then◌else◌}
use Rattle.std.specs.Result.{result_ok}
use Rattle.brs_tokens.specs.FirstForm.{is_first_form}
use Rattle.brs_tokens.specs.Spelling.{spelling}
use Rattle.first_form.specs.declared.tree.FirstMain.{FirstMain}
use Rattle.first_form.specs.FirstReading.{first_of}

-- the tree that the tokens spell, where each piece may stand in a file of the first form
abbrev pub first_main_of : List ℕ → Option FirstMain
first_main_of source = if is_first_form source then option_and_then first_of (result_ok (spelling source 1)) else None
