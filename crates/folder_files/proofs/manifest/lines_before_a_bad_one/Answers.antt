use Rattle.std.proofs.Common.{◌∙◌, eqb, rules, tests}
use Rattle.std.proofs.lemmas.Iterator.Adapters.{position_from-zero}
use Rattle.std.proofs.lemmas.Iterator.Search.{position_from_yields_List}
use Rattle.std.proofs.lemmas.Iterator.Splits.{YieldsList-from_slice_split}
use Rattle.folder_files.specs.Manifest.{lines_of}
use Rattle.folder_files.proofs.BadLines.{is_bad}
use Rattle.folder_files.proofs.manifest.lines_before_a_bad_one.Goals as goal

pub returns : goal.returns
returns c =
    position_from_yields_List is_bad _ _ _ c.position.ensures.ran
    (YieldsList-from_slice_split _ (λ b. eqb b 10) c.args.bytes.now c.split.ensures.rest c.split.ensures.done c.split.ensures.closure (λ x b q k. search (rules, tests)))
    (λ x b q k. search (rules, tests))
    ∙ position_from-zero is_bad (lines_of c.args.bytes.now)
