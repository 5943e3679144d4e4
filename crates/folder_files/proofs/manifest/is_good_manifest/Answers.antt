use Rattle.std.proofs.Common.{rules, eqb, tests}
use Rattle.std.proofs.lemmas.Iterator.Search.{all_from_yields_List}
use Rattle.std.proofs.lemmas.Iterator.Splits.{YieldsList-from_slice_split}
use Rattle.folder_files.specs.Manifest.{is_good_line}
use Rattle.folder_files.proofs.manifest.is_good_manifest.Goals as goal

pub returns : goal.returns
returns c =
    all_from_yields_List is_good_line _ _ _ c.all.ensures.ran
    (YieldsList-from_slice_split _ (λ b. eqb b 10) c.args.bytes.now c.split.ensures.rest c.split.ensures.done c.split.ensures.closure (λ x b q k. search (rules, tests)))
    (λ x b q k. search (rules, tests))
