use Rattle.std.proofs.Common.{◌≡◌, arith}
use Rattle.std.proofs.lemmas.Grind.{common_steps}
use Rattle.outside.specs.Folder.{paths_below}
use Rattle.outside.proofs.Below.{listing_is}
use Rattle.outside.proofs.memory_files.list_below.Goals as goal

pub returns-clause-listing : goal.returns-clause-listing
returns-clause-listing c =
    let told : c.loop-file.paths.items ≡ paths_below c.args.root.now c.args.files.now = grind (arith, common_steps) in
    listing_is _ _ _ told c.requires
