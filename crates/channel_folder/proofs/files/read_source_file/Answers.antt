use Rattle.std.proofs.Common.{◌≡◌, subst}
use Rattle.file_faults.specs.SourceFaults.{IsGoodSource}
use Rattle.channel_folder.proofs.FileParts.{adds_source}
use Rattle.channel_folder.proofs.files.read_source_file.Goals as goal

pub returns-in_ok-push-in-Ok-clause-held : goal.returns-in_ok-push-in-Ok-clause-held
returns-in_ok-push-in-Ok-clause-held c =
    let good = subst (λ bytes. IsGoodSource bytes 1 c.in-Ok.tree) c.as_slice.ensures c.in-Ok.ensures.tree in
    adds_source c.args.file.now c.in-Ok.tree c.args.contents.now c.in_ok-source-in-Ok.source c.push.new.self good c.in_ok-source-in-Ok.ensures c.in_ok-push-in-Ok.ensures.ok
