use Rattle.std.proofs.Common.{◌≡◌, sym, subst}
use Rattle.folder_files.specs.Answers.{CountsAnswer}
use Rattle.channel_run.proofs.folder.read_channel.Goals as goal

pub returns-in-Ok-clause-cause : goal.returns-in-Ok-clause-cause
returns-in-Ok-clause-cause g c =
    let before = g.F.Files.faults c.args.files.now in
    subst (λ now. CountsAnswer before now c.checked.result) (sym c.in-Ok.ensures.cause) (c.checked.ensures.cause before)
