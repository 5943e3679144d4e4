use Rattle.std.proofs.Common.{◌≡◌}
use Rattle.channel_folder.specs.FileFaults.{kind_of}
use Rattle.channel_folder.specs.declared.kind.FileKind.TheVariants.{Other}
use Rattle.channel_folder.proofs.FileParts.{adds_other}
use Rattle.channel_folder.proofs.files.add_file.Goals as goal

pub returns-in-Other-clause-held : goal.returns-in-Other-clause-held
returns-in-Other-clause-held c =
    let other : kind_of c.args.file.now.path ≡ Other = cc (c.in-Other.is, c.kind_of.ensures, c.as_str.ensures.bytes) in
    adds_other c.args.file.now c.args.contents.now other
