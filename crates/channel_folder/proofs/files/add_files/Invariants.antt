use Rattle.std.proofs.Common.{List, ◌++◌, take}
use Rattle.outside.specs.declared.files.FileBytes.{FileBytes}
use Rattle.channel_folder.specs.Contents.{Hold}
use Rattle.channel_folder.proofs.files.add_files.Given as goal

abbrev pub invariant-loop-file : goal.invariant-loop-file
invariant-loop-file l = (before : List FileBytes) → Hold before l.fn.contents → Hold (before ++ take l.file-index l.files) l.contents
