use Rattle.std.proofs.Common.{rules}
use Rattle.outside.proofs.Endings.{tested_ending}
use Rattle.channel_folder.proofs.kind.ends_in.Goals as goal

pub returns-in-Some : goal.returns-in-Some
returns-in-Some c = tested_ending _ _ c.in-Some.start _ (search rules) c.eq_ignore_ascii_case.ensures.test c.requires
