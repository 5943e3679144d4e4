use Rattle.std.proofs.Common.{codes}
use Rattle.script_faults.proofs.Paths.{strips}
use Rattle.script_faults.proofs.uris.from_root.Goals as goal

pub returns : goal.returns
returns c = strips (codes "pkg:/") c.args.uri.now c.strip_prefix.result c.strip_prefix.ensures.cases
