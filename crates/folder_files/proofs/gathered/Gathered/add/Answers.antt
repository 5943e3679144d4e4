use Rattle.folder_files.proofs.Gathering.{longer_told_of}
use Rattle.folder_files.proofs.gathered.Gathered.add.Goals as goal

pub returns-in-Longer-clause-gathered : goal.returns-in-Longer-clause-gathered
returns-in-Longer-clause-gathered c =
    longer_told_of c.add_longer.result c.args.read c.args.path.now c.args.self.now c.add_longer.new.self c.in-Longer.is c.add_longer.ensures.counted c.add_longer.ensures.too_long
