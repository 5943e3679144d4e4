use Rattle.folder_files.proofs.Reading.{cause_after}
use Rattle.folder_files.proofs.read.read_paths.Goals as goal

pub returns-in-Ok-clause-cause : goal.returns-in-Ok-clause-cause
returns-in-Ok-clause-cause g c = cause_after c.listing_of.result _ _ c.in-Ok.ensures.cause c.listing_of.ensures.cause
