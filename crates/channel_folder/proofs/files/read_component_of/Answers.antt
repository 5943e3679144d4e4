use Rattle.std.proofs.Common.{◌≡◌, subst}
use Rattle.component_sources.specs.ComponentFaults.{IsGoodComponent}
use Rattle.channel_folder.proofs.FileParts.{adds_component}
use Rattle.channel_folder.proofs.files.read_component_of.Goals as goal

pub returns-in-Ok-clause-held : goal.returns-in-Ok-clause-held
returns-in-Ok-clause-held c =
    let good = subst (λ bytes. IsGoodComponent bytes c.in-Ok.component) c.as_slice.ensures c.in-Ok.ensures.file in
    adds_component c.args.file.now c.in-Ok.component c.add_component.result c.args.contents.now c.add_component.new.contents good c.add_component.ensures.held
