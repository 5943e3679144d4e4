use Rattle.std.proofs.Common.{◌≡◌, ◌++◌, ap, sym, ◌∙◌, subst}
use Rattle.std.specs.List.{flat_map}
use Rattle.xml_pieces.specs.Written.{spelled}
use Rattle.component_writer.specs.Aside.{ReadsAs}
use Rattle.component_writer.specs.Spelling.{file_pieces}
use Rattle.component_writer.proofs.Whole.{spelling_is_read}
use Rattle.component_writer.proofs.write.write_component.Goals as goal

pub returns-clause-reads : goal.returns-clause-reads
returns-clause-reads c =
    let is : c.put_file.new.out.items ≡ flat_map spelled (file_pieces c.args.file.now) =
    c.in_ok-put_file.ensures ∙ ap (λ z. z ++ flat_map spelled (file_pieces c.args.file.now)) c.new-out.ensures.items in
    subst (λ bytes. ReadsAs bytes c.args.file.now) (sym is) (spelling_is_read c.args.file.now c.requires)
