use Rattle.std.proofs.Common.{◌∙◌, [], ◌∷◌, ◌++◌, ap, sym}
use Rattle.std.specs.Prelude.{filter}
use Rattle.std.proofs.lemmas.List.{map-append}
use Rattle.std.proofs.lemmas.List.Elements.{filter-append}
use Rattle.folder_rules.specs.Scripts.{is_file, is_inline_in}
use Rattle.script_faults.specs.Sources.{source_of, sources_of}
use Rattle.script_faults.proofs.table.SourceTable.add.Goals as goal

pub returns-in-Ok : goal.returns-in-Ok
returns-in-Ok c = λ before is.
    let s = c.args.source in
    record {
      all = ap sources_of c.in-Ok.ensures.items ∙ map-append source_of _ (s ∷ []) ∙ ap (λ l. l ++ source_of s ∷ []) (ap (λ v. sources_of v.items) c.in_ok-add_by_path.ensures.all ∙ is.all);
      files = λ path. c.in_ok-add_by_path.ensures.files path ∙ ap (λ l. l ++ filter (is_file path) (source_of s ∷ [])) (is.files path) ∙ sym (filter-append (is_file path) before (source_of s ∷ []));
      inline = λ path. c.in_ok-add_by_path.ensures.inline path ∙ ap (λ l. l ++ filter (is_inline_in path) (source_of s ∷ [])) (is.inline path) ∙ sym (filter-append (is_inline_in path) before (source_of s ∷ []));
    }
