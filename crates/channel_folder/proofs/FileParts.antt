-- What a single file adds.
use Rattle.std.proofs.Common.{◌≡◌, false, List, [], ◌∷◌, ◌++◌, Result, Ok, Err, OnOk, refl, sym, ap, ◌∙◌, subst}
use Rattle.std.proofs.lemmas.List.{append-nil}
use Rattle.outside.specs.declared.files.FileBytes.{FileBytes}
use Rattle.brs_grammar.specs.declared.tree.NamedFunction.{NamedFunction}
use Rattle.folder_rules.specs.declared.component.PathedComponent.{PathedComponent}
use Rattle.folder_rules.specs.declared.source.SourceFunctions.{SourceFunctions}
use Rattle.file_faults.specs.SourceFaults.{IsGoodSource}
use Rattle.component_sources.specs.ComponentFaults.{IsGoodComponent}
use Rattle.component_sources.specs.declared.component.CheckedComponent.{CheckedComponent}
use Rattle.channel_folder.specs.declared.contents.Contents.{Contents}
use Rattle.channel_folder.specs.declared.kind.FileKind.{FileKind}
use Rattle.channel_folder.specs.declared.kind.FileKind.TheVariants.{Source, Component, Other}
use Rattle.channel_folder.specs.Contents.{Adds, AddsAs}
use Rattle.channel_folder.specs.DeclaredFunctions.{source_of}
use Rattle.channel_folder.specs.FileFaults.{HoldsAs, both, contents, kind_of, nothing, of_component, of_source}
use Rattle.channel_folder.proofs.FileTurns.{both_nothing}

pub adds_source : (file : FileBytes) (functions : List NamedFunction) (old : Contents) (source : SourceFunctions) (sources : List SourceFunctions)
    → IsGoodSource file.bytes 1 functions → source ≡ source_of file.path false functions → sources ≡ old.sources ++ source ∷ [] → AddsAs Source file old (contents old.components sources)
adds_source file functions old source sources good same more = (
  of_source file.path functions,
  (
    (functions, good, refl),
    ap (λ (cs : List PathedComponent). contents cs sources) (sym (append-nil old.components))
        ∙ ap (contents (old.components ++ [])) (more ∙ ap (λ s. old.sources ++ s ∷ []) same),
  ),
)

pub adds_component : {T E : Type 0} (file : FileBytes) (c : CheckedComponent) (r : Result T E) (old new : Contents)
    → IsGoodComponent file.bytes c → OnOk r (new ≡ both old (of_component file.path c)) → OnOk r (AddsAs Component file old new)
adds_component file c (Ok x) old new good joined = (of_component file.path c, ((c, good, refl), joined))
adds_component file c (Err e) old new good joined = tt

pub adds_other : (file : FileBytes) (old : Contents) → kind_of file.path ≡ Other → Adds file old old
adds_other file old other = (nothing, (subst (λ kind. HoldsAs kind file nothing) (sym other) refl, sym (both_nothing old)))
