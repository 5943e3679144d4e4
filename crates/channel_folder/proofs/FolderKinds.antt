-- The kinds of faults of a folder, one after another.
use Rattle.std.proofs.Common.{◌≡◌, List, Option, Some, None, Result, Ok, Err, refl, sym, inl, inr}
use Rattle.chan_values.specs.declared.folder_fault.FolderFault.{FolderFault}
use Rattle.outside.specs.declared.files.FileBytes.{FileBytes}
use Rattle.folder_files.specs.Manifest.{first_manifest_fault}
use Rattle.folder_files.specs.SizeFaults.{first_size_fault}
use Rattle.folder_rules.specs.FirstFault as components
use Rattle.channel_folder.specs.declared.answer.CheckAnswer.{CheckAnswer}
use Rattle.channel_folder.specs.declared.answer.CheckAnswer.TheVariants.{Fault, NoMemory}
use Rattle.channel_folder.specs.declared.contents.Contents.{Contents}
use Rattle.channel_folder.specs.Answers.{Finds}
use Rattle.channel_folder.specs.Contents.{Hold, IsFirstOfFiles}
use Rattle.channel_folder.specs.FolderFaults.{IsFirstFault}

module _ (files : List FileBytes) (sizes : first_size_fault files ≡ None) where
  pub of_manifest : (T U : Type 0) (e : CheckAnswer) → Finds {T = T} (λ found. found ≡ first_manifest_fault files) (Err e) → Finds {T = U} (IsFirstFault files) (Err e)
  of_manifest T U (Fault fault) found = inr (sym sizes, inl (fault, (found, refl)))
  of_manifest T U NoMemory found = tt

  pub of_files : (U : Type 0) → None ≡ first_manifest_fault files → (e : CheckAnswer) → ((fault : FolderFault) → e ≡ Fault fault → IsFirstOfFiles files fault) → Finds {T = U} (IsFirstFault files) (Err e)
  of_files U manifest (Fault fault) found = inr (sym sizes, inr (manifest, inl (fault, (found fault refl, refl))))
  of_files U manifest NoMemory found = tt

  pub of_components : (T U : Type 0) (held : Contents) → None ≡ first_manifest_fault files → Hold files held → (e : CheckAnswer)
      → Finds {T = T} (components.IsFirstFault held.components held.sources) (Err e) → Finds {T = U} (IsFirstFault files) (Err e)
  of_components T U held manifest hold (Fault fault) found = inr (sym sizes, inr (manifest, inr ((held, hold), inl (fault, ((held, (hold, found)), refl)))))
  of_components T U held manifest hold NoMemory found = tt

  pub of_none : (held : Contents) → None ≡ first_manifest_fault files → Hold files held → components.IsFirstFault held.components held.sources None → IsFirstFault files None
  of_none held manifest hold found = inr (sym sizes, inr (manifest, inr ((held, hold), inr ((held, (hold, found)), refl))))
