-- A folder has at most one first fault.
use Rattle.std.proofs.Common.{◌≡◌, ℕ, ◌⊎◌, inl, inr, List, [], ◌∷◌, Option, Some, None, Result, Ok, Err, refl, sym, ap, ◌∙◌, subst}
use Rattle.chan_values.specs.declared.folder_fault.FolderFault.{FolderFault}
use Rattle.outside.specs.declared.files.FileBytes.{FileBytes}
use Rattle.brs_grammar.specs.declared.tree.NamedFunction.{NamedFunction}
use Rattle.file_faults.specs.SourceFaults.{IsGoodSource, IsSourceFault}
use Rattle.file_faults.specs.declared.source.SourceFault.{SourceFault}
use Rattle.component_sources.specs.ComponentFaults.{IsGoodComponent, IsComponentFault}
use Rattle.component_sources.specs.declared.component.CheckedComponent.{CheckedComponent}
use Rattle.component_sources.specs.declared.component.ComponentFault.{ComponentFault}
use Rattle.folder_rules.specs.declared.component.PathedComponent.{PathedComponent}
use Rattle.folder_rules.specs.declared.source.SourceFunctions.{SourceFunctions}
use Rattle.folder_rules.specs.FirstFault as rules
use Rattle.folder_rules.specs.FirstFault.{FaultKind, DuplicateComponent, UnknownBase, Cycle, MissingScript, DuplicateFunction, DuplicateField, BadFieldType, BadFieldValue, UnknownFunction, UnknownChild, NoMain, fault_kinds, IsFirstWrong, IsFirstOfKind}
use Rattle.channel_folder.specs.declared.answer.CheckAnswer.{CheckAnswer}
use Rattle.channel_folder.specs.declared.answer.CheckAnswer.TheVariants.{Fault, NoMemory}
use Rattle.channel_folder.specs.declared.contents.Contents.{Contents}
use Rattle.channel_folder.specs.declared.kind.FileKind.{FileKind}
use Rattle.channel_folder.specs.declared.kind.FileKind.TheVariants.{Source, Component, Other}
use Rattle.channel_folder.specs.Answers.{Finds}
use Rattle.channel_folder.specs.Contents.{Hold, IsFirstOfFiles}
use Rattle.channel_folder.specs.FileFaults.{HoldsAs, IsFaultAs, both, of_source, of_component, kind_of}
use Rattle.channel_folder.specs.FolderFaults.{Kinds, OfSizes, OfManifest, OfFiles, OfComponents, all_kinds, IsFirstOf, IsFirstOfKinds, IsFirstFault}
use Rattle.channel_folder.specs.Words.{source_fault, component_fault}

-- what is known of single files
pub record FileLaws : Type 0 where
  pub one_tree : (src : List ℕ) (n : ℕ) (a b : List NamedFunction) → IsGoodSource src n a → IsGoodSource src n b → a ≡ b
  pub one_fault : (src : List ℕ) (n : ℕ) (a b : SourceFault) → IsSourceFault src n a → IsSourceFault src n b → a ≡ b
  pub never_both : (src : List ℕ) (n : ℕ) (functions : List NamedFunction) (fault : SourceFault) → IsGoodSource src n functions → IsSourceFault src n fault → ⊥
  pub one_component : (bytes : List ℕ) (a b : CheckedComponent) → IsGoodComponent bytes a → IsGoodComponent bytes b → a ≡ b
  pub one_component_fault : (bytes : List ℕ) (a b : ComponentFault) → IsComponentFault bytes a → IsComponentFault bytes b → a ≡ b
  pub never_both_of_components : (bytes : List ℕ) (c : CheckedComponent) (fault : ComponentFault) → IsGoodComponent bytes c → IsComponentFault bytes fault → ⊥

some_or_none : {A : Type 0} (a : A) → Some a ≡ None → ⊥
some_or_none a e = absurd (cc)

-- ---- one file

holds_one : FileLaws → (kind : FileKind) (file : FileBytes) (a b : Contents) → HoldsAs kind file a → HoldsAs kind file b → a ≡ b
holds_one laws Source file a b (f, is, e) (g, also, d) = e ∙ (ap (of_source file.path) (laws.one_tree file.bytes 1 f g is also) ∙ sym d)
holds_one laws Component file a b (f, is, e) (g, also, d) = e ∙ (ap (of_component file.path) (laws.one_component file.bytes f g is also) ∙ sym d)
holds_one laws Other file a b e d = e ∙ sym d

fault_one : FileLaws → (kind : FileKind) (file : FileBytes) (a b : FolderFault) → IsFaultAs kind file a → IsFaultAs kind file b → a ≡ b
fault_one laws Source file a b (f, is, e) (g, also, d) = e ∙ (ap (source_fault file.path) (laws.one_fault file.bytes 1 f g is also) ∙ sym d)
fault_one laws Component file a b (f, is, e) (g, also, d) = e ∙ (ap (component_fault file.path) (laws.one_component_fault file.bytes f g is also) ∙ sym d)
fault_one laws Other file a b e d = absurd e

never_both : FileLaws → (kind : FileKind) (file : FileBytes) (a : Contents) (b : FolderFault) → HoldsAs kind file a → IsFaultAs kind file b → ⊥
never_both laws Source file a b (f, is, e) (g, also, d) = laws.never_both file.bytes 1 f g is also
never_both laws Component file a b (f, is, e) (g, also, d) = laws.never_both_of_components file.bytes f g is also
never_both laws Other file a b e d = d

-- ---- files

hold_one : FileLaws → (files : List FileBytes) (a b : Contents) → Hold files a → Hold files b → a ≡ b
hold_one laws [] a b e d = e ∙ sym d
hold_one laws (file ∷ files) a b (h, more, (is, are, e)) (k, others, (also, too, d)) =
    e ∙ (ap (λ c. both c more) (holds_one laws (kind_of file.path) file h k is also) ∙ (ap (both k) (hold_one laws files more others are too) ∙ sym d))

first_one : FileLaws → (files : List FileBytes) (a b : FolderFault) → IsFirstOfFiles files a → IsFirstOfFiles files b → a ≡ b
first_one laws [] a b e d = absurd e
first_one laws (file ∷ files) a b (inl x) (inl y) = fault_one laws (kind_of file.path) file a b x y
first_one laws (file ∷ files) a b (inl x) (inr (h, (is, y))) = absurd (never_both laws (kind_of file.path) file h a is x)
first_one laws (file ∷ files) a b (inr (h, (is, x))) (inl y) = absurd (never_both laws (kind_of file.path) file h b is y)
first_one laws (file ∷ files) a b (inr (h, (is, x))) (inr (k, (also, y))) = first_one laws files a b x y

good_or_first : FileLaws → (files : List FileBytes) (a : Contents) (b : FolderFault) → Hold files a → IsFirstOfFiles files b → ⊥
good_or_first laws [] a b hold e = e
good_or_first laws (file ∷ files) a b (h, more, (is, are, e)) (inl y) = never_both laws (kind_of file.path) file h b is y
good_or_first laws (file ∷ files) a b (h, more, (is, are, e)) (inr (k, (also, y))) = good_or_first laws files more b are y

-- ---- components

wrong_one : {A : Type 0} (wrong : A → Type 0) (fault : A → FolderFault) (xs : List A) (a b : Option FolderFault) → IsFirstWrong wrong fault xs a → IsFirstWrong wrong fault xs b → a ≡ b
wrong_one wrong fault [] a b e d = e ∙ sym d
wrong_one wrong fault (x ∷ xs) a b (inl (is, e)) (inl (also, d)) = e ∙ sym d
wrong_one wrong fault (x ∷ xs) a b (inl (is, e)) (inr (isnt, more)) = absurd (isnt is)
wrong_one wrong fault (x ∷ xs) a b (inr (isnt, more)) (inl (is, e)) = absurd (isnt is)
wrong_one wrong fault (x ∷ xs) a b (inr (isnt, more)) (inr (too, others)) = wrong_one wrong fault xs a b more others

module _ (components : List PathedComponent) (sources : List SourceFunctions) where
  rule_one : (kind : FaultKind) (a b : Option FolderFault) → IsFirstOfKind components sources kind a → IsFirstOfKind components sources kind b → a ≡ b
  rule_one DuplicateComponent a b x y = x ∙ sym y
  rule_one UnknownBase a b x y = x ∙ sym y
  rule_one Cycle a b x y = wrong_one _ _ components a b x y
  rule_one MissingScript a b x y = x ∙ sym y
  rule_one DuplicateFunction a b x y = x ∙ sym y
  rule_one DuplicateField a b x y = x ∙ sym y
  rule_one BadFieldType a b x y = x ∙ sym y
  rule_one BadFieldValue a b x y = wrong_one _ _ _ a b x y
  rule_one UnknownFunction a b x y = x ∙ sym y
  rule_one UnknownChild a b x y = x ∙ sym y
  rule_one NoMain a b x y = x ∙ sym y

  rules_one : (kinds : List FaultKind) (a b : Option FolderFault) → rules.IsFirstOfKinds components sources kinds a → rules.IsFirstOfKinds components sources kinds b → a ≡ b
  rules_one [] a b x y = x ∙ sym y
  rules_one (kind ∷ kinds) a b (inl (f, x, e)) (inl (g, y, d)) = e ∙ (rule_one kind (Some f) (Some g) x y ∙ sym d)
  rules_one (kind ∷ kinds) a b (inl (f, x, e)) (inr (none, y)) = absurd (some_or_none f (rule_one kind (Some f) None x none))
  rules_one (kind ∷ kinds) a b (inr (none, x)) (inl (f, y, e)) = absurd (some_or_none f (rule_one kind (Some f) None y none))
  rules_one (kind ∷ kinds) a b (inr (none, x)) (inr (also, y)) = rules_one kinds a b x y

-- ---- the folder

module _ (laws : FileLaws) (files : List FileBytes) where
  kind_one : (kind : Kinds) (a b : Option FolderFault) → IsFirstOf files kind a → IsFirstOf files kind b → a ≡ b
  kind_one OfSizes a b x y = x ∙ sym y
  kind_one OfManifest a b x y = x ∙ sym y
  kind_one OfFiles None None x y = refl
  kind_one OfFiles None (Some g) (held, hold) y = absurd (good_or_first laws files held g hold y)
  kind_one OfFiles (Some f) None x (held, hold) = absurd (good_or_first laws files held f hold x)
  kind_one OfFiles (Some f) (Some g) x y = ap Some (first_one laws files f g x y)
  kind_one OfComponents a b (held, (hold, x)) (same, (also, y)) =
      rules_one same.components same.sources fault_kinds a b (subst (λ (c : Contents). rules.IsFirstFault c.components c.sources a) (hold_one laws files held same hold also) x) y

  kinds_one : (kinds : List Kinds) (a b : Option FolderFault) → IsFirstOfKinds files kinds a → IsFirstOfKinds files kinds b → a ≡ b
  kinds_one [] a b x y = x ∙ sym y
  kinds_one (kind ∷ kinds) a b (inl (f, (x, e))) (inl (g, (y, d))) = e ∙ (kind_one kind (Some f) (Some g) x y ∙ sym d)
  kinds_one (kind ∷ kinds) a b (inl (f, (x, e))) (inr (none, y)) = absurd (some_or_none f (kind_one kind (Some f) None x none))
  kinds_one (kind ∷ kinds) a b (inr (none, x)) (inl (f, (y, e))) = absurd (some_or_none f (kind_one kind (Some f) None y none))
  kinds_one (kind ∷ kinds) a b (inr (none, x)) (inr (also, y)) = kinds_one kinds a b x y

  pub one_first_fault : (a b : Option FolderFault) → IsFirstFault files a → IsFirstFault files b → a ≡ b
  one_first_fault a b x y = kinds_one all_kinds a b x y

-- what is found is the one that is there
pub finds_the_one : (T : Type 0) (files : List FileBytes) (r : Result T CheckAnswer) → ((a b : Option FolderFault) → IsFirstFault files a → IsFirstFault files b → a ≡ b)
    → Finds (IsFirstFault files) r → (found : Option FolderFault) → IsFirstFault files found → Finds (λ o. o ≡ found) r
finds_the_one T files (Ok t) one first found is = one None found first is
finds_the_one T files (Err (Fault fault)) one first found is = one (Some fault) found first is
finds_the_one T files (Err NoMemory) one first found is = tt
