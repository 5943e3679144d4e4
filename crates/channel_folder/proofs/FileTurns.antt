-- The turns of the loop over the files of a folder.
use Rattle.std.proofs.Common.{◌≡◌, ℕ, zero, suc, ◌+◌, ◌<◌, ◌≤◌, ◌⊎◌, inl, inr, Bool, true, false, cond, List, [], ◌∷◌, ◌++◌, length, take, drop, get_or, map, refl, sym, ap, ◌∙◌, subst, arith, append_assoc}
use Rattle.std.specs.Prelude.{filter}
use Rattle.std.proofs.Math.Seq.{drop-cons}
use Rattle.std.proofs.lemmas.List.{append-nil, map-append, take_more, take-append-drop}
use Rattle.std.proofs.lemmas.List.Elements.{filter-append}
use Rattle.chan_values.specs.declared.folder_fault.FolderFault.{FolderFault}
use Rattle.outside.specs.declared.files.FileBytes.{FileBytes}
use Rattle.folder_rules.specs.declared.component.PathedComponent.{PathedComponent}
use Rattle.folder_rules.specs.declared.source.SourceFunctions.{SourceFunctions}
use Rattle.channel_folder.specs.declared.contents.Contents.{Contents}
use Rattle.channel_folder.specs.FileFaults.{contents, nothing, both, Holds, IsFaultOf}
use Rattle.channel_folder.specs.Contents.{Hold, IsFirstOfFiles, Adds}
use Rattle.folder_files.specs.SizeFaults.{fault_of, is_too_long, too_long}
use Rattle.folder_files.proofs.Sizes.{lt_tells}

both_assoc : (a b c : Contents) → both (both a b) c ≡ both a (both b c)
both_assoc a b c =
    ap (λ (cs : List PathedComponent). contents cs ((a.sources ++ b.sources) ++ c.sources)) (append_assoc a.components b.components c.components)
    ∙ ap (contents (a.components ++ (b.components ++ c.components))) (append_assoc a.sources b.sources c.sources)

pub both_nothing : (a : Contents) → both a nothing ≡ contents a.components a.sources
both_nothing a = ap (λ (cs : List PathedComponent). contents cs (a.sources ++ [])) (append-nil a.components) ∙ ap (contents a.components) (append-nil a.sources)

pub hold_more : (files : List FileBytes) (file : FileBytes) (held here : Contents) → Hold files held → Holds file here → Hold (files ++ file ∷ []) (both held here)
hold_more [] file held here none is = (here, nothing, (is, refl, ap (λ h. both h here) none ∙ sym (both_nothing here)))
hold_more (f ∷ fs) file held here (first, more, (holds, rest, joins)) is =
    (first, both more here, (holds, hold_more fs file more here rest is, ap (λ h. both h here) joins ∙ both_assoc first more here))

pub fault_here : (files after : List FileBytes) (file : FileBytes) (held : Contents) (fault : FolderFault) → Hold files held → IsFaultOf file fault → IsFirstOfFiles (files ++ file ∷ after) fault
fault_here [] after file held fault none is = inl is
fault_here (f ∷ fs) after file held fault (first, more, (holds, rest, joins)) is = inr (first, (holds, fault_here fs after file more fault rest is))

-- ---- a file more, in a loop

pub adds_more : (files : List FileBytes) (file : FileBytes) (old new : Contents) → Hold files old → Adds file old new → Hold (files ++ file ∷ []) new
adds_more files file old new held (here, (holds, joined)) = subst (Hold (files ++ file ∷ [])) (sym joined) (hold_more files file old here held holds)

next_front : (before files : List FileBytes) (i : ℕ) (file : FileBytes) → i < length files → file ≡ get_or files i file → (before ++ take i files) ++ file ∷ [] ≡ before ++ take (i + 1) files
next_front before files i file here at =
    append_assoc before (take i files) (file ∷ [])
    ∙ ap (λ fs. before ++ fs) (ap (λ f. take i files ++ f ∷ []) at ∙ sym (take_more files i file here))

pub hold_next : (before files : List FileBytes) (i : ℕ) (file : FileBytes) (old new : Contents) → i < length files → file ≡ get_or files i file
    → Hold (before ++ take i files) old → Adds file old new → Hold (before ++ take (i + 1) files) new
hold_next before files i file old new here at held adds =
    subst (λ fs. Hold fs new) (next_front before files i file here at) (adds_more (before ++ take i files) file old new held adds)

split_here : (before files after : List FileBytes) (i : ℕ) (file : FileBytes) → i < length files → file ≡ get_or files i file
    → (before ++ take i files) ++ file ∷ (drop (suc i) files ++ after) ≡ before ++ (files ++ after)
split_here before files after i file here at =
    append_assoc before (take i files) (file ∷ (drop (suc i) files ++ after))
    ∙ ap (λ fs. before ++ fs)
    (sym (append_assoc (take i files) (file ∷ drop (suc i) files) after)
    ∙ ap (λ fs. fs ++ after) (ap (λ fs. take i files ++ fs) (ap (λ f. f ∷ drop (suc i) files) at ∙ sym (drop-cons files i file here)) ∙ take-append-drop i files))

pub fault_next : (before files after : List FileBytes) (i : ℕ) (file : FileBytes) (held : Contents) (fault : FolderFault) → i < length files → file ≡ get_or files i file
    → Hold (before ++ take i files) held → IsFaultOf file fault → IsFirstOfFiles (before ++ (files ++ after)) fault
fault_next before files after i file held fault here at hold is =
    subst (λ fs. IsFirstOfFiles fs fault) (split_here before files after i file here at) (fault_here (before ++ take i files) (drop (suc i) files ++ after) file held fault hold is)

-- ---- files none of which is too long

abbrev long_fault : FileBytes → FolderFault
long_fault file = fault_of 2 file.path

both_empty : (xs ys : List FolderFault) → xs ++ ys ≡ [] → (xs ≡ []) × (ys ≡ [])
both_empty [] ys e = (refl, e)
both_empty (x ∷ xs) ys e = absurd (cc)

long_parts : (a b : List FileBytes) → too_long (a ++ b) ≡ too_long a ++ too_long b
long_parts a b = ap (map long_fault) (filter-append is_too_long a b) ∙ map-append long_fault (filter is_too_long a) (filter is_too_long b)

pub short_parts : (a b : List FileBytes) → too_long (a ++ b) ≡ [] → (too_long a ≡ []) × (too_long b ≡ [])
short_parts a b none = both_empty (too_long a) (too_long b) (sym (long_parts a b) ∙ none)

pub short_at : (files : List FileBytes) (i : ℕ) (file : FileBytes) → too_long files ≡ [] → i < length files → file ≡ get_or files i file → length file.bytes ≤ 1048576
short_at [] i file none here at = absurd (omega arith)
short_at (f ∷ fs) zero file none here at = subst (λ (g : FileBytes). length g.bytes ≤ 1048576) (sym at) (head (is_too_long f) refl none)
  where
    head : (t : Bool) → is_too_long f ≡ t → map (λ file. fault_of 2 file.path) (cond t (f ∷ filter is_too_long fs) (filter is_too_long fs)) ≡ [] → length f.bytes ≤ 1048576
    head true e n = absurd (cc)
    head false e n = lt_tells 1048576 (length f.bytes) e
short_at (f ∷ fs) (suc i) file none here at = short_at fs i file (tail (is_too_long f) none) (omega arith) at
  where
    tail : (t : Bool) → map (λ file. fault_of 2 file.path) (cond t (f ∷ filter is_too_long fs) (filter is_too_long fs)) ≡ [] → too_long fs ≡ []
    tail true n = absurd (cc)
    tail false n = n

-- ---- both halves

module _ (files first second : List FileBytes) (halves : first ++ second ≡ files) where
  pub halves_hold : (a b : Contents) → ((before : List FileBytes) → Hold before nothing → Hold (before ++ first) a) → ((before : List FileBytes) → Hold before a → Hold (before ++ second) b) → Hold files b
  halves_hold a b one two = subst (λ fs. Hold fs b) halves (two first (one [] refl))

  pub first_half : (fault : FolderFault) → IsFirstOfFiles (first ++ second) fault → IsFirstOfFiles files fault
  first_half fault is = subst (λ fs. IsFirstOfFiles fs fault) halves is

  pub second_half : (fault : FolderFault) → IsFirstOfFiles (first ++ (second ++ [])) fault → IsFirstOfFiles files fault
  second_half fault is = first_half fault (subst (λ fs. IsFirstOfFiles (first ++ fs) fault) (append-nil second) is)

  pub halves_short : too_long files ≡ [] → (too_long first ≡ []) × (too_long second ≡ [])
  halves_short none = short_parts first second (ap too_long halves ∙ none)

pub halves_of : (files first second : List FileBytes) (n : ℕ) → first ≡ take n files → second ≡ drop n files → first ++ second ≡ files
halves_of files first second n front back =
    ap (λ fs. fs ++ second) front ∙ (ap (λ fs. take n files ++ fs) back ∙ take-append-drop n files)
