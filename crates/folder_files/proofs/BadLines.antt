-- The first bad line of a manifest, and its number.
use Rattle.std.proofs.Common.{◌≡◌, ℕ, ◌+◌, ◌<◌, ◌≤◌, Bool, true, false, not, cond, eqb, List, [], ◌∷◌, ◌++◌, length, Option, Some, None, if◌then◌else◌, codes, refl, sym, ap, ◌∙◌, subst, arith}
use Rattle.std.specs.Prelude.{slice_get, option_map, map, filter}
use Rattle.std.specs.List.{position_from}
use Rattle.std.specs.Str.{bytes_eq}
use Rattle.std.proofs.lemmas.List.Splits.{length-slice_split}
use Rattle.std.proofs.lemmas.List.Sums.{count_by-le-length}
use Rattle.chan_values.specs.declared.folder_fault.FolderFault.{FolderFault}
use Rattle.outside.specs.declared.files.FileBytes.{FileBytes}
use Rattle.outside.specs.Folder.{content_of}
use Rattle.folder_files.specs.SizeFaults.{fault_of, too_much, is_too_long, too_long, first_size_fault}
use Rattle.folder_files.specs.Manifest.{is_good_line, lines_of, line_fault, line_faults, faults_of_manifest, first_manifest_fault}
use Rattle.folder_files.proofs.Sizes.{lt_tells}

abbrev pub is_bad : List ℕ → Bool
is_bad line = not (is_good_line line)

-- ---- the first

one_line : (good : Bool) (number : ℕ) (rest : List FolderFault) (later : Option ℕ) → slice_get rest 0 ≡ option_map line_fault later
    → slice_get ((if good then [] else line_fault number ∷ []) ++ rest) 0 ≡ option_map line_fault (cond (not good) (Some number) later)
one_line true number rest later e = e
one_line false number rest later e = refl

pub first_line : (number : ℕ) (lines : List (List ℕ)) → slice_get (line_faults number lines) 0 ≡ option_map line_fault (position_from is_bad number lines)
first_line number [] = refl
first_line number (line ∷ lines) = one_line (is_good_line line) number (line_faults (number + 1) lines) (position_from is_bad (number + 1) lines) (first_line (number + 1) lines)

-- ---- its number

shift_one : (bad : Bool) (n : ℕ) (later earlier : Option ℕ) → later ≡ option_map (λ k. k + 1) earlier → cond bad (Some (n + 1)) later ≡ option_map (λ k. k + 1) (cond bad (Some n) earlier)
shift_one true n later earlier e = refl
shift_one false n later earlier e = e

pub shifted : (n : ℕ) (lines : List (List ℕ)) → position_from is_bad (n + 1) lines ≡ option_map (λ k. k + 1) (position_from is_bad n lines)
shifted n [] = refl
shifted n (line ∷ lines) = shift_one (is_bad line) n (position_from is_bad (n + 1 + 1) lines) (position_from is_bad (n + 1) lines) (shifted (n + 1) lines)

within_one : (bad : Bool) (n k m : ℕ) (later : Option ℕ) → ((j : ℕ) → later ≡ Some j → j < n + 1 + m) → cond bad (Some n) later ≡ Some k → k < n + (m + 1)
within_one true n k m later more e = let same : n ≡ k = cc in omega arith
within_one false n k m later more e = omega (arith, more k e)

within : (n k : ℕ) (lines : List (List ℕ)) → position_from is_bad n lines ≡ Some k → k < n + length lines
within n k [] e = absurd (cc)
within n k (line ∷ lines) e = omega (arith, within_one (is_bad line) n k (length lines) (position_from is_bad (n + 1) lines) (λ j f. within (n + 1) j lines f) e)

pub at_line : (bytes : List ℕ) (k : ℕ) → position_from is_bad 0 (lines_of bytes) ≡ Some k → k ≤ length bytes
at_line bytes k e = omega (arith, within 0 k (lines_of bytes) e, length-slice_split (λ b. eqb b 10) bytes, count_by-le-length (λ b. eqb b 10) bytes)

-- ---- a file of a folder within its bounds isn't too long

none_first : (l : List FolderFault) → slice_get l 0 ≡ None → l ≡ []
none_first [] e = refl
none_first (x ∷ xs) e = absurd (cc)

second_empty : (a b : List FolderFault) → a ++ b ≡ [] → b ≡ []
second_empty [] b e = e
second_empty (x ∷ a) b e = absurd (cc)

pub none_long : (files : List FileBytes) → first_size_fault files ≡ None → too_long files ≡ []
none_long files e = second_empty (too_much files) (too_long files) (none_first (too_much files ++ too_long files) e)

head_short : (long : Bool) (file : FileBytes) (rest : List FileBytes) → map (λ (f : FileBytes). fault_of 2 f.path) (cond long (file ∷ rest) rest) ≡ [] → (long ≡ false) × (map (λ (f : FileBytes). fault_of 2 f.path) rest ≡ [])
head_short true file rest e = absurd (cc)
head_short false file rest e = (refl, e)

found_short : (same : Bool) (file : FileBytes) (bytes : List ℕ) (later : Option (List ℕ)) → length file.bytes ≤ 1048576 → (later ≡ Some bytes → length bytes ≤ 1048576)
    → (if same then Some file.bytes else later) ≡ Some bytes → length bytes ≤ 1048576
found_short true file bytes later short more e = let is : file.bytes ≡ bytes = cc in subst (λ bs. length bs ≤ 1048576) is short
found_short false file bytes later short more e = more e

content_short : (files : List FileBytes) (path bytes : List ℕ) → too_long files ≡ [] → content_of files path ≡ Some bytes → length bytes ≤ 1048576
content_short [] path bytes none e = absurd (cc)
content_short (file ∷ files) path bytes none e =
    let head = head_short (is_too_long file) file (filter is_too_long files) none in
    found_short (bytes_eq file.path path) file bytes (content_of files path) (lt_tells 1048576 (length file.bytes) head.0) (content_short files path bytes head.1) e

pub short_content : (files : List FileBytes) (path bytes : List ℕ) → first_size_fault files ≡ None → content_of files path ≡ Some bytes → length bytes ≤ 1048576
short_content files path bytes none e = content_short files path bytes (none_long files none) e

-- ---- the manifest

pub found_line : (files : List FileBytes) (bytes : List ℕ) (line : ℕ) (fault : FolderFault) → Some bytes ≡ content_of files (codes "manifest")
    → Some line ≡ position_from is_bad 1 (lines_of bytes) → fault ≡ line_fault line → Some fault ≡ first_manifest_fault files
found_line files bytes line fault holds at is =
    ap Some is ∙ ap (option_map line_fault) at ∙ sym (first_line 1 (lines_of bytes)) ∙ ap (λ o. slice_get (faults_of_manifest o) 0) holds

pub no_line : (files : List FileBytes) (bytes : List ℕ) → Some bytes ≡ content_of files (codes "manifest")
    → None ≡ position_from is_bad 1 (lines_of bytes) → None ≡ first_manifest_fault files
no_line files bytes holds at = ap (option_map line_fault) at ∙ sym (first_line 1 (lines_of bytes)) ∙ ap (λ o. slice_get (faults_of_manifest o) 0) holds
