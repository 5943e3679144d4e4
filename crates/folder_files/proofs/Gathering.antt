-- What is known of the files that were read, with one file more.
use Rattle.std.proofs.Common.{◌≡◌, ℕ, ◌+◌, ◌<◌, ◌≤◌, Bool, true, false, List, [], ◌∷◌, ◌++◌, length, Option, Some, None, Result, Ok, Err, if◌then◌else◌, refl, sym, ap, ◌∙◌, subst, arith}
use Rattle.std.specs.Prelude.{nat_le, slice_get, OnOk}
use Rattle.std.proofs.lemmas.Bool.{leb-true}
use Rattle.std.proofs.lemmas.Bool.Decides.{nat_tests}
use Rattle.std.proofs.lemmas.List.{map-append}
use Rattle.chan_values.specs.declared.folder_fault.FolderFault.{FolderFault}
use Rattle.outside.specs.declared.files.FileBytes.{FileBytes}
use Rattle.outside.specs.declared.files.FileRead.{FileRead}
use Rattle.outside.specs.declared.files.FileRead.TheVariants.{Whole, Longer}
use Rattle.outside.specs.Folder.{read_of}
use Rattle.folder_files.specs.declared.gathered.Gathered.{Gathered as Read}
use Rattle.folder_files.specs.SizeFaults.{fault_of, has_too_many_files, too_long, first_size_fault}
use Rattle.folder_files.specs.Gathered.{paths_of, either, IsGathered, and_file, IsReached, IsWhole}
use Rattle.folder_files.proofs.Sizes.{short_more, longer_more, short_counted, longer_counted, many_bytes, not_much}

abbrev file_with : List ℕ → List ℕ → FileBytes
file_with path bytes = record { path = path; bytes = bytes }

pub paths_more : (files : List FileBytes) (path bytes : List ℕ) → paths_of (and_file files path bytes) ≡ paths_of files ++ path ∷ []
paths_more files path bytes = map-append (λ (f : FileBytes). f.path) files (file_with path bytes ∷ [])

-- ---- what a file was read as

whole_case : (fits : Bool) (b bytes : List ℕ) → nat_le (length bytes) 1048576 ≡ fits → Whole b ≡ (if fits then Whole bytes else Longer) → (b ≡ bytes) × (length bytes ≤ 1048576)
whole_case true b bytes e is = (cc, leb-true (length bytes) 1048576 e)
whole_case false b bytes e is = absurd (cc)

whole_read : (b bytes : List ℕ) → Whole b ≡ read_of 1048576 bytes → (b ≡ bytes) × (length bytes ≤ 1048576)
whole_read b bytes is = whole_case (nat_le (length bytes) 1048576) b bytes refl is

le_fails : (a b : ℕ) → nat_le a b ≡ false → b < a
le_fails a b e = grind (arith, nat_tests)

longer_case : (fits : Bool) (bytes : List ℕ) → nat_le (length bytes) 1048576 ≡ fits → Longer ≡ (if fits then Whole bytes else Longer) → 1048576 < length bytes
longer_case true bytes e is = absurd (cc)
longer_case false bytes e is = le_fails (length bytes) 1048576 e

longer_read : (bytes : List ℕ) → Longer ≡ read_of 1048576 bytes → 1048576 < length bytes
longer_read bytes is = longer_case (nat_le (length bytes) 1048576) bytes refl is

-- ---- one file more

-- a file that isn't too long was added
record AddsWhole (path bytes : List ℕ) (old new : Read) : Type 0 where
  files : new.files ≡ and_file old.files path bytes
  counted : new.counted ≡ old.counted + length bytes
  long : new.too_long ≡ old.too_long

gathered_whole : (files : List FileBytes) (path bytes : List ℕ) (old new : Read) → IsGathered files old → length bytes ≤ 1048576 → AddsWhole path bytes old new → IsGathered (and_file files path bytes) new
gathered_whole files path bytes old new is short adds =
    let same = short_more files (file_with path bytes) short in
    record {
      counted = omega (arith, adds.counted, is.counted, short_counted files (file_with path bytes) short);
      long = adds.long ∙ is.long ∙ sym (ap (λ l. slice_get l 0) same);
      whole = λ none. adds.files ∙ ap (λ fs. and_file fs path bytes) (is.whole (sym same ∙ none));
    }

-- a file that is too long was added
record AddsLonger (path : List ℕ) (old new : Read) : Type 0 where
  counted : new.counted ≡ old.counted + 1048577
  long : new.too_long ≡ either old.too_long (Some (fault_of 2 path))

first_or : (l : List FolderFault) (x : FolderFault) → either (slice_get l 0) (Some x) ≡ slice_get (l ++ x ∷ []) 0
first_or [] x = refl
first_or (y ∷ ys) x = refl

not_empty : (l : List FolderFault) (x : FolderFault) → l ++ x ∷ [] ≡ [] → ⊥
not_empty [] x e = absurd (cc)
not_empty (y ∷ ys) x e = absurd (cc)

gathered_longer : (files : List FileBytes) (path bytes : List ℕ) (old new : Read) → IsGathered files old → 1048576 < length bytes → AddsLonger path old new → IsGathered (and_file files path bytes) new
gathered_longer files path bytes old new is long adds =
    let more = longer_more files (file_with path bytes) long in
    record {
      counted = omega (arith, adds.counted, is.counted, longer_counted files (file_with path bytes) long);
      long = adds.long ∙ ap (λ o. either o (Some (fault_of 2 path))) is.long ∙ first_or (too_long files) (fault_of 2 path) ∙ sym (ap (λ l. slice_get l 0) more);
      whole = λ none. absurd (not_empty (too_long files) (fault_of 2 path) (sym more ∙ none));
    }

-- ---- the clauses of `add`

pub whole_told : {T E : Type 0} (r : Result T E) (path b : List ℕ) (old new : Read)
    → OnOk r (new.files ≡ and_file old.files path b) → OnOk r (new.counted ≡ old.counted + length b) → OnOk r (new.too_long ≡ old.too_long)
    → OnOk r ((files : List FileBytes) (bytes : List ℕ) → Whole b ≡ read_of 1048576 bytes → IsGathered files old → IsGathered (and_file files path bytes) new)
whole_told (Ok x) path b old new e f g = λ files bytes read is.
    let said = whole_read b bytes read in
    subst (λ bs. IsGathered (and_file files path bs) new) said.0
    (gathered_whole files path b old new is (subst (λ bs. length bs ≤ 1048576) (sym said.0) said.1) (record { files = e; counted = f; long = g }))
whole_told (Err x) path b old new e f g = tt

pub whole_kept : {T E : Type 0} (r : Result T E) (path b : List ℕ) (old new : Read) → length b ≤ 1048576
    → OnOk r (new.files ≡ and_file old.files path b) → OnOk r (new.counted ≡ old.counted + length b) → OnOk r (new.too_long ≡ old.too_long)
    → OnOk r (IsWhole old → IsWhole new)
whole_kept (Ok x) path b old new short e f g = λ is none.
    subst (λ fs. IsGathered fs new) (sym e) (gathered_whole old.files path b old new (is (sym g ∙ none)) short (record { files = e; counted = f; long = g }))
whole_kept (Err x) path b old new short e f g = tt

pub longer_told : {T E : Type 0} (r : Result T E) (path : List ℕ) (old new : Read)
    → OnOk r (new.counted ≡ old.counted + 1048577) → OnOk r (new.too_long ≡ either old.too_long (Some (fault_of 2 path)))
    → OnOk r ((files : List FileBytes) (bytes : List ℕ) → Longer ≡ read_of 1048576 bytes → IsGathered files old → IsGathered (and_file files path bytes) new)
longer_told (Ok x) path old new f g = λ files bytes read is. gathered_longer files path bytes old new is (longer_read bytes read) (record { counted = f; long = g })
longer_told (Err x) path old new f g = tt

pub longer_told_of : {T E : Type 0} (r : Result T E) (read : FileRead) (path : List ℕ) (old new : Read) → read ≡ Longer
    → OnOk r (new.counted ≡ old.counted + 1048577) → OnOk r (new.too_long ≡ either old.too_long (Some (fault_of 2 path)))
    → OnOk r ((files : List FileBytes) (bytes : List ℕ) → read ≡ read_of 1048576 bytes → IsGathered files old → IsGathered (and_file files path bytes) new)
longer_told_of r read path old new is f g =
    subst (λ (x : FileRead). OnOk r ((files : List FileBytes) (bytes : List ℕ) → x ≡ read_of 1048576 bytes → IsGathered files old → IsGathered (and_file files path bytes) new)) (sym is) (longer_told r path old new f g)

never_none : (o : Option FolderFault) (x : FolderFault) → either o (Some x) ≡ None → ⊥
never_none None x e = absurd (cc)
never_none (Some y) x e = absurd (cc)

pub longer_kept : {T E : Type 0} (r : Result T E) (path : List ℕ) (old new : Read)
    → OnOk r (new.too_long ≡ either old.too_long (Some (fault_of 2 path))) → OnOk r (IsWhole old → IsWhole new)
longer_kept (Ok x) path old new g = λ is none. absurd (never_none old.too_long (fault_of 2 path) (sym g ∙ none))
longer_kept (Err x) path old new g = tt

pub paths_told : {T E : Type 0} (r : Result T E) (path bytes : List ℕ) (old new : Read) → OnOk r (new.files ≡ and_file old.files path bytes)
    → OnOk r (paths_of new.files ≡ paths_of old.files ++ path ∷ [])
paths_told (Ok x) path bytes old new e = ap paths_of e ∙ paths_more old.files path bytes
paths_told (Err x) path bytes old new e = tt

-- ---- at the start

pub gathered_none : (read : Read) → read.files ≡ [] → read.counted ≡ 0 → read.too_long ≡ None → IsGathered [] read
gathered_none read e f g = record { counted = f; long = g; whole = λ none. e }

pub whole_none : (read : Read) → read.files ≡ [] → read.counted ≡ 0 → read.too_long ≡ None → IsWhole read
whole_none read e f g none = subst (λ fs. IsGathered fs read) (sym e) (gathered_none read e f g)

-- ---- at the end

none_first : (l : List FolderFault) → slice_get l 0 ≡ None → l ≡ []
none_first [] e = refl
none_first (x ∷ xs) e = absurd (cc)

pub decided_much : (files : List FileBytes) (read : Read) → IsReached files read → 16777216 < read.counted → first_size_fault files ≡ Some (fault_of 1 [])
decided_much files read is much = many_bytes files (is.much much)

pub decided_long : (files : List FileBytes) (read : Read) (fault : FolderFault) → has_too_many_files files ≡ false → IsReached files read → read.counted ≤ 16777216 → read.too_long ≡ Some fault → first_size_fault files ≡ Some fault
decided_long files read fault few is less long =
    let all = is.all less in
    not_much files few (omega (arith, less, all.counted)) ∙ sym all.long ∙ long

pub decided_whole : (files : List FileBytes) (read : Read) → has_too_many_files files ≡ false → IsReached files read → read.counted ≤ 16777216 → read.too_long ≡ None → (read.files ≡ files) × (first_size_fault files ≡ None)
decided_whole files read few is less none =
    let all = is.all less in
    (all.whole (none_first (too_long files) (sym all.long ∙ none)), not_much files few (omega (arith, less, all.counted)) ∙ sym all.long ∙ none)

-- the files that are there, where none is too long
pub decided_here : (read : Read) → IsWhole read → has_too_many_files read.files ≡ false → read.counted ≤ 16777216 → read.too_long ≡ None → first_size_fault read.files ≡ None
decided_here read is few less none =
    let all = is none in
    not_much read.files few (omega (arith, less, all.counted)) ∙ sym all.long ∙ none
