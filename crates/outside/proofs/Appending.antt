-- What is appended to files.
use Rattle.std.proofs.Common.{◌≡◌, ◌≢◌, ℕ, zero, suc, Bool, true, false, ◌+◌, ◌<◌, ◌≤◌, List, [], ◌∷◌, ◌++◌, length, map, take, drop, Option, None, Some, if◌then◌else◌, unwrap_or, refl, sym, ap, ◌∙◌, subst, arith, get_or, append_assoc}
use Rattle.std.specs.Prelude.{slice_set}
use Rattle.std.specs.List.{AllByRecursion, insert}
use Rattle.std.specs.List.Sorted.{IsStrictlySortedBy}
use Rattle.std.specs.Ordering.{nat_cmp, ordering_reverse, is_eq}
use Rattle.std.specs.Cmp.Lexicographic.{slice_cmp}
use Rattle.std.specs.declared.cmp.Ordering.{Ordering}
use Rattle.std.specs.declared.cmp.Ordering.TheVariants.{Less, Equal, Greater}
use Rattle.std.proofs.lemmas.Cmp.{nat_list_cmp_total}
use Rattle.std.proofs.lemmas.Map.Text.{is_eq-slice_cmp}
use Rattle.std.proofs.lemmas.Slice.Eq.{bytes_eq-Decides}
use Rattle.std.specs.Str.{bytes_eq}
use Rattle.outside.specs.declared.files.FileBytes.{FileBytes}
use Rattle.outside.specs.Folder.{IsMap, IsAscending, appended, appended_at, content_of}
use Rattle.outside.specs.Place.{ComeBefore, IsPlaceOf, IsGapFor}

-- one step of the definition, where it is known how the first file compares
at_first : (o : Ordering) (path bytes : List ℕ) (file : FileBytes) (files : List FileBytes) → slice_cmp nat_cmp file.path path ≡ o
    → appended path bytes (file ∷ files) ≡ appended_at o path bytes file files (appended path bytes files)
at_first o path bytes file files is = ap (λ r. appended_at r path bytes file files (appended path bytes files)) is

abbrev lengthened : FileBytes → List ℕ → FileBytes
lengthened file bytes = record file { bytes = file.bytes ++ bytes }

-- at the file that has the path
here : (path bytes : List ℕ) (files : List FileBytes) (at : ℕ) (d : FileBytes) → at < length files → ComeBefore files path at
    → slice_cmp nat_cmp (get_or files at d).path path ≡ Equal
    → slice_set files at (record { path = (get_or files at d).path; bytes = (get_or files at d).bytes ++ bytes }) ≡ appended path bytes files
here path bytes [] at d h before is = absurd (omega (arith, h))
here path bytes (file ∷ files) zero d h before is = sym (at_first Equal path bytes file files is)
here path bytes (file ∷ files) (suc n) d h before is =
    ap (λ l. file ∷ l) (here path bytes files n d (omega (arith, h)) (λ k e l. before (suc k) e (omega (arith, l))) is)
    ∙ sym (at_first Less path bytes file files (before 0 d (omega arith)))

pub appended_here : (path bytes : List ℕ) (files : List FileBytes) (at : ℕ) (file : FileBytes) → IsPlaceOf files path at → get_or files at file ≡ file
    → slice_set files at (record { path = file.path; bytes = file.bytes ++ bytes }) ≡ appended path bytes files
appended_here path bytes files at file place is =
    ap (λ f. slice_set files at (record { path = f.path; bytes = f.bytes ++ bytes })) (sym is)
    ∙ here path bytes files at file place.in_range place.before (place.here file)

-- at a gap
gap : (path bytes : List ℕ) (files : List FileBytes) (at : ℕ) (d : FileBytes) → at ≤ length files → ComeBefore files path at
    → (at < length files → slice_cmp nat_cmp (get_or files at d).path path ≡ Greater)
    → insert files at (record { path = path; bytes = bytes }) ≡ appended path bytes files
gap path bytes [] zero d h before after = refl
gap path bytes [] (suc n) d h before after = absurd (omega (arith, h))
gap path bytes (file ∷ files) zero d h before after = sym (at_first Greater path bytes file files (after (omega arith)))
gap path bytes (file ∷ files) (suc n) d h before after =
    ap (λ l. file ∷ l) (gap path bytes files n d (omega (arith, h)) (λ k e l. before (suc k) e (omega (arith, l))) (λ l. after (omega (arith, l))))
    ∙ sym (at_first Less path bytes file files (before 0 d (omega arith)))

pub appended_gap : (path bytes : List ℕ) (files : List FileBytes) (at : ℕ) → IsGapFor files path at
    → insert files at (record { path = path; bytes = bytes }) ≡ appended path bytes files
appended_gap path bytes files at place =
    let d : FileBytes = record { path = path; bytes = bytes } in
    gap path bytes files at d place.in_range place.before (place.after d)

-- ---- the files stay a map

after_all : (P : List ℕ → Type 0) (o : Ordering) (path bytes : List ℕ) (file : FileBytes) (files more : List FileBytes) → P path
    → AllByRecursion P (file.path ∷ map (λ f. f.path) files) → AllByRecursion P (map (λ f. f.path) more)
    → AllByRecursion P (map (λ f. f.path) (appended_at o path bytes file files more))
after_all P Less path bytes file files more here all rest = (all.0, rest)
after_all P Equal path bytes file files more here all rest = all
after_all P Greater path bytes file files more here all rest = (here, all)

all_appended : (P : List ℕ → Type 0) (path bytes : List ℕ) (files : List FileBytes) → P path → AllByRecursion P (map (λ f. f.path) files)
    → AllByRecursion P (map (λ f. f.path) (appended path bytes files))
all_appended P path bytes [] here all = (here, tt)
all_appended P path bytes (file ∷ files) here all =
    after_all P (slice_cmp nat_cmp file.path path) path bytes file files (appended path bytes files) here all (all_appended P path bytes files here all.1)

comes_first : (x y : List ℕ) → slice_cmp nat_cmp x y ≡ Greater → slice_cmp nat_cmp y x ≡ Less
comes_first x y is = nat_list_cmp_total.antisymm y x ∙ ap ordering_reverse is

all_further : (x y : List ℕ) (paths : List (List ℕ)) → slice_cmp nat_cmp x y ≡ Less → AllByRecursion (λ z. slice_cmp nat_cmp y z ≡ Less) paths
    → AllByRecursion (λ z. slice_cmp nat_cmp x z ≡ Less) paths
all_further x y [] less all = tt
all_further x y (z ∷ zs) less all = (nat_list_cmp_total.trans x y z less all.0, all_further x y zs less all.1)

map_at : (o : Ordering) (path bytes : List ℕ) (file : FileBytes) (files : List FileBytes) → slice_cmp nat_cmp file.path path ≡ o
    → IsMap (file ∷ files) → IsMap (appended path bytes files) → IsMap (appended_at o path bytes file files (appended path bytes files))
unfolding IsStrictlySortedBy
map_at Less path bytes file files is up more = (all_appended (λ z. slice_cmp nat_cmp file.path z ≡ Less) path bytes files is up.0, more)
map_at Equal path bytes file files is up more = up
map_at Greater path bytes file files is up more =
    let less = comes_first file.path path is in
    ((less, all_further path file.path (map (λ f. f.path) files) less up.0), up)

map_of : (path bytes : List ℕ) (files : List FileBytes) → IsMap files → IsMap (appended path bytes files)
unfolding IsStrictlySortedBy
map_of path bytes [] up = (tt, tt)
map_of path bytes (file ∷ files) up = map_at (slice_cmp nat_cmp file.path path) path bytes file files refl up (map_of path bytes files up.1)

-- files to which was appended
pub map_appended : (path bytes : List ℕ) (old new : List FileBytes) → new ≡ appended path bytes old → IsMap old → IsMap new
map_appended path bytes old new is up = subst IsMap (sym is) (map_of path bytes old up)

-- ---- what the files hold

same_path : (o : Ordering) (x y : List ℕ) → slice_cmp nat_cmp x y ≡ o → bytes_eq x y ≡ is_eq o
same_path o x y is = sym (is_eq-slice_cmp x y) ∙ ap is_eq is

equal_itself : (path : List ℕ) → bytes_eq path path ≡ true
equal_itself path = (bytes_eq-Decides path path).1 refl

other_path : (b : Bool) (x y : List ℕ) → bytes_eq x y ≡ b → x ≢ y → b ≡ false
other_path true x y is other = absurd (other ((bytes_eq-Decides x y).0 is))
other_path false x y is other = refl

not_among : (path : List ℕ) (files : List FileBytes) → AllByRecursion (λ z. slice_cmp nat_cmp path z ≡ Less) (map (λ f. f.path) files) → content_of files path ≡ None
not_among path [] all = refl
not_among path (file ∷ files) all =
    let behind : slice_cmp nat_cmp file.path path ≡ Greater = nat_list_cmp_total.antisymm file.path path ∙ ap ordering_reverse all.0 in
    ap (λ b. if b then Some file.bytes else content_of files path) (same_path Greater file.path path behind) ∙ not_among path files all.1

-- what the file holds to which was appended
abbrev more_in : Option (List ℕ) → List ℕ → Option (List ℕ)
more_in held bytes = Some (unwrap_or held [] ++ bytes)

this_file_at : (o : Ordering) (path bytes : List ℕ) (file : FileBytes) (files : List FileBytes) → slice_cmp nat_cmp file.path path ≡ o → IsMap (file ∷ files)
    → content_of (appended path bytes files) path ≡ more_in (content_of files path) bytes
    → content_of (appended_at o path bytes file files (appended path bytes files)) path ≡ more_in (content_of (file ∷ files) path) bytes
unfolding IsStrictlySortedBy
this_file_at Less path bytes file files is up more =
    let other = same_path Less file.path path is in
    ap (λ b. if b then Some file.bytes else content_of (appended path bytes files) path) other ∙ more
    ∙ ap (λ b. more_in (if b then Some file.bytes else content_of files path) bytes) (sym other)
this_file_at Equal path bytes file files is up more =
    let same = same_path Equal file.path path is in
    ap (λ b. if b then Some (file.bytes ++ bytes) else content_of files path) same
    ∙ ap (λ b. more_in (if b then Some file.bytes else content_of files path) bytes) (sym same)
this_file_at Greater path bytes file files is up more =
    let less = comes_first file.path path is in
    ap (λ b. if b then Some bytes else content_of (file ∷ files) path) (equal_itself path)
    ∙ ap (λ o. more_in o bytes) (sym (not_among path (file ∷ files) (less, all_further path file.path (map (λ f. f.path) files) less up.0)))

pub this_file : (path bytes : List ℕ) (files : List FileBytes) → IsMap files → content_of (appended path bytes files) path ≡ Some (unwrap_or (content_of files path) [] ++ bytes)
unfolding IsStrictlySortedBy
this_file path bytes [] up = ap (λ b. if b then Some bytes else None) (equal_itself path)
this_file path bytes (file ∷ files) up =
    this_file_at (slice_cmp nat_cmp file.path path) path bytes file files refl up (this_file path bytes files up.1)

other_file_at : (o : Ordering) (path bytes other : List ℕ) (file : FileBytes) (files : List FileBytes) → slice_cmp nat_cmp file.path path ≡ o → path ≢ other
    → content_of (appended path bytes files) other ≡ content_of files other
    → content_of (appended_at o path bytes file files (appended path bytes files)) other ≡ content_of (file ∷ files) other
other_file_at Less path bytes other file files is differs more =
    ap (λ rest. if bytes_eq file.path other then Some file.bytes else rest) more
other_file_at Equal path bytes other file files is differs more =
    let same : file.path ≡ path = (bytes_eq-Decides file.path path).0 (same_path Equal file.path path is) in
    let off = other_path (bytes_eq file.path other) file.path other refl (λ e. differs (sym same ∙ e)) in
    ap (λ b. if b then Some (file.bytes ++ bytes) else content_of files other) off
    ∙ ap (λ b. if b then Some file.bytes else content_of files other) (sym off)
other_file_at Greater path bytes other file files is differs more =
    ap (λ b. if b then Some bytes else content_of (file ∷ files) other) (other_path (bytes_eq path other) path other refl differs)

pub other_file : (path bytes other : List ℕ) (files : List FileBytes) → path ≢ other → content_of (appended path bytes files) other ≡ content_of files other
other_file path bytes other [] differs = ap (λ b. if b then Some bytes else None) (other_path (bytes_eq path other) path other refl differs)
other_file path bytes other (file ∷ files) differs =
    other_file_at (slice_cmp nat_cmp file.path path) path bytes other file files refl differs (other_file path bytes other files differs)

-- ---- one after another

equal_to_itself : (path : List ℕ) (o : Ordering) → slice_cmp nat_cmp path path ≡ o → o ≡ ordering_reverse o → o ≡ Equal
equal_to_itself path Less is turned = cc
equal_to_itself path Equal is turned = refl
equal_to_itself path Greater is turned = cc

itself : (path : List ℕ) → slice_cmp nat_cmp path path ≡ Equal
itself path = equal_to_itself path (slice_cmp nat_cmp path path) refl (nat_list_cmp_total.antisymm path path)

twice_at : (o : Ordering) (path first second : List ℕ) (file : FileBytes) (files : List FileBytes) → slice_cmp nat_cmp file.path path ≡ o
    → appended path second (appended path first files) ≡ appended path (first ++ second) files
    → appended path second (appended_at o path first file files (appended path first files)) ≡ appended_at o path (first ++ second) file files (appended path (first ++ second) files)
twice_at Less path first second file files is more =
    at_first Less path second file (appended path first files) is ∙ ap (λ l. file ∷ l) more
twice_at Equal path first second file files is more =
    at_first Equal path second (lengthened file first) files is
    ∙ ap (λ l. record file { bytes = l } ∷ files) (append_assoc file.bytes first second)
twice_at Greater path first second file files is more =
    at_first Equal path second (record { path = path; bytes = first }) (file ∷ files) (itself path)

pub twice : (path first second : List ℕ) (files : List FileBytes) → appended path second (appended path first files) ≡ appended path (first ++ second) files
twice path first second [] = at_first Equal path second (record { path = path; bytes = first }) [] (itself path)
twice path first second (file ∷ files) =
    twice_at (slice_cmp nat_cmp file.path path) path first second file files refl (twice path first second files)
