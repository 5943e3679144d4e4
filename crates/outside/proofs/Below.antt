-- What lies below a root.
use Rattle.std.proofs.Common.{◌≡◌, ◌≢◌, ℕ, Bool, true, false, ◌+◌, ◌<◌, ◌==◌, List, [], ◌∷◌, ◌++◌, length, map, Option, None, Some, MatchOption, if◌then◌else◌, option_and_then, refl, sym, ap, ◌∙◌, subst, add-one, arith, get_or, drop}
use Rattle.std.proofs.Math.Seq.{drop-cons}
use Rattle.std.specs.List.{cons_option, AllByRecursion}
use Rattle.std.specs.List.Sorted.{IsStrictlySortedBy}
use Rattle.std.specs.Option.{option_copied}
use Rattle.std.specs.Ordering.{nat_cmp, ordering_then}
use Rattle.std.specs.Cmp.Lexicographic.{slice_cmp}
use Rattle.std.specs.declared.cmp.Ordering.TheVariants.{Less, Equal}
use Rattle.std.specs.Cmp.{nat_cmp_is}
use Rattle.std.proofs.lemmas.Map.Keys.{Less-from_sorted, sorted_from_all_adjacent}
use Rattle.std.proofs.lemmas.Cmp.{nat_list_cmp_total}
use Rattle.std.proofs.lemmas.Grind.{common_steps}
use Rattle.std.proofs.lemmas.List.{map-append}
use Rattle.std.specs.Str.{bytes_eq}
use Rattle.std.specs.Str.Pattern.{FindsTextPrefix, StripsPrefix}
use Rattle.std.proofs.Common.{Bor}
use Rattle.outside.specs.declared.files.FileBytes.{FileBytes}
use Rattle.outside.proofs.Listed.{after_prefix-append, after_prefix-Some, below_root-Some}
use Rattle.outside.specs.Folder.{after_prefix, below_root, paths_below, content_of, IsAscending, IsRead, IsListing, MayFollow, MayCome}

none_after : (o : Option (List ℕ)) (p s : List ℕ) → after_prefix p s ≡ o → ((rest : List ℕ) → s ≢ p ++ rest) → None ≡ o
none_after None p s e other = refl
none_after (Some rest) p s e other = absurd (other rest (after_prefix-Some p s rest e))

-- what a method that strips a prefix gives
pub strips : (p s : List ℕ) (r : Option (Bor (List ℕ))) → MatchOption r ((rest : List ℕ) → s ≢ p ++ rest) (λ x. s ≡ p ++ x.now) → option_copied r ≡ after_prefix p s
strips p s None other = none_after (after_prefix p s) p s refl other
strips p s (Some x) same = sym (after_prefix-append p x.now) ∙ ap (after_prefix p) (sym same)

-- one prefix after another
one_more : (b : Bool) (xs q ys : List ℕ) → after_prefix (xs ++ q) ys ≡ option_and_then (after_prefix q) (after_prefix xs ys)
    → (if b then after_prefix (xs ++ q) ys else None) ≡ option_and_then (after_prefix q) (if b then after_prefix xs ys else None)
one_more true xs q ys e = e
one_more false xs q ys e = refl

pub after_prefix_two : (p q s : List ℕ) → after_prefix (p ++ q) s ≡ option_and_then (after_prefix q) (after_prefix p s)
after_prefix_two [] q s = refl
after_prefix_two (x ∷ xs) q [] = refl
after_prefix_two (x ∷ xs) q (y ∷ ys) = one_more (x == y) xs q ys (after_prefix_two xs q ys)

-- the same front doesn't matter
pub slice_cmp-front : (p a b : List ℕ) → slice_cmp nat_cmp (p ++ a) (p ++ b) ≡ slice_cmp nat_cmp a b
slice_cmp-front [] a b = refl
slice_cmp-front (x ∷ xs) a b =
    let same : nat_cmp x x ≡ Equal = sym (nat_cmp_is x x Equal refl) in
    ap (λ o. ordering_then o (slice_cmp nat_cmp (xs ++ a) (xs ++ b))) same ∙ slice_cmp-front xs a b

before_below : (root x y x' y' : List ℕ) → below_root root x ≡ Some x' → below_root root y ≡ Some y'
    → slice_cmp nat_cmp x y ≡ Less → slice_cmp nat_cmp x' y' ≡ Less
before_below root x y x' y' e f less =
    let p = (below_root-Some root x x' e).0 in
    let q = (below_root-Some root y y' f).0 in
    sym (slice_cmp-front (root ++ 47 ∷ []) x' y') ∙ cc (p, q, less)

all_step : (root x x' : List ℕ) (file : FileBytes) (o : Option (List ℕ)) (paths : List (List ℕ)) → below_root root x ≡ Some x' → below_root root file.path ≡ o
    → slice_cmp nat_cmp x file.path ≡ Less → AllByRecursion (λ y. slice_cmp nat_cmp x' y ≡ Less) paths
    → AllByRecursion (λ y. slice_cmp nat_cmp x' y ≡ Less) (cons_option o paths)
all_step root x x' file None paths e is less rest = rest
all_step root x x' file (Some y') paths e is less rest = (before_below root x file.path x' y' e is less, rest)

all_below : (root x x' : List ℕ) (files : List FileBytes) → below_root root x ≡ Some x' → AllByRecursion (λ y. slice_cmp nat_cmp x y ≡ Less) (map (λ file. file.path) files)
    → AllByRecursion (λ y. slice_cmp nat_cmp x' y ≡ Less) (paths_below root files)
all_below root x x' [] e all = tt
all_below root x x' (file ∷ files) e all = all_step root x x' file (below_root root file.path) (paths_below root files) e refl all.0 (all_below root x x' files e all.1)

ascending_step : (root : List ℕ) (file : FileBytes) (o : Option (List ℕ)) (files : List FileBytes) → below_root root file.path ≡ o
    → AllByRecursion (λ y. slice_cmp nat_cmp file.path y ≡ Less) (map (λ f. f.path) files) → IsAscending (paths_below root files)
    → IsAscending (cons_option o (paths_below root files))
unfolding IsStrictlySortedBy
ascending_step root file None files is all rest = rest
ascending_step root file (Some x') files is all rest = (all_below root file.path x' files is all, rest)

ascending_below : (root : List ℕ) (files : List FileBytes) → IsAscending (map (λ file. file.path) files) → IsAscending (paths_below root files)
unfolding IsStrictlySortedBy
ascending_below root [] up = tt
ascending_below root (file ∷ files) up = ascending_step root file (below_root root file.path) files refl up.0 (ascending_below root files up.1)

read_step : (root path : List ℕ) (o : Option (List ℕ)) (paths : List (List ℕ)) → below_root root path ≡ o → AllByRecursion IsRead paths → AllByRecursion IsRead (cons_option o paths)
read_step root path None paths is all = all
read_step root path (Some x) paths is all = ((below_root-Some root path x is).1, all)

read_below : (root : List ℕ) (files : List FileBytes) → AllByRecursion IsRead (paths_below root files)
read_below root [] = tt
read_below root (file ∷ files) = read_step root file.path (below_root root file.path) (paths_below root files) refl (read_below root files)

-- what lies below a root of an ascending folder is a listing
pub listing_below : (root : List ℕ) (files : List FileBytes) → IsAscending (map (λ file. file.path) files) → IsListing (paths_below root files)
listing_below root files up = record { ascending = ascending_below root files up; read = read_below root files }

-- the paths that are those below a root are a listing
pub listing_is : (root : List ℕ) (files : List FileBytes) (paths : List (List ℕ)) → paths ≡ paths_below root files → IsAscending (map (λ file. file.path) files) → IsListing paths
listing_is root files paths is up = subst IsListing (sym is) (listing_below root files up)

-- one file further
pub paths_below_step : (root : List ℕ) (files : List FileBytes) (i : ℕ) (file : FileBytes) → i < length files → get_or files i file ≡ file
    → paths_below root (drop i files) ≡ cons_option (below_root root file.path) (paths_below root (drop (i + 1) files))
paths_below_step root files i file h is =
    ap (paths_below root) (drop-cons files i file h) ∙ cc (is, add-one i)

pub content_of_step : (path : List ℕ) (files : List FileBytes) (i : ℕ) (file : FileBytes) → i < length files → get_or files i file ≡ file
    → content_of (drop i files) path ≡ (if bytes_eq file.path path then Some file.bytes else content_of (drop (i + 1) files) path)
content_of_step path files i file h is = ap (λ fs. content_of fs path) (drop-cons files i file h) ∙ cc (is, add-one i)

-- the clause of `strip_prefix` at a text
strips_part : (p s : List ℕ) (x : Bor (List ℕ)) → StripsPrefix (FindsTextPrefix p) s x.now → s ≡ p ++ x.now
strips_part p s x (n, found, is, rest) = found.1 ∙ ap (λ l. p ++ l) (sym is)

pub strips_text : (p s : List ℕ) (r : Option (Bor (List ℕ))) → MatchOption r (FindsTextPrefix p s None) (λ x. StripsPrefix (FindsTextPrefix p) s x.now) → option_copied r ≡ after_prefix p s
strips_text p s None other = strips p s None other
strips_text p s (Some x) is = strips p s (Some x) (strips_part p s x is)

-- a listing and one more path

all_push : (P : List ℕ → Type 0) (paths : List (List ℕ)) (path : List ℕ) → AllByRecursion P paths → P path → AllByRecursion P (paths ++ path ∷ [])
all_push P [] path all here = (here, tt)
all_push P (x ∷ xs) path all here = (all.0, all_push P xs path all.1 here)

adjacent : (paths : List (List ℕ)) (path : List ℕ) (k : ℕ) → IsAscending paths → MayCome paths path → k + 1 < length (paths ++ path ∷ [])
    → slice_cmp nat_cmp (get_or (paths ++ path ∷ []) k []) (get_or (paths ++ path ∷ []) (k + 1) []) ≡ Less
adjacent paths path k up last h =
    let within = λ (l : k + 1 < length paths). Less-from_sorted (slice_cmp nat_cmp) paths k (k + 1) [] up (omega arith) l in
    grind (arith, common_steps, within, last)

pub ascending_push : (paths : List (List ℕ)) (path : List ℕ) → IsAscending paths → MayCome paths path → IsAscending (paths ++ path ∷ [])
ascending_push paths path up last = sorted_from_all_adjacent nat_list_cmp_total (paths ++ path ∷ []) [] (λ k h. adjacent paths path k up last h)

pub map_none : (files : List FileBytes) → files ≡ [] → IsAscending (map (λ f. f.path) files)
unfolding IsStrictlySortedBy
map_none files none = rw none tt

-- the paths of a folder that got one more file
pub map_grown : (old new : List FileBytes) (file : FileBytes) → new ≡ old ++ file ∷ [] → IsAscending (map (λ f. f.path) old)
    → MayCome (map (λ f. f.path) old) file.path → IsAscending (map (λ f. f.path) new)
map_grown old new file is up last =
    rw (is, map-append) (ascending_push (map (λ f. f.path) old) file.path up last)

pub listing_push : (paths : List (List ℕ)) (path : List ℕ) → IsListing paths → MayFollow paths path → IsListing (paths ++ path ∷ [])
listing_push paths path is last =
    record {
      ascending = sorted_from_all_adjacent nat_list_cmp_total (paths ++ path ∷ []) [] (λ k h. adjacent paths path k is.ascending last.after h);
      read = all_push IsRead paths path is.read last.read;
    }

pub listing_grown : (old new : List (List ℕ)) (path : List ℕ) → new ≡ old ++ path ∷ [] → IsListing old → MayFollow old path → IsListing new
listing_grown old new path is before last = subst IsListing (sym is) (listing_push old path before last)

pub listing_none : (paths : List (List ℕ)) → paths ≡ [] → IsListing paths
unfolding IsStrictlySortedBy
listing_none paths is = subst IsListing (sym is) (record { ascending = tt; read = tt })
