-- What is listed below a root can be read.
use Rattle.std.specs.Prelude.{◌≡◌, ℕ, Bool, true, false, ◌<◌, ◌==◌, List, [], ◌∷◌, ◌++◌, length, Option, None, Some, IsSome, All, if◌then◌else◌, option_and_then, refl}
use Rattle.std.proofs.Common.{sym, ap, subst, arith, get_or}
use Rattle.std.proofs.lemmas.Bool.{eqb-true, eq-eqb}
use Rattle.std.proofs.lemmas.Slice.Eq.{bytes_eq-Decides}
use Rattle.std.specs.List.{cons_option, AllByRecursion}
use Rattle.std.specs.Option.{ForSome}
use Rattle.std.specs.Str.{bytes_eq}
use Rattle.std.proofs.lemmas.List.Elements.{All-from_recursion}
use Rattle.outside.specs.declared.files.FileBytes.{FileBytes}
use Rattle.outside.specs.Folder.{after_prefix, is_read, if_read, below_root, whole_path, paths_below, content_of}

-- a list that begins with the prefix
pub after_prefix-append : (p rest : List ℕ) → after_prefix p (p ++ rest) ≡ Some rest
after_prefix-append [] rest = refl
after_prefix-append (x ∷ xs) rest = rw (eq-eqb x x refl) (after_prefix-append xs rest)

head_same : (b : Bool) (x y : ℕ) (xs ys rest : List ℕ) → (x == y) ≡ b → (after_prefix xs ys ≡ Some rest → ys ≡ xs ++ rest)
    → (if b then after_prefix xs ys else None) ≡ Some rest → y ∷ ys ≡ x ∷ (xs ++ rest)
head_same true x y xs ys rest same more e = grind (arith, more e, eqb-true x y same)
head_same false x y xs ys rest same more e = cc

pub after_prefix-Some : (p s rest : List ℕ) → after_prefix p s ≡ Some rest → s ≡ p ++ rest
after_prefix-Some [] s rest e = cc
after_prefix-Some (x ∷ xs) [] rest e = cc
after_prefix-Some (x ∷ xs) (y ∷ ys) rest e = head_same (x == y) x y xs ys rest refl (after_prefix-Some xs ys rest) e

read_some : (b : Bool) (path rest : List ℕ) → is_read path ≡ b → (if b then Some path else None) ≡ Some rest → (path ≡ rest) × (is_read rest ≡ true)
read_some true path rest is e = (cc, cc)
read_some false path rest is e = cc

below_some : (o : Option (List ℕ)) (rest : List ℕ) → option_and_then if_read o ≡ Some rest → (o ≡ Some rest) × (is_read rest ≡ true)
below_some None rest e = cc
below_some (Some path) rest e = let p = read_some (is_read path) path rest refl e in (ap Some p.0, p.1)

-- what lies below a root
pub below_root-Some : (root path rest : List ℕ) → below_root root path ≡ Some rest → (path ≡ (root ++ 47 ∷ []) ++ rest) × (is_read rest ≡ true)
below_root-Some root path rest e =
    let p = below_some (after_prefix (root ++ 47 ∷ []) path) rest e in
    (after_prefix-Some (root ++ 47 ∷ []) path rest p.0, p.1)

-- a path that can be read below a root
abbrev IsReadable : List ℕ → List FileBytes → List ℕ → Type 0
IsReadable root files path = IsSome (content_of files (whole_path root path))

one_more_file : (b : Bool) (file : FileBytes) (files : List FileBytes) (whole : List ℕ) → IsSome (content_of files whole)
    → IsSome (if b then Some file.bytes else content_of files whole)
one_more_file true file files whole is = refl
one_more_file false file files whole is = is

all_with_more : (root : List ℕ) (file : FileBytes) (files : List FileBytes) (paths : List (List ℕ)) → AllByRecursion (IsReadable root files) paths
    → AllByRecursion (IsReadable root (file ∷ files)) paths
all_with_more root file files [] all = tt
all_with_more root file files (path ∷ paths) all =
    (one_more_file (bytes_eq file.path (whole_path root path)) file files (whole_path root path) all.0, all_with_more root file files paths all.1)

this_file : (b : Bool) (file : FileBytes) (files : List FileBytes) (whole : List ℕ) → b ≡ true → IsSome (if b then Some file.bytes else content_of files whole)
this_file true file files whole is = refl
this_file false file files whole is = cc

first_too : (root : List ℕ) (file : FileBytes) (files : List FileBytes) (o : Option (List ℕ)) → below_root root file.path ≡ o
    → AllByRecursion (IsReadable root (file ∷ files)) (paths_below root files) → AllByRecursion (IsReadable root (file ∷ files)) (cons_option o (paths_below root files))
first_too root file files None is all = all
first_too root file files (Some path) is all =
    let same : file.path ≡ whole_path root path = (below_root-Some root file.path path is).0 in
    (this_file (bytes_eq file.path (whole_path root path)) file files (whole_path root path) ((bytes_eq-Decides file.path (whole_path root path)).1 same), all)

all_readable : (root : List ℕ) (files : List FileBytes) → AllByRecursion (IsReadable root files) (paths_below root files)
all_readable root [] = tt
all_readable root (file ∷ files) = first_too root file files (below_root root file.path) refl (all_with_more root file files (paths_below root files) (all_readable root files))

pub listed_is_readable : (map : Option (List FileBytes)) (root : List ℕ) (paths : List (List ℕ)) (i : ℕ) (path : List ℕ)
    → ForSome map (λ files. paths ≡ paths_below root files) → i < length paths → get_or paths i path ≡ path → ForSome map (λ files. IsSome (content_of files (whole_path root path)))
listed_is_readable map root paths i path told h at files is =
    let all = subst (All (IsReadable root files)) (sym (told files is)) (All-from_recursion (IsReadable root files) (paths_below root files) (all_readable root files)) in
    subst (IsReadable root files) at (all i path h)
