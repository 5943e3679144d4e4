-- The paths that names say.
use Rattle.std.proofs.Common.{◌≡◌, ℕ, ◌+◌, ◌-◌, ◌<◌, ◌≤◌, List, [], ◌∷◌, ◌++◌, length, map, take, get_or, sym, ap, ◌∙◌, subst, arith, length-take}
use Rattle.std.specs.Prelude.{String, string_bytes}
use Rattle.std.proofs.Common.{Global}
use Rattle.std.specs.Ordering.{nat_cmp}
use Rattle.std.specs.Cmp.Lexicographic.{slice_cmp}
use Rattle.std.proofs.lemmas.List.{get_or-take, get_or-map, take-map, take_more, map-append, length-map, take_all}
use Rattle.std.proofs.lemmas.List.Elements.{All-from_recursion}
use Rattle.std.proofs.lemmas.Map.Keys.{Less-from_sorted}
use Rattle.outside.specs.Folder.{IsListing, IsRead, MayCome, MayFollow}

-- one name further
pub names_more : (names : List (String Global)) (i : ℕ) (name : String Global) → i < length names → get_or names i name ≡ name
    → map string_bytes (take i names) ++ string_bytes name ∷ [] ≡ map string_bytes (take (i + 1) names)
names_more names i name h at =
    ap (λ x. map string_bytes (take i names) ++ string_bytes x ∷ []) (sym at)
    ∙ sym (ap (map string_bytes) (take_more names i name h) ∙ map-append string_bytes (take i names) (get_or names i name ∷ []))

pub names_all : (names : List (String Global)) (i : ℕ) → length names ≤ i → map string_bytes (take i names) ≡ map string_bytes names
names_all names i h = ap (map string_bytes) (take_all i names h)

comes_after : (paths : List (List ℕ)) (i : ℕ) (path : List ℕ) → IsListing paths → i < length paths → get_or paths i [] ≡ path → MayCome (take i paths) path
comes_after paths i path is h at some =
    let long : length (take i paths) ≡ i = omega (arith, length-take i paths) in
    let last = ap (λ n. get_or (take i paths) (n - 1) []) long ∙ get_or-take i paths (i - 1) [] (omega (arith, some)) in
    cc (last, at, Less-from_sorted (slice_cmp nat_cmp) paths (i - 1) i [] is.ascending (omega (arith, some)) h)

follows : (paths : List (List ℕ)) (i : ℕ) (path : List ℕ) → IsListing paths → i < length paths → get_or paths i [] ≡ path → MayFollow (take i paths) path
follows paths i path is h at =
    record {
      after = comes_after paths i path is h at;
      read = subst IsRead at (All-from_recursion IsRead paths is.read i [] h);
    }

-- in a listing each path follows those before it
pub listing_follows : (names : List (String Global)) (i : ℕ) (name : String Global) (paths : List (List ℕ)) → i < length names → get_or names i name ≡ name
    → paths ≡ map string_bytes (take i names) → IsListing (map string_bytes names) → MayFollow paths (string_bytes name)
listing_follows names i name paths h at so_far is =
    let here : get_or (map string_bytes names) i [] ≡ string_bytes name = get_or-map string_bytes names i name [] h ∙ ap string_bytes at in
    subst (λ ps. MayFollow ps (string_bytes name)) (take-map string_bytes i names ∙ sym so_far)
    (follows (map string_bytes names) i (string_bytes name) is (omega (arith, h, length-map names string_bytes)) here)
