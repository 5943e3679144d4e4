-- Tables of names, and the places of names in lists.
use Rattle.std.proofs.Common.{◌≡◌, ℕ, ◌+◌, Bool, true, false, cond, ◌||◌, List, [], ◌∷◌, ◌++◌, Option, Some, None, length, refl, sym, ap, ◌∙◌, arith, is_some, map, take, get_or, ◌<◌, append_assoc}
use Rattle.std.specs.Prelude.{if◌then◌else◌}
use Rattle.std.specs.Str.{bytes_eq}
use Rattle.folder_rules.specs.declared.component.PathedComponent.{PathedComponent}
use Rattle.folder_rules.specs.Kinds.{built_in_names, component_name}
use Rattle.folder_rules.proofs.Lists.{taken, map_more}
use Rattle.folder_rules.specs.declared.names.NameTable.{NameTable}
use Rattle.folder_rules.specs.Names.{is_among, place_from, place_of, number_in, either, is_known, HasPlaces}

pub place_is_some : (n : ℕ) (names : List (List ℕ)) (name : List ℕ) → is_some (place_from n names name) ≡ is_among names name
place_is_some n [] name = refl
place_is_some n (x ∷ xs) name = go (bytes_eq x name) (place_is_some (n + 1) xs name)
  where
    go : (b : Bool) → is_some (place_from (n + 1) xs name) ≡ is_among xs name → is_some (cond b (Some n) (place_from (n + 1) xs name)) ≡ (b || is_among xs name)
    go true e = refl
    go false e = e

pub place_behind : (n : ℕ) (names : List (List ℕ)) (last name : List ℕ) → place_from n (names ++ last ∷ []) name ≡ either (place_from n names name) (if bytes_eq last name then Some (n + length names) else None)
place_behind n [] last name = ap (λ k. if bytes_eq last name then Some k else None) (omega arith)
place_behind n (x ∷ xs) last name = go (bytes_eq x name) (place_behind (n + 1) xs last name)
  where
    shifted : (a b : ℕ) → a ≡ b → either (place_from (n + 1) xs name) (if bytes_eq last name then Some a else None) ≡ either (place_from (n + 1) xs name) (if bytes_eq last name then Some b else None)
    shifted a b e = ap (λ k. either (place_from (n + 1) xs name) (if bytes_eq last name then Some k else None)) e

    go : (b : Bool) → place_from (n + 1) (xs ++ last ∷ []) name ≡ either (place_from (n + 1) xs name) (if bytes_eq last name then Some (n + 1 + length xs) else None)
        → cond b (Some n) (place_from (n + 1) (xs ++ last ∷ []) name) ≡ either (cond b (Some n) (place_from (n + 1) xs name)) (if bytes_eq last name then Some (n + length (x ∷ xs)) else None)
    go true e = refl
    go false e = e ∙ shifted (n + 1 + length xs) (n + length (x ∷ xs)) (omega arith)

-- one name more, at the end
pub places_more : (before after : NameTable) (names : List (List ℕ)) (last : List ℕ) (place : ℕ) → place ≡ length names → HasPlaces before names
    → ((name : List ℕ) → number_in after name ≡ either (number_in before name) (if bytes_eq last name then Some place else None)) → HasPlaces after (names ++ last ∷ [])
places_more before after names last place is has added name =
    let plain : 0 + length names ≡ length names = omega arith in
    added name
    ∙ ap (λ o. either o (if bytes_eq last name then Some place else None)) (has name)
    ∙ ap (λ k. either (place_of names name) (if bytes_eq last name then Some k else None)) is
    ∙ ap (λ k. either (place_of names name) (if bytes_eq last name then Some k else None)) (sym plain)
    ∙ sym (place_behind 0 names last name)

pub known_is_among : (table : NameTable) (names : List (List ℕ)) → HasPlaces table names → (name : List ℕ) → is_known table name ≡ is_among names name
known_is_among table names has name = ap is_some (has name) ∙ place_is_some 0 names name

-- one name more is known
pub known_more : (before after : NameTable) (added : List ℕ) (number : ℕ) → ((name : List ℕ) → number_in after name ≡ either (number_in before name) (if bytes_eq added name then Some number else None))
    → (name : List ℕ) → is_known after name ≡ (is_known before name || bytes_eq added name)
known_more before after added number is name = ap is_some (is name) ∙ go (number_in before name) (bytes_eq added name)
  where
    go : (o : Option ℕ) (b : Bool) → is_some (either o (cond b (Some number) None)) ≡ (is_some o || b)
    go (Some k) b = refl
    go None true = refl
    go None false = refl

-- ---- the kinds before a component

pub kinds_before : (cs : List PathedComponent) (i : ℕ) → i < length cs → 9 + i ≡ length (built_in_names ++ map component_name (take i cs))
unfolding built_in_names
kinds_before cs i h = let t = taken component_name cs i h in omega (arith, t)

pub kinds_more : (cs : List PathedComponent) (i : ℕ) (c : PathedComponent) → i < length cs → c ≡ get_or cs i c
    → (built_in_names ++ map component_name (take i cs)) ++ component_name c ∷ [] ≡ built_in_names ++ map component_name (take (i + 1) cs)
kinds_more cs i c h e = append_assoc built_in_names (map component_name (take i cs)) (component_name c ∷ []) ∙ ap (λ l. built_in_names ++ l) (sym (map_more component_name cs i c h e))
