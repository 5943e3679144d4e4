-- How many keys of one associative array another one has, and lacks.
use Rattle.std.proofs.Common.{◌≡◌, ℕ, zero, suc, ◌+◌, ◌≤◌, List, [], ◌∷◌, ◌++◌, length, take, Option, Some, None, Bool, true, false, cond, refl, sym, ap, ◌∙◌, subst, arith}
use Rattle.std.specs.Prelude.{slice_get}
use Rattle.std.specs.Option.{is_some}
use Rattle.std.specs.List.{AllByRecursion}
use Rattle.std.specs.List.Sorted.{IsStrictlySortedBy}
use Rattle.std.specs.Ordering.{nat_cmp, is_eq}
use Rattle.std.specs.declared.cmp.Ordering.{Ordering}
use Rattle.std.specs.declared.cmp.Ordering.TheVariants.{Less}
use Rattle.std.specs.Cmp.Lexicographic.{slice_cmp}
use Rattle.std.specs.Str.{bytes_eq}
use Rattle.std.proofs.lemmas.Map.Text.{is_eq-slice_cmp}
use Rattle.std.proofs.lemmas.Slice.Eq.{bytes_eq-Decides}
use Rattle.chan_values.specs.Portable.{IsKeyList}
use Rattle.heap_meaning.specs.Values.{StoreValue, Entry}
use Rattle.heap_meaning.specs.Keys.{keys_of, value_at_key, with_key}
use Rattle.object_operations.specs.Maps.{joined, new_keys}
use Rattle.object_operations.proofs.Entries.{with_here}
use Rattle.object_operations.proofs.Lists.{set_same}
use Rattle.object_makers.specs.Joins.{entry_list}

abbrev order : List ℕ → List ℕ → Ordering
order = slice_cmp nat_cmp

-- the first entries and the next one
pub take_entry : (es : List (Entry StoreValue)) (k : ℕ) → take (suc k) es ≡ take k es ++ entry_list (slice_get es k)
take_entry [] zero = refl
take_entry [] (suc k) = refl
take_entry (x ∷ es) zero = refl
take_entry (x ∷ es) (suc k) = ap (λ r. x ∷ r) (take_entry es k)

pub joined_append : (entries xs ys : List (Entry StoreValue)) → joined entries (xs ++ ys) ≡ joined (joined entries xs) ys
joined_append entries [] ys = refl
joined_append entries (x ∷ xs) ys = joined_append (with_key entries x.key x.value) xs ys

pub new_keys_append : (entries xs ys : List (Entry StoreValue)) → new_keys entries (xs ++ ys) ≡ new_keys entries xs + new_keys entries ys
new_keys_append entries [] ys = omega arith
new_keys_append entries (x ∷ xs) ys = let r = new_keys_append entries xs ys in omega arith

-- an entry of an associative array changes nothing there
pub joined_own : (es : List (Entry StoreValue)) (k : ℕ) → IsKeyList (keys_of es) → joined es (entry_list (slice_get es k)) ≡ es
joined_own es k l = go (slice_get es k) refl
  where
    go : (x : Option (Entry StoreValue)) → slice_get es k ≡ x → joined es (entry_list x) ≡ es
    go None e = refl
    go (Some x) e = with_here es k x.key x.value x.value l e ∙ set_same es k x e

-- how many of the further entries have a key that is there
abbrev present : List (Entry StoreValue) → List (Entry StoreValue) → ℕ
present entries [] = 0
present entries (e ∷ more) = cond (is_some (value_at_key entries e.key)) 1 0 + present entries more

-- how many of them have this key
abbrev named : List ℕ → List (Entry StoreValue) → ℕ
named key [] = 0
named key (e ∷ more) = cond (bytes_eq key e.key) 1 0 + named key more

present_or_new : (entries more : List (Entry StoreValue)) → length more ≡ present entries more + new_keys entries more
present_or_new entries [] = refl
present_or_new entries (e ∷ more) = go (is_some (value_at_key entries e.key)) (present_or_new entries more)
  where
    go : (b : Bool) → length more ≡ present entries more + new_keys entries more → suc (length more) ≡ (cond b 1 0 + present entries more) + (cond b 0 1 + new_keys entries more)
    go true r = omega arith
    go false r = omega arith

present_none : (more : List (Entry StoreValue)) → present [] more ≡ 0
present_none [] = refl
present_none (e ∷ more) = let r = present_none more in omega arith

present_cons : (x : Entry StoreValue) (es more : List (Entry StoreValue)) → present (x ∷ es) more ≤ named x.key more + present es more
present_cons x es [] = omega arith
present_cons x es (e ∷ more) = go (bytes_eq x.key e.key) (present_cons x es more)
  where
    go : (b : Bool) → present (x ∷ es) more ≤ named x.key more + present es more
        → cond (is_some (cond b (Some x.value) (value_at_key es e.key))) 1 0 + present (x ∷ es) more ≤ (cond b 1 0 + named x.key more) + (cond (is_some (value_at_key es e.key)) 1 0 + present es more)
    go true r = omega arith
    go false r = omega arith

differ : (k l : List ℕ) → order k l ≡ Less → bytes_eq k l ≡ false
differ k l e = sym (is_eq-slice_cmp k l) ∙ ap is_eq e

named_none : (key : List ℕ) (more : List (Entry StoreValue)) → AllByRecursion (λ y. order key y ≡ Less) (keys_of more) → named key more ≡ 0
named_none key [] a = refl
named_none key (e ∷ more) a = go (bytes_eq key e.key) (differ key e.key a.0) (named_none key more a.1)
  where
    go : (b : Bool) → b ≡ false → named key more ≡ 0 → cond b 1 0 + named key more ≡ 0
    go true q r = absurd cc
    go false q r = omega arith

named_once : (key : List ℕ) (more : List (Entry StoreValue)) → IsStrictlySortedBy (slice_cmp nat_cmp) (keys_of more) → named key more ≤ 1
unfolding IsStrictlySortedBy
named_once key [] s = omega arith
named_once key (e ∷ more) s = go (bytes_eq key e.key) refl s.0 (named_once key more s.1)
  where
    go : (b : Bool) → bytes_eq key e.key ≡ b → AllByRecursion (λ y. order e.key y ≡ Less) (keys_of more) → named key more ≤ 1 → cond b 1 0 + named key more ≤ 1
    go true q later r =
        let same : key ≡ e.key = (bytes_eq-Decides key e.key).0 q in
        let z = named_none key more (subst (λ k. AllByRecursion (λ y. order k y ≡ Less) (keys_of more)) (sym same) later) in
        omega arith
    go false q later r = omega arith

present_within : (entries more : List (Entry StoreValue)) → IsStrictlySortedBy (slice_cmp nat_cmp) (keys_of more) → present entries more ≤ length entries
present_within [] more s = let e = present_none more in omega arith
present_within (x ∷ es) more s = let a = present_cons x es more in let b = named_once x.key more s in let r = present_within es more s in omega arith

-- the further entries are at most those that are there and the new ones
pub more_within : (entries more : List (Entry StoreValue)) → IsKeyList (keys_of more) → length more ≤ length entries + new_keys entries more
more_within entries more l = let a = present_or_new entries more in let b = present_within entries more l.ascending in omega arith
