-- Tables of names, and names that are no keys.
use Rattle.std.proofs.Common.{◌≡◌, ℕ, List, [], ◌∷◌, ◌++◌, map, Option, Some, None, refl, sym, ◌∙◌, subst}
use Rattle.std.specs.Prelude.{Bool, true, false, cond, if◌then◌else◌, option_map}
use Rattle.std.specs.Str.{bytes_eq}
use Rattle.std.specs.List.{AllByRecursion}
use Rattle.std.proofs.lemmas.Slice.Eq.{bytes_eq-Decides}
use Rattle.chan_values.specs.Folded.{folded}
use Rattle.chan_values.specs.Portable.{IsKeyList}
use Rattle.heap_meaning.specs.Values.{Value, Entry}
use Rattle.heap_meaning.specs.Cells.{Content, Text, Array, Pairs, Message}
use Rattle.heap_meaning.specs.Keys.{keys_of, value_at_key}
use Rattle.heap_meaning.specs.Reading.{keys_in, value_in}
use Rattle.plain_operations.specs.Names.{beside}

-- ---- equal bytes

pub same_bytes : (a b : List ℕ) → bytes_eq a b ≡ true → a ≡ b
same_bytes a b e = (bytes_eq-Decides a b).0 e

pub other_way : (a b : List ℕ) → bytes_eq a b ≡ false → bytes_eq b a ≡ false
other_way a b e = go (bytes_eq b a) refl
  where
    go : (t : Bool) → bytes_eq b a ≡ t → t ≡ false
    go false q = refl
    go true q = let f : bytes_eq a b ≡ true = (bytes_eq-Decides a b).1 (sym (same_bytes b a q)) in let g : true ≡ false = sym f ∙ e in absurd cc

-- ---- tables

abbrev pub or_else : {A : Type 0} → Option A → Option A → Option A
or_else (Some a) other = Some a
or_else None other = other

pub beside_mapped : {A B : Type 0} (f : A → B) (rows : List (List ℕ × A)) (name : List ℕ) → beside (map (λ row. (row.0, f row.1)) rows) name ≡ option_map f (beside rows name)
beside_mapped f [] name = refl
beside_mapped {A} {B} f (row ∷ rows) name = go (bytes_eq row.0 name) (beside_mapped f rows name)
  where
    go : (t : Bool) → beside (map (λ row. (row.0, f row.1)) rows) name ≡ option_map f (beside rows name)
        → (if t then Some (f row.1) else beside (map (λ row. (row.0, f row.1)) rows) name) ≡ option_map f (if t then Some row.1 else beside rows name)
    go true e = refl
    go false e = e

pub beside_onto : {A : Type 0} (rows others : List (List ℕ × A)) (name : List ℕ) → beside (rows ++ others) name ≡ or_else (beside rows name) (beside others name)
beside_onto [] others name = refl
beside_onto {A} (row ∷ rows) others name = go (bytes_eq row.0 name) (beside_onto rows others name)
  where
    go : (t : Bool) → beside (rows ++ others) name ≡ or_else (beside rows name) (beside others name)
        → (if t then Some row.1 else beside (rows ++ others) name) ≡ or_else (if t then Some row.1 else beside rows name) (beside others name)
    go true e = refl
    go false e = e

-- ---- a name with a capital letter is no key

unfolded_lacks : (es : List (Entry Value)) (name : List ℕ) → AllByRecursion (λ k. folded k ≡ k) (keys_of es) → (folded name ≡ name → ⊥) → value_at_key es name ≡ None
unfolded_lacks [] name all other = refl
unfolded_lacks (e ∷ es) name all other = go (unfolded_lacks es name all.1 other) (bytes_eq e.key name) refl
  where
    go : value_at_key es name ≡ None → (t : Bool) → bytes_eq e.key name ≡ t → cond t (Some e.value) (value_at_key es name) ≡ None
    go rest false q = rest
    go rest true q = absurd (other (subst (λ k. folded k ≡ k) (same_bytes e.key name q) all.0))

pub no_key : (content : Option Content) (name : List ℕ) → IsKeyList (keys_in content) → (folded name ≡ name → ⊥) → None ≡ value_in content name
no_key None name keys other = refl
no_key (Some (Text bytes)) name keys other = refl
no_key (Some (Array items)) name keys other = refl
no_key (Some (Message message)) name keys other = refl
no_key (Some (Pairs entries)) name keys other = sym (unfolded_lacks entries name keys.folded other)
