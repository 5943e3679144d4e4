-- Entries of associative arrays, one by one.
use Rattle.std.proofs.Common.{◌≡◌, ℕ, zero, suc, List, [], ◌∷◌, map, length, Option, Some, None, refl, sym, ap, ◌∙◌, subst, Bool, true, false, cond}
use Rattle.std.specs.Prelude.{slice_get, slice_set, option_map}
use Rattle.std.specs.Str.{bytes_eq}
use Rattle.std.specs.List.{remove, AllByRecursion}
use Rattle.chan_values.specs.Folded.{folded}
use Rattle.chan_values.specs.Portable.{IsKeyList}
use Rattle.heap_meaning.specs.Values.{Value, StoreValue, Entry}
use Rattle.heap_meaning.specs.Keys.{keys_of, value_at_key, with_key, without_key}
use Rattle.heap_meaning.specs.Cells.{Content}
use Rattle.heap_meaning.specs.Stands.{Naming, Outside, meaning, entry_meaning, Stands}
use Rattle.heap_meaning.specs.Store.{Store}
use Rattle.heap_meaning.specs.Heap.{Heap, Belongs, content_at}
use Rattle.heap_meaning.specs.Reading.{length_in, value_in, keys_in, text_in}
use Rattle.heap_meaning.proofs.Lists.{map_length}
use Rattle.heap_meaning.proofs.Searching.{value_there, without_key_there, with_key_there}
use Rattle.heap_meaning.proofs.Showing.{Seen, sees_plain, sees_text, sees_array, sees_pairs, sees_message, sees}
use Rattle.object_operations.specs.Answer.{text_of}
use Rattle.object_operations.proofs.Seeing.{MapHeld}

pub value_map : (name : Naming) (es : List (Entry Value)) (key : List ℕ) → value_at_key (map (entry_meaning name) es) key ≡ option_map (meaning name) (value_at_key es key)
value_map name [] key = refl
value_map name (e ∷ es) key = go (value_map name es key) (bytes_eq e.key key)
  where
    go : value_at_key (map (entry_meaning name) es) key ≡ option_map (meaning name) (value_at_key es key) → (b : Bool) → cond b (Some (meaning name e.value)) (value_at_key (map (entry_meaning name) es) key) ≡ option_map (meaning name) (cond b (Some e.value) (value_at_key es key))
    go more true = refl
    go more false = more

pub keys_map : (name : Naming) (es : List (Entry Value)) → keys_of (map (entry_meaning name) es) ≡ keys_of es
keys_map name [] = refl
keys_map name (e ∷ es) = ap (λ r. e.key ∷ r) (keys_map name es)

pub held_keys : (h : Heap) (name : Naming) (v : Value) (entries : List (Entry StoreValue)) → MapHeld h name v entries → keys_in (content_at h v) ≡ keys_of entries
held_keys h name v entries a = ap keys_in a.content ∙ sym (ap keys_of a.shows ∙ keys_map name a.held)

pub held_value : (h : Heap) (name : Naming) (v : Value) (entries : List (Entry StoreValue)) (key : List ℕ) → MapHeld h name v entries → value_at_key entries key ≡ option_map (meaning name) (value_in (content_at h v) key)
held_value h name v entries key a = ap (λ l. value_at_key l key) a.shows ∙ value_map name a.held key ∙ ap (λ o. option_map (meaning name) (value_in o key)) (sym a.content)

pub held_entries : (h : Heap) (name : Naming) (v : Value) (entries : List (Entry StoreValue)) → MapHeld h name v entries → length_in (content_at h v) ≡ length entries
held_entries h name v entries a = ap length_in a.content ∙ sym (ap length a.shows ∙ map_length (entry_meaning name) a.held)

-- the text that a value of the heap stands for
pub text_seen : (h : Heap) (name : Naming) (store : Store) (before : Outside) (v : Value) → Stands name h.cells store before → Belongs h v → text_of (meaning name v) ≡ text_in (content_at h v)
text_seen h name store before v s b = go v (meaning name v) (content_at h v) (sees h name store before v s b)
  where
    go : (u : Value) (w : StoreValue) (o : Option Content) → Seen name store u w o → text_of w ≡ text_in o
    go _ _ _ sees_plain = refl
    go _ _ _ sees_text = refl
    go _ _ _ (sees_array g) = refl
    go _ _ _ (sees_pairs g) = refl
    go _ _ _ (sees_message g) = refl

all_here : {A : Type 0} (P : A → Type 0) (xs : List A) (i : ℕ) (x : A) → AllByRecursion P xs → slice_get xs i ≡ Some x → P x
all_here P [] i x a e = absurd cc
all_here P (y ∷ xs) zero x a e = let f : y ≡ x = cc in subst P f a.0
all_here P (y ∷ xs) (suc i) x a e = all_here P xs i x a.1 e

pub key_folded : (keys : List (List ℕ)) (i : ℕ) (key : List ℕ) → IsKeyList keys → slice_get keys i ≡ Some key → folded key ≡ key
key_folded keys i key l e = all_here (λ k. folded k ≡ k) keys i key l.folded e

-- the entry at a place, by its key
pub entry_here : {A : Type 0} (es : List (Entry A)) (i : ℕ) (key : List ℕ) → slice_get (keys_of es) i ≡ Some key → (v : A) × (slice_get es i ≡ Some (record { key = key; value = v }))
entry_here [] i key e = absurd cc
entry_here (x ∷ es) zero key e = let f : x.key ≡ key = cc in (x.value, ap (λ k. Some (record { key = k; value = x.value })) f)
entry_here (x ∷ es) (suc i) key e = entry_here es i key e

pub no_entry : {A : Type 0} (es : List (Entry A)) (i : ℕ) → slice_get (keys_of es) i ≡ None → slice_get es i ≡ None
no_entry [] i e = refl
no_entry (x ∷ es) zero e = absurd cc
no_entry (x ∷ es) (suc i) e = no_entry es i e

pub without_here : {A : Type 0} (es : List (Entry A)) (i : ℕ) (key : List ℕ) → IsKeyList (keys_of es) → slice_get (keys_of es) i ≡ Some key → without_key es key ≡ remove es i
without_here es i key l e = let x = entry_here es i key e in without_key_there es l.ascending i (record { key = key; value = x.0 }) x.1

pub value_here : {A : Type 0} (es : List (Entry A)) (i : ℕ) (key : List ℕ) (v : A) → IsKeyList (keys_of es) → slice_get es i ≡ Some (record { key = key; value = v }) → value_at_key es key ≡ Some v
value_here es i key v l e = value_there es l.ascending i (record { key = key; value = v }) e

pub with_here : {A : Type 0} (es : List (Entry A)) (i : ℕ) (key : List ℕ) (v w : A) → IsKeyList (keys_of es) → slice_get es i ≡ Some (record { key = key; value = v }) → with_key es key w ≡ slice_set es i (record { key = key; value = w })
with_here es i key v w l e = with_key_there es l.ascending i (record { key = key; value = v }) e w
