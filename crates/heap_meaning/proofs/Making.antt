-- What a new cell does to what a heap stands for.
use Rattle.std.proofs.Common.{◌≡◌, ℕ, ◌+◌, ◌-◌, ◌<◌, ◌≤◌, List, [], ◌∷◌, ◌++◌, length, map, Some, refl, sym, ap, ◌∙◌, subst, arith, ◌⊎◌, inl, inr, length-append}
use Rattle.std.specs.Prelude.{slice_get}
use Rattle.chan_values.specs.declared.message.Message as m
use Rattle.heap_meaning.specs.Values.{Value, Cell, StoreValue, Words, Reference}
use Rattle.heap_meaning.specs.Store.{Object, ArrayObject, MapObject, MessageObject, Store}
use Rattle.heap_meaning.specs.Cells.{Content, Text, Array, Pairs, Message, occurrence, occurrences, inner, ChangesCell}
use Rattle.heap_meaning.specs.Stands.{Naming, Outside, meaning, CellFits, Stands}
use Rattle.heap_meaning.specs.Heap.{Heap, Made, MakesText, MakesObject}
use Rattle.heap_meaning.specs.Framing.{Fresh}
use Rattle.heap_meaning.proofs.Writes.{named_too, named_new, new_stands, new_agrees, get_front, get_last}
use Rattle.heap_meaning.proofs.Laws.{zero_or}

only_new : (store : Store) (o : Object) (n : ℕ) → n < length (store ++ o ∷ []) → (n < length store) ⊎ (Reference (length store) ≡ Reference n)
only_new store o n l = elim (zero_or (length store - n)) [ inl z ↦ inr (ap Reference (let a = length-append store (o ∷ []) in omega arith)) | inr p ↦ inl (omega arith) ]

module _ (old new : Heap) (v : Value) (content : Content) (f : Fresh old new v content) (bare : (i : ℕ) → occurrences i (inner content) ≡ 0)
    (name : Naming) (store : Store) (before after : Outside) (s : Stands name old.cells store before) (m : (i : ℕ) → after i ≡ occurrence i v + before i) where
  gives : (i : ℕ) → after i ≡ occurrence i (Cell f.place) + before i
  gives i = m i ∙ ap (λ w. occurrence i w + before i) f.is

  takes : (i : ℕ) → before i ≡ occurrences i (inner content) + before i
  takes i = let z = bare i in omega arith

  sets : ChangesCell old.cells new.cells f.place (Some (record { count = 1; content = content }))
  sets = record { changed = f.holds; others = f.others }

  -- a new cell whose content stands for this value in the store with one object more, or in the same store
  pub made : (store' : Store) (w : StoreValue) → CellFits name store' w content → ((n : ℕ) → n < length store → slice_get store' n ≡ slice_get store n) → ((n : ℕ) → n < length store' → (n < length store) ⊎ (w ≡ Reference n)) → ((n : ℕ) → w ≡ Reference n → length store ≤ n) → Made name new store' before after v w
  made store' w fits front only fresh = record {
    naming = named_too name f.place w;
    agrees = new_agrees name old.cells new.cells store store' before after before s f.place f.vacant content sets takes gives w fits front only fresh;
    shows = subst (λ x. meaning (named_too name f.place w) x ≡ w) (sym f.is) (named_new name f.place w);
    stands = new_stands name old.cells new.cells store store' before after before s f.place f.vacant content sets takes gives w fits front only fresh;
  }

  pub made_object : (o : Object) → CellFits name (store ++ o ∷ []) (Reference (length store)) content → Made name new (store ++ o ∷ []) before after v (Reference (length store))
  made_object o fits = made (store ++ o ∷ []) (Reference (length store)) fits (λ n l. get_front store (o ∷ []) n l) (only_new store o) (λ n e. let q : length store ≡ n = cc in omega arith)

pub fresh_text : (old new : Heap) (v : Value) (bytes : List ℕ) → Fresh old new v (Text bytes) → MakesText old new v bytes
fresh_text old new v bytes f name store before after s m =
    made old new v (Text bytes) f (λ i. refl) name store before after s m store (Words bytes) refl (λ n l. refl) (λ n l. inl l) (λ n e. absurd cc)

pub fresh_array : (old new : Heap) (v : Value) → Fresh old new v (Array []) → MakesObject old new v (ArrayObject [])
fresh_array old new v f name store before after s m =
    made_object old new v (Array []) f (λ i. refl) name store before after s m (ArrayObject []) (length store, refl, get_last store (ArrayObject []))

pub fresh_map : (old new : Heap) (v : Value) → Fresh old new v (Pairs []) → MakesObject old new v (MapObject [])
fresh_map old new v f name store before after s m =
    made_object old new v (Pairs []) f (λ i. refl) name store before after s m (MapObject []) (length store, refl, get_last store (MapObject []))

pub fresh_message : (old new : Heap) (v : Value) (message : m.Message) → Fresh old new v (Message message) → MakesObject old new v (MessageObject message)
fresh_message old new v message f name store before after s m =
    made_object old new v (Message message) f (λ i. refl) name store before after s m (MessageObject message) (length store, refl, get_last store (MessageObject message))
