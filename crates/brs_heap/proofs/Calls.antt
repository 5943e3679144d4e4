-- What single calls need of the laws.
use Rattle.std.proofs.Common.{◌≡◌, ℕ, zero, suc, ◌+◌, ◌<◌, ◌≤◌, List, [], ◌∷◌, map, length, get_or, Option, Some, None, Result, Ok, Err, refl, sym, ap, ◌∙◌, subst, arith}
use Rattle.std.specs.Prelude.{option_map, slice_get, slice_set, OnOk, OnSome, IfOk, IfSome, IfNone, OnErr}
use Rattle.std.specs.List.{insert, remove}
use Rattle.std.specs.List.Sorted.{IsStrictlySortedBy}
use Rattle.std.specs.Ordering.{nat_cmp}
use Rattle.std.specs.Cmp.Lexicographic.{slice_cmp}
use Rattle.chan_values.specs.Portable.{IsKeyList}
use Rattle.heap_meaning.specs.Values.{Value, Entry, filler}
use Rattle.heap_meaning.specs.Keys.{keys_of, values_of, value_at_key, with_key, without_key, IsGap}
use Rattle.heap_meaning.specs.Cells as m
use Rattle.heap_meaning.specs.Cells.{HeldCell, Text, Array, Pairs, Message, cell_at}
use Rattle.heap_meaning.specs.Reading.{place_of, children_in, entries_in, keys_in, length_in, value_in, item_in}
use Rattle.heap_meaning.specs.Heap.{Heap, content_at, content_of_place}
use Rattle.heap_meaning.specs.Framing.{EntriesChange}
use Rattle.heap_meaning.proofs.Lists.{map_set, map_insert, map_remove, map_length}
use Rattle.heap_meaning.proofs.Searching.{with_key_there, with_key_new, without_key_there, value_in_gap}
use Rattle.heap_meaning.proofs.KeyChanges.{IsAt, entry_at, value_is_at}
use Rattle.brs_heap.specs.declared.cell.Cell.{Cell}
use Rattle.brs_heap.specs.declared.cell.Content as c
use Rattle.brs_heap.specs.declared.cell.Entry as e
use Rattle.brs_heap.specs.Content.{content_of, entry_of}
use Rattle.brs_heap.specs.Slots.{Slots, seen, slot_at, slot_content}
use Rattle.brs_heap.specs.Sound.{IsSound, InOrder, Written}

pub on_ok_then : {A E : Type 0} (r : Result A E) (P Q : Type 0) → (P → Q) → OnOk r P → OnOk r Q
on_ok_then (Ok x) P Q f h = f h
on_ok_then (Err x) P Q f h = tt

pub if_ok_then : {A E : Type 0} (r : Result A E) (P Q : A → Type 0) → ((a : A) → P a → Q a) → IfOk r P → IfOk r Q
if_ok_then (Ok x) P Q f h = f x h
if_ok_then (Err x) P Q f h = tt

pub on_some_then : {A : Type 0} (o : Option A) (P Q : Type 0) → (P → Q) → OnSome o P → OnSome o Q
on_some_then (Some x) P Q f h = f h
on_some_then None P Q f h = tt

pub taken_some : {A : Type 0} (o p : Option A) (W : Type 0) (G : A → Type 0) → o ≡ p → ((a : A) → Some a ≡ p → W → G a) → OnSome o W → IfSome o G
taken_some (Some x) p W G q f h = f x q h
taken_some None p W G q f h = tt

-- either written, or as it was
pub ok_or_same : {A E : Type 0} (r : Result A E) (cells cells' : m.Cells) (s : ℕ) (W : Type 0) → (W → IsSound cells' s) → IsSound cells s → OnOk r W → OnErr r (cells' ≡ cells) → IsSound cells' s
ok_or_same (Ok x) cells cells' s W f sound h k = f h
ok_or_same (Err x) cells cells' s W f sound h k = subst (λ d. IsSound d s) (sym k) sound

pub some_or_same : {A : Type 0} (o : Option A) (cells cells' : m.Cells) (s : ℕ) (W : Type 0) → (W → IsSound cells' s) → IsSound cells s → OnSome o W → IfNone o (cells' ≡ cells) → IsSound cells' s
some_or_same (Some x) cells cells' s W f sound h k = f h
some_or_same None cells cells' s W f sound h k = subst (λ d. IsSound d s) (sym k) sound

pub pairs_there : (slots : Slots) (k : ℕ) (x : Cell) (es : List (Entry Value)) → slot_at slots k ≡ Some x → content_of x.content ≡ Pairs es → slot_content (slot_at slots k) ≡ Some (Pairs es)
pairs_there slots k x es t h = ap slot_content t ∙ ap (λ d. Some d) h

pub entries_changed : (slots : Slots) (k : ℕ) (x : Cell) (after : c.Content) (es es' : List (Entry Value)) (change : List (Entry Value) → List (Entry Value)) → slot_at slots k ≡ Some x → content_of x.content ≡ Pairs es → content_of after ≡ Pairs es' → es' ≡ change es → Written slots (slice_set slots k (Some (record x { content = after }))) k (EntriesChange change)
entries_changed slots k x after es es' change t h g f = record {
  cell = x;
  there = t;
  left = after;
  sets = refl;
  changes = record { entries = es; was = h; is = g ∙ ap Pairs f };
}

pub entry_inserted : (slots : Slots) (k : ℕ) (x : Cell) (items items' : List e.Entry) (i : ℕ) (new : e.Entry) → slot_at slots k ≡ Some x → content_of x.content ≡ Pairs (map entry_of items) → items' ≡ insert items i new → IsGap (keys_in (slot_content (slot_at slots k))) new.key i → map entry_of items' ≡ with_key (map entry_of items) new.key new.value
entry_inserted slots k x items items' i new t h f gap =
    let g : IsGap (keys_of (map entry_of items)) new.key i = subst (λ o. IsGap (keys_in o) new.key i) (pairs_there slots k x (map entry_of items) t h) gap in
    ap (map entry_of) f ∙ map_insert entry_of items i new ∙ sym (with_key_new (map entry_of items) new.key i new.value g)

pub key_got : (items : List e.Entry) (i : ℕ) (d : e.Entry) (key : List ℕ) → slice_get (keys_of (map entry_of items)) i ≡ Some key → (get_or items i d).key ≡ key
key_got [] i d key q = absurd cc
key_got (x ∷ items) zero d key q = cc
key_got (x ∷ items) (suc i) d key q = key_got items i d key q

pub child_got : (items : List e.Entry) (i : ℕ) (d : e.Entry) (w : Value) → i < length items → (get_or items i d).value ≡ get_or (values_of (map entry_of items)) i w
child_got [] i d w l = absurd (omega arith)
child_got (x ∷ items) zero d w l = refl
child_got (x ∷ items) (suc i) d w l = child_got items i d w (omega arith)

pub key_shown : (items : List e.Entry) (i : ℕ) (d : e.Entry) → i < length items → slice_get (keys_of (map entry_of items)) i ≡ Some (get_or items i d).key
key_shown [] i d l = absurd (omega arith)
key_shown (x ∷ items) zero d l = refl
key_shown (x ∷ items) (suc i) d l = key_shown items i d (omega arith)

pub key_past : (items : List e.Entry) (i : ℕ) → length items ≤ i → slice_get (keys_of (map entry_of items)) i ≡ None
key_past [] i l = refl
key_past (x ∷ items) zero l = absurd (omega arith)
key_past (x ∷ items) (suc i) l = key_past items i (omega arith)

pub key_within : (items : List e.Entry) (i : ℕ) (key : List ℕ) → slice_get (keys_of (map entry_of items)) i ≡ Some key → i < length items
key_within [] i key q = absurd cc
key_within (x ∷ items) zero key q = omega arith
key_within (x ∷ items) (suc i) key q = let r = key_within items i key q in omega arith

pub value_put : (items : List e.Entry) (i : ℕ) (new : e.Entry) (key : List ℕ) → IsKeyList (keys_of (map entry_of items)) → slice_get (keys_of (map entry_of items)) i ≡ Some key → new.key ≡ key → map entry_of (slice_set items i new) ≡ with_key (map entry_of items) key new.value
value_put items i new key l q n =
    let a = entry_at (map entry_of items) key i filler q in
    map_set entry_of items i new ∙ ap (λ k. slice_set (map entry_of items) i (record { key = k; value = new.value })) n
    ∙ sym (with_key_there (map entry_of items) l.ascending i (record { key = key; value = get_or (values_of (map entry_of items)) i filler }) a.there new.value)

pub entry_removed : (items items' : List e.Entry) (i : ℕ) (key : List ℕ) → IsKeyList (keys_of (map entry_of items)) → slice_get (keys_of (map entry_of items)) i ≡ Some key → items' ≡ remove items i → map entry_of items' ≡ without_key (map entry_of items) key
entry_removed items items' i key l q f =
    let a = entry_at (map entry_of items) key i filler q in
    ap (map entry_of) f ∙ map_remove entry_of items i ∙ sym (without_key_there (map entry_of items) l.ascending i (record { key = key; value = get_or (values_of (map entry_of items)) i filler }) a.there)

pub value_of_entries : (o : Option m.Content) (es : List (Entry Value)) (key : List ℕ) → Some es ≡ entries_in o → value_in o key ≡ value_at_key es key
value_of_entries None es key q = absurd cc
value_of_entries (Some (Text t)) es key q = absurd cc
value_of_entries (Some (Array t)) es key q = absurd cc
value_of_entries (Some (Message t)) es key q = absurd cc
value_of_entries (Some (Pairs fs)) es key q = let f : es ≡ fs = cc in ap (λ l. value_at_key l key) (sym f)

pub keys_of_entries : (o : Option m.Content) (es : List (Entry Value)) → Some es ≡ entries_in o → keys_in o ≡ keys_of es
keys_of_entries None es q = absurd cc
keys_of_entries (Some (Text t)) es q = absurd cc
keys_of_entries (Some (Array t)) es q = absurd cc
keys_of_entries (Some (Message t)) es q = absurd cc
keys_of_entries (Some (Pairs fs)) es q = let f : es ≡ fs = cc in ap keys_of (sym f)

pub entries_are : (o : Option m.Content) (es fs : List (Entry Value)) → Some es ≡ entries_in o → o ≡ Some (Pairs fs) → es ≡ fs
entries_are o es fs q h = let f : Some es ≡ Some fs = q ∙ ap entries_in h in cc

pub entries_length : (o : Option m.Content) (es : List (Entry Value)) → Some es ≡ entries_in o → length_in o ≡ length es
entries_length None es q = absurd cc
entries_length (Some (Text t)) es q = absurd cc
entries_length (Some (Array t)) es q = absurd cc
entries_length (Some (Message t)) es q = absurd cc
entries_length (Some (Pairs fs)) es q = let f : es ≡ fs = cc in ap length (sym f)

no_keys : IsKeyList []
unfolding IsStrictlySortedBy
no_keys = record { folded = tt; ascending = tt }

pub bare_keys : (ks : List (List ℕ)) → ks ≡ [] → IsKeyList ks
bare_keys ks q = subst IsKeyList (sym q) no_keys

pub keys_of_none : (o : Option m.Content) → None ≡ entries_in o → IsKeyList (keys_in o)
keys_of_none None q = no_keys
keys_of_none (Some (Text t)) q = no_keys
keys_of_none (Some (Array t)) q = no_keys
keys_of_none (Some (Message t)) q = no_keys
keys_of_none (Some (Pairs fs)) q = absurd cc

pub got_key : (o : Option m.Content) (items : List e.Entry) (key : List ℕ) (i : ℕ) (d : e.Entry) → Some (map entry_of items) ≡ entries_in o → IsKeyList (keys_of (map entry_of items)) → slice_get (keys_of (map entry_of items)) i ≡ Some key → Some (get_or items i d).value ≡ value_in o key
got_key o items key i d q l there =
    ap (λ w. Some w) (child_got items i d filler (key_within items i key there)) ∙ sym (value_is_at (map entry_of items) key i _ l (entry_at (map entry_of items) key i filler there)) ∙ sym (value_of_entries o (map entry_of items) key q)

pub missed_key : (o : Option m.Content) (items : List e.Entry) (key : List ℕ) (i : ℕ) → Some (map entry_of items) ≡ entries_in o → IsGap (keys_of (map entry_of items)) key i → None ≡ value_in o key
missed_key o items key i q gap = sym (value_of_entries o (map entry_of items) key q ∙ value_in_gap (map entry_of items) key i gap)

-- the keys of an associative array are in order
pub order_of : (heap : Heap) (slots : Slots) (shares : ℕ) (v : Value) (d : m.Content) → record { cells = seen slots; shares = shares } ≡ heap → IsSound (seen slots) shares → content_at heap v ≡ Some d → InOrder d
order_of heap slots shares v d q sound e = go (place_of v) (ap (λ (h : Heap). content_at h v) q ∙ e)
  where
    at : (k : ℕ) (o : Option HeldCell) → cell_at (seen slots) k ≡ o → option_map (λ x. x.content) o ≡ Some d → InOrder d
    at k None t f = absurd cc
    at k (Some x) t f = let g : x.content ≡ d = cc in subst InOrder g (sound.ordered k x t)

    go : (p : Option ℕ) → content_of_place (record { cells = seen slots; shares = shares }) p ≡ Some d → InOrder d
    go None f = absurd cc
    go (Some k) f = at k (cell_at (seen slots) k) refl f
