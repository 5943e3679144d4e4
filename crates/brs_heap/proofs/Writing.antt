-- A cell that is written, as the heap shows it.
use Rattle.std.proofs.Common.{◌≡◌, ℕ, ◌+◌, ◌<◌, ◌≤◌, List, [], ◌∷◌, map, length, Option, Some, None, refl, sym, ap, ◌∙◌, subst, arith}
use Rattle.std.specs.Prelude.{option_map, slice_index_or}
use Rattle.std.proofs.lemmas.Grind.{common_steps}
use Rattle.std.proofs.lemmas.Bool.Decides.{nat_tests}
use Rattle.chan_values.specs.Folded.{folded, folded_byte}
use Rattle.chan_values.specs.Portable.{IsKeyList}
use Rattle.heap_meaning.specs.Values.{Value, Cell as Named, Entry, filler}
use Rattle.heap_meaning.specs.Keys.{keys_of, with_key, without_key}
use Rattle.heap_meaning.specs.Cells as m
use Rattle.heap_meaning.specs.Cells.{Text, Array, Pairs, Message, count_at, count_of, cell_at}
use Rattle.heap_meaning.specs.Reading.{children_in, length_in}
use Rattle.heap_meaning.specs.Heap.{Heap, content_at}
use Rattle.heap_meaning.specs.Framing.{Rewritten, ItemsChange, EntriesChange}
use Rattle.heap_meaning.proofs.Lists.{past, map_length}
use Rattle.heap_meaning.proofs.Searching.{key_list_with, key_list_without}
use Rattle.brs_heap.specs.declared.cell.Cell.{Cell}
use Rattle.brs_heap.specs.Content.{content_of}
use Rattle.brs_heap.specs.Slots.{Slots, shown, seen, slot_at, slot_content}
use Rattle.brs_heap.specs.Sound.{IsSound, InOrder, Written}
use Rattle.brs_heap.proofs.Slots.{cell_seen, set_changed, changed_seen, seen_at, sound_changed, slot_order}

-- what a slot holds is what its heap shows
pub content_slot : (heap : Heap) (slots : Slots) (shares k : ℕ) (v : Value) → record { cells = seen slots; shares = shares } ≡ heap → v ≡ Named k → slot_content (slot_at slots k) ≡ content_at heap v
content_slot heap slots shares k v q is =
    sym (ap (λ (h : Heap). content_at h v) (sym q) ∙ ap (content_at (record { cells = seen slots; shares = shares })) is ∙ ap (option_map (λ c. c.content)) (cell_seen slots k) ∙ go (slot_at slots k))
  where
    go : (o : Option Cell) → option_map (λ c. c.content) (shown o) ≡ slot_content o
    go None = refl
    go (Some c) = refl

pub written_rewritten : (heap : Heap) (slots new : Slots) (shares less k : ℕ) (v : Value) (Change : m.Content → m.Content → Type 0) → record { cells = seen slots; shares = shares } ≡ heap → v ≡ Named k → Written slots new k Change → Rewritten heap (record { cells = seen new; shares = less }) v Change
written_rewritten heap slots new shares less k v Change q is w =
    let s = changed_seen slots new k _ (set_changed slots new k w.cell _ w.there w.sets) in
    subst (λ (h : Heap). Rewritten h (record { cells = seen new; shares = less }) v Change) q (record {
      place = k;
      is = is;
      cell = record { count = w.cell.count; content = content_of w.cell.content };
      was = seen_at slots k w.cell w.there;
      content = content_of w.left;
      holds = s.changed;
      changes = w.changes;
      others = s.others;
    })

pub written_sound : (slots new : Slots) (k s : ℕ) (Change : m.Content → m.Content → Type 0) → Written slots new k Change → ((c d : m.Content) → Change c d → InOrder c → InOrder d) → IsSound (seen slots) s → IsSound (seen new) s
written_sound slots new k s Change w keeps sound =
    sound_changed slots new k _ s s (set_changed slots new k w.cell _ w.there w.sets)
    (let b = sound.bound k in let c : count_at (seen slots) k ≡ w.cell.count = ap count_of (seen_at slots k w.cell w.there) in omega arith)
    (omega arith) (keeps _ _ w.changes (slot_order slots k s w.cell sound w.there)) sound

pub items_order : (f : List Value → List Value) (c d : m.Content) → ItemsChange f c d → InOrder c → InOrder d
items_order f c d r o = subst InOrder (sym r.is) tt

pub with_order : (key : List ℕ) (item : Value) → folded key ≡ key → (c d : m.Content) → EntriesChange (λ es. with_key es key item) c d → InOrder c → InOrder d
with_order key item e c d r o = subst InOrder (sym r.is) (key_list_with r.entries key item (let k : InOrder (Pairs r.entries) = subst InOrder r.was o in k) e)

pub without_order : (key : List ℕ) (c d : m.Content) → EntriesChange (λ es. without_key es key) c d → InOrder c → InOrder d
without_order key c d r o = subst InOrder (sym r.is) (key_list_without r.entries key (let k : InOrder (Pairs r.entries) = subst InOrder r.was o in k))

byte_twice : (b : ℕ) → folded_byte (folded_byte b) ≡ folded_byte b
byte_twice b = grind (arith, common_steps, nat_tests)

pub folded_twice : (key : List ℕ) → folded (folded key) ≡ folded key
folded_twice [] = refl
folded_twice (b ∷ key) = let x = byte_twice b in let y = folded_twice key in cc

-- past the end stands the filler
pub past_children : (o : Option m.Content) (i : ℕ) → length_in o ≤ i → slice_index_or (children_in o) i filler ≡ filler
past_children None i l = refl
past_children (Some (Text t)) i l = refl
past_children (Some (Message t)) i l = refl
past_children (Some (Array vs)) i l = past vs i filler l
past_children (Some (Pairs es)) i l = past (map (λ e. e.value) es) i filler (let e = map_length (λ (e : Entry Value). e.value) es in omega arith)
