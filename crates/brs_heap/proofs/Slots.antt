-- How the cells follow when one slot changes.
use Rattle.std.proofs.Common.{◌≡◌, ◌≢◌, ℕ, zero, suc, ◌+◌, ◌-◌, ◌^◌, ◌<◌, ◌≤◌, [], ◌∷◌, length, Option, Some, None, refl, sym, ap, ◌∙◌, subst, arith, inl, inr}
use Rattle.std.specs.Prelude.{slice_set}
use Rattle.std.proofs.Math.ListN.{get_or-map}
use Rattle.std.proofs.lemmas.List.{get_or-set_same, get_or-set_other}
use Rattle.std.proofs.lemmas.Grind.{common_steps}
use Rattle.heap_meaning.specs.Values.{Cell as Named}
use Rattle.heap_meaning.specs.Store.{Store}
use Rattle.heap_meaning.specs.Cells.{HeldCell, occurrence, count_of, cell_at, count_at, ChangesCell}
use Rattle.heap_meaning.specs.Stands.{Naming, Outside, Stands}
use Rattle.heap_meaning.proofs.Counts.{same_or, occurrence_self}
use Rattle.heap_meaning.proofs.Steps.{lower_stands}
use Rattle.heap_meaning.proofs.Laws.{zero_or}
use Rattle.brs_heap.specs.declared.cell.Cell.{Cell}
use Rattle.brs_heap.specs.declared.cell.Content.{Content}
use Rattle.brs_heap.specs.Content.{content_of}
use Rattle.brs_heap.specs.Slots.{Slots, shown, seen, slot_at, slot_count, lowered, raised}
use Rattle.brs_heap.specs.Sound.{IsSound, InOrder}

pub cell_seen : (slots : Slots) (k : ℕ) → cell_at (seen slots) k ≡ shown (slot_at slots k)
cell_seen slots k = get_or-map shown slots k None

-- one slot changes
pub record Changed (old new : Slots) (k : ℕ) (x : Option Cell) : Type 0 where
  pub here : slot_at new k ≡ x
  pub others : (i : ℕ) → i ≢ k → slot_at new i ≡ slot_at old i

slot_within : (slots : Slots) (k : ℕ) (c : Cell) → slot_at slots k ≡ Some c → k < length slots
slot_within [] k c e = absurd cc
slot_within (x ∷ slots) zero c e = omega arith
slot_within (x ∷ slots) (suc k) c e = let r = slot_within slots k c e in omega arith

pub set_changed : (old new : Slots) (k : ℕ) (c : Cell) (x : Option Cell) → slot_at old k ≡ Some c → new ≡ slice_set old k x → Changed old new k x
set_changed old new k c x there e = record {
  here = ap (λ s. slot_at s k) e ∙ get_or-set_same old k x None (slot_within old k c there);
  others = λ i d. ap (λ s. slot_at s i) e ∙ get_or-set_other old k i x None d;
}

pub changed_seen : (old new : Slots) (k : ℕ) (x : Option Cell) → Changed old new k x → ChangesCell (seen old) (seen new) k (shown x)
changed_seen old new k x c = record {
  changed = cell_seen new k ∙ ap shown c.here;
  others = λ i d. cell_seen new i ∙ ap shown (c.others i d) ∙ sym (cell_seen old i);
}

pub count_seen : (slots : Slots) (k : ℕ) → count_at (seen slots) k ≡ count_of (shown (slot_at slots k))
count_seen slots k = ap count_of (cell_seen slots k)

pub count_slot : (slots : Slots) (k : ℕ) → count_at (seen slots) k ≡ slot_count (slot_at slots k)
count_slot slots k = count_seen slots k ∙ go (slot_at slots k)
  where
    go : (o : Option Cell) → count_of (shown o) ≡ slot_count o
    go None = refl
    go (Some c) = refl

pub seen_at : (slots : Slots) (k : ℕ) (c : Cell) → slot_at slots k ≡ Some c → cell_at (seen slots) k ≡ Some (record { count = c.count; content = content_of c.content })
seen_at slots k c e = cell_seen slots k ∙ ap shown e

-- a slot that shows the same
pub seen_same : (slots : Slots) (k : ℕ) (c d : Cell) → slot_at slots k ≡ Some c → shown (Some d) ≡ shown (Some c) → seen (slice_set slots k (Some d)) ≡ seen slots
seen_same [] k c d e f = refl
seen_same (x ∷ slots) zero c d e f = let g : shown x ≡ shown (Some c) = ap shown e in ap (λ y. y ∷ seen slots) (f ∙ sym g)
seen_same (x ∷ slots) (suc k) c d e f = ap (λ r. shown x ∷ r) (seen_same slots k c d e f)

pub shown_content : (c : Cell) (d : Content) → content_of d ≡ content_of c.content → shown (Some (record c { content = d })) ≡ shown (Some c)
shown_content c d e = ap (λ x. Some (record { count = c.count; content = x })) e

-- the bound on counts and the order of keys, where one slot changes
pub sound_changed : (old new : Slots) (k : ℕ) (x : Cell) (s t : ℕ) → Changed old new k (Some x) → x.count + t ≤ 2 ^ 63 + 1 → t ≤ s → InOrder (content_of x.content) → IsSound (seen old) s → IsSound (seen new) t
sound_changed old new k x s t ch l le keys sound = record {
  bound = λ i. elim (same_or i k) [ inl q ↦ bound_here i q | inr d ↦ let e : count_at (seen new) i ≡ count_at (seen old) i = count_seen new i ∙ ap (λ y. count_of (shown y)) (ch.others i d) ∙ sym (count_seen old i) in let f = sound.bound i in omega arith ];
  left = let b = sound.left in omega arith;
  ordered = λ i c e. elim (same_or i k) [ inl q ↦ keys_here i c q e | inr d ↦ sound.ordered i c (sym (cell_seen new i ∙ ap shown (ch.others i d) ∙ sym (cell_seen old i)) ∙ e) ];
}
  where
    bound_here : (i : ℕ) → i ≡ k → count_at (seen new) i + t ≤ 2 ^ 63 + 1
    bound_here i q = let e : count_at (seen new) i ≡ x.count = ap (count_at (seen new)) q ∙ count_seen new k ∙ ap (λ y. count_of (shown y)) ch.here in omega arith

    keys_here : (i : ℕ) (c : HeldCell) → i ≡ k → cell_at (seen new) i ≡ Some c → InOrder c.content
    keys_here i c q e =
        let f : Some (record { count = x.count; content = content_of x.content }) ≡ Some c = sym (ap (cell_at (seen new)) q ∙ cell_seen new k ∙ ap shown ch.here) ∙ e in
        let g : record { count = x.count; content = content_of x.content } ≡ c = cc in
        subst (λ (h : HeldCell). InOrder h.content) g keys

-- the keys of a cell that is there are in order
pub slot_order : (slots : Slots) (k s : ℕ) (c : Cell) → IsSound (seen slots) s → slot_at slots k ≡ Some c → InOrder (content_of c.content)
slot_order slots k s c sound e = sound.ordered k (record { count = c.count; content = content_of c.content }) (seen_at slots k c e)

pub lower_keeps : (old new : Slots) (k : ℕ) → new ≡ lowered old k (slot_at old k) → (name : Naming) (store : Store) (outside outside' : Outside) → Stands name (seen old) store outside → ((i : ℕ) → outside i ≡ occurrence i (Named k) + outside' i) → Stands name (seen new) store outside'
lower_keeps old new k e name store outside outside' b o = go (slot_at old k) refl e counts
  where
    counts : 0 < count_of (shown (slot_at old k))
    counts = let a = b.corresponds.counted k in let c = count_seen old k in let d = o k in let f = occurrence_self k in omega arith

    go : (x : Option Cell) → slot_at old k ≡ x → new ≡ lowered old k x → 0 < count_of (shown x) → Stands name (seen new) store outside'
    go None s e l = absurd (omega arith)
    go (Some c) s e l =
        let f : new ≡ slice_set old k (Some (record c { count = c.count - 1 })) = grind (arith, common_steps) in
        lower_stands name (seen old) (seen new) store outside outside' b k (record { count = c.count; content = content_of c.content }) (seen_at old k c s) (c.count - 1) (omega arith) (changed_seen old new k _ (set_changed old new k c _ s f)) o

pub lower_sound : (old new : Slots) (k s : ℕ) → IsSound (seen old) s → new ≡ lowered old k (slot_at old k) → IsSound (seen new) s
lower_sound old new k s sound e = go (slot_at old k) refl e
  where
    go : (o : Option Cell) → slot_at old k ≡ o → new ≡ lowered old k o → IsSound (seen new) s
    go None q f = subst (λ x. IsSound (seen x) s) (sym f) sound
    go (Some c) q f = elim (zero_or c.count) [ inl z ↦ let g : new ≡ old = grind (arith, common_steps) in subst (λ x. IsSound (seen x) s) (sym g) sound | inr l ↦ let g : new ≡ slice_set old k (Some (record c { count = c.count - 1 })) = grind (arith, common_steps) in sound_changed old new k _ s s (set_changed old new k c _ q g) (let b = sound.bound k in let n : count_at (seen old) k ≡ c.count = count_seen old k ∙ ap (λ y. count_of (shown y)) q in omega arith) (omega arith) (slot_order old k s c sound q) sound ]

pub raise_room : (slots : Slots) (k s : ℕ) → IsSound (seen slots) s → 0 < s → slot_count (slot_at slots k) < 2 ^ 63 + 1
raise_room slots k s sound l = let b = sound.bound k in let c = count_slot slots k in omega arith

pub raise_sound : (old new : Slots) (k s : ℕ) → IsSound (seen old) s → 0 < s → new ≡ raised old k (slot_at old k) → IsSound (seen new) (s - 1)
raise_sound old new k s sound l e = go (slot_at old k) refl e
  where
    go : (o : Option Cell) → slot_at old k ≡ o → new ≡ raised old k o → IsSound (seen new) (s - 1)
    go None q f = subst (λ x. IsSound (seen x) (s - 1)) (sym f) (record { bound = λ i. let b = sound.bound i in omega arith; left = let b = sound.left in omega arith; ordered = sound.ordered })
    go (Some c) q f =
        let b = sound.bound k in let n : count_at (seen old) k ≡ c.count = count_seen old k ∙ ap (λ y. count_of (shown y)) q in
        sound_changed old new k _ s (s - 1) (set_changed old new k c _ q f) (omega arith) (omega arith) (slot_order old k s c sound q) sound
