-- What making, sharing and taking back do to what a heap stands for.
use Rattle.std.proofs.Common.{◌≡◌, ◌≢◌, ℕ, ◌+◌, ◌-◌, ◌<◌, ◌≤◌, List, [], ◌∷◌, ◌++◌, length, map, Option, Some, None, refl, sym, ap, ◌∙◌, subst, arith, ◌⊎◌, inl, inr, length-append}
use Rattle.std.specs.Prelude.{option_map, slice_get}
use Rattle.heap_meaning.specs.Values.{Value, Direct, Cell as Named, StoreValue, Words, Reference}
use Rattle.heap_meaning.specs.Reading.{place_of}
use Rattle.heap_meaning.specs.Store.{Object, Store}
use Rattle.heap_meaning.specs.Cells.{Content, Text, occurrence, occurrences, inner, count_of, cell_at, count_at, ChangesCell}
use Rattle.heap_meaning.specs.Stands.{Naming, Outside, CellFits, Stands}
use Rattle.heap_meaning.specs.Heap.{Heap, Belongs, Made, Moves, content_at, content_of_place, no_references, references_of}
use Rattle.heap_meaning.specs.Framing.{Fresh}
use Rattle.heap_meaning.proofs.Counts.{same_or}
use Rattle.heap_meaning.proofs.Steps.{share_stands, stands_same}
use Rattle.brs_heap.specs.declared.cell.Cell.{Cell}
use Rattle.brs_heap.specs.Content.{content_of}
use Rattle.brs_heap.specs.Slots.{Slots, shown, seen, slot_at, slot_count, lowered, raised}
use Rattle.brs_heap.specs.Sound.{IsSound, InOrder}
use Rattle.brs_heap.proofs.Slots.{Changed, cell_seen, set_changed, changed_seen, count_slot, seen_at, lower_keeps, sound_changed}

pub place_is : (v : Value) (k : ℕ) → place_of v ≡ Some k → v ≡ Named k
place_is (Direct p) k e = absurd cc
place_is (Named j) k e = let f : j ≡ k = cc in ap Named f

pub no_place : (v : Value) → place_of v ≡ None → (k : ℕ) → occurrence k v ≡ 0
no_place (Direct p) e k = refl
no_place (Named j) e k = absurd cc

pub raise_stands : (old new : Slots) (k : ℕ) → 0 < count_at (seen old) k → new ≡ raised old k (slot_at old k) → (name : Naming) (store : Store) (before after : Outside) → Stands name (seen old) store before → ((i : ℕ) → before i + occurrence i (Named k) ≡ after i + 0) → Stands name (seen new) store after
raise_stands old new k l e name store before after s m = go (slot_at old k) refl e (let c = count_slot old k in omega arith)
  where
    go : (o : Option Cell) → slot_at old k ≡ o → new ≡ raised old k o → 0 < slot_count o → Stands name (seen new) store after
    go None q f p = absurd (omega arith)
    go (Some c) q f p =
        share_stands name (seen old) (seen new) store before after s k (record { count = c.count; content = content_of c.content }) (seen_at old k c q) p (changed_seen old new k _ (set_changed old new k c _ q f)) (λ i. let a = m i in omega arith)

-- a share of a value that has this cell
pub raise_moves : (old : Heap) (slots new : Slots) (shares less : ℕ) (k : ℕ) (v : Value) → record { cells = seen slots; shares = shares } ≡ old → new ≡ raised slots k (slot_at slots k) → v ≡ Named k → Belongs old v → Moves old (record { cells = seen new; shares = less }) no_references (references_of v)
raise_moves old slots new shares less k v q e is b name store before after s m =
    let c : 0 < count_at old.cells k = let d : Belongs old (Named k) = subst (Belongs old) is b in d in
    raise_stands slots new k (subst (λ (h : Heap). 0 < count_at h.cells k) (sym q) c) e name store before after (subst (λ (h : Heap). Stands name h.cells store before) (sym q) s) (λ i. ap (λ w. before i + occurrence i w) (sym is) ∙ m i)

-- a share of a plain value
pub same_moves : (old : Heap) (v : Value) → place_of v ≡ None → Moves old old no_references (references_of v)
same_moves old v e name store before after s m = stands_same name old.cells store before after s (λ k. let a = m k in let z = no_place v e k in omega arith)

abbrev content : Option Cell → Option Content
content o = option_map (λ c. c.content) (shown o)

-- what the slots show is unchanged by a share
pub raise_contents : (old : Heap) (slots new : Slots) (shares less : ℕ) (k : ℕ) → record { cells = seen slots; shares = shares } ≡ old → new ≡ raised slots k (slot_at slots k) → (w : Value) → content_at (record { cells = seen new; shares = less }) w ≡ content_at old w
raise_contents old slots new shares less k q e w = at_place (place_of w) ∙ ap (λ (h : Heap). content_at h w) q
  where
    go : (i : ℕ) (o : Option Cell) → slot_at slots k ≡ o → new ≡ raised slots k o → content (slot_at new i) ≡ content (slot_at slots i)
    go i None q f = ap (λ x. content (slot_at x i)) f
    go i (Some c) q f =
        let ch = set_changed slots new k c _ q f in
        elim (same_or i k) [ inl z ↦ subst (λ x. content (slot_at new x) ≡ content (slot_at slots x)) (sym z) (ap content ch.here ∙ sym (ap content q)) | inr d ↦ ap content (ch.others i d) ]

    at_place : (p : Option ℕ) → content_of_place (record { cells = seen new; shares = less }) p ≡ content_of_place (record { cells = seen slots; shares = shares }) p
    at_place None = refl
    at_place (Some i) = ap (option_map (λ c. c.content)) (cell_seen new i) ∙ go i (slot_at slots k) refl e ∙ sym (ap (option_map (λ c. c.content)) (cell_seen slots i))

pub lower_moves : (old : Heap) (slots new : Slots) (shares : ℕ) (k : ℕ) (v : Value) → record { cells = seen slots; shares = shares } ≡ old → new ≡ lowered slots k (slot_at slots k) → v ≡ Named k → Moves old (record { cells = seen new; shares = shares }) (references_of v) no_references
lower_moves old slots new shares k v q e is name store before after s m =
    lower_keeps slots new k e name store before after (subst (λ (h : Heap). Stands name h.cells store before) (sym q) s) (λ i. let a = m i in let f : occurrence i v ≡ occurrence i (Named k) = ap (occurrence i) is in omega arith)

pub back_moves : (old : Heap) (v : Value) → place_of v ≡ None → Moves old old (references_of v) no_references
back_moves old v e name store before after s m = stands_same name old.cells store before after s (λ k. let a = m k in let z = no_place v e k in omega arith)

vacant : (slots : Slots) (k : ℕ) → slot_at slots k ≡ None → cell_at (seen slots) k ≡ None
vacant slots k e = cell_seen slots k ∙ ap shown e

-- a cell in a place that was free
module _ (old new : Slots) (k : ℕ) (x : Cell) (content : Content) (once : x.count ≡ 1) (holds : content_of x.content ≡ content) (free : slot_at old k ≡ None) (here : slot_at new k ≡ Some x) (others : (i : ℕ) → i ≢ k → slot_at new i ≡ slot_at old i) where
  made_changed : Changed old new k (Some x)
  made_changed = record { here = here; others = others }

  pub made_sound : (s : ℕ) → InOrder content → IsSound (seen old) s → IsSound (seen new) s
  made_sound s keys sound = sound_changed old new k x s s made_changed (let l = sound.left in omega arith) (omega arith) (subst InOrder (sym holds) keys) sound

  made_sets : ChangesCell (seen old) (seen new) k (Some (record { count = 1; content = content }))
  made_sets = subst (λ c. ChangesCell (seen old) (seen new) k (Some (record { count = 1; content = c }))) holds (subst (λ n. ChangesCell (seen old) (seen new) k (Some (record { count = n; content = content_of x.content }))) once (changed_seen old new k _ made_changed))

  pub made_fresh : (heap : Heap) (shares less : ℕ) (v : Value) → record { cells = seen old; shares = shares } ≡ heap → v ≡ Named k → Fresh heap (record { cells = seen new; shares = less }) v content
  made_fresh heap shares less v q is = subst (λ (h : Heap). Fresh h (record { cells = seen new; shares = less }) v content) q (record {
    place = k;
    is = is;
    vacant = vacant old k free;
    holds = made_sets.changed;
    others = made_sets.others;
  })
