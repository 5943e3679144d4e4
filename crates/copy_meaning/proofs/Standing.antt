-- The cells of a heap unfold as the store for which it stands.
use Rattle.std.proofs.Common.{◌≡◌, ℕ, List, [], ◌∷◌, map, Option, Some, None, refl, ap, ◌∙◌}
use Rattle.std.specs.Prelude.{slice_get}
use Rattle.chan_values.specs.Tree.{Kind, Keyed}
use Rattle.heap_meaning.specs.Values.{Value, Direct, Cell, StoreValue, Entry}
use Rattle.heap_meaning.specs.Keys.{keys_of, values_of}
use Rattle.heap_meaning.specs.Store.{Store}
use Rattle.heap_meaning.specs.Cells as c
use Rattle.heap_meaning.specs.Cells.{Content, occurrences, inner}
use Rattle.heap_meaning.specs.Stands.{Naming, Outside, meaning, entry_meaning, Stands}
use Rattle.heap_meaning.specs.Heap.{Heap, Belongs, content_at}
use Rattle.heap_meaning.proofs.Showing.{Seen, sees_plain, sees_text, sees_array, sees_pairs, sees_message, sees, inner_belongs, among_items}
use Rattle.copy_meaning.specs.Unfolding.{Holds}
use Rattle.copy_meaning.specs.Answers.{Answer, Answers}
use Rattle.copy_meaning.specs.Forms.{form_at, form_of_content, form_in, form_of_object}
use Rattle.copy_meaning.proofs.Likeness.{Alike, carried, tree_alike}
use Rattle.copy_meaning.proofs.Answering.{answers_same}

keys_meaning : (name : Naming) (es : List (Entry Value)) → keys_of (map (entry_meaning name) es) ≡ keys_of es
keys_meaning name [] = refl
keys_meaning name (e ∷ es) = ap (λ r. e.key ∷ r) (keys_meaning name es)

values_meaning : (name : Naming) (es : List (Entry Value)) → values_of (map (entry_meaning name) es) ≡ map (meaning name) (values_of es)
values_meaning name [] = refl
values_meaning name (e ∷ es) = ap (λ r. meaning name e.value ∷ r) (values_meaning name es)

form_meaning : (h : Heap) (name : Naming) (store : Store) (outside : Outside) → Stands name h.cells store outside → (v : Value) → Belongs h v → form_in store (meaning name v) ≡ carried (meaning name) (form_at h v)
form_meaning h name store outside s (Direct p) b = refl
form_meaning h name store outside s (Cell k) b = go (Cell k) (name k) (content_at h (Cell k)) (sees h name store outside (Cell k) s b) refl
  where
    go : (v : Value) (w : StoreValue) (o : Option Content) → Seen name store v w o → v ≡ Cell k → form_in store w ≡ carried (meaning name) (form_of_content o)
    go _ _ _ sees_plain e = absurd cc
    go _ _ _ sees_text e = refl
    go _ _ _ (sees_array f) e = ap form_of_object f
    go _ _ _ (sees_pairs {es = es} f) e = ap form_of_object f ∙ ap (λ ks. Holds (Keyed ks) (values_of (map (entry_meaning name) es))) (keys_meaning name es) ∙ ap (Holds (Keyed (keys_of es))) (values_meaning name es)
    go _ _ _ (sees_message f) e = ap form_of_object f

item_belongs : (h : Heap) (name : Naming) (store : Store) (outside : Outside) → Stands name h.cells store outside → (v : Value) (k : Kind) (items : List Value) (i : ℕ) (w : Value) → Belongs h v → form_at h v ≡ Holds k items → slice_get items i ≡ Some w → Belongs h w
item_belongs h name store outside s (Direct p) k items i w b e g = absurd cc
item_belongs h name store outside s (Cell m) k items i w b e g = go (content_at h (Cell m)) refl e
  where
    held : (x : Content) → content_at h (Cell m) ≡ Some x → inner x ≡ items → Belongs h w
    held x q f = inner_belongs h name store outside (Cell m) w x s q (λ j p. among_items j i (inner x) (ap (λ vs. slice_get vs i) f ∙ g ∙ ap Some p))

    go : (o : Option Content) → content_at h (Cell m) ≡ o → form_of_content o ≡ Holds k items → Belongs h w
    go None q e = absurd cc
    go (Some (c.Text bytes)) q e = absurd cc
    go (Some (c.Array vs)) q e = held (c.Array vs) q (let r : vs ≡ items = cc in r)
    go (Some (c.Pairs es)) q e = held (c.Pairs es) q (let r : values_of es ≡ items = cc in r)
    go (Some (c.Message message)) q e = absurd cc

stands_alike : (h : Heap) (name : Naming) (store : Store) (outside : Outside) → Stands name h.cells store outside → Alike (form_at h) (form_in store) (meaning name) (Belongs h)
stands_alike h name store outside s = record { shows = form_meaning h name store outside s; items = item_belongs h name store outside s }

-- the answer on a value of the heap is the answer on what it stands for
pub answers_meaning : (h : Heap) (name : Naming) (store : Store) (outside : Outside) (bound most : ℕ) (v : Value) (x : Answer) → Stands name h.cells store outside → Belongs h v → Answers (form_at h) bound most v x → Answers (form_in store) bound most (meaning name v) x
answers_meaning h name store outside bound most v x s b a = answers_same (form_at h) (form_in store) bound most v (meaning name v) x (tree_alike (form_at h) (form_in store) (meaning name) (Belongs h) (stands_alike h name store outside s) bound v b) a
