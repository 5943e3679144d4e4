-- What a value is, by its shape, and its tree within a bound.
use Rattle.std.proofs.Common.{◌≡◌, ℕ, zero, suc, ◌-◌, ◌<◌, ◌≤◌, List, [], ◌∷◌, length, Option, Some, None, refl, sym, ap, ◌∙◌, arith}
use Rattle.std.specs.Prelude.{option_map, slice_get}
use Rattle.std.proofs.lemmas.List.{length-map}
use Rattle.chan_values.specs.Tree as t
use Rattle.chan_values.specs.Tree.{Kind, Array, Keyed, Tree, Leaf, Branch, parts}
use Rattle.heap_meaning.specs.declared.plain.Plain.{Plain}
use Rattle.heap_meaning.specs.declared.shape.Shape.TheVariants as s
use Rattle.heap_meaning.specs.Values.{Value, Direct, Cell}
use Rattle.heap_meaning.specs.Cells as c
use Rattle.heap_meaning.specs.Cells.{Content}
use Rattle.heap_meaning.specs.Heap.{Heap, content_at}
use Rattle.heap_meaning.specs.Reading.{plain_of, children_in, keys_in, length_in, shape_in, text_in}
use Rattle.copy_meaning.specs.Unfolding.{Single, Holds}
use Rattle.copy_meaning.specs.Bounded.{each, opened, closed, tree_within}
use Rattle.copy_meaning.specs.Forms.{leaving, form_at, form_of_content}

pub children_length : (o : Option Content) → length (children_in o) ≡ length_in o
children_length None = refl
children_length (Some (c.Text bytes)) = refl
children_length (Some (c.Array items)) = refl
children_length (Some (c.Pairs entries)) = length-map entries (λ x. x.value)
children_length (Some (c.Message message)) = refl

-- the tree within a bound, by the form
pub within_none : (h : Heap) (v : Value) (bound : ℕ) → bound ≡ 0 → tree_within (form_at h) bound v ≡ closed (form_at h v)
within_none h v zero e = refl
within_none h v (suc n) e = absurd (omega arith)

pub within_more : (h : Heap) (v : Value) (bound : ℕ) → 0 < bound → tree_within (form_at h) bound v ≡ opened (tree_within (form_at h) (bound - 1)) (form_at h v)
within_more h v zero l = absurd (omega arith)
within_more h v (suc n) l = ap (λ m. opened (tree_within (form_at h) m) (form_at h v)) (let q : n ≡ suc n - 1 = omega arith in q)

pub within_single : (h : Heap) (v : Value) (bound : ℕ) (p : t.Plain) → form_at h v ≡ Single p → tree_within (form_at h) bound v ≡ Some (Leaf p)
within_single h v zero p e = ap closed e
within_single h v (suc n) p e = ap (opened (tree_within (form_at h) n)) e

pub within_holds : (h : Heap) (v : Value) (bound : ℕ) (k : Kind) (items : List Value) → 0 < bound → form_at h v ≡ Holds k items → tree_within (form_at h) bound v ≡ option_map (Branch k) (each (tree_within (form_at h) (bound - 1)) items)
within_holds h v bound k items l e = within_more h v bound l ∙ ap (opened (tree_within (form_at h) (bound - 1))) e

pub too_deep : (h : Heap) (v : Value) (k : Kind) (items : List Value) (bound : ℕ) → bound ≡ 0 → form_at h v ≡ Holds k items → tree_within (form_at h) bound v ≡ None
too_deep h v k items bound z e = within_none h v bound z ∙ ap closed e

form_of_cell : (h : Heap) (v : Value) (x : Content) → content_at h v ≡ Some x → form_at h v ≡ form_of_content (Some x)
form_of_cell h (Direct p) x e = absurd cc
form_of_cell h (Cell k) x e = ap form_of_content e

pub form_plain : (h : Heap) (v : Value) (p : Plain) → plain_of v ≡ Some p → form_at h v ≡ Single (leaving p)
form_plain h (Direct q) p e = let f : q ≡ p = cc in ap (λ x. Single (leaving x)) f
form_plain h (Cell k) p e = absurd cc

pub form_nothing : (h : Heap) (v : Value) → plain_of v ≡ None → shape_in (content_at h v) ≡ s.Plain → form_at h v ≡ Single t.Invalid
form_nothing h (Direct p) e f = absurd cc
form_nothing h (Cell k) e f = go (content_at h (Cell k)) f
  where
    go : (o : Option Content) → shape_in o ≡ s.Plain → form_of_content o ≡ Single t.Invalid
    go None e = refl
    go (Some (c.Text bytes)) e = absurd cc
    go (Some (c.Array items)) e = absurd cc
    go (Some (c.Pairs entries)) e = absurd cc
    go (Some (c.Message message)) e = absurd cc

pub form_text : (h : Heap) (v : Value) (bytes : List ℕ) → text_in (content_at h v) ≡ Some bytes → form_at h v ≡ Single (t.Words bytes)
form_text h v bytes e = go (content_at h v) refl e
  where
    go : (o : Option Content) → content_at h v ≡ o → text_in o ≡ Some bytes → form_at h v ≡ Single (t.Words bytes)
    go None q e = absurd cc
    go (Some (c.Text b)) q e = form_of_cell h v (c.Text b) q ∙ ap (λ x. Single (t.Words x)) (cc)
    go (Some (c.Array items)) q e = absurd cc
    go (Some (c.Pairs entries)) q e = absurd cc
    go (Some (c.Message message)) q e = absurd cc

pub form_message : (h : Heap) (v : Value) → shape_in (content_at h v) ≡ s.Message → form_at h v ≡ Single t.Invalid
form_message h v e = go (content_at h v) refl e
  where
    go : (o : Option Content) → content_at h v ≡ o → shape_in o ≡ s.Message → form_at h v ≡ Single t.Invalid
    go None q e = absurd cc
    go (Some (c.Text b)) q e = absurd cc
    go (Some (c.Array items)) q e = absurd cc
    go (Some (c.Pairs entries)) q e = absurd cc
    go (Some (c.Message message)) q e = form_of_cell h v (c.Message message) q

pub form_array : (h : Heap) (v : Value) → shape_in (content_at h v) ≡ s.Array → form_at h v ≡ Holds Array (children_in (content_at h v))
form_array h v e = go (content_at h v) refl e
  where
    go : (o : Option Content) → content_at h v ≡ o → shape_in o ≡ s.Array → form_at h v ≡ Holds Array (children_in (content_at h v))
    go None q e = absurd cc
    go (Some (c.Text b)) q e = absurd cc
    go (Some (c.Array items)) q e = form_of_cell h v (c.Array items) q ∙ ap (Holds Array) (sym (ap children_in q))
    go (Some (c.Pairs entries)) q e = absurd cc
    go (Some (c.Message message)) q e = absurd cc

pub form_pairs : (h : Heap) (v : Value) → shape_in (content_at h v) ≡ s.Pairs → form_at h v ≡ Holds (Keyed (keys_in (content_at h v))) (children_in (content_at h v))
form_pairs h v e = go (content_at h v) refl e
  where
    go : (o : Option Content) → content_at h v ≡ o → shape_in o ≡ s.Pairs → form_at h v ≡ Holds (Keyed (keys_in (content_at h v))) (children_in (content_at h v))
    go None q e = absurd cc
    go (Some (c.Text b)) q e = absurd cc
    go (Some (c.Array items)) q e = absurd cc
    go (Some (c.Pairs entries)) q e = form_of_cell h v (c.Pairs entries) q ∙ sym (ap (λ o. Holds (Keyed (keys_in o)) (children_in o)) q)
    go (Some (c.Message message)) q e = absurd cc

-- a value of no array and no associative array
pub record IsSingle (h : Heap) (v : Value) : Type 0 where
  pub plain : t.Plain
  pub is : form_at h v ≡ Single plain

pub single_plain : (h : Heap) (v : Value) → shape_in (content_at h v) ≡ s.Plain → IsSingle h v
single_plain h (Direct p) e = record { plain = leaving p; is = refl }
single_plain h (Cell k) e = record { plain = t.Invalid; is = form_nothing h (Cell k) refl e }

pub single_text : (h : Heap) (v : Value) → shape_in (content_at h v) ≡ s.Words → IsSingle h v
single_text h v e = go (content_at h v) refl e
  where
    go : (o : Option Content) → content_at h v ≡ o → shape_in o ≡ s.Words → IsSingle h v
    go None q e = absurd cc
    go (Some (c.Text b)) q e = record { plain = t.Words b; is = form_of_cell h v (c.Text b) q }
    go (Some (c.Array items)) q e = absurd cc
    go (Some (c.Pairs entries)) q e = absurd cc
    go (Some (c.Message message)) q e = absurd cc

pub single_message : (h : Heap) (v : Value) → shape_in (content_at h v) ≡ s.Message → IsSingle h v
single_message h v e = record { plain = t.Invalid; is = form_message h v e }

-- an array or associative array
pub record IsHolding (h : Heap) (v : Value) : Type 0 where
  pub kind : Kind
  pub is : form_at h v ≡ Holds kind (children_in (content_at h v))

pub holding_array : (h : Heap) (v : Value) → shape_in (content_at h v) ≡ s.Array → IsHolding h v
holding_array h v e = record { kind = Array; is = form_array h v e }

pub holding_pairs : (h : Heap) (v : Value) → shape_in (content_at h v) ≡ s.Pairs → IsHolding h v
holding_pairs h v e = record { kind = Keyed (keys_in (content_at h v)); is = form_pairs h v e }

-- any value is at least one part
pub one_part : (t : Tree) → 0 < parts t
one_part (Leaf p) = omega arith
one_part (Branch k ts) = omega arith

-- below the length there is an item, and at the length there is none more
pub some_child : (o : Option Content) (i n : ℕ) → i < n → n ≡ length_in o → None ≡ slice_get (children_in o) i → ⊥
some_child o i n l m e = past (children_in o) i (let q = children_length o in omega arith) (sym e)
  where
    past : (vs : List Value) (i : ℕ) → i < length vs → slice_get vs i ≡ None → ⊥
    past [] i l e = absurd (omega arith)
    past (v ∷ vs) zero l e = absurd cc
    past (v ∷ vs) (suc i) l e = past vs i (omega arith) e

pub all_children : (o : Option Content) (i n : ℕ) → n ≤ i → i ≤ n → n ≡ length_in o → i ≡ length (children_in o)
all_children o i n k l m = let q = children_length o in omega arith
