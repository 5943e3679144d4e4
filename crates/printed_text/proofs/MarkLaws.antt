-- Marks that are written one after another.
use Rattle.std.proofs.Common.{◌≡◌, ℕ, zero, suc, ◌+◌, ◌≤◌, List, [], ◌∷◌, length, drop, Option, Some, None, refl, sym, ap, ◌∙◌, subst, arith}
use Rattle.std.specs.Prelude.{true, false, slice_get}
use Rattle.std.proofs.lemmas.List.{drop_all}
use Rattle.heap_meaning.specs.Values as h
use Rattle.heap_meaning.specs.Heap.{Heap}
use Rattle.brs_code.specs.declared.function.Mark.{Mark}
use Rattle.brs_code.specs.declared.function.Mark.TheVariants.{Comma, Value}
use Rattle.brs_meaning.specs.Printing.{padded, continued}
use Rattle.printed_text.specs.Items.{item_at, Added}
use Rattle.printed_text.specs.Marks.{text_at, Continues, Writes}

-- ---- the next of a list

pub next_of : {A : Type 0} (xs : List A) (n : ℕ) (x : A) → slice_get xs n ≡ Some x → drop n xs ≡ x ∷ drop (n + 1) xs
next_of [] n x e = absurd cc
next_of (y ∷ xs) zero x e = let q : y ≡ x = cc in ap (λ z. z ∷ xs) q
next_of (y ∷ xs) (suc n) x e = next_of xs n x e ∙ ap (λ m. x ∷ drop m (y ∷ xs)) (let q : suc (n + 1) ≡ suc n + 1 = omega arith in q)

none_left : {A : Type 0} (xs : List A) (n : ℕ) → slice_get xs n ≡ None → drop n xs ≡ []
none_left [] zero e = refl
none_left [] (suc n) e = refl
none_left (y ∷ xs) zero e = absurd cc
none_left (y ∷ xs) (suc n) e = none_left xs n e

-- ---- one mark

pub comma_written : (heap : Heap) (vs : List h.Value) (next : ℕ) (old new : List ℕ) → new ≡ padded old → Continues heap Comma vs next old (Some next) new
comma_written heap vs next old new e = λ marks. ap (text_at heap marks (drop next vs)) (sym e)

pub no_value : (heap : Heap) (vs : List h.Value) (next : ℕ) (old : List ℕ) → slice_get vs next ≡ None → Continues heap Value vs next old (Some next) old
no_value heap vs next old e = λ marks.
    ap (λ l. text_at heap (Value ∷ marks) l old) (none_left vs next e) ∙ ap (λ l. text_at heap marks l old) (sym (none_left vs next e))

added_then : (o : Option (List ℕ)) (rest : List ℕ → Option (List ℕ)) (old new : List ℕ) → Added o old new true → continued o rest old ≡ rest new
added_then None rest old new a = absurd cc
added_then (Some more) rest old new a = ap rest (sym a.1)

refused_then : (o : Option (List ℕ)) (rest : List ℕ → Option (List ℕ)) (old new : List ℕ) → Added o old new false → continued o rest old ≡ None
refused_then None rest old new a = refl
refused_then (Some more) rest old new a = let q : false ≡ true = a.0 in absurd cc

pub value_written : (heap : Heap) (vs : List h.Value) (next : ℕ) (v : h.Value) (old new : List ℕ) → slice_get vs next ≡ Some v → Added (item_at heap v) old new true → Continues heap Value vs next old (Some (next + 1)) new
value_written heap vs next v old new e a = λ marks.
    ap (λ l. text_at heap (Value ∷ marks) l old) (next_of vs next v e) ∙ added_then (item_at heap v) (text_at heap marks (drop (next + 1) vs)) old new a

pub value_refused : (heap : Heap) (vs : List h.Value) (next : ℕ) (v : h.Value) (old new : List ℕ) → slice_get vs next ≡ Some v → Added (item_at heap v) old new false → Continues heap Value vs next old None new
value_refused heap vs next v old new e a = λ marks.
    ap (λ l. text_at heap (Value ∷ marks) l old) (next_of vs next v e) ∙ refused_then (item_at heap v) (text_at heap marks (drop (next + 1) vs)) old new a

-- ---- all marks

-- so many marks are written, and the next value is this one
pub record Written (heap : Heap) (marks : List Mark) (vs : List h.Value) (old : List ℕ) (done next : ℕ) (out : List ℕ) : Type 0 where
  pub few : next ≤ done
  pub goes_on : text_at heap marks vs old ≡ text_at heap (drop done marks) (drop next vs) out

pub begins : (heap : Heap) (marks : List Mark) (vs : List h.Value) (old : List ℕ) → Written heap marks vs old 0 0 old
begins heap marks vs old = record { few = omega arith; goes_on = refl }

here : (heap : Heap) (marks : List Mark) (vs : List h.Value) (old : List ℕ) (done next : ℕ) (out : List ℕ) (mark : Mark) → Written heap marks vs old done next out → slice_get marks done ≡ Some mark
    → text_at heap marks vs old ≡ text_at heap (mark ∷ drop (done + 1) marks) (drop next vs) out
here heap marks vs old done next out mark w e = w.goes_on ∙ ap (λ l. text_at heap l (drop next vs) out) (next_of marks done mark e)

pub one_mark : (heap : Heap) (marks : List Mark) (vs : List h.Value) (old : List ℕ) (done next n : ℕ) (out new : List ℕ) (mark : Mark) → Written heap marks vs old done next out → slice_get marks done ≡ Some mark
    → Continues heap mark vs next out (Some n) new → n ≤ next + 1 → Written heap marks vs old (done + 1) n new
one_mark heap marks vs old done next n out new mark w e c l = record { few = omega (arith, w.few, l); goes_on = here heap marks vs old done next out mark w e ∙ c (drop (done + 1) marks) }

pub marks_refused : (heap : Heap) (marks : List Mark) (vs : List h.Value) (old : List ℕ) (done next : ℕ) (out new : List ℕ) (mark : Mark) → Written heap marks vs old done next out → slice_get marks done ≡ Some mark
    → Continues heap mark vs next out None new → Writes (text_at heap marks vs old) new false
marks_refused heap marks vs old done next out new mark w e c =
    subst (λ o. Writes o new false) (sym (here heap marks vs old done next out mark w e ∙ c (drop (done + 1) marks))) refl

pub marks_end : (heap : Heap) (marks : List Mark) (vs : List h.Value) (old : List ℕ) (done next : ℕ) (out : List ℕ) → Written heap marks vs old done next out → length marks ≤ done → Writes (text_at heap marks vs old) out true
marks_end heap marks vs old done next out w l =
    subst (λ o. Writes o out true) (sym (w.goes_on ∙ ap (λ r. text_at heap r (drop next vs) out) (drop_all done marks l))) (refl, refl)
