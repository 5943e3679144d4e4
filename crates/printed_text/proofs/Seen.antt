-- The text by the cells of a heap is that of the store for which the heap stands.
use Rattle.std.proofs.Common.{◌≡◌, ℕ, ◌<◌, ◌≤◌, List, [], ◌∷◌, ◌++◌, length, map, Option, Some, None, refl, sym, ap, ◌∙◌, subst, arith}
use Rattle.std.specs.Prelude.{Bool, true, false, nat_le, if◌then◌else◌}
use Rattle.std.specs.Str.{chars}
use Rattle.std.proofs.lemmas.Bool.Decides.{nat_tests}
use Rattle.chan_values.specs.declared.error_code.ErrorCode.TheVariants.{E9, E12}
use Rattle.heap_meaning.specs.Values as h
use Rattle.heap_meaning.specs.Values.{Direct, Cell, StoreValue, Reference}
use Rattle.heap_meaning.specs.Store.{Store}
use Rattle.heap_meaning.specs.Cells.{Content}
use Rattle.heap_meaning.specs.Stands.{Naming, Outside, meaning, Stands}
use Rattle.heap_meaning.specs.Heap.{Heap, Belongs, content_at}
use Rattle.heap_meaning.proofs.Showing.{out_belongs, Seen, sees_plain, sees_text, sees_array, sees_pairs, sees_message, sees}
use Rattle.object_operations.specs.Applies.{AreOut}
use Rattle.plain_operations.specs.Limits.{longest_text}
use Rattle.brs_code.specs.declared.function.Mark.{Mark}
use Rattle.brs_code.specs.declared.function.Mark.TheVariants.{Semicolon, Comma, Value}
use Rattle.brs_meaning.specs.Leaving.{leaving}
use Rattle.brs_meaning.specs.Printing as m
use Rattle.brs_meaning.specs.Printing.{tree_item, object_item, item, padded, continued, text_after, judged, printed}
use Rattle.machine_meaning.specs.Statements.{form_mark}
use Rattle.printed_text.specs.declared.printing.Printing.{Printing}
use Rattle.printed_text.specs.declared.printing.Printing.TheVariants as p
use Rattle.printed_text.specs.Items.{content_item, item_at}
use Rattle.printed_text.specs.Marks.{text_at, Writes}
use Rattle.printed_text.specs.Prints.{printing_of, Prints}
use Rattle.printed_text.proofs.Copied.{copied_leaves}

-- ---- an item

cell_seen : (name : Naming) (store : Store) (v : h.Value) (w : StoreValue) (o : Option Content) → Seen name store v w o → (k : ℕ) → v ≡ Cell k → content_item o (leaving store w) ≡ item w store
cell_seen name store _ _ _ sees_plain k e = absurd cc
cell_seen name store _ _ _ sees_text k e = refl
cell_seen name store _ _ _ (sees_array {n = n} g) k e = ap (λ x. object_item x (Reference n) store) (sym g)
cell_seen name store _ _ _ (sees_pairs {n = n} g) k e = ap (λ x. object_item x (Reference n) store) (sym g)
cell_seen name store _ _ _ (sees_message {n = n} g) k e = ap (λ x. object_item x (Reference n) store) (sym g)

item_seen : (heap : Heap) (name : Naming) (store : Store) (outside : Outside) (v : h.Value) → Stands name heap.cells store outside → Belongs heap v → item_at heap v ≡ item (meaning name v) store
item_seen heap name store outside (Direct plain) s b = refl
item_seen heap name store outside (Cell k) s b =
    ap (content_item (content_at heap (Cell k))) (copied_leaves heap name store outside (Cell k) s b)
    ∙ cell_seen name store (Cell k) (name k) (content_at heap (Cell k)) (sees heap name store outside (Cell k) s b) k refl

-- ---- all marks

continues_same : (o : Option (List ℕ)) (f g : List ℕ → Option (List ℕ)) (text : List ℕ) → ((t : List ℕ) → f t ≡ g t) → continued o f text ≡ continued o g text
continues_same None f g text e = refl
continues_same (Some more) f g text e = e (text ++ more)

text_seen : (heap : Heap) (name : Naming) (store : Store) (outside : Outside) → Stands name heap.cells store outside → (marks : List Mark) (vs : List h.Value) (text : List ℕ) → AreOut vs outside
    → text_at heap marks vs text ≡ text_after (map form_mark marks) (map (meaning name) vs) store text
text_seen heap name store outside s [] vs text out = refl
text_seen heap name store outside s (Semicolon ∷ marks) vs text out = text_seen heap name store outside s marks vs text out
text_seen heap name store outside s (Comma ∷ marks) vs text out = text_seen heap name store outside s marks vs (padded text) out
text_seen heap name store outside s (Value ∷ marks) [] text out = text_seen heap name store outside s marks [] text out
text_seen heap name store outside s (Value ∷ marks) (v ∷ vs) text out =
    let b : Belongs heap v = out_belongs heap name store outside v s (λ k. let y = out k in omega arith) in
    ap (λ o. continued o (text_at heap marks vs) text) (item_seen heap name store outside v s b)
    ∙ continues_same (item (meaning name v) store) (text_at heap marks vs) (text_after (map form_mark marks) (map (meaning name) vs) store) text
    (λ t. text_seen heap name store outside s marks vs t (λ k. let y = out k in omega arith))

-- ---- the text or the error

judged_as : (heap : Heap) (marks : List Mark) (vs : List h.Value) (o : Option (List ℕ)) (printing : Printing) → text_at heap marks vs [] ≡ o → printing_of printing ≡ judged o → Prints heap marks vs printing
judged_as heap marks vs o printing e f = λ name store outside s out. f ∙ ap judged (sym e ∙ text_seen heap name store outside s marks vs [] out)

none_written : (o : Option (List ℕ)) (new : List ℕ) → Writes o new false → o ≡ None
none_written None new w = refl
none_written (Some text) new w = let q : false ≡ true = w.0 in absurd cc

is_written : (o : Option (List ℕ)) (new : List ℕ) → Writes o new true → o ≡ Some new
is_written None new w = absurd cc
is_written (Some text) new w = ap Some (sym w.1)

long_judged : (n : ℕ) (text : List ℕ) → longest_text < n → m.Unprinted E12 ≡ (if nat_le n longest_text then m.Printed text else m.Unprinted E12)
long_judged n text l = grind (arith, nat_tests)

short_judged : (n : ℕ) (text : List ℕ) → n ≤ longest_text → m.Printed text ≡ (if nat_le n longest_text then m.Printed text else m.Unprinted E12)
short_judged n text l = grind (arith, nat_tests)

from_nothing : (heap : Heap) (marks : List Mark) (vs : List h.Value) (old new : List ℕ) (shown b : Bool) → old ≡ [] → Writes (text_at heap marks vs old) new shown → shown ≡ b → Writes (text_at heap marks vs []) new b
from_nothing heap marks vs old new shown b e w f = subst (λ t. Writes (text_at heap marks vs t) new b) e (subst (Writes (text_at heap marks vs old) new) f w)

module _ (heap : Heap) (marks : List Mark) (vs : List h.Value) (old new : List ℕ) (shown : Bool) (empty : old ≡ []) (writes : Writes (text_at heap marks vs old) new shown) where
  pub unprinted : shown ≡ false → Prints heap marks vs (p.Raises E9)
  unprinted e = judged_as heap marks vs None (p.Raises E9) (none_written (text_at heap marks vs []) new (from_nothing heap marks vs old new shown false empty writes e)) refl

  pub too_long : shown ≡ true → longest_text < length (chars new) → Prints heap marks vs (p.Raises E12)
  too_long e l = judged_as heap marks vs (Some new) (p.Raises E12) (is_written (text_at heap marks vs []) new (from_nothing heap marks vs old new shown true empty writes e)) (long_judged (length (chars new)) new l)

  pub is_printed : shown ≡ true → length (chars new) ≤ longest_text → Prints heap marks vs (p.Printed new)
  is_printed e l = judged_as heap marks vs (Some new) (p.Printed new) (is_written (text_at heap marks vs []) new (from_nothing heap marks vs old new shown true empty writes e)) (short_judged (length (chars new)) new l)
