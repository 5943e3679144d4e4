-- Items that are written.
use Rattle.std.proofs.Common.{◌≡◌, ℕ, List, ◌++◌, Option, Some, None, Result, Err, refl, sym, ap, ◌∙◌, subst}
use Rattle.std.specs.Prelude.{Bool, true, false, codes}
use Rattle.chan_values.specs.Tree.{Tree}
use Rattle.chan_values.specs.ValueText.{value_text}
use Rattle.chan_values.specs.View.{tree_of}
use Rattle.chan_values.specs.declared.message.Message as m
use Rattle.chan_values.specs.declared.portable.Portable.{Portable}
use Rattle.heap_meaning.specs.declared.plain.Plain.{Plain}
use Rattle.heap_meaning.specs.Values.{Value, Direct, Cell}
use Rattle.heap_meaning.specs.Cells.{Content, Text, Array, Pairs, Message}
use Rattle.heap_meaning.specs.Heap.{Heap, content_at}
use Rattle.heap_meaning.specs.Reading.{plain_of, text_in, message_in}
use Rattle.copy_meaning.specs.Answers.{Answer, Copy, TooDeep, TooLarge, Answers}
use Rattle.copy_meaning.specs.Forms.{form_at}
use Rattle.brs_copy.specs.Copies.{Copies}
use Rattle.brs_copy.specs.declared.leave.CopyFault.{CopyFault}
use Rattle.brs_copy.specs.declared.leave.CopyFault.TheVariants as f
use Rattle.brs_meaning.specs.Leaving.{copy_of}
use Rattle.brs_meaning.specs.Printing.{plain_item, tree_item}
use Rattle.printed_text.specs.Items.{copied, content_item, item_at, Added}
use Rattle.printed_text.proofs.Copied.{copied_as}

-- ---- a copy

pub copy_added : (h : Heap) (v : Value) (p : Portable) (text old new : List ℕ) → Answers (form_at h) 64 65536 v (Copy (tree_of p)) → text ≡ value_text (tree_of p) → new ≡ old ++ text → Added (tree_item (copied h v)) old new true
copy_added h v p text old new a e f = subst (λ t. Added (tree_item t) old new true) (sym (copied_as h v (Copy (tree_of p)) a)) (refl, f ∙ ap (λ r. old ++ r) e)

refused : (h : Heap) (v : Value) (old : List ℕ) (x : Answer) → copy_of x ≡ None → Answers (form_at h) 64 65536 v x → Added (tree_item (copied h v)) old old false
refused h v old x e a = subst (λ t. Added (tree_item t) old old false) (sym (copied_as h v x a ∙ e)) refl

pub deep_refused : (h : Heap) (v : Value) (old : List ℕ) (r : Result Portable CopyFault) → Copies (form_at h) 64 65536 v r → r ≡ Err f.TooDeep → Added (tree_item (copied h v)) old old false
deep_refused h v old r a e = refused h v old TooDeep refl (subst (Copies (form_at h) 64 65536 v) e a)

pub large_refused : (h : Heap) (v : Value) (old : List ℕ) (r : Result Portable CopyFault) → Copies (form_at h) 64 65536 v r → r ≡ Err f.TooLarge → Added (tree_item (copied h v)) old old false
large_refused h v old r a e = refused h v old TooLarge refl (subst (Copies (form_at h) 64 65536 v) e a)

-- ---- a cell

text_content : (o : Option Content) (copy : Option Tree) (bytes : List ℕ) → text_in o ≡ Some bytes → content_item o copy ≡ Some bytes
text_content None copy bytes e = absurd cc
text_content (Some (Text b)) copy bytes e = e
text_content (Some (Array vs)) copy bytes e = absurd cc
text_content (Some (Pairs es)) copy bytes e = absurd cc
text_content (Some (Message x)) copy bytes e = absurd cc

message_content : (o : Option Content) (copy : Option Tree) (x : m.Message) → message_in o ≡ Some x → content_item o copy ≡ Some (codes "message")
message_content None copy x e = absurd cc
message_content (Some (Text b)) copy x e = absurd cc
message_content (Some (Array vs)) copy x e = absurd cc
message_content (Some (Pairs es)) copy x e = absurd cc
message_content (Some (Message y)) copy x e = refl

copy_content : (o : Option Content) (copy : Option Tree) → text_in o ≡ None → message_in o ≡ None → content_item o copy ≡ tree_item copy
copy_content None copy e f = refl
copy_content (Some (Text b)) copy e f = absurd cc
copy_content (Some (Array vs)) copy e f = refl
copy_content (Some (Pairs es)) copy e f = refl
copy_content (Some (Message y)) copy e f = absurd cc

pub text_added : (o : Option Content) (copy : Option Tree) (bytes old new : List ℕ) → text_in o ≡ Some bytes → new ≡ old ++ bytes → Added (content_item o copy) old new true
text_added o copy bytes old new e f = subst (λ i. Added i old new true) (sym (text_content o copy bytes e)) (refl, f)

pub message_added : (o : Option Content) (copy : Option Tree) (x : m.Message) (old new : List ℕ) → message_in o ≡ Some x → new ≡ old ++ codes "message" → Added (content_item o copy) old new true
message_added o copy x old new e f = subst (λ i. Added i old new true) (sym (message_content o copy x e)) (refl, f)

pub copy_of_cell : (o : Option Content) (copy : Option Tree) (old new : List ℕ) (shown : Bool) → text_in o ≡ None → message_in o ≡ None → Added (tree_item copy) old new shown → Added (content_item o copy) old new shown
copy_of_cell o copy old new shown e f a = subst (λ i. Added i old new shown) (sym (copy_content o copy e f)) a

-- ---- an item

plain_here : (h : Heap) (v : Value) (p : Plain) → plain_of v ≡ Some p → item_at h v ≡ Some (plain_item p)
plain_here h (Direct q) p e = let f : q ≡ p = cc in ap (λ (x : Plain). Some (plain_item x)) f
plain_here h (Cell k) p e = absurd cc

cell_here : (h : Heap) (v : Value) → plain_of v ≡ None → item_at h v ≡ content_item (content_at h v) (copied h v)
cell_here h (Direct q) e = absurd cc
cell_here h (Cell k) e = refl

pub plain_added : (h : Heap) (v : Value) (p : Plain) (old new : List ℕ) → plain_of v ≡ Some p → new ≡ old ++ plain_item p → Added (item_at h v) old new true
plain_added h v p old new e f = subst (λ i. Added i old new true) (sym (plain_here h v p e)) (refl, f)

pub cell_added : (h : Heap) (v : Value) (old new : List ℕ) (shown : Bool) → plain_of v ≡ None → Added (content_item (content_at h v) (copied h v)) old new shown → Added (item_at h v) old new shown
cell_added h v old new shown e a = subst (λ i. Added i old new shown) (sym (cell_here h v e)) a
