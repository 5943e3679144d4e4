-- The text of the marks and the values of a `print`, by the cells of a heap.
use Rattle.std.specs.Prelude.{◌≡◌, ℕ, Bool, true, false, List, [], ◌∷◌, drop, Option, Some, None}
use Rattle.heap_meaning.specs.Values as h
use Rattle.heap_meaning.specs.Heap.{Heap}
use Rattle.brs_code.specs.declared.function.Mark.{Mark}
use Rattle.brs_code.specs.declared.function.Mark.TheVariants.{Semicolon, Comma, Value}
use Rattle.brs_meaning.specs.Printing.{padded, continued}
use Rattle.printed_text.specs.Items.{item_at}

-- the text behind a text, of the marks and the values that are left
abbrev pub text_at : Heap → List Mark → List h.Value → List ℕ → Option (List ℕ)
text_at heap [] vs text = Some text
text_at heap (Semicolon ∷ marks) vs text = text_at heap marks vs text
text_at heap (Comma ∷ marks) vs text = text_at heap marks vs (padded text)
text_at heap (Value ∷ marks) (v ∷ vs) text = continued (item_at heap v) (text_at heap marks vs) text
text_at heap (Value ∷ marks) [] text = text_at heap marks [] text

-- a mark was written: whatever marks stand behind it, the text goes on from the value at this place, or there is none
abbrev pub Continues : Heap → Mark → List h.Value → (next : ℕ) → (old : List ℕ) → (left : Option ℕ) → (new : List ℕ) → Type 0
Continues heap mark vs next old (Some n) new = (marks : List Mark) → text_at heap (mark ∷ marks) (drop next vs) old ≡ text_at heap marks (drop n vs) new
Continues heap mark vs next old None new = (marks : List Mark) → text_at heap (mark ∷ marks) (drop next vs) old ≡ None

-- the text was written, where there is one
abbrev pub Writes : Option (List ℕ) → (new : List ℕ) → (shown : Bool) → Type 0
Writes (Some text) new shown = (shown ≡ true) × (new ≡ text)
Writes None new shown = shown ≡ false
