-- The text of a `print`.
use Rattle.std.specs.Prelude.{ℕ, ◌-◌, ◌%◌, List, [], ◌∷◌, ◌++◌, length, replicate, Option, Some, None, slice_get, nat_le, if◌then◌else◌, codes}
use Rattle.std.specs.Str.{chars}
use Rattle.std.specs.Fmt.{decimal}
use Rattle.chan_values.specs.Tree.{Tree}
use Rattle.chan_values.specs.ValueText.{value_text}
use Rattle.chan_values.specs.declared.error_code.ErrorCode.{ErrorCode}
use Rattle.chan_values.specs.declared.error_code.ErrorCode.TheVariants.{E9, E12}
use Rattle.heap_meaning.specs.declared.plain.Plain as pl
use Rattle.heap_meaning.specs.declared.plain.Plain.TheVariants as p
use Rattle.heap_meaning.specs.Values.{StoreValue, Scalar, Words, Reference}
use Rattle.heap_meaning.specs.Store.{Object, MessageObject, Store}
use Rattle.plain_operations.specs.Limits.{longest_text}
use Rattle.plain_operations.specs.Texts.{spaced_decimal, truth_text}
use Rattle.brs_grammar.specs.Form as f
use Rattle.brs_grammar.specs.Form.{Mark}
use Rattle.brs_meaning.specs.Leaving.{leaving}

-- the text, or an error
pub data Printing : Type 0 where
  Printed : List ℕ → Printing
  Unprinted : ErrorCode → Printing

-- a number that isn't negative has a space before it, and a LongInteger no `&` behind it
abbrev pub plain_item : pl.Plain → List ℕ
plain_item p.Invalid = codes "invalid"
plain_item (p.Truth b) = truth_text b
plain_item (p.Small n) = spaced_decimal n
plain_item (p.Big n) = spaced_decimal n
plain_item (p.Function n) = codes "function"
plain_item (p.Node n) = codes "node " ++ decimal n
plain_item (p.Port n) = codes "port " ++ decimal n
plain_item p.Screen = codes "screen"

abbrev pub tree_item : Option Tree → Option (List ℕ)
tree_item None = None
tree_item (Some t) = Some (value_text t)

-- an array and an associative array are unfolded, and a message isn't
abbrev pub object_item : Option Object → StoreValue → Store → Option (List ℕ)
object_item (Some (MessageObject message)) v store = Some (codes "message")
object_item _ v store = tree_item (leaving store v)

-- the text of an item, or None where it is too deep or too large
abbrev pub item : StoreValue → Store → Option (List ℕ)
item (Scalar plain) store = Some (plain_item plain)
item (Words bytes) store = Some bytes
item (Reference n) store = object_item (slice_get store n) (Reference n) store

-- spaces up to the next greater multiple of 16 characters
abbrev pub padded : List ℕ → List ℕ
padded text = text ++ replicate (16 - length (chars text) % 16) 32

abbrev pub continued : Option (List ℕ) → (List ℕ → Option (List ℕ)) → List ℕ → Option (List ℕ)
continued None rest text = None
continued (Some more) rest text = rest (text ++ more)

-- the text behind a text, of the marks and the values that are left
abbrev pub text_after : List Mark → List StoreValue → Store → List ℕ → Option (List ℕ)
text_after [] vs store text = Some text
text_after (f.Semicolon ∷ marks) vs store text = text_after marks vs store text
text_after (f.Comma ∷ marks) vs store text = text_after marks vs store (padded text)
text_after (f.Shown ∷ marks) (v ∷ vs) store text = continued (item v store) (text_after marks vs store) text
text_after (f.Shown ∷ marks) [] store text = text_after marks [] store text

-- an item that can't be unfolded comes before a text that is too long
abbrev pub judged : Option (List ℕ) → Printing
judged None = Unprinted E9
judged (Some text) = if nat_le (length (chars text)) longest_text then Printed text else Unprinted E12

abbrev pub printed : List Mark → List StoreValue → Store → Printing
printed marks vs store = judged (text_after marks vs store [])
