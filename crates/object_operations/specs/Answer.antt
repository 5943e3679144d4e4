-- What an operation gives in the meaning, and how operations read their arguments.
use Rattle.std.specs.Prelude.{ℕ, ℤ, pos, negsuc, Bool, ◌^◌, ◌-◌, List, Option, Some, None, slice_get, slice_set, cond, nat_lt, min}
use Rattle.chan_values.specs.declared.error_code.ErrorCode.{ErrorCode}
use Rattle.chan_values.specs.declared.error_code.ErrorCode.TheVariants.{E12}
use Rattle.heap_meaning.specs.declared.plain.Plain.{Plain}
use Rattle.heap_meaning.specs.declared.plain.Plain.TheVariants.{Invalid, Truth, Small, Big}
use Rattle.heap_meaning.specs.Values.{StoreValue, Scalar, Words, Reference, Entry}
use Rattle.heap_meaning.specs.Store.{Object, ArrayObject, MapObject, Store}

-- a value and the store after it, or an error
pub data Answer : Type 0 where
  Gives : (value : StoreValue) → (store : Store) → Answer
  Raises : (error : ErrorCode) → Answer

abbrev pub invalid : StoreValue
invalid = Scalar Invalid

abbrev pub truth : Bool → StoreValue
truth b = Scalar (Truth b)

-- a number of items, of which no array and no associative array has more than 1,048,576
abbrev pub counted : ℕ → StoreValue
counted n = Scalar (Small (pos (min n (2 ^ 31 - 1))))

abbrev pub or_invalid : Option StoreValue → StoreValue
or_invalid (Some v) = v
or_invalid None = invalid

-- a number of either width
abbrev pub number_of_plain : Plain → Option ℤ
number_of_plain (Small n) = Some n
number_of_plain (Big n) = Some n
number_of_plain _ = None

abbrev pub number_in : StoreValue → Option ℤ
number_in (Scalar plain) = number_of_plain plain
number_in _ = None

abbrev pub text_of : StoreValue → Option (List ℕ)
text_of (Words bytes) = Some bytes
text_of _ = None

-- the item at a number, which is none below 0
abbrev pub item_at : List StoreValue → ℤ → Option StoreValue
item_at items (pos i) = slice_get items i
item_at items (negsuc i) = None

abbrev pub items_of_object : Option Object → Option (List StoreValue)
items_of_object (Some (ArrayObject items)) = Some items
items_of_object _ = None

-- the items of an array
abbrev pub items_of : StoreValue → Store → Option (List StoreValue)
items_of (Reference n) store = items_of_object (slice_get store n)
items_of _ store = None

abbrev pub entries_of_object : Option Object → Option (List (Entry StoreValue))
entries_of_object (Some (MapObject entries)) = Some entries
entries_of_object _ = None

-- the entries of an associative array
abbrev pub entries_of : StoreValue → Store → Option (List (Entry StoreValue))
entries_of (Reference n) store = entries_of_object (slice_get store n)
entries_of _ store = None

-- array n has these items, and nothing else has changed
abbrev pub with_items : ℕ → List StoreValue → Store → Store
with_items n items store = slice_set store n (ArrayObject items)

-- associative array n has these entries, and nothing else has changed
abbrev pub with_entries : ℕ → List (Entry StoreValue) → Store → Store
with_entries n entries store = slice_set store n (MapObject entries)

-- one more fits beside so many items or keys
abbrev pub if_room : ℕ → Answer → Answer
if_room n answer = cond (nat_lt n (2 ^ 20)) answer (Raises E12)
