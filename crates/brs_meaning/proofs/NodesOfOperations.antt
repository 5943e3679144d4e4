-- Nodes that operations name: none but those of their arguments and of the store.
use Rattle.std.proofs.Common.{ℕ, ◌-◌, List, [], ◌∷◌, ◌++◌, Option, Some, None}
use Rattle.std.specs.Prelude.{ℤ, pos, negsuc, Bool, true, false, ◌+◌, ◌^◌, length, map, cond, nat_le, nat_lt, slice_get}
use Rattle.std.specs.List.{remove}
use Rattle.std.specs.Str.{bytes_eq}
use Rattle.chan_values.specs.Folded.{folded}
use Rattle.chan_values.specs.declared.message.Message.{Message}
use Rattle.chan_values.specs.declared.error_code.ErrorCode.{ErrorCode}
use Rattle.chan_values.specs.declared.error_code.ErrorCode.TheVariants.{E2, E4, E12}
use Rattle.heap_meaning.specs.declared.plain.Plain as pl
use Rattle.heap_meaning.specs.declared.plain.Plain.TheVariants as p
use Rattle.heap_meaning.specs.Values.{StoreValue, Scalar, Words, Reference, Entry, filler_meant}
use Rattle.heap_meaning.specs.Keys.{keys_of, value_at_key, with_key, without_key, before_key, after_key, is_before, placed}
use Rattle.heap_meaning.specs.Store.{Object, ArrayObject, MapObject, MessageObject, Store}
use Rattle.plain_operations.specs.Outcome as o
use Rattle.plain_operations.specs.Outcome.{Outcome}
use Rattle.object_operations.specs.Answer as a
use Rattle.object_operations.specs.Answer.{Answer, Gives, Raises, or_invalid, with_items, with_entries, if_room, number_in, text_of, items_of, entries_of, items_of_object, entries_of_object, item_at}
use Rattle.object_operations.specs.Receivers.{no_member, MapRow, on_array_object, on_map_object, on_map, on_message_object}
use Rattle.object_operations.specs.Arrays.{took, removed, deleted, appended, bare_array_row, array_row_with, method_of_array, array_row}
use Rattle.object_operations.specs.Maps.{put_at, put_row, looked_up, existing, removed_key, deleted_row, joined, joined_row, append_keys_row, keys_row, bare_map_row, map_row_with, map_row_with_two, method_of_map, map_row, new_keys}
use Rattle.object_operations.specs.Members.{member_read, read_member_row, member_written, write_member_row, item_read, index_read, read_index_row, item_written, index_written, write_index_row}
use Rattle.object_operations.specs.Messages.{told, method_of_message, message_row}
use Rattle.object_operations.specs.declared.array_method.ArrayMethod.{ArrayMethod}
use Rattle.object_operations.specs.declared.array_method.ArrayMethod.TheVariants as am
use Rattle.object_operations.specs.declared.map_method.MapMethod.{MapMethod}
use Rattle.object_operations.specs.declared.map_method.MapMethod.TheVariants as mm
use Rattle.object_operations.specs.declared.message_method.MessageMethod.{MessageMethod}
use Rattle.object_operations.specs.declared.message_method.MessageMethod.TheVariants as em
use Rattle.brs_builtins.specs.Operands.{answer_of}
use Rattle.brs_meaning.specs.Nodes.{Each, IfSome, ValueNames, EntriesName, ObjectNames, StoreNames, MessageNames}
use Rattle.brs_meaning.proofs.EachLaws.{each_append, each_get, each_set, each_remove, each_filter, each_placed}

module _ (S : ℕ → Type 0) where
  abbrev pub AnswerNames : Answer → Type 0
  AnswerNames (Gives v store) = ValueNames S v × StoreNames S store
  AnswerNames (Raises e) = Unit {0}

  pub outcome_names : (x : Outcome) (store : Store) → StoreNames S store → AnswerNames (answer_of x store)
  outcome_names o.Invalid store s = (tt, s)
  outcome_names (o.Boolean b) store s = (tt, s)
  outcome_names (o.Integer n) store s = (tt, s)
  outcome_names (o.LongInteger n) store s = (tt, s)
  outcome_names (o.Words bytes) store s = (tt, s)
  outcome_names (o.Raises e) store s = tt

  either : (b : Bool) (x y : Answer) → AnswerNames x → AnswerNames y → AnswerNames (cond b x y)
  either true x y h k = h
  either false x y h k = k

  -- ---- reads of the store

  pub object_names : (store : Store) (n : ℕ) → StoreNames S store → IfSome (ObjectNames S) (slice_get store n)
  object_names store n s = each_get (ObjectNames S) store n s

  or_invalid_names : (x : Option StoreValue) → IfSome (ValueNames S) x → ValueNames S (or_invalid x)
  or_invalid_names None h = tt
  or_invalid_names (Some v) h = h

  items_names : (x : Option Object) → IfSome (ObjectNames S) x → IfSome (Each (ValueNames S)) (items_of_object x)
  items_names None h = tt
  items_names (Some (ArrayObject items)) h = h
  items_names (Some (MapObject entries)) h = tt
  items_names (Some (MessageObject message)) h = tt

  items_of_names : (v : StoreValue) (store : Store) → StoreNames S store → IfSome (Each (ValueNames S)) (items_of v store)
  items_of_names (Scalar plain) store s = tt
  items_of_names (Words bytes) store s = tt
  items_of_names (Reference n) store s = items_names (slice_get store n) (object_names store n s)

  entries_names : (x : Option Object) → IfSome (ObjectNames S) x → IfSome (EntriesName S) (entries_of_object x)
  entries_names None h = tt
  entries_names (Some (ArrayObject items)) h = tt
  entries_names (Some (MapObject entries)) h = h
  entries_names (Some (MessageObject message)) h = tt

  entries_of_names : (v : StoreValue) (store : Store) → StoreNames S store → IfSome (EntriesName S) (entries_of v store)
  entries_of_names (Scalar plain) store s = tt
  entries_of_names (Words bytes) store s = tt
  entries_of_names (Reference n) store s = entries_names (slice_get store n) (object_names store n s)

  pub at_key_names : (entries : List (Entry StoreValue)) (key : List ℕ) → EntriesName S entries → IfSome (ValueNames S) (value_at_key entries key)
  at_key_names [] key h = tt
  at_key_names (e ∷ es) key (p, h) = here (bytes_eq e.key key) (at_key_names es key h)
    where
      here : (b : Bool) → IfSome (ValueNames S) (value_at_key es key) → IfSome (ValueNames S) (cond b (Some e.value) (value_at_key es key))
      here true k = p
      here false k = k

  pub with_key_names : (entries : List (Entry StoreValue)) (key : List ℕ) (v : StoreValue) → ValueNames S v → EntriesName S entries → EntriesName S (with_key entries key v)
  with_key_names entries key v p h =
      each_append (λ e. ValueNames S e.value) (before_key entries key) (record { key = key; value = v } ∷ after_key entries key)
      (each_filter (λ e. ValueNames S e.value) (λ e. is_before e.key key) entries h) (p, each_filter (λ e. ValueNames S e.value) (λ e. is_before key e.key) entries h)

  without_key_names : (entries : List (Entry StoreValue)) (key : List ℕ) → EntriesName S entries → EntriesName S (without_key entries key)
  without_key_names entries key h =
      each_append (λ e. ValueNames S e.value) (before_key entries key) (after_key entries key)
      (each_filter (λ e. ValueNames S e.value) (λ e. is_before e.key key) entries h) (each_filter (λ e. ValueNames S e.value) (λ e. is_before key e.key) entries h)

  with_items_names : (n : ℕ) (items : List StoreValue) (store : Store) → Each (ValueNames S) items → StoreNames S store → StoreNames S (with_items n items store)
  with_items_names n items store h s = each_set (ObjectNames S) store n (ArrayObject items) h s

  with_entries_names : (n : ℕ) (entries : List (Entry StoreValue)) (store : Store) → EntriesName S entries → StoreNames S store → StoreNames S (with_entries n entries store)
  with_entries_names n entries store h s = each_set (ObjectNames S) store n (MapObject entries) h s

  -- ---- arrays

  took_names : (n : ℕ) (items : List StoreValue) (i : ℕ) (x : Option StoreValue) (store : Store) → IfSome (ValueNames S) x → Each (ValueNames S) items → StoreNames S store → AnswerNames (took n items i x store)
  took_names n items i (Some v) store p h s = (p, with_items_names n (remove items i) store (each_remove (ValueNames S) items i h) s)
  took_names n items i None store p h s = (tt, s)

  removed_names : (n : ℕ) (items : List StoreValue) (i : ℕ) (x : Option StoreValue) (store : Store) → Each (ValueNames S) items → StoreNames S store → AnswerNames (removed n items i x store)
  removed_names n items i (Some v) store h s = (tt, with_items_names n (remove items i) store (each_remove (ValueNames S) items i h) s)
  removed_names n items i None store h s = (tt, s)

  deleted_names : (n : ℕ) (items : List StoreValue) (x : Option ℤ) (store : Store) → Each (ValueNames S) items → StoreNames S store → AnswerNames (deleted n items x store)
  deleted_names n items (Some (pos i)) store h s = removed_names n items i (slice_get items i) store h s
  deleted_names n items (Some (negsuc i)) store h s = (tt, s)
  deleted_names n items None store h s = tt

  appended_names : (n : ℕ) (items : List StoreValue) (x : Option (List StoreValue)) (store : Store) → Each (ValueNames S) items → IfSome (Each (ValueNames S)) x → StoreNames S store → AnswerNames (appended n items x store)
  appended_names n items (Some more) store h k s =
      either (nat_le (length items + length more) (2 ^ 20)) (Gives a.invalid (with_items n (items ++ more) store)) (Raises E12) (tt, with_items_names n (items ++ more) store (each_append (ValueNames S) items more h k) s) tt
  appended_names n items None store h k s = tt

  room_names : (n : ℕ) (x : Answer) → AnswerNames x → AnswerNames (if_room n x)
  room_names n x h = either (nat_lt n (2 ^ 20)) x (Raises E12) h tt

  bare_array_names : (method : ArrayMethod) (n : ℕ) (items : List StoreValue) (store : Store) → Each (ValueNames S) items → StoreNames S store → AnswerNames (bare_array_row method n items store)
  bare_array_names am.Push n items store h s = tt
  bare_array_names am.Unshift n items store h s = tt
  bare_array_names am.Pop n items store h s = took_names n items (length items - 1) (slice_get items (length items - 1)) store (each_get (ValueNames S) items (length items - 1) h) h s
  bare_array_names am.Shift n items store h s = took_names n items 0 (slice_get items 0) store (each_get (ValueNames S) items 0 h) h s
  bare_array_names am.Peek n items store h s = (or_invalid_names (slice_get items (length items - 1)) (each_get (ValueNames S) items (length items - 1) h), s)
  bare_array_names am.Delete n items store h s = tt
  bare_array_names am.Count n items store h s = (tt, s)
  bare_array_names am.Clear n items store h s = (tt, with_items_names n [] store tt s)
  bare_array_names am.Append n items store h s = tt

  array_with_names : (method : ArrayMethod) (n : ℕ) (items : List StoreValue) (v : StoreValue) (store : Store) → Each (ValueNames S) items → ValueNames S v → StoreNames S store → AnswerNames (array_row_with method n items v store)
  array_with_names am.Push n items v store h p s = room_names (length items) _ (tt, with_items_names n (items ++ v ∷ []) store (each_append (ValueNames S) items (v ∷ []) h (p, tt)) s)
  array_with_names am.Unshift n items v store h p s = room_names (length items) _ (tt, with_items_names n (v ∷ items) store (p, h) s)
  array_with_names am.Pop n items v store h p s = tt
  array_with_names am.Shift n items v store h p s = tt
  array_with_names am.Peek n items v store h p s = tt
  array_with_names am.Delete n items v store h p s = deleted_names n items (number_in v) store h s
  array_with_names am.Count n items v store h p s = tt
  array_with_names am.Clear n items v store h p s = tt
  array_with_names am.Append n items v store h p s = appended_names n items (items_of v store) store h (items_of_names v store s) s

  method_of_array_names : (method : ArrayMethod) (n : ℕ) (items arguments : List StoreValue) (store : Store) → Each (ValueNames S) items → Each (ValueNames S) arguments → StoreNames S store → AnswerNames (method_of_array method n items arguments store)
  method_of_array_names method n items [] store h k s = bare_array_names method n items store h s
  method_of_array_names method n items (v ∷ []) store h (p, k) s = array_with_names method n items v store h p s
  method_of_array_names method n items (v ∷ w ∷ vs) store h k s = tt

  no_member_names : (plain : pl.Plain) (e : ErrorCode) → AnswerNames (no_member plain e)
  no_member_names p.Invalid e = tt
  no_member_names (p.Truth b) e = tt
  no_member_names (p.Small n) e = tt
  no_member_names (p.Big n) e = tt
  no_member_names (p.Function n) e = tt
  no_member_names (p.Node n) e = tt
  no_member_names (p.Port n) e = tt
  no_member_names p.Screen e = tt

  pub array_names : (method : ArrayMethod) (arguments : List StoreValue) (store : Store) → Each (ValueNames S) arguments → StoreNames S store → AnswerNames (array_row method arguments store)
  array_names method [] store h s = tt
  array_names method (Scalar plain ∷ vs) store h s = no_member_names plain E4
  array_names method (Words bytes ∷ vs) store h s = tt
  array_names method (Reference n ∷ vs) store (q, h) s = on_object (slice_get store n) (object_names store n s)
    where
      on_object : (x : Option Object) → IfSome (ObjectNames S) x → AnswerNames (on_array_object (method_of_array method) n x vs store)
      on_object None k = tt
      on_object (Some (ArrayObject items)) k = method_of_array_names method n items vs store k h s
      on_object (Some (MapObject entries)) k = tt
      on_object (Some (MessageObject message)) k = tt

  -- ---- associative arrays

  put_at_names : (n : ℕ) (entries : List (Entry StoreValue)) (key : List ℕ) (x : Option StoreValue) (v : StoreValue) (store : Store) → EntriesName S entries → ValueNames S v → StoreNames S store → AnswerNames (put_at n entries key x v store)
  put_at_names n entries key (Some old) v store h p s = (tt, with_entries_names n (with_key entries key v) store (with_key_names entries key v p h) s)
  put_at_names n entries key None v store h p s = room_names (length entries) _ (tt, with_entries_names n (with_key entries key v) store (with_key_names entries key v p h) s)

  put_names : (n : ℕ) (entries : List (Entry StoreValue)) (x : Option (List ℕ)) (v : StoreValue) (store : Store) → EntriesName S entries → ValueNames S v → StoreNames S store → AnswerNames (put_row n entries x v store)
  put_names n entries (Some key) v store h p s = put_at_names n entries (folded key) (value_at_key entries (folded key)) v store h p s
  put_names n entries None v store h p s = tt

  looked_names : (entries : List (Entry StoreValue)) (x : Option (List ℕ)) (store : Store) → EntriesName S entries → StoreNames S store → AnswerNames (looked_up entries x store)
  looked_names entries (Some key) store h s = (or_invalid_names (value_at_key entries (folded key)) (at_key_names entries (folded key) h), s)
  looked_names entries None store h s = tt

  existing_names : (entries : List (Entry StoreValue)) (x : Option (List ℕ)) (store : Store) → StoreNames S store → AnswerNames (existing entries x store)
  existing_names entries (Some key) store s = (tt, s)
  existing_names entries None store s = tt

  removed_key_names : (n : ℕ) (entries : List (Entry StoreValue)) (key : List ℕ) (x : Option StoreValue) (store : Store) → EntriesName S entries → StoreNames S store → AnswerNames (removed_key n entries key x store)
  removed_key_names n entries key (Some v) store h s = (tt, with_entries_names n (without_key entries key) store (without_key_names entries key h) s)
  removed_key_names n entries key None store h s = (tt, s)

  deleted_key_names : (n : ℕ) (entries : List (Entry StoreValue)) (x : Option (List ℕ)) (store : Store) → EntriesName S entries → StoreNames S store → AnswerNames (deleted_row n entries x store)
  deleted_key_names n entries (Some key) store h s = removed_key_names n entries (folded key) (value_at_key entries (folded key)) store h s
  deleted_key_names n entries None store h s = tt

  joined_names : (entries further : List (Entry StoreValue)) → EntriesName S entries → EntriesName S further → EntriesName S (joined entries further)
  joined_names entries [] h k = h
  joined_names entries (e ∷ further) h (p, k) = joined_names (with_key entries e.key e.value) further (with_key_names entries e.key e.value p h) k

  joined_row_names : (n : ℕ) (entries : List (Entry StoreValue)) (x : Option (List (Entry StoreValue))) (store : Store) → EntriesName S entries → IfSome (EntriesName S) x → StoreNames S store → AnswerNames (joined_row n entries x store)
  joined_row_names n entries (Some further) store h k s =
      either (nat_le (length entries + new_keys entries further) (2 ^ 20)) (Gives a.invalid (with_entries n (joined entries further) store)) (Raises E12) (tt, with_entries_names n (joined entries further) store (joined_names entries further h k) s) tt
  joined_row_names n entries None store h k s = tt

  words_names : (ks : List (List ℕ)) → Each (ValueNames S) (map Words ks)
  words_names [] = tt
  words_names (k ∷ ks) = (tt, words_names ks)

  bare_map_names : (method : MapMethod) (n : ℕ) (entries : List (Entry StoreValue)) (store : Store) → StoreNames S store → AnswerNames (bare_map_row method n entries store)
  bare_map_names mm.AddReplace n entries store s = tt
  bare_map_names mm.Clear n entries store s = (tt, with_entries_names n [] store tt s)
  bare_map_names mm.Lookup n entries store s = tt
  bare_map_names mm.DoesExist n entries store s = tt
  bare_map_names mm.Delete n entries store s = tt
  bare_map_names mm.Count n entries store s = (tt, s)

  map_with_names : (method : MapMethod) (n : ℕ) (entries : List (Entry StoreValue)) (v : StoreValue) (store : Store) → EntriesName S entries → ValueNames S v → StoreNames S store → AnswerNames (map_row_with method n entries v store)
  map_with_names mm.AddReplace n entries v store h p s = tt
  map_with_names mm.Clear n entries v store h p s = tt
  map_with_names mm.Lookup n entries v store h p s = looked_names entries (text_of v) store h s
  map_with_names mm.DoesExist n entries v store h p s = existing_names entries (text_of v) store s
  map_with_names mm.Delete n entries v store h p s = deleted_key_names n entries (text_of v) store h s
  map_with_names mm.Count n entries v store h p s = tt

  map_with_two_names : (method : MapMethod) (n : ℕ) (entries : List (Entry StoreValue)) (k v : StoreValue) (store : Store) → EntriesName S entries → ValueNames S v → StoreNames S store → AnswerNames (map_row_with_two method n entries k v store)
  map_with_two_names mm.AddReplace n entries k v store h p s = put_names n entries (text_of k) v store h p s
  map_with_two_names mm.Clear n entries k v store h p s = tt
  map_with_two_names mm.Lookup n entries k v store h p s = tt
  map_with_two_names mm.DoesExist n entries k v store h p s = tt
  map_with_two_names mm.Delete n entries k v store h p s = tt
  map_with_two_names mm.Count n entries k v store h p s = tt

  method_of_map_names : (method : MapMethod) (n : ℕ) (entries : List (Entry StoreValue)) (arguments : List StoreValue) (store : Store) → EntriesName S entries → Each (ValueNames S) arguments → StoreNames S store → AnswerNames (method_of_map method n entries arguments store)
  method_of_map_names method n entries [] store h k s = bare_map_names method n entries store s
  method_of_map_names method n entries (v ∷ []) store h (p, k) s = map_with_names method n entries v store h p s
  method_of_map_names method n entries (v ∷ w ∷ []) store h (p, (q, k)) s = map_with_two_names method n entries v w store h q s
  method_of_map_names method n entries (v ∷ w ∷ x ∷ vs) store h k s = tt

  pub map_names : (method : MapMethod) (arguments : List StoreValue) (store : Store) → Each (ValueNames S) arguments → StoreNames S store → AnswerNames (map_row method arguments store)
  map_names method [] store h s = tt
  map_names method (Scalar plain ∷ vs) store h s = no_member_names plain E4
  map_names method (Words bytes ∷ vs) store h s = tt
  map_names method (Reference n ∷ vs) store (q, h) s = on_object (slice_get store n) (object_names store n s)
    where
      on_object : (x : Option Object) → IfSome (ObjectNames S) x → AnswerNames (on_map_object (method_of_map method) n x vs store)
      on_object None k = tt
      on_object (Some (ArrayObject items)) k = tt
      on_object (Some (MapObject entries)) k = method_of_map_names method n entries vs store k h s
      on_object (Some (MessageObject message)) k = tt

  append_keys_names : (n : ℕ) (entries : List (Entry StoreValue)) (arguments : List StoreValue) (store : Store) → EntriesName S entries → StoreNames S store → AnswerNames (append_keys_row n entries arguments store)
  append_keys_names n entries [] store h s = tt
  append_keys_names n entries (v ∷ []) store h s = joined_row_names n entries (entries_of v store) store h (entries_of_names v store s) s
  append_keys_names n entries (v ∷ w ∷ vs) store h s = tt

  keys_names : (n : ℕ) (entries : List (Entry StoreValue)) (arguments : List StoreValue) (store : Store) → StoreNames S store → AnswerNames (keys_row n entries arguments store)
  keys_names n entries [] store s = (tt, each_append (ObjectNames S) store (ArrayObject (map Words (keys_of entries)) ∷ []) s (words_names (keys_of entries), tt))
  keys_names n entries (v ∷ vs) store s = tt

  pub on_map_names : (row : MapRow) (n : ℕ) (arguments : List StoreValue) (store : Store) → ((entries : List (Entry StoreValue)) → EntriesName S entries → AnswerNames (row n entries arguments store)) → StoreNames S store → AnswerNames (on_map row (Reference n ∷ arguments) store)
  on_map_names row n vs store f s = on_object (slice_get store n) (object_names store n s)
    where
      on_object : (x : Option Object) → IfSome (ObjectNames S) x → AnswerNames (on_map_object row n x vs store)
      on_object None k = tt
      on_object (Some (ArrayObject items)) k = tt
      on_object (Some (MapObject entries)) k = f entries k
      on_object (Some (MessageObject message)) k = tt

  pub map_append_names : (n : ℕ) (arguments : List StoreValue) (store : Store) → StoreNames S store → AnswerNames (on_map append_keys_row (Reference n ∷ arguments) store)
  map_append_names n vs store s = on_map_names append_keys_row n vs store (λ entries h. append_keys_names n entries vs store h s) s

  pub map_keys_names : (n : ℕ) (arguments : List StoreValue) (store : Store) → StoreNames S store → AnswerNames (on_map keys_row (Reference n ∷ arguments) store)
  map_keys_names n vs store s = on_map_names keys_row n vs store (λ entries h. keys_names n entries vs store s) s

  -- ---- messages

  told_names : (method : MessageMethod) (message : Message) → MessageNames S message → ValueNames S (told method message)
  told_names em.Field message h = tt
  told_names em.Id message h = tt
  told_names em.Node message (p, h) = p

  method_of_message_names : (method : MessageMethod) (message : Message) (arguments : List StoreValue) (store : Store) → MessageNames S message → StoreNames S store → AnswerNames (method_of_message method message arguments store)
  method_of_message_names method message [] store h s = (told_names method message h, s)
  method_of_message_names method message (v ∷ vs) store h s = tt

  pub message_names : (method : MessageMethod) (n : ℕ) (arguments : List StoreValue) (store : Store) → StoreNames S store → AnswerNames (message_row method (Reference n ∷ arguments) store)
  message_names method n vs store s = on_object (slice_get store n) (object_names store n s)
    where
      on_object : (x : Option Object) → IfSome (ObjectNames S) x → AnswerNames (on_message_object (method_of_message method) x vs store)
      on_object None k = tt
      on_object (Some (ArrayObject items)) k = tt
      on_object (Some (MapObject entries)) k = tt
      on_object (Some (MessageObject message)) k = method_of_message_names method message vs store k s

  -- ---- members and indexes

  item_names : (items : List StoreValue) (x : Option ℤ) (store : Store) → Each (ValueNames S) items → StoreNames S store → AnswerNames (item_read items x store)
  item_names items (Some (pos i)) store h s = (or_invalid_names (slice_get items i) (each_get (ValueNames S) items i h), s)
  item_names items (Some (negsuc i)) store h s = (tt, s)
  item_names items None store h s = tt

  item_written_names : (n : ℕ) (items : List StoreValue) (x : Option ℤ) (v : StoreValue) (store : Store) → Each (ValueNames S) items → ValueNames S v → StoreNames S store → AnswerNames (item_written n items x v store)
  item_written_names n items (Some (pos i)) v store h p s =
      either (nat_lt i (2 ^ 20)) (Gives a.invalid (with_items n (placed filler_meant items i v) store)) (Raises E12) (tt, with_items_names n (placed filler_meant items i v) store (each_placed (ValueNames S) filler_meant items i v tt p h) s) tt
  item_written_names n items (Some (negsuc i)) v store h p s = tt
  item_written_names n items None v store h p s = tt

  member_of_names : (x : Option Object) (k : StoreValue) (store : Store) → IfSome (ObjectNames S) x → StoreNames S store → AnswerNames (member_read x k store)
  member_of_names None k store h s = tt
  member_of_names (Some (ArrayObject items)) k store h s = tt
  member_of_names (Some (MapObject entries)) k store h s = looked_names entries (text_of k) store h s
  member_of_names (Some (MessageObject message)) k store h s = tt

  index_of_names : (x : Option Object) (i : StoreValue) (store : Store) → IfSome (ObjectNames S) x → StoreNames S store → AnswerNames (index_read x i store)
  index_of_names None i store h s = tt
  index_of_names (Some (ArrayObject items)) i store h s = item_names items (number_in i) store h s
  index_of_names (Some (MapObject entries)) i store h s = looked_names entries (text_of i) store h s
  index_of_names (Some (MessageObject message)) i store h s = tt

  member_written_names : (n : ℕ) (x : Option Object) (k v : StoreValue) (store : Store) → IfSome (ObjectNames S) x → ValueNames S v → StoreNames S store → AnswerNames (member_written n x k v store)
  member_written_names n None k v store h p s = tt
  member_written_names n (Some (ArrayObject items)) k v store h p s = tt
  member_written_names n (Some (MapObject entries)) k v store h p s = put_names n entries (text_of k) v store h p s
  member_written_names n (Some (MessageObject message)) k v store h p s = tt

  index_written_names : (n : ℕ) (x : Option Object) (i v : StoreValue) (store : Store) → IfSome (ObjectNames S) x → ValueNames S v → StoreNames S store → AnswerNames (index_written n x i v store)
  index_written_names n None i v store h p s = tt
  index_written_names n (Some (ArrayObject items)) i v store h p s = item_written_names n items (number_in i) v store h p s
  index_written_names n (Some (MapObject entries)) i v store h p s = put_names n entries (text_of i) v store h p s
  index_written_names n (Some (MessageObject message)) i v store h p s = tt

  pub read_member_names : (x k : StoreValue) (store : Store) → StoreNames S store → AnswerNames (read_member_row (x ∷ k ∷ []) store)
  read_member_names (Scalar plain) k store s = no_member_names plain E4
  read_member_names (Words bytes) k store s = tt
  read_member_names (Reference n) k store s = member_of_names (slice_get store n) k store (object_names store n s) s

  pub read_index_names : (x i : StoreValue) (store : Store) → StoreNames S store → AnswerNames (read_index_row (x ∷ i ∷ []) store)
  read_index_names (Scalar plain) i store s = no_member_names plain E2
  read_index_names (Words bytes) i store s = tt
  read_index_names (Reference n) i store s = index_of_names (slice_get store n) i store (object_names store n s) s

  pub write_member_names : (x k v : StoreValue) (store : Store) → ValueNames S v → StoreNames S store → AnswerNames (write_member_row (x ∷ k ∷ v ∷ []) store)
  write_member_names (Scalar plain) k v store h s = no_member_names plain E4
  write_member_names (Words bytes) k v store h s = tt
  write_member_names (Reference n) k v store h s = member_written_names n (slice_get store n) k v store (object_names store n s) h s

  pub write_index_names : (x i v : StoreValue) (store : Store) → ValueNames S v → StoreNames S store → AnswerNames (write_index_row (x ∷ i ∷ v ∷ []) store)
  write_index_names (Scalar plain) i v store h s = no_member_names plain E2
  write_index_names (Words bytes) i v store h s = tt
  write_index_names (Reference n) i v store h s = index_written_names n (slice_get store n) i v store (object_names store n s) h s
