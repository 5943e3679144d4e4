-- The call of a member of a value of the heap, as whatever it is seen.
use Rattle.std.proofs.Common.{◌≡◌, ℕ, List, [], map, Option, Some, None, refl, ap, ◌∙◌}
use Rattle.std.specs.Prelude.{slice_get, option_map}
use Rattle.heap_meaning.specs.declared.plain.Plain.{Plain}
use Rattle.heap_meaning.specs.declared.plain.Plain.TheVariants as p
use Rattle.heap_meaning.specs.Values.{Value, StoreValue, Scalar, Words, Reference, Entry}
use Rattle.heap_meaning.specs.Keys.{value_at_key}
use Rattle.heap_meaning.specs.Store.{MapObject, Store}
use Rattle.heap_meaning.specs.Cells.{Content}
use Rattle.heap_meaning.specs.Stands.{Naming, Outside, meaning, entry_meaning, Stands}
use Rattle.heap_meaning.specs.Heap.{Heap, Belongs, content_at}
use Rattle.heap_meaning.specs.Reading.{plain_of, value_in}
use Rattle.heap_meaning.proofs.Showing.{Seen, sees_plain, sees_text, sees_array, sees_pairs, sees_message, sees, value_belongs}
use Rattle.object_operations.specs.declared.receiver.Receiver.TheVariants as r
use Rattle.object_operations.proofs.Seeing.{first_belongs}
use Rattle.object_operations.proofs.Entries.{value_map}
use Rattle.brs_builtins.specs.Names.{method_named}
use Rattle.brs_meaning.specs.Methods.{object_method_called, method_call}
use Rattle.machine_meaning.specs.Setting.{Setting, gives}
use Rattle.machine_meaning.specs.Calls.{key_called, object_called, member_call}
use Rattle.call_decisions.specs.MemberCalls as spec
use Rattle.call_decisions.specs.MemberCalls.{method_or, member_called_in, member_called}
use Rattle.call_decisions.specs.MemberRows.{member_acts, IsMemberRow}
use Rattle.call_decisions.proofs.MethodLaws.{missing, plain_given, array_given, map_given, message_given}

module _ (s : Setting) (k : List ℕ) (arguments : List StoreValue) (store : Store) where
  plain_acts : (plain : Plain) → member_call s (Scalar plain) k arguments store ≡ member_acts (spec.plain_called plain k) s (Scalar plain) k arguments store
  plain_acts p.Invalid = refl
  plain_acts (p.Truth b) = plain_given s (Scalar (p.Truth b)) arguments store k
  plain_acts (p.Small i) = plain_given s (Scalar (p.Small i)) arguments store k
  plain_acts (p.Big i) = plain_given s (Scalar (p.Big i)) arguments store k
  plain_acts (p.Function i) = plain_given s (Scalar (p.Function i)) arguments store k
  plain_acts (p.Node i) = refl
  plain_acts (p.Port i) = refl
  plain_acts p.Screen = refl

  -- ---- an associative array

  module _ (n : ℕ) (entries : List (Entry StoreValue)) (there : slice_get store n ≡ Some (MapObject entries)) where
    method_acts : (held : Option StoreValue) → gives s (method_call (Reference n) held k arguments store) ≡ member_acts (method_or (missing held) (method_named r.Pairs k)) s (Reference n) k arguments store
    method_acts held = ap (λ object. gives s (object_method_called object (Reference n) held k arguments store)) there ∙ map_given s (Reference n) arguments store k held

    held_plain : (plain : Plain) → key_called s (Reference n) (Some (Scalar plain)) k arguments store ≡ member_acts (spec.held_called (Some plain) (method_named r.Pairs k)) s (Reference n) k arguments store
    held_plain p.Invalid = method_acts (Some (Scalar p.Invalid))
    held_plain (p.Truth b) = method_acts (Some (Scalar (p.Truth b)))
    held_plain (p.Small i) = method_acts (Some (Scalar (p.Small i)))
    held_plain (p.Big i) = method_acts (Some (Scalar (p.Big i)))
    held_plain (p.Function i) = refl
    held_plain (p.Node i) = method_acts (Some (Scalar (p.Node i)))
    held_plain (p.Port i) = method_acts (Some (Scalar (p.Port i)))
    held_plain p.Screen = method_acts (Some (Scalar p.Screen))

    held_acts : (name : Naming) (v : Value) (w : StoreValue) (content : Option Content) → Seen name store v w content
        → key_called s (Reference n) (Some w) k arguments store ≡ member_acts (spec.held_called (plain_of v) (method_named r.Pairs k)) s (Reference n) k arguments store
    held_acts name _ _ _ (sees_plain {p = plain}) = held_plain plain
    held_acts name _ _ _ (sees_text {bytes = bytes}) = method_acts (Some (Words bytes))
    held_acts name _ _ _ (sees_array {n = m} g) = method_acts (Some (Reference m))
    held_acts name _ _ _ (sees_pairs {n = m} g) = method_acts (Some (Reference m))
    held_acts name _ _ _ (sees_message {n = m} g) = method_acts (Some (Reference m))

    -- the values at the key are of this heap
    key_acts : (h : Heap) (name : Naming) (before : Outside) → Stands name h.cells store before → (at_key : Option Value) → ((v : Value) → at_key ≡ Some v → Belongs h v)
        → key_called s (Reference n) (option_map (meaning name) at_key) k arguments store ≡ member_acts (spec.key_called at_key k) s (Reference n) k arguments store
    key_acts h name before stands None belongs = method_acts None
    key_acts h name before stands (Some v) belongs = held_acts name v (meaning name v) (content_at h v) (sees h name store before v stands (belongs v refl))

  -- ---- any value

  value_acts : (h : Heap) (name : Naming) (before : Outside) → Stands name h.cells store before → (v : Value) (w : StoreValue) (content : Option Content) → Seen name store v w content
      → ((item : Value) → value_in content k ≡ Some item → Belongs h item) → member_call s w k arguments store ≡ member_acts (member_called_in (plain_of v) content k) s w k arguments store
  value_acts h name before stands _ _ _ (sees_plain {p = plain}) belongs = plain_acts plain
  value_acts h name before stands _ _ _ (sees_text {bytes = bytes}) belongs = plain_given s (Words bytes) arguments store k
  value_acts h name before stands _ _ _ (sees_array {n = n} {vs = vs} g) belongs =
      ap (λ object. object_called s (Reference n) object k arguments store) g
      ∙ ap (λ object. gives s (object_method_called object (Reference n) None k arguments store)) g
      ∙ array_given s (Reference n) arguments store k
  value_acts h name before stands _ _ _ (sees_message {n = n} {m = message} g) belongs =
      ap (λ object. object_called s (Reference n) object k arguments store) g
      ∙ ap (λ object. gives s (object_method_called object (Reference n) None k arguments store)) g
      ∙ message_given s n message arguments store g k
  value_acts h name before stands _ _ _ (sees_pairs {n = n} {es = es} g) belongs =
      ap (λ object. object_called s (Reference n) object k arguments store) g
      ∙ ap (λ held. key_called s (Reference n) held k arguments store) (value_map name es k)
      ∙ key_acts n (map (entry_meaning name) es) g h name before stands (value_at_key es k) belongs

pub member_row : (h : Heap) (v : Value) (k : List ℕ) → IsMemberRow h v k (member_called h v k)
member_row h v k = λ name store before stands out s arguments.
    value_acts s k arguments store h name before stands v (meaning name v) (content_at h v) (sees h name store before v stands (first_belongs h name store before v [] stands out))
    (λ item e. value_belongs h name store before v k item stands e)
