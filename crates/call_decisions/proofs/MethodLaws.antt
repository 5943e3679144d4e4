-- A built-in method of a value, as the operation that it is.
use Rattle.std.proofs.Common.{◌≡◌, ℕ, List, [], ◌∷◌, Option, Some, None, refl, sym, ap, ◌∙◌, subst}
use Rattle.std.specs.Prelude.{Bool, true, false, cond, codes, option_map, slice_get}
use Rattle.std.specs.Str.{bytes_eq}
use Rattle.chan_values.specs.declared.error_code.ErrorCode.{ErrorCode}
use Rattle.chan_values.specs.declared.error_code.ErrorCode.TheVariants.{E4, E5}
use Rattle.chan_values.specs.declared.message.Message.{Message}
use Rattle.heap_meaning.specs.Values.{StoreValue, Reference}
use Rattle.heap_meaning.specs.Store.{MessageObject, Store}
use Rattle.heap_meaning.proofs.Lists.{map_length}
use Rattle.plain_operations.specs.Names as n
use Rattle.plain_operations.specs.Names.{beside}
use Rattle.plain_operations.specs.Methods.{method_row}
use Rattle.plain_operations.specs.declared.method.PlainMethod.{PlainMethod}
use Rattle.object_operations.specs.MethodNames as w
use Rattle.object_operations.specs.Maps.{append_keys_row, keys_row}
use Rattle.object_operations.specs.Receivers.{on_map, on_message_object}
use Rattle.object_operations.specs.declared.receiver.Receiver.TheVariants as r
use Rattle.object_operations.specs.declared.array_method.ArrayMethod.{ArrayMethod}
use Rattle.object_operations.specs.declared.map_method.MapMethod.{MapMethod}
use Rattle.object_operations.specs.declared.message_method.MessageMethod.{MessageMethod}
use Rattle.object_makers.specs.MessageData.{data_row}
use Rattle.brs_builtins.specs.Operands.{operand, answer_of}
use Rattle.brs_builtins.specs.Names.{as_operations, method_named}
use Rattle.brs_builtins.specs.declared.operation.Operation.{Operation}
use Rattle.brs_builtins.specs.declared.operation.Operation.TheVariants as o
use Rattle.brs_meaning.specs.Given.{answered}
use Rattle.brs_meaning.specs.MethodNames.{array_method_named, map_method_named, message_method_named}
use Rattle.brs_meaning.specs.Methods.{array_called, map_called, other_map_called, message_called, data_of, told, plain_called}
use Rattle.machine_meaning.specs.Acted.{Acted}
use Rattle.machine_meaning.specs.Setting.{Setting, gives}
use Rattle.call_decisions.specs.MemberCalls.{method_or}
use Rattle.call_decisions.specs.MemberRows.{member_acts}
use Rattle.call_decisions.proofs.Names.{same_bytes, other_way, or_else, beside_mapped, beside_onto}

-- the error where something, or nothing, stands at the key and there is no method
abbrev pub missing : Option StoreValue → ErrorCode
missing (Some v) = E5
missing None = E4

module _ (s : Setting) (x : StoreValue) (arguments : List StoreValue) (store : Store) where
  -- what a call of the method does, or the error without one
  abbrev acts : ErrorCode → Option Operation → List ℕ → Acted
  acts error method k = member_acts (method_or error method) s x k arguments store

  pub plain_given : (k : List ℕ) → gives s (plain_called (n.method_named k) x arguments store) ≡ acts E4 (method_named r.Other k) k
  plain_given k = go (n.method_named k) ∙ ap (λ m. acts E4 m k) (sym (beside_mapped o.PlainMethod n.method_words k))
    where
      go : (m : Option PlainMethod) → gives s (plain_called m x arguments store) ≡ acts E4 (option_map o.PlainMethod m) k
      go None = refl
      go (Some m) = ap (λ c. gives s (answered (answer_of (method_row m (operand x) c) store))) (sym (map_length operand arguments))

  pub array_given : (k : List ℕ) → gives s (array_called (array_method_named k) x arguments store) ≡ acts E4 (method_named r.Array k) k
  array_given k = go (array_method_named k) ∙ ap (λ m. acts E4 m k) (sym (beside_mapped o.ArrayMethod w.array_words k))
    where
      go : (m : Option ArrayMethod) → gives s (array_called m x arguments store) ≡ acts E4 (option_map o.ArrayMethod m) k
      go None = refl
      go (Some m) = refl

  -- ---- associative arrays

  other_map : (k : List ℕ) (held : Option StoreValue) → bytes_eq k (codes "append") ≡ false → bytes_eq k (codes "keys") ≡ false
      → gives s (other_map_called (map_method_named k) x held arguments store) ≡ acts (missing held) (method_named r.Pairs k) k
  other_map k held a b = go (map_method_named k) held ∙ ap (λ m. acts (missing held) m k) (sym named)
    where
      further : beside ((codes "keys", o.Keys) ∷ (codes "append", o.AppendEntries) ∷ []) k ≡ None
      further =
          ap (λ t. cond t (Some o.Keys) (cond (bytes_eq (codes "append") k) (Some o.AppendEntries) None)) (other_way k (codes "keys") b)
          ∙ ap (λ t. cond t (Some o.AppendEntries) None) (other_way k (codes "append") a)

      named : method_named r.Pairs k ≡ or_else (option_map o.MapMethod (map_method_named k)) None
      named =
          beside_onto (as_operations o.MapMethod w.map_words) ((codes "keys", o.Keys) ∷ (codes "append", o.AppendEntries) ∷ []) k
          ∙ ap (λ m. or_else m (beside ((codes "keys", o.Keys) ∷ (codes "append", o.AppendEntries) ∷ []) k)) (beside_mapped o.MapMethod w.map_words k)
          ∙ ap (or_else (option_map o.MapMethod (map_method_named k))) further

      go : (m : Option MapMethod) (held : Option StoreValue) → gives s (other_map_called m x held arguments store) ≡ acts (missing held) (or_else (option_map o.MapMethod m) None) k
      go (Some m) held = refl
      go None (Some v) = refl
      go None None = refl

  pub map_given : (k : List ℕ) (held : Option StoreValue) → gives s (map_called k x held arguments store) ≡ acts (missing held) (method_named r.Pairs k) k
  map_given k held = first (bytes_eq k (codes "append")) refl
    where
      second : bytes_eq k (codes "append") ≡ false → (t : Bool) → bytes_eq k (codes "keys") ≡ t → gives s (map_called k x held arguments store) ≡ acts (missing held) (method_named r.Pairs k) k
      second a true q = subst (λ z. gives s (map_called z x held arguments store) ≡ acts (missing held) (method_named r.Pairs z) z) (sym (same_bytes k (codes "keys") q)) refl
      second a false q =
          ap (λ t. gives s (cond t (answered (on_map append_keys_row (x ∷ arguments) store)) (cond (bytes_eq k (codes "keys")) (answered (on_map keys_row (x ∷ arguments) store)) (other_map_called (map_method_named k) x held arguments store)))) a
          ∙ ap (λ t. gives s (cond t (answered (on_map keys_row (x ∷ arguments) store)) (other_map_called (map_method_named k) x held arguments store))) q
          ∙ other_map k held a q

      first : (t : Bool) → bytes_eq k (codes "append") ≡ t → gives s (map_called k x held arguments store) ≡ acts (missing held) (method_named r.Pairs k) k
      first true q = subst (λ z. gives s (map_called z x held arguments store) ≡ acts (missing held) (method_named r.Pairs z) z) (sym (same_bytes k (codes "append") q)) refl
      first false q = second q (bytes_eq k (codes "keys")) refl

-- ---- messages

module _ (s : Setting) (n : ℕ) (message : Message) (arguments : List StoreValue) (store : Store) (there : slice_get store n ≡ Some (MessageObject message)) where
  data_given : gives s (data_of message arguments store) ≡ gives s (answered (on_message_object data_row (slice_get store n) arguments store))
  data_given = go arguments ∙ ap (λ object. gives s (answered (on_message_object data_row object arguments store))) (sym there)
    where
      go : (vs : List StoreValue) → gives s (data_of message vs store) ≡ gives s (answered (data_row message vs store))
      go [] = refl
      go (v ∷ vs) = refl

  told_given : (k : List ℕ) → bytes_eq k (codes "getdata") ≡ false → gives s (told (message_method_named k) (Reference n) arguments store) ≡ member_acts (method_or E4 (method_named r.Message k)) s (Reference n) k arguments store
  told_given k a = go (message_method_named k) ∙ ap (λ m. member_acts (method_or E4 m) s (Reference n) k arguments store) (sym named)
    where
      named : method_named r.Message k ≡ or_else (option_map o.MessageMethod (message_method_named k)) None
      named =
          beside_onto (as_operations o.MessageMethod w.message_words) ((codes "getdata", o.MessageData) ∷ []) k
          ∙ ap (λ m. or_else m (beside ((codes "getdata", o.MessageData) ∷ []) k)) (beside_mapped o.MessageMethod w.message_words k)
          ∙ ap (λ t. or_else (option_map o.MessageMethod (message_method_named k)) (cond t (Some o.MessageData) None)) (other_way k (codes "getdata") a)

      go : (m : Option MessageMethod) → gives s (told m (Reference n) arguments store) ≡ member_acts (method_or E4 (or_else (option_map o.MessageMethod m) None)) s (Reference n) k arguments store
      go (Some m) = refl
      go None = refl

  pub message_given : (k : List ℕ) → gives s (message_called message (Reference n) k arguments store) ≡ member_acts (method_or E4 (method_named r.Message k)) s (Reference n) k arguments store
  message_given k = go (bytes_eq k (codes "getdata")) refl
    where
      go : (t : Bool) → bytes_eq k (codes "getdata") ≡ t → gives s (message_called message (Reference n) k arguments store) ≡ member_acts (method_or E4 (method_named r.Message k)) s (Reference n) k arguments store
      go true q =
          subst (λ z. gives s (message_called message (Reference n) z arguments store) ≡ member_acts (method_or E4 (method_named r.Message z)) s (Reference n) z arguments store) (sym (same_bytes k (codes "getdata") q)) data_given
      go false q = ap (λ t. gives s (cond t (data_of message arguments store) (told (message_method_named k) (Reference n) arguments store))) q ∙ told_given k q
