-- Nodes that the redex of an expression names: none but those of its operands, its call and the store, and node 1.
use Rattle.std.proofs.Common.{ℕ, List, [], ◌∷◌, Option, Some, None}
use Rattle.std.specs.Prelude.{ℤ, Bool, true, false, length, map, reverse, cond, slice_get, ◌==◌, nat_le, codes}
use Rattle.std.specs.Str.{bytes_eq}
use Rattle.chan_values.specs.Folded.{folded}
use Rattle.chan_values.specs.Tree.{Tree}
use Rattle.chan_values.specs.View.{tree_of}
use Rattle.chan_values.specs.declared.message.Message.{Message}
use Rattle.chan_values.specs.declared.error_code.ErrorCode.TheVariants.{E4, E5, E6, E10}
use Rattle.brs_tokens.specs.declared.place.Place.{Place}
use Rattle.heap_meaning.specs.declared.plain.Plain.TheVariants as p
use Rattle.heap_meaning.specs.Values.{StoreValue, Scalar, Words, Reference, Entry}
use Rattle.heap_meaning.specs.Keys.{value_at_key, with_key}
use Rattle.heap_meaning.specs.Store.{Object, ArrayObject, MapObject, MessageObject, Store}
use Rattle.plain_operations.specs.Names as n
use Rattle.plain_operations.specs.Functions.{function_result}
use Rattle.plain_operations.specs.Methods.{method_row}
use Rattle.plain_operations.specs.Operators.{operated, operated_alone}
use Rattle.plain_operations.specs.declared.function.PlainFunction.{PlainFunction}
use Rattle.plain_operations.specs.declared.method.PlainMethod.{PlainMethod}
use Rattle.plain_operations.specs.declared.operator.Operator.{Operator}
use Rattle.plain_operations.specs.declared.operator.Operator.TheVariants as o
use Rattle.plain_operations.specs.declared.operator.UnaryOperator.{UnaryOperator}
use Rattle.plain_operations.specs.declared.operator.UnaryOperator.TheVariants as u
use Rattle.brs_meaning.specs.Operators.{comparison, shift, sum, product}
use Rattle.object_operations.specs.Answer as a
use Rattle.object_operations.specs.Answer.{Answer}
use Rattle.object_operations.specs.Arrays.{array_row}
use Rattle.object_operations.specs.Maps.{map_row, append_keys_row, keys_row}
use Rattle.object_operations.specs.Receivers.{on_map}
use Rattle.object_operations.specs.Members.{read_member_row, write_member_row, read_index_row, write_index_row}
use Rattle.object_operations.specs.Messages.{message_row}
use Rattle.object_operations.specs.Types.{type_row}
use Rattle.object_operations.specs.declared.array_method.ArrayMethod.{ArrayMethod}
use Rattle.object_operations.specs.declared.map_method.MapMethod.{MapMethod}
use Rattle.object_operations.specs.declared.message_method.MessageMethod.{MessageMethod}
use Rattle.brs_tokens.specs.declared.number.NumberValue.{NumberValue}
use Rattle.brs_tokens.specs.declared.number.NumberValue.TheVariants.{Integer, LongInteger}
use Rattle.brs_forms.specs.Words as w
use Rattle.brs_forms.specs.Words.{readable, key_of, is_m}
use Rattle.brs_grammar.specs.Form as f
use Rattle.brs_grammar.specs.Form.{Text, Head, Aim, ToName, ToMember, ToIndex}
use Rattle.brs_meaning.specs.declared.node_method.NodeMethod.{NodeMethod}
use Rattle.brs_meaning.specs.declared.node_method.NodeMethod.TheVariants as m
use Rattle.brs_meaning.specs.Program.{Function, scoped}
use Rattle.brs_meaning.specs.Locals.{local}
use Rattle.brs_meaning.specs.Request as r
use Rattle.brs_meaning.specs.Request.{Access, Asks}
use Rattle.brs_meaning.specs.Given.{Given, Gives, Calls, Wants, Fails, Setting, makes, answered}
use Rattle.brs_meaning.specs.Leaving.{leaving, all_leaving}
use Rattle.brs_builtins.specs.Operands.{operand, answer_of}
use Rattle.brs_meaning.specs.Literals.{number_of, number_spelled}
use Rattle.brs_meaning.specs.Taking.{taking, text_then, node_then, port_then, number_then, truth_then, value_then, target_then}
use Rattle.brs_meaning.specs.Names.{function_named, name_value, found, named}
use Rattle.brs_meaning.specs.NodeCalls.{asked_with, node_call}
use Rattle.brs_meaning.specs.WorldCalls.{port_call, screen_call, screen_made, object_made, create_object, wait}
use Rattle.brs_meaning.specs.MethodNames.{array_method_named, map_method_named, message_method_named, node_method_named}
use Rattle.brs_meaning.specs.Methods.{array_called, other_map_called, map_called, data_of, told, plain_called, object_method_called, method_call}
use Rattle.brs_meaning.specs.Members.{member_read, node_index_read, index_read, field_set, member_written, node_index_written, index_written, target_read, target_written}
use Rattle.brs_meaning.specs.Calls.{plain_call, built_in_call, called, call, node_called, key_called, object_called, member_call}
use Rattle.brs_meaning.specs.Heads.{binary, unary, entries, called_with, member_called_with, member_of, index_of, contract}
use Rattle.brs_meaning.specs.Nodes.{Each, IfSome, TreeNames, ValueNames, EntriesName, ObjectNames, StoreNames, MessageNames, LocalsName, AccessNames, RequestNames}
use Rattle.brs_meaning.proofs.EachLaws.{each_append, each_reverse}
use Rattle.brs_meaning.proofs.NodesOfValues.{left_names, all_left_names, laid_names, with_tree_names}
use Rattle.brs_meaning.proofs.NodesOfOperations.{AnswerNames, outcome_names, object_names, at_key_names, with_key_names, array_names, map_names, map_append_names, map_keys_names, message_names, read_member_names, read_index_names, write_member_names, write_index_names}

module _ (S : ℕ → Type 0) where
  abbrev pub GivenNames : Given → Type 0
  GivenNames (Gives v store) = ValueNames S v × StoreNames S store
  GivenNames (Calls f m arguments) = IfSome (ValueNames S) m × Each (ValueNames S) arguments
  GivenNames (Wants request) = RequestNames S request
  GivenNames (Fails e) = Unit {0}

  abbrev pub SettingNames : Setting → Type 0
  SettingNames s = ValueNames S s.m × LocalsName S s.locals

  pub answered_names : (x : Answer) → AnswerNames S x → GivenNames (answered x)
  answered_names (a.Gives v store) h = h
  answered_names (a.Raises e) h = tt

  either : (b : Bool) (x y : Given) → GivenNames x → GivenNames y → GivenNames (cond b x y)
  either true x y h k = h
  either false x y h k = k

  -- ---- arguments

  taking_names : (k : ℕ) (vs : List StoreValue) (x : Given) → GivenNames x → GivenNames (taking k vs x)
  taking_names k vs x h = either (length vs == k) x (Fails E6) h tt

  text_names : (vs : List StoreValue) (g : Text → List StoreValue → Given) → Each (ValueNames S) vs → ((t : Text) (rest : List StoreValue) → Each (ValueNames S) rest → GivenNames (g t rest)) → GivenNames (text_then vs g)
  text_names [] g h k = tt
  text_names (Scalar plain ∷ vs) g h k = tt
  text_names (Words t ∷ vs) g (q, h) k = k t vs h
  text_names (Reference i ∷ vs) g h k = tt

  node_names : (vs : List StoreValue) (g : ℕ → List StoreValue → Given) → Each (ValueNames S) vs → ((i : ℕ) (rest : List StoreValue) → S i → Each (ValueNames S) rest → GivenNames (g i rest)) → GivenNames (node_then vs g)
  node_names [] g h k = tt
  node_names (Scalar p.Invalid ∷ vs) g h k = tt
  node_names (Scalar (p.Truth b) ∷ vs) g h k = tt
  node_names (Scalar (p.Small i) ∷ vs) g h k = tt
  node_names (Scalar (p.Big i) ∷ vs) g h k = tt
  node_names (Scalar (p.Function i) ∷ vs) g h k = tt
  node_names (Scalar (p.Node i) ∷ vs) g (q, h) k = k i vs q h
  node_names (Scalar (p.Port i) ∷ vs) g h k = tt
  node_names (Scalar p.Screen ∷ vs) g h k = tt
  node_names (Words t ∷ vs) g h k = tt
  node_names (Reference i ∷ vs) g h k = tt

  port_names : (vs : List StoreValue) (g : ℕ → List StoreValue → Given) → Each (ValueNames S) vs → ((i : ℕ) (rest : List StoreValue) → Each (ValueNames S) rest → GivenNames (g i rest)) → GivenNames (port_then vs g)
  port_names [] g h k = tt
  port_names (Scalar p.Invalid ∷ vs) g h k = tt
  port_names (Scalar (p.Truth b) ∷ vs) g h k = tt
  port_names (Scalar (p.Small i) ∷ vs) g h k = tt
  port_names (Scalar (p.Big i) ∷ vs) g h k = tt
  port_names (Scalar (p.Function i) ∷ vs) g h k = tt
  port_names (Scalar (p.Node i) ∷ vs) g h k = tt
  port_names (Scalar (p.Port i) ∷ vs) g (q, h) k = k i vs h
  port_names (Scalar p.Screen ∷ vs) g h k = tt
  port_names (Words t ∷ vs) g h k = tt
  port_names (Reference i ∷ vs) g h k = tt

  number_names : (vs : List StoreValue) (g : ℤ → List StoreValue → Given) → Each (ValueNames S) vs → ((i : ℤ) (rest : List StoreValue) → Each (ValueNames S) rest → GivenNames (g i rest)) → GivenNames (number_then vs g)
  number_names [] g h k = tt
  number_names (Scalar p.Invalid ∷ vs) g h k = tt
  number_names (Scalar (p.Truth b) ∷ vs) g h k = tt
  number_names (Scalar (p.Small i) ∷ vs) g (q, h) k = k i vs h
  number_names (Scalar (p.Big i) ∷ vs) g (q, h) k = k i vs h
  number_names (Scalar (p.Function i) ∷ vs) g h k = tt
  number_names (Scalar (p.Node i) ∷ vs) g h k = tt
  number_names (Scalar (p.Port i) ∷ vs) g h k = tt
  number_names (Scalar p.Screen ∷ vs) g h k = tt
  number_names (Words t ∷ vs) g h k = tt
  number_names (Reference i ∷ vs) g h k = tt

  truth_names : (vs : List StoreValue) (g : Bool → List StoreValue → Given) → Each (ValueNames S) vs → ((b : Bool) (rest : List StoreValue) → Each (ValueNames S) rest → GivenNames (g b rest)) → GivenNames (truth_then vs g)
  truth_names [] g h k = tt
  truth_names (Scalar p.Invalid ∷ vs) g h k = tt
  truth_names (Scalar (p.Truth b) ∷ vs) g (q, h) k = k b vs h
  truth_names (Scalar (p.Small i) ∷ vs) g h k = tt
  truth_names (Scalar (p.Big i) ∷ vs) g h k = tt
  truth_names (Scalar (p.Function i) ∷ vs) g h k = tt
  truth_names (Scalar (p.Node i) ∷ vs) g h k = tt
  truth_names (Scalar (p.Port i) ∷ vs) g h k = tt
  truth_names (Scalar p.Screen ∷ vs) g h k = tt
  truth_names (Words t ∷ vs) g h k = tt
  truth_names (Reference i ∷ vs) g h k = tt

  value_names : (vs : List StoreValue) (g : StoreValue → List StoreValue → Given) → Each (ValueNames S) vs → ((v : StoreValue) (rest : List StoreValue) → ValueNames S v → Each (ValueNames S) rest → GivenNames (g v rest)) → GivenNames (value_then vs g)
  value_names [] g h k = tt
  value_names (v ∷ vs) g (q, h) k = k v vs q h

  target_names : (vs : List StoreValue) (g : Text → Given) (g' : ℕ → Given) → ((t : Text) → GivenNames (g t)) → ((i : ℕ) → GivenNames (g' i)) → GivenNames (target_then vs g g')
  target_names [] g g' k k' = tt
  target_names (Scalar p.Invalid ∷ vs) g g' k k' = tt
  target_names (Scalar (p.Truth b) ∷ vs) g g' k k' = tt
  target_names (Scalar (p.Small i) ∷ vs) g g' k k' = tt
  target_names (Scalar (p.Big i) ∷ vs) g g' k k' = tt
  target_names (Scalar (p.Function i) ∷ vs) g g' k k' = tt
  target_names (Scalar (p.Node i) ∷ vs) g g' k k' = tt
  target_names (Scalar (p.Port i) ∷ vs) g g' k k' = k' i
  target_names (Scalar p.Screen ∷ vs) g g' k k' = tt
  target_names (Words t ∷ vs) g g' k k' = k t
  target_names (Reference i ∷ vs) g g' k k' = tt

  asked_with_names : {A : Type 0} (P : A → Type 0) (access : A → Access) (o : Option A) → ((x : A) → P x → AccessNames S (access x)) → IfSome P o → GivenNames (asked_with access o)
  asked_with_names P access None f h = tt
  asked_with_names P access (Some x) f h = f x h

  -- ---- methods of nodes

  node_call_names : (method : NodeMethod) (i : ℕ) (vs : List StoreValue) (store : Store) → S i → Each (ValueNames S) vs → StoreNames S store → GivenNames (node_call method i vs store)
  node_call_names m.GetField i vs store q h s = taking_names 1 vs _ (text_names vs _ h (λ t rest k. q))
  node_call_names m.SetField i vs store q h s =
      taking_names 2 vs _ (text_names vs _ h (λ t rest k. value_names rest _ k (λ v more w j. asked_with_names (TreeNames S) (r.Set i t) (leaving store v) (λ x y. (q, y)) (left_names S store v s w))))
  node_call_names m.HasField i vs store q h s = taking_names 1 vs _ (text_names vs _ h (λ t rest k. q))
  node_call_names m.AddField i vs store q h s = taking_names 3 vs _ (text_names vs _ h (λ t rest k. text_names rest _ k (λ u more j. truth_names more _ j (λ b none' l. q))))
  node_call_names m.ObserveField i vs store q h s = taking_names 2 vs _ (text_names vs _ h (λ t rest k. target_names rest _ _ (λ u. q) (λ j. q)))
  node_call_names m.UnobserveField i vs store q h s = taking_names 1 vs _ (text_names vs _ h (λ t rest k. q))
  node_call_names m.AppendChild i vs store q h s = taking_names 1 vs _ (node_names vs _ h (λ c rest w k. (q, w)))
  node_call_names m.InsertChild i vs store q h s = taking_names 2 vs _ (node_names vs _ h (λ c rest w k. number_names rest _ k (λ j more l. (q, w))))
  node_call_names m.RemoveChild i vs store q h s = taking_names 1 vs _ (node_names vs _ h (λ c rest w k. (q, w)))
  node_call_names m.CreateChild i vs store q h s = taking_names 1 vs _ (text_names vs _ h (λ t rest k. q))
  node_call_names m.GetChild i vs store q h s = taking_names 1 vs _ (number_names vs _ h (λ j rest k. q))
  node_call_names m.GetChildCount i vs store q h s = taking_names 0 vs _ q
  node_call_names m.GetParent i vs store q h s = taking_names 0 vs _ q
  node_call_names m.FindNode i vs store q h s = taking_names 1 vs _ (text_names vs _ h (λ t rest k. q))
  node_call_names m.SetFocus i vs store q h s = taking_names 1 vs _ (truth_names vs _ h (λ b rest k. q))
  node_call_names m.HasFocus i vs store q h s = taking_names 0 vs _ q
  node_call_names m.IsInFocusChain i vs store q h s = taking_names 0 vs _ q
  node_call_names m.Subtype i vs store q h s = taking_names 0 vs _ q
  node_call_names m.CallFunc i vs store q h s =
      either (nat_le 1 (length vs)) _ (Fails E6) (text_names vs _ h (λ t rest k. asked_with_names (Each (TreeNames S)) (r.CallFunc i t) (all_leaving store rest) (λ x y. (q, y)) (all_left_names S store rest s k))) tt
  node_call_names m.IsSameNode i vs store q h s = taking_names 1 vs _ (node_names vs _ h (λ c rest w k. (tt, s)))

  -- ---- ports, screens, and what is made

  port_call_names : (k : Text) (i : ℕ) (vs : List StoreValue) → GivenNames (port_call k i vs)
  port_call_names k i vs = either (bytes_eq k (codes "getmessage")) _ (Fails E4) (taking_names 0 vs (Wants (r.Poll i)) tt) tt

  screen_names : (k : Text) (vs : List StoreValue) (store : Store) → S 1 → Each (ValueNames S) vs → StoreNames S store → GivenNames (screen_call k vs store)
  screen_names k vs store g h s =
      either (bytes_eq k (codes "createscene")) _ _ (taking_names 1 vs _ (text_names vs _ h (λ t rest j. tt)))
      (either (bytes_eq k (codes "show")) _ _ (taking_names 0 vs _ (tt, s))
      (either (bytes_eq k (codes "close")) _ _ (taking_names 0 vs _ (tt, s))
      (either (bytes_eq k (codes "setmessageport")) _ _ (taking_names 1 vs _ (port_names vs _ h (λ i rest j. (tt, s))))
      (either (bytes_eq k (codes "getglobalnode")) _ (Fails E4) (taking_names 0 vs _ (g, s)) tt))))

  makes_names : (object : Object) (store : Store) → ObjectNames S object → StoreNames S store → GivenNames (makes object store)
  makes_names object store h s = (tt, each_append (ObjectNames S) store (object ∷ []) s (h, tt))

  screen_made_names : (b : Bool) (vs : List StoreValue) (store : Store) → StoreNames S store → GivenNames (screen_made b vs store)
  screen_made_names true vs store s = taking_names 0 vs _ (tt, s)
  screen_made_names false vs store s = (tt, s)

  object_made_names : (actor : ℕ) (k : Text) (vs : List StoreValue) (store : Store) → Each (ValueNames S) vs → StoreNames S store → GivenNames (object_made actor k vs store)
  object_made_names actor k vs store h s =
      either (bytes_eq k (codes "roarray")) _ _ (makes_names (ArrayObject []) store tt s)
      (either (bytes_eq k (codes "roassociativearray")) _ _ (taking_names 0 vs _ (makes_names (MapObject []) store tt s))
      (either (bytes_eq k (codes "romessageport")) _ _ (taking_names 0 vs (Wants r.MakePort) tt)
      (either (bytes_eq k (codes "rosgnode")) _ _ (taking_names 1 vs _ (text_names vs _ h (λ t rest j. tt)))
      (either (bytes_eq k (codes "rosgscreen")) _ (Gives (Scalar p.Invalid) store) (screen_made_names (actor == 1) vs store s) (tt, s)))))

  create_names : (actor : ℕ) (vs : List StoreValue) (store : Store) → Each (ValueNames S) vs → StoreNames S store → GivenNames (create_object actor vs store)
  create_names actor [] store h s = tt
  create_names actor (v ∷ vs) store h s = text_names (v ∷ vs) _ h (λ t rest k. object_made_names actor (folded t) rest store k s)

  wait_names : (actor : ℕ) (vs : List StoreValue) → Each (ValueNames S) vs → GivenNames (wait actor vs)
  wait_names actor vs h = taking_names 2 vs _ (either (actor == 0) (Fails E10) _ tt (number_names vs _ h (λ t rest k. port_names rest _ k (λ i more j. tt))))

  -- ---- methods of other values

  array_called_names : (x : Option ArrayMethod) (v : StoreValue) (vs : List StoreValue) (store : Store) → Each (ValueNames S) (v ∷ vs) → StoreNames S store → GivenNames (array_called x v vs store)
  array_called_names None v vs store h s = tt
  array_called_names (Some method) v vs store h s = answered_names (array_row method (v ∷ vs) store) (array_names S method (v ∷ vs) store h s)

  other_map_names : (x : Option MapMethod) (v : StoreValue) (held : Option StoreValue) (vs : List StoreValue) (store : Store) → Each (ValueNames S) (v ∷ vs) → StoreNames S store → GivenNames (other_map_called x v held vs store)
  other_map_names (Some method) v held vs store h s = answered_names (map_row method (v ∷ vs) store) (map_names S method (v ∷ vs) store h s)
  other_map_names None v None vs store h s = tt
  other_map_names None v (Some w) vs store h s = tt

  map_called_names : (k : Text) (i : ℕ) (held : Option StoreValue) (vs : List StoreValue) (store : Store) → Each (ValueNames S) vs → StoreNames S store → GivenNames (map_called k (Reference i) held vs store)
  map_called_names k i held vs store h s =
      either (bytes_eq k (codes "append")) (answered (on_map append_keys_row (Reference i ∷ vs) store)) _ (answered_names (on_map append_keys_row (Reference i ∷ vs) store) (map_append_names S i vs store s))
      (either (bytes_eq k (codes "keys")) (answered (on_map keys_row (Reference i ∷ vs) store)) (other_map_called (map_method_named k) (Reference i) held vs store) (answered_names (on_map keys_row (Reference i ∷ vs) store) (map_keys_names S i vs store s))
      (other_map_names (map_method_named k) (Reference i) held vs store (tt, h) s))

  data_names : (message : Message) (vs : List StoreValue) (store : Store) → MessageNames S message → StoreNames S store → GivenNames (data_of message vs store)
  data_names message [] store (q, h) s = (laid_names S (length store) (tree_of message.payload) h, with_tree_names S store (tree_of message.payload) s h)
  data_names message (v ∷ vs) store h s = tt

  told_names : (x : Option MessageMethod) (i : ℕ) (vs : List StoreValue) (store : Store) → StoreNames S store → GivenNames (told x (Reference i) vs store)
  told_names None i vs store s = tt
  told_names (Some method) i vs store s = answered_names (message_row method (Reference i ∷ vs) store) (message_names S method i vs store s)

  plain_called_names : (x : Option PlainMethod) (v : StoreValue) (vs : List StoreValue) (store : Store) → StoreNames S store → GivenNames (plain_called x v vs store)
  plain_called_names None v vs store s = tt
  plain_called_names (Some method) v vs store s = answered_names (answer_of (method_row method (operand v) (length vs)) store) (outcome_names S (method_row method (operand v) (length vs)) store s)

  object_method_names : (o : Option Object) (i : ℕ) (held : Option StoreValue) (k : Text) (vs : List StoreValue) (store : Store) → IfSome (ObjectNames S) o → Each (ValueNames S) vs → StoreNames S store → GivenNames (object_method_called o (Reference i) held k vs store)
  object_method_names None i held k vs store q h s = tt
  object_method_names (Some (ArrayObject items)) i held k vs store q h s = array_called_names (array_method_named k) (Reference i) vs store (tt, h) s
  object_method_names (Some (MapObject es)) i held k vs store q h s = map_called_names k i held vs store h s
  object_method_names (Some (MessageObject message)) i held k vs store q h s =
      either (bytes_eq k (codes "getdata")) (data_of message vs store) (told (message_method_named k) (Reference i) vs store) (data_names message vs store q s) (told_names (message_method_named k) i vs store s)

  method_names : (v : StoreValue) (held : Option StoreValue) (k : Text) (vs : List StoreValue) (store : Store) → Each (ValueNames S) vs → StoreNames S store → GivenNames (method_call v held k vs store)
  method_names (Scalar plain) held k vs store h s = plain_called_names (n.method_named k) (Scalar plain) vs store s
  method_names (Words t) held k vs store h s = plain_called_names (n.method_named k) (Words t) vs store s
  method_names (Reference i) held k vs store h s = object_method_names (slice_get store i) i held k vs store (object_names S store i s) h s

  -- ---- calls

  plain_call_names : (x : Option PlainFunction) (vs : List StoreValue) (store : Store) → StoreNames S store → GivenNames (plain_call x vs store)
  plain_call_names None vs store s = tt
  plain_call_names (Some g) vs store s = answered_names (answer_of (function_result g (map operand vs)) store) (outcome_names S (function_result g (map operand vs)) store s)

  type_names : (vs : List StoreValue) (store : Store) → StoreNames S store → AnswerNames S (type_row vs store)
  type_names [] store s = tt
  type_names (v ∷ []) store s = (tt, s)
  type_names (v ∷ w ∷ vs) store s = tt

  built_in_names : (actor : ℕ) (k : Text) (vs : List StoreValue) (store : Store) → Each (ValueNames S) vs → StoreNames S store → GivenNames (built_in_call actor k vs store)
  built_in_names actor k vs store h s =
      either (bytes_eq k (codes "createobject")) (create_object actor vs store) _ (create_names actor vs store h s)
      (either (bytes_eq k (codes "wait")) (wait actor vs) _ (wait_names actor vs h)
      (either (bytes_eq k (codes "type")) (answered (type_row vs store)) (plain_call (n.function_named k) vs store) (answered_names (type_row vs store) (type_names vs store s)) (plain_call_names (n.function_named k) vs store s)))

  pub called_names : (x : Setting) (i : ℕ) (m : Option StoreValue) (vs : List StoreValue) (store : Store) → IfSome (ValueNames S) m → Each (ValueNames S) vs → StoreNames S store → GivenNames (called x i m vs store)
  called_names x i m vs store q h s = of_source (x.program.function i)
    where
      of_name : (o : Option Text) → GivenNames (elim o [ Some name ↦ built_in_call x.actor name vs store | None ↦ Fails E5 ])
      of_name None = tt
      of_name (Some name) = built_in_names x.actor name vs store h s

      of_source : (o : Option Function) → GivenNames (elim o [ Some g ↦ Calls g m vs | None ↦ elim (x.program.built_in i) [ Some name ↦ built_in_call x.actor name vs store | None ↦ Fails E5 ] ])
      of_source (Some g) = (q, h)
      of_source None = of_name (x.program.built_in i)

  call_names : (x : Setting) (v : StoreValue) (vs : List StoreValue) (store : Store) → Each (ValueNames S) vs → StoreNames S store → GivenNames (call x v vs store)
  call_names x (Scalar p.Invalid) vs store h s = tt
  call_names x (Scalar (p.Truth b)) vs store h s = tt
  call_names x (Scalar (p.Small i)) vs store h s = tt
  call_names x (Scalar (p.Big i)) vs store h s = tt
  call_names x (Scalar (p.Function i)) vs store h s = called_names x i None vs store tt h s
  call_names x (Scalar (p.Node i)) vs store h s = tt
  call_names x (Scalar (p.Port i)) vs store h s = tt
  call_names x (Scalar p.Screen) vs store h s = tt
  call_names x (Words t) vs store h s = tt
  call_names x (Reference i) vs store h s = tt

  node_called_names : (o : Option NodeMethod) (i : ℕ) (vs : List StoreValue) (store : Store) → S i → Each (ValueNames S) vs → StoreNames S store → GivenNames (node_called o i vs store)
  node_called_names None i vs store q h s = tt
  node_called_names (Some method) i vs store q h s = node_call_names method i vs store q h s

  key_called_names : (x : Setting) (i : ℕ) (o : Option StoreValue) (k : Text) (vs : List StoreValue) (store : Store) → Each (ValueNames S) vs → StoreNames S store → GivenNames (key_called x (Reference i) o k vs store)
  key_called_names x i None k vs store h s = method_names (Reference i) None k vs store h s
  key_called_names x i (Some (Scalar p.Invalid)) k vs store h s = method_names (Reference i) (Some (Scalar p.Invalid)) k vs store h s
  key_called_names x i (Some (Scalar (p.Truth b))) k vs store h s = method_names (Reference i) (Some (Scalar (p.Truth b))) k vs store h s
  key_called_names x i (Some (Scalar (p.Small j))) k vs store h s = method_names (Reference i) (Some (Scalar (p.Small j))) k vs store h s
  key_called_names x i (Some (Scalar (p.Big j))) k vs store h s = method_names (Reference i) (Some (Scalar (p.Big j))) k vs store h s
  key_called_names x i (Some (Scalar (p.Function j))) k vs store h s = called_names x j (Some (Reference i)) vs store tt h s
  key_called_names x i (Some (Scalar (p.Node j))) k vs store h s = method_names (Reference i) (Some (Scalar (p.Node j))) k vs store h s
  key_called_names x i (Some (Scalar (p.Port j))) k vs store h s = method_names (Reference i) (Some (Scalar (p.Port j))) k vs store h s
  key_called_names x i (Some (Scalar p.Screen)) k vs store h s = method_names (Reference i) (Some (Scalar p.Screen)) k vs store h s
  key_called_names x i (Some (Words t)) k vs store h s = method_names (Reference i) (Some (Words t)) k vs store h s
  key_called_names x i (Some (Reference j)) k vs store h s = method_names (Reference i) (Some (Reference j)) k vs store h s

  object_called_names : (x : Setting) (i : ℕ) (o : Option Object) (k : Text) (vs : List StoreValue) (store : Store) → Each (ValueNames S) vs → StoreNames S store → GivenNames (object_called x (Reference i) o k vs store)
  object_called_names x i None k vs store h s = method_names (Reference i) None k vs store h s
  object_called_names x i (Some (ArrayObject items)) k vs store h s = method_names (Reference i) None k vs store h s
  object_called_names x i (Some (MapObject es)) k vs store h s = key_called_names x i (value_at_key es k) k vs store h s
  object_called_names x i (Some (MessageObject message)) k vs store h s = method_names (Reference i) None k vs store h s

  member_call_names : (x : Setting) (v : StoreValue) (k : Text) (vs : List StoreValue) (store : Store) → S 1 → ValueNames S v → Each (ValueNames S) vs → StoreNames S store → GivenNames (member_call x v k vs store)
  member_call_names x (Scalar p.Invalid) k vs store g q h s = tt
  member_call_names x (Scalar (p.Truth b)) k vs store g q h s = method_names (Scalar (p.Truth b)) None k vs store h s
  member_call_names x (Scalar (p.Small i)) k vs store g q h s = method_names (Scalar (p.Small i)) None k vs store h s
  member_call_names x (Scalar (p.Big i)) k vs store g q h s = method_names (Scalar (p.Big i)) None k vs store h s
  member_call_names x (Scalar (p.Function i)) k vs store g q h s = method_names (Scalar (p.Function i)) None k vs store h s
  member_call_names x (Scalar (p.Node i)) k vs store g q h s = node_called_names (node_method_named k) i vs store q h s
  member_call_names x (Scalar (p.Port i)) k vs store g q h s = port_call_names k i vs
  member_call_names x (Scalar p.Screen) k vs store g q h s = screen_names k vs store g h s
  member_call_names x (Words t) k vs store g q h s = method_names (Words t) None k vs store h s
  member_call_names x (Reference i) k vs store g q h s = object_called_names x i (slice_get store i) k vs store h s

  -- ---- members and indexes

  member_read_names : (v : StoreValue) (k : Text) (store : Store) → ValueNames S v → StoreNames S store → GivenNames (member_read v k store)
  member_read_names (Scalar p.Invalid) k store q s = tt
  member_read_names (Scalar (p.Truth b)) k store q s = tt
  member_read_names (Scalar (p.Small i)) k store q s = tt
  member_read_names (Scalar (p.Big i)) k store q s = tt
  member_read_names (Scalar (p.Function i)) k store q s = tt
  member_read_names (Scalar (p.Node i)) k store q s = q
  member_read_names (Scalar (p.Port i)) k store q s = tt
  member_read_names (Scalar p.Screen) k store q s = tt
  member_read_names (Words t) k store q s = tt
  member_read_names (Reference i) k store q s = answered_names (read_member_row (Reference i ∷ Words k ∷ []) store) (read_member_names S (Reference i) (Words k) store s)

  node_index_names : (i : ℕ) (v : StoreValue) → S i → GivenNames (node_index_read i v)
  node_index_names i (Scalar plain) q = tt
  node_index_names i (Words t) q = q
  node_index_names i (Reference j) q = tt

  index_read_names : (v w : StoreValue) (store : Store) → ValueNames S v → StoreNames S store → GivenNames (index_read v w store)
  index_read_names (Scalar p.Invalid) w store q s = tt
  index_read_names (Scalar (p.Truth b)) w store q s = tt
  index_read_names (Scalar (p.Small i)) w store q s = tt
  index_read_names (Scalar (p.Big i)) w store q s = tt
  index_read_names (Scalar (p.Function i)) w store q s = tt
  index_read_names (Scalar (p.Node i)) w store q s = node_index_names i w q
  index_read_names (Scalar (p.Port i)) w store q s = tt
  index_read_names (Scalar p.Screen) w store q s = tt
  index_read_names (Words t) w store q s = tt
  index_read_names (Reference i) w store q s = answered_names (read_index_row (Reference i ∷ w ∷ []) store) (read_index_names S (Reference i) w store s)

  field_set_names : (i : ℕ) (k : Text) (o : Option Tree) → S i → IfSome (TreeNames S) o → GivenNames (field_set i k o)
  field_set_names i k None q h = tt
  field_set_names i k (Some t) q h = (q, h)

  member_written_names : (v : StoreValue) (k : Text) (w : StoreValue) (store : Store) → ValueNames S v → ValueNames S w → StoreNames S store → GivenNames (member_written v k w store)
  member_written_names (Scalar p.Invalid) k w store q h s = tt
  member_written_names (Scalar (p.Truth b)) k w store q h s = tt
  member_written_names (Scalar (p.Small i)) k w store q h s = tt
  member_written_names (Scalar (p.Big i)) k w store q h s = tt
  member_written_names (Scalar (p.Function i)) k w store q h s = tt
  member_written_names (Scalar (p.Node i)) k w store q h s = field_set_names i k (leaving store w) q (left_names S store w s h)
  member_written_names (Scalar (p.Port i)) k w store q h s = tt
  member_written_names (Scalar p.Screen) k w store q h s = tt
  member_written_names (Words t) k w store q h s = tt
  member_written_names (Reference i) k w store q h s = answered_names (write_member_row (Reference i ∷ Words k ∷ w ∷ []) store) (write_member_names S (Reference i) (Words k) w store h s)

  node_index_written_names : (i : ℕ) (v w : StoreValue) (store : Store) → S i → ValueNames S w → StoreNames S store → GivenNames (node_index_written i v w store)
  node_index_written_names i (Scalar plain) w store q h s = tt
  node_index_written_names i (Words k) w store q h s = field_set_names i k (leaving store w) q (left_names S store w s h)
  node_index_written_names i (Reference j) w store q h s = tt

  index_written_names : (v i w : StoreValue) (store : Store) → ValueNames S v → ValueNames S w → StoreNames S store → GivenNames (index_written v i w store)
  index_written_names (Scalar p.Invalid) i w store q h s = tt
  index_written_names (Scalar (p.Truth b)) i w store q h s = tt
  index_written_names (Scalar (p.Small j)) i w store q h s = tt
  index_written_names (Scalar (p.Big j)) i w store q h s = tt
  index_written_names (Scalar (p.Function j)) i w store q h s = tt
  index_written_names (Scalar (p.Node j)) i w store q h s = node_index_written_names j i w store q h s
  index_written_names (Scalar (p.Port j)) i w store q h s = tt
  index_written_names (Scalar p.Screen) i w store q h s = tt
  index_written_names (Words t) i w store q h s = tt
  index_written_names (Reference j) i w store q h s = answered_names (write_index_row (Reference j ∷ i ∷ w ∷ []) store) (write_index_names S (Reference j) i w store h s)

  -- ---- names

  function_named_names : (x : Setting) (k : Text) → IfSome (ValueNames S) (function_named x k)
  function_named_names x k = in_scope (scoped x.program x.scope k)
    where
      built_in : (o : Option ℕ) → IfSome (ValueNames S) (elim o [ Some i ↦ Some (Scalar (p.Function i)) | None ↦ None ])
      built_in None = tt
      built_in (Some i) = tt

      in_scope : (o : Option ℕ) → IfSome (ValueNames S) (elim o [ Some i ↦ Some (Scalar (p.Function i)) | None ↦ elim (x.program.built_in_number k) [ Some i ↦ Some (Scalar (p.Function i)) | None ↦ None ] ])
      in_scope None = built_in (x.program.built_in_number k)
      in_scope (Some i) = tt

  name_value_names : (x : Setting) (k : Text) → SettingNames x → IfSome (ValueNames S) (name_value x k)
  name_value_names x k (q, h) = of_local (local k x.locals) (at_key_names S x.locals k h)
    where
      of_local : (o : Option StoreValue) → IfSome (ValueNames S) o → IfSome (ValueNames S) (elim o [ Some v ↦ Some v | None ↦ function_named x k ])
      of_local None j = function_named_names x k
      of_local (Some v) j = j

  pub found_names : (o : Option StoreValue) (store : Store) → IfSome (ValueNames S) o → StoreNames S store → GivenNames (found o store)
  found_names None store h s = tt
  found_names (Some v) store h s = (h, s)

  pub target_read_names : (x : Setting) (aim : Aim) (vs : List StoreValue) (store : Store) → SettingNames x → Each (ValueNames S) vs → StoreNames S store → GivenNames (target_read x aim vs store)
  target_read_names x (ToName k) vs store q h s = found_names (name_value x k) store (name_value_names x k q) s
  target_read_names x (ToMember k) [] store q h s = tt
  target_read_names x (ToMember k) (v ∷ []) store q (w, h) s = member_read_names v (readable k) store w s
  target_read_names x (ToMember k) (v ∷ w ∷ vs) store q h s = tt
  target_read_names x ToIndex [] store q h s = tt
  target_read_names x ToIndex (v ∷ []) store q h s = tt
  target_read_names x ToIndex (i ∷ v ∷ []) store q (y, (z, h)) s = index_read_names v i store z s
  target_read_names x ToIndex (i ∷ v ∷ w ∷ vs) store q h s = tt

  pub target_written_names : (aim : Aim) (vs : List StoreValue) (w : StoreValue) (store : Store) → Each (ValueNames S) vs → ValueNames S w → StoreNames S store → GivenNames (target_written aim vs w store)
  target_written_names (ToName k) vs w store h q s = tt
  target_written_names (ToMember k) [] w store h q s = tt
  target_written_names (ToMember k) (v ∷ []) w store (y, h) q s = member_written_names v (readable k) w store y q s
  target_written_names (ToMember k) (v ∷ u ∷ vs) w store h q s = tt
  target_written_names ToIndex [] w store h q s = tt
  target_written_names ToIndex (v ∷ []) w store h q s = tt
  target_written_names ToIndex (i ∷ v ∷ []) w store (y, (z, h)) q s = index_written_names v i w store z q s
  target_written_names ToIndex (i ∷ v ∷ u ∷ vs) w store h q s = tt

  -- ---- heads

  pub binary_names : (op : Operator) (vs : List StoreValue) (store : Store) → StoreNames S store → GivenNames (binary op vs store)
  binary_names op [] store s = tt
  binary_names op (b ∷ []) store s = tt
  binary_names op (b ∷ v ∷ []) store s = answered_names (answer_of (operated op (operand v) (operand b)) store) (outcome_names S (operated op (operand v) (operand b)) store s)
  binary_names op (b ∷ v ∷ w ∷ vs) store s = tt

  unary_names : (op : UnaryOperator) (vs : List StoreValue) (store : Store) → StoreNames S store → GivenNames (unary op vs store)
  unary_names op [] store s = tt
  unary_names op (v ∷ []) store s = answered_names (answer_of (operated_alone op (operand v)) store) (outcome_names S (operated_alone op (operand v)) store s)
  unary_names op (v ∷ w ∷ vs) store s = tt

  entries_names : (ks : List Text) (vs : List StoreValue) (so_far : List (Entry StoreValue)) → Each (ValueNames S) vs → EntriesName S so_far → EntriesName S (entries ks vs so_far)
  entries_names [] vs so_far h k = k
  entries_names (t ∷ ts) [] so_far h k = k
  entries_names (t ∷ ts) (v ∷ vs) so_far (q, h) k = entries_names ts vs (with_key so_far t v) h (with_key_names S so_far t v q k)

  called_with_names : (x : Setting) (vs : List StoreValue) (store : Store) → Each (ValueNames S) vs → StoreNames S store → GivenNames (called_with x vs store)
  called_with_names x [] store h s = tt
  called_with_names x (v ∷ vs) store (q, h) s = call_names x v vs store h s

  member_called_names : (x : Setting) (k : Text) (vs : List StoreValue) (store : Store) → S 1 → Each (ValueNames S) vs → StoreNames S store → GivenNames (member_called_with x k vs store)
  member_called_names x k [] store g h s = tt
  member_called_names x k (v ∷ vs) store g (q, h) s = member_call_names x v k vs store g q h s

  member_of_names : (k : Text) (vs : List StoreValue) (store : Store) → Each (ValueNames S) vs → StoreNames S store → GivenNames (member_of k vs store)
  member_of_names k [] store h s = tt
  member_of_names k (v ∷ []) store (q, h) s = member_read_names v k store q s
  member_of_names k (v ∷ w ∷ vs) store h s = tt

  index_of_names : (vs : List StoreValue) (store : Store) → Each (ValueNames S) vs → StoreNames S store → GivenNames (index_of vs store)
  index_of_names [] store h s = tt
  index_of_names (i ∷ []) store h s = tt
  index_of_names (i ∷ v ∷ []) store (y, (z, h)) s = index_read_names v i store z s
  index_of_names (i ∷ v ∷ w ∷ vs) store h s = tt

  named_names : (x : Setting) (k : Text) (store : Store) → SettingNames x → StoreNames S store → GivenNames (named x k store)
  named_names x k store (q, h) s = either (is_m k) (Gives x.m store) (found (name_value x k) store) (q, s) (found_names (name_value x k) store (name_value_names x k (q, h)) s)

  number_of_names : (t : Text) → ValueNames S (number_of t)
  number_of_names t = spelled (w.number_of t)
    where
      spelled : (v : NumberValue) → ValueNames S (number_spelled v)
      spelled (Integer i) = tt
      spelled (LongInteger i) = tt

  pub contract_names : (x : Setting) (head : Head) (at : Place) (vs : List StoreValue) (store : Store) → S 1 → SettingNames x → Each (ValueNames S) vs → StoreNames S store → GivenNames (contract x head at vs store)
  contract_names x (f.Number t) at vs store g q h s = (number_of_names t, s)
  contract_names x (f.Quoted t) at vs store g q h s = (tt, s)
  contract_names x (f.Truth b) at vs store g q h s = (tt, s)
  contract_names x f.Invalid at vs store g q h s = (tt, s)
  contract_names x (f.Name k) at vs store g q h s = named_names x k store q s
  contract_names x f.Array at vs store g q h s = makes_names (ArrayObject (reverse vs)) store (each_reverse (ValueNames S) vs h) s
  contract_names x (f.Pairs ks) at vs store g q h s = makes_names (MapObject (entries (map key_of ks) (reverse vs) [])) store (entries_names (map key_of ks) (reverse vs) [] (each_reverse (ValueNames S) vs h) tt) s
  contract_names x f.Negate at vs store g q h s = unary_names u.Negate vs store s
  contract_names x f.Not at vs store g q h s = unary_names u.Not vs store s
  contract_names x f.And at vs store g q h s = binary_names o.And vs store s
  contract_names x f.Or at vs store g q h s = binary_names o.Or vs store s
  contract_names x (f.Compare sign) at vs store g q h s = binary_names (comparison sign) vs store s
  contract_names x (f.Shift sign) at vs store g q h s = binary_names (shift sign) vs store s
  contract_names x (f.Add sign) at vs store g q h s = binary_names (sum sign) vs store s
  contract_names x (f.Multiply sign) at vs store g q h s = binary_names (product sign) vs store s
  contract_names x (f.Member k) at vs store g q h s = member_of_names (readable k) vs store h s
  contract_names x f.Index at vs store g q h s = index_of_names vs store h s
  contract_names x (f.CallMember k) at vs store g q h s = member_called_names x (readable k) (reverse vs) store g (each_reverse (ValueNames S) vs h) s
  contract_names x f.Call at vs store g q h s = called_with_names x (reverse vs) store (each_reverse (ValueNames S) vs h) s
  contract_names x (f.Anonymous kind params value body) at vs store g q h s = (tt, s)
