-- Operations, methods and requests are no calls of functions of the source.
use Rattle.std.proofs.Common.{ℕ, ℤ, List, [], ◌∷◌, length, Option, Some, None, Bool, true, false, cond}
use Rattle.std.specs.Prelude.{slice_get, nat_le, ◌==◌, codes}
use Rattle.std.specs.Str.{bytes_eq}
use Rattle.chan_values.specs.declared.error_code.ErrorCode.TheVariants.{E4, E6, E10}
use Rattle.chan_values.specs.declared.message.Message.{Message}
use Rattle.chan_values.specs.Folded.{folded}
use Rattle.heap_meaning.specs.declared.plain.Plain.TheVariants as p
use Rattle.heap_meaning.specs.Values.{StoreValue, Scalar, Words, Reference}
use Rattle.heap_meaning.specs.Store.{Object, ArrayObject, MapObject, MessageObject, Store}
use Rattle.plain_operations.specs.Names as n
use Rattle.plain_operations.specs.declared.function.PlainFunction.{PlainFunction}
use Rattle.plain_operations.specs.declared.method.PlainMethod.{PlainMethod}
use Rattle.object_operations.specs.Answer as a
use Rattle.object_operations.specs.Answer.{Answer}
use Rattle.object_operations.specs.declared.array_method.ArrayMethod.{ArrayMethod}
use Rattle.object_operations.specs.declared.map_method.MapMethod.{MapMethod}
use Rattle.object_operations.specs.declared.message_method.MessageMethod.{MessageMethod}
use Rattle.object_operations.specs.Members.{read_member_row, read_index_row}
use Rattle.brs_grammar.specs.Form.{Text}
use Rattle.brs_meaning.specs.declared.node_method.NodeMethod.{NodeMethod}
use Rattle.brs_meaning.specs.declared.node_method.NodeMethod.TheVariants as m
use Rattle.brs_meaning.specs.Given.{Given, Calls, Fails, answered}
use Rattle.brs_meaning.specs.Request.{Access}
use Rattle.brs_meaning.specs.Taking.{taking, text_then, node_then, port_then, number_then, truth_then, value_then, target_then}
use Rattle.brs_meaning.specs.NodeCalls.{asked_with, node_call}
use Rattle.brs_meaning.specs.WorldCalls.{port_call, screen_call, screen_made, object_made, create_object, wait}
use Rattle.brs_meaning.specs.MethodNames.{array_method_named, map_method_named, message_method_named}
use Rattle.brs_meaning.specs.Methods.{array_called, other_map_called, map_called, data_of, told, message_called, plain_called, object_method_called, method_call}
use Rattle.brs_meaning.specs.Calls.{plain_call, built_in_call, node_called}
use Rattle.brs_meaning.specs.Members.{member_read, index_read, node_index_read}
use Rattle.brs_meaning.specs.Names.{found}
use Rattle.brs_meaning.specs.Heads.{unary, binary, member_of, index_of}
use Rattle.plain_operations.specs.declared.operator.Operator.{Operator}
use Rattle.plain_operations.specs.declared.operator.UnaryOperator.{UnaryOperator}

abbrev pub NoCall : Given → Type 0
NoCall (Calls f m vs) = ⊥
NoCall given = Unit {0}

either : (b : Bool) (x y : Given) → NoCall x → NoCall y → NoCall (cond b x y)
either true x y h k = h
either false x y h k = k

pub answered_no : (answer : Answer) → NoCall (answered answer)
answered_no (a.Gives v store) = tt
answered_no (a.Raises e) = tt

-- ---- arguments

taking_no : (k : ℕ) (vs : List StoreValue) (x : Given) → NoCall x → NoCall (taking k vs x)
taking_no k vs x h = either (length vs == k) x (Fails E6) h tt

text_no : (vs : List StoreValue) (g : Text → List StoreValue → Given) → ((t : Text) (rest : List StoreValue) → NoCall (g t rest)) → NoCall (text_then vs g)
text_no (Words t ∷ rest) g h = h t rest
text_no _ g h = tt

node_no : (vs : List StoreValue) (g : ℕ → List StoreValue → Given) → ((i : ℕ) (rest : List StoreValue) → NoCall (g i rest)) → NoCall (node_then vs g)
node_no (Scalar (p.Node i) ∷ rest) g h = h i rest
node_no _ g h = tt

port_no : (vs : List StoreValue) (g : ℕ → List StoreValue → Given) → ((i : ℕ) (rest : List StoreValue) → NoCall (g i rest)) → NoCall (port_then vs g)
port_no (Scalar (p.Port i) ∷ rest) g h = h i rest
port_no _ g h = tt

number_no : (vs : List StoreValue) (g : ℤ → List StoreValue → Given) → ((i : ℤ) (rest : List StoreValue) → NoCall (g i rest)) → NoCall (number_then vs g)
number_no (Scalar (p.Small i) ∷ rest) g h = h i rest
number_no (Scalar (p.Big i) ∷ rest) g h = h i rest
number_no _ g h = tt

truth_no : (vs : List StoreValue) (g : Bool → List StoreValue → Given) → ((b : Bool) (rest : List StoreValue) → NoCall (g b rest)) → NoCall (truth_then vs g)
truth_no (Scalar (p.Truth b) ∷ rest) g h = h b rest
truth_no _ g h = tt

value_no : (vs : List StoreValue) (g : StoreValue → List StoreValue → Given) → ((v : StoreValue) (rest : List StoreValue) → NoCall (g v rest)) → NoCall (value_then vs g)
value_no (v ∷ rest) g h = h v rest
value_no [] g h = tt

target_no : (vs : List StoreValue) (g : Text → Given) (g' : ℕ → Given) → ((t : Text) → NoCall (g t)) → ((i : ℕ) → NoCall (g' i)) → NoCall (target_then vs g g')
target_no (Words t ∷ rest) g g' h h' = h t
target_no (Scalar (p.Port i) ∷ rest) g g' h h' = h' i
target_no _ g g' h h' = tt

asked_no : {A : Type 0} (access : A → Access) (o : Option A) → NoCall (asked_with access o)
asked_no access (Some x) = tt
asked_no access None = tt

-- ---- what is asked of the world

node_call_no : (method : NodeMethod) (i : ℕ) (vs : List StoreValue) (store : Store) → NoCall (node_call method i vs store)
node_call_no m.GetField i vs store = taking_no 1 vs _ (text_no vs _ (λ f rest. tt))
node_call_no m.SetField i vs store = taking_no 2 vs _ (text_no vs _ (λ f rest. value_no rest _ (λ v more. asked_no _ _)))
node_call_no m.HasField i vs store = taking_no 1 vs _ (text_no vs _ (λ f rest. tt))
node_call_no m.AddField i vs store = taking_no 3 vs _ (text_no vs _ (λ f rest. text_no rest _ (λ kind more. truth_no more _ (λ always last. tt))))
node_call_no m.ObserveField i vs store = taking_no 2 vs _ (text_no vs _ (λ f rest. target_no rest _ _ (λ t. tt) (λ port. tt)))
node_call_no m.UnobserveField i vs store = taking_no 1 vs _ (text_no vs _ (λ f rest. tt))
node_call_no m.AppendChild i vs store = taking_no 1 vs _ (node_no vs _ (λ child rest. tt))
node_call_no m.InsertChild i vs store = taking_no 2 vs _ (node_no vs _ (λ child rest. number_no rest _ (λ at more. tt)))
node_call_no m.RemoveChild i vs store = taking_no 1 vs _ (node_no vs _ (λ child rest. tt))
node_call_no m.CreateChild i vs store = taking_no 1 vs _ (text_no vs _ (λ kind rest. tt))
node_call_no m.GetChild i vs store = taking_no 1 vs _ (number_no vs _ (λ at rest. tt))
node_call_no m.GetChildCount i vs store = taking_no 0 vs _ tt
node_call_no m.GetParent i vs store = taking_no 0 vs _ tt
node_call_no m.FindNode i vs store = taking_no 1 vs _ (text_no vs _ (λ id rest. tt))
node_call_no m.SetFocus i vs store = taking_no 1 vs _ (truth_no vs _ (λ on rest. tt))
node_call_no m.HasFocus i vs store = taking_no 0 vs _ tt
node_call_no m.IsInFocusChain i vs store = taking_no 0 vs _ tt
node_call_no m.Subtype i vs store = taking_no 0 vs _ tt
node_call_no m.CallFunc i vs store = either (nat_le 1 (length vs)) _ (Fails E6) (text_no vs _ (λ name rest. asked_no _ _)) tt
node_call_no m.IsSameNode i vs store = taking_no 1 vs _ (node_no vs _ (λ other rest. tt))

pub node_called_no : (method : Option NodeMethod) (i : ℕ) (vs : List StoreValue) (store : Store) → NoCall (node_called method i vs store)
node_called_no (Some method) i vs store = node_call_no method i vs store
node_called_no None i vs store = tt

pub port_call_no : (k : Text) (i : ℕ) (vs : List StoreValue) → NoCall (port_call k i vs)
port_call_no k i vs = either (bytes_eq k (codes "getmessage")) _ (Fails E4) (taking_no 0 vs _ tt) tt

pub screen_call_no : (k : Text) (vs : List StoreValue) (store : Store) → NoCall (screen_call k vs store)
screen_call_no k vs store =
    either (bytes_eq k (codes "createscene")) _ _ (taking_no 1 vs _ (text_no vs _ (λ kind rest. tt)))
    (either (bytes_eq k (codes "show")) _ _ (taking_no 0 vs _ tt)
    (either (bytes_eq k (codes "close")) _ _ (taking_no 0 vs _ tt)
    (either (bytes_eq k (codes "setmessageport")) _ _ (taking_no 1 vs _ (port_no vs _ (λ i rest. tt)))
    (either (bytes_eq k (codes "getglobalnode")) _ _ (taking_no 0 vs _ tt) tt))))

screen_made_no : (b : Bool) (vs : List StoreValue) (store : Store) → NoCall (screen_made b vs store)
screen_made_no true vs store = taking_no 0 vs _ tt
screen_made_no false vs store = tt

object_made_no : (actor : ℕ) (k : Text) (vs : List StoreValue) (store : Store) → NoCall (object_made actor k vs store)
object_made_no actor k vs store =
    either (bytes_eq k (codes "roarray")) _ _ tt
    (either (bytes_eq k (codes "roassociativearray")) _ _ (taking_no 0 vs _ tt)
    (either (bytes_eq k (codes "romessageport")) _ _ (taking_no 0 vs _ tt)
    (either (bytes_eq k (codes "rosgnode")) _ _ (taking_no 1 vs _ (text_no vs _ (λ kind rest. tt)))
    (either (bytes_eq k (codes "rosgscreen")) _ _ (screen_made_no (actor == 1) vs store) tt))))

create_object_no : (actor : ℕ) (vs : List StoreValue) (store : Store) → NoCall (create_object actor vs store)
create_object_no actor [] store = tt
create_object_no actor (v ∷ vs) store = text_no (v ∷ vs) _ (λ name rest. object_made_no actor (folded name) rest store)

wait_no : (actor : ℕ) (vs : List StoreValue) → NoCall (wait actor vs)
wait_no actor vs = taking_no 2 vs _ (either (actor == 0) (Fails E10) _ tt (number_no vs _ (λ t rest. port_no rest _ (λ i more. tt))))

plain_call_no : (f : Option PlainFunction) (vs : List StoreValue) (store : Store) → NoCall (plain_call f vs store)
plain_call_no (Some f) vs store = answered_no _
plain_call_no None vs store = tt

pub built_in_no : (actor : ℕ) (name : Text) (vs : List StoreValue) (store : Store) → NoCall (built_in_call actor name vs store)
built_in_no actor name vs store =
    either (bytes_eq name (codes "createobject")) _ _ (create_object_no actor vs store)
    (either (bytes_eq name (codes "wait")) _ _ (wait_no actor vs)
    (either (bytes_eq name (codes "type")) _ _ (answered_no _) (plain_call_no (n.function_named name) vs store)))

-- ---- methods

array_no : (method : Option ArrayMethod) (x : StoreValue) (vs : List StoreValue) (store : Store) → NoCall (array_called method x vs store)
array_no (Some method) x vs store = answered_no _
array_no None x vs store = tt

other_map_no : (method : Option MapMethod) (x : StoreValue) (held : Option StoreValue) (vs : List StoreValue) (store : Store) → NoCall (other_map_called method x held vs store)
other_map_no (Some method) x held vs store = answered_no _
other_map_no None x (Some v) vs store = tt
other_map_no None x None vs store = tt

map_no : (k : Text) (x : StoreValue) (held : Option StoreValue) (vs : List StoreValue) (store : Store) → NoCall (map_called k x held vs store)
map_no k x held vs store =
    either (bytes_eq k (codes "append")) _ _ (answered_no _) (either (bytes_eq k (codes "keys")) _ _ (answered_no _) (other_map_no (map_method_named k) x held vs store))

data_no : (message : Message) (vs : List StoreValue) (store : Store) → NoCall (data_of message vs store)
data_no message [] store = tt
data_no message (v ∷ vs) store = tt

told_no : (method : Option MessageMethod) (x : StoreValue) (vs : List StoreValue) (store : Store) → NoCall (told method x vs store)
told_no (Some method) x vs store = answered_no _
told_no None x vs store = tt

message_no : (message : Message) (x : StoreValue) (k : Text) (vs : List StoreValue) (store : Store) → NoCall (message_called message x k vs store)
message_no message x k vs store = either (bytes_eq k (codes "getdata")) _ _ (data_no message vs store) (told_no (message_method_named k) x vs store)

plain_no : (method : Option PlainMethod) (x : StoreValue) (vs : List StoreValue) (store : Store) → NoCall (plain_called method x vs store)
plain_no (Some method) x vs store = answered_no _
plain_no None x vs store = tt

object_method_no : (o : Option Object) (x : StoreValue) (held : Option StoreValue) (k : Text) (vs : List StoreValue) (store : Store) → NoCall (object_method_called o x held k vs store)
object_method_no (Some (ArrayObject items)) x held k vs store = array_no (array_method_named k) x vs store
object_method_no (Some (MapObject entries)) x held k vs store = map_no k x held vs store
object_method_no (Some (MessageObject message)) x held k vs store = message_no message x k vs store
object_method_no None x held k vs store = tt

pub method_no : (x : StoreValue) (held : Option StoreValue) (k : Text) (vs : List StoreValue) (store : Store) → NoCall (method_call x held k vs store)
method_no (Reference i) held k vs store = object_method_no (slice_get store i) (Reference i) held k vs store
method_no (Scalar plain) held k vs store = plain_no (n.method_named k) (Scalar plain) vs store
method_no (Words t) held k vs store = plain_no (n.method_named k) (Words t) vs store

-- ---- reads and operators

pub found_no : (o : Option StoreValue) (store : Store) → NoCall (found o store)
found_no (Some v) store = tt
found_no None store = tt

pub member_read_no : (x : StoreValue) (k : Text) (store : Store) → NoCall (member_read x k store)
member_read_no (Scalar (p.Node i)) k store = tt
member_read_no x k store = answered_no (read_member_row (x ∷ Words k ∷ []) store)

node_index_no : (i : ℕ) (v : StoreValue) → NoCall (node_index_read i v)
node_index_no i (Words k) = tt
node_index_no i _ = tt

pub index_read_no : (x i : StoreValue) (store : Store) → NoCall (index_read x i store)
index_read_no (Scalar (p.Node n)) i store = node_index_no n i
index_read_no x i store = answered_no (read_index_row (x ∷ i ∷ []) store)

pub binary_no : (op : Operator) (vs : List StoreValue) (store : Store) → NoCall (binary op vs store)
binary_no op (b ∷ a ∷ []) store = answered_no _
binary_no op _ store = tt

pub unary_no : (op : UnaryOperator) (vs : List StoreValue) (store : Store) → NoCall (unary op vs store)
unary_no op (a ∷ []) store = answered_no _
unary_no op _ store = tt

pub member_of_no : (k : Text) (vs : List StoreValue) (store : Store) → NoCall (member_of k vs store)
member_of_no k (x ∷ []) store = member_read_no x k store
member_of_no k _ store = tt

pub index_of_no : (vs : List StoreValue) (store : Store) → NoCall (index_of vs store)
index_of_no (i ∷ x ∷ []) store = index_read_no x i store
index_of_no _ store = tt
