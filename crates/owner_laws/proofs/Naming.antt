-- What names nodes of some kind names nodes of a wider kind.
use Rattle.std.proofs.Common.{ℕ, zero, suc, ◌-◌, Bool, true, false, List, [], ◌∷◌, ◌++◌, Option, Some, None}
use Rattle.std.specs.Prelude.{slice_get, slice_set, slice_index_or, filter, map, cond, find, flat_map}
use Rattle.std.specs.List.{AllByRecursion}
use Rattle.chan_values.specs.declared.message.Message.{Message}
use Rattle.chan_values.specs.Tree as t
use Rattle.chan_values.specs.Tree.{Tree, Leaf, Branch, Trees, none, more}
use Rattle.chan_values.specs.View.{tree_of}
use Rattle.heap_meaning.specs.declared.plain.Plain.{Plain}
use Rattle.heap_meaning.specs.declared.plain.Plain.TheVariants as p
use Rattle.heap_meaning.specs.Values.{StoreValue, Scalar, Words, Reference, Entry}
use Rattle.heap_meaning.specs.Store.{Object, ArrayObject, MapObject, MessageObject, Store}
use Rattle.brs_meaning.specs.Locals.{Home}
use Rattle.brs_meaning.specs.Request as r
use Rattle.brs_meaning.specs.Request.{Access, Request, Asks, MakePort, Wait, Poll}
use Rattle.brs_meaning.specs.Running as k
use Rattle.brs_meaning.specs.Running.{Call, Job, Does, Combines, Tests, Again, Compares, Increases, NextItem, NextKey, Binds, Task, Around, around, Under, under, Spot, AtHead, AtDecided, AtJob, AtEnd, AtFailure, Hole, Operand, Ends, Held, Works, Waits}
use Rattle.brs_meaning.specs.Reduction.{Outcome, Went, Asked, Printed, Raised, Returned, TooBig}
use Rattle.brs_meaning.specs.Answering as w
use Rattle.brs_meaning.specs.Answering.{Reply, Told, Failed, Put, Done, Refused}
use Rattle.brs_meaning.specs.Nodes.{Each, IfSome, LeafNames, TreeNames, TreesName, MessageNames, PlainNames, ValueNames, EntriesName, ObjectNames, StoreNames, HomesName, CallNames, JobNames, TasksName, AroundNames, UnderNames, SpotNames, HoleNames, HeldNames, CallsName, StateNames, AccessNames, RequestNames, OutcomeNames, ReplyNames, ArgumentsName, PutNames}

-- ---- lists

pub each_to : {A : Type 0} (P Q : A → Type 0) → ((x : A) → P x → Q x) → (xs : List A) → Each P xs → Each Q xs
each_to P Q f [] h = tt
each_to P Q f (x ∷ xs) h = (f x h.0, each_to P Q f xs h.1)

pub some_to : {A : Type 0} (P Q : A → Type 0) → ((x : A) → P x → Q x) → (o : Option A) → IfSome P o → IfSome Q o
some_to P Q f None h = tt
some_to P Q f (Some x) h = f x h

module _ {A : Type 0} (P : A → Type 0) where
  pub each_append : (xs ys : List A) → Each P xs → Each P ys → Each P (xs ++ ys)
  each_append [] ys h k = k
  each_append (x ∷ xs) ys h k = (h.0, each_append xs ys h.1 k)

  pub each_get : (xs : List A) (i : ℕ) → Each P xs → IfSome P (slice_get xs i)
  each_get [] i h = tt
  each_get (x ∷ xs) zero h = h.0
  each_get (x ∷ xs) (suc i) h = each_get xs i h.1

  pub each_set : (xs : List A) (i : ℕ) (y : A) → P y → Each P xs → Each P (slice_set xs i y)
  each_set [] i y q h = tt
  each_set (x ∷ xs) zero y q h = (q, h.1)
  each_set (x ∷ xs) (suc i) y q h = (h.0, each_set xs i y q h.1)

  pub each_index : (xs : List A) (i : ℕ) (d : A) → P d → Each P xs → P (slice_index_or xs i d)
  each_index [] i d q h = q
  each_index (x ∷ xs) zero d q h = h.0
  each_index (x ∷ xs) (suc i) d q h = each_index xs i d q h.1

  pub each_filter : (p : A → Bool) (xs : List A) → Each P xs → Each P (filter p xs)
  each_filter p [] h = tt
  each_filter p (x ∷ xs) h = kept (p x) (each_filter p xs h.1)
    where
      kept : (b : Bool) → Each P (filter p xs) → Each P (cond b (x ∷ filter p xs) (filter p xs))
      kept true rest = (h.0, rest)
      kept false rest = rest

  pub each_find : (p : A → Bool) (xs : List A) → Each P xs → IfSome P (find p xs)
  each_find p [] h = tt
  each_find p (x ∷ xs) h = at (p x) (each_find p xs h.1)
    where
      at : (b : Bool) → IfSome P (find p xs) → IfSome P (cond b (Some x) (find p xs))
      at true rest = h.0
      at false rest = rest

  pub to_all : (xs : List A) → Each P xs → AllByRecursion P xs
  to_all [] h = tt
  to_all (x ∷ xs) h = (h.0, to_all xs h.1)

  pub from_all : (xs : List A) → AllByRecursion P xs → Each P xs
  from_all [] h = tt
  from_all (x ∷ xs) h = (h.0, from_all xs h.1)

pub each_map : {A B : Type 0} (P : B → Type 0) (f : A → B) → ((x : A) → P (f x)) → (xs : List A) → Each P (map f xs)
each_map P f h [] = tt
each_map P f h (x ∷ xs) = (h x, each_map P f h xs)

pub each_flat : {A B : Type 0} (P : A → Type 0) (Q : B → Type 0) (f : A → List B) → ((x : A) → P x → Each Q (f x)) → (xs : List A) → Each P xs → Each Q (flat_map f xs)
each_flat P Q f h [] k = tt
each_flat P Q f h (x ∷ xs) k = each_append Q (f x) (flat_map f xs) (h x k.0) (each_flat P Q f h xs k.1)

-- ---- a wider kind

module _ (S T : ℕ → Type 0) (wider : (n : ℕ) → S n → T n) where
  leaf_more : (x : t.Plain) → LeafNames S x → LeafNames T x
  leaf_more t.Invalid h = tt
  leaf_more (t.Boolean b) h = tt
  leaf_more (t.Integer n) h = tt
  leaf_more (t.LongInteger n) h = tt
  leaf_more (t.Words bytes) h = tt
  leaf_more (t.NodeNumber n) h = wider n h
  leaf_more (t.PortNumber n) h = tt

  mutual
    pub tree_more : (x : Tree) → TreeNames S x → TreeNames T x
    tree_more (Leaf plain) h = leaf_more plain h
    tree_more (Branch kind ts) h = trees_more ts h

    pub trees_more : (ts : Trees) → TreesName S ts → TreesName T ts
    trees_more none h = tt
    trees_more (more x xs) h = (tree_more x h.0, trees_more xs h.1)

  pub message_more : (m : Message) → MessageNames S m → MessageNames T m
  message_more m h = (wider m.node h.0, tree_more (tree_of m.payload) h.1)

  plain_more : (x : Plain) → PlainNames S x → PlainNames T x
  plain_more p.Invalid h = tt
  plain_more (p.Truth b) h = tt
  plain_more (p.Small n) h = tt
  plain_more (p.Big n) h = tt
  plain_more (p.Function n) h = tt
  plain_more (p.Node n) h = wider n h
  plain_more (p.Port n) h = tt
  plain_more p.Screen h = tt

  value_more : (v : StoreValue) → ValueNames S v → ValueNames T v
  value_more (Scalar plain) h = plain_more plain h
  value_more (Words bytes) h = tt
  value_more (Reference n) h = tt

  values_more : (vs : List StoreValue) → Each (ValueNames S) vs → Each (ValueNames T) vs
  values_more vs h = each_to (ValueNames S) (ValueNames T) value_more vs h

  entries_more : (es : List (Entry StoreValue)) → EntriesName S es → EntriesName T es
  entries_more es h = each_to (λ e. ValueNames S e.value) (λ e. ValueNames T e.value) (λ e k. value_more e.value k) es h

  object_more : (o : Object) → ObjectNames S o → ObjectNames T o
  object_more (ArrayObject items) h = values_more items h
  object_more (MapObject entries) h = entries_more entries h
  object_more (MessageObject message) h = message_more message h

  pub store_more : (store : Store) → StoreNames S store → StoreNames T store
  store_more store h = each_to (ObjectNames S) (ObjectNames T) object_more store h

  pub homes_more : (homes : List Home) → HomesName S homes → HomesName T homes
  homes_more homes h = each_to (λ x. ValueNames S x.m) (λ x. ValueNames T x.m) (λ x k. value_more x.m k) homes h

  call_more : (call : Call) → CallNames S call → CallNames T call
  call_more call h = (value_more call.m h.0, entries_more call.locals h.1)

  job_more : (job : Job) → JobNames S job → JobNames T job
  job_more (Does doing) h = tt
  job_more (Combines aim sign at) h = tt
  job_more (Tests form todo) h = tt
  job_more (Again form todo) h = tt
  job_more (Compares x end step body) h = (value_more end h.0, value_more step h.1)
  job_more (Increases x end step body) h = (value_more end h.0, value_more step h.1)
  job_more (NextItem x v i body) h = value_more v h
  job_more (NextKey x keys body) h = tt
  job_more (Binds x o) h = tt

  tasks_more : (tasks : List Task) → TasksName S tasks → TasksName T tasks
  tasks_more tasks h = each_to (λ x. JobNames S x.job) (λ x. JobNames T x.job) (λ x k. job_more x.job k) tasks h

  around_more : (x : Around) → AroundNames S x → AroundNames T x
  around_more (around head at vs after) h = values_more vs h

  arounds_more : (xs : List Around) → Each (AroundNames S) xs → Each (AroundNames T) xs
  arounds_more xs h = each_to (AroundNames S) (AroundNames T) around_more xs h

  under_more : (x : Under) → UnderNames S x → UnderNames T x
  under_more (under job at vs after) h = (job_more job h.0, values_more vs h.1)

  spot_more : (x : Spot) → SpotNames S x → SpotNames T x
  spot_more (AtHead head at vs context base) h = (values_more vs h.0, arounds_more context h.1, under_more base h.2)
  spot_more (AtDecided head at v f fs context base) h = (value_more v h.0, arounds_more context h.1, under_more base h.2)
  spot_more (AtJob job at vs) h = (job_more job h.0, values_more vs h.1)
  spot_more AtEnd h = tt
  spot_more (AtFailure e at) h = tt

  hole_more : (x : Hole) → HoleNames S x → HoleNames T x
  hole_more (Operand context base) h = (arounds_more context h.0, under_more base h.1)
  hole_more Ends h = tt

  one_held_more : (x : Held) → HeldNames S x → HeldNames T x
  one_held_more x h = (call_more x.call h.0, hole_more x.hole h.1, tasks_more x.tasks h.2)

  pub held_more : (xs : List Held) → Each (HeldNames S) xs → Each (HeldNames T) xs
  held_more xs h = each_to (HeldNames S) (HeldNames T) one_held_more xs h

  pub calls_more : (tree : k.Tree) → CallsName S tree → CallsName T tree
  calls_more (Works call spot tasks below) h = (call_more call h.0, spot_more spot h.1, tasks_more tasks h.2, held_more below h.3)
  calls_more (Waits below) h = held_more below h

  pub access_more : (access : Access) → AccessNames S access → AccessNames T access
  access_more (r.Make kind) h = tt
  access_more (r.Scene kind) h = tt
  access_more (r.Get n f) h = wider n h
  access_more (r.Set n f v) h = (wider n h.0, tree_more v h.1)
  access_more (r.Has n f) h = wider n h
  access_more (r.Add n f kind always) h = wider n h
  access_more (r.ObserveBy n f function) h = wider n h
  access_more (r.ObserveAt n f port) h = wider n h
  access_more (r.Unobserve n f) h = wider n h
  access_more (r.Append n c) h = (wider n h.0, wider c h.1)
  access_more (r.Insert n c at) h = (wider n h.0, wider c h.1)
  access_more (r.Remove n c) h = (wider n h.0, wider c h.1)
  access_more (r.Create n kind) h = wider n h
  access_more (r.Child n at) h = wider n h
  access_more (r.Count n) h = wider n h
  access_more (r.Parent n) h = wider n h
  access_more (r.Find n id) h = wider n h
  access_more (r.Focus n on) h = wider n h
  access_more (r.HasFocus n) h = wider n h
  access_more (r.InChain n) h = wider n h
  access_more (r.Subtype n) h = wider n h
  access_more (r.CallFunc n name arguments) h = (wider n h.0, each_to (TreeNames S) (TreeNames T) tree_more arguments h.1)

  request_more : (request : Request) → RequestNames S request → RequestNames T request
  request_more (Asks access) h = access_more access h
  request_more MakePort h = tt
  request_more (Wait port limited) h = tt
  request_more (Poll port) h = tt

  pub outcome_more : (o : Outcome) → OutcomeNames S o → OutcomeNames T o
  outcome_more Went h = tt
  outcome_more (Asked request) h = request_more request h
  outcome_more (Printed text) h = tt
  outcome_more (Raised e at) h = tt
  outcome_more (Returned v) h = tree_more v h
  outcome_more (TooBig at) h = tt

  pub reply_more : (reply : Reply) → ReplyNames S reply → ReplyNames T reply
  reply_more (w.Value v) h = tree_more v h
  reply_more (Told message) h = message_more message h
  reply_more (Failed e) h = tt

  pub arguments_more : (arguments : w.Arguments) → ArgumentsName S arguments → ArgumentsName T arguments
  arguments_more (w.Values vs) h = each_to (TreeNames S) (TreeNames T) tree_more vs h
  arguments_more (w.Message' message) h = message_more message h
  arguments_more w.Start h = tt

  pub put_more : (x : Put) → PutNames S x → PutNames T x
  put_more (Done s) h = (calls_more s.tree h.0, store_more s.store h.1)
  put_more (Refused e) h = tt
