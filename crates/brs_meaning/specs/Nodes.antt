-- Which nodes the calls, the homes and the store of an actor name. `S` says which nodes may be named.
use Rattle.std.specs.Prelude.{ℕ, List, [], ◌∷◌, Option, Some, None}
use Rattle.chan_values.specs.declared.message.Message.{Message}
use Rattle.chan_values.specs.Tree as t
use Rattle.chan_values.specs.Tree.{Tree, Leaf, Branch, Trees, none, more}
use Rattle.chan_values.specs.View.{tree_of}
use Rattle.heap_meaning.specs.declared.plain.Plain.{Plain}
use Rattle.heap_meaning.specs.declared.plain.Plain.TheVariants.{Node}
use Rattle.heap_meaning.specs.Values.{StoreValue, Scalar, Words, Reference, Entry}
use Rattle.heap_meaning.specs.Store.{Object, ArrayObject, MapObject, MessageObject, Store}
use Rattle.brs_meaning.specs.Locals.{Locals, Home}
use Rattle.brs_meaning.specs.Request as r
use Rattle.brs_meaning.specs.Request.{Access, Request, Asks}
use Rattle.brs_meaning.specs.Running as k
use Rattle.brs_meaning.specs.Running.{Call, Job, Compares, Increases, NextItem, Task, Around, around, Under, under, Spot, AtHead, AtDecided, AtJob, Hole, Operand, Held, Works, Waits}
use Rattle.brs_meaning.specs.Reduction.{Outcome, Asked, Returned, Reduced}
use Rattle.brs_meaning.specs.Answering.{Reply, Told, Failed, Arguments, Values, Put, Done, Refused, State}
use Rattle.brs_meaning.specs.Answering as w

abbrev pub Each : {A : Type 0} → (A → Type 0) → List A → Type 0
Each P [] = Unit {0}
Each P (x ∷ xs) = P x × Each P xs

abbrev pub IfSome : {A : Type 0} → (A → Type 0) → Option A → Type 0
IfSome P None = Unit {0}
IfSome P (Some x) = P x

module _ (S : ℕ → Type 0) where
  -- ---- portable values

  abbrev pub LeafNames : t.Plain → Type 0
  LeafNames (t.NodeNumber n) = S n
  LeafNames _ = Unit {0}

  abbrev mutual
    pub TreeNames : Tree → Type 0
    TreeNames (Leaf plain) = LeafNames plain
    TreeNames (Branch kind ts) = TreesName ts

    pub TreesName : Trees → Type 0
    TreesName none = Unit {0}
    TreesName (more x xs) = TreeNames x × TreesName xs

  abbrev pub MessageNames : Message → Type 0
  MessageNames message = S message.node × TreeNames (tree_of message.payload)

  -- ---- values and the store

  abbrev pub PlainNames : Plain → Type 0
  PlainNames (Node n) = S n
  PlainNames _ = Unit {0}

  abbrev pub ValueNames : StoreValue → Type 0
  ValueNames (Scalar plain) = PlainNames plain
  ValueNames (Words bytes) = Unit {0}
  ValueNames (Reference n) = Unit {0}

  abbrev pub EntriesName : List (Entry StoreValue) → Type 0
  EntriesName entries = Each (λ e. ValueNames e.value) entries

  abbrev pub ObjectNames : Object → Type 0
  ObjectNames (ArrayObject items) = Each ValueNames items
  ObjectNames (MapObject entries) = EntriesName entries
  ObjectNames (MessageObject message) = MessageNames message

  -- the whole store, reached or not
  abbrev pub StoreNames : Store → Type 0
  StoreNames store = Each ObjectNames store

  abbrev pub HomesName : List Home → Type 0
  HomesName homes = Each (λ h. ValueNames h.m) homes

  -- ---- calls in progress

  abbrev pub LocalsName : Locals → Type 0
  LocalsName locals = EntriesName locals

  abbrev pub CallNames : Call → Type 0
  CallNames call = ValueNames call.m × LocalsName call.locals

  abbrev pub JobNames : Job → Type 0
  JobNames (Compares x end step body) = ValueNames end × ValueNames step
  JobNames (Increases x end step body) = ValueNames end × ValueNames step
  JobNames (NextItem x v i body) = ValueNames v
  JobNames _ = Unit {0}

  abbrev pub TasksName : List Task → Type 0
  TasksName tasks = Each (λ k. JobNames k.job) tasks

  abbrev pub AroundNames : Around → Type 0
  AroundNames (around head at vs after) = Each ValueNames vs

  abbrev pub UnderNames : Under → Type 0
  UnderNames (under job at vs after) = JobNames job × Each ValueNames vs

  abbrev pub SpotNames : Spot → Type 0
  SpotNames (AtHead head at vs context base) = Each ValueNames vs × Each AroundNames context × UnderNames base
  SpotNames (AtDecided head at v f fs context base) = ValueNames v × Each AroundNames context × UnderNames base
  SpotNames (AtJob job at vs) = JobNames job × Each ValueNames vs
  SpotNames _ = Unit {0}

  abbrev pub HoleNames : Hole → Type 0
  HoleNames (Operand context base) = Each AroundNames context × UnderNames base
  HoleNames k.Ends = Unit {0}

  abbrev pub HeldNames : Held → Type 0
  HeldNames h = CallNames h.call × HoleNames h.hole × TasksName h.tasks

  abbrev pub CallsName : k.Tree → Type 0
  CallsName (Works call spot tasks below) = CallNames call × SpotNames spot × TasksName tasks × Each HeldNames below
  CallsName (Waits below) = Each HeldNames below

  abbrev pub StateNames : State → Type 0
  StateNames s = CallsName s.tree × StoreNames s.store

  -- ---- what goes to the world and comes from it

  abbrev pub AccessNames : Access → Type 0
  AccessNames (r.Make kind) = Unit {0}
  AccessNames (r.Scene kind) = Unit {0}
  AccessNames (r.Get n f) = S n
  AccessNames (r.Set n f v) = S n × TreeNames v
  AccessNames (r.Has n f) = S n
  AccessNames (r.Add n f kind always) = S n
  AccessNames (r.ObserveBy n f function) = S n
  AccessNames (r.ObserveAt n f port) = S n
  AccessNames (r.Unobserve n f) = S n
  AccessNames (r.Append n c) = S n × S c
  AccessNames (r.Insert n c at) = S n × S c
  AccessNames (r.Remove n c) = S n × S c
  AccessNames (r.Create n kind) = S n
  AccessNames (r.Child n at) = S n
  AccessNames (r.Count n) = S n
  AccessNames (r.Parent n) = S n
  AccessNames (r.Find n id) = S n
  AccessNames (r.Focus n on) = S n
  AccessNames (r.HasFocus n) = S n
  AccessNames (r.InChain n) = S n
  AccessNames (r.Subtype n) = S n
  AccessNames (r.CallFunc n name arguments) = S n × Each TreeNames arguments

  abbrev pub RequestNames : Request → Type 0
  RequestNames (Asks access) = AccessNames access
  RequestNames _ = Unit {0}

  abbrev pub OutcomeNames : Outcome → Type 0
  OutcomeNames (Asked request) = RequestNames request
  OutcomeNames (Returned v) = TreeNames v
  OutcomeNames _ = Unit {0}

  abbrev pub ReducedNames : Reduced → Type 0
  ReducedNames x = OutcomeNames x.outcome × CallsName x.tree × StoreNames x.store

  abbrev pub ReplyNames : Reply → Type 0
  ReplyNames (w.Value v) = TreeNames v
  ReplyNames (Told message) = MessageNames message
  ReplyNames (Failed e) = Unit {0}

  abbrev pub ArgumentsName : Arguments → Type 0
  ArgumentsName (Values vs) = Each TreeNames vs
  ArgumentsName (w.Message' message) = MessageNames message
  ArgumentsName w.Start = Unit {0}

  abbrev pub PutNames : Put → Type 0
  PutNames (Done s) = StateNames s
  PutNames (Refused e) = Unit {0}
