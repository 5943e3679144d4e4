-- Nodes that a step, an answer and a call on top name.
use Rattle.std.proofs.Common.{ℕ, zero, suc, List, [], ◌∷◌, ◌++◌, Option, Some, None}
use Rattle.std.specs.Prelude.{ℤ, pos, Bool, true, false, length, reverse, cond, slice_get, nat_le}
use Rattle.std.specs.Str.{bytes_eq}
use Rattle.chan_values.specs.Tree as v
use Rattle.chan_values.specs.Tree.{trees}
use Rattle.chan_values.specs.declared.place.Place as c
use Rattle.chan_values.specs.declared.error_code.ErrorCode.{ErrorCode}
use Rattle.chan_values.specs.declared.error_code.ErrorCode.TheVariants.{E2, E6, E8}
use Rattle.brs_tokens.specs.declared.place.Place.{Place}
use Rattle.copy_meaning.specs.Laying.{all_objects}
use Rattle.heap_meaning.specs.declared.plain.Plain.TheVariants as p
use Rattle.heap_meaning.specs.Values.{StoreValue, Scalar, Words, Reference}
use Rattle.heap_meaning.specs.Store.{Object, ArrayObject, MapObject, MessageObject, Store}
use Rattle.plain_operations.specs.Fit.{fitted}
use Rattle.plain_operations.specs.declared.fit.Fit.{Fit}
use Rattle.plain_operations.specs.declared.fit.Fit.TheVariants as ft
use Rattle.plain_operations.specs.declared.operator.Operator.TheVariants as o
use Rattle.brs_grammar.specs.declared.tree.LoopKind.{LoopKind}
use Rattle.brs_grammar.specs.declared.tree.TypeWord.{TypeWord}
use Rattle.brs_grammar.specs.Form as f
use Rattle.brs_grammar.specs.Form.{Text, Aim, ToName, ToMember, ToIndex, Head, Form, Node, Forms, none, more, Params, unnamed, required, optional, Todo, finish, first}
use Rattle.brs_meaning.specs.Program.{Program, Function, place_in}
use Rattle.brs_meaning.specs.Locals.{Locals, Home, local, assigned}
use Rattle.brs_meaning.specs.Typed.{value_type, fit_value, typed}
use Rattle.brs_builtins.specs.Operands.{operand}
use Rattle.brs_meaning.specs.Operators.{updating}
use Rattle.brs_meaning.specs.Given as g
use Rattle.brs_meaning.specs.Given.{Given, Setting}
use Rattle.brs_meaning.specs.Heads.{binary, contract}
use Rattle.brs_meaning.specs.Members.{target_read, target_written}
use Rattle.brs_meaning.specs.Printing.{Printing, Printed, Unprinted, printed}
use Rattle.brs_meaning.specs.Running.{Kind, Inner, OnTop, Call, Job, Does, Combines, Tests, Again, Compares, Increases, NextItem, NextKey, Binds, Task, before, Around, around, Under, under, AtHead, AtDecided, AtJob, AtEnd, AtFailure, Hole, Operand, Ends, Held, Tree, Works, Waits}
use Rattle.brs_meaning.specs.Moving.{decides, down, begin, give_under, go_on, give, next, filled}
use Rattle.brs_meaning.specs.Did as d
use Rattle.brs_meaning.specs.Did.{Did}
use Rattle.brs_meaning.specs.Statements as s
use Rattle.brs_meaning.specs.Statements.{act, task}
use Rattle.brs_meaning.specs.Binding.{Begun, Begins, Refuses, begun, begun_with, bound, bound_before, suits, defaults, most_calls}
use Rattle.brs_meaning.specs.Leaving.{leaving}
use Rattle.brs_meaning.specs.Reduction as r
use Rattle.brs_meaning.specs.Reduction.{reduce, after_given, after_did, home_of, setting_of, own_or}
use Rattle.brs_meaning.specs.Answering as w
use Rattle.brs_meaning.specs.Answering.{Reply, Arguments, Put, received, replied, brought, where_taken, bring, put_with, put}
use Rattle.brs_meaning.specs.Nodes.{Each, IfSome, TreeNames, ValueNames, ObjectNames, StoreNames, HomesName, LocalsName, CallNames, JobNames, TasksName, AroundNames, UnderNames, SpotNames, HoleNames, HeldNames, CallsName, StateNames, RequestNames, ReducedNames, ReplyNames, ArgumentsName, PutNames}
use Rattle.brs_meaning.proofs.EachLaws.{each_append, each_get}
use Rattle.brs_meaning.proofs.NodesOfValues.{left_names, laid_names, all_laid_names, all_objects_name, with_tree_names, trees_name}
use Rattle.brs_meaning.proofs.NodesOfOperations.{object_names}
use Rattle.brs_meaning.proofs.NodesOfHeads.{GivenNames, SettingNames, contract_names, binary_names, target_read_names, target_written_names}

module _ (S : ℕ → Type 0) where
  -- ---- locals, tasks and redexes

  assigned_names : (x : Text) (v : StoreValue) (locals : Locals) → ValueNames S v → LocalsName S locals → LocalsName S (assigned x v locals)
  assigned_names x v [] q h = (q, tt)
  assigned_names x v (e ∷ rest) q (k, h) = here (bytes_eq e.key x) (assigned_names x v rest q h)
    where
      here : (b : Bool) → LocalsName S (assigned x v rest) → LocalsName S (cond b (record { key = x; value = v } ∷ rest) (e ∷ assigned x v rest))
      here true j = (q, h)
      here false j = (k, j)

  before_names : (todo : Todo) (tasks : List Task) → TasksName S tasks → TasksName S (before todo tasks)
  before_names finish tasks h = h
  before_names (first doing place operands rest) tasks h = (tt, before_names rest tasks h)

  down_names : (x : Form) (context : List Around) (base : Under) → Each (AroundNames S) context → UnderNames S base → SpotNames S (down x context base)
  down_names (Node head place none) context base h k = (tt, h, k)
  down_names (Node head place (more x xs)) context base h k = down_names x (around head place [] xs ∷ context) base (tt, h) k

  begin_names : (job : Job) (place : Place) (xs : Forms) → JobNames S job → SpotNames S (begin job place xs)
  begin_names job place none h = (h, tt)
  begin_names job place (more x xs) h = down_names x [] (under job place [] xs) tt (h, tt)

  give_under_names : (v : StoreValue) (base : Under) → ValueNames S v → UnderNames S base → SpotNames S (give_under v base)
  give_under_names v (under job place done none) q (h, k) = (h, (q, k))
  give_under_names v (under job place done (more x xs)) q (h, k) = down_names x [] (under job place (v ∷ done) xs) tt (h, (q, k))

  go_on_names : (v : StoreValue) (head : Head) (place : Place) (done : List StoreValue) (x : Form) (xs : Forms) (context : List Around) (base : Under) → ValueNames S v → Each (ValueNames S) done → Each (AroundNames S) context → UnderNames S base → SpotNames S (go_on v head place done x xs context base)
  go_on_names v head place [] x xs context base q h k j = by_choice (decides head v)
    where
      by_choice : (b : Bool) → SpotNames S (cond b (AtDecided head place v x xs context base) (down x (around head place (v ∷ []) xs ∷ context) base))
      by_choice true = (q, k, j)
      by_choice false = down_names x (around head place (v ∷ []) xs ∷ context) base ((q, tt), k) j
  go_on_names v head place (u ∷ us) x xs context base q h k j = down_names x (around head place (v ∷ u ∷ us) xs ∷ context) base ((q, h), k) j

  give_names : (v : StoreValue) (context : List Around) (base : Under) → ValueNames S v → Each (AroundNames S) context → UnderNames S base → SpotNames S (give v context base)
  give_names v [] base q h k = give_under_names v base q k
  give_names v (around head place done none ∷ context) base q (h, k) j = ((q, h), k, j)
  give_names v (around head place done (more x xs) ∷ context) base q (h, k) j = go_on_names v head place done x xs context base q h k j

  next_names : (call : Call) (tasks : List Task) (below : List Held) → CallNames S call → TasksName S tasks → Each (HeldNames S) below → CallsName S (next call tasks below)
  next_names call [] below q h k = (q, tt, tt, k)
  next_names call (t ∷ tasks) below q (j, h) k = (q, begin_names t.job t.place t.operands j, h, k)

  filled_names : (v : StoreValue) (call : Call) (hole : Hole) (tasks : List Task) (below : List Held) → ValueNames S v → CallNames S call → HoleNames S hole → TasksName S tasks → Each (HeldNames S) below → CallsName S (filled v call hole tasks below)
  filled_names v call (Operand context base) tasks below y q (h, i) k j = (q, give_names v context base y h i, k, j)
  filled_names v call Ends tasks below y q h k j = next_names call tasks below q k j

  -- ---- values that leave, and calls that begin

  left_out : (x : Option v.Tree) (at : c.Place) (below : List Held) (store : Store) → IfSome (TreeNames S) x → Each (HeldNames S) below → StoreNames S store → ReducedNames S (r.left x at below store)
  left_out None at below store h k s = (tt, k, s)
  left_out (Some t) at below store h k s = (h, k, s)

  leave_names : (kind : Kind) (v : StoreValue) (at : c.Place) (below : List Held) (store : Store) → ValueNames S v → Each (HeldNames S) below → StoreNames S store → ReducedNames S (r.leave kind v at below store)
  leave_names OnTop v at below store q k s = left_out (leaving store v) at below store (left_names S store v s q) k s
  leave_names Inner v at [] store q k s = left_out (leaving store v) at [] store (left_names S store v s q) k s
  leave_names Inner v at (h ∷ below) store q ((i, j, l), k) s = (tt, filled_names v h.call h.hole h.tasks below q i j l k, s)

  home_names : (homes : List Home) (i : ℕ) → HomesName S homes → ValueNames S (home_of homes i).m
  home_names homes i h = of_home (slice_get homes i) (each_get (λ x. ValueNames S x.m) homes i h)
    where
      of_home : (x : Option Home) → IfSome (λ y. ValueNames S y.m) x → ValueNames S (r.or_none x).m
      of_home None k = tt
      of_home (Some y) k = k

  own_names : (x : Option StoreValue) (home : StoreValue) → IfSome (ValueNames S) x → ValueNames S home → ValueNames S (own_or x home)
  own_names None home h k = k
  own_names (Some m) home h k = h

  fit_names : (x : Fit) (value : StoreValue) → ValueNames S value → IfSome (ValueNames S) (fit_value x value)
  fit_names ft.Unchanged value h = h
  fit_names (ft.Integer n) value h = tt
  fit_names (ft.LongInteger n) value h = tt
  fit_names ft.Refused value h = tt

  typed_names : (kind : Option TypeWord) (value : StoreValue) → ValueNames S value → IfSome (ValueNames S) (typed kind value)
  typed_names kind value h = fit_names (fitted (value_type kind) (operand value)) value h

  bound_before_names : (name : Text) (x : Option StoreValue) (rest : Option Locals) → IfSome (ValueNames S) x → IfSome (LocalsName S) rest → IfSome (LocalsName S) (bound_before name x rest)
  bound_before_names name None rest h k = tt
  bound_before_names name (Some v) None h k = tt
  bound_before_names name (Some v) (Some locals) h k = (h, k)

  bound_names : (params : Params) (vs : List StoreValue) → Each (ValueNames S) vs → IfSome (LocalsName S) (bound params vs)
  bound_names unnamed vs h = tt
  bound_names (required place name kind rest) [] h = tt
  bound_names (required place name kind rest) (v ∷ vs) (q, h) = bound_before_names name (typed kind v) (bound rest vs) (typed_names kind v q) (bound_names rest vs h)
  bound_names (optional place name kind default rest) [] h = tt
  bound_names (optional place name kind default rest) (v ∷ vs) (q, h) = bound_before_names name (typed kind v) (bound rest vs) (typed_names kind v q) (bound_names rest vs h)

  default_names : (params : Params) (n : ℕ) → TasksName S (defaults params n)
  default_names unnamed n = tt
  default_names (required place name kind rest) zero = default_names rest zero
  default_names (required place name kind rest) (suc n) = default_names rest n
  default_names (optional place name kind default rest) zero = (tt, default_names rest zero)
  default_names (optional place name kind default rest) (suc n) = default_names rest n

  abbrev BegunNames : Begun → Type 0
  BegunNames (Begins call tasks) = CallNames S call × TasksName S tasks
  BegunNames (Refuses e) = Unit {0}

  begun_names : (kind : Kind) (x : Function) (home : ℕ) (m : StoreValue) (vs : List StoreValue) (calls : ℕ) → ValueNames S m → Each (ValueNames S) vs → BegunNames (begun kind x home m vs calls)
  begun_names kind x home m vs calls q h = by_number (suits x.callee.params (length vs))
    where
      by_types : (l : Option Locals) (tasks : List Task) → IfSome (LocalsName S) l → TasksName S tasks → BegunNames (begun_with kind x home m l tasks)
      by_types None tasks k j = tt
      by_types (Some locals) tasks k j = ((q, k), j)

      by_depth : (b : Bool) (tasks : List Task) → TasksName S tasks → BegunNames (cond b (Refuses E8) (begun_with kind x home m (bound x.callee.params vs) tasks))
      by_depth true tasks j = tt
      by_depth false tasks j = by_types (bound x.callee.params vs) tasks (bound_names x.callee.params vs h) j

      by_number : (b : Bool) → BegunNames (cond b (cond (nat_le most_calls calls) (Refuses E8) (begun_with kind x home m (bound x.callee.params vs) (defaults x.callee.params (length vs) ++ before x.callee.body []))) (Refuses E6))
      by_number true = by_depth (nat_le most_calls calls) (defaults x.callee.params (length vs) ++ before x.callee.body [])
          (each_append (λ t. JobNames S t.job) (defaults x.callee.params (length vs)) (before x.callee.body []) (default_names x.callee.params (length vs)) (before_names x.callee.body [] tt))
      by_number false = tt

  entered_names : (b : Begun) (call : Call) (at : Place) (hole : Hole) (tasks : List Task) (below : List Held) (store : Store) → BegunNames b → CallNames S call → HoleNames S hole → TasksName S tasks → Each (HeldNames S) below → StoreNames S store → ReducedNames S (r.entered b call at hole tasks below store)
  entered_names (Begins inner todo) call at hole tasks below store (h, i) q k j l s = (tt, next_names inner todo (record { call = call; place = at; hole = hole; tasks = tasks } ∷ below) h i ((q, k, j), l), s)
  entered_names (Refuses e) call at hole tasks below store h q k j l s = (tt, tt, s)

  after_given_names : (x : Given) (homes : List Home) (call : Call) (at : Place) (context : List Around) (base : Under) (tasks : List Task) (below : List Held) (store : Store)
      → GivenNames S x → HomesName S homes → CallNames S call → Each (AroundNames S) context → UnderNames S base → TasksName S tasks → Each (HeldNames S) below → StoreNames S store → ReducedNames S (after_given x homes call at context base tasks below store)
  after_given_names (g.Gives v new) homes call at context base tasks below store (y, z) hs q h i j l s = (tt, (q, give_names v context base y h i, j, l), z)
  after_given_names (g.Calls x m vs) homes call at context base tasks below store (y, z) hs q h i j l s =
      entered_names (begun Inner x call.home (own_or m (home_of homes call.home).m) vs (suc (length below))) call at (Operand context base) tasks below store
      (begun_names Inner x call.home (own_or m (home_of homes call.home).m) vs (suc (length below)) (own_names m (home_of homes call.home).m y (home_names homes call.home hs)) z) q (h, i) j l s
  after_given_names (g.Wants request) homes call at context base tasks below store y hs q h i j l s = (y, ((q, (h, i), j), l), s)
  after_given_names (g.Fails e) homes call at context base tasks below store y hs q h i j l s = (tt, tt, s)

  -- ---- statements

  abbrev DidNames : Did → Type 0
  DidNames (d.Goes locals store tasks) = LocalsName S locals × StoreNames S store × TasksName S tasks
  DidNames (d.Continues v base store) = ValueNames S v × UnderNames S base × StoreNames S store
  DidNames (d.Awaits request hole) = RequestNames S request × HoleNames S hole
  DidNames (d.Returns v) = ValueNames S v
  DidNames _ = Unit {0}

  either : (b : Bool) (x y : Did) → DidNames x → DidNames y → DidNames (cond b x y)
  either true x y h k = h
  either false x y h k = k

  written_names : (x : Given) (locals : Locals) (tasks : List Task) (at : Place) → GivenNames S x → LocalsName S locals → TasksName S tasks → DidNames (s.written x locals tasks at)
  written_names (g.Gives v store) locals tasks at (h, i) k j = (k, i, j)
  written_names (g.Wants request) locals tasks at h k j = (h, tt)
  written_names (g.Fails e) locals tasks at h k j = tt
  written_names (g.Calls x m vs) locals tasks at h k j = tt

  set_names : (x : Setting) (aim : Aim) (vs : List StoreValue) (store : Store) (tasks : List Task) (at : Place) → SettingNames S x → Each (ValueNames S) vs → StoreNames S store → TasksName S tasks → DidNames (s.set x aim vs store tasks at)
  set_names x (ToName n) [] store tasks at q h i j = tt
  set_names x (ToMember n) [] store tasks at q h i j = tt
  set_names x ToIndex [] store tasks at q h i j = tt
  set_names x (ToName n) (v ∷ []) store tasks at (q, l) (h, k) i j = (assigned_names n v x.locals h l, i, j)
  set_names x (ToName n) (v ∷ w ∷ vs) store tasks at (q, l) (h, k) i j = written_names (target_written (ToName n) (w ∷ vs) v store) x.locals tasks at (target_written_names S (ToName n) (w ∷ vs) v store k h i) l j
  set_names x (ToMember n) (v ∷ vs) store tasks at (q, l) (h, k) i j = written_names (target_written (ToMember n) vs v store) x.locals tasks at (target_written_names S (ToMember n) vs v store k h i) l j
  set_names x ToIndex (v ∷ vs) store tasks at (q, l) (h, k) i j = written_names (target_written ToIndex vs v store) x.locals tasks at (target_written_names S ToIndex vs v store k h i) l j

  read_names : (x : Given) (base : Under) (at : Place) → GivenNames S x → UnderNames S base → DidNames (s.read_first x base at)
  read_names (g.Gives v store) base at (h, i) k = (h, k, i)
  read_names (g.Wants request) base at h k = (h, (tt, k))
  read_names (g.Fails e) base at h k = tt
  read_names (g.Calls x m vs) base at h k = tt

  combine_names : (aim : Aim) (x : Given) (there : Place) (operands : List StoreValue) (at : Place) → GivenNames S x → Each (ValueNames S) operands → DidNames (s.combine aim x there operands at)
  combine_names aim (g.Gives v store) there operands at (h, i) k = (h, (tt, k), i)
  combine_names aim (g.Wants request) there operands at h k = tt
  combine_names aim (g.Fails e) there operands at h k = tt
  combine_names aim (g.Calls x m vs) there operands at h k = tt

  chosen_names : (vs : List StoreValue) (locals : Locals) (store : Store) (one other : List Task) (at : Place) → LocalsName S locals → StoreNames S store → TasksName S one → TasksName S other → DidNames (s.chosen vs locals store one other at)
  chosen_names [] locals store one other at l i h k = tt
  chosen_names (Scalar p.Invalid ∷ vs) locals store one other at l i h k = tt
  chosen_names (Scalar (p.Truth true) ∷ []) locals store one other at l i h k = (l, i, h)
  chosen_names (Scalar (p.Truth false) ∷ []) locals store one other at l i h k = (l, i, k)
  chosen_names (Scalar (p.Truth true) ∷ v ∷ vs) locals store one other at l i h k = tt
  chosen_names (Scalar (p.Truth false) ∷ v ∷ vs) locals store one other at l i h k = tt
  chosen_names (Scalar (p.Small n) ∷ vs) locals store one other at l i h k = tt
  chosen_names (Scalar (p.Big n) ∷ vs) locals store one other at l i h k = tt
  chosen_names (Scalar (p.Function n) ∷ vs) locals store one other at l i h k = tt
  chosen_names (Scalar (p.Node n) ∷ vs) locals store one other at l i h k = tt
  chosen_names (Scalar (p.Port n) ∷ vs) locals store one other at l i h k = tt
  chosen_names (Scalar p.Screen ∷ vs) locals store one other at l i h k = tt
  chosen_names (Words t ∷ vs) locals store one other at l i h k = tt
  chosen_names (Reference n ∷ vs) locals store one other at l i h k = tt

  begin_for_names : (x : Text) (vs : List StoreValue) (body : Todo) (locals : Locals) (store : Store) (tasks : List Task) (at : Place) → Each (ValueNames S) vs → LocalsName S locals → StoreNames S store → TasksName S tasks → DidNames (s.begin_for x vs body locals store tasks at)
  begin_for_names x [] body locals store tasks at h l i j = tt
  begin_for_names x (a ∷ []) body locals store tasks at h l i j = tt
  begin_for_names x (b ∷ a ∷ []) body locals store tasks at (hb, (ha, h)) l i j =
      either (s.numbers (s.number a) (s.number b) (s.number (Scalar (p.Small (pos 1))))) (d.Goes (assigned x a locals) store (task (Compares x b (Scalar (p.Small (pos 1))) body) at none ∷ tasks)) (d.Breaks E2 at) (assigned_names x a locals ha l, i, ((hb, tt), j)) tt
  begin_for_names x (c ∷ b ∷ a ∷ []) body locals store tasks at (hc, (hb, (ha, h))) l i j =
      either (s.numbers (s.number a) (s.number b) (s.number c)) (d.Goes (assigned x a locals) store (task (Compares x b c body) at none ∷ tasks)) (d.Breaks E2 at) (assigned_names x a locals ha l, i, ((hb, hc), j)) tt
  begin_for_names x (c ∷ b ∷ a ∷ e ∷ vs) body locals store tasks at h l i j = tt

  compare_names : (now end step : Option ℤ) (locals : Locals) (store : Store) (one other : List Task) (at : Place) → LocalsName S locals → StoreNames S store → TasksName S one → TasksName S other → DidNames (s.compare now end step locals store one other at)
  compare_names (Some now) (Some end) (Some step) locals store one other at l i h k = either (s.within now end step) (d.Goes locals store one) (d.Goes locals store other) (l, i, h) (l, i, k)
  compare_names None end step locals store one other at l i h k = tt
  compare_names (Some now) None step locals store one other at l i h k = tt
  compare_names (Some now) (Some end) None locals store one other at l i h k = tt

  choice : (b : Bool) (x y : Given) → GivenNames S x → GivenNames S y → GivenNames S (cond b x y)
  choice true x y h k = h
  choice false x y h k = k

  stepped_names : (x : Option StoreValue) (step : StoreValue) (store : Store) → StoreNames S store → GivenNames S (s.stepped x step store)
  stepped_names None step store i = tt
  stepped_names (Some v) step store i = choice (s.numbers (s.number v) (s.number step) (Some (pos 0))) (binary o.Add (step ∷ v ∷ []) store) (g.Fails E2) (binary_names S o.Add (step ∷ v ∷ []) store i) tt

  increased_names : (x : Text) (y : Given) (locals : Locals) (again : Task) (tasks : List Task) (at : Place) → GivenNames S y → LocalsName S locals → JobNames S again.job → TasksName S tasks → DidNames (s.increased x y locals again tasks at)
  increased_names x (g.Gives v store) locals again tasks at (h, i) l k j = (assigned_names x v locals h l, i, (k, j))
  increased_names x (g.Wants request) locals again tasks at h l k j = tt
  increased_names x (g.Fails e) locals again tasks at h l k j = tt
  increased_names x (g.Calls z m vs) locals again tasks at h l k j = tt

  each_names : (x : Text) (v : StoreValue) (y : Option Object) (body : Todo) (locals : Locals) (store : Store) (tasks : List Task) (at : Place) → ValueNames S v → LocalsName S locals → StoreNames S store → TasksName S tasks → DidNames (s.each_begun x v y body locals store tasks at)
  each_names x v (Some (ArrayObject items)) body locals store tasks at h l i j = (l, i, (h, j))
  each_names x v (Some (MapObject entries)) body locals store tasks at h l i j = (l, i, (tt, j))
  each_names x v (Some (MessageObject message)) body locals store tasks at h l i j = tt
  each_names x v None body locals store tasks at h l i j = tt

  begin_each_names : (x : Text) (vs : List StoreValue) (body : Todo) (locals : Locals) (store : Store) (tasks : List Task) (at : Place) → Each (ValueNames S) vs → LocalsName S locals → StoreNames S store → TasksName S tasks → DidNames (s.begin_each x vs body locals store tasks at)
  begin_each_names x [] body locals store tasks at h l i j = tt
  begin_each_names x (v ∷ []) body locals store tasks at (h, k) l i j = each_names x v (s.object_at v store) body locals store tasks at h l i j
  begin_each_names x (v ∷ u ∷ vs) body locals store tasks at h l i j = tt

  items_names : (v : StoreValue) (store : Store) → StoreNames S store → Each (ValueNames S) (s.items_of (s.object_at v store))
  items_names (Scalar plain) store i = tt
  items_names (Words t) store i = tt
  items_names (Reference n) store i = of_object (slice_get store n) (object_names S store n i)
    where
      of_object : (x : Option Object) → IfSome (ObjectNames S) x → Each (ValueNames S) (s.items_of x)
      of_object None h = tt
      of_object (Some (ArrayObject items)) h = h
      of_object (Some (MapObject entries)) h = tt
      of_object (Some (MessageObject message)) h = tt

  next_item_names : (x : Text) (y : Option StoreValue) (locals : Locals) (store : Store) (one other : List Task) → IfSome (ValueNames S) y → LocalsName S locals → StoreNames S store → TasksName S one → TasksName S other → DidNames (s.next_item x y locals store one other)
  next_item_names x None locals store one other q l i h k = (l, i, k)
  next_item_names x (Some v) locals store one other q l i h k = (assigned_names x v locals q l, i, h)

  next_key_names : (x : Text) (keys : List Text) (at : Place) (body : Todo) (locals : Locals) (store : Store) (tasks : List Task) → LocalsName S locals → StoreNames S store → TasksName S tasks → DidNames (s.next_key x keys (λ later. task (NextKey x later body) at none) body locals store tasks)
  next_key_names x [] at body locals store tasks l i j = (l, i, j)
  next_key_names x (k ∷ keys) at body locals store tasks l i j = (assigned_names x (Words k) locals tt l, i, before_names body (task (NextKey x keys body) at none ∷ tasks) (tt, j))

  loop_left_names : (kind : LoopKind) (tasks : List Task) → TasksName S tasks → TasksName S (s.left kind tasks)
  loop_left_names kind [] h = tt
  loop_left_names kind (t ∷ tasks) (q, h) = here (s.is_loop kind t.job) (loop_left_names kind tasks h)
    where
      here : (b : Bool) → TasksName S (s.left kind tasks) → TasksName S (cond b tasks (s.left kind tasks))
      here true j = h
      here false j = j

  returned_names : (x : Setting) (vs : List StoreValue) (at : Place) → Each (ValueNames S) vs → DidNames (s.returned x vs at)
  returned_names x [] at h = tt
  returned_names x (v ∷ vs) at (q, h) = of_type (typed x.function.callee.value v) (typed_names x.function.callee.value v q)
    where
      of_type : (y : Option StoreValue) → IfSome (ValueNames S) y → DidNames (s.returned_as y at)
      of_type None k = tt
      of_type (Some u) k = k

  bind_names : (x : Text) (kind : Option TypeWord) (vs : List StoreValue) (locals : Locals) (store : Store) (tasks : List Task) (at : Place) → Each (ValueNames S) vs → LocalsName S locals → StoreNames S store → TasksName S tasks → DidNames (s.bind x kind vs locals store tasks at)
  bind_names x kind [] locals store tasks at h l i j = tt
  bind_names x kind (v ∷ []) locals store tasks at (q, h) l i j = of_type (typed kind v) (typed_names kind v q)
    where
      of_type : (y : Option StoreValue) → IfSome (ValueNames S) y → DidNames (s.bound_as x y locals store tasks at)
      of_type None k = tt
      of_type (Some u) k = (assigned_names x u locals k l, i, j)
  bind_names x kind (v ∷ u ∷ vs) locals store tasks at h l i j = tt

  shown_names : (x : Printing) (at : Place) → DidNames (s.shown x at)
  shown_names (Printed text) at = tt
  shown_names (Unprinted e) at = tt

  act_names : (x : Setting) (job : Job) (at : Place) (vs : List StoreValue) (store : Store) (tasks : List Task) → SettingNames S x → JobNames S job → Each (ValueNames S) vs → StoreNames S store → TasksName S tasks → DidNames (act x job at vs store tasks)
  act_names x (Does (f.Set aim)) at vs store tasks q y h i j = set_names x aim vs store tasks at q h i j
  act_names x (Does (f.Update aim sign there e)) at vs store tasks q y h i j = read_names (target_read x aim vs store) (under (Combines aim sign there) at vs (more e none)) at (target_read_names S x aim vs store q h i) (tt, h)
  act_names x (Combines aim sign there) at [] store tasks q y h i j = tt
  act_names x (Combines aim sign there) at (v ∷ []) store tasks q y h i j = tt
  act_names x (Combines aim sign there) at (v ∷ u ∷ vs) store tasks q y (hv, (hu, h)) i j = combine_names aim (binary (updating sign) (v ∷ u ∷ []) store) there vs at (binary_names S (updating sign) (v ∷ u ∷ []) store i) h
  act_names x (Does f.Drop) at vs store tasks (q, l) y h i j = (l, i, j)
  act_names x (Does (f.Print marks)) at vs store tasks q y h i j = shown_names (printed marks (reverse vs) store) at
  act_names x (Does f.Return) at vs store tasks q y h i j = returned_names x vs at h
  act_names x (Does (f.Exit kind)) at vs store tasks (q, l) y h i j = (l, i, loop_left_names kind tasks j)
  act_names x (Does (f.If one other)) at vs store tasks (q, l) y h i j = chosen_names vs x.locals store (before one tasks) (before other tasks) at l i (before_names one tasks j) (before_names other tasks j)
  act_names x (Does (f.While e body)) at vs store tasks (q, l) y h i j = (l, i, (tt, j))
  act_names x (Tests e body) at vs store tasks (q, l) y h i j = chosen_names vs x.locals store (before body (task (Again e body) at none ∷ tasks)) tasks at l i (before_names body (task (Again e body) at none ∷ tasks) (tt, j)) j
  act_names x (Again e body) at vs store tasks (q, l) y h i j = (l, i, (tt, j))
  act_names x (Does (f.For there n body)) at vs store tasks (q, l) y h i j = begin_for_names n vs body x.locals store tasks at h l i j
  act_names x (Compares n end step body) at vs store tasks (q, l) y h i j =
      compare_names (s.variable_number (local n x.locals)) (s.number end) (s.number step) x.locals store (before body (task (Increases n end step body) at none ∷ tasks)) tasks at l i (before_names body (task (Increases n end step body) at none ∷ tasks) (y, j)) j
  act_names x (Increases n end step body) at vs store tasks (q, l) y h i j = increased_names n (s.stepped (local n x.locals) step store) x.locals (task (Compares n end step body) at none) tasks at (stepped_names (local n x.locals) step store i) l y j
  act_names x (Does (f.ForEach there n body)) at vs store tasks (q, l) y h i j = begin_each_names n vs body x.locals store tasks at h l i j
  act_names x (NextItem n v k body) at vs store tasks (q, l) y h i j =
      next_item_names n (slice_get (s.items_of (s.object_at v store)) k) x.locals store (before body (task (NextItem n v (suc k) body) at none ∷ tasks)) tasks
      (each_get (ValueNames S) (s.items_of (s.object_at v store)) k (items_names v store i)) l i (before_names body (task (NextItem n v (suc k) body) at none ∷ tasks) (y, j)) j
  act_names x (NextKey n keys body) at vs store tasks (q, l) y h i j = next_key_names n keys at body x.locals store tasks l i j
  act_names x (Binds n kind) at vs store tasks (q, l) y h i j = bind_names n kind vs x.locals store tasks at h l i j

  after_did_names : (x : Did) (call : Call) (at : Place) (todo : List Task) (below : List Held) (store : Store) → DidNames x → CallNames S call → TasksName S todo → Each (HeldNames S) below → StoreNames S store → ReducedNames S (after_did x call at todo below store)
  after_did_names (d.Goes locals new tasks) call at todo below store (y, i, h) (q, l) j k z = (tt, next_names (r.with_locals call locals) tasks below (q, y) h k, i)
  after_did_names (d.Continues v base new) call at todo below store (y, h, i) q j k z = (tt, (q, give_under_names v base y h, j, k), i)
  after_did_names (d.Awaits request hole) call at todo below store (y, h) q j k z = (y, ((q, h, j), k), z)
  after_did_names (d.Prints text) call at todo below store y q j k z = (tt, next_names call todo below q j k, z)
  after_did_names (d.Returns v) call at todo below store y q j k z = leave_names call.kind v (place_in call.function at) below store y k z
  after_did_names (d.Breaks e there) call at todo below store y q j k z = (tt, tt, z)

  pub step_names : (x : Program) (actor : ℕ) (homes : List Home) (tree : Tree) (store : Store) → S 1 → HomesName S homes → CallsName S tree → StoreNames S store → ReducedNames S (reduce x actor homes tree store)
  step_names x actor homes (Waits below) store one hs h z = (tt, h, z)
  step_names x actor homes (Works call (AtHead head at vs context base) tasks below) store one hs (q, (h, k, i), j, l) z =
      after_given_names (contract (setting_of x actor homes call) head at vs store) homes call at context base tasks below store
      (contract_names S (setting_of x actor homes call) head at vs store one q h z) hs q k i j l z
  step_names x actor homes (Works call (AtDecided head at v e es context base) tasks below) store one hs (q, (h, k, i), j, l) z = (tt, (q, give_names v context base h k i, j, l), z)
  step_names x actor homes (Works call (AtJob job at vs) tasks below) store one hs (q, (y, h), j, l) z =
      after_did_names (act (setting_of x actor homes call) job at vs store tasks) call at tasks below store (act_names (setting_of x actor homes call) job at vs store tasks q y h z j) q j l z
  step_names x actor homes (Works call AtEnd tasks below) store one hs (q, h, j, l) z = leave_names call.kind (Scalar p.Invalid) (place_in call.function call.function.heading) below store tt l z
  step_names x actor homes (Works call (AtFailure e at) tasks below) store one hs (q, h, j, l) z = (tt, tt, z)

  -- ---- what the world does

  received_names : (v : StoreValue) (tree : Tree) → ValueNames S v → CallsName S tree → CallsName S (received v tree)
  received_names v (Works call spot tasks below) q h = h
  received_names v (Waits []) q h = tt
  received_names v (Waits (x ∷ below)) q ((h, i, j), k) = filled_names v x.call x.hole x.tasks below q h i j k

  failing_names : (e : ErrorCode) (tree : Tree) → CallsName S tree → CallsName S (w.failing e tree)
  failing_names e (Works call spot tasks below) h = h
  failing_names e (Waits []) h = tt
  failing_names e (Waits (x ∷ below)) ((h, i, j), k) = (h, tt, j, k)

  pub reply_names : (reply : Reply) (tree : Tree) (store : Store) → ReplyNames S reply → CallsName S tree → StoreNames S store → StateNames S (replied reply tree store)
  reply_names (w.Value t) tree store q h z = (received_names _ tree (laid_names S (length store) t q) h, with_tree_names S store t z q)
  reply_names (w.Told message) tree store q h z = (received_names _ tree tt h, each_append (ObjectNames S) store (MessageObject message ∷ []) z (q, tt))
  reply_names (w.Failed e) tree store q h z = (failing_names e tree h, z)

  abbrev BroughtNames : w.Brought → Type 0
  BroughtNames b = Each (ValueNames S) b.values × StoreNames S b.store

  where_taken_names : (params : Params) (one : w.Brought) (store : Store) → BroughtNames one → StoreNames S store → BroughtNames (where_taken params one store)
  where_taken_names unnamed one store h z = (tt, z)
  where_taken_names (required place name kind rest) one store h z = h
  where_taken_names (optional place name kind default rest) one store h z = h

  bring_names : (arguments : Arguments) (params : Params) (store : Store) → ArgumentsName S arguments → StoreNames S store → BroughtNames (bring arguments params store)
  bring_names (w.Values ts) params store h z =
      (all_laid_names S (length store) (trees ts) (trees_name S ts h), each_append (ObjectNames S) store (all_objects (length store) (trees ts)) z (all_objects_name S (length store) (trees ts) (trees_name S ts h)))
  bring_names (w.Message' message) params store h z = where_taken_names params _ store ((tt, tt), each_append (ObjectNames S) store (MessageObject message ∷ []) z (h, tt)) z
  bring_names w.Start params store h z = where_taken_names params _ store ((tt, tt), each_append (ObjectNames S) store (MapObject [] ∷ []) z (tt, tt)) z

  put_with_names : (b : Begun) (below : List Held) (store : Store) → BegunNames b → Each (HeldNames S) below → StoreNames S store → PutNames S (put_with b below store)
  put_with_names (Begins call tasks) below store (h, i) k z = (next_names call tasks below h i k, z)
  put_with_names (Refuses e) below store h k z = tt

  pub call_names : (x : Function) (home : ℕ) (homes : List Home) (arguments : Arguments) (below : List Held) (store : Store) → ArgumentsName S arguments → HomesName S homes → Each (HeldNames S) below → StoreNames S store → PutNames S (put x home homes arguments below store)
  call_names x home homes arguments below store h hs k z =
      let b = bring arguments x.callee.params store in
      let n = bring_names arguments x.callee.params store h z in
      put_with_names (begun OnTop x home (home_of homes home).m b.values (length below)) below b.store (begun_names OnTop x home (home_of homes home).m b.values (length below) (home_names homes home hs) n.0) k n.1
