-- What holds of the trees of every run is kept by each step, and by each answer and call on top.
use Rattle.std.proofs.Common.{◌≡◌, ℕ, suc, List, [], ◌∷◌, ◌++◌, Option, Some, None, refl, sym, subst}
use Rattle.std.specs.Prelude.{ℤ, Bool, true, false, length, reverse, cond, slice_get, nat_le}
use Rattle.brs_tokens.specs.declared.place.Place as t
use Rattle.chan_values.specs.declared.place.Place as c
use Rattle.chan_values.specs.declared.error_code.ErrorCode.TheVariants.{E6, E8}
use Rattle.chan_values.specs.Tree as v
use Rattle.heap_meaning.specs.declared.plain.Plain.TheVariants.{Invalid, Truth, Small, Big, Screen, Function as Function', Node as NodeNumber, Port as PortNumber}
use Rattle.heap_meaning.specs.Values.{StoreValue, Scalar, Words, Reference}
use Rattle.heap_meaning.specs.Store.{Object, ArrayObject, MapObject, MessageObject, Store}
use Rattle.brs_grammar.specs.declared.tree.TypeWord.{TypeWord}
use Rattle.brs_grammar.specs.declared.tree.UpdateSign.{UpdateSign}
use Rattle.brs_grammar.specs.Form.{Text, Aim, ToName, ToMember, ToIndex, Head, Form, Node, Forms, none, more, Set, Update, Drop, Print, Return, Exit, If, While, For, ForEach, Todo}
use Rattle.brs_meaning.specs.Program.{Function, place_in}
use Rattle.brs_meaning.specs.Locals.{Home, Locals, local}
use Rattle.brs_meaning.specs.Given as g
use Rattle.brs_meaning.specs.Given.{Given, Setting}
use Rattle.brs_meaning.specs.Did as d
use Rattle.brs_meaning.specs.Did.{Did}
use Rattle.brs_meaning.specs.Running.{Kind, Inner, OnTop, Call, Job, Does, Combines, Tests, Again, Compares, Increases, NextItem, NextKey, Binds, Task, before, Around, around, Under, under, AtHead, AtDecided, AtJob, AtEnd, AtFailure, Hole, Operand, Ends, Held, Tree, Works, Waits}
use Rattle.brs_meaning.specs.Moving.{decides, down, begin, give_under, go_on, give, next, filled}
use Rattle.brs_meaning.specs.Binding.{Begun, Begins, Refuses, begun, begun_with, bound, suits, defaults, most_calls}
use Rattle.brs_meaning.specs.Heads.{binary, contract}
use Rattle.brs_meaning.specs.Operators.{updating}
use Rattle.brs_meaning.specs.Statements as s
use Rattle.brs_meaning.specs.Statements.{act}
use Rattle.brs_meaning.specs.Leaving.{leaving}
use Rattle.brs_meaning.specs.Typed.{typed}
use Rattle.brs_meaning.specs.Printing.{Printing, Printed, Unprinted, printed}
use Rattle.brs_meaning.specs.Members.{target_read, target_written}
use Rattle.brs_meaning.specs.Reduction as r
use Rattle.brs_meaning.specs.Reduction.{reduce, after_given, after_did, home_of, setting_of, own_or}
use Rattle.brs_meaning.specs.Held.{Undecided, AllUndecided, SpotIs, HoleIs, CallsAre, IsTree, StepKeeps, RepliesKeep, PutIs, PutsKeep}
use Rattle.brs_meaning.specs.Answering.{Value, Told, Failed, received, replied, bring, put_with}
use Rattle.chan_values.specs.declared.error_code.ErrorCode.{ErrorCode}

-- ---- from one redex to the next

down_is : (f : Form) (context : List Around) (base : Under) → AllUndecided context → SpotIs (down f context base)
down_is (Node head at none) context base u = (tt, u)
down_is (Node head at (more f fs)) context base u = down_is f (around head at [] fs ∷ context) base (tt, u)

begin_is : (job : Job) (at : t.Place) (fs : Forms) → SpotIs (begin job at fs)
begin_is job at none = tt
begin_is job at (more f fs) = down_is f [] (under job at [] fs) tt

give_under_is : (v : StoreValue) (base : Under) → SpotIs (give_under v base)
give_under_is v (under job at done none) = tt
give_under_is v (under job at done (more f fs)) = down_is f [] (under job at (v ∷ done) fs) tt

go_on_is : (v : StoreValue) (head : Head) (at : t.Place) (done : List StoreValue) (f : Form) (fs : Forms) (context : List Around) (base : Under) → Undecided head done → AllUndecided context → SpotIs (go_on v head at done f fs context base)
go_on_is v head at [] f fs context base u us = by_choice (decides head v) refl
  where
    by_choice : (b : Bool) → decides head v ≡ b → SpotIs (cond b (AtDecided head at v f fs context base) (down f (around head at (v ∷ []) fs ∷ context) base))
    by_choice true e = (e, us)
    by_choice false e = down_is f (around head at (v ∷ []) fs ∷ context) base (e, us)
go_on_is v head at (w ∷ ws) f fs context base u us = down_is f (around head at (v ∷ w ∷ ws) fs ∷ context) base (u, us)

give_is : (v : StoreValue) (context : List Around) (base : Under) → AllUndecided context → SpotIs (give v context base)
give_is v [] base us = give_under_is v base
give_is v (around head at done none ∷ context) base (u, us) = (u, us)
give_is v (around head at done (more f fs) ∷ context) base (u, us) = go_on_is v head at done f fs context base u us

next_is : (call : Call) (tasks : List Task) (below : List Held) → CallsAre call.kind below → IsTree (next call tasks below)
next_is call [] below are = (tt, are)
next_is call (k ∷ tasks) below are = (begin_is k.job k.place k.operands, are)

filled_is : (v : StoreValue) (call : Call) (hole : Hole) (tasks : List Task) (below : List Held) → HoleIs hole → CallsAre call.kind below → IsTree (filled v call hole tasks below)
filled_is v call (Operand context base) tasks below u are = (give_is v context base u, are)
filled_is v call Ends tasks below u are = next_is call tasks below are

-- what waits is as what was put on top of it
open_is : (kind : Kind) (below : List Held) → CallsAre kind below → CallsAre OnTop below
open_is OnTop below are = are
open_is Inner [] are = absurd are
open_is Inner (h ∷ below) (fits, u, are) = (tt, u, are)

left_is : (o : Option v.Tree) (at : c.Place) (below : List Held) (store : Store) → CallsAre OnTop below → IsTree (r.left o at below store).tree
left_is None at below store are = are
left_is (Some t) at below store are = are

leave_is : (kind : Kind) (v : StoreValue) (at : c.Place) (below : List Held) (store : Store) → CallsAre kind below → IsTree (r.leave kind v at below store).tree
leave_is OnTop v at below store are = left_is (leaving store v) at below store are
leave_is Inner v at [] store are = absurd are
leave_is Inner v at (h ∷ below) store (fits, u, are) = filled_is v h.call h.hole h.tasks below u are

-- ---- calls that begin

abbrev BegunIs : Kind → Begun → Type 0
BegunIs kind (Begins call tasks) = call.kind ≡ kind
BegunIs kind (Refuses e) = Unit {0}

begun_is : (kind : Kind) (f : Function) (home : ℕ) (m : StoreValue) (arguments : List StoreValue) (calls : ℕ) → BegunIs kind (begun kind f home m arguments calls)
begun_is kind f home m arguments calls = by_number (suits f.callee.params (length arguments))
  where
    by_types : (o : Option Locals) (tasks : List Task) → BegunIs kind (begun_with kind f home m o tasks)
    by_types None tasks = tt
    by_types (Some locals) tasks = refl

    by_depth : (b : Bool) (tasks : List Task) → BegunIs kind (cond b (Refuses E8) (begun_with kind f home m (bound f.callee.params arguments) tasks))
    by_depth true tasks = tt
    by_depth false tasks = by_types (bound f.callee.params arguments) tasks

    by_number : (b : Bool) → BegunIs kind (cond b (cond (nat_le most_calls calls) (Refuses E8) (begun_with kind f home m (bound f.callee.params arguments) (defaults f.callee.params (length arguments) ++ before f.callee.body []))) (Refuses E6))
    by_number true = by_depth (nat_le most_calls calls) (defaults f.callee.params (length arguments) ++ before f.callee.body [])
    by_number false = tt

entered_is : (b : Begun) (call : Call) (at : t.Place) (context : List Around) (base : Under) (todo : List Task) (below : List Held) (store : Store) → BegunIs Inner b → AllUndecided context → CallsAre call.kind below → IsTree (r.entered b call at (Operand context base) todo below store).tree
entered_is (Begins inner tasks) call at context base todo below store is u are =
    next_is inner tasks (record { call = call; place = at; hole = Operand context base; tasks = todo } ∷ below)
    (subst (λ k. CallsAre k (record { call = call; place = at; hole = Operand context base; tasks = todo } ∷ below)) (sym is) (tt, u, are))
entered_is (Refuses e) call at context base todo below store is u are = tt

given_is : (x : Given) (homes : List Home) (call : Call) (at : t.Place) (context : List Around) (base : Under) (todo : List Task) (below : List Held) (store : Store) → AllUndecided context → CallsAre call.kind below → IsTree (after_given x homes call at context base todo below store).tree
given_is (g.Gives v new) homes call at context base todo below store u are = (give_is v context base u, are)
given_is (g.Calls f m arguments) homes call at context base todo below store u are =
    entered_is (begun Inner f call.home (own_or m (home_of homes call.home).m) arguments (suc (length below))) call at context base todo below store
    (begun_is Inner f call.home (own_or m (home_of homes call.home).m) arguments (suc (length below))) u are
given_is (g.Wants request) homes call at context base todo below store u are = (tt, u, are)
given_is (g.Fails e) homes call at context base todo below store u are = tt

-- ---- statements

abbrev DidIs : Did → Type 0
DidIs (d.Awaits request hole) = HoleIs hole
DidIs _ = Unit {0}

written_is : (x : Given) (locals : Locals) (tasks : List Task) (at : t.Place) → DidIs (s.written x locals tasks at)
written_is (g.Gives v store) locals tasks at = tt
written_is (g.Wants request) locals tasks at = tt
written_is (g.Fails e) locals tasks at = tt
written_is (g.Calls f m vs) locals tasks at = tt

set_is : (x : Setting) (aim : Aim) (vs : List StoreValue) (store : Store) (tasks : List Task) (at : t.Place) → DidIs (s.set x aim vs store tasks at)
set_is x aim [] store tasks at = none_is aim
  where
    none_is : (aim : Aim) → DidIs (s.set x aim [] store tasks at)
    none_is (ToName n) = tt
    none_is (ToMember k) = tt
    none_is ToIndex = tt
set_is x (ToName n) (v ∷ []) store tasks at = tt
set_is x (ToName n) (v ∷ w ∷ vs) store tasks at = written_is (target_written (ToName n) (w ∷ vs) v store) x.locals tasks at
set_is x (ToMember k) (v ∷ vs) store tasks at = written_is (target_written (ToMember k) vs v store) x.locals tasks at
set_is x ToIndex (v ∷ vs) store tasks at = written_is (target_written ToIndex vs v store) x.locals tasks at

read_is : (x : Given) (base : Under) (at : t.Place) → DidIs (s.read_first x base at)
read_is (g.Gives v store) base at = tt
read_is (g.Wants request) base at = tt
read_is (g.Fails e) base at = tt
read_is (g.Calls f m vs) base at = tt

combine_is : (aim : Aim) (x : Given) (there : t.Place) (operands : List StoreValue) (at : t.Place) → DidIs (s.combine aim x there operands at)
combine_is aim (g.Gives v store) there operands at = tt
combine_is aim (g.Wants request) there operands at = tt
combine_is aim (g.Fails e) there operands at = tt
combine_is aim (g.Calls f m vs) there operands at = tt

either : (b : Bool) (x y : Did) → DidIs x → DidIs y → DidIs (cond b x y)
either true x y i j = i
either false x y i j = j

chosen_is : (vs : List StoreValue) (locals : Locals) (store : Store) (one other : List Task) (at : t.Place) → DidIs (s.chosen vs locals store one other at)
chosen_is [] locals store one other at = tt
chosen_is (Scalar Invalid ∷ []) locals store one other at = tt
chosen_is (Scalar (Truth true) ∷ []) locals store one other at = tt
chosen_is (Scalar (Truth false) ∷ []) locals store one other at = tt
chosen_is (Scalar (Small n) ∷ []) locals store one other at = tt
chosen_is (Scalar (Big n) ∷ []) locals store one other at = tt
chosen_is (Scalar (Function' n) ∷ []) locals store one other at = tt
chosen_is (Scalar (NodeNumber n) ∷ []) locals store one other at = tt
chosen_is (Scalar (PortNumber n) ∷ []) locals store one other at = tt
chosen_is (Scalar Screen ∷ []) locals store one other at = tt
chosen_is (Words b ∷ []) locals store one other at = tt
chosen_is (Reference n ∷ []) locals store one other at = tt
chosen_is (v ∷ w ∷ vs) locals store one other at = two v
  where
    two : (v : StoreValue) → DidIs (s.chosen (v ∷ w ∷ vs) locals store one other at)
    two (Scalar Invalid) = tt
    two (Scalar (Truth true)) = tt
    two (Scalar (Truth false)) = tt
    two (Scalar (Small n)) = tt
    two (Scalar (Big n)) = tt
    two (Scalar (Function' n)) = tt
    two (Scalar (NodeNumber n)) = tt
    two (Scalar (PortNumber n)) = tt
    two (Scalar Screen) = tt
    two (Words b) = tt
    two (Reference n) = tt

begin_for_is : (x : Text) (vs : List StoreValue) (body : Todo) (locals : Locals) (store : Store) (tasks : List Task) (at : t.Place) → DidIs (s.begin_for x vs body locals store tasks at)
begin_for_is x [] body locals store tasks at = tt
begin_for_is x (a ∷ []) body locals store tasks at = tt
begin_for_is x (b ∷ a ∷ []) body locals store tasks at = either (s.numbers (s.number a) (s.number b) _) _ _ tt tt
begin_for_is x (c ∷ b ∷ a ∷ []) body locals store tasks at = either (s.numbers (s.number a) (s.number b) (s.number c)) _ _ tt tt
begin_for_is x (c ∷ b ∷ a ∷ e ∷ vs) body locals store tasks at = tt

compare_is : (now end step : Option ℤ) (locals : Locals) (store : Store) (one other : List Task) (at : t.Place) → DidIs (s.compare now end step locals store one other at)
compare_is (Some now) (Some end) (Some step) locals store one other at = either (s.within now end step) _ _ tt tt
compare_is None end step locals store one other at = tt
compare_is (Some now) None step locals store one other at = tt
compare_is (Some now) (Some end) None locals store one other at = tt

increased_is : (x : Text) (y : Given) (locals : Locals) (again : Task) (tasks : List Task) (at : t.Place) → DidIs (s.increased x y locals again tasks at)
increased_is x (g.Gives v store) locals again tasks at = tt
increased_is x (g.Wants request) locals again tasks at = tt
increased_is x (g.Fails e) locals again tasks at = tt
increased_is x (g.Calls f m vs) locals again tasks at = tt

each_is : (x : Text) (v : StoreValue) (o : Option Object) (body : Todo) (locals : Locals) (store : Store) (tasks : List Task) (at : t.Place) → DidIs (s.each_begun x v o body locals store tasks at)
each_is x v (Some (ArrayObject items)) body locals store tasks at = tt
each_is x v (Some (MapObject entries)) body locals store tasks at = tt
each_is x v (Some (MessageObject message)) body locals store tasks at = tt
each_is x v None body locals store tasks at = tt

begin_each_is : (x : Text) (vs : List StoreValue) (body : Todo) (locals : Locals) (store : Store) (tasks : List Task) (at : t.Place) → DidIs (s.begin_each x vs body locals store tasks at)
begin_each_is x [] body locals store tasks at = tt
begin_each_is x (v ∷ []) body locals store tasks at = each_is x v (s.object_at v store) body locals store tasks at
begin_each_is x (v ∷ w ∷ vs) body locals store tasks at = tt

next_item_is : (x : Text) (o : Option StoreValue) (locals : Locals) (store : Store) (one other : List Task) → DidIs (s.next_item x o locals store one other)
next_item_is x None locals store one other = tt
next_item_is x (Some v) locals store one other = tt

next_key_is : (x : Text) (keys : List Text) (again : List Text → Task) (body : Todo) (locals : Locals) (store : Store) (tasks : List Task) → DidIs (s.next_key x keys again body locals store tasks)
next_key_is x [] again body locals store tasks = tt
next_key_is x (k ∷ keys) again body locals store tasks = tt

returned_is : (x : Setting) (vs : List StoreValue) (at : t.Place) → DidIs (s.returned x vs at)
returned_is x [] at = tt
returned_is x (v ∷ vs) at = typed_is (typed x.function.callee.value v)
  where
    typed_is : (o : Option StoreValue) → DidIs (s.returned_as o at)
    typed_is None = tt
    typed_is (Some w) = tt

bind_is : (x : Text) (kind : Option TypeWord) (vs : List StoreValue) (locals : Locals) (store : Store) (tasks : List Task) (at : t.Place) → DidIs (s.bind x kind vs locals store tasks at)
bind_is x kind [] locals store tasks at = tt
bind_is x kind (v ∷ []) locals store tasks at = typed_is (typed kind v)
  where
    typed_is : (o : Option StoreValue) → DidIs (s.bound_as x o locals store tasks at)
    typed_is None = tt
    typed_is (Some w) = tt
bind_is x kind (v ∷ w ∷ vs) locals store tasks at = tt

shown_is : (x : Printing) (at : t.Place) → DidIs (s.shown x at)
shown_is (Printed text) at = tt
shown_is (Unprinted e) at = tt

combines_is : (x : Setting) (aim : Aim) (sign : UpdateSign) (there at : t.Place) (vs : List StoreValue) (store : Store) (tasks : List Task) → DidIs (act x (Combines aim sign there) at vs store tasks)
combines_is x aim sign there at [] store tasks = tt
combines_is x aim sign there at (v ∷ []) store tasks = tt
combines_is x aim sign there at (v ∷ w ∷ vs) store tasks = combine_is aim (binary (updating sign) (v ∷ w ∷ []) store) there vs at

act_is : (x : Setting) (job : Job) (at : t.Place) (vs : List StoreValue) (store : Store) (tasks : List Task) → DidIs (act x job at vs store tasks)
act_is x (Does (Set aim)) at vs store tasks = set_is x aim vs store tasks at
act_is x (Does (Update aim sign there e)) at vs store tasks = read_is (target_read x aim vs store) (under (Combines aim sign there) at vs (more e none)) at
act_is x (Combines aim sign there) at vs store tasks = combines_is x aim sign there at vs store tasks
act_is x (Does Drop) at vs store tasks = tt
act_is x (Does (Print marks)) at vs store tasks = shown_is (printed marks (reverse vs) store) at
act_is x (Does Return) at vs store tasks = returned_is x vs at
act_is x (Does (Exit kind)) at vs store tasks = tt
act_is x (Does (If one other)) at vs store tasks = chosen_is vs x.locals store (before one tasks) (before other tasks) at
act_is x (Does (While c body)) at vs store tasks = tt
act_is x (Tests c body) at vs store tasks = chosen_is vs x.locals store _ tasks at
act_is x (Again c body) at vs store tasks = tt
act_is x (Does (For there n body)) at vs store tasks = begin_for_is n vs body x.locals store tasks at
act_is x (Compares n end step body) at vs store tasks = compare_is (s.variable_number (local n x.locals)) (s.number end) (s.number step) x.locals store _ tasks at
act_is x (Increases n end step body) at vs store tasks = increased_is n (s.stepped (local n x.locals) step store) x.locals _ tasks at
act_is x (Does (ForEach there n body)) at vs store tasks = begin_each_is n vs body x.locals store tasks at
act_is x (NextItem n v i body) at vs store tasks = next_item_is n (slice_get (s.items_of (s.object_at v store)) i) x.locals store _ tasks
act_is x (NextKey n keys body) at vs store tasks = next_key_is n keys _ body x.locals store tasks
act_is x (Binds n kind) at vs store tasks = bind_is n kind vs x.locals store tasks at

did_is : (x : Did) (call : Call) (at : t.Place) (todo : List Task) (below : List Held) (store : Store) → DidIs x → CallsAre call.kind below → IsTree (after_did x call at todo below store).tree
did_is (d.Goes locals new tasks) call at todo below store is are = next_is (r.with_locals call locals) tasks below are
did_is (d.Continues v base new) call at todo below store is are = (give_under_is v base, are)
did_is (d.Awaits request hole) call at todo below store is are = (tt, is, are)
did_is (d.Prints text) call at todo below store is are = next_is call todo below are
did_is (d.Returns v) call at todo below store is are = leave_is call.kind v (place_in call.function at) below store are
did_is (d.Breaks e there) call at todo below store is are = tt

pub step_keeps : StepKeeps
step_keeps p actor homes (Waits below) store is = is
step_keeps p actor homes (Works call (AtHead head at vs context base) tasks below) store ((settled, u), are) =
    given_is (contract (setting_of p actor homes call) head at vs store) homes call at context base tasks below store u are
step_keeps p actor homes (Works call (AtDecided head at v f fs context base) tasks below) store ((e, u), are) = (give_is v context base u, are)
step_keeps p actor homes (Works call (AtJob job at vs) tasks below) store (is, are) =
    did_is (act (setting_of p actor homes call) job at vs store tasks) call at tasks below store (act_is (setting_of p actor homes call) job at vs store tasks) are
step_keeps p actor homes (Works call AtEnd tasks below) store (is, are) = leave_is call.kind (Scalar Invalid) (place_in call.function call.function.heading) below store are
step_keeps p actor homes (Works call (AtFailure e at) tasks below) store is = tt

-- ---- what the world does

received_is : (v : StoreValue) (tree : Tree) → IsTree tree → IsTree (received v tree)
received_is v (Works call spot tasks below) is = is
received_is v (Waits []) is = is
received_is v (Waits (h ∷ below)) (fits, u, are) = filled_is v h.call h.hole h.tasks below u are

failing_is : (e : ErrorCode) (tree : Tree) (store : Store) → IsTree tree → IsTree (replied (Failed e) tree store).tree
failing_is e (Works call spot tasks below) store is = is
failing_is e (Waits []) store is = is
failing_is e (Waits (h ∷ below)) store (fits, u, are) = (tt, are)

pub replies_keep : RepliesKeep
replies_keep (Value t) tree store is = received_is _ tree is
replies_keep (Told message) tree store is = received_is _ tree is
replies_keep (Failed e) tree store is = failing_is e tree store is

put_with_is : (b : Begun) (below : List Held) (store : Store) → BegunIs OnTop b → CallsAre OnTop below → PutIs (put_with b below store)
put_with_is (Begins call tasks) below store is are = next_is call tasks below (subst (λ k. CallsAre k below) (sym is) are)
put_with_is (Refuses e) below store is are = tt

pub puts_keep : PutsKeep
puts_keep f home homes arguments below store are =
    let b = bring arguments f.callee.params store in
    put_with_is (begun OnTop f home (home_of homes home).m b.values (length below)) below b.store (begun_is OnTop f home (home_of homes home).m b.values (length below)) are
