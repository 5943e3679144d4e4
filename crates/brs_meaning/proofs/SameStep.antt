-- The step of the whole tree is the step at the place where it is held.
use mathlib.Core.List.{reverse_aux}
use Rattle.std.proofs.Common.{◌≡◌, ℕ, suc, List, [], ◌∷◌, Option, Some, None, refl, sym, ap, ◌∙◌}
use Rattle.std.specs.Prelude.{Bool, true, false, reverse, length, cond}
use Rattle.std.proofs.lemmas.List.{reverse-reverse}
use Rattle.brs_tokens.specs.declared.place.Place as t
use Rattle.chan_values.specs.declared.place.Place as c
use Rattle.chan_values.specs.Tree as v
use Rattle.heap_meaning.specs.declared.plain.Plain.TheVariants.{Invalid}
use Rattle.heap_meaning.specs.Values.{StoreValue, Scalar}
use Rattle.heap_meaning.specs.Store.{Store}
use Rattle.brs_grammar.specs.Form.{Head, Form, Node, Forms, none, more}
use Rattle.brs_meaning.specs.Program.{Program, place_in}
use Rattle.brs_meaning.specs.Locals.{Home}
use Rattle.brs_meaning.specs.Given as g
use Rattle.brs_meaning.specs.Given.{Given}
use Rattle.brs_meaning.specs.Did as d
use Rattle.brs_meaning.specs.Did.{Did}
use Rattle.brs_meaning.specs.Running.{Kind, Inner, OnTop, Call, Job, Task, Around, around, Under, under, Spot, AtHead, AtDecided, AtJob, AtEnd, AtFailure, Hole, Operand, Ends, Held, Works}
use Rattle.brs_meaning.specs.Moving.{decides, down, begin, give_under, go_on, give, next, filled}
use Rattle.brs_meaning.specs.Binding.{Begun, Begins, Refuses, begun}
use Rattle.brs_meaning.specs.Heads.{contract}
use Rattle.brs_meaning.specs.Statements.{act}
use Rattle.brs_meaning.specs.Leaving.{leaving}
use Rattle.brs_meaning.specs.Reduction as r
use Rattle.brs_meaning.specs.Reduction.{Went, Asked, Printed, Raised, Returned, TooBig, reduce, after_given, after_did, with_locals, home_of, setting_of, own_or}
use Rattle.brs_meaning.specs.Plain.{Part, Value, Makes, Runs, Open, Parts, nothing, also, Statement, Does, part_of, parts_of, Moved, Moves, Breaks, Rests, within, Look, Steps, LookAll, AllValues, StepsIn, LookStatement, StepsStatement, start, onto, plug_under, plug, plug_hole, out, gone, entered, given, did, decided, after_value, in_order, node, statement, awaiting, call_step, look, look_all, look_statement, step}
use Rattle.brs_meaning.specs.Held.{statement_of, beneath, part_of_tree, moved_of, Undecided, Settled, AllUndecided, SpotIs, HoleIs, CallsAre, SameStep, NoStep, ReceivedIn, ReceivedAtEnd}

within_twice : {A B C : Type 0} (f : A → B) (g : B → C) (m : Moved A) → within g (within f m) ≡ within (λ a. g (f a)) m
within_twice f g (Moves o a s) = refl
within_twice f g (Breaks e at s) = refl
within_twice f g Rests = refl

within_same : {A : Type 0} (m : Moved A) → m ≡ within (λ q. q) m
within_same (Moves o a s) = refl
within_same (Breaks e at s) = refl
within_same Rests = refl

-- ---- from one redex to the next the tree is the same

chosen_spot : (b : Bool) (x y : Spot) (z : Statement) → statement_of x ≡ z → statement_of y ≡ z → statement_of (cond b x y) ≡ z
chosen_spot true x y z e f = e
chosen_spot false x y z e f = f

plug_down : (x : Form) (context : List Around) (base : Under) → statement_of (down x context base) ≡ plug (part_of x) context base
plug_down (Node head at none) context base = refl
plug_down (Node head at (more f fs)) context base = plug_down f (around head at [] fs ∷ context) base

plug_begin : (job : Job) (at : t.Place) (fs : Forms) → statement_of (begin job at fs) ≡ Does job at (parts_of fs)
plug_begin job at none = refl
plug_begin job at (more f fs) = plug_down f [] (under job at [] fs)

plug_give_under : (v : StoreValue) (base : Under) → statement_of (give_under v base) ≡ plug_under (Value v) base
plug_give_under v (under job at done none) = refl
plug_give_under v (under job at done (more f fs)) = plug_down f [] (under job at (v ∷ done) fs)

plug_go_on : (v : StoreValue) (head : Head) (at : t.Place) (done : List StoreValue) (f : Form) (fs : Forms) (context : List Around) (base : Under) → statement_of (go_on v head at done f fs context base) ≡ plug (Makes head at (onto done (also (Value v) (parts_of (more f fs))))) context base
plug_go_on v head at [] f fs context base =
    chosen_spot (decides head v) (AtDecided head at v f fs context base) (down f (around head at (v ∷ []) fs ∷ context) base) (plug (Makes head at (also (Value v) (parts_of (more f fs)))) context base) refl
    (plug_down f (around head at (v ∷ []) fs ∷ context) base)
plug_go_on v head at (w ∷ ws) f fs context base = plug_down f (around head at (v ∷ w ∷ ws) fs ∷ context) base

plug_give : (v : StoreValue) (context : List Around) (base : Under) → statement_of (give v context base) ≡ plug (Value v) context base
plug_give v [] base = plug_give_under v base
plug_give v (around head at done none ∷ context) base = refl
plug_give v (around head at done (more f fs) ∷ context) base = plug_go_on v head at done f fs context base

tree_next : (call : Call) (tasks : List Task) (below : List Held) → part_of_tree (next call tasks below) ≡ beneath (start call tasks) below
tree_next call [] below = refl
tree_next call (k ∷ tasks) below = ap (λ s. beneath (Runs call s tasks) below) (plug_begin k.job k.place k.operands)

-- ---- where the first operand decides nothing, the redex is further in

undecided_onto : (head : Head) (vs : List StoreValue) (v : StoreValue) (q : Part) (qs : Parts) → Undecided head (v ∷ vs) → decided head (onto vs (also (Value v) (also q qs))) ≡ None
undecided_onto head [] v q qs u = ap (λ b. cond b (Some v) None) u
undecided_onto head (w ∷ ws) v q qs u = undecided_onto head ws w (Value v) (also q qs) u

settled_onto : (head : Head) (vs : List StoreValue) → Settled head vs → decided head (onto vs nothing) ≡ None
settled_onto head [] u = refl
settled_onto head (v ∷ []) u = refl
settled_onto head (v ∷ w ∷ ws) u = undecided_onto head ws w (Value v) nothing u

module _ (p : Program) (actor : ℕ) (homes : List Home) (store : Store) where
  abbrev seen : Call → ℕ → Part → Look
  seen call n q = look p actor homes call n store q

  abbrev all_seen : Call → ℕ → Parts → LookAll
  all_seen call n qs = look_all p actor homes call n store qs

  undecided_part : (head : Head) (call : Call) (n : ℕ) (q : Part) (qs : Parts) (m : Moved Part) → seen call n q ≡ Steps m → decided head (also q qs) ≡ None
  undecided_part head call n (Value v) qs m e = absurd cc
  undecided_part head call n (Makes h at ps) qs m e = refl
  undecided_part head call n (Runs inner s tasks) qs m e = refl
  undecided_part head call n Open qs m e = refl

  undecided_in : (head : Head) (call : Call) (n : ℕ) (done : List StoreValue) (q : Part) (qs : Parts) (m : Moved Part) → Undecided head done → seen call n q ≡ Steps m → decided head (onto done (also q qs)) ≡ None
  undecided_in head call n [] q qs m u e = undecided_part head call n q qs m e
  undecided_in head call n (v ∷ vs) q qs m u e = undecided_onto head vs v q qs u

  -- values before the part at work
  all_values : (call : Call) (n : ℕ) (vs ws : List StoreValue) (ps : Parts) → all_seen call n ps ≡ AllValues ws → all_seen call n (onto vs ps) ≡ AllValues (reverse_aux vs ws)
  all_values call n [] ws ps e = e
  all_values call n (v ∷ vs) ws ps e = all_values call n vs (v ∷ ws) (also (Value v) ps) (ap (after_value v) e)

  steps_in : (call : Call) (n : ℕ) (vs : List StoreValue) (ps : Parts) (m : Moved Parts) → all_seen call n ps ≡ StepsIn m → all_seen call n (onto vs ps) ≡ StepsIn (within (onto vs) m)
  steps_in call n [] ps m e = e ∙ ap StepsIn (within_same m)
  steps_in call n (v ∷ vs) ps m e =
      steps_in call n vs (also (Value v) ps) (within (also (Value v)) m) (ap (after_value v) e)
      ∙ ap StepsIn (within_twice (also (Value v)) (onto vs) m)

  part_in : (call : Call) (n : ℕ) (done : List StoreValue) (q : Part) (after : Parts) (m : Moved Part) → seen call n q ≡ Steps m → all_seen call n (onto done (also q after)) ≡ StepsIn (within (λ x. onto done (also x after)) m)
  part_in call n done q after m e =
      steps_in call n done (also q after) (within (λ x. also x after) m) (ap (λ l. in_order l after (all_seen call n after)) e)
      ∙ ap StepsIn (within_twice (λ x. also x after) (onto done) m)

  abbrev node_seen : Call → ℕ → Head → t.Place → Option StoreValue → LookAll → Look
  node_seen call n head at o all = node p actor homes call n store head at o all

  -- a part at work, in its statement
  plug_steps : (call : Call) (n : ℕ) (context : List Around) (base : Under) (q : Part) (m : Moved Part) → AllUndecided context → seen call n q ≡ Steps m → look_statement p actor homes call n store (plug q context base) ≡ StepsStatement (within (λ x. plug x context base) m)
  plug_steps call n [] (under job at done after) q m u e =
      ap (statement job at) (part_in call n done q (parts_of after) m e) ∙ ap StepsStatement (within_twice (λ x. onto done (also x (parts_of after))) (Does job at) m)
  plug_steps call n (around head at done after ∷ context) base q m u e =
      plug_steps call n context base (Makes head at (onto done (also q (parts_of after)))) (within (λ x. Makes head at (onto done (also x (parts_of after)))) m) u.1
      (ap (λ o. node_seen call n head at o (all_seen call n (onto done (also q (parts_of after))))) (undecided_in head call n done q (parts_of after) m u.0 e)
      ∙ ap (node_seen call n head at None) (part_in call n done q (parts_of after) m e)
      ∙ ap Steps (within_twice (λ x. onto done (also x (parts_of after))) (Makes head at) m))
      ∙ ap StepsStatement (within_twice (λ x. Makes head at (onto done (also x (parts_of after)))) (λ x. plug x context base) m)

  hole_steps : (call : Call) (n : ℕ) (hole : Hole) (q : Part) (m : Moved Part) → HoleIs hole → seen call n q ≡ Steps m → look_statement p actor homes call n store (plug_hole q hole) ≡ StepsStatement (within (λ x. plug_hole x hole) m)
  hole_steps call n (Operand context base) q m u e = plug_steps call n context base q m u e
  hole_steps call n Ends q m u e = ap awaiting e

  -- a call at work, in all that stands round it
  abbrev call_seen : Call → List Task → LookStatement → Moved Part
  call_seen call tasks l = call_step p actor homes call tasks store l

  -- the call below the innermost ones, with what stands in its place
  abbrev round : Held → Part → Part
  round h x = Runs h.call (plug_hole x h.hole) h.tasks

  abbrev own : Call → ℕ → Statement → List Task → Moved Part
  own inner n s tasks = call_seen inner tasks (look_statement p actor homes inner n store s)

  one_out : (h : Held) (below : List Held) (inner : Call) (s : Statement) (tasks : List Task) → HoleIs h.hole
      → step p actor homes (beneath (round h (Runs inner s tasks)) below) store ≡ within (λ q. beneath q below) (own h.call (suc (length below)) (plug_hole (Runs inner s tasks) h.hole) h.tasks)
      → step p actor homes (beneath (round h (Runs inner s tasks)) below) store ≡ within (λ q. beneath (round h q) below) (own inner (suc (suc (length below))) s tasks)
  one_out h below inner s tasks u further =
      let m = own inner (suc (suc (length below))) s tasks in
      further
      ∙ ap (λ l. within (λ q. beneath q below) (call_seen h.call h.tasks l)) (hole_steps h.call (suc (length below)) h.hole (Runs inner s tasks) m u refl)
      ∙ ap (within (λ q. beneath q below)) (within_twice (λ x. plug_hole x h.hole) (λ z. Runs h.call z h.tasks) m)
      ∙ within_twice (round h) (λ q. beneath q below) m

  step_beneath : (kind : Kind) (below : List Held) (inner : Call) (s : Statement) (tasks : List Task) → CallsAre kind below → step p actor homes (beneath (Runs inner s tasks) below) store ≡ within (λ q. beneath q below) (own inner (suc (length below)) s tasks)
  step_beneath kind [] inner s tasks are = within_same (own inner (suc (length {A = Held} [])) s tasks)
  step_beneath Inner (h ∷ below) inner s tasks (fits, u, are) = one_out h below inner s tasks u (step_beneath h.call.kind below h.call (plug_hole (Runs inner s tasks) h.hole) h.tasks are)
  step_beneath OnTop (h ∷ below) inner s tasks (fits, u, are) = one_out h below inner s tasks u (step_beneath h.call.kind below h.call (plug_hole (Runs inner s tasks) h.hole) h.tasks are)

  -- ---- the redex itself

  left_same : (o : Option v.Tree) (at : c.Place) (below : List Held) → within (λ q. beneath q below) (out o at store) ≡ moved_of (r.left o at below store)
  left_same None at below = refl
  left_same (Some t) at below = refl

  leave_same : (kind : Kind) (v : StoreValue) (at : c.Place) (below : List Held) → CallsAre kind below → within (λ q. beneath q below) (gone kind v at store) ≡ moved_of (r.leave kind v at below store)
  leave_same OnTop v at below are = left_same (leaving store v) at below
  leave_same Inner v at [] are = absurd are
  leave_same Inner v at (h ∷ below) are = back h.hole are
    where
      back : (hole : Hole) → CallsAre Inner (record h { hole = hole } ∷ below) → Moves Went (beneath (Runs h.call (plug_hole (Value v) hole) h.tasks) below) store ≡ Moves Went (part_of_tree (filled v h.call hole h.tasks below)) store
      back (Operand context base) are = ap (λ s. Moves Went (beneath (Runs h.call s h.tasks) below) store) (sym (plug_give v context base))
      back Ends (fits, u, are) = absurd fits

  did_same : (x : Did) (call : Call) (at : t.Place) (todo : List Task) (below : List Held) → CallsAre call.kind below → within (λ q. beneath q below) (did x call at todo store) ≡ moved_of (after_did x call at todo below store)
  did_same (d.Goes locals new tasks) call at todo below are = ap (λ q. Moves Went q new) (sym (tree_next (with_locals call locals) tasks below))
  did_same (d.Continues v base new) call at todo below are = ap (λ s. Moves Went (beneath (Runs call s todo) below) new) (sym (plug_give_under v base))
  did_same (d.Awaits request hole) call at todo below are = refl
  did_same (d.Prints text) call at todo below are = ap (λ q. Moves (Printed text) q store) (sym (tree_next call todo below))
  did_same (d.Returns v) call at todo below are = leave_same call.kind v (place_in call.function at) below are
  did_same (d.Breaks e there) call at todo below are = refl

  entered_same : (b : Begun) (call : Call) (at : t.Place) (hole : Hole) (todo : List Task) (below : List Held) → within (λ q. beneath (Runs call (plug_hole q hole) todo) below) (entered b call.function at store) ≡ moved_of (r.entered b call at hole todo below store)
  entered_same (Begins inner tasks) call at hole todo below = ap (λ q. Moves Went q store) (sym (tree_next inner tasks (record { call = call; place = at; hole = hole; tasks = todo } ∷ below)))
  entered_same (Refuses e) call at hole todo below = refl

  given_same : (x : Given) (call : Call) (at : t.Place) (context : List Around) (base : Under) (todo : List Task) (below : List Held) → within (λ q. beneath (Runs call (plug q context base) todo) below) (given x homes call (suc (length below)) at store) ≡ moved_of (after_given x homes call at context base todo below store)
  given_same (g.Gives v new) call at context base todo below = ap (λ s. Moves Went (beneath (Runs call s todo) below) new) (sym (plug_give v context base))
  given_same (g.Calls f m arguments) call at context base todo below =
      entered_same (begun Inner f call.home (own_or m (home_of homes call.home).m) arguments (suc (length below))) call at (Operand context base) todo below
  given_same (g.Wants request) call at context base todo below = refl
  given_same (g.Fails e) call at context base todo below = refl

  twice : (vs : List StoreValue) → reverse (reverse_aux vs []) ≡ vs
  twice vs = reverse-reverse vs

  -- a redex inside a statement, once what it becomes is known
  inside_steps : (call : Call) (context : List Around) (base : Under) (q : Part) (m : Moved Part) (todo : List Task) (below : List Held) → AllUndecided context → seen call (suc (length below)) q ≡ Steps m
      → within (λ x. beneath x below) (own call (suc (length below)) (plug q context base) todo) ≡ within (λ x. beneath (Runs call (plug x context base) todo) below) m
  inside_steps call context base q m todo below u e =
      ap (λ l. within (λ x. beneath x below) (call_seen call todo l)) (plug_steps call (suc (length below)) context base q m u e)
      ∙ ap (within (λ x. beneath x below)) (within_twice (λ x. plug x context base) (λ s. Runs call s todo) m)
      ∙ within_twice (λ x. Runs call (plug x context base) todo) (λ x. beneath x below) m

  spot_same : (call : Call) (spot : Spot) (todo : List Task) (below : List Held) → SpotIs spot → CallsAre call.kind below → within (λ x. beneath x below) (own call (suc (length below)) (statement_of spot) todo) ≡ moved_of (reduce p actor homes (Works call spot todo below) store)
  spot_same call (AtHead head at vs context base) todo below (settled, u) are =
      let n = suc (length below) in
      let x = contract (setting_of p actor homes call) head at vs store in
      let m = given x homes call n at store in
      inside_steps call context base (Makes head at (onto vs nothing)) m todo below u
      (ap (λ o. node_seen call n head at o (all_seen call n (onto vs nothing))) (settled_onto head vs settled)
      ∙ ap (node_seen call n head at None) (all_values call n vs [] nothing refl)
      ∙ ap (λ l. Steps (given (contract (setting_of p actor homes call) head at l store) homes call n at store)) (twice vs))
      ∙ given_same x call at context base todo below
  spot_same call (AtDecided head at v f fs context base) todo below (yes', u) are =
      let n = suc (length below) in
      inside_steps call context base (Makes head at (also (Value v) (parts_of (more f fs)))) (Moves Went (Value v) store) todo below u
      (ap (λ b. node_seen call n head at (cond b (Some v) None) (all_seen call n (also (Value v) (parts_of (more f fs))))) yes')
      ∙ ap (λ s. Moves Went (beneath (Runs call s todo) below) store) (sym (plug_give v context base))
  spot_same call (AtJob job at vs) todo below u are =
      let n = suc (length below) in
      ap (λ l. within (λ x. beneath x below) (call_seen call todo (statement job at l))) (all_values call n vs [] nothing refl)
      ∙ ap (λ l. within (λ x. beneath x below) (did (act (setting_of p actor homes call) job at l store todo) call at todo store)) (twice vs)
      ∙ did_same (act (setting_of p actor homes call) job at vs store todo) call at todo below are
  spot_same call AtEnd todo below u are = leave_same call.kind (Scalar Invalid) (place_in call.function call.function.heading) below are
  spot_same call (AtFailure e at) todo below u are = refl

  -- ---- a tree that waits

  open_steps : (below : List Held) (h : Held) → HoleIs h.hole → CallsAre h.call.kind below → step p actor homes (beneath (round h Open) below) store ≡ Rests
  open_steps below h u are =
      step_beneath h.call.kind below h.call (plug_hole Open h.hole) h.tasks are
      ∙ ap (λ l. within (λ x. beneath x below) (call_seen h.call h.tasks l)) (hole_steps h.call (suc (length below)) h.hole Open Rests u refl)

pub same_step : SameStep
same_step p actor homes call spot tasks below store (spot_is, are) =
    step_beneath p actor homes store call.kind below call (statement_of spot) tasks are
    ∙ spot_same p actor homes store call spot tasks below spot_is are

pub no_step : NoStep
no_step p actor homes [] store are = refl
no_step p actor homes (h ∷ below) store (fits, u, are) = open_steps p actor homes store below h u are

pub received_in : ReceivedIn
received_in v call place context base tasks below = ap (λ s. beneath (Runs call s tasks) below) (plug_give v context base)

pub received_at_end : ReceivedAtEnd
received_at_end v call place tasks below = tree_next call tasks below
