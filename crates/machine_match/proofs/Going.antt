-- One counted instruction, and what stands after it.
use Rattle.std.proofs.Common.{◌≡◌, ℕ, suc, List, [], ◌∷◌, ◌++◌, length, take, drop, Option, Some, None, refl, sym, ap, ◌∙◌, subst}
use Rattle.chan_values.specs.declared.place.Place as p
use Rattle.chan_values.specs.declared.error_code.ErrorCode.{ErrorCode}
use Rattle.chan_values.specs.Tree as v
use Rattle.brs_tokens.specs.declared.place.Place.{Place}
use Rattle.heap_meaning.specs.Values.{StoreValue}
use Rattle.heap_meaning.specs.Store.{Store}
use Rattle.brs_code.specs.declared.instr.Instr.{Instr}
use Rattle.brs_code.specs.declared.function.Function as code
use Rattle.brs_code.specs.Instruction.{pops}
use Rattle.code_relation.specs.Standing.{Has}
use Rattle.brs_meaning.specs.Program.{Program, Function, place_in}
use Rattle.brs_meaning.specs.Locals.{Home}
use Rattle.brs_meaning.specs.Binding as tb
use Rattle.brs_meaning.specs.Running.{Kind, Inner, OnTop, Call, Task, Hole, Operand, Ends, Held}
use Rattle.brs_meaning.specs.Moving as tm
use Rattle.brs_meaning.specs.Moving.{begin, next}
use Rattle.brs_meaning.specs.Leaving.{leaving}
use Rattle.brs_meaning.specs.Reduction as tr
use Rattle.brs_meaning.specs.Reduction.{Raised, Reduced}
use Rattle.machine_meaning.specs.Image.{Image, place_at}
use Rattle.machine_meaning.specs.Frame as f
use Rattle.machine_meaning.specs.Frame.{Frame, Landing, OnOperands, Nowhere, Suspended, at_place}
use Rattle.machine_meaning.specs.Instructions.{acted}
use Rattle.machine_meaning.specs.Entering as me
use Rattle.machine_meaning.specs.Stepping as ms
use Rattle.machine_meaning.specs.Stepping.{Shown, carried, setting_of, perform, free_way, free_from, landed, Steps, counted, free}
use Rattle.machine_match.specs.Places.{Flows, there, over, kept, NextAt, SpotAt}
use Rattle.machine_match.specs.Stands.{FrameStands, compiled, LandsAt, HeldStands, CallsStand, Stands, ShownStands}
use Rattle.machine_match.proofs.Control.{flows_of, begin_stands, give_stands, rest_next}
use Rattle.machine_match.proofs.Words.{take_front, drop_front}

-- a step that shows what a reduction shows
pub record Stepped (image : Image) (q : Program) (actor : ℕ) (homes : List Home) (below : List Suspended) (store : Store) (frame : Frame) (reduced : Reduced) : Type 0 where
  pub shown : Shown
  pub steps : Steps image actor homes below store frame shown
  pub stands : ShownStands image q shown reduced

-- a counted instruction, with the operands that it takes and those below
pub performs : (image : Image) (q : Program) (actor : ℕ) (homes : List Home) (below : List Suspended) (store : Store) (frame : Frame) (i : Instr) (line : ℕ) (taken rest : List f.Operand) (reduced : Reduced)
    → Has frame.function frame.place i line → frame.operands ≡ taken ++ rest → pops i ≡ length taken → free_way i (taken ++ rest) frame.place ≡ None
    → ShownStands image q (carried (acted (setting_of image actor homes frame) i taken store) homes frame line rest below store) reduced
    → Stepped image q actor homes below store frame reduced
performs image q actor homes below store frame i line taken rest reduced has ops takes none stands =
    let way = ap (λ o. free_from o frame.operands frame.place) has.1 ∙ ap (λ l. free_way i l frame.place) ops ∙ none in
    let taken_are : take (pops i) frame.operands ≡ taken = ap (take (pops i)) ops ∙ ap (λ k. take k (taken ++ rest)) takes ∙ take_front taken rest in
    let rest_are : drop (pops i) frame.operands ≡ rest = ap (drop (pops i)) ops ∙ ap (λ k. drop k (taken ++ rest)) takes ∙ drop_front taken rest in
    let is = ap (perform image actor homes frame below store) has.1
    ∙ ap (λ l. carried (acted (setting_of image actor homes frame) i l store) homes frame line (drop (pops i) frame.operands) below store) taken_are
    ∙ ap (λ l. carried (acted (setting_of image actor homes frame) i taken store) homes frame line l below store) rest_are in
    record { shown = carried (acted (setting_of image actor homes frame) i taken store) homes frame line rest below store; steps = counted way is; stands = stands }

-- free ways before it
pub flow_steps : (image : Image) (q : Program) (actor : ℕ) (homes : List Home) (below : List Suspended) (store : Store) (frame : Frame) (reduced : Reduced) (from to : ℕ)
    → Flows frame.function frame.operands from to → Stepped image q actor homes below store (at_place to frame) reduced → Stepped image q actor homes below store (at_place from frame) reduced
flow_steps image q actor homes below store frame reduced from to there h = h
flow_steps image q actor homes below store frame reduced from to (over {r = middle} way flows) h =
    let rest = flow_steps image q actor homes below store frame reduced middle to flows h in
    record { shown = rest.shown; steps = free way rest.steps; stands = rest.stands }

-- ---- what stands after it

-- the next statement
pub next_stands : (image : Image) (q : Program) (frame : Frame) (call : Call) (stands : FrameStands image q frame call) (tasks : List Task) (below : List Suspended) (held : List Held)
    → frame.operands ≡ kept tasks → NextAt (compiled stands.function) frame.place tasks → CallsStand image q below held → Stands image q (f.Works frame below) (next call tasks held)
next_stands image q frame call stands [] below held ops at calls =
    (record { frame_stands = stands; place = at.1.0; flows = flows_of frame.function frame.operands frame.place at.1.0 at.1.1; exits = at.0; at = (refl, ops, at.1.2) }, calls)
next_stands image q frame call stands (task ∷ tasks) below held ops at calls =
    let one = at.2 in
    let spot = begin_stands (compiled stands.function) task.job task.place task.operands at.0 one.start one.middle at.1 tasks one.operands one.operands_are one.job one.job_is at.3 in (
      record {
        frame_stands = stands;
        place = one.start;
        flows = flows_of frame.function frame.operands frame.place one.start one.leads;
        exits = at.0;
        at = subst (λ l. SpotAt (compiled stands.function) at.0 one.start (begin task.job task.place task.operands) l tasks) (sym ops) spot;
      },
      calls,
    )

-- a value where it is waited for
filled_at : (image : Image) (q : Program) (v : StoreValue) (frame : Frame) (call : Call) (stands : FrameStands image q frame call) (landing : Landing) (hole : Hole) (tasks : List Task) (below : List Suspended) (held : List Held)
    → LandsAt (compiled stands.function) frame.place landing hole frame.operands tasks → CallsStand image q below held
    → Stands image q (f.Works (landed v landing frame) below) (tm.filled v call hole tasks held)
filled_at image q v frame call stands OnOperands (Operand context base) tasks below held at calls =
    let land = give_stands (compiled stands.function) v context base at.0 frame.place frame.operands at.1 tasks at.2 at.3 in
    (record { frame_stands = record { function = stands.function; same = stands.same; slots = stands.slots; room = stands.room }; place = land.place; flows = land.flows; exits = at.0; at = land.at }, calls)
filled_at image q v frame call stands OnOperands Ends tasks below held at calls = absurd at
filled_at image q v frame call stands Nowhere (Operand context base) tasks below held at calls = absurd at
filled_at image q v frame call stands Nowhere Ends tasks below held at calls =
    next_stands image q frame call stands tasks below held at.0 (rest_next (compiled stands.function) at.1 frame.place tasks at.2) calls

pub filled_stands : (image : Image) (q : Program) (v : StoreValue) (s : Suspended) (h : Held) (below : List Suspended) (held : List Held)
    → HeldStands image q s h → CallsStand image q below held → Stands image q (ms.filled v s below) (tm.filled v h.call h.hole h.tasks held)
filled_stands image q v s h below held stands calls = filled_at image q v s.frame h.call stands.frame_stands s.landing h.hole h.tasks below held stands.lands calls

left_stands : (image : Image) (q : Program) (o : Option v.Tree) (at : p.Place) (below : List Suspended) (held : List Held) (store : Store)
    → CallsStand image q below held → ShownStands image q (ms.left o at below store) (tr.left o at held store)
left_stands image q (Some tree) at below held store calls = (refl, refl, calls)
left_stands image q None at below held store calls = (refl, refl, calls)

-- a value for the call below, or for the world
pub leave_stands : (image : Image) (q : Program) (kind : Kind) (v : StoreValue) (at : p.Place) (below : List Suspended) (held : List Held) (store : Store)
    → CallsStand image q below held → ShownStands image q (ms.leave kind v at below store) (tr.leave kind v at held store)
leave_stands image q OnTop v at below held store calls = left_stands image q (leaving store v) at below held store calls
leave_stands image q Inner v at [] [] store calls = left_stands image q (leaving store v) at [] [] store calls
leave_stands image q Inner v at [] (h ∷ held) store calls = absurd calls
leave_stands image q Inner v at (s ∷ below) [] store calls = absurd calls
leave_stands image q Inner v at (s ∷ below) (h ∷ held) store calls = (refl, refl, filled_stands image q v s h below held calls.0 calls.1)

pub calls_length : (image : Image) (q : Program) (below : List Suspended) (held : List Held) → CallsStand image q below held → length below ≡ length held
calls_length image q [] [] calls = refl
calls_length image q [] (h ∷ held) calls = absurd calls
calls_length image q (s ∷ below) [] calls = absurd calls
calls_length image q (s ∷ below) (h ∷ held) calls = ap suc (calls_length image q below held calls.1)

-- a call that begins
abbrev pub BegunStands : Image → Program → me.Begun → tb.Begun → Type 0
BegunStands image q (me.Begins frame) (tb.Begins call tasks) = (stands : FrameStands image q frame call) × (frame.operands ≡ kept tasks) × NextAt (compiled stands.function) frame.place tasks
BegunStands image q (me.Refuses e) (tb.Refuses e') = e ≡ e'
BegunStands image q _ _ = ⊥

place_same : (f : code.Function) (source : Function) (at : Place) → source.path ≡ f.path → place_at f at.line ≡ place_in source at
place_same f source at path = ap (λ file. let place : p.Place = record { path = file; line = at.line } in place) (sym path)

pub raised_stands : (image : Image) (q : Program) (e e' : ErrorCode) (f : code.Function) (source : Function) (at : Place) (line : ℕ) (store : Store)
    → source.path ≡ f.path → line ≡ at.line → e ≡ e' → ShownStands image q (ms.raised e (place_at f line) store) (tr.raised e' source at store)
raised_stands image q e e' f source at line store path line_is same =
    (ap (λ l. Raised e (place_at f l)) line_is ∙ ap (λ x. Raised x (place_at f at.line)) same ∙ ap (Raised e') (place_same f source at path), refl, tt)

pub entered_stands : (image : Image) (q : Program) (b : me.Begun) (c : tb.Begun) (s : Suspended) (h : Held) (below : List Suspended) (held : List Held) (store : Store)
    → BegunStands image q b c → HeldStands image q s h → CallsStand image q below held
    → ShownStands image q (ms.entered b s below store) (tr.entered c h.call h.place h.hole h.tasks held store)
entered_stands image q (me.Begins frame) (tb.Begins call tasks) s h below held store begun stands calls =
    (refl, refl, next_stands image q frame call begun.0 tasks (s ∷ below) (h ∷ held) begun.1 begun.2 (stands, calls))
entered_stands image q (me.Begins frame) (tb.Refuses e) s h below held store begun stands calls = absurd begun
entered_stands image q (me.Refuses e) (tb.Begins call tasks) s h below held store begun stands calls = absurd begun
entered_stands image q (me.Refuses e) (tb.Refuses e') s h below held store begun stands calls =
    raised_stands image q e e' s.frame.function h.call.function h.place s.line store stands.frame_stands.function.path stands.line begun
