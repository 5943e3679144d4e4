-- An instruction whose access is made, and whose call has settled, did its row.
use Rattle.std.proofs.Common.{◌≡◌, ℕ, ◌+◌, ◌<◌, ◌≤◌, List, [], ◌∷◌, ◌++◌, length, reverse, take, drop, map, Some, refl, sym, ap, ◌∙◌, subst, arith}
use Rattle.std.proofs.lemmas.List.{length-reverse, length-map, length-take-le}
use Rattle.chan_values.specs.declared.access.Access.{Access}
use Rattle.chan_values.specs.declared.error_code.ErrorCode.{ErrorCode}
use Rattle.heap_meaning.specs.Values.{Value, StoreValue}
use Rattle.heap_meaning.specs.Store.{Store}
use Rattle.heap_meaning.specs.Stands.{Naming, Outside, meaning, Stands}
use Rattle.heap_meaning.specs.Heap.{Heap}
use Rattle.object_operations.specs.Applies.{AreOut, Gave}
use Rattle.object_operations.specs.declared.applied.Applied.TheVariants as a
use Rattle.brs_code.specs.declared.function.Function.{Function}
use Rattle.brs_code.specs.declared.instr.Instr.{Instr}
use Rattle.brs_code.specs.Instruction.{pops}
use Rattle.brs_meaning.specs.Given as g
use Rattle.brs_meaning.specs.Given.{Given}
use Rattle.brs_meaning.specs.Request as q
use Rattle.brs_meaning.specs.Locals as l
use Rattle.machine_meaning.specs.Image.{Image, function_at}
use Rattle.machine_meaning.specs.Frame as mm
use Rattle.machine_meaning.specs.Acted.{Acted, Goes, Faults}
use Rattle.machine_meaning.specs.Setting.{Setting}
use Rattle.machine_meaning.specs.Instructions.{acted}
use Rattle.machine_meaning.specs.Stepping.{setting_of, carried}
use Rattle.frame_stack.specs.Operand.{value_of, values}
use Rattle.frame_stack.specs.declared.header.Landing.{Landing}
use Rattle.frame_stack.specs.Frame.{Frame, innermost, operands_of}
use Rattle.call_release.specs.References.{call_references}
use Rattle.frame_actions.specs.Actions.{dropped, Carries}
use Rattle.actor_meaning.specs.declared.outcome.Outcome.TheVariants.{Went, Wants}
use Rattle.actor_meaning.specs.declared.outcome.Request.TheVariants as s
use Rattle.actor_meaning.specs.declared.phase.Phase.TheVariants.{Works}
use Rattle.actor_meaning.specs.View.{Home, home_references, held, FrameIs, MachineIs, ActorIs}
use Rattle.actor_meaning.specs.Promises.{SeenAs}
use Rattle.actor_meaning.specs.Performing.{ShownAs}
use Rattle.actor_meaning.specs.Performed.{working}
use Rattle.actor_meaning.proofs.Moves.{place_seen, went}
use Rattle.actor_meaning.proofs.Naming.{machine_same, homes_agree}
use Rattle.actor_errors.specs.Raising.{path_of}
use Rattle.instruction_effects.specs.declared.effect.Effect.{Effect}
use Rattle.instruction_effects.specs.declared.effect.Effect.TheVariants as e
use Rattle.instruction_effects.specs.Effects.{waiting, Circumstance, Runs, PerformedWhere, AsksWhere, FaultedWhere, Does}
use Rattle.operator_instructions.proofs.Arguments.{arguments_out, arguments_seen, so_many}
use Rattle.member_accesses.specs.declared.reached.Reached.{Reached}
use Rattle.member_accesses.specs.declared.reached.Reached.TheVariants as r
use Rattle.member_accesses.specs.Reaching.{Comes, Reaches}
use Rattle.member_instructions.specs.Settling.{landed, waits, TakesIn, Settles}
use Rattle.member_instructions.proofs.Rows.{put, Delivers, IsAccess}
use Rattle.member_instructions.proofs.Seen.{with_rest, landed_seen, put_above, waits_seen}

-- ---- the last operands

pub so_long : (operands : List Value) (frames : List Frame) (n : ℕ) → reverse operands ≡ take n (values (operands_of frames)) → n ≤ length (operands_of frames) → length operands ≡ n
so_long operands frames n e room =
    let m : length (values (operands_of frames)) ≡ length (operands_of frames) = length-map (operands_of frames) value_of in
    sym (length-reverse operands) ∙ ap length e ∙ length-take-le n (values (operands_of frames)) (omega arith)

-- ---- what is known of the function

-- in this circumstance this holds of the function of a call
abbrev pub Knows : Circumstance → Frame → (Function → Type 0) → Type 0
Knows C x Of = (image : Image) (number : ℕ) (own : List Home) (name : Naming) (frame : mm.Frame) → C image number own → FrameIs image name x frame → Of frame.function

pub runs_knows : (f : Function) (frames : List Frame) (x : Frame) (Of : Function → Type 0) → Of f → innermost frames ≡ Some x → Knows (Runs f frames) x Of
runs_knows f [] x Of holds e = absurd cc
runs_knows f (y ∷ below) x Of holds e = λ image number own name frame c i.
    let q : y ≡ x = cc in
    let there : function_at image x.head.function ≡ Some f = subst (λ (z : Frame). function_at image z.head.function ≡ Some f) q c in
    let both : Some f ≡ Some frame.function = sym there ∙ i.function in
    let same : f ≡ frame.function = cc in
    subst Of same holds

-- ---- what was given, by what was reached

error_given : (s : Setting) (landing : Landing) (back : List mm.Operand) (act : Acted) (name : Naming) (new : Heap) (store : Store) (before : Outside) (error : ErrorCode) (given : Given)
    → Comes name new store before (r.Done (a.Raised error)) given → Delivers s landing back act given → act ≡ Faults error
error_given s landing back act name new store before error (g.Fails wanted) h x = x ∙ ap Faults (sym h.same)
error_given s landing back act name new store before error (g.Gives w after) h x = absurd h
error_given s landing back act name new store before error (g.Wants request) h x = absurd h
error_given s landing back act name new store before error (g.Calls f m vs) h x = absurd h

error_stands : (name : Naming) (new : Heap) (store : Store) (before : Outside) (error : ErrorCode) (given : Given) → Comes name new store before (r.Done (a.Raised error)) given → Stands name new.cells store before
error_stands name new store before error (g.Fails wanted) h = h.stands
error_stands name new store before error (g.Gives w after) h = absurd h
error_stands name new store before error (g.Wants request) h = absurd h
error_stands name new store before error (g.Calls f m vs) h = absurd h

module _ (C : Circumstance) (Of : Function → Type 0) (old mid : Heap) (x : Frame) (below : List Frame) (instr : Instr) (n taken line : ℕ) (landing : Landing) (row : List StoreValue → Store → Given) (operands : List Value) (reached : Reached)
    (room : n ≤ length x.operands) (are : reverse operands ≡ take n (values x.operands)) (reaches : Reaches old mid operands reached row) (is : IsAccess Of instr n taken landing row) (knows : Knows C x Of) where
  are_out : (number : ℕ) (own : List Home) → AreOut operands (held (working number own (x ∷ below)))
  are_out number own = λ k. let y = arguments_out operands (x ∷ below) n are k in omega arith

  beside_others : (others : Outside) → AreOut operands (λ k. others k + call_references k (x ∷ below))
  beside_others others = λ k. let y = arguments_out operands (x ∷ below) n are k in omega arith

  abbrev act_of : (image : Image) (number : ℕ) (homes : List l.Home) (frame : mm.Frame) (store : Store) → Acted
  act_of image number homes frame store = acted (setting_of image number homes frame) instr (take (pops instr) frame.operands) store

  abbrev given_of : (name : Naming) (store : Store) → Given
  given_of name store = row (map (meaning name) operands) store

  delivers : (image : Image) (number : ℕ) (own : List Home) (name : Naming) (homes : List l.Home) (frame : mm.Frame) (store : Store) → C image number own → FrameIs image name x frame
      → Delivers (setting_of image number homes frame) landing (is.back (take n frame.operands)) (act_of image number homes frame store) (given_of name store)
  delivers image number own name homes frame store c f =
      let s : Setting = setting_of image number homes frame in
      subst (λ k. Delivers s landing (is.back (take n frame.operands)) (acted s instr (take k frame.operands) store) (given_of name store)) (sym is.takes)
      (subst (λ ws. Delivers s landing (is.back (take n frame.operands)) (acted s instr (take n frame.operands) store) (row ws store)) (arguments_seen image name x frame n operands f are)
      (is.acts s (take n frame.operands) store (knows image number own name frame c f) (so_many image name x frame n f room)))

  left : (frame : mm.Frame) → is.back (take n frame.operands) ++ drop (pops instr) frame.operands ≡ drop taken frame.operands
  left frame = subst (λ k. is.back (take n frame.operands) ++ drop k frame.operands ≡ drop taken frame.operands) (sym is.takes) (is.left frame.operands)

  -- ---- an error

  pub found : (error : ErrorCode) → reached ≡ r.Done (a.Raised error) → FaultedWhere C old (x ∷ below) error instr
  found error k = λ image number own c name homes frame waiting store seen.
      let out : Outside = held (working number own (x ∷ below)) in
      error_given (setting_of image number homes frame) landing (is.back (take n frame.operands)) (act_of image number homes frame store) name mid store out error (given_of name store)
      (subst (λ y. Comes name mid store out y (given_of name store)) k (reaches.comes name store out seen.stands (are_out number own))) (delivers image number own name homes frame store c seen.machine_is.0)

  pub unchanged : (error : ErrorCode) → reached ≡ r.Done (a.Raised error) → Carries old (x ∷ below) mid (x ∷ below)
  unchanged error k = λ name store others s.
      let out : Outside = λ j. others j + call_references j (x ∷ below) in
      error_stands name mid store out error (given_of name store) (subst (λ y. Comes name mid store out y (given_of name store)) k (reaches.comes name store out s (beside_others others)))

  -- ---- a value

  abbrev to : ℕ
  to = x.head.place + 1

  abbrev with_value : Value → Frame
  with_value v = landed landing v to (dropped taken to x)

  value_seen : (v : Value) (new : Heap) (image : Image) (number : ℕ) (own : List Home) (name : Naming) (homes : List l.Home) (frame : mm.Frame) (more : List mm.Suspended) (store : Store) → TakesIn v mid (x ∷ below) new (with_value v ∷ below)
      → ActorIs image name old (working number own (x ∷ below)) homes (mm.Works frame more) store → (w : StoreValue) (after : Store) → Gave name mid after (held (working number own (x ∷ below))) v w
      → SeenAs image new (working number own (with_value v ∷ below)) homes (mm.Works (with_rest frame to (put landing w (drop taken frame.operands))) more) after
  value_seen v new image number own name homes frame more store takes seen w after gave =
      let out : Outside = held (working number own (x ∷ below)) in
      let same : MachineIs image gave.naming Works (x ∷ below) (mm.Works frame more) = machine_same name gave.naming out gave.agrees image Works (x ∷ below) (mm.Works frame more) (λ k. omega arith) seen.machine_is in
      record {
        naming = gave.naming;
        is = record {
          stands = takes gave.naming after (λ k. home_references k own) gave.stands;
          homes_are = seen.homes_are ∙ sym (homes_agree name gave.naming out gave.agrees own (λ k. omega arith));
          machine_is = (landed_seen image gave.naming x frame landing taken to v w same.0 gave.shows, same.1);
        };
      }

  value_shown : (at : ℕ) (v : Value) (new : Heap) (image : Image) (number : ℕ) (own : List Home) (name : Naming) (homes : List l.Home) (frame : mm.Frame) (more : List mm.Suspended) (store : Store) (act : Acted) (given : Given) → TakesIn v mid (x ∷ below) new (with_value v ∷ below)
      → ActorIs image name old (working number own (x ∷ below)) homes (mm.Works frame more) store → Comes name mid store (held (working number own (x ∷ below))) (r.Done (a.Value v)) given
      → Delivers (setting_of image number homes frame) landing (is.back (take n frame.operands)) act given → ShownAs image new (working number own (with_value v ∷ below)) Went homes (carried act homes frame at (drop (pops instr) frame.operands) more store)
  value_shown at v new image number own name homes frame more store act (g.Gives w after) takes seen h x' =
      went image new (working number own (with_value v ∷ below)) homes frame at (drop (pops instr) frame.operands) more store after act frame.slots (put landing w (is.back (take n frame.operands))) to
      (x' ∙ ap (λ p. Goes frame.slots after (put landing w (is.back (take n frame.operands))) p) (place_seen image name x frame to seen.machine_is.0 refl))
      (subst (λ ops. SeenAs image new (working number own (with_value v ∷ below)) homes (mm.Works (with_rest frame to ops) more) after) (sym (put_above landing w (is.back (take n frame.operands)) (drop (pops instr) frame.operands) ∙ ap (put landing w) (left frame)))
      (value_seen v new image number own name homes frame more store takes seen w after h))
  value_shown at v new image number own name homes frame more store act (g.Fails wanted) takes seen h x' = absurd h
  value_shown at v new image number own name homes frame more store act (g.Wants request) takes seen h x' = absurd h
  value_shown at v new image number own name homes frame more store act (g.Calls f m vs) takes seen h x' = absurd h

  pub value_there : (v : Value) (new : Heap) → reached ≡ r.Done (a.Value v) → TakesIn v mid (x ∷ below) new (with_value v ∷ below) → PerformedWhere C old (x ∷ below) new (with_value v ∷ below) Went instr
  value_there v new k takes = λ image number own at operands_there c name homes frame more store seen.
      let out : Outside = held (working number own (x ∷ below)) in
      value_shown at v new image number own name homes frame more store (act_of image number homes frame store) (given_of name store) takes seen
      (subst (λ y. Comes name mid store out y (given_of name store)) k (reaches.comes name store out seen.stands (are_out number own))) (delivers image number own name homes frame store c seen.machine_is.0)

  -- ---- an open want

  abbrev with_want : Frame
  with_want = waits landing line (dropped taken to x)

  want_shown : (access : Access) (new : Heap) (image : Image) (number : ℕ) (own : List Home) (name : Naming) (homes : List l.Home) (frame : mm.Frame) (more : List mm.Suspended) (store : Store) (act : Acted) (given : Given) → Carries mid (x ∷ below) new (with_want ∷ below)
      → ActorIs image name old (working number own (x ∷ below)) homes (mm.Works frame more) store → Comes name mid store (held (working number own (x ∷ below))) (r.Asks access) given
      → Delivers (setting_of image number homes frame) landing (is.back (take n frame.operands)) act given
      → ShownAs image new (waiting number own (with_want ∷ below)) (Wants (s.Access access)) homes (carried act homes frame line (drop (pops instr) frame.operands) more store)
  want_shown access new image number own name homes frame more store act (g.Wants (q.Asks z)) carries seen h x' =
      subst (λ y. ShownAs image new (waiting number own (with_want ∷ below)) (Wants (s.Access access)) homes (carried y homes frame line (drop (pops instr) frame.operands) more store)) (sym x') (
        h.0,
        record {
          naming = name;
          is = record {
            stands = carries name store (λ k. home_references k own) h.1;
            homes_are = seen.homes_are;
            machine_is = (
              waits_seen image name x frame landing line taken to (is.back (take n frame.operands) ++ drop (pops instr) frame.operands) seen.machine_is.0 (place_seen image name x frame to seen.machine_is.0 refl) (left frame),
              seen.machine_is.1,
            );
          };
        },
      )
  want_shown access new image number own name homes frame more store act (g.Wants q.MakePort) carries seen h x' = absurd h
  want_shown access new image number own name homes frame more store act (g.Wants (q.Wait port limited)) carries seen h x' = absurd h
  want_shown access new image number own name homes frame more store act (g.Wants (q.Poll port)) carries seen h x' = absurd h
  want_shown access new image number own name homes frame more store act (g.Gives w after) carries seen h x' = absurd h
  want_shown access new image number own name homes frame more store act (g.Fails wanted) carries seen h x' = absurd h
  want_shown access new image number own name homes frame more store act (g.Calls f m vs) carries seen h x' = absurd h

  pub want_there : (access : Access) (new : Heap) → reached ≡ r.Asks access → Carries mid (x ∷ below) new (with_want ∷ below) → AsksWhere C line old (x ∷ below) new (with_want ∷ below) (Wants (s.Access access)) instr
  want_there access new k carries = λ image number own operands_there c name homes frame more store seen.
      let out : Outside = held (working number own (x ∷ below)) in
      want_shown access new image number own name homes frame more store (act_of image number homes frame store) (given_of name store) carries seen
      (subst (λ y. Comes name mid store out y (given_of name store)) k (reaches.comes name store out seen.stands (are_out number own))) (delivers image number own name homes frame store c seen.machine_is.0)

-- ---- every effect

pub does : (C : Circumstance) (Of : Function → Type 0) (old mid new : Heap) (before after : List Frame) (instr : Instr) (n taken line : ℕ) (landing : Landing) (row : List StoreValue → Store → Given) (operands : List Value) (reached : Reached) (effect : Effect) → 0 < length before
    → n ≤ length (operands_of before) → reverse operands ≡ take n (values (operands_of before)) → Reaches old mid operands reached row → IsAccess Of instr n taken landing row → ((x : Frame) → innermost before ≡ Some x → Knows C x Of)
    → Settles landing line taken reached effect mid before new after → Does C line old before new after effect instr
does C Of old mid new [] after instr n taken line landing row operands reached effect there room are reaches is knows h = absurd (omega arith)
does C Of old mid new (x ∷ below) after instr n taken line landing row operands (r.Done (a.Value v)) e.Went there room are reaches is knows h =
    subst (λ z. PerformedWhere C old (x ∷ below) new z Went instr) (sym h.0)
    (value_there C Of old mid x below instr n taken line landing row operands (r.Done (a.Value v)) room are reaches is (knows x refl) v new refl (subst (λ z. TakesIn v mid (x ∷ below) new z) h.0 h.1))
does C Of old mid new (x ∷ below) after instr n taken line landing row operands (r.Done (a.Raised error)) (e.Raises raised) there room are reaches is knows h = (
  subst (λ z. FaultedWhere C old (x ∷ below) z instr) (sym h.0) (found C Of old mid x below instr n taken line landing row operands (r.Done (a.Raised error)) room are reaches is (knows x refl) error refl),
  subst (λ z. Carries old (x ∷ below) new z) (sym h.2) (subst (λ (z : Heap). Carries old (x ∷ below) z (x ∷ below)) (sym h.1) (unchanged C Of old mid x below instr n taken line landing row operands (r.Done (a.Raised error)) room are reaches is (knows x refl) error refl)),
  ap path_of h.2,
)
does C Of old mid new (x ∷ below) after instr n taken line landing row operands (r.Asks access) (e.Asks request) there room are reaches is knows h =
    subst (λ z. AsksWhere C line old (x ∷ below) new after (Wants z) instr) (sym h.0)
    (subst (λ z. AsksWhere C line old (x ∷ below) new z (Wants (s.Access access)) instr) (sym h.1)
    (want_there C Of old mid x below instr n taken line landing row operands (r.Asks access) room are reaches is (knows x refl) access new refl (subst (λ z. Carries mid (x ∷ below) new z) h.1 h.2)))
does C Of old mid new (x ∷ below) after instr n taken line landing row operands (r.Done (a.Value v)) (e.Raises raised) there room are reaches is knows h = absurd h
does C Of old mid new (x ∷ below) after instr n taken line landing row operands (r.Done (a.Value v)) (e.Asks request) there room are reaches is knows h = absurd h
does C Of old mid new (x ∷ below) after instr n taken line landing row operands (r.Done (a.Raised error)) e.Went there room are reaches is knows h = absurd h
does C Of old mid new (x ∷ below) after instr n taken line landing row operands (r.Done (a.Raised error)) (e.Asks request) there room are reaches is knows h = absurd h
does C Of old mid new (x ∷ below) after instr n taken line landing row operands (r.Asks access) e.Went there room are reaches is knows h = absurd h
does C Of old mid new (x ∷ below) after instr n taken line landing row operands (r.Asks access) (e.Raises raised) there room are reaches is knows h = absurd h
