-- What an operation on the last operands does to the machine that an actor is seen as.
use Rattle.std.proofs.Common.{◌≡◌, ℕ, ◌+◌, ◌<◌, ◌≤◌, List, [], ◌∷◌, length, reverse, take, drop, map, Some, None, refl, sym, ap, ◌∙◌, subst, arith}
use Rattle.chan_values.specs.declared.error_code.ErrorCode.{ErrorCode}
use Rattle.heap_meaning.specs.Values.{Value, StoreValue}
use Rattle.heap_meaning.specs.Store.{Store}
use Rattle.heap_meaning.specs.Cells.{occurrence}
use Rattle.heap_meaning.specs.Stands.{Naming, Outside, meaning, Stands}
use Rattle.heap_meaning.specs.Heap.{Heap}
use Rattle.heap_meaning.proofs.Steps.{stands_same}
use Rattle.object_operations.specs.Answer.{Answer, Gives, Raises}
use Rattle.object_operations.specs.Applies.{Applies, Answers, AreOut, Gave}
use Rattle.object_operations.specs.declared.applied.Applied.TheVariants as a
use Rattle.brs_code.specs.declared.instr.Instr.{Instr}
use Rattle.brs_code.specs.Instruction.{pops}
use Rattle.brs_builtins.specs.declared.operation.Operation.{Operation}
use Rattle.brs_builtins.specs.Table.{applied}
use Rattle.brs_meaning.specs.Given.{answered}
use Rattle.brs_meaning.specs.Locals as l
use Rattle.machine_meaning.specs.Image.{Image}
use Rattle.machine_meaning.specs.Frame as mm
use Rattle.machine_meaning.specs.Acted.{Goes, Faults}
use Rattle.machine_meaning.specs.Setting.{Setting, gives}
use Rattle.machine_meaning.specs.Instructions.{acted}
use Rattle.machine_meaning.specs.Stepping.{setting_of, carried}
use Rattle.frame_stack.specs.Operand.{values}
use Rattle.frame_stack.specs.Frame.{Frame, without_operands, operands_of, changed}
use Rattle.call_release.specs.References.{call_references}
use Rattle.frame_actions.specs.Actions.{at_place, dropped, pushed, Carries}
use Rattle.frame_actions.proofs.Holding.{pushed_holds}
use Rattle.actor_meaning.specs.declared.outcome.Outcome.TheVariants.{Went}
use Rattle.actor_meaning.specs.declared.phase.Phase.TheVariants.{Works}
use Rattle.actor_meaning.specs.View.{Home, home_references, held, FrameIs, MachineIs, ActorIs}
use Rattle.actor_meaning.specs.Promises.{SeenAs}
use Rattle.actor_meaning.specs.Performing.{ShownAs}
use Rattle.actor_meaning.specs.Performed.{working, Performed, Faulted}
use Rattle.actor_meaning.proofs.Moves.{place_seen, operands_fewer, place_moved, went}
use Rattle.actor_meaning.proofs.Naming.{machine_same, homes_agree}
use Rattle.moving_instructions.specs.Behind.{IsBehind}
use Rattle.moving_instructions.proofs.Values.{pushed_seen}
use Rattle.operator_instructions.specs.Operated.{Operated, IsOperation}
use Rattle.operator_instructions.proofs.Arguments.{arguments_out, arguments_seen, so_many}

-- ---- the instruction's row, by the operation's

acts_as : (image : Image) (number : ℕ) (name : Naming) (homes : List l.Home) (x : Frame) (frame : mm.Frame) (store : Store) (instr : Instr) (n : ℕ) (operation : Operation) (arguments : List Value)
    → IsOperation instr n operation → FrameIs image name x frame → n ≤ length x.operands → reverse arguments ≡ take n (values x.operands)
    → acted (setting_of image number homes frame) instr (take (pops instr) frame.operands) store ≡ gives (setting_of image number homes frame) (answered (applied operation (map (meaning name) arguments) store))
acts_as image number name homes x frame store instr n operation arguments is f room e =
    let s : Setting = setting_of image number homes frame in
    ap (λ k. acted s instr (take k frame.operands) store) is.takes
    ∙ is.row s (take n frame.operands) store (so_many image name x frame n f room)
    ∙ ap (λ vs. gives s (answered (applied operation vs store))) (arguments_seen image name x frame n arguments f e)

-- ---- an error

faults_as : (s : Setting) (name : Naming) (new : Heap) (store : Store) (before : Outside) (error : ErrorCode) (answer : Answer) → Answers name new store before (a.Raised error) answer → gives s (answered answer) ≡ Faults error
faults_as s name new store before error (Gives w after) h = absurd h
faults_as s name new store before error (Raises wanted) h = ap Faults (sym h.same)

stays : (name : Naming) (new : Heap) (store : Store) (before : Outside) (error : ErrorCode) (answer : Answer) → Answers name new store before (a.Raised error) answer → Stands name new.cells store before
stays name new store before error (Gives w after) h = absurd h
stays name new store before error (Raises wanted) h = h.stands

are_out : (number : ℕ) (own : List Home) (x : Frame) (below : List Frame) (n : ℕ) (arguments : List Value) → reverse arguments ≡ take n (values x.operands) → AreOut arguments (held (working number own (x ∷ below)))
are_out number own x below n arguments e = λ k. let y = arguments_out arguments (x ∷ below) n e k in omega arith

beside_others : (others : Outside) (frames : List Frame) (n : ℕ) (arguments : List Value) → reverse arguments ≡ take n (values (operands_of frames)) → AreOut arguments (λ k. others k + call_references k frames)
beside_others others frames n arguments e = λ k. let y = arguments_out arguments frames n e k in omega arith

module _ (old new : Heap) (operation : Operation) (arguments : List Value) (error : ErrorCode) (n : ℕ) (applies : Applies old new arguments (a.Raised error) (applied operation)) where
  found : (x : Frame) (below : List Frame) (instr : Instr) → n ≤ length x.operands → reverse arguments ≡ take n (values x.operands) → IsOperation instr n operation → Faulted old (x ∷ below) error instr
  found x below instr room e is = λ image number own name homes frame waiting store seen.
      acts_as image number name homes x frame store instr n operation arguments is seen.machine_is.0 room e
      ∙ faults_as (setting_of image number homes frame) name new store (held (working number own (x ∷ below))) error (applied operation (map (meaning name) arguments) store)
      (applies.answers name store (held (working number own (x ∷ below))) seen.stands (are_out number own x below n arguments e))

  unchanged : (frames : List Frame) → reverse arguments ≡ take n (values (operands_of frames)) → Carries old frames new frames
  unchanged frames e = λ name store others s.
      stays name new store (λ k. others k + call_references k frames) error (applied operation (map (meaning name) arguments) store)
      (applies.answers name store (λ k. others k + call_references k frames) s (beside_others others frames n arguments e))

  pub error_found : (frames : List Frame) (instr : Instr) → n ≤ length (operands_of frames) → reverse arguments ≡ take n (values (operands_of frames)) → 0 < length frames → IsOperation instr n operation → Operated (Some error) old frames new frames instr
  error_found [] instr room e there is = absurd (omega arith)
  error_found (x ∷ below) instr room e there is = (found x below instr room e is, unchanged (x ∷ below) e, refl)

-- ---- a value

-- the innermost call after it
abbrev pub replaced : (n : ℕ) → Value → (to : ℕ) → Frame → Frame
replaced n v to x = pushed v to (dropped n to x)

replaced_seen : (image : Image) (name : Naming) (x : Frame) (frame : mm.Frame) (n to : ℕ) (v : Value) (w : StoreValue) (instr : Instr) → FrameIs image name x frame → pops instr ≡ n → meaning name v ≡ w
    → FrameIs image name (replaced n v to x) (record frame { place = to; operands = mm.Holds w ∷ drop (pops instr) frame.operands; slots = frame.slots })
replaced_seen image name x frame n to v w instr f takes shows =
    let rest : mm.Frame = mm.at_place to (mm.with_operands (drop n frame.operands) frame) in
    let fewer : FrameIs image name (dropped n to x) rest = place_moved image name (without_operands n x) (mm.with_operands (drop n frame.operands) frame) to (operands_fewer image name x frame n f) in
    subst (λ k. FrameIs image name (replaced n v to x) (record frame { place = to; operands = mm.Holds w ∷ drop k frame.operands; slots = frame.slots })) (sym takes)
    (subst (λ u. FrameIs image name (replaced n v to x) (record frame { place = to; operands = mm.Holds u ∷ drop n frame.operands; slots = frame.slots })) shows (pushed_seen image name (dropped n to x) rest v to fewer))

stands_after : (name : Naming) (mid new : Heap) (store : Store) (others : Outside) (v : Value) (x : Frame) (below : List Frame) (n to : ℕ) → Stands name mid.cells store (λ k. occurrence k v + (others k + call_references k (x ∷ below)))
    → Carries mid (x ∷ below) new (dropped n to x ∷ below) → Stands name new.cells store (λ k. others k + call_references k (replaced n v to x ∷ below))
stands_after name mid new store others v x below n to s carries =
    stands_same name new.cells store (λ k. (occurrence k v + others k) + call_references k (dropped n to x ∷ below)) (λ k. others k + call_references k (replaced n v to x ∷ below))
    (
    carries name store (λ k. occurrence k v + others k)
    (stands_same name mid.cells store (λ k. occurrence k v + (others k + call_references k (x ∷ below))) (λ k. (occurrence k v + others k) + call_references k (x ∷ below)) s (λ k. omega arith))
    )
    (λ k. let y = pushed_holds k v to (dropped n to x ∷ below) (omega arith) in omega arith)

module _ (image : Image) (number : ℕ) (name : Naming) (own : List Home) (homes : List l.Home) (old mid new : Heap) (x : Frame) (below : List Frame) (frame : mm.Frame) (waiting : List mm.Suspended) (store : Store) (instr : Instr) (line n to : ℕ) (v : Value)
    (seen : ActorIs image name old (working number own (x ∷ below)) homes (mm.Works frame waiting) store) (takes : pops instr ≡ n) (behind : to ≡ x.head.place + 1) (carries : Carries mid (x ∷ below) new (dropped n to x ∷ below)) where
  abbrev out : Outside
  out = held (working number own (x ∷ below))

  seen_after : (w : StoreValue) (after : Store) → Gave name mid after out v w
      → SeenAs image new (working number own (replaced n v to x ∷ below)) homes (mm.Works (record frame { place = to; operands = mm.Holds w ∷ drop (pops instr) frame.operands; slots = frame.slots }) waiting) after
  seen_after w after gave =
      let same : MachineIs image gave.naming Works (x ∷ below) (mm.Works frame waiting) = machine_same name gave.naming out gave.agrees image Works (x ∷ below) (mm.Works frame waiting) (λ k. omega arith) seen.machine_is in
      record {
        naming = gave.naming;
        is = record {
          stands = stands_after gave.naming mid new after (λ k. home_references k own) v x below n to gave.stands carries;
          homes_are = seen.homes_are ∙ sym (homes_agree name gave.naming out gave.agrees own (λ k. omega arith));
          machine_is = (replaced_seen image gave.naming x frame n to v w instr same.0 takes gave.shows, same.1);
        };
      }

  pub value_shown : (answer : Answer) → Answers name mid store out (a.Value v) answer
      → acted (setting_of image number homes frame) instr (take (pops instr) frame.operands) store ≡ gives (setting_of image number homes frame) (answered answer)
      → ShownAs image new (working number own (replaced n v to x ∷ below)) Went homes (carried (acted (setting_of image number homes frame) instr (take (pops instr) frame.operands) store) homes frame line (drop (pops instr) frame.operands) waiting store)
  value_shown (Raises wanted) h e = absurd h
  value_shown (Gives w after) h e =
      went image new (working number own (replaced n v to x ∷ below)) homes frame line (drop (pops instr) frame.operands) waiting store after (acted (setting_of image number homes frame) instr (take (pops instr) frame.operands) store)
      frame.slots (mm.Holds w ∷ []) to (e ∙ ap (λ p. Goes frame.slots after (mm.Holds w ∷ []) p) (place_seen image name x frame to seen.machine_is.0 behind)) (seen_after w after h)

value_there : (old mid new : Heap) (x : Frame) (below : List Frame) (instr : Instr) (n to : ℕ) (operation : Operation) (arguments : List Value) (v : Value) → n ≤ length x.operands → reverse arguments ≡ take n (values x.operands)
    → Applies old mid arguments (a.Value v) (applied operation) → to ≡ x.head.place + 1 → Carries mid (x ∷ below) new (dropped n to x ∷ below) → IsOperation instr n operation
    → Performed old (x ∷ below) new (replaced n v to x ∷ below) Went instr
value_there old mid new x below instr n to operation arguments v room e applies behind carries is = λ image number own line operands name homes frame waiting store seen.
    value_shown image number name own homes old mid new x below frame waiting store instr line n to v seen is.takes behind carries (applied operation (map (meaning name) arguments) store)
    (applies.answers name store (held (working number own (x ∷ below))) seen.stands (are_out number own x below n arguments e)) (acts_as image number name homes x frame store instr n operation arguments is seen.machine_is.0 room e)

pub value_given : (old mid new : Heap) (frames middle after : List Frame) (instr : Instr) (n to : ℕ) (operation : Operation) (arguments : List Value) (v : Value) → n ≤ length (operands_of frames) → reverse arguments ≡ take n (values (operands_of frames))
    → Applies old mid arguments (a.Value v) (applied operation) → 0 < length frames → IsBehind frames to → Carries mid frames new middle → middle ≡ changed (dropped n to) frames → after ≡ changed (pushed v to) middle → IsOperation instr n operation
    → Operated None old frames new after instr
value_given old mid new [] middle after instr n to operation arguments v room e applies there behind carries fewer more_is is = absurd (omega arith)
value_given old mid new (x ∷ below) middle after instr n to operation arguments v room e applies there behind carries fewer more_is is =
    subst (λ l. Performed old (x ∷ below) new l Went instr) (sym (more_is ∙ ap (changed (pushed v to)) fewer))
    (value_there old mid new x below instr n to operation arguments v room e applies behind (subst (λ l. Carries mid (x ∷ below) new l) fewer carries) is)
