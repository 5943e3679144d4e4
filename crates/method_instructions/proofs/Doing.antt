-- From an operation on the arguments of a call to the instruction's effect.
use Rattle.std.proofs.Common.{◌≡◌, ℕ, ◌+◌, ◌<◌, List, [], ◌∷◌, length, reverse, take, map, refl, sym, ap, ◌∙◌, subst, arith}
use Rattle.chan_values.specs.declared.error_code.ErrorCode.{ErrorCode}
use Rattle.heap_meaning.specs.Values.{Value}
use Rattle.heap_meaning.specs.Store.{Store}
use Rattle.heap_meaning.specs.Cells.{occurrences}
use Rattle.heap_meaning.specs.Stands.{Naming, Outside, meaning, Stands}
use Rattle.heap_meaning.specs.Heap.{Heap}
use Rattle.object_operations.specs.Answer.{Answer, Gives, Raises}
use Rattle.object_operations.specs.Applies.{Applies, Answers}
use Rattle.object_operations.specs.declared.applied.Applied.TheVariants as a
use Rattle.brs_code.specs.declared.instr.Instr.{Instr}
use Rattle.brs_builtins.specs.declared.operation.Operation.{Operation}
use Rattle.brs_builtins.specs.Table.{applied}
use Rattle.brs_meaning.specs.Given.{answered}
use Rattle.machine_meaning.specs.Image.{Image}
use Rattle.machine_meaning.specs.Acted.{Faults}
use Rattle.machine_meaning.specs.Setting.{Setting, gives}
use Rattle.machine_meaning.specs.Stepping.{setting_of}
use Rattle.frame_stack.specs.Operand.{values}
use Rattle.frame_stack.specs.Frame.{Frame, operands_of, changed}
use Rattle.call_release.specs.References.{call_references}
use Rattle.frame_actions.specs.Actions.{dropped, pushed, Carries}
use Rattle.actor_meaning.specs.View.{Home, held}
use Rattle.actor_meaning.specs.Performed.{working}
use Rattle.actor_errors.specs.Raising.{path_of}
use Rattle.moving_instructions.specs.Behind.{IsBehind}
use Rattle.operator_instructions.proofs.Arguments.{arguments_out}
use Rattle.operator_instructions.proofs.Applying.{replaced, value_shown}
use Rattle.instruction_effects.specs.declared.effect.Effect.{Effect}
use Rattle.instruction_effects.specs.declared.effect.Effect.TheVariants as e
use Rattle.instruction_effects.specs.Effects.{Circumstance, FaultedWhere, Does}
use Rattle.method_instructions.specs.Callees.{last_values}
use Rattle.method_instructions.specs.Operating.{GivesOf, OperatedOn}
use Rattle.method_instructions.proofs.Values.{in_order, values_out}

-- ---- an error

raised : (s : Setting) (name : Naming) (new : Heap) (store : Store) (before : Outside) (error : ErrorCode) (answer : Answer) → Answers name new store before (a.Raised error) answer
    → (gives s (answered answer) ≡ Faults error) × Stands name new.cells store before
raised s name new store before error (Gives w after) h = absurd h
raised s name new store before error (Raises wanted) h = (ap Faults (sym h.same), h.stands)

pub error_found : (old new : Heap) (frames : List Frame) (n k : ℕ) (operation : Operation) (arguments : List Value) (error : ErrorCode) → reverse arguments ≡ take k (values (operands_of frames))
    → Applies old new arguments (a.Raised error) (applied operation) → OperatedOn (e.Raises error) old frames new frames n k operation
error_found old new frames n k operation arguments error e applies =
    let same : arguments ≡ last_values k frames = in_order arguments k frames e in
    let on : Applies old new (last_values k frames) (a.Raised error) (applied operation) = subst (λ vs. Applies old new vs (a.Raised error) (applied operation)) same applies in (
      λ image number own instr is name homes frame waiting store seen.
          is.row name homes frame waiting store seen
          ∙ (raised (setting_of image number homes frame) name new store (held (working number own frames)) error (applied operation (map (meaning name) (last_values k frames)) store)
          (on.answers name store (held (working number own frames)) seen.stands (values_out number own frames k))).0,
      λ name store others s.
          (raised_stands name store (λ i. others i + call_references i frames) (applied operation (map (meaning name) (last_values k frames)) store)
          (on.answers name store (λ i. others i + call_references i frames) s (λ i. let y = arguments_out arguments frames k e i in let z : occurrences i arguments ≡ occurrences i (last_values k frames) = ap (occurrences i) same in omega arith))),
      refl,
    )
  where
    raised_stands : (name : Naming) (store : Store) (before : Outside) (answer : Answer) → Answers name new store before (a.Raised error) answer → Stands name new.cells store before
    raised_stands name store before (Gives w after) h = absurd h
    raised_stands name store before (Raises wanted) h = h.stands

-- ---- a value

value_there : (old mid new : Heap) (x : Frame) (below : List Frame) (n k to : ℕ) (operation : Operation) (arguments : List Value) (v : Value) → reverse arguments ≡ take k (values x.operands)
    → Applies old mid arguments (a.Value v) (applied operation) → to ≡ x.head.place + 1 → Carries mid (x ∷ below) new (dropped n to x ∷ below) → OperatedOn e.Went old (x ∷ below) new (replaced n v to x ∷ below) n k operation
value_there old mid new x below n k to operation arguments v e applies behind carries = λ image number own instr line operands is name homes frame waiting store seen.
    let on : Applies old mid (last_values k (x ∷ below)) (a.Value v) (applied operation) = subst (λ vs. Applies old mid vs (a.Value v) (applied operation)) (in_order arguments k (x ∷ below) e) applies in
    value_shown image number name own homes old mid new x below frame waiting store instr line n to v seen is.takes behind carries (applied operation (map (meaning name) (last_values k (x ∷ below))) store)
    (on.answers name store (held (working number own (x ∷ below))) seen.stands (values_out number own (x ∷ below) k)) (is.row name homes frame waiting store seen)

pub value_given : (old mid new : Heap) (frames middle after : List Frame) (n k to : ℕ) (operation : Operation) (arguments : List Value) (v : Value) → reverse arguments ≡ take k (values (operands_of frames))
    → Applies old mid arguments (a.Value v) (applied operation) → 0 < length frames → IsBehind frames to → Carries mid frames new middle → middle ≡ changed (dropped n to) frames → after ≡ changed (pushed v to) middle
    → OperatedOn e.Went old frames new after n k operation
value_given old mid new [] middle after n k to operation arguments v turned applies there behind carries fewer more_is = absurd (omega arith)
value_given old mid new (x ∷ below) middle after n k to operation arguments v turned applies there behind carries fewer more_is =
    subst (λ l. OperatedOn e.Went old (x ∷ below) new l n k operation) (sym (more_is ∙ ap (changed (pushed v to)) fewer))
    (value_there old mid new x below n k to operation arguments v turned applies behind (subst (λ l. Carries mid (x ∷ below) new l) fewer carries))

-- ---- the effect

pub does_where : (C : Circumstance) (effect : Effect) (line : ℕ) (old : Heap) (before : List Frame) (new : Heap) (after : List Frame) (instr : Instr) (n k : ℕ) (operation : Operation)
    → ((image : Image) (number : ℕ) (own : List Home) → C image number own → GivesOf image number own old before instr n k operation) → OperatedOn effect old before new after n k operation
    → Does C line old before new after effect instr
does_where C e.Went line old before new after instr n k operation rows done = λ image number own line operands c. done image number own instr line operands (rows image number own c)
does_where C (e.Raises error) line old before new after instr n k operation rows done = ((λ image number own c. done.0 image number own instr (rows image number own c)), done.1, ap path_of done.2)
does_where C (e.Asks request) line old before new after instr n k operation rows done = absurd done

-- an instruction that finds an error, and changes nothing
pub faults_where : (C : Circumstance) (line : ℕ) (heap : Heap) (frames : List Frame) (instr : Instr) (error : ErrorCode) → FaultedWhere C heap frames error instr → Does C line heap frames heap frames (e.Raises error) instr
faults_where C line heap frames instr error found = (found, (λ name store others s. s), refl)
