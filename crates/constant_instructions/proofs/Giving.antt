-- An instruction that takes operands and gives a value, in a circumstance.
use Rattle.std.proofs.Common.{◌≡◌, ℕ, ◌+◌, ◌<◌, List, [], ◌∷◌, length, take, refl, sym, ap, ◌∙◌, subst, arith}
use Rattle.heap_meaning.specs.Values.{Value, StoreValue}
use Rattle.heap_meaning.specs.Store.{Store}
use Rattle.heap_meaning.specs.Stands.{Naming, Outside}
use Rattle.heap_meaning.specs.Heap.{Heap}
use Rattle.object_operations.specs.Answer as answer
use Rattle.object_operations.specs.Applies.{Gave}
use Rattle.brs_code.specs.declared.instr.Instr.{Instr}
use Rattle.brs_code.specs.Instruction.{pops}
use Rattle.brs_meaning.specs.Given.{Gives}
use Rattle.brs_meaning.specs.Locals as l
use Rattle.machine_meaning.specs.Image.{Image}
use Rattle.machine_meaning.specs.Frame as mm
use Rattle.machine_meaning.specs.Setting.{Setting, gives}
use Rattle.machine_meaning.specs.Instructions.{acted}
use Rattle.machine_meaning.specs.Stepping.{setting_of}
use Rattle.frame_stack.specs.Frame.{Frame, changed}
use Rattle.frame_actions.specs.Actions.{dropped, pushed, Carries}
use Rattle.frame_actions.proofs.Moving.{place_holds}
use Rattle.actor_meaning.specs.declared.outcome.Outcome.TheVariants.{Went}
use Rattle.actor_meaning.specs.View.{Home, held, ActorIs}
use Rattle.actor_meaning.specs.Performed.{working}
use Rattle.moving_instructions.specs.Behind.{IsBehind}
use Rattle.moving_instructions.proofs.Going.{carries_same}
use Rattle.operator_instructions.proofs.Applying.{replaced, value_shown}
use Rattle.instruction_effects.specs.Effects.{Circumstance, PerformedWhere}

-- what the row gives of the last operands, and that the value of the heap stands for it
pub record GivesValue (instr : Instr) (n : ℕ) (mid : Heap) (out : Outside) (v : Value) (name : Naming) (s : Setting) (store : Store) : Type 0 where
  pub value : StoreValue
  pub after : Store
  pub gave : Gave name mid after out v value
  pub acts : acted s instr (take n s.frame.operands) store ≡ gives s (Gives value after)

-- as whatever the actor is seen in this circumstance, the value stands for what the instruction gives of so many operands
abbrev pub GivesWhere : Circumstance → (old mid : Heap) → (before : List Frame) → Instr → (n : ℕ) → Value → Type 0
GivesWhere C old mid before instr n v =
    (image : Image) (number : ℕ) (own : List Home) → C image number own → (name : Naming) (homes : List l.Home) (frame : mm.Frame) (waiting : List mm.Suspended) (store : Store)
    → ActorIs image name old (working number own before) homes (mm.Works frame waiting) store → GivesValue instr n mid (held (working number own before)) v name (setting_of image number homes frame) store

given_there : (C : Circumstance) (old mid new : Heap) (x : Frame) (below : List Frame) (instr : Instr) (n to : ℕ) (v : Value) → to ≡ x.head.place + 1 → pops instr ≡ n → GivesWhere C old mid (x ∷ below) instr n v
    → Carries mid (x ∷ below) new (dropped n to x ∷ below) → PerformedWhere C old (x ∷ below) new (replaced n v to x ∷ below) Went instr
given_there C old mid new x below instr n to v behind takes given carries = λ image number own line operands c name homes frame waiting store seen.
    let s : Setting = setting_of image number homes frame in
    let g : GivesValue instr n mid (held (working number own (x ∷ below))) v name s store = given image number own c name homes frame waiting store seen in
    value_shown image number name own homes old mid new x below frame waiting store instr line n to v seen takes behind carries (answer.Gives g.value g.after) g.gave (ap (λ k. acted s instr (take k frame.operands) store) takes ∙ g.acts)

-- it took the operands, and put the value in their place
pub given_where : (C : Circumstance) (old mid new : Heap) (before middle after : List Frame) (instr : Instr) (n to : ℕ) (v : Value) → 0 < length before → IsBehind before to → pops instr ≡ n → GivesWhere C old mid before instr n v
    → Carries mid before new middle → middle ≡ changed (dropped n to) before → after ≡ changed (pushed v to) middle → PerformedWhere C old before new after Went instr
given_where C old mid new [] middle after instr n to v there behind takes given carries fewer more_is = absurd (omega arith)
given_where C old mid new (x ∷ below) middle after instr n to v there behind takes given carries fewer more_is =
    subst (λ l. PerformedWhere C old (x ∷ below) new l Went instr) (sym (more_is ∙ ap (changed (pushed v to)) fewer))
    (given_there C old mid new x below instr n to v behind takes given (subst (λ l. Carries mid (x ∷ below) new l) fewer carries))

-- it put a value on the operands
pub pushed_where : (C : Circumstance) (old mid : Heap) (before after : List Frame) (instr : Instr) (to : ℕ) (v : Value) → 0 < length before → IsBehind before to → pops instr ≡ 0 → GivesWhere C old mid before instr 0 v
    → after ≡ changed (pushed v to) before → PerformedWhere C old before mid after Went instr
pushed_where C old mid [] after instr to v there behind takes given e = absurd (omega arith)
pushed_where C old mid (x ∷ below) after instr to v there behind takes given e =
    given_where C old mid mid (x ∷ below) (dropped 0 to x ∷ below) after instr 0 to v there behind takes given (carries_same mid (x ∷ below) (dropped 0 to x ∷ below) (λ k. place_holds k to (x ∷ below))) refl e
