-- The row of `Print`, as whatever machine the actor is seen.
use Rattle.std.proofs.Common.{◌≡◌, ℕ, ◌+◌, ◌<◌, List, [], ◌∷◌, length, reverse, take, drop, map, Some, refl, sym, ap, ◌∙◌, subst, arith}
use Rattle.chan_values.specs.declared.error_code.ErrorCode.{ErrorCode}
use Rattle.heap_meaning.specs.Values.{Value}
use Rattle.heap_meaning.specs.Store.{Store}
use Rattle.heap_meaning.specs.Stands.{Naming}
use Rattle.heap_meaning.specs.Heap.{Heap}
use Rattle.object_operations.specs.Applies.{AreOut}
use Rattle.brs_code.specs.declared.function.Function.{Function}
use Rattle.brs_code.specs.declared.function.Mark.{Mark}
use Rattle.brs_code.specs.declared.instr.Instr.TheVariants as i
use Rattle.brs_meaning.specs.Locals as l
use Rattle.brs_meaning.specs.Printing.{printed}
use Rattle.machine_meaning.specs.Image.{Image, function_at}
use Rattle.machine_meaning.specs.Frame as mm
use Rattle.machine_meaning.specs.Acted as d
use Rattle.machine_meaning.specs.Acted.{Acted}
use Rattle.machine_meaning.specs.Statements.{form_mark, prints}
use Rattle.machine_meaning.specs.Instructions.{acted}
use Rattle.machine_meaning.specs.Stepping.{setting_of, carried}
use Rattle.frame_stack.specs.Operand.{values}
use Rattle.frame_stack.specs.Frame.{Frame, without_operands, operands_of, changed}
use Rattle.frame_actions.specs.Actions.{dropped, Carries}
use Rattle.actor_meaning.specs.declared.outcome.Outcome.TheVariants as o
use Rattle.actor_meaning.specs.View.{Home, home_references, held, FrameIs, ActorIs}
use Rattle.actor_meaning.specs.Promises.{SeenAs}
use Rattle.actor_meaning.specs.Performing.{ShownAs}
use Rattle.actor_meaning.specs.Performed.{working}
use Rattle.actor_meaning.proofs.Moves.{place_seen, place_moved, operands_fewer}
use Rattle.instruction_effects.specs.Effects.{Runs, PerformedWhere, FaultedWhere}
use Rattle.moving_instructions.specs.Behind.{IsBehind}
use Rattle.operator_instructions.proofs.Arguments.{arguments_out, arguments_seen}
use Rattle.printed_text.specs.declared.printing.Printing.{Printing}
use Rattle.printed_text.specs.declared.printing.Printing.TheVariants as p
use Rattle.printed_text.specs.Prints.{printing_of, Prints}
use Rattle.print_instruction.specs.PrintDone.{PrintDone}

same_function : (image : Image) (name : Naming) (x : Frame) (frame : mm.Frame) (f : Function) → FrameIs image name x frame → function_at image x.head.function ≡ Some f → frame.function ≡ f
same_function image name x frame f is e = let q : Some frame.function ≡ Some f = sym is.function ∙ e in cc

are_out : (number : ℕ) (own : List Home) (x : Frame) (below : List Frame) (k : ℕ) (arguments : List Value) → reverse arguments ≡ take k (values x.operands) → AreOut arguments (held (working number own (x ∷ below)))
are_out number own x below k arguments e = λ j. let y = arguments_out arguments (x ∷ below) k e j in omega arith

module _ (old : Heap) (f : Function) (first count k : ℕ) (x : Frame) (below : List Frame) (arguments : List Value) (printing : Printing)
    (last : reverse arguments ≡ take k (values x.operands)) (made : Prints old (take count (drop first f.marks)) arguments printing) where
  acts : (image : Image) (number : ℕ) (own : List Home) (name : Naming) (homes : List l.Home) (frame : mm.Frame) (waiting : List mm.Suspended) (store : Store) → function_at image x.head.function ≡ Some f
      → ActorIs image name old (working number own (x ∷ below)) homes (mm.Works frame waiting) store
      → acted (setting_of image number homes frame) (i.Print first count k) (take k frame.operands) store ≡ prints (printing_of printing)
  acts image number own name homes frame waiting store runs seen =
      ap (λ (g : Function). prints (printed (map form_mark (take count (drop first g.marks))) (reverse (mm.values (take k frame.operands))) store)) (same_function image name x frame f seen.machine_is.0 runs)
      ∙ ap (λ vs. prints (printed (map form_mark (take count (drop first f.marks))) vs store)) (arguments_seen image name x frame k arguments seen.machine_is.0 last)
      ∙ ap prints (sym (made name store (held (working number own (x ∷ below))) seen.stands (are_out number own x below k arguments last)))

-- ---- a text

shown_as : (image : Image) (new : Heap) (number : ℕ) (own : List Home) (homes : List l.Home) (after : List Frame) (frame : mm.Frame) (line k : ℕ) (waiting : List mm.Suspended) (store : Store) (text : List ℕ) (act : Acted) → act ≡ d.Prints text
    → SeenAs image new (working number own after) homes (mm.Works (record frame { place = frame.place + 1; operands = drop k frame.operands }) waiting) store
    → ShownAs image new (working number own after) (o.Printed text) homes (carried act homes frame line (drop k frame.operands) waiting store)
shown_as image new number own homes after frame line k waiting store text act e seen =
    subst (λ a. ShownAs image new (working number own after) (o.Printed text) homes (carried a homes frame line (drop k frame.operands) waiting store)) (sym e) (refl, seen)

frame_after : (image : Image) (name : Naming) (x : Frame) (frame : mm.Frame) (k to : ℕ) → FrameIs image name x frame → to ≡ x.head.place + 1
    → FrameIs image name (dropped k to x) (record frame { place = frame.place + 1; operands = drop k frame.operands })
frame_after image name x frame k to f behind =
    subst (λ at. FrameIs image name (dropped k to x) (record frame { place = at; operands = drop k frame.operands })) (sym (place_seen image name x frame to f behind))
    (place_moved image name (without_operands k x) (mm.with_operands (drop k frame.operands) frame) to (operands_fewer image name x frame k f))

text_at_work : (old new : Heap) (f : Function) (first count k to : ℕ) (x : Frame) (below : List Frame) (arguments : List Value) (text : List ℕ)
    → reverse arguments ≡ take k (values x.operands) → Prints old (take count (drop first f.marks)) arguments (p.Printed text) → to ≡ x.head.place + 1 → Carries old (x ∷ below) new (dropped k to x ∷ below)
    → PerformedWhere (Runs f (x ∷ below)) old (x ∷ below) new (dropped k to x ∷ below) (o.Printed text) (i.Print first count k)
text_at_work old new f first count k to x below arguments text last made behind carries = λ image number own line operands runs name homes frame waiting store seen.
    shown_as image new number own homes (dropped k to x ∷ below) frame line k waiting store text (acted (setting_of image number homes frame) (i.Print first count k) (take k frame.operands) store)
    (acts old f first count k x below arguments (p.Printed text) last made image number own name homes frame waiting store runs seen)
    (record {
      naming = name;
      is = record {
        stands = carries name store (λ j. home_references j own) seen.stands;
        homes_are = seen.homes_are;
        machine_is = (frame_after image name x frame k to seen.machine_is.0 behind, seen.machine_is.1);
      };
    })

pub text_done : (old new : Heap) (before after : List Frame) (f : Function) (first count k to : ℕ) (arguments : List Value) (text : List ℕ)
    → 0 < length before → reverse arguments ≡ take k (values (operands_of before)) → Prints old (take count (drop first f.marks)) arguments (p.Printed text) → IsBehind before to → Carries old before new after
    → after ≡ changed (dropped k to) before → PrintDone (Runs f before) old before new after (p.Printed text) (i.Print first count k)
text_done old new [] after f first count k to arguments text there last made behind carries e = absurd (omega arith)
text_done old new (x ∷ below) after f first count k to arguments text there last made behind carries e =
    subst (λ a. PerformedWhere (Runs f (x ∷ below)) old (x ∷ below) new a (o.Printed text) (i.Print first count k)) (sym e)
    (text_at_work old new f first count k to x below arguments text last made behind (subst (λ a. Carries old (x ∷ below) new a) e carries))

-- ---- an error

error_at_work : (old : Heap) (f : Function) (first count k : ℕ) (x : Frame) (below : List Frame) (arguments : List Value) (error : ErrorCode)
    → reverse arguments ≡ take k (values x.operands) → Prints old (take count (drop first f.marks)) arguments (p.Raises error)
    → FaultedWhere (Runs f (x ∷ below)) old (x ∷ below) error (i.Print first count k)
error_at_work old f first count k x below arguments error last made = λ image number own runs name homes frame waiting store seen.
    acts old f first count k x below arguments (p.Raises error) last made image number own name homes frame waiting store runs seen

pub error_done : (old : Heap) (before : List Frame) (f : Function) (first count k : ℕ) (arguments : List Value) (error : ErrorCode)
    → 0 < length before → reverse arguments ≡ take k (values (operands_of before)) → Prints old (take count (drop first f.marks)) arguments (p.Raises error)
    → PrintDone (Runs f before) old before old before (p.Raises error) (i.Print first count k)
error_done old [] f first count k arguments error there last made = absurd (omega arith)
error_done old (x ∷ below) f first count k arguments error there last made = (error_at_work old f first count k x below arguments error last made, (λ name store others s. s), refl)

-- ---- the marks of the instruction

pub of_marks : (heap : Heap) (marks wanted : List Mark) (arguments : List Value) (printing told : Printing) → marks ≡ wanted → printing ≡ told → Prints heap marks arguments printing → Prints heap wanted arguments told
of_marks heap marks wanted arguments printing told e f made = subst (λ q. Prints heap wanted arguments q) f (subst (λ ms. Prints heap ms arguments printing) e made)
