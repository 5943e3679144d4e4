-- What an instruction promises that has to know nothing, and what the calls show of numbers.
use Rattle.std.proofs.Common.{◌≡◌, ℕ, ◌≤◌, List, [], ◌∷◌, Option, Some, refl, sym, ap, ◌∙◌, arith}
use Rattle.std.specs.Prelude.{ℤ, slice_get}
use Rattle.std.specs.Option.{option_map}
use Rattle.chan_values.specs.declared.error_code.ErrorCode.{ErrorCode}
use Rattle.heap_meaning.specs.Values.{Value, Scalar}
use Rattle.heap_meaning.specs.Store.{Store}
use Rattle.heap_meaning.specs.Stands.{Naming, Outside, meaning, Stands}
use Rattle.heap_meaning.specs.Heap.{Heap}
use Rattle.brs_code.specs.declared.instr.Instr.{Instr}
use Rattle.brs_meaning.specs.Statements.{number, variable_number}
use Rattle.frame_stack.specs.Operand.{values}
use Rattle.frame_stack.specs.Frame.{Frame, operands_of, slots_of, slot_value}
use Rattle.call_release.specs.References.{all_operand_references, call_references}
use Rattle.frame_actions.proofs.Holding.{slot_held}
use Rattle.actor_meaning.specs.declared.outcome.Outcome.TheVariants.{Went}
use Rattle.actor_meaning.specs.Performed.{Performed, Faulted}
use Rattle.instruction_effects.specs.declared.effect.Effect.TheVariants as e
use Rattle.loop_instructions.specs.declared.numbers.Number.{Number}
use Rattle.instruction_effects.specs.Effects.{DoesAnywhere}
use Rattle.loop_instructions.specs.Numbers.{number_at, plain_number, integer}
use Rattle.loop_instructions.proofs.Finding.{Found}
use Rattle.loop_instructions.proofs.Meaning.{value_means, slot_means, number_means}

pub raises : (heap : Heap) (frames : List Frame) (error : ErrorCode) (instr : Instr) → Faulted heap frames error instr → DoesAnywhere heap frames heap frames (e.Raises error) instr
raises heap frames error instr faulted = λ line. (λ image number homes any. faulted image number homes, λ name store others s. s, refl)

pub goes : (old new : Heap) (before after : List Frame) (instr : Instr) → Performed old before new after Went instr → DoesAnywhere old before new after e.Went instr
goes old new before after instr performed = λ line image number homes at operands any. performed image number homes at operands

-- ---- numbers

-- whatever the heap stands for while the calls hold what they do, this is read in its store
abbrev pub Means : Heap → List Frame → (Naming → Option ℤ) → Option Number → Type 0
Means heap frames read a =
    (name : Naming) (store : Store) (outside : Outside) → Stands name heap.cells store outside → ((k : ℕ) → call_references k frames ≤ outside k) → read name ≡ option_map integer a

operands_held : (k : ℕ) (frames : List Frame) → all_operand_references k (operands_of frames) ≤ call_references k frames
operands_held k [] = omega arith
operands_held k (x ∷ below) = omega arith

pub operand_means : (heap : Heap) (frames : List Frame) (place : ℕ) (v : Value) (a : Option Number) → Found (operands_of frames) place v → a ≡ number_at (slice_get (values (operands_of frames)) place) → Means heap frames (λ name. number (meaning name v)) a
operand_means heap frames place v a f is = λ name store outside stands out.
    value_means heap name store outside v stands (λ k. let x = f.out k in let y = operands_held k frames in let z = out k in omega arith) ∙ ap (option_map integer) (sym (is ∙ ap number_at f.there))

pub variable_means : (heap : Heap) (frames : List Frame) (slot : ℕ) (a : Option Number) → a ≡ number_at (slot_value (slots_of frames) slot) → Means heap frames (λ name. variable_number (option_map (meaning name) (slot_value (slots_of frames) slot))) a
variable_means heap frames slot a is = λ name store outside stands out.
    slot_means heap name store outside (slot_value (slots_of frames) slot) stands (λ v held k. let x = slot_held slot v frames held k in let y = out k in omega arith) ∙ ap (option_map integer) (sym is)

pub constant_means : (heap : Heap) (frames : List Frame) (m : Number) → Means heap frames (λ name. number (Scalar (plain_number m))) (Some m)
constant_means heap frames m = λ name store outside stands out. number_means m
