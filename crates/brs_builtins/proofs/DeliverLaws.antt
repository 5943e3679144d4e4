-- From what is given of operands to what an operation answers.
use Rattle.std.proofs.Common.{◌≡◌, ℕ, List, refl, sym, ap, ◌∙◌, subst}
use Rattle.chan_values.specs.declared.error_code.ErrorCode.{ErrorCode}
use Rattle.heap_meaning.specs.declared.plain.Plain.{Plain}
use Rattle.heap_meaning.specs.Values.{Value, Direct, Scalar, Words}
use Rattle.heap_meaning.specs.Store.{Store}
use Rattle.heap_meaning.specs.Heap.{Heap, MakesText}
use Rattle.plain_operations.specs.Operand.{Operand}
use Rattle.plain_operations.specs.Outcome.{Outcome}
use Rattle.object_operations.specs.Answer.{Gives, Raises}
use Rattle.object_operations.specs.Applies.{Answers, Applies}
use Rattle.object_operations.specs.declared.applied.Applied.{Applied}
use Rattle.object_operations.specs.declared.applied.Applied.TheVariants as a
use Rattle.object_operations.proofs.Answering.{gave_plain, gave_text, refusal}
use Rattle.brs_builtins.specs.Operands.{operands_at, answer_of}
use Rattle.brs_builtins.specs.Outcomes.{on_operands}
use Rattle.brs_builtins.specs.Delivers.{Delivers}
use Rattle.brs_builtins.proofs.OperandLaws.{operands_seen}

-- a plain value is delivered
pub delivers_plain : (h : Heap) (v : Value) (plain : Plain) (o : Outcome) → v ≡ Direct plain → ((store : Store) → answer_of o store ≡ Gives (Scalar plain) store) → Delivers h h (a.Value v) (answer_of o)
delivers_plain h v plain o e f = record {
  answers = λ name store before s.
      subst (λ x. Answers name h store before (a.Value v) x) (sym (f store)) (subst (λ u. Answers name h store before (a.Value u) (Gives (Scalar plain) store)) (sym e) (gave_plain name h store before plain s));
}

pub delivers_text : (h h1 : Heap) (v : Value) (bytes : List ℕ) (o : Outcome) → ((store : Store) → answer_of o store ≡ Gives (Words bytes) store) → MakesText h h1 v bytes → Delivers h h1 (a.Value v) (answer_of o)
delivers_text h h1 v bytes o f m = record {
  answers = λ name store before s. subst (λ x. Answers name h1 store before (a.Value v) x) (sym (f store)) (gave_text name h h1 store before v bytes s m);
}

pub delivers_error : (h : Heap) (error : ErrorCode) (o : Outcome) → ((store : Store) → answer_of o store ≡ Raises error) → Delivers h h (a.Raised error) (answer_of o)
delivers_error h error o f = record { answers = λ name store before s. subst (λ x. Answers name h store before (a.Raised error) x) (sym (f store)) (refusal name h store before error s) }

-- what was given of the operands is delivered
pub applied_to_operands : (h h1 : Heap) (arguments : List Value) (r : Applied) (o : Outcome) (given : List Operand → Outcome) → o ≡ given (operands_at h arguments) → Delivers h h1 r (answer_of o) → Applies h h1 arguments r (on_operands given)
applied_to_operands h h1 arguments r o given e d = record {
  answers = λ name store before s out.
      let f = operands_seen h name store before arguments s out in
      subst (λ x. Answers name h1 store before r (answer_of x store)) (e ∙ ap given (sym f)) (d.answers name store before s);
}
