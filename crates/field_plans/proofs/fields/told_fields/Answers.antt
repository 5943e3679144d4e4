use Rattle.std.proofs.Common.{List, ℕ, Bor, take, refl}
use Rattle.field_types.specs.declared.types.FieldType.{FieldType}
use Rattle.field_plans.specs.Fields.{told_by}
use Rattle.field_plans.proofs.Plain.{told_plain}
use Rattle.field_plans.proofs.fields.told_fields.Goals as goal

abbrev Word : Type 0
Word = Bor (List ℕ) × FieldType × Bor (List ℕ)

pub returns-clause-openings : goal.returns-clause-openings
returns-clause-openings c =
    told_plain (λ (w : Word). w.0.now) (λ (w : Word). w.1) (λ (w : Word). w.2.now) told_by (λ w. refl) c.loop-word.fields (take c.loop-word.word-index c.args.words.now) c.loop-word.invariant
