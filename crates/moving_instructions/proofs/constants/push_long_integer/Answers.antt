use Rattle.std.proofs.Common.{refl, subst, w64}
use Rattle.std.proofs.lemmas.Int.{to_z-of_z}
use Rattle.heap_meaning.specs.declared.plain.Plain.TheVariants as p
use Rattle.brs_code.specs.declared.instr.Instr.TheVariants as i
use Rattle.frame_actions.proofs.Moving.{on_ok_then}
use Rattle.moving_instructions.specs.Choices.{PushesPlain}
use Rattle.moving_instructions.proofs.Values.{plain_row}
use Rattle.moving_instructions.proofs.constants.push_long_integer.Goals as goal

pub returns-clause-ok : goal.returns-clause-ok
returns-clause-ok c =
    on_ok_then c.push_plain.result _ _
    (λ e heap. plain_row heap c.args.frames.now c.push_plain.new.frames (i.LongInteger c.args.n) (p.Big c.args.n) c.requires.there refl (λ s store. refl) (subst (λ z. PushesPlain (p.Big z) c.args.frames.now c.push_plain.new.frames) (to_z-of_z w64 c.args.n c.ranges.n) e))
    c.push_plain.ensures.ok
