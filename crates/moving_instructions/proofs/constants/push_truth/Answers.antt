use Rattle.std.proofs.Common.{refl}
use Rattle.heap_meaning.specs.declared.plain.Plain.TheVariants as p
use Rattle.brs_code.specs.declared.instr.Instr.TheVariants as i
use Rattle.frame_actions.proofs.Moving.{on_ok_then}
use Rattle.moving_instructions.proofs.Values.{plain_row}
use Rattle.moving_instructions.proofs.constants.push_truth.Goals as goal

pub returns-clause-ok : goal.returns-clause-ok
returns-clause-ok c =
    on_ok_then c.push_plain.result _ _ (λ e heap. plain_row heap c.args.frames.now c.push_plain.new.frames (i.Truth c.args.b) (p.Truth c.args.b) c.requires.there refl (λ s store. refl) e) c.push_plain.ensures.ok
