use Rattle.std.proofs.lemmas.Result.{IfOk-weaker}
use Rattle.channel_run.proofs.InputReads.{cause_after, script_told, long_script_told, long_is_bad}
use Rattle.channel_run.proofs.input.read_script.Goals as goal

pub returns-in-Ok-Whole-clause-cause : goal.returns-in-Ok-Whole-clause-cause
returns-in-Ok-Whole-clause-cause g c = cause_after c.script_of.result _ _ c.in-Ok-Whole.ensures.cause c.script_of.ensures.cause

pub returns-in-Ok-LongLine-clause-cause : goal.returns-in-Ok-LongLine-clause-cause
returns-in-Ok-LongLine-clause-cause g c = cause_after c.script_of-in-Ok-LongLine.result _ _ c.in-Ok-LongLine.ensures.cause c.script_of-in-Ok-LongLine.ensures.cause

pub returns-in-Ok-LongLine-clause-told : goal.returns-in-Ok-LongLine-clause-told
returns-in-Ok-LongLine-clause-told g c =
    IfOk-weaker c.script_of-in-Ok-LongLine.result _ _ (λ script is. long_script_told _ _ _ script (rw c.in-Ok-LongLine.field-0-is at c.in-Ok-LongLine.ensures.told) is) c.script_of-in-Ok-LongLine.ensures.script
