use Rattle.std.proofs.Common.{ap, refl, ◌∙◌, arith}
use Rattle.std.specs.Prelude.{length}
use Rattle.code_drafts.specs.declared.draft.Draft.{out-Draft}
use Rattle.code_lowering.proofs.Growing.{grows_self, grows_on, begins_self, begins_on}
use Rattle.code_lowering.proofs.Snoc.{body_begin, body_more, body_done, counted, drafted, plain_drafted, function_at, function_whole, made_as}
use Rattle.code_lowering.proofs.Split.{opens_plain, opens_function}
use Rattle.code_lowering.proofs.function.+lower.Goals as goal

pub lower_body-loop-at-init : goal.lower_body-loop-at-init
lower_body-loop-at-init t c = record {
  count = ap length c.new-list.ensures;
  grows = grows_self c.args.tables.now;
  file = begins_self c.args.file.now;
  stands = λ all f b r s. body_begin all f (length c.args.file.now) c.args.code.now;
}

pub lower_body-loop-at-preserved : goal.lower_body-loop-at-preserved
lower_body-loop-at-preserved t c = record {
  count = counted c.loop-at.list c.push.new.self c.in_ok-one.one c.loop-at.at c.loop-at.invariant.count c.in-Ok.ensures.ok;
  grows = grows_on c.args.tables.now c.loop-at.tables c.lower_instruction.new.tables c.loop-at.invariant.grows c.in_ok-one.ensures.tables;
  file = begins_on c.args.file.now c.loop-at.file c.lower_instruction.new.file c.loop-at.invariant.file c.in_ok-one.ensures.file;
  stands = body_more c.args.file.now c.loop-at.file c.lower_instruction.new.file c.loop-at.tables c.lower_instruction.new.tables c.loop-at.list c.push.new.self c.args.code.now c.loop-at.at _ c.index-code-code.result c.in_ok-one.one c.loop-at.operands
      c.in_ok-operands.operands c.loop-at-test.true refl c.index-code-code.is c.loop-at.invariant.count c.loop-at.invariant.stands c.in_ok-one.ensures.tables c.in_ok-one.ensures.file c.in_ok-one.ensures.stands c.in_ok-operands.ensures c.in-Ok.ensures.ok;
}

pub lower_body-returns-clause-stands : goal.lower_body-returns-clause-stands
lower_body-returns-clause-stands t c = body_done c.args.file.now c.loop-at.file c.loop-at.tables c.loop-at.list c.args.code.now c.loop-at.at c.loop-at.operands (omega arith) (omega arith) c.loop-at.invariant.stands

pub lower_function-returns-clause-function : goal.lower_function-returns-clause-function
lower_function-returns-clause-function t c =
    function_whole c.args.file.now c.lower_body.new.file c.parameters.new.tables c.lower_body.new.tables c.in_ok-list.list c.args.parameter_drafts.now c.args.code.now c.args.heading.line c.args.heading.needed c.args.heading.size c.args.heading.value _
    c.in_ok-parameters.ensures c.in_ok-list.ensures.tables c.in_ok-list.ensures.stands c.in_ok-list.ensures.count c.in_ok-names.ensures.names c.in_ok-names.ensures.distinct refl refl refl refl refl refl c.saturating_sub.ensures refl

pub lower_instruction-returns-in_ok-at_place-in-Plain-clause-stands :
    goal.lower_instruction-returns-in_ok-at_place-in-Plain-clause-stands
lower_instruction-returns-in_ok-at_place-in-Plain-clause-stands t c all f b r h =
    plain_drafted c.args.at c.args.operands _ _ _ c.args.draft.now _ (ap out-Draft c.in-Plain.is ∙ opens_plain _ _) (c.holds.ensures.instr ∙ c.in_ok-at_place-in-Plain.ensures) c.holds.ensures.line c.holds.ensures.operands all f h

pub lower_instruction-returns-in_ok-push-in-Function-clause-stands :
    goal.lower_instruction-returns-in_ok-push-in-Function-clause-stands
lower_instruction-returns-in_ok-push-in-Function-clause-stands t c all f b r h =
    drafted all f c.args.at _ c.args.operands c.args.draft.now _ _ _ (ap out-Draft c.in-Function.is ∙ opens_function _ _ _ _ _ _)
    (function_at c.args.file.now _ _ c.args.at c.args.operands _ _ _ _ _ _ _ _ _ (made_as _ _ _ _ _ _ _ _ _ _ _ c.as_slice-in-Function.ensures c.as_slice-in-Function-2.ensures c.in_ok-made-in-Function.ensures.function) c.len-number.ensures c.in_ok-push-in-Function.ensures.ok c.holds-in-Function.ensures.instr c.holds-in-Function.ensures.line
    c.holds-in-Function.ensures.operands all f b h)
