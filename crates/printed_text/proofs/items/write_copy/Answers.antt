use Rattle.std.proofs.Common.{◌++◌, Err, ap, ◌∙◌}
use Rattle.printed_text.proofs.ItemLaws.{copy_added, deep_refused, large_refused}
use Rattle.printed_text.proofs.items.write_copy.Goals as goal

pub returns-in_ok-push_str-in-Ok : goal.returns-in_ok-push_str-in-Ok
returns-in_ok-push_str-in-Ok c =
    copy_added c.args.heap.now c.args.v.now c.in-Ok.copy c.in_ok-text-in-Ok.text c.args.out.now c.push_str.new.self c.in-Ok.ensures.cells c.in_ok-text-in-Ok.ensures
    (c.in_ok-push_str-in-Ok.ensures.ok ∙ ap (λ r. c.args.out.now ++ r) c.as_str.ensures.bytes)

pub returns-in-Err-TooDeep : goal.returns-in-Err-TooDeep
returns-in-Err-TooDeep c = deep_refused c.args.heap.now c.args.v.now c.args.out.now c.copy_out.result c.copy_out.ensures.cells (c.in-Err-TooDeep.is ∙ ap Err c.in-Err-TooDeep.field-0-is)

pub returns-in-Err-TooLarge : goal.returns-in-Err-TooLarge
returns-in-Err-TooLarge c = large_refused c.args.heap.now c.args.v.now c.args.out.now c.copy_out.result c.copy_out.ensures.cells (c.in-Err-TooLarge.is ∙ ap Err c.in-Err-TooLarge.field-0-is)
