use Rattle.std.proofs.Common.{◌≡◌, ◌∙◌, sym, subst, Err, true, false}
use Rattle.copy_meaning.specs.Answers.{too_deep}
use Rattle.copy_meaning.specs.Bounded.{tree_within}
use Rattle.copy_meaning.specs.Forms.{form_at}
use Rattle.brs_copy.specs.Counts.{Counts}
use Rattle.brs_copy.proofs.Copying.{counted_fits, copy_whole, copy_deep, copy_large}
use Rattle.brs_copy.proofs.leave.copy_within.Goals as goal

pub fill-requires : goal.fill-requires
fill-requires c = counted_fits (form_at c.args.heap.now) c.args.bound c.args.most c.count.new.left c.args.v.now c.requires.bound c.requires.most c.in-Ok.ensures

pub returns-in-Ok-fill : goal.returns-in-Ok-fill
returns-in-Ok-fill c = copy_whole (form_at c.args.heap.now) c.args.bound c.args.most c.count.new.left c.args.v.now c.in-Ok-fill.copy c.in-Ok.ensures c.in-Ok-fill.ensures

pub returns-in-Err-TooDeep : goal.returns-in-Err-TooDeep
returns-in-Err-TooDeep c =
    copy_deep (form_at c.args.heap.now) c.args.bound c.args.most c.args.v.now
    (subst (λ fault. Counts (tree_within (form_at c.args.heap.now) c.args.bound c.args.v.now) c.args.most c.count.new.left (Err fault)) c.in-Err-TooDeep.field-0-is c.in-Err-TooDeep.ensures)

pub returns-in-Ok-true : goal.returns-in-Ok-true
returns-in-Ok-true c = too_deep (c.in-Ok-true.ensures.0 c.in-Ok-true.field-0-test)

pub returns-in-Ok-false : goal.returns-in-Ok-false
returns-in-Ok-false c =
    copy_large (form_at c.args.heap.now) c.args.bound c.args.most c.args.v.now
    (λ h. let e : true ≡ false = sym (c.in-Ok-false.ensures.1 h) ∙ c.in-Ok-false.field-0-test in absurd cc)
    (subst (λ fault. Counts (tree_within (form_at c.args.heap.now) c.args.bound c.args.v.now) c.args.most c.count.new.left (Err fault)) c.in-Err-TooLarge.field-0-is c.in-Err-TooLarge.ensures)
