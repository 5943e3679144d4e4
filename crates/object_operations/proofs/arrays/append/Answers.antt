use Rattle.std.proofs.Common.{rules, arith, ◌+◌, ◌^◌, ◌<◌}
use Rattle.heap_meaning.specs.Heap.{content_at}
use Rattle.heap_meaning.specs.Reading.{length_in}
use Rattle.object_operations.proofs.ArrayLaws.{handed}
use Rattle.object_operations.proofs.ArrayLoops.{appends_no_array, appends_too_long, append_start, append_step, appends}
use Rattle.object_operations.proofs.arrays.append.Goals.{then-more-gt-MAX_LENGTH-via-then-more-gt-MAX_LENGTH, then-more-gt-MAX_LENGTH-via-else-more-gt-MAX_LENGTH+then-length-more}
use Rattle.object_operations.proofs.arrays.append.Goals as goal

pub returns-then-not-holds_array-clause-answer : goal.returns-then-not-holds_array-clause-answer
returns-then-not-holds_array-clause-answer c = appends_no_array c.args.heap.now c.args.array.now c.args.from.now (search rules)

pub returns-then-more-gt-MAX_LENGTH-clause-answer : goal.returns-then-more-gt-MAX_LENGTH-clause-answer
returns-then-more-gt-MAX_LENGTH-clause-answer c =
    let long : 2 ^ 20 < length_in (content_at c.args.heap.now c.args.array.now) + length_in (content_at c.args.heap.now c.args.from.now) =
    elim c.then-more-gt-MAX_LENGTH.branch [ then-more-gt-MAX_LENGTH-via-then-more-gt-MAX_LENGTH w ↦ omega arith | then-more-gt-MAX_LENGTH-via-else-more-gt-MAX_LENGTH+then-length-more w ↦ omega arith ] in
    appends_too_long c.args.heap.now c.args.array.now c.args.from.now (search rules) long

pub loop-at-init : goal.loop-at-init
loop-at-init c = record { appended = append_start c.args.heap.now c.args.array.now c.args.from.now; array = c.requires.array; shares = omega arith }

pub loop-at-preserved : goal.loop-at-preserved
loop-at-preserved c = record {
  appended = append_step c.args.heap.now c.loop-at.heap c.append_item.new.heap c.args.array.now c.args.from.now c.loop-at.at (omega arith) c.loop-at.invariant.appended c.in_ok-append_item.ensures.appended;
  array = c.in_ok-append_item.ensures.array;
  shares = omega (arith, c.append_item.ensures.shares);
}

pub returns-clause-answer : goal.returns-clause-answer
returns-clause-answer c = handed c.plain.ensures (appends c.args.heap.now c.loop-at.heap c.args.array.now c.args.from.now c.loop-at.at (search rules) (omega arith) (omega arith) c.loop-at.invariant.appended)
