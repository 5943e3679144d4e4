use Rattle.std.proofs.Common.{◌<◌, ◌≤◌, length, ap, ◌∙◌, subst}
use Rattle.std.specs.Str.{chars}
use Rattle.plain_operations.specs.Limits.{longest_text}
use Rattle.printed_text.proofs.Seen.{unprinted, too_long, is_printed}
use Rattle.printed_text.proofs.marks.printed_text.Goals as goal

pub returns-then-not-branch : goal.returns-then-not-branch
returns-then-not-branch c = unprinted c.args.heap.now c.args.marks.now c.args.values.now c.new-text.result c.write_marks.new.out c.in_ok-write_marks.field-0 c.new-text.ensures c.in_ok-write_marks.ensures c.if-not-branch.true

pub returns-then-count_characters-gt-LONGEST_TEXT : goal.returns-then-count_characters-gt-LONGEST_TEXT
returns-then-count_characters-gt-LONGEST_TEXT c =
    too_long c.args.heap.now c.args.marks.now c.args.values.now c.new-text.result c.write_marks.new.out c.in_ok-write_marks.field-0 c.new-text.ensures c.in_ok-write_marks.ensures c.if-not-branch.false
    (subst (λ n. longest_text < n) (c.count_characters.ensures ∙ ap (λ t. length (chars t)) c.as_str.ensures.bytes) c.if-count_characters-gt-LONGEST_TEXT.true)

pub returns : goal.returns
returns c =
    is_printed c.args.heap.now c.args.marks.now c.args.values.now c.new-text.result c.write_marks.new.out c.in_ok-write_marks.field-0 c.new-text.ensures c.in_ok-write_marks.ensures c.if-not-branch.false
    (subst (λ n. n ≤ longest_text) (c.count_characters.ensures ∙ ap (λ t. length (chars t)) c.as_str.ensures.bytes) c.if-count_characters-gt-LONGEST_TEXT.false)
