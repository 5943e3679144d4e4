use Rattle.std.proofs.Common.{arith}
use Rattle.plain_operations.proofs.Characters.{length_chars, count_pair}
use Rattle.plain_operations.proofs.arithmetic.fits.Goals as goal

pub returns-then-t : goal.returns-then-t
returns-then-t c =
    let a = length_chars c.args.s.now c.utf8.s in
    let b = length_chars c.args.t.now c.utf8.t in
    let e = count_pair c.args.s.now c.args.t.now c.utf8.s in
    grind arith

pub returns-then-count-le-LONGEST_TEXT : goal.returns-then-count-le-LONGEST_TEXT
returns-then-count-le-LONGEST_TEXT c =
    let e = count_pair c.args.s.now c.args.t.now c.utf8.s in
    let x = c.count_characters-count.ensures in
    let y = c.count_characters.ensures in
    grind arith

pub returns-else-count-le-LONGEST_TEXT : goal.returns-else-count-le-LONGEST_TEXT
returns-else-count-le-LONGEST_TEXT c =
    let e = count_pair c.args.s.now c.args.t.now c.utf8.s in
    let x = c.count_characters-count.ensures in
    grind arith
