use Rattle.std.proofs.Common.{◌≡◌, ◌+◌, ◌-◌, w64, length, take, sym, ap, ◌∙◌, arith}
use Rattle.std.proofs.lemmas.Int.{to_z-of_z}
use Rattle.std.specs.Str.{chars}
use Rattle.plain_operations.specs.Texts.{least_place, before_place}
use Rattle.plain_operations.proofs.Characters.{chars_of_rest, length_chars}
use Rattle.plain_operations.proofs.Finding.{finds_none, finds_some, place_is}
use Rattle.plain_operations.proofs.places.place_in.Goals as goal

pub returns-in-None : goal.returns-in-None
returns-in-None c =
    let b = c.before_place-before.result in
    let rest = c.rest_after-rest.result.now in
    let e = chars_of_rest c.args.s.now rest b c.rest_after-rest.utf8 c.rest_after-rest.ensures in
    let n = finds_none (b + 1) rest c.args.t.now c.rest_after-rest.utf8 c.utf8.t c.in-None.ensures.cases in
    let f = c.before_place-before.ensures ∙ ap before_place (to_z-of_z w64 c.args.p c.ranges.p) in
    place_is c.args.p c.args.s.now c.args.t.now b 0 f (omega (arith, c.if-before-count_characters.false, c.count_characters.ensures)) (ap (λ x. least_place (b + 1) x (chars c.args.t.now)) (sym e) ∙ n)

pub overflow_add-result-in-Some : goal.overflow_add-result-in-Some
overflow_add-result-in-Some c =
    let l = c.range.ensures.len in
    let a = length_chars c.args.s.now c.utf8.s in
    let b = length_chars c.range.result.now c.range.utf8 in
    let d = ap length c.rest_after-rest.ensures in
    omega (arith, c.if-before-count_characters.false, c.count_characters.ensures, c.count_characters-in-Some.ensures)

pub returns-in-Some : goal.returns-in-Some
returns-in-Some c =
    let b = c.before_place-before.result in
    let rest = c.rest_after-rest.result.now in
    let i = c.in-Some.at in
    let e = chars_of_rest c.args.s.now rest b c.rest_after-rest.utf8 c.rest_after-rest.ensures in
    let g = c.in-Some.ensures.cases in
    let n = finds_some (b + 1) rest c.args.t.now i g.0 c.rest_after-rest.utf8 c.utf8.t g.3 g.1.0 g.1.1.split in
    let f = c.before_place-before.ensures ∙ ap before_place (to_z-of_z w64 c.args.p c.ranges.p) in
    let z : i - 0 ≡ i = omega arith in
    let v = c.count_characters-in-Some.ensures ∙ ap (λ x. length (chars x)) (c.range.ensures.value ∙ ap (λ k. take k rest) z) in
    place_is c.args.p c.args.s.now c.args.t.now b (b + 1 + c.count_characters-in-Some.result) f (omega (arith, c.if-before-count_characters.false, c.count_characters.ensures))
    (ap (λ x. least_place (b + 1) x (chars c.args.t.now)) (sym e) ∙ n ∙ ap (λ x. b + 1 + x) (sym v))
