use Rattle.std.proofs.Common.{◌≡◌, rules, true, false}
use Rattle.std.specs.Prelude.{codes}
use Rattle.std.specs.Str.{bytes_eq}
use Rattle.object_operations.proofs.Answering.{through}
use Rattle.object_makers.proofs.CreateLaws.{makes_array, makes_map, makes_invalid}
use Rattle.object_makers.proofs.create.make_object.Goals as goal

pub returns-then-eq-clause-answer : goal.returns-then-eq-clause-answer
returns-then-eq-clause-answer c =
    let e : bytes_eq c.args.name.now (codes "roarray") ≡ true = search rules in
    makes_array c.args.heap.now c.make_array.new.self c.args.name.now c.args.arguments.now c.in_ok-make_array.field-0 e c.in_ok-make_array.ensures.made

pub returns-then-ne-clause-answer : goal.returns-then-ne-clause-answer
returns-then-ne-clause-answer c =
    let e : bytes_eq c.args.name.now (codes "roarray") ≡ false = search rules in
    let f : bytes_eq c.args.name.now (codes "roassociativearray") ≡ false = search rules in
    makes_invalid c.args.heap.now c.args.name.now c.args.arguments.now c.plain.result c.plain.ensures e f

pub returns-clause-answer : goal.returns-clause-answer
returns-clause-answer c =
    let e : bytes_eq c.args.name.now (codes "roarray") ≡ false = search rules in
    let f : bytes_eq c.args.name.now (codes "roassociativearray") ≡ true = search rules in
    through c.make_map.result (λ r x. makes_map c.args.heap.now c.make_map.new.heap c.args.name.now c.args.arguments.now r e f x) c.make_map.ensures.answer
