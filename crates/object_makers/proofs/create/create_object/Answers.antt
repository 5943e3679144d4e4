use Rattle.std.proofs.Common.{rules, ◌∷◌, ◌-◌, length, take, drop}
use Rattle.std.specs.Prelude.{option_map}
use Rattle.chan_values.specs.Folded.{folded}
use Rattle.heap_meaning.specs.Heap.{content_at}
use Rattle.heap_meaning.specs.Reading.{text_in}
use Rattle.object_operations.proofs.Answering.{through}
use Rattle.object_operations.proofs.Listing.{first}
use Rattle.object_operations.proofs.Told.{with_arguments}
use Rattle.object_makers.proofs.CreateLaws.{named_bytes, creates}
use Rattle.object_makers.proofs.create.create_object.Goals as goal

pub returns-clause-answer : goal.returns-clause-answer
returns-clause-answer c =
    let list = first c.args.arguments.now c.name-item.result c.in-len1-up.len_at_least c.name-item.is in
    let name = named_bytes c.in_ok-name.field-0 (option_map folded (text_in (content_at c.args.heap.now c.name-item.result))) c.in-Some.name c.as_bytes.result.now (search rules) c.in-Some.is c.in_ok-name.ensures in
    through c.make_object.result (λ r x. with_arguments (c.name-item.result ∷ take (length c.args.arguments.now - 1) (drop 1 c.args.arguments.now)) list (creates c.args.heap.now c.make_object.new.heap c.name-item.result (take (length c.args.arguments.now - 1) (drop 1 c.args.arguments.now)) c.as_bytes.result.now r name x)) c.make_object.ensures.answer
