use Rattle.std.proofs.Common.{rules}
use Rattle.heap_meaning.specs.declared.plain.Plain.TheVariants.{Node}
use Rattle.heap_meaning.specs.Heap.{content_at}
use Rattle.heap_meaning.specs.Reading.{message_in}
use Rattle.std.specs.Prelude.{option_map}
use Rattle.object_operations.specs.Messages.{told}
use Rattle.object_makers.proofs.MessageLaws.{told_words, told_node, tells_text, tells_plain}
use Rattle.object_makers.proofs.messages.bare_message_method.Goals as goal

pub returns-in_ok-make_text-in-Some-Words-clause-answer : goal.returns-in_ok-make_text-in-Some-Words-clause-answer
returns-in_ok-make_text-in-Some-Words-clause-answer c =
    tells_text c.args.heap.now c.make_text.new.self c.args.message.now c.in_ok-make_text-in-Some-Words.field-0 c.args.method c.in-Some-Words.text
    (told_words c.in_ok-tell_at.field-0 c.in-Some-Words.text (option_map (told c.args.method) (message_in (content_at c.args.heap.now c.args.message.now))) (search rules) c.in_ok-tell_at.ensures) c.in_ok-make_text-in-Some-Words.ensures.made

pub returns-in-Some-Node-clause-answer : goal.returns-in-Some-Node-clause-answer
returns-in-Some-Node-clause-answer c =
    tells_plain c.args.heap.now c.args.message.now c.plain.result c.args.method (Node c.in-Some-Node.n) (search rules)
    (told_node c.in_ok-tell_at.field-0 c.in-Some-Node.n (option_map (told c.args.method) (message_in (content_at c.args.heap.now c.args.message.now))) (search rules) c.in_ok-tell_at.ensures)
