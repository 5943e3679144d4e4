use Rattle.std.proofs.Common.{rules, ◌≡◌, inl, inr}
use Rattle.chan_values.specs.Folded.{folded}
use Rattle.heap_meaning.specs.Heap.{content_at}
use Rattle.heap_meaning.specs.Reading.{IsFull}
use Rattle.object_operations.proofs.MapLaws.{puts, put_full, full_or, moves_back, map_handed}
use Rattle.object_operations.proofs.maps.put.Goals as goal

pub returns-in-Ok-clause-answer : goal.returns-in-Ok-clause-answer
returns-in-Ok-clause-answer c = map_handed c.plain.ensures (puts c.args.heap.now c.share-shared.new.self c.set_key.new.self c.args.pairs.now c.args.key.now c.args.item.now c.share-shared.result c.as_bytes.result.now (search rules) c.share-shared.ensures.same c.share-shared.ensures.moves c.share-shared.ensures.contents (λ f. let e = c.in-Ok.ensures.long f in absurd cc) c.in-Ok.ensures.set)

pub returns-clause-answer : goal.returns-clause-answer
returns-clause-answer c =
    let full : IsFull (content_at c.share-shared.new.self c.args.pairs.now) (folded c.as_bytes.result.now) =
    elim (full_or (content_at c.share-shared.new.self c.args.pairs.now) (folded c.as_bytes.result.now)) [ inl f ↦ f | inr n ↦ (let e = c.in-Err-TooLong.ensures.memory n in let g = c.in-Err-TooLong.field-0-is in absurd cc) ] in
    let back : c.in-Err-TooLong.item ≡ c.share-shared.result = let e = c.in-Err-TooLong.ensures.long full in let g = c.in-Err-TooLong.field-0-is in cc in
    put_full c.args.heap.now c.share-shared.new.self c.release.new.self c.args.pairs.now c.args.key.now c.args.item.now c.share-shared.result c.as_bytes.result.now (search rules) c.share-shared.ensures.moves c.share-shared.ensures.contents full
    (moves_back c.share-shared.new.self c.set_key.new.self c.release.new.self c.in-Err-TooLong.item c.share-shared.result c.in-Err-TooLong.ensures.unchanged back c.release.ensures.moves)
