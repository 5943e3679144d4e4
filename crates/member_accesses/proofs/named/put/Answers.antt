use Rattle.std.proofs.Common.{rules, ◌≡◌, [], ◌∷◌, subst, inl, inr}
use Rattle.chan_values.specs.Folded.{folded}
use Rattle.chan_values.specs.declared.error_code.ErrorCode.TheVariants.{E12}
use Rattle.heap_meaning.specs.declared.plain.Plain.TheVariants.{Invalid}
use Rattle.heap_meaning.specs.Values.{Direct}
use Rattle.heap_meaning.specs.Heap.{content_at}
use Rattle.heap_meaning.specs.Reading.{IsFull}
use Rattle.object_operations.specs.Applies.{AppliesToMap}
use Rattle.object_operations.specs.declared.applied.Applied.TheVariants as a
use Rattle.object_operations.proofs.MapLaws.{full_or, moves_back, map_handed}
use Rattle.member_accesses.specs.Named.{named_put}
use Rattle.member_accesses.proofs.NamedLaws.{puts, put_full}
use Rattle.member_accesses.proofs.named.put.Goals as goal

pub returns-in-Ok-clause-answer : goal.returns-in-Ok-clause-answer
returns-in-Ok-clause-answer c =
    let k : c.as_bytes.result.now ≡ c.args.name.now = search rules in
    map_handed c.plain.ensures
    (subst (λ b. AppliesToMap c.args.heap.now c.set_key.new.self c.args.pairs.now (c.args.item.now ∷ []) (a.Value (Direct Invalid)) (named_put b)) k
    (puts c.args.heap.now c.share-shared.new.self c.set_key.new.self c.args.pairs.now c.args.item.now c.share-shared.result c.as_bytes.result.now c.share-shared.ensures.same c.share-shared.ensures.moves c.share-shared.ensures.contents (λ f. let e = c.in-Ok.ensures.long f in absurd cc) c.in-Ok.ensures.set))

pub returns-in-Err-TooLong-clause-answer : goal.returns-in-Err-TooLong-clause-answer
returns-in-Err-TooLong-clause-answer c =
    let k : c.as_bytes.result.now ≡ c.args.name.now = search rules in
    let full : IsFull (content_at c.share-shared.new.self c.args.pairs.now) (folded c.as_bytes.result.now) =
    elim (full_or (content_at c.share-shared.new.self c.args.pairs.now) (folded c.as_bytes.result.now)) [ inl f ↦ f | inr n ↦ (let e = c.in-Err-TooLong.ensures.memory n in let g = c.in-Err-TooLong.field-0-is in absurd cc) ] in
    let back : c.in-Err-TooLong.item ≡ c.share-shared.result = let e = c.in-Err-TooLong.ensures.long full in let g = c.in-Err-TooLong.field-0-is in cc in
    subst (λ b. AppliesToMap c.args.heap.now c.release.new.self c.args.pairs.now (c.args.item.now ∷ []) (a.Raised E12) (named_put b)) k
    (put_full c.args.heap.now c.share-shared.new.self c.release.new.self c.args.pairs.now c.args.item.now c.share-shared.result c.as_bytes.result.now c.share-shared.ensures.moves c.share-shared.ensures.contents full
    (moves_back c.share-shared.new.self c.set_key.new.self c.release.new.self c.in-Err-TooLong.item c.share-shared.result c.in-Err-TooLong.ensures.unchanged back c.release.ensures.moves))
