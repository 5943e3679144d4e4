use Rattle.std.proofs.Common.{◌+◌, ◌^◌, ◌<◌, rules, arith, ◌⊎◌, inl, inr}
use Rattle.heap_meaning.specs.Heap.{content_at}
use Rattle.heap_meaning.specs.Reading.{length_in}
use Rattle.object_operations.proofs.MapLaws.{map_handed}
use Rattle.object_makers.proofs.JoinLaws.{joins_first, joins_next, appends_too_many, appends_map}
use Rattle.object_makers.proofs.append.append_entries.Goals.{then-more-gt-MAX_KEYS-via-then-more-gt-MAX_KEYS, then-more-gt-MAX_KEYS-via-else-more-gt-MAX_KEYS+then-old-gt-MAX_KEYS, then-more-gt-MAX_KEYS-via-else-more-gt-MAX_KEYS+else-old-gt-MAX_KEYS+then-new-old}
use Rattle.object_makers.proofs.append.append_entries.Goals as goal

pub returns-then-more-gt-MAX_KEYS-clause-answer : goal.returns-then-more-gt-MAX_KEYS-clause-answer
returns-then-more-gt-MAX_KEYS-clause-answer c =
    let long : (2 ^ 20 < length_in (content_at c.args.heap.now c.args.from.now)) ⊎ (2 ^ 20 < length_in (content_at c.args.heap.now c.args.pairs.now) + c.new_key_count-new.result) = elim c.then-more-gt-MAX_KEYS.branch [
      | then-more-gt-MAX_KEYS-via-then-more-gt-MAX_KEYS w ↦ inl (let l = w.if-more-gt-MAX_KEYS.true in omega arith)
      | then-more-gt-MAX_KEYS-via-else-more-gt-MAX_KEYS+then-old-gt-MAX_KEYS w ↦ inr (let l = w.if-old-gt-MAX_KEYS.true in omega arith)
      | then-more-gt-MAX_KEYS-via-else-more-gt-MAX_KEYS+else-old-gt-MAX_KEYS+then-new-old w ↦ inr (let l = w.if-old-gt-MAX_KEYS.false in let m = w.if-new-old.true in omega arith)
    ] in
    appends_too_many c.args.heap.now c.args.pairs.now c.args.from.now c.new_key_count-new.result (search rules) c.new_key_count-new.ensures.ordered c.new_key_count-new.ensures.count long

pub loop-at-init : goal.loop-at-init
loop-at-init c = record { joins = joins_first c.args.heap.now c.args.pairs.now c.args.from.now; shares = omega arith }

pub loop-at-preserved : goal.loop-at-preserved
loop-at-preserved c = record {
  joins = joins_next c.args.heap.now c.loop-at.heap c.put_entry.new.heap c.args.pairs.now c.args.from.now c.loop-at.at c.loop-at.invariant.joins c.in_ok-put_entry.ensures.joins;
  shares = omega (arith, c.put_entry.ensures.shares);
}

pub returns-clause-answer : goal.returns-clause-answer
returns-clause-answer c = map_handed c.plain.ensures (appends_map c.args.heap.now c.loop-at.heap c.args.pairs.now c.args.from.now c.new_key_count-new.result c.loop-at.at (search rules) c.new_key_count-new.ensures.count (omega arith) (omega arith) c.loop-at.invariant.joins)
