use Rattle.std.proofs.Common.{[], subst, arith}
use Rattle.std.proofs.lemmas.List.{take_all}
use Rattle.object_makers.proofs.KeyListLaws.{fresh_array}
use Rattle.literal_instructions.specs.Literals.{Extends}
use Rattle.literal_instructions.proofs.Building.{extends_none, extends_next, array_made}
use Rattle.literal_instructions.proofs.arrays.array_of.Goals as goal

pub loop-item-init : goal.loop-item-init
loop-item-init c = record {
  extends = extends_none c.make_array.new.self c.in_ok-array.array;
  array = fresh_array c.args.heap.now c.make_array.new.self c.in_ok-array.array [] c.in_ok-array.ensures.fresh;
  shares = omega (arith, c.make_array.ensures.shares);
}

pub loop-item-preserved : goal.loop-item-preserved
loop-item-preserved c = record {
  extends = extends_next c.make_array.new.self c.loop-item.heap c.push_item.new.heap c.in_ok-array.array c.args.items.now c.loop-item.item-index c.item-item.result c.loop-item-test.true c.item-item.is c.loop-item.invariant.extends c.in_ok-push_item.ensures.pushed;
  array = c.in_ok-push_item.ensures.array;
  shares = omega (arith, c.push_item.ensures.shares);
}

pub returns-clause-made : goal.returns-clause-made
returns-clause-made c =
    array_made c.args.heap.now c.make_array.new.self c.loop-item.heap c.in_ok-array.array c.args.items.now c.in_ok-array.ensures.made
    (subst (λ l. Extends c.make_array.new.self c.loop-item.heap c.in_ok-array.array l) (take_all c.loop-item.item-index c.args.items.now (omega (arith, c.loop-item-test.false))) c.loop-item.invariant.extends)
