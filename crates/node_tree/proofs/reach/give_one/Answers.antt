use Rattle.std.proofs.Common.{◌≡◌, ◌<◌, ◌≤◌, suc, length, arith}
use Rattle.node_tree.proofs.Searches.{give_written, give_past}
use Rattle.node_tree.proofs.reach.give_one.Goals as goal

pub returns-then-place-len : goal.returns-then-place-len
returns-then-place-len c =
    let within : c.in-Some.place < length c.args.nodes.now.items = omega arith in
    let is : c.args.node ≡ suc c.in-Some.place = omega (arith, c.in-Some.ensures) in
    give_written c.args.nodes.now.items c.args.node c.in-Some.place c.index_mut.result.now is within c.index_mut.ensures.value

pub returns-else-place-len : goal.returns-else-place-len
returns-else-place-len c =
    let past : length c.args.nodes.now.items ≤ c.in-Some.place = omega arith in
    let is : c.args.node ≡ suc c.in-Some.place = omega (arith, c.in-Some.ensures) in
    give_past c.args.nodes.now.items c.args.node c.in-Some.place is past
