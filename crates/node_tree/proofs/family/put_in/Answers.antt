use Rattle.std.specs.Prelude.{Result, Ok, Err, OnOk}
use Rattle.node_tree.specs.Family.{with_child}
use Rattle.node_tree.proofs.Places.{children_written}
use Rattle.node_tree.proofs.family.put_in.Goals as goal

on_ok : {A E : Type 0} (r : Result A E) {P Q : Type 0} → OnOk r P → (P → Q) → OnOk r Q
on_ok (Ok x) p f = f p
on_ok (Err e) p f = p

pub returns-clause-ok : goal.returns-clause-ok
returns-clause-ok c = on_ok c.insert.result c.insert.ensures.ok (λ e. children_written (with_child c.args.place c.args.child) _ _ c.index_mut.result.now _ c.requires c.index_mut.ensures.value e)
