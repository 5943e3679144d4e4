use Rattle.std.proofs.Common.{◌∙◌, sym, ap, ◌++◌, ◌∷◌, [], if◌then◌else◌}
use Rattle.std.specs.Str.{bytes_eq}
use Rattle.std.proofs.lemmas.Result.{on_ok_weaker, on_err_weaker}
use Rattle.field_observers.proofs.Maps.{nodes_changed, nodes_same, node_is_there, node_had}
use Rattle.field_observers.proofs.observers.register.Goals as goal

pub returns-in-Some-clause-ok : goal.returns-in-Some-clause-ok
returns-in-Some-clause-ok c =
    let found = sym c.in-Some.ensures.value in
    on_ok_weaker c.add.result
    (λ p.
    nodes_changed (λ rs. rs ++ c.args.registration ∷ []) c.args.nodes.now (c.get_mut.follows.lender c.add.new.self) c.args.node c.args.name.items c.add.new.self
    (λ f. p f
    ∙ ap (λ rs. if bytes_eq c.args.name.items f then rs ++ c.args.registration ∷ [] else rs) (sym (node_had c.args.nodes.now c.args.node c.in-Some.fields.now found f)))
    ((c.get_mut.follows.holds c.add.new.self).3 (node_is_there c.args.nodes.now c.args.node c.in-Some.fields.now found)))
    c.add.ensures.ok

pub returns-in-Some-clause-err : goal.returns-in-Some-clause-err
returns-in-Some-clause-err c =
    let found = sym c.in-Some.ensures.value in
    on_err_weaker c.add.result
    (λ p.
    nodes_same c.args.nodes.now (c.get_mut.follows.lender c.add.new.self) c.args.node c.add.new.self
    (λ f. p f ∙ sym (node_had c.args.nodes.now c.args.node c.in-Some.fields.now found f))
    ((c.get_mut.follows.holds c.add.new.self).3 (node_is_there c.args.nodes.now c.args.node c.in-Some.fields.now found)))
    c.add.ensures.err
