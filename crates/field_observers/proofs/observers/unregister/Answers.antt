use Rattle.std.proofs.Common.{◌∙◌, sym, ap, if◌then◌else◌}
use Rattle.std.specs.Prelude.{filter}
use Rattle.std.specs.Str.{bytes_eq}
use Rattle.field_observers.proofs.Maps.{nodes_changed, node_is_there, node_had}
use Rattle.field_observers.proofs.observers.unregister.Goals as goal

pub returns-in-Some : goal.returns-in-Some
returns-in-Some c =
    let found = sym c.in-Some.ensures.value in
    nodes_changed (filter (λ r. r.fixed)) c.args.nodes.now (c.get_mut.follows.lender c.remove.new.self) c.args.node c.args.name.now c.remove.new.self
    (λ f. c.remove.ensures f
    ∙ ap (λ rs. if bytes_eq c.args.name.now f then filter (λ r. r.fixed) rs else rs) (sym (node_had c.args.nodes.now c.args.node c.in-Some.fields.now found f)))
    ((c.get_mut.follows.holds c.remove.new.self).3 (node_is_there c.args.nodes.now c.args.node c.in-Some.fields.now found))
