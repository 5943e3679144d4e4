use Rattle.std.proofs.Common.{◌∙◌, ◌<◌, ◌+◌, ◌++◌, ap, sym, length, map, take, arith}
use Rattle.std.proofs.lemmas.List.{append-nil}
use Rattle.folder_rules.specs.Kinds.{built_in_names, component_name}
use Rattle.folder_rules.specs.Names.{place_of}
use Rattle.folder_rules.proofs.Tables.{kinds_before, kinds_more}
use Rattle.kind_tables.proofs.Named.{place_added}
use Rattle.kind_tables.proofs.kinds.kind_places.Goals as goal

pub loop-i-preserved : goal.loop-i-preserved
loop-i-preserved c = λ name.
    let all = c.args.components.now in
    let here : c.loop-i.i < length all = omega arith in
    let before = built_in_names ++ map component_name (take c.loop-i.i all) in
    let item = c.index-components-i.result in
    place_added c.loop-i.names c.add_folded.new.self before (component_name item) (9 + c.loop-i.i) (kinds_before all c.loop-i.i here) c.loop-i.invariant c.in_ok-add_folded.ensures.ok name
    ∙ ap (λ l. place_of l name) (kinds_more all c.loop-i.i item here c.index-components-i.is)

pub loop-i-init : goal.loop-i-init
loop-i-init c = λ name. c.in_ok-names.ensures name ∙ ap (λ l. place_of l name) (sym (append-nil built_in_names))
