use Rattle.std.proofs.Common.{◌∙◌, ap, sym}
use Rattle.std.specs.Map.{keys_of}
use Rattle.std.specs.Option.{option_copied}
use Rattle.ordered_names.specs.Values.{behind}
use Rattle.kind_tables.specs.Ascending.{earlier, least}
use Rattle.kind_tables.specs.Rows.{names_along}
use Rattle.kind_tables.proofs.Ascending.{earliest_of_both}
use Rattle.kind_tables.proofs.scopes.first_along.Goals as goal

pub loop-kind-preserved : goal.loop-kind-preserved
loop-kind-preserved c =
    let name = option_copied c.args.name in
    let first = option_copied c.loop-kind.first in
    let rest = names_along c.next.new.self in
    c.loop-kind.invariant
    ∙ ap (λ rows. earlier first (least (behind name (names_along rows)))) c.in-Some.ensures
    ∙ earliest_of_both name first (keys_of c.in-Some.kind.now.functions) rest c.first_behind.ensures.ascending
    ∙ ap (λ found. earlier (earlier first found) (least (behind name rest))) (sym c.first_behind.ensures.name)
    ∙ ap (λ so_far. earlier so_far (least (behind name rest))) (sym c.earlier-first.ensures)
