use Rattle.std.proofs.Common.{◌≡◌, ◌∙◌, ◌<◌, ◌-◌, ap, sym, arith}
use Rattle.std.specs.Prelude.{filter}
use Rattle.std.specs.Option.{option_copied}
use Rattle.chan_values.specs.Folded.{folded}
use Rattle.ordered_names.specs.Values.{is_before}
use Rattle.kind_tables.specs.Ascending.{least}
use Rattle.kind_tables.specs.Rows.{names_along}
use Rattle.kind_tables.specs.Tables.{rows_of}
use Rattle.kind_tables.proofs.Ascending.{later, later_none, later_step, name_at_is}
use Rattle.kind_tables.proofs.tables.Tables.name_along.Goals as goal

pub returns-in_default : goal.returns-in_default
returns-in_default c =
    let names = names_along (rows_of c.args.self.now (folded c.args.kind.now)) in
    sym (name_at_is c.args.at names ∙ c.loop-left.invariant ∙ ap (λ o. later c.loop-left.left (option_copied o) names) c.in_default.is ∙ later_none c.loop-left.left names)

pub loop-left-preserved : goal.loop-left-preserved
loop-left-preserved c =
    let names = names_along (rows_of c.args.self.now (folded c.args.kind.now)) in
    let left = c.loop-left.left in
    let some : 0 < left = omega arith in
    c.loop-left.invariant
    ∙ ap (λ o. later left (option_copied o) names) c.in-Some.is
    ∙ later_step left c.in-Some.last.now names some
    ∙ ap (λ o. later (left - 1) o names)
    (sym (c.first_along-name-in-loop-left.ensures
    ∙ ap (λ rows. least (filter (is_before c.as_str.result.now) (names_along rows))) c.ancestry-in-loop-left.ensures
    ∙ ap (λ x. least (filter (is_before x) names)) c.as_str.ensures.bytes))

pub returns : goal.returns
returns c =
    let names = names_along (rows_of c.args.self.now (folded c.args.kind.now)) in
    let done : c.loop-left.left ≡ 0 = omega arith in
    sym (name_at_is c.args.at names ∙ c.loop-left.invariant ∙ ap (λ n. later n (option_copied c.loop-left.name) names) done)
