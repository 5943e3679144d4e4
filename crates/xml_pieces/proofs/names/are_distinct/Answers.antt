use Rattle.std.proofs.Common.{◌≡◌, ◌∙◌, ◌<◌, ◌-◌, ◌∷◌, true, length, drop, ap, sym, arith}
use Rattle.xml_pieces.specs.Names.{is_in}
use Rattle.xml_pieces.specs.Written as spec
use Rattle.xml_pieces.proofs.Distinct.{last_behind, twice, was_there}
use Rattle.xml_pieces.proofs.names.are_distinct.Goals as goal

pub returns-then-not-branch : goal.returns-then-not-branch
returns-then-not-branch c =
    let all = c.args.attributes.now in
    let rest = c.loop-rest.rest.now in
    let last = c.last-item.result in
    let here : length rest - 1 < length all = omega (arith, c.loop-rest.invariant.fits, c.in-len1-up.len_at_least) in
    let at : drop (length rest - 1) all ≡ last ∷ drop (length rest) all = last_behind rest all last c.loop-rest.invariant.front here c.in-len1-up.len_at_least c.last-item.is in
    let has : spec.has_name (drop (length rest) all) last.name ≡ true = sym (c.loop-rest.invariant.known last.name) ∙ ap (is_in c.loop-rest.behind) (sym c.in_ok-name.ensures) ∙ was_there (is_in c.loop-rest.behind c.in_ok-name.name) c.in_ok-add.field-0 c.in_ok-add.ensures.answer c.if-not-branch.true in
    twice (length rest - 1) all (drop (length rest) all) last at has
