use Rattle.std.proofs.Common.{◌≡◌, ◌∙◌, ◌+◌, ◌++◌, length, ap, subst, arith, vec_len}
use Rattle.std.specs.Prelude.{option_to_list}
use Rattle.std.specs.Option.{MatchOption}
use Rattle.brs_machine.proofs.Homes.{released_none, released_more, released_all, empty_list}
use Rattle.brs_machine.proofs.home.release_homes.Goals as goal

pub loop-home-init : goal.loop-home-init
loop-home-init c = released_none c.args.heap.now c.args.homes.now.items

pub loop-home-preserved : goal.loop-home-preserved
loop-home-preserved c =
    let left = c.pop.new.self.items in
    released_more c.args.heap.now c.loop-home.heap c.release_home.new.heap c.args.homes.now.items c.loop-home.homes.items left c.in-Some.home c.loop-home.invariant (c.pop.ensures.items ∙ ap (λ o. left ++ option_to_list o) c.in-Some.is)
    c.release_home.ensures.moves c.release_home.ensures.shares

pub returns-clause-moves : goal.returns-clause-moves
returns-clause-moves c =
    let cases = subst (λ o. MatchOption o ((vec_len c.loop-home.homes ≡ 0) × (vec_len c.pop.new.self ≡ 0)) (λ x. vec_len c.pop.new.self + 1 ≡ vec_len c.loop-home.homes)) c.in_default.is c.pop.ensures.cases in
    let count : vec_len c.loop-home.homes ≡ 0 = cases.0 in
    let none : length c.loop-home.homes.items ≡ 0 = omega (arith, c.loop-home.homes.ok.0) in
    released_all c.args.heap.now c.loop-home.heap c.args.homes.now.items c.loop-home.homes.items c.loop-home.invariant (empty_list c.loop-home.homes.items none)
