use Rattle.std.proofs.Common.{◌≡◌, ◌∙◌, ◌++◌, ap, sym, subst, map}
use Rattle.std.proofs.lemmas.List.{append-nil}
use Rattle.std.proofs.lemmas.Map.Iter.{rest_all}
use Rattle.ordered_names.specs.Values.{value_of, IsAscending}
use Rattle.ordered_names.proofs.Drafts.{ascending_from, entry_of, same_values}
use Rattle.ordered_names.proofs.draft.NameDraft.into_ordered.Goals as goal

pub new-requires : goal.new-requires
new-requires g c =
    let none = rest_all (λ x. x) _ _ _ c.in-None.is c.next.ensures.steps in
    let all : c.loop-name.entries.items ≡ map entry_of c.args.self.values.entries = sym (append-nil c.loop-name.entries.items) ∙ ap (λ l. c.loop-name.entries.items ++ map entry_of l) (sym none) ∙ c.loop-name.invariant in
    subst IsAscending (sym all) (ascending_from c.args.self.values.entries c.into_iter-name-iterator.ensures.into_iter_gives.5)

pub returns : goal.returns
returns g c = λ name.
    let none = rest_all (λ x. x) _ _ _ c.in-None.is c.next.ensures.steps in
    let all : c.loop-name.entries.items ≡ map entry_of c.args.self.values.entries = sym (append-nil c.loop-name.entries.items) ∙ ap (λ l. c.loop-name.entries.items ++ map entry_of l) (sym none) ∙ c.loop-name.invariant in
    ap (λ l. value_of l name) (c.new.ensures ∙ all) ∙ same_values c.args.self.values.entries name
