use Rattle.std.proofs.Common.{Some, sym, ◌∙◌, ap}
use Rattle.render_inbox.specs.Inbox.{first_number, without_first}
use Rattle.render_inbox.proofs.First.{first_there, none_there}
use Rattle.render_inbox.proofs.inbox.Inbox.drop_of.Goals as goal

pub returns-in_err-at-clause-number : goal.returns-in_err-at-clause-number
returns-in_err-at-clause-number c =
    c.from_residual.ensures ∙ sym (none_there c.args.actor c.self.inside.entries.items (sym c.in_err-at.ensures)).1
    ∙ ap (λ inbox. first_number c.args.actor inbox.entries) c.self.view_is

pub returns-in_err-at-clause-entries : goal.returns-in_err-at-clause-entries
returns-in_err-at-clause-entries c =
    ap (λ inbox. inbox.entries) (sym c.self.view_is) ∙ sym (none_there c.args.actor c.self.inside.entries.items (sym c.in_err-at.ensures)).0
    ∙ ap (λ inbox. without_first c.args.actor inbox.entries) c.self.view_is

pub returns-clause-number : goal.returns-clause-number
returns-clause-number c =
    let there = first_there c.args.actor c.self.inside.entries.items c.in_ok-at.at c.in_ok-entry.entry (sym c.in_ok-at.ensures) c.in_ok-entry.ensures.value in
    ap (λ n. Some n) c.number-number.ensures ∙ sym there.1 ∙ ap (λ inbox. first_number c.args.actor inbox.entries) c.self.view_is

pub returns-clause-entries : goal.returns-clause-entries
returns-clause-entries c =
    let there = first_there c.args.actor c.self.inside.entries.items c.in_ok-at.at c.in_ok-entry.entry (sym c.in_ok-at.ensures) c.in_ok-entry.ensures.value in
    c.in_ok-entry.ensures.items ∙ sym there.0 ∙ ap (λ inbox. without_first c.args.actor inbox.entries) c.self.view_is
