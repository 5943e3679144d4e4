use Rattle.std.proofs.Common.{◌∙◌, sym, ap, refl}
use Rattle.std.specs.Prelude.{filter}
use Rattle.std.specs.Option.{option_copied_mut}
use Rattle.field_observers.specs.Registered.{of_field}
use Rattle.field_observers.proofs.Maps.{found_at, seen, fields_changed_seen, is_some_at, none_to_drop}
use Rattle.field_observers.proofs.fields.NodeFields.remove.Goals as goal
use Rattle.field_observers.proofs.fields.NodeFields.remove.Goals.{in-Some, in_default}

pub returns : goal.returns
returns c =
    elim c.match-get_mut.branch [
      | in-Some w ↦ rw w.self-inside-is
          (let found = sym w.in-Some.ensures.value in
          fields_changed_seen (filter (λ r. r.fixed)) c.args.self.now c.self.inside.fields (c.get_mut.follows.lender w.keep_fixed.new.list)
          c.args.name.now w.keep_fixed.new.list c.self.view_is
          (w.keep_fixed.ensures ∙ ap (filter (λ r. r.fixed)) (sym (found_at c.self.inside.fields c.args.name.now w.in-Some.list.now found) ∙ ap (λ s. of_field s c.args.name.now) c.self.view_is))
          ((c.get_mut.follows.holds w.keep_fixed.new.list).3 (is_some_at c.self.inside.fields c.args.name.now w.in-Some.list.now found)))
      | in_default w ↦ rw w.self-inside-is
          (none_to_drop (filter (λ r. r.fixed)) refl c.args.self.now c.self.inside.fields c.get_mut.follows.lender-at-none c.args.name.now c.self.view_is
          (ap seen c.get_mut.follows.holds-at-none ∙ c.self.view_is) (sym c.get_mut.ensures.value ∙ ap option_copied_mut w.in_default.is))
    ]
