use Rattle.std.proofs.Common.{◌≡◌, ◌∙◌, sym, ap, ◌++◌, ◌∷◌, [], List, ℕ, if◌then◌else◌}
use Rattle.std.specs.Option.{option_copied_mut}
use Rattle.std.specs.Str.{bytes_eq}
use Rattle.field_observers.specs.declared.target.Registration.{Registration}
use Rattle.field_observers.specs.Registered.{of_field}
use Rattle.field_observers.proofs.Maps.{absent_at, found_at, seen, at_name, fields_changed_seen, fields_same, is_some_at, Fields}
use Rattle.std.proofs.lemmas.Result.{on_ok_weaker as on_ok, on_err_weaker as on_err}
use Rattle.field_observers.proofs.fields.NodeFields.add.Goals as goal
use Rattle.field_observers.proofs.fields.NodeFields.add.Goals.{In-Some}

-- what the list had
was : (c : In-Some) → c.in-Some.list.now.items ≡ of_field c.args.self.now c.as_slice.result.now
was c =
    sym (found_at c.self.inside.fields c.as_slice.result.now c.in-Some.list.now (sym c.in-Some.ensures.value))
    ∙ ap (λ s. of_field s c.as_slice.result.now) c.self.view_is

pub start-requires : goal.start-requires
start-requires c =
    ap (λ m. of_field (seen m) c.args.name.items) c.get_mut.follows.holds-at-none
    ∙ absent_at c.self.inside.fields c.args.name.items
    (ap (λ q. at_name q c.self.inside.fields) (sym c.as_slice.ensures.value) ∙ sym c.get_mut.ensures.value ∙ ap option_copied_mut c.in-None.is)

pub returns-in-Some-clause-ok : goal.returns-in-Some-clause-ok
returns-in-Some-clause-ok c =
    let updates = (c.get_mut.follows.holds c.put.new.list).3 (is_some_at c.self.inside.fields c.as_slice.result.now c.in-Some.list.now (sym c.in-Some.ensures.value)) in
    on_ok c.put.result
    (λ p. λ f.
    fields_changed_seen (λ rs. rs ++ c.args.registration ∷ []) c.args.self.now c.self.inside.fields (c.get_mut.follows.lender c.put.new.list)
    c.as_slice.result.now c.put.new.list c.self.view_is (p ∙ ap (λ rs. rs ++ c.args.registration ∷ []) (was ((goal.at.returns-in-Some-clause-ok c).In-Some))) updates f
    ∙ ap (λ q. if bytes_eq q f then of_field c.args.self.now f ++ c.args.registration ∷ [] else of_field c.args.self.now f) c.as_slice.ensures.value)
    c.put.ensures.ok

pub returns-in-Some-clause-err : goal.returns-in-Some-clause-err
returns-in-Some-clause-err c =
    let updates = (c.get_mut.follows.holds c.put.new.list).3 (is_some_at c.self.inside.fields c.as_slice.result.now c.in-Some.list.now (sym c.in-Some.ensures.value)) in
    on_err c.put.result
    (λ p. fields_same c.args.self.now c.self.inside.fields (c.get_mut.follows.lender c.put.new.list) c.as_slice.result.now c.put.new.list c.self.view_is
    (p ∙ was ((goal.at.returns-in-Some-clause-err c).In-Some)) updates)
    c.put.ensures.err

-- the list of fields is as it was where none was found
none : (m n : Fields) → m ≡ n → (name : List ℕ) (r : Registration) (f : List ℕ)
    → (if bytes_eq name f then of_field m f ++ r ∷ [] else of_field m f) ≡ (if bytes_eq name f then of_field n f ++ r ∷ [] else of_field n f)
none m n e name r f = ap (λ s. if bytes_eq name f then of_field s f ++ r ∷ [] else of_field s f) e

pub returns-in-None-clause-ok : goal.returns-in-None-clause-ok
returns-in-None-clause-ok c =
    on_ok c.start.result
    (λ p. λ f. p f ∙ none _ _ (ap seen c.get_mut.follows.holds-at-none ∙ c.self.view_is) c.args.name.items c.args.registration f)
    c.start.ensures.ok

pub returns-in-None-clause-err : goal.returns-in-None-clause-err
returns-in-None-clause-err c =
    on_err c.start.result
    (λ p. λ f. p f ∙ ap (λ s. of_field s f) (ap seen c.get_mut.follows.holds-at-none ∙ c.self.view_is))
    c.start.ensures.err
