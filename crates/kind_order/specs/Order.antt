-- The order of a channel's components, in which each stands behind those that it names.
use Rattle.std.specs.Prelude.{ℕ, zero, suc, Bool, ◌==◌, if◌then◌else◌, List, [], ◌∷◌, ◌++◌, length, fold}
use Rattle.std.specs.List.{list_any}
use Rattle.folder_rules.specs.declared.component.PathedComponent.{PathedComponent}
use Rattle.kind_order.specs.Named.{named_at}

abbrev pub is_listed : List ℕ → ℕ → Bool
is_listed order place = list_any (λ other. other == place) order

-- An order with a component behind it, where it isn't there yet; those that it names come first, one after another in the same way. So deep at most.
abbrev pub put : ℕ → (ℕ → List ℕ) → List ℕ → ℕ → List ℕ
put zero named order place = order
put (suc depth) named order place = if is_listed order place then order else fold (put depth named) order (named place) ++ place ∷ []

-- the order of so many components, with all that they name
abbrev pub order_of_first : ℕ → (ℕ → List ℕ) → ℕ → List ℕ
order_of_first depth named zero = []
order_of_first depth named (suc n) = put depth named (order_of_first depth named n) n

-- The order of the components: one after another, each behind those that it names. Where no component is reached from itself, no chain of names is
-- longer than there are components.
unfoldable pub kind_order : List PathedComponent → List ℕ
kind_order components = order_of_first (length components) (named_at components) (length components)
