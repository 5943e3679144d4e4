-- Each wrong rule breaks its law.
use Rattle.std.proofs.Common.{◌≡◌, ◌⊎◌, inl, inr, ℕ, zero, suc, Bool, true, false, List, [], ◌∷◌, Option, Some, None, refl, sym, ap, subst, arith}
use Rattle.std.specs.Prelude.{◌==◌}
use Rattle.chan_values.specs.Tree.{Leaf, NodeNumber}
use Rattle.field_observers.specs.declared.target.Registration.{Registration}
use Rattle.trace_report.specs.declared.entry.EntryName.{EntryName}
use Rattle.node_tree.specs.declared.node.Node.{Node}
use Rattle.node_tree.specs.Owned.{IsNodeOwned, AreNodesOwned}
use Rattle.world_meaning.specs.Core.{number_of}
use Rattle.channel_laws.specs.Laws.{Phase}
use Rattle.wrong_rules.specs.Wrong.{node_with, two_of_a_task, NewestFirstBreaks, DoneAtPostBreaks, AccessStaysBreaks, TakenAtDeliveryBreaks, GoesOnAfterTrueBreaks, AlongChildrenBreaks, GivenBackBreaks}

no : false ≡ true → ⊥
no e = cc

-- ---- entries

first_number : List EntryName → ℕ
first_number [] = 0
first_number (n ∷ ns) = number_of n

one_is_two : ◌≡◌ {A = ℕ} 1 2 → ⊥
one_is_two e = omega (arith, e)

pub newest_breaks : NewestFirstBreaks
unfolding first_number
newest_breaks ch bound h = one_is_two (ap first_number h.1)

-- ---- posts

is_there : Option Phase → Bool
is_there None = false
is_there (Some p) = true

pub at_post_breaks : DoneAtPostBreaks
unfolding is_there
at_post_breaks ch h = no (ap is_there h.1)

pub after_stop_breaks : AccessStaysBreaks
unfolding is_there
after_stop_breaks ch h = no (ap is_there h.1)

-- ---- deliveries

is_empty : List Registration → Bool
is_empty [] = false
is_empty (r ∷ rs) = true

pub at_delivery_breaks : TakenAtDeliveryBreaks
unfolding is_empty
at_delivery_breaks n f v r h = no (ap is_empty (h.0.2 refl))

-- ---- walks

takes_it : Option Bool → Bool
takes_it None = false
takes_it (Some b) = b

pub after_true_breaks : GoesOnAfterTrueBreaks
unfolding takes_it
after_true_breaks ch one other open_entry h =
    let w = h.0.0 in
    no (sym (ap takes_it (w.before_last (record { node = one; taken = Some true } ∷ []) (record { node = other; taken = None }) refl).0))

-- ---- gifts

is_zero : Option ℕ → Bool
is_zero None = false
is_zero (Some n) = n == 0

two_is_zero : ◌≡◌ {A = Option ℕ} (Some 2) (Some 0) → ⊥
unfolding is_zero
two_is_zero e = no (ap is_zero e)

either : (◌≡◌ {A = Option ℕ} (Some 2) (Some 0)) ⊎ (◌≡◌ {A = Option ℕ} (Some 2) (Some 0)) → ⊥
either (inl e) = two_is_zero e
either (inr e) = two_is_zero e

some_same : {x y : Node} → Some x ≡ Some y → x ≡ y
some_same e = cc

owned_before : AreNodesOwned two_of_a_task
owned_before zero x e = absurd cc
owned_before (suc zero) x e = subst (IsNodeOwned two_of_a_task) (some_same e) (record { kin_of_one = tt; fields = tt })
owned_before (suc (suc zero)) x e = subst (IsNodeOwned two_of_a_task) (some_same e) (record { kin_of_one = tt; fields = (inr refl, tt) })
owned_before (suc (suc (suc zero))) x e = subst (IsNodeOwned two_of_a_task) (some_same e) (record { kin_of_one = tt; fields = tt })
owned_before (suc (suc (suc (suc n)))) x e = absurd cc

pub along_children_breaks : AlongChildrenBreaks
along_children_breaks = (owned_before, λ h. either (h 2 (node_with 0 (Leaf (NodeNumber 3))) refl).fields.0)

pub back_breaks : GivenBackBreaks
back_breaks h = either (h 1 0 refl)
