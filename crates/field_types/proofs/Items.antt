-- Items that are converted one after another.
use Rattle.std.proofs.Common.{◌≡◌, ℕ, zero, suc, ◌+◌, ◌<◌, ◌≤◌, List, [], ◌∷◌, ◌++◌, take, Option, Some, None, refl, sym, ap, ◌∙◌, arith, subst}
use Rattle.std.specs.Prelude.{slice_get}
use Rattle.std.specs.Option.{option_map}
use Rattle.chan_values.specs.Tree.{Plain, Tree, Leaf, Branch, Trees, none, more, trees, depth, deepest, parts, all_parts, array_of}
use Rattle.chan_values.specs.Portable.{IsBounded}
use Rattle.chan_values.proofs.Walk.{deepest_front, parts_front}
use Rattle.field_types.specs.declared.types.FieldType.{FieldType}
use Rattle.field_types.specs.Conversion.{converted_plain, converted_item, both, all_converted}

leaf_is_flat : (o : Option Plain) (u : Tree) → option_map Leaf o ≡ Some u → (depth u ≡ 0) × (parts u ≡ 1)
leaf_is_flat None u e = absurd cc
leaf_is_flat (Some p) u e = let s : Leaf p ≡ u = cc in (sym (ap depth s), sym (ap parts s))

item_is_flat : (k : FieldType) (t u : Tree) → converted_item k t ≡ Some u → (depth u ≡ 0) × (parts u ≡ 1)
item_is_flat k (Leaf p) u e = leaf_is_flat (converted_plain k p) u e
item_is_flat k (Branch l ts) u e = absurd cc

has_parts : (t : Tree) → 1 ≤ parts t
has_parts (Leaf p) = omega arith
has_parts (Branch k ts) = omega arith

-- converted items are flat, and have no more parts than the items
abbrev pub AreFlat : Trees → Trees → Type 0
AreFlat ts us = (deepest us ≡ 0) × (all_parts us ≤ all_parts ts)

both_flat : (k : FieldType) (t : Tree) (ts : Trees) (o : Option Tree) (os : Option Trees) (us : Trees) → converted_item k t ≡ o → ((vs : Trees) → os ≡ Some vs → AreFlat ts vs) → both o os ≡ Some us → AreFlat (more t ts) us
both_flat k t ts None os us e h f = absurd cc
both_flat k t ts (Some u) None us e h f = absurd cc
both_flat k t ts (Some u) (Some vs) us e h f =
    let s : more u vs ≡ us = cc in
    let a = item_is_flat k t u e in let b = h vs refl in let c = has_parts t in
    let d = ap deepest s in let n = ap all_parts s in
    let a0 = a.0 in let a1 = a.1 in let b0 = b.0 in let b1 = b.1 in
    (omega arith, omega arith)

pub all_flat : (k : FieldType) (ts us : Trees) → all_converted k ts ≡ Some us → AreFlat ts us
all_flat k none us e = let s : none ≡ us = cc in (sym (ap deepest s), let n = ap all_parts s in omega arith)
all_flat k (more t ts) us e = both_flat k t ts (converted_item k t) (all_converted k ts) us refl (λ vs f. all_flat k ts vs f) e

abbrev at_end : Trees → Tree → Trees
at_end none u = more u none
at_end (more t ts) u = more t (at_end ts u)

trees_at_end : (us : List Tree) (u : Tree) → at_end (trees us) u ≡ trees (us ++ u ∷ [])
trees_at_end [] u = refl
trees_at_end (v ∷ us) u = ap (λ r. more v r) (trees_at_end us u)

both_more : (o : Option Tree) (os : Option Trees) (next : Option Trees) (vs : Trees) (u : Tree) → both o os ≡ Some vs → ((ws : Trees) → os ≡ Some ws → next ≡ Some (at_end ws u)) → both o next ≡ Some (at_end vs u)
both_more None os next vs u e h = absurd cc
both_more (Some v) None next vs u e h = absurd cc
both_more (Some v) (Some ws) next vs u e h = let s : more v ws ≡ vs = cc in ap (both (Some v)) (h ws refl) ∙ ap (λ r. Some (at_end r u)) s

one_more : (k : FieldType) (ts : List Tree) (vs : Trees) (t u : Tree) → all_converted k (trees ts) ≡ Some vs → converted_item k t ≡ Some u → all_converted k (trees (ts ++ t ∷ [])) ≡ Some (at_end vs u)
one_more k [] vs t u e f = let s : none ≡ vs = cc in ap (λ o. both o (Some none)) f ∙ ap (λ r. Some (at_end r u)) s
one_more k (w ∷ ts) vs t u e f = both_more (converted_item k w) (all_converted k (trees ts)) _ vs u e (λ ws g. one_more k ts ws t u g f)

-- one item more
pub converted_more : (k : FieldType) (ts us : List Tree) (t u : Tree) → all_converted k (trees ts) ≡ Some (trees us) → converted_item k t ≡ Some u → all_converted k (trees (ts ++ t ∷ [])) ≡ Some (trees (us ++ u ∷ []))
converted_more k ts us t u e f = one_more k ts (trees us) t u e f ∙ ap Some (trees_at_end us u)

both_none : (o : Option Tree) → both o None ≡ None
both_none None = refl
both_none (Some t) = refl

-- where one item does not fit, the list does not
pub converted_stops : (k : FieldType) (ts : List Tree) (i : ℕ) (t : Tree) → slice_get ts i ≡ Some t → converted_item k t ≡ None → all_converted k (trees ts) ≡ None
converted_stops k [] i t e f = absurd cc
converted_stops k (u ∷ ts) zero t e f = let s : u ≡ t = cc in ap (λ v. both (converted_item k v) (all_converted k (trees ts))) s ∙ ap (λ o. both o (all_converted k (trees ts))) f
converted_stops k (u ∷ ts) (suc i) t e f = ap (both (converted_item k u)) (converted_stops k ts i t e f) ∙ both_none (converted_item k u)

-- the converted items keep the bounds
pub converted_bounded : (k : FieldType) (ts us : List Tree) (n : ℕ) → all_converted k (trees (take n ts)) ≡ Some (trees us) → IsBounded (array_of ts) → IsBounded (array_of us)
converted_bounded k ts us n e h =
    let f = all_flat k (trees (take n ts)) (trees us) e in
    let a = f.0 in let b = f.1 in let c = parts_front ts n in let d = h.parts in
    record { depth = omega arith; parts = omega arith }
