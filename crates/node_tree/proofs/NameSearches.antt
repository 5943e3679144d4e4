-- A search among the names of fields, by their order.
use Rattle.std.proofs.Common.{◌≡◌, ℕ, ◌+◌, ◌<◌, ◌≤◌, List, [], ◌∷◌, length, get_or, ◌⊎◌, inl, inr, refl, sym, ap, ◌∙◌, subst, arith}
use Rattle.std.specs.Ordering.{ordering_reverse}
use Rattle.std.specs.declared.cmp.Ordering.TheVariants.{Less, Equal, Greater}
use Rattle.std.proofs.lemmas.Bool.{cases_eq}
use Rattle.std.proofs.lemmas.Cmp.{nat_list_cmp_total}
use Rattle.std.proofs.lemmas.List.{get_or-map, length-map}
use Rattle.std.proofs.lemmas.Map.Lookups.{exact_bytes}
use Rattle.chan_values.specs.Folded.{folded}
use Rattle.node_tree.specs.declared.field.Field.{Field}
use Rattle.node_tree.specs.NameOrder.{names_of, name_at, name_cmp, IsNameOrder, IsNamedAt, IsNameGap}

-- the name of the field at a place
pub name_here : (items : List Field) (at : ℕ) (d : Field) → at < length items → get_or (names_of items) at [] ≡ folded (get_or items at d).id
name_here items at d h = get_or-map (λ f. folded f.id) items at d [] h

-- a place of the order is one of a field
pub leads_inside : (items : List Field) (order : List ℕ) (k : ℕ) → IsNameOrder (names_of items) order → k < length order → get_or order k 0 < length items
leads_inside items order k o h = let i = o.inside k h in let l = length-map items (λ f. folded f.id) in omega arith

-- the name doesn't come before `low`, where names are before it, nor from `high` on, where they are after it
pub record Between (names : List (List ℕ)) (order : List ℕ) (name : List ℕ) (low high : ℕ) : Type 0 where
  pub ends : low ≤ high
  pub within : high ≤ length order
  pub before : (j : ℕ) → j < low → name_cmp (name_at names order j) name ≡ Less
  pub after : (j : ℕ) → high ≤ j → j < length order → name_cmp name (name_at names order j) ≡ Less

pub at_first : (names : List (List ℕ)) (order : List ℕ) (name : List ℕ) → Between names order name 0 (length order)
at_first names order name = record {
  ends = omega arith;
  within = omega arith;
  before = λ j l. absurd (omega arith);
  after = λ j l h. absurd (omega arith);
}

pub at_last : (names : List (List ℕ)) (order : List ℕ) (name : List ℕ) (low high : ℕ) → Between names order name low high → high ≤ low → IsNameGap names order name low
at_last names order name low high b l = record {
  within = let w = b.within in let e = b.ends in omega arith;
  before = b.before;
  after = λ j g. b.after j (omega arith);
}

module _ (names : List (List ℕ)) (order : List ℕ) (name : List ℕ) (low high : ℕ) (b : Between names order name low high) (o : IsNameOrder names order) (middle : ℕ) (l : low ≤ middle) (h : middle < high) (there : List ℕ) (is : name_at names order middle ≡ there) where
  pub to_lower : name_cmp name there ≡ Less → Between names order name low middle
  to_lower e = record {
    ends = l;
    within = let w = b.within in omega arith;
    before = b.before;
    after = λ j g w. elim (cases_eq middle j) [
      | inl q ↦ ap (λ i. name_cmp name (name_at names order i)) (sym q) ∙ first
      | inr n ↦ nat_list_cmp_total.trans name (name_at names order middle) (name_at names order j) first (o.ascending middle j (later j g n) w)
    ];
  }
    where
      first : name_cmp name (name_at names order middle) ≡ Less
      first = ap (name_cmp name) is ∙ e

      later : (j : ℕ) → middle ≤ j → (middle ≡ j → ⊥) → middle < j
      later j g n = omega arith

  pub to_upper : name_cmp name there ≡ Greater → Between names order name (middle + 1) high
  to_upper e = record {
    ends = omega arith;
    within = b.within;
    before = λ j g. elim (cases_eq j middle) [
      | inl q ↦ ap (λ i. name_cmp (name_at names order i) name) q ∙ last
      | inr n ↦ nat_list_cmp_total.trans (name_at names order j) (name_at names order middle) name (o.ascending j middle (earlier j g n) (let w = b.within in omega arith)) last
    ];
    after = b.after;
  }
    where
      last : name_cmp (name_at names order middle) name ≡ Less
      last = nat_list_cmp_total.antisymm (name_at names order middle) name ∙ ap ordering_reverse (ap (name_cmp name) is ∙ e)

      earlier : (j : ℕ) → j < middle + 1 → (j ≡ middle → ⊥) → j < middle
      earlier j g n = omega arith

  pub met : name_cmp name there ≡ Equal → IsNamedAt names order name middle
  met e = record {
    within = let w = b.within in omega arith;
    same = is ∙ sym (exact_bytes name there e);
  }

-- the name to which the order leads, as the code reads it
pub name_read : (items : List Field) (order : List ℕ) (k : ℕ) (d : Field) (text bytes : List ℕ) → IsNameOrder (names_of items) order → k < length order → text ≡ (get_or items (get_or order k 0) d).id → bytes ≡ text → name_at (names_of items) order k ≡ folded bytes
name_read items order k d text bytes o h e f = name_here items (get_or order k 0) d (leads_inside items order k o h) ∙ sym (ap folded (f ∙ e))
