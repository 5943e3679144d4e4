-- The order of the names of fields, once a field more stands at the end.
use Rattle.std.proofs.Common.{◌≡◌, ℕ, ◌+◌, ◌-◌, ◌<◌, ◌≤◌, List, [], ◌∷◌, ◌++◌, map, length, get_or, insert, set, length-append, ◌⊎◌, inl, inr, refl, sym, ap, ap₂, ◌∙◌, subst, subst₂, arith}
use Rattle.std.specs.declared.cmp.Ordering.TheVariants.{Less}
use Rattle.std.proofs.Math.Seq.{get_or-append_seam, map-set_same}
use Rattle.std.proofs.lemmas.Bool.{cases_lt, cases_order}
use Rattle.std.proofs.lemmas.Cmp.{nat_list_cmp_total}
use Rattle.std.proofs.lemmas.List.{get_or_append_left, length-map, map-append}
use Rattle.std.proofs.lemmas.List.Edits.{length-insert, get_or-insert_at, get_or-insert_below, get_or-insert_above}
use Rattle.chan_values.specs.Folded.{folded}
use Rattle.node_tree.specs.declared.field.Field.{Field}
use Rattle.node_tree.specs.NameOrder.{names_of, name_at, name_cmp, Leads, IsNameOrder, IsNamedAt, IsNameGap}

module _ (names : List (List ℕ)) (order : List ℕ) (name : List ℕ) (o : IsNameOrder names order) where
  more : length (names ++ name ∷ []) ≡ length names + 1
  more = length-append names (name ∷ [])

  kept : (at : ℕ) → at < length names → get_or (names ++ name ∷ []) at [] ≡ get_or names at []
  kept at h = get_or_append_left names (name ∷ []) [] at h

  last : (at : ℕ) → length names ≤ at → at < length (names ++ name ∷ []) → get_or (names ++ name ∷ []) at [] ≡ name
  last at l h = let m = more in let q : at ≡ length names = omega arith in ap (λ i. get_or (names ++ name ∷ []) i []) q ∙ get_or-append_seam names name [] []

  name_kept : (k : ℕ) → k < length order → name_at (names ++ name ∷ []) order k ≡ name_at names order k
  name_kept k h = kept (get_or order k 0) (o.inside k h)

  -- a name that was there: the order stays
  pub again : (k : ℕ) → IsNamedAt names order name k → IsNameOrder (names ++ name ∷ []) order
  again k is = record {
    inside = λ i h. let n = o.inside i h in let m = more in omega arith;
    ascending = λ i j l h. ap₂ name_cmp (name_kept i (omega arith)) (name_kept j h) ∙ o.ascending i j l h;
    leads = leads;
  }
    where
      leads : (at : ℕ) → at < length (names ++ name ∷ []) → Leads (names ++ name ∷ []) order (get_or (names ++ name ∷ []) at []) at
      leads at h = elim (cases_lt at (length names)) [
        | inl l ↦ let lead = o.leads at l in record {
          k = lead.k;
          within = lead.within;
          early = lead.early;
          same = name_kept lead.k lead.within ∙ lead.same ∙ sym (kept at l);
        }
        | inr l ↦ record {
          k = k;
          within = is.within;
          early = let n = o.inside k is.within in omega arith;
          same = name_kept k is.within ∙ is.same ∙ sym (last at l h);
        }
      ]

  -- a new name: the order leads to it where the gap was
  module _ (k : ℕ) (gap : IsNameGap names order name k) where
    longer : length (insert order k (length names)) ≡ length order + 1
    longer = length-insert order k (length names) gap.within

    place_below : (j : ℕ) → j < k → get_or (insert order k (length names)) j 0 ≡ get_or order j 0
    place_below j l = get_or-insert_below order k (length names) 0 j l gap.within

    place_here : get_or (insert order k (length names)) k 0 ≡ length names
    place_here = get_or-insert_at order k (length names) 0 gap.within

    place_above : (j : ℕ) → k ≤ j → get_or (insert order k (length names)) (j + 1) 0 ≡ get_or order j 0
    place_above j l = get_or-insert_above order k (length names) 0 j l gap.within

    below : (j : ℕ) → j < k → name_at (names ++ name ∷ []) (insert order k (length names)) j ≡ name_at names order j
    below j l = ap (λ at. get_or (names ++ name ∷ []) at []) (place_below j l) ∙ name_kept j (let w = gap.within in omega arith)

    here : name_at (names ++ name ∷ []) (insert order k (length names)) k ≡ name
    here = ap (λ at. get_or (names ++ name ∷ []) at []) place_here ∙ get_or-append_seam names name [] []

    above : (j : ℕ) → k ≤ j → j < length order → name_at (names ++ name ∷ []) (insert order k (length names)) (j + 1) ≡ name_at names order j
    above j l h = ap (λ at. get_or (names ++ name ∷ []) at []) (place_above j l) ∙ name_kept j h

    -- what holds below the gap, at it, and above it, holds everywhere
    each : (P : ℕ → Type 0) → ((j : ℕ) → j < k → P j) → P k → ((j : ℕ) → k ≤ j → j < length order → P (j + 1)) → (j : ℕ) → j < length (insert order k (length names)) → P j
    each P b q a j h = elim (cases_order j k) [
      | inl e ↦ subst P (sym e) q
      | inr (inl l) ↦ b j l
      | inr (inr l) ↦ let e : (j - 1) + 1 ≡ j = omega arith in subst P e (a (j - 1) (omega arith) (let n = longer in omega arith))
    ]

    inside : (j : ℕ) → j < length (insert order k (length names)) → get_or (insert order k (length names)) j 0 < length (names ++ name ∷ [])
    inside = each (λ j. get_or (insert order k (length names)) j 0 < length (names ++ name ∷ []))
        (λ j l. let e = place_below j l in let n = o.inside j (let w = gap.within in omega arith) in let m = more in omega arith)
        (let e = place_here in let m = more in omega arith)
        (λ j l h. let e = place_above j l in let n = o.inside j h in let m = more in omega arith)

    abbrev Before : ℕ → ℕ → Type 0
    Before i j = i < j → name_cmp (name_at (names ++ name ∷ []) (insert order k (length names)) i) (name_at (names ++ name ∷ []) (insert order k (length names)) j) ≡ Less

    ascending : (i j : ℕ) → i < length (insert order k (length names)) → j < length (insert order k (length names)) → Before i j
    ascending i j h = each (λ n. Before i n) at_below at_here at_above j
      where
        at_below : (n : ℕ) → n < k → Before i n
        at_below n l m = ap₂ name_cmp (below i (omega arith)) (below n l) ∙ o.ascending i n m (let w = gap.within in omega arith)

        at_here : Before i k
        at_here m = ap₂ name_cmp (below i m) here ∙ gap.before i m

        at_above : (n : ℕ) → k ≤ n → n < length order → Before i (n + 1)
        at_above n l w = each (λ p. Before p (n + 1))
            (λ p q m. ap₂ name_cmp (below p q) (above n l w) ∙ o.ascending p n (omega arith) w)
            (λ m. ap₂ name_cmp here (above n l w) ∙ gap.after n l w)
            (λ p q g m. ap₂ name_cmp (above p q g) (above n l w) ∙ o.ascending p n (omega arith) w)
            i h

    led : (at : ℕ) → at < length names → (lead : Leads names order (get_or names at []) at) → Leads (names ++ name ∷ []) (insert order k (length names)) (get_or (names ++ name ∷ []) at []) at
    led at h lead = elim (cases_lt lead.k k) [
      | inl l ↦ record {
        k = lead.k;
        within = let n = longer in let w = lead.within in omega arith;
        early = let e = place_below lead.k l in let y = lead.early in omega arith;
        same = below lead.k l ∙ lead.same ∙ sym (kept at h);
      }
      | inr l ↦ record {
        k = lead.k + 1;
        within = let n = longer in let w = lead.within in omega arith;
        early = let e = place_above lead.k l in let y = lead.early in omega arith;
        same = above lead.k l lead.within ∙ lead.same ∙ sym (kept at h);
      }
    ]

    leads : (at : ℕ) → at < length (names ++ name ∷ []) → Leads (names ++ name ∷ []) (insert order k (length names)) (get_or (names ++ name ∷ []) at []) at
    leads at h = elim (cases_lt at (length names)) [
      | inl l ↦ led at l (o.leads at l)
      | inr l ↦ record {
        k = k;
        within = let n = longer in let w = gap.within in omega arith;
        early = let e = place_here in omega arith;
        same = here ∙ sym (last at l h);
      }
    ]

    pub added : IsNameOrder (names ++ name ∷ []) (insert order k (length names))
    added = record {
      inside = inside;
      ascending = λ i j l h. ascending i j (omega arith) h l;
      leads = leads;
    }

names_more : (items : List Field) (f : Field) → names_of items ++ folded f.id ∷ [] ≡ names_of (items ++ f ∷ [])
names_more items f = sym (map-append (λ g. folded g.id) items (f ∷ []))

pub pushed_again : (items new : List Field) (order : List ℕ) (f : Field) (k : ℕ) → IsNameOrder (names_of items) order → IsNamedAt (names_of items) order (folded f.id) k → new ≡ items ++ f ∷ [] → IsNameOrder (names_of new) order
pushed_again items new order f k o is e = subst (λ ns. IsNameOrder ns order) (names_more items f ∙ ap names_of (sym e)) (again (names_of items) order (folded f.id) o k is)

pub pushed_new : (items new : List Field) (order grown : List ℕ) (f : Field) (k : ℕ) → IsNameOrder (names_of items) order → IsNameGap (names_of items) order (folded f.id) k → new ≡ items ++ f ∷ [] → grown ≡ insert order k (length items) → IsNameOrder (names_of new) grown
pushed_new items new order grown f k o gap e g =
    subst₂ IsNameOrder (names_more items f ∙ ap names_of (sym e)) (ap (insert order k) (length-map items (λ f. folded f.id)) ∙ sym g) (added (names_of items) order (folded f.id) o k gap)

-- another value leaves the names
pub set_keeps : (items : List Field) (order : List ℕ) (at : ℕ) (f d : Field) → IsNameOrder (names_of items) order → f.id ≡ (get_or items at d).id → IsNameOrder (names_of (set items at f)) order
set_keeps items order at f d o e = subst (λ ns. IsNameOrder ns order) (sym (map-set_same (λ g. folded g.id) items at f d (ap folded e))) o
