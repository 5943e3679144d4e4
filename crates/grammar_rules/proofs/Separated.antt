-- Items with gaps between, and at most one gap at the end.
use Rattle.std.proofs.Common.{◌≡◌, ℕ, zero, suc, ◌+◌, ◌<◌, ◌≤◌, true, false, ◌&&◌, not, ◌⊎◌, inl, inr, List, [], ◌∷◌, ◌++◌, Option, Some, None, length, length-append, Ok, Err, cond, refl, sym, ap, ◌∙◌, append_assoc, append-nil, subst, arith}
use Rattle.grammar_rules.specs.declared.word.Word.{Word}
use Rattle.grammar_rules.specs.declared.word.Word.TheVariants.{End}
use Rattle.brs_tokens.specs.Tok.{Tok}
use Rattle.grammar_rules.specs.Words.{next}
use Rattle.grammar_rules.specs.Rules.{Rule, Pure, Splits, Either, Trail, trailed, Trailing, Begins}
use Rattle.grammar_rules.specs.Reading.{Outcome, Parser, and_then, pure, choose, trail_from, trail}
use Rattle.grammar_rules.specs.Reading as reading
use Rattle.grammar_rules.proofs.Lists.{and_parts, and_both, done, shorter, choose_second, or_nothing, same_bind, no_length, same_front}
use Rattle.grammar_rules.proofs.Meets.{Meets, ReadsOk, Faults, Words, begins_then, stops_then, then_meets, pure_meets, widen, stops_either, begins_either, either_meets}
use Rattle.grammar_rules.proofs.Good.{Good, any, none}

abbrev pub stops_trail : Words → Words → Words → Words → Words
stops_trail bg sg bi si w = (si w && sg w) && (not (bg w) && not (bi w))

module _ (A : Type 0) (G I : Rule (List A)) (pg pi : Parser (List A)) (bg sg bi si : Words)
    (gap : Good (List A) G false bg sg pg) (item : Good (List A) I false bi si pi)
    (to_item : (w : Word) → bi w ≡ true → sg w ≡ true) (to_gap : (w : Word) → bg w ≡ true → si w ≡ true) (ends : bg End ≡ false) where
  abbrev st : Words
  st = stops_trail bg sg bi si

  abbrev from : ℕ → List A → Parser (List A)
  from = trail_from bg bi pg pi

  -- at most n turns, behind what was found
  abbrev At : ℕ → List A → Rule (List A)
  At zero found = Pure found
  At (suc n) found =
      Either (Splits (List A) (List A) G (λ g. Either (Splits (List A) (List A) I (λ x. At n (found ++ (g ++ x)))) (Pure (found ++ g)))) (Pure found)

  item_ : (w : Word) → st w ≡ true → si w ≡ true
  item_ w e = (and_parts (si w) (sg w) (and_parts (si w && sg w) _ e).0).0

  gap_ : (w : Word) → st w ≡ true → sg w ≡ true
  gap_ w e = (and_parts (si w) (sg w) (and_parts (si w && sg w) _ e).0).1

  no_gap : (w : Word) → st w ≡ true → not (bg w) ≡ true
  no_gap w e = (and_parts (not (bg w)) (not (bi w)) (and_parts (si w && sg w) _ e).1).0

  no_item : (w : Word) → st w ≡ true → not (bi w) ≡ true
  no_item w e = (and_parts (not (bg w)) (not (bi w)) (and_parts (si w && sg w) _ e).1).1

  abbrev GoodAt : ℕ → Type 0
  GoodAt n = (found : List A) → Good (List A) (At n found) true bg st (from n found)

  with_item : (n : ℕ) → GoodAt n → (found g : List A) → Meets (List A) (Splits (List A) (List A) I (λ x. At n (found ++ (g ++ x)))) false bi st (reading.◌>>=◌ pi (λ x. from n (found ++ (g ++ x))))
  with_item n ih found g =
      widen (begins_then false bi bg) (stops_then true si st) bi st
      (then_meets (List A) (List A) I (λ x. At n (found ++ (g ++ x))) pi (λ x. from n (found ++ (g ++ x))) false true bi bg si st item.meets
      (λ x. (ih (found ++ (g ++ x))).meets) (λ x. (ih (found ++ (g ++ x))).some) to_gap)
      (λ w e. or_nothing (bi w) e) (λ w e. and_both (st w) (si w) e (item_ w e))

  behind_gap : (n : ℕ) → GoodAt n → (found g : List A)
      → Good (List A) (Either (Splits (List A) (List A) I (λ x. At n (found ++ (g ++ x)))) (Pure (found ++ g))) true bi st
      (choose bi (reading.◌>>=◌ pi (λ x. from n (found ++ (g ++ x)))) (pure (found ++ g)))
  behind_gap n ih found g = record {
    meets = widen (begins_either bi none) (stops_either true bi st any) bi st
        (either_meets (List A) _ _ _ _ true bi none st any (with_item n ih found g) (pure_meets (List A) (found ++ g)) (λ w e. absurd (cc)))
        (λ w e. or_nothing (bi w) e) (λ w e. and_both (st w) _ e (no_item w e));
    some = record { tokens = []; value = found ++ g; spells = inr (refl, refl) };
  }

  turn : (n : ℕ) → GoodAt n → (found : List A)
      → Meets (List A) (Splits (List A) (List A) G (λ g. Either (Splits (List A) (List A) I (λ x. At n (found ++ (g ++ x)))) (Pure (found ++ g)))) false bg st
      (reading.◌>>=◌ pg (λ g. choose bi (reading.◌>>=◌ pi (λ x. from n (found ++ (g ++ x)))) (pure (found ++ g))))
  turn n ih found =
      widen (begins_then false bg bi) (stops_then true sg st) bg st
      (then_meets (List A) (List A) G _ pg _ false true bg bi sg st gap.meets (λ g. (behind_gap n ih found g).meets) (λ g. (behind_gap n ih found g).some) to_item)
      (λ w e. or_nothing (bg w) e) (λ w e. and_both (st w) (sg w) e (gap_ w e))

  good_at : (n : ℕ) → GoodAt n
  unfolding trail_from
  good_at zero found = record {
    meets = widen none any bg st (pure_meets (List A) found) (λ w e. absurd (cc)) (λ w e. refl);
    some = record { tokens = []; value = found; spells = (refl, refl) };
  }
  good_at (suc n) found = record {
    meets = widen (begins_either bg none) (stops_either true bg st any) bg st
        (either_meets (List A) _ _ _ _ true bg none st any (turn n (good_at n) found) (pure_meets (List A) found) (λ w e. absurd (cc)))
        (λ w e. or_nothing (bg w) e) (λ w e. and_both (st w) _ e (no_gap w e));
    some = record { tokens = []; value = found; spells = inr (refl, refl) };
  }

  -- no gap is empty
  takes : (front : List Tok) (x : List A) → G front x → front ≡ [] → ⊥
  takes front x spells empty = go (gap.meets.ahead front [] x spells)
    where
      go : (bg (next (front ++ [])) ≡ true) ⊎ ((false ≡ true) × (front ≡ [])) → ⊥
      go (inl t) = let d : true ≡ false = sym t ∙ (ap (λ z. bg (next (z ++ []))) empty ∙ ends) in cc
      go (inr n) = let d : false ≡ true = n.0 in cc

  stop : (n : ℕ) (found : List A) (ts : List Tok) → bg (next ts) ≡ false → from n found ts ≡ Ok (found, ts)
  unfolding trail_from
  stop zero found ts e = refl
  stop (suc n) found ts e = choose_second bg (reading.◌>>=◌ pg (λ g. choose bi (reading.◌>>=◌ pi (λ x. from n (found ++ (g ++ x)))) (pure (found ++ g)))) (pure found) ts e

  stop_end : (n : ℕ) (found : List A) (ts : List Tok) → length ts ≤ 0 → from n found ts ≡ Ok (found, ts)
  stop_end n found ts h = stop n found ts (ap (λ z. bg (next z)) (no_length ts h) ∙ ends)

  left : (ts : List Tok) (x y : List A × List Tok) → pg ts ≡ Ok x → pi x.1 ≡ Ok y → length y.1 < length ts
  left ts x y d e =
      let a = gap.meets.ok ts x.1 x.0 d in
      let b = item.meets.ok x.1 y.1 y.0 e in
      let l = shorter a.front x.1 ts a.cut (takes a.front x.0 a.spells) in
      omega (arith, ap length b.cut, length-append b.front y.1, l)

  -- the bound on turns does not matter
  agree : (n m : ℕ) (found : List A) (ts : List Tok) → length ts ≤ n → length ts ≤ m → from n found ts ≡ from m found ts
  unfolding trail_from
  agree zero m found ts a b = sym (stop_end m found ts a)
  agree (suc n) zero found ts a b = stop_end (suc n) found ts b
  agree (suc n) (suc m) found ts a b =
      ap (λ o. cond (bg (next ts)) o (done found ts))
      (same_bind (pg ts) (λ g. choose bi (reading.◌>>=◌ pi (λ x. from n (found ++ (g ++ x)))) (pure (found ++ g))) (λ g. choose bi (reading.◌>>=◌ pi (λ x. from m (found ++ (g ++ x)))) (pure (found ++ g)))
      (λ x d. ap (λ o. cond (bi (next x.1)) o (done (found ++ x.0) x.1))
      (same_bind (pi x.1) (λ y. from n (found ++ (x.0 ++ y))) (λ y. from m (found ++ (x.0 ++ y)))
      (λ y e. let l = left ts x y d e in agree n m (found ++ (x.0 ++ y.0)) y.1 (omega arith) (omega arith)))))

  Told : List A → List Tok → List A → Type 0
  Told found u a = (turns : List (List A × List A)) × (last : Option (List A)) × Trail G I u turns last × (a ≡ found ++ trailed turns last)

  told : (n : ℕ) (found : List A) (u : List Tok) (a : List A) → At n found u a → Told found u a
  unfolding Told
  told zero found u a w = ([], None, w.0, w.1 ∙ sym (append-nil found))
  told (suc n) found u a (inr w) = ([], None, w.0, w.1 ∙ sym (append-nil found))
  told (suc n) found u a (inl s) = go s.second (λ g x v b w. told n (found ++ (g ++ x)) v b w)
    where
      go : Either (Splits (List A) (List A) I (λ x. At n (found ++ (s.value ++ x)))) (Pure (found ++ s.value)) s.back a
          → ((g x : List A) (v : List Tok) (b : List A) → At n (found ++ (g ++ x)) v b → Told (found ++ (g ++ x)) v b) → Told found u a
      go (inl t) ih =
          let r = ih s.value t.value t.back a t.second in
          ((s.value, t.value) ∷ r.0, r.1, (s.front, t.front, t.back, s.cut ∙ ap (λ z. s.front ++ z) t.cut, s.first, t.first, r.2), r.3 ∙ append_assoc found (s.value ++ t.value) (trailed r.0 r.1))
      go (inr w) ih = ([], Some s.value, subst (λ z. G z s.value) (sym (s.cut ∙ ap (λ z. s.front ++ z) w.0 ∙ append-nil s.front)) s.first, w.1)

  within_bound : (turns : List (List A × List A)) (last : Option (List A)) (n : ℕ) (found : List A) (u : List Tok) → Trail G I u turns last → length u ≤ n → At n found u (found ++ trailed turns last)
  within_bound [] None zero found u w len = (w, append-nil found)
  within_bound [] None (suc n) found u w len = inr (w, append-nil found)
  within_bound [] (Some g) zero found u w len = absurd (takes u g w (no_length u len))
  within_bound [] (Some g) (suc n) found u w len =
      inl (record { front = u; back = []; value = g; cut = sym (append-nil u); first = w; second = inr (refl, refl) })
  within_bound (t ∷ more) last zero found u w len =
      absurd (takes w.0 t.0 w.4 (no_length w.0 (omega (arith, ap length w.3, length-append w.0 (w.1 ++ w.2), len))))
  within_bound (t ∷ more) last (suc n) found u w len =
      let l = shorter w.0 (w.1 ++ w.2) u w.3 (takes w.0 t.0 w.4) in
      let deep = within_bound more last n (found ++ (t.0 ++ t.1)) w.2 w.6 (omega (arith, length-append w.1 w.2, l, len)) in
      inl (record {
        front = w.0;
        back = w.1 ++ w.2;
        value = t.0;
        cut = w.3;
        first = w.4;
        second = inl (record { front = w.1; back = w.2; value = t.1; cut = refl; first = w.5; second = subst (λ z. At n (found ++ (t.0 ++ t.1)) w.2 z) (append_assoc found (t.0 ++ t.1) (trailed more last)) deep });
      })

  abbrev p : Parser (List A)
  p = trail bg bi pg pi

  abbrev R : Rule (List A)
  R = Trailing G I

  trail_ok : (ts rest : List Tok) (a : List A) → p ts ≡ Ok (a, rest) → ReadsOk (List A) R p ts rest a
  unfolding trail Told
  trail_ok ts rest a e =
      let m = (good_at (length ts) []).meets.ok ts rest a e in
      record { front = m.front; cut = m.cut; spells = told (length ts) [] m.front a m.spells; local = at m.front m.cut }
    where
      at : (front : List Tok) → ts ≡ front ++ rest → (other : List Tok) → next other ≡ next rest → from (length (front ++ other)) [] (front ++ other) ≡ Ok (a, other)
      at front cut other l =
          let big : ℕ = length ts + length (front ++ other) in
          let x = (good_at big []).meets.ok ts rest a (sym (agree (length ts) big [] ts (omega arith) (omega arith)) ∙ e) in
          let same = same_front x.front front rest (sym x.cut ∙ cut) in
          agree (length (front ++ other)) big [] (front ++ other) (omega arith) (omega arith) ∙ ap (λ z. from big [] (z ++ other)) (sym same) ∙ x.local other l

  trail_fault : (ts rest : List Tok) → p ts ≡ Err rest → Faults (List A) R p ts rest
  unfolding trail Told
  trail_fault ts rest e =
      let m = (good_at (length ts) []).meets.fault ts rest e in
      record { front = m.front; cut = m.cut; viable = begun_ m.front m.viable; local = at m.front m.cut }
    where
      begun_ : (front : List Tok) → (front ≡ []) ⊎ Begins (At (length ts) []) front → (front ≡ []) ⊎ Begins R front
      begun_ front (inl n) = inl n
      begun_ front (inr b) = inr (b.0, b.1, told (length ts) [] (front ++ b.0) b.1 b.2)

      at : (front : List Tok) → ts ≡ front ++ rest → (other : List Tok) → next other ≡ next rest → from (length (front ++ other)) [] (front ++ other) ≡ Err other
      at front cut other l =
          let big : ℕ = length ts + length (front ++ other) in
          let x = (good_at big []).meets.fault ts rest (sym (agree (length ts) big [] ts (omega arith) (omega arith)) ∙ e) in
          let same = same_front x.front front rest (sym x.cut ∙ cut) in
          agree (length (front ++ other)) big [] (front ++ other) (omega arith) (omega arith) ∙ ap (λ z. from big [] (z ++ other)) (sym same) ∙ x.local other l

  bounded : (n : ℕ) (u : List Tok) (a : List A) → R u a → length u ≤ n → At n [] u a
  bounded n u a w len = subst (λ z. At n [] u z) (sym w.3) (within_bound w.0 w.1 n [] u w.2 len)

  trail_all : (u rest : List Tok) (a : List A) → R u a → st (next rest) ≡ true → p (u ++ rest) ≡ Ok (a, rest)
  unfolding trail
  trail_all u rest a w e = (good_at (length (u ++ rest)) []).meets.all u rest a (bounded (length (u ++ rest)) u a w (omega (arith, length-append u rest))) e

  pub trail_good : Good (List A) R true bg st p
  trail_good = record {
    meets = record {
      ok = trail_ok;
      fault = trail_fault;
      all = trail_all;
      ahead = λ u rest a w. (good_at (length u) []).meets.ahead u rest a (bounded (length u) u a w (omega arith));
    };
    some = record { tokens = []; value = []; spells = ([], None, refl, refl) };
  }
