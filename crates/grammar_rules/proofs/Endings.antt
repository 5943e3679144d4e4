-- Turns of two kinds, and at most one last turn, where the last turn and one kind of turn have one beginning.
use Rattle.std.proofs.Common.{◌≡◌, ℕ, zero, suc, ◌+◌, ◌<◌, ◌≤◌, Bool, true, false, ◌&&◌, ◌||◌, not, ◌⊎◌, inl, inr, List, [], ◌∷◌, ◌++◌, Option, Some, None, length, length-append, Ok, Err, cond, refl, sym, ap, ◌∙◌, append_assoc, append-nil, subst, arith}
use Rattle.grammar_rules.specs.declared.word.Word.{Word}
use Rattle.grammar_rules.specs.declared.word.Word.TheVariants.{End}
use Rattle.brs_tokens.specs.Tok.{Tok}
use Rattle.grammar_rules.specs.Words.{next}
use Rattle.grammar_rules.specs.Rules.{Rule, Pure, Splits, Either, Turns, joined, Optional, Ending, Ended, Begins}
use Rattle.grammar_rules.specs.Reading.{Outcome, Parser, and_then, pure, choose, ended_from, ended}
use Rattle.grammar_rules.specs.Reading as reading
use Rattle.grammar_rules.proofs.Lists.{and_parts, and_both, or_second, done, shorter, choose_second, no_length, same_bind, same_front, or_nothing}
use Rattle.grammar_rules.proofs.Meets.{Meets, ReadsOk, Faults, Words, begins_then, stops_then, then_meets, pure_meets, widen, stops_either, begins_either, either_meets}
use Rattle.grammar_rules.proofs.Good.{Good, any, none, pure_good}

-- where such a row ends: before nothing that goes on
abbrev pub stops_ended : Words → Words → Words → Words → Words → Words → Words → Words
stops_ended ft st fh sh fo so sl w = (st w && (sh w && (so w && sl w))) && (not (ft w) && (not (fh w) && not (fo w)))

module _ (A B E : Type 0) (T : Rule (List A)) (H : Rule E) (O : E → Rule (List A)) (L : E → Rule B)
    (pt : Parser (List A)) (ph : Parser E) (po : E → Parser (List A)) (pl : E → Parser B)
    (m : Bool) (ft st fh sh fo so fl sl : Words)
    (turn : Good (List A) T false ft st pt) (head : Good E H false fh sh ph)
    (other : (e : E) → Good (List A) (O e) false fo so (po e)) (last : (e : E) → Good B (L e) m fl sl (pl e))
    (turn_on : (w : Word) → (ft w || fh w) ≡ true → st w ≡ true) (other_on : (w : Word) → (ft w || fh w) ≡ true → so w ≡ true)
    (head_on : (w : Word) → (fo w || fl w) ≡ true → sh w ≡ true)
    (heads_apart : (w : Word) → fh w ≡ true → ft w ≡ false) (lasts_apart : (w : Word) → fl w ≡ true → fo w ≡ false)
    (ends_turn : ft End ≡ false) (ends_head : fh End ≡ false) where
  abbrev stop_ : Words
  stop_ = stops_ended ft st fh sh fo so sl

  abbrev begin_ : Words
  begin_ w = ft w || fh w

  abbrev ending : List A → Option B → Ending A B
  ending xs y = record { turns = xs; last = y }

  abbrev from : ℕ → List A → Parser (Ending A B)
  from = ended_from ft fh fo pt ph po pl

  -- at most n turns, behind what was found
  abbrev At : ℕ → List A → Rule (Ending A B)
  At zero found = Pure (ending found None)
  At (suc n) found =
      Either (Splits (List A) (Ending A B) T (λ x. At n (found ++ x)))
      (Either (Splits E (Ending A B) H (λ e. Either (Splits (List A) (Ending A B) (O e) (λ x. At n (found ++ x))) (Splits B (Ending A B) (L e) (λ y. Pure (ending found (Some y))))))
      (Pure (ending found None)))

  stop_turn : (w : Word) → stop_ w ≡ true → st w ≡ true
  stop_turn w e = (and_parts (st w) _ (and_parts (st w && (sh w && (so w && sl w))) _ e).0).0

  stop_head : (w : Word) → stop_ w ≡ true → sh w ≡ true
  stop_head w e = (and_parts (sh w) _ (and_parts (st w) _ (and_parts (st w && (sh w && (so w && sl w))) _ e).0).1).0

  stop_other : (w : Word) → stop_ w ≡ true → so w ≡ true
  stop_other w e = (and_parts (so w) _ (and_parts (sh w) _ (and_parts (st w) _ (and_parts (st w && (sh w && (so w && sl w))) _ e).0).1).1).0

  stop_last : (w : Word) → stop_ w ≡ true → sl w ≡ true
  stop_last w e = (and_parts (so w) _ (and_parts (sh w) _ (and_parts (st w) _ (and_parts (st w && (sh w && (so w && sl w))) _ e).0).1).1).1

  no_turn : (w : Word) → stop_ w ≡ true → not (ft w) ≡ true
  no_turn w e = (and_parts (not (ft w)) _ (and_parts (st w && (sh w && (so w && sl w))) _ e).1).0

  no_head : (w : Word) → stop_ w ≡ true → not (fh w) ≡ true
  no_head w e = (and_parts (not (fh w)) _ (and_parts (not (ft w)) _ (and_parts (st w && (sh w && (so w && sl w))) _ e).1).1).0

  no_other : (w : Word) → stop_ w ≡ true → not (fo w) ≡ true
  no_other w e = (and_parts (not (fh w)) _ (and_parts (not (ft w)) _ (and_parts (st w && (sh w && (so w && sl w))) _ e).1).1).1

  abbrev GoodAt : ℕ → Type 0
  GoodAt n = (found : List A) → Good (Ending A B) (At n found) true begin_ stop_ (from n found)

  -- what follows a turn
  with_turn : (n : ℕ) → GoodAt n → (found : List A)
      → Meets (Ending A B) (Splits (List A) (Ending A B) T (λ x. At n (found ++ x))) false ft stop_ (reading.◌>>=◌ pt (λ x. from n (found ++ x)))
  with_turn n ih found =
      widen (begins_then false ft begin_) (stops_then true st stop_) ft stop_
      (then_meets (List A) (Ending A B) T (λ x. At n (found ++ x)) pt (λ x. from n (found ++ x)) false true ft begin_ st stop_ turn.meets
      (λ x. (ih (found ++ x)).meets) (λ x. (ih (found ++ x)).some) turn_on)
      (λ w e. or_nothing (ft w) e) (λ w e. and_both (stop_ w) (st w) e (stop_turn w e))

  with_other : (n : ℕ) → GoodAt n → (found : List A) (e : E)
      → Meets (Ending A B) (Splits (List A) (Ending A B) (O e) (λ x. At n (found ++ x))) false fo stop_ (reading.◌>>=◌ (po e) (λ x. from n (found ++ x)))
  with_other n ih found e =
      widen (begins_then false fo begin_) (stops_then true so stop_) fo stop_
      (then_meets (List A) (Ending A B) (O e) (λ x. At n (found ++ x)) (po e) (λ x. from n (found ++ x)) false true fo begin_ so stop_ (other e).meets
      (λ x. (ih (found ++ x)).meets) (λ x. (ih (found ++ x)).some) other_on)
      (λ w d. or_nothing (fo w) d) (λ w d. and_both (stop_ w) (so w) d (stop_other w d))

  abbrev after_last : List A → B → Ending A B
  after_last found y = ending found (Some y)

  with_last : (found : List A) (e : E) → Good (Ending A B) (Splits B (Ending A B) (L e) (λ y. Pure (after_last found y))) m fl stop_ (reading.◌>>=◌ (pl e) (λ y. pure (after_last found y)))
  with_last found e = record {
    meets = narrow (then_meets B (Ending A B) (L e) (λ y. Pure (after_last found y)) (pl e) (λ y. pure (after_last found y)) m true fl none sl any (last e).meets
        (λ y. pure_meets (Ending A B) (after_last found y)) (λ y. (pure_good (after_last found y)).some) (λ w d. absurd (cc)));
    some = let s = (last e).some in
        record { tokens = s.tokens ++ []; value = after_last found s.value; spells = record { front = s.tokens; back = []; value = s.value; cut = refl; first = s.spells; second = (refl, refl) } };
  }
    where
      begins : (n : Bool) (w : Word) → begins_then n fl none w ≡ true → fl w ≡ true
      begins true w d = or_nothing (fl w) d
      begins false w d = or_nothing (fl w) d

      narrow : Meets (Ending A B) (Splits B (Ending A B) (L e) (λ y. Pure (after_last found y))) (m && true) (begins_then m fl none) (stops_then true sl any) (reading.◌>>=◌ (pl e) (λ y. pure (after_last found y)))
          → Meets (Ending A B) (Splits B (Ending A B) (L e) (λ y. Pure (after_last found y))) m fl stop_ (reading.◌>>=◌ (pl e) (λ y. pure (after_last found y)))
      narrow x =
          subst (λ z. Meets (Ending A B) (Splits B (Ending A B) (L e) (λ y. Pure (after_last found y))) z fl stop_ (reading.◌>>=◌ (pl e) (λ y. pure (after_last found y)))) (and_true m)
          (widen (begins_then m fl none) (stops_then true sl any) fl stop_ x (begins m) (λ w d. stop_last w d))
        where
          and_true : (b : Bool) → (b && true) ≡ b
          and_true true = refl
          and_true false = refl

  behind_head : (n : ℕ) → GoodAt n → (found : List A) (e : E)
      → Good (Ending A B) (Either (Splits (List A) (Ending A B) (O e) (λ x. At n (found ++ x))) (Splits B (Ending A B) (L e) (λ y. Pure (after_last found y)))) m (begins_either fo fl) stop_
      (choose fo (reading.◌>>=◌ (po e) (λ x. from n (found ++ x))) (reading.◌>>=◌ (pl e) (λ y. pure (after_last found y))))
  behind_head n ih found e = record {
    meets = widen (begins_either fo fl) (stops_either m fo stop_ stop_) (begins_either fo fl) stop_
        (either_meets (Ending A B) _ _ _ _ m fo fl stop_ stop_ (with_other n ih found e) (with_last found e).meets lasts_apart)
        (λ w d. d) (λ w d. and_both (stop_ w) _ d (and_both (stop_ w) _ d (or_second (not m) (not (fo w)) (no_other w d))));
    some = let s = (with_last found e).some in record { tokens = s.tokens; value = s.value; spells = inr s.spells };
  }

  with_head : (n : ℕ) → GoodAt n → (found : List A)
      → Meets (Ending A B) (Splits E (Ending A B) H (λ e. Either (Splits (List A) (Ending A B) (O e) (λ x. At n (found ++ x))) (Splits B (Ending A B) (L e) (λ y. Pure (after_last found y))))) false fh stop_
      (reading.◌>>=◌ ph (λ e. choose fo (reading.◌>>=◌ (po e) (λ x. from n (found ++ x))) (reading.◌>>=◌ (pl e) (λ y. pure (after_last found y)))))
  with_head n ih found =
      widen (begins_then false fh (begins_either fo fl)) (stops_then m sh stop_) fh stop_
      (then_meets E (Ending A B) H _ ph _ false m fh (begins_either fo fl) sh stop_ head.meets (λ e. (behind_head n ih found e).meets) (λ e. (behind_head n ih found e).some) head_on)
      (λ w d. or_nothing (fh w) d) (λ w d. and_both (stop_ w) _ d (or_second (not m) (sh w) (stop_head w d)))

  no_turn_at : (n : ℕ) → GoodAt n → (found : List A)
      → Meets (Ending A B) (Either (Splits E (Ending A B) H (λ e. Either (Splits (List A) (Ending A B) (O e) (λ x. At n (found ++ x))) (Splits B (Ending A B) (L e) (λ y. Pure (after_last found y))))) (Pure (ending found None))) true fh stop_
      (choose fh (reading.◌>>=◌ ph (λ e. choose fo (reading.◌>>=◌ (po e) (λ x. from n (found ++ x))) (reading.◌>>=◌ (pl e) (λ y. pure (after_last found y))))) (pure (ending found None)))
  no_turn_at n ih found =
      widen (begins_either fh none) (stops_either true fh stop_ any) fh stop_
      (either_meets (Ending A B) _ _ _ _ true fh none stop_ any (with_head n ih found) (pure_meets (Ending A B) (ending found None)) (λ w d. absurd (cc)))
      (λ w d. or_nothing (fh w) d) (λ w d. and_both (stop_ w) _ d (no_head w d))

  good_at : (n : ℕ) → GoodAt n
  unfolding ended_from
  good_at zero found = record {
    meets = widen none any begin_ stop_ (pure_meets (Ending A B) (ending found None)) (λ w e. absurd (cc)) (λ w e. refl);
    some = record { tokens = []; value = ending found None; spells = (refl, refl) };
  }
  good_at (suc n) found = record {
    meets = widen (begins_either ft fh) (stops_either true ft stop_ stop_) begin_ stop_
        (either_meets (Ending A B) _ _ _ _ true ft fh stop_ stop_ (with_turn n (good_at n) found) (no_turn_at n (good_at n) found) heads_apart)
        (λ w d. d) (λ w d. and_both (stop_ w) _ d (and_both (stop_ w) _ d (no_turn w d)));
    some = record { tokens = []; value = ending found None; spells = inr (inr (refl, refl)) };
  }

  -- no turn and no head is empty
  takes_turn : (front : List Tok) (x : List A) → T front x → front ≡ [] → ⊥
  takes_turn front x spells empty = go (turn.meets.ahead front [] x spells)
    where
      go : (ft (next (front ++ [])) ≡ true) ⊎ ((false ≡ true) × (front ≡ [])) → ⊥
      go (inl t) = let d : true ≡ false = sym t ∙ (ap (λ z. ft (next (z ++ []))) empty ∙ ends_turn) in cc
      go (inr n) = let d : false ≡ true = n.0 in cc

  takes_head : (front : List Tok) (x : E) → H front x → front ≡ [] → ⊥
  takes_head front x spells empty = go (head.meets.ahead front [] x spells)
    where
      go : (fh (next (front ++ [])) ≡ true) ⊎ ((false ≡ true) × (front ≡ [])) → ⊥
      go (inl t) = let d : true ≡ false = sym t ∙ (ap (λ z. fh (next (z ++ []))) empty ∙ ends_head) in cc
      go (inr n) = let d : false ≡ true = n.0 in cc

  at_end : (n : ℕ) (found : List A) (ts : List Tok) → length ts ≤ 0 → from n found ts ≡ Ok (ending found None, ts)
  unfolding ended_from
  at_end zero found ts h = refl
  at_end (suc n) found ts h =
      choose_second ft (reading.◌>>=◌ pt (λ x. from n (found ++ x)))
      (choose fh (reading.◌>>=◌ ph (λ e. choose fo (reading.◌>>=◌ (po e) (λ x. from n (found ++ x))) (reading.◌>>=◌ (pl e) (λ y. pure (after_last found y))))) (pure (ending found None)))
      ts (ap (λ z. ft (next z)) (no_length ts h) ∙ ends_turn)
      ∙ choose_second fh (reading.◌>>=◌ ph (λ e. choose fo (reading.◌>>=◌ (po e) (λ x. from n (found ++ x))) (reading.◌>>=◌ (pl e) (λ y. pure (after_last found y))))) (pure (ending found None))
      ts (ap (λ z. fh (next z)) (no_length ts h) ∙ ends_head)

  left_turn : (ts : List Tok) (x : List A × List Tok) → pt ts ≡ Ok x → length x.1 < length ts
  left_turn ts x d = let a = turn.meets.ok ts x.1 x.0 d in shorter a.front x.1 ts a.cut (takes_turn a.front x.0 a.spells)

  left_other : (ts : List Tok) (x : E × List Tok) (y : List A × List Tok) → ph ts ≡ Ok x → po x.0 x.1 ≡ Ok y → length y.1 < length ts
  left_other ts x y d e =
      let a = head.meets.ok ts x.1 x.0 d in
      let b = (other x.0).meets.ok x.1 y.1 y.0 e in
      let l = shorter a.front x.1 ts a.cut (takes_head a.front x.0 a.spells) in
      omega (arith, ap length b.cut, length-append b.front y.1, l)

  -- the bound on turns does not matter
  agree : (n k : ℕ) (found : List A) (ts : List Tok) → length ts ≤ n → length ts ≤ k → from n found ts ≡ from k found ts
  unfolding ended_from
  agree zero k found ts a b = sym (at_end k found ts a)
  agree (suc n) zero found ts a b = at_end (suc n) found ts b
  agree (suc n) (suc k) found ts a b =
      ap (λ o. cond (ft (next ts)) o (cond (fh (next ts)) (and_then (ph ts) (λ e. choose fo (reading.◌>>=◌ (po e) (λ x. from n (found ++ x))) (reading.◌>>=◌ (pl e) (λ y. pure (after_last found y))))) (done (ending found None) ts)))
      (same_bind (pt ts) (λ x. from n (found ++ x)) (λ x. from k (found ++ x)) (λ x d. let l = left_turn ts x d in agree n k (found ++ x.0) x.1 (omega arith) (omega arith)))
      ∙ ap (λ o. cond (ft (next ts)) (and_then (pt ts) (λ x. from k (found ++ x))) (cond (fh (next ts)) o (done (ending found None) ts)))
      (same_bind (ph ts)
      (λ e. choose fo (reading.◌>>=◌ (po e) (λ x. from n (found ++ x))) (reading.◌>>=◌ (pl e) (λ y. pure (after_last found y))))
      (λ e. choose fo (reading.◌>>=◌ (po e) (λ x. from k (found ++ x))) (reading.◌>>=◌ (pl e) (λ y. pure (after_last found y))))
      (λ x d. ap (λ o. cond (fo (next x.1)) o (and_then (pl x.0 x.1) (λ y. pure (after_last found y))))
      (same_bind (po x.0 x.1) (λ y. from n (found ++ y)) (λ y. from k (found ++ y))
      (λ y e. let l = left_other ts x y d e in agree n k (found ++ y.0) y.1 (omega arith) (omega arith)))))

  -- ---- at most n turns, and the row

  abbrev Turn : Rule (List A)
  Turn = Either T (Splits E (List A) H O)

  abbrev Last : Rule B
  Last = Splits E B H L

  abbrev Told : List A → List Tok → Ending A B → Type 0
  Told found u a = (turns : List (List A)) × (front : List Tok) × (back : List Tok) × (y : Option B) × (u ≡ front ++ back) × Turns Turn front turns × Optional Last back y × (a ≡ ending (found ++ joined turns) y)

  none_told : (found : List A) (u : List Tok) (a : Ending A B) → u ≡ [] → a ≡ ending found None → Told found u a
  none_told found u a e d = ([], [], u, None, refl, refl, inr (e, refl), d ∙ ap (λ z. ending z None) (sym (append-nil found)))

  more_told : (found x : List A) (front back u : List Tok) (a : Ending A B) → u ≡ front ++ back → Turn front x → Told (found ++ x) back a → Told found u a
  more_told found x front back u a cut t w = (
    x ∷ w.0,
    front ++ w.1,
    w.2,
    w.3,
    cut ∙ ap (λ z. front ++ z) w.4 ∙ sym (append_assoc front w.1 w.2),
    (front, w.1, refl, t, w.5),
    w.6,
    w.7 ∙ ap (λ z. ending z w.3) (append_assoc found x (joined w.0)),
  )

  last_told : (found : List A) (u back end_ : List Tok) (a : Ending A B) (s : Splits B (Ending A B) Last (λ y. Pure (after_last found y)) u a) → Told found u a
  last_told found u back end_ a s = (
    [],
    [],
    u,
    Some s.value,
    refl,
    refl,
    inl (record { front = s.front; back = s.back; value = s.value; cut = s.cut; first = s.first; second = (s.second.0, refl) }),
    s.second.1 ∙ ap (λ z. ending z (Some s.value)) (sym (append-nil found)),
  )

  told : (n : ℕ) (found : List A) (u : List Tok) (a : Ending A B) → At n found u a → Told found u a
  told zero found u a w = none_told found u a w.0 w.1
  told (suc n) found u a (inl s) = more_told found s.value s.front s.back u a s.cut (inl s.first) (told n (found ++ s.value) s.back a s.second)
  told (suc n) found u a (inr (inr w)) = none_told found u a w.0 w.1
  told (suc n) found u a (inr (inl s)) = go s.second (λ x v w. told n (found ++ x) v a w)
    where
      go : Either (Splits (List A) (Ending A B) (O s.value) (λ x. At n (found ++ x))) (Splits B (Ending A B) (L s.value) (λ y. Pure (after_last found y))) s.back a
          → ((x : List A) (v : List Tok) → At n (found ++ x) v a → Told (found ++ x) v a) → Told found u a
      go (inl t) ih =
          more_told found t.value (s.front ++ t.front) t.back u a (s.cut ∙ ap (λ z. s.front ++ z) t.cut ∙ sym (append_assoc s.front t.front t.back))
          (inr (record { front = s.front; back = t.front; value = s.value; cut = refl; first = s.first; second = t.first }))
          (ih t.value t.back t.second)
      go (inr t) ih =
          last_told found u [] [] a
          (record {
            front = s.front ++ t.front;
            back = t.back;
            value = t.value;
            cut = s.cut ∙ ap (λ z. s.front ++ z) t.cut ∙ sym (append_assoc s.front t.front t.back);
            first = record { front = s.front; back = t.front; value = s.value; cut = refl; first = s.first; second = t.first };
            second = t.second;
          })

  takes : (front : List Tok) (x : List A) → Turn front x → front ≡ [] → ⊥
  takes front x (inl t) e = takes_turn front x t e
  takes front x (inr s) e = takes_head s.front s.value s.first (empty s.front s.back (sym s.cut ∙ e))
    where
      empty : (xs ys : List Tok) → xs ++ ys ≡ [] → xs ≡ []
      empty [] ys d = refl
      empty (t ∷ xs) ys d = absurd (cc)

  one_more : (n : ℕ) (found x : List A) (front back u : List Tok) (a : Ending A B) → u ≡ front ++ back → Turn front x → At n (found ++ x) back a → At (suc n) found u a
  one_more n found x front back u a cut (inl t) w = inl (record { front = front; back = back; value = x; cut = cut; first = t; second = w })
  one_more n found x front back u a cut (inr s) w =
      inr (inl (record {
        front = s.front;
        back = s.back ++ back;
        value = s.value;
        cut = cut ∙ ap (λ z. z ++ back) s.cut ∙ append_assoc s.front s.back back;
        first = s.first;
        second = inl (record { front = s.back; back = back; value = x; cut = refl; first = s.second; second = w });
      }))

  at_last : (n : ℕ) (found : List A) (u : List Tok) (y : Option B) → Optional Last u y → length u ≤ n → At n found u (ending found y)
  at_last zero found u y (inr w) len = (w.0, ap (λ z. ending found z) w.1)
  at_last (suc n) found u y (inr w) len = inr (inr (w.0, ap (λ z. ending found z) w.1))
  at_last zero found u y (inl s) len = absurd (takes_head s.first.front s.first.value s.first.first (no_length s.first.front (omega (arith, ap length s.cut, length-append s.front s.back, ap length s.first.cut, length-append s.first.front s.first.back, len))))
  at_last (suc n) found u y (inl s) len =
      inr (inl (record {
        front = s.first.front;
        back = s.first.back ++ s.back;
        value = s.first.value;
        cut = s.cut ∙ ap (λ z. z ++ s.back) s.first.cut ∙ append_assoc s.first.front s.first.back s.back;
        first = s.first.first;
        second = inr (record { front = s.first.back; back = s.back; value = s.value; cut = refl; first = s.first.second; second = (s.second.0, ap (λ z. ending found z) s.second.1) });
      }))

  within_bound : (turns : List (List A)) (n : ℕ) (found : List A) (u front back : List Tok) (y : Option B) → u ≡ front ++ back → Turns Turn front turns → Optional Last back y → length u ≤ n
      → At n found u (ending (found ++ joined turns) y)
  within_bound [] n found u front back y cut t l len =
      let same : u ≡ back = cut ∙ ap (λ z. z ++ back) t in
      subst (λ z. At n found u (ending z y)) (sym (append-nil found)) (at_last n found u y (subst (λ z. Optional Last z y) (sym same) l) len)
  within_bound (x ∷ turns) zero found u front back y cut t l len =
      absurd (takes t.0 x t.3 (no_length t.0 (omega (arith, ap length cut, length-append front back, ap length t.2, length-append t.0 t.1, len))))
  within_bound (x ∷ turns) (suc n) found u front back y cut t l len =
      let whole : u ≡ t.0 ++ (t.1 ++ back) = cut ∙ ap (λ z. z ++ back) t.2 ∙ append_assoc t.0 t.1 back in
      let less = shorter t.0 (t.1 ++ back) u whole (takes t.0 x t.3) in
      one_more n found x t.0 (t.1 ++ back) u (ending (found ++ joined (x ∷ turns)) y) whole t.3
      (subst (λ z. At n (found ++ x) (t.1 ++ back) (ending z y)) (append_assoc found x (joined turns))
      (within_bound turns n (found ++ x) (t.1 ++ back) t.1 back y refl t.4 l (omega arith)))

  abbrev p : Parser (Ending A B)
  p = ended ft fh fo pt ph po pl

  abbrev R : Rule (Ending A B)
  R = Ended Turn Last

  row : (u : List Tok) (a : Ending A B) → Told [] u a → R u a
  row u a w = record {
    front = w.1;
    back = w.2;
    value = joined w.0;
    cut = w.4;
    first = (w.0, w.5, refl);
    second = record { front = w.2; back = []; value = w.3; cut = sym (append-nil w.2); first = w.6; second = (refl, w.7) };
  }

  bounded : (n : ℕ) (u : List Tok) (a : Ending A B) → R u a → length u ≤ n → At n [] u a
  bounded n u a s len =
      let more = s.second in
      let cut : u ≡ s.front ++ more.front = s.cut ∙ ap (λ z. s.front ++ z) (more.cut ∙ ap (λ z. more.front ++ z) more.second.0 ∙ append-nil more.front) in
      let same : ending (joined s.first.0) more.value ≡ a = ap (λ z. ending z more.value) (sym s.first.2) ∙ sym more.second.1 in
      subst (λ z. At n [] u z) same (within_bound s.first.0 n [] u s.front more.front more.value cut s.first.1 more.first len)

  ended_ok : (ts rest : List Tok) (a : Ending A B) → p ts ≡ Ok (a, rest) → ReadsOk (Ending A B) R p ts rest a
  unfolding ended
  ended_ok ts rest a e =
      let x = (good_at (length ts) []).meets.ok ts rest a e in
      record { front = x.front; cut = x.cut; spells = row x.front a (told (length ts) [] x.front a x.spells); local = at x.front x.cut }
    where
      at : (front : List Tok) → ts ≡ front ++ rest → (other : List Tok) → next other ≡ next rest → from (length (front ++ other)) [] (front ++ other) ≡ Ok (a, other)
      at front cut other l =
          let big : ℕ = length ts + length (front ++ other) in
          let x = (good_at big []).meets.ok ts rest a (sym (agree (length ts) big [] ts (omega arith) (omega arith)) ∙ e) in
          let same = same_front x.front front rest (sym x.cut ∙ cut) in
          agree (length (front ++ other)) big [] (front ++ other) (omega arith) (omega arith) ∙ ap (λ z. from big [] (z ++ other)) (sym same) ∙ x.local other l

  ended_fault : (ts rest : List Tok) → p ts ≡ Err rest → Faults (Ending A B) R p ts rest
  unfolding ended
  ended_fault ts rest e =
      let x = (good_at (length ts) []).meets.fault ts rest e in
      record { front = x.front; cut = x.cut; viable = begun_ x.front x.viable; local = at x.front x.cut }
    where
      begun_ : (front : List Tok) → (front ≡ []) ⊎ Begins (At (length ts) []) front → (front ≡ []) ⊎ Begins R front
      begun_ front (inl n) = inl n
      begun_ front (inr b) = inr (b.0, b.1, row (front ++ b.0) b.1 (told (length ts) [] (front ++ b.0) b.1 b.2))

      at : (front : List Tok) → ts ≡ front ++ rest → (other : List Tok) → next other ≡ next rest → from (length (front ++ other)) [] (front ++ other) ≡ Err other
      at front cut other l =
          let big : ℕ = length ts + length (front ++ other) in
          let x = (good_at big []).meets.fault ts rest (sym (agree (length ts) big [] ts (omega arith) (omega arith)) ∙ e) in
          let same = same_front x.front front rest (sym x.cut ∙ cut) in
          agree (length (front ++ other)) big [] (front ++ other) (omega arith) (omega arith) ∙ ap (λ z. from big [] (z ++ other)) (sym same) ∙ x.local other l

  ended_all : (u rest : List Tok) (a : Ending A B) → R u a → stop_ (next rest) ≡ true → p (u ++ rest) ≡ Ok (a, rest)
  unfolding ended
  ended_all u rest a w e = (good_at (length (u ++ rest)) []).meets.all u rest a (bounded (length (u ++ rest)) u a w (omega (arith, length-append u rest))) e

  pub ended_by : Good (Ending A B) R true begin_ stop_ p
  ended_by = record {
    meets = record {
      ok = ended_ok;
      fault = ended_fault;
      all = ended_all;
      ahead = λ u rest a w. (good_at (length u) []).meets.ahead u rest a (bounded (length u) u a w (omega arith));
    };
    some = record { tokens = []; value = ending [] None; spells = row [] (ending [] None) (none_told [] [] (ending [] None) refl refl) };
  }
