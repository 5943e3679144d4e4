-- Turns one after another, read while the next token begins one.
use Rattle.std.proofs.Common.{◌≡◌, ℕ, zero, suc, ◌≤◌, true, false, ◌&&◌, not, ◌⊎◌, inl, inr, List, [], ◌∷◌, ◌++◌, length, length-append, Ok, Err, refl, sym, ap, ◌∙◌, append_assoc, append-nil, subst, arith}
use Rattle.grammar_rules.specs.declared.word.Word.{Word}
use Rattle.grammar_rules.specs.declared.word.Word.TheVariants.{End}
use Rattle.brs_tokens.specs.Tok.{Tok}
use Rattle.grammar_rules.specs.Words.{next}
use Rattle.grammar_rules.specs.Rules.{Rule, Turns, joined, Many, Begins}
use Rattle.grammar_rules.specs.Reading.{Outcome, Parser, and_then, pure, choose, many_from, many}
use Rattle.grammar_rules.specs.Reading as reading
use Rattle.grammar_rules.proofs.Lists.{bind_ok, bind_err, chosen, next_along, choose_first, choose_second, and_parts, not_true, done, stopped, ok_parts, shorter, no_length}
use Rattle.grammar_rules.proofs.Meets.{Meets, ReadsOk, Faults, Words}

abbrev pub stops_many : Words → Words → Words
stops_many f h w = h w && not (f w)

module _ (A : Type 0) (r : Rule (List A)) (p : Parser (List A)) (f h : Words)
    (turn : Meets (List A) r false f h p) (apart : (w : Word) → f w ≡ true → h w ≡ true) (ends : f End ≡ false) where
  abbrev from : ℕ → List A → Parser (List A)
  from = many_from f p

  -- no turn is empty
  takes : (front : List Tok) (x : List A) → r front x → front ≡ [] → ⊥
  takes front x spells none = go (turn.ahead front [] x spells)
    where
      go : (f (next (front ++ [])) ≡ true) ⊎ ((false ≡ true) × (front ≡ [])) → ⊥
      go (inl t) = let d : true ≡ false = sym t ∙ (ap (λ z. f (next (z ++ []))) none ∙ ends) in cc
      go (inr n) = let d : false ≡ true = n.0 in cc

  from_stop : (n : ℕ) (found : List A) (ts : List Tok) → f (next ts) ≡ false → from n found ts ≡ Ok (found, ts)
  unfolding many_from
  from_stop zero found ts e = refl
  from_stop (suc n) found ts e = choose_second f (reading.◌>>=◌ p (λ more. many_from f p n (found ++ more))) (pure found) ts e

  from_more : (n : ℕ) (found : List A) (ts : List Tok) → f (next ts) ≡ true → from (suc n) found ts ≡ and_then (p ts) (λ more. from n (found ++ more))
  unfolding many_from
  from_more n found ts e = choose_first f (reading.◌>>=◌ p (λ more. many_from f p n (found ++ more))) (pure found) ts e

  pub record TurnsOk (found : List A) (ts rest : List Tok) (all : List A) : Type 0 where
    pub front : List Tok
    pub cut : ts ≡ front ++ rest
    pub turns : List (List A)
    pub spells : Turns r front turns
    pub value : all ≡ found ++ joined turns
    pub local : (n : ℕ) (other : List Tok) → length (front ++ other) ≤ n → next other ≡ next rest → from n found (front ++ other) ≡ Ok (all, other)

  pub record TurnsFault (found : List A) (ts rest : List Tok) : Type 0 where
    pub front : List Tok
    pub cut : ts ≡ front ++ rest
    pub more : List Tok
    pub turns : List (List A)
    pub viable : Turns r (front ++ more) turns
    pub local : (n : ℕ) (other : List Tok) → length (front ++ other) ≤ n → next other ≡ next rest → from n found (front ++ other) ≡ Err other

  stop_ok : (found : List A) (ts rest : List Tok) (all : List A) → f (next ts) ≡ false → found ≡ all → ts ≡ rest → TurnsOk found ts rest all
  stop_ok found ts rest all e same cut = record {
    front = [];
    cut = cut;
    turns = [];
    spells = refl;
    value = sym same ∙ sym (append-nil found);
    local = λ n other _ l. from_stop n found other (ap f (l ∙ ap next (sym cut)) ∙ e) ∙ ap (λ z. Ok (z, other)) same;
  }

  -- one turn in front of others, at any fuel
  step : (n : ℕ) (found x : List A) (front back other rest mid : List Tok) → f (next (front ++ (back ++ other))) ≡ true
      → p (front ++ (back ++ other)) ≡ Ok (x, back ++ other) → from (suc n) found ((front ++ back) ++ other) ≡ from n (found ++ x) (back ++ other)
  step n found x front back other rest mid e d =
      ap (λ z. from (suc n) found z) (append_assoc front back other)
      ∙ from_more n found (front ++ (back ++ other)) e
      ∙ ap (λ o. and_then o (λ more. from n (found ++ more))) d

  nonzero : (n : ℕ) (front back other : List Tok) → length ((front ++ back) ++ other) ≤ n → (front ≡ [] → ⊥) → (m : ℕ) × (n ≡ suc m) × (length (back ++ other) ≤ m)
  nonzero n [] back other h t = absurd (t refl)
  nonzero zero (x ∷ front) back other h t = absurd (omega arith)
  nonzero (suc m) (x ∷ front) back other h t = (m, refl, omega (arith, h, length-append (front ++ back) other, length-append front back, length-append back other))

  after_ok : (found x all : List A) (ts mid rest : List Tok) → f (next ts) ≡ true → ReadsOk (List A) r p ts mid x → TurnsOk (found ++ x) mid rest all → TurnsOk found ts rest all
  after_ok found x all ts mid rest y one_ more = record {
    front = one_.front ++ more.front;
    cut = one_.cut ∙ ap (λ z. one_.front ++ z) more.cut ∙ sym (append_assoc one_.front more.front rest);
    turns = x ∷ more.turns;
    spells = (one_.front, more.front, refl, one_.spells, more.spells);
    value = more.value ∙ append_assoc found x (joined more.turns);
    local = λ n other len l.
        let m = nonzero n one_.front more.front other len (takes one_.front x one_.spells) in
        let mid_next : next (more.front ++ other) ≡ next mid = next_along more.front other rest l ∙ ap next (sym more.cut) in
        ap (λ z. from z found ((one_.front ++ more.front) ++ other)) m.1
        ∙ step m.0 found x one_.front more.front other rest mid (ap f (next_along one_.front (more.front ++ other) mid mid_next ∙ ap next (sym one_.cut)) ∙ y) (one_.local (more.front ++ other) mid_next)
        ∙ more.local m.0 other m.2 l;
  }

  abbrev OkAt : ℕ → Type 0
  OkAt n = (found : List A) (ts rest : List Tok) (all : List A) → length ts ≤ n → from n found ts ≡ Ok (all, rest) → TurnsOk found ts rest all

  abbrev FaultAt : ℕ → Type 0
  FaultAt n = (found : List A) (ts rest : List Tok) → length ts ≤ n → from n found ts ≡ Err rest → TurnsFault found ts rest

  more_ok : (n : ℕ) → OkAt n → (found : List A) (ts rest : List Tok) (all : List A) → length ts ≤ suc n → f (next ts) ≡ true
      → (x : List A × List Tok) × (p ts ≡ Ok x) × (from n (found ++ x.0) x.1 ≡ Ok (all, rest)) → TurnsOk found ts rest all
  more_ok n ih found ts rest all len y x =
      let one_ = turn.ok ts x.0.1 x.0.0 x.1 in
      let less = shorter one_.front x.0.1 ts one_.cut (takes one_.front x.0.0 one_.spells) in
      after_ok found x.0.0 all ts x.0.1 rest y one_ (ih (found ++ x.0.0) x.0.1 rest all (omega arith) x.2)

  step_ok : (n : ℕ) → OkAt n → OkAt (suc n)
  unfolding many_from
  step_ok n ih found ts rest all len e =
      go (chosen (f (next ts)) (and_then (p ts) (λ more. from n (found ++ more))) (done found ts) (done all rest) e)
    where
      go : ((f (next ts) ≡ true) × (and_then (p ts) (λ more. from n (found ++ more)) ≡ done all rest)) ⊎ ((f (next ts) ≡ false) × (done found ts ≡ done all rest)) → TurnsOk found ts rest all
      go (inl (y, d)) = more_ok n ih found ts rest all len y (bind_ok (p ts) (λ more. from n (found ++ more)) (all, rest) d)
      go (inr (y, d)) = let parts = ok_parts found all ts rest d in stop_ok found ts rest all y parts.0 parts.1

  from_ok : (n : ℕ) → OkAt n
  unfolding many_from
  from_ok zero found ts rest all len e =
      let none = no_length ts len in
      let parts = ok_parts found all ts rest e in
      stop_ok found ts rest all (ap (λ z. f (next z)) none ∙ ends) parts.0 parts.1
  from_ok (suc n) found ts rest all len e = step_ok n (from_ok n) found ts rest all len e

  -- a turn is refused
  here_fault : (found : List A) (ts rest : List Tok) → f (next ts) ≡ true → Faults (List A) r p ts rest → TurnsFault found ts rest
  here_fault found ts rest y x = go x.viable
    where
      at : (n : ℕ) (other : List Tok) → length (x.front ++ other) ≤ n → next other ≡ next rest → from n found (x.front ++ other) ≡ Err other
      at zero other len l = absurd (none (no_length (x.front ++ other) len))
        where
          none : x.front ++ other ≡ [] → ⊥
          none e = let d : true ≡ false = sym y ∙ (ap f (ap next x.cut ∙ (sym (next_along x.front other rest l) ∙ ap next e)) ∙ ends) in cc
      at (suc n) other len l =
          from_more n found (x.front ++ other) (ap f (next_along x.front other rest l ∙ ap next (sym x.cut)) ∙ y)
          ∙ ap (λ o. and_then o (λ more. from n (found ++ more))) (x.local other l)

      go : (x.front ≡ []) ⊎ Begins r x.front → TurnsFault found ts rest
      go (inl none) = record { front = x.front; cut = x.cut; more = []; turns = []; viable = append-nil x.front ∙ none; local = at }
      go (inr b) = record { front = x.front; cut = x.cut; more = b.0; turns = b.1 ∷ []; viable = (x.front ++ b.0, [], sym (append-nil (x.front ++ b.0)), b.2, refl); local = at }

  after_fault : (found x : List A) (ts mid rest : List Tok) → f (next ts) ≡ true → ReadsOk (List A) r p ts mid x → TurnsFault (found ++ x) mid rest → TurnsFault found ts rest
  after_fault found x ts mid rest y one_ more = record {
    front = one_.front ++ more.front;
    cut = one_.cut ∙ ap (λ z. one_.front ++ z) more.cut ∙ sym (append_assoc one_.front more.front rest);
    more = more.more;
    turns = x ∷ more.turns;
    viable = (one_.front, more.front ++ more.more, append_assoc one_.front more.front more.more, one_.spells, more.viable);
    local = λ n other len l.
        let m = nonzero n one_.front more.front other len (takes one_.front x one_.spells) in
        let mid_next : next (more.front ++ other) ≡ next mid = next_along more.front other rest l ∙ ap next (sym more.cut) in
        ap (λ z. from z found ((one_.front ++ more.front) ++ other)) m.1
        ∙ step m.0 found x one_.front more.front other rest mid (ap f (next_along one_.front (more.front ++ other) mid mid_next ∙ ap next (sym one_.cut)) ∙ y) (one_.local (more.front ++ other) mid_next)
        ∙ more.local m.0 other m.2 l;
  }

  more_fault : (n : ℕ) → FaultAt n → (found : List A) (ts rest : List Tok) → length ts ≤ suc n → f (next ts) ≡ true
      → (p ts ≡ Err rest) ⊎ ((x : List A × List Tok) × (p ts ≡ Ok x) × (from n (found ++ x.0) x.1 ≡ Err rest)) → TurnsFault found ts rest
  more_fault n ih found ts rest len y (inl d) = here_fault found ts rest y (turn.fault ts rest d)
  more_fault n ih found ts rest len y (inr x) =
      let one_ = turn.ok ts x.0.1 x.0.0 x.1 in
      let less = shorter one_.front x.0.1 ts one_.cut (takes one_.front x.0.0 one_.spells) in
      after_fault found x.0.0 ts x.0.1 rest y one_ (ih (found ++ x.0.0) x.0.1 rest (omega arith) x.2)

  step_fault : (n : ℕ) → FaultAt n → FaultAt (suc n)
  unfolding many_from
  step_fault n ih found ts rest len e =
      go (chosen (f (next ts)) (and_then (p ts) (λ more. from n (found ++ more))) (done found ts) (stopped rest) e)
    where
      go : ((f (next ts) ≡ true) × (and_then (p ts) (λ more. from n (found ++ more)) ≡ stopped rest)) ⊎ ((f (next ts) ≡ false) × (done found ts ≡ stopped rest)) → TurnsFault found ts rest
      go (inl (y, d)) = more_fault n ih found ts rest len y (bind_err (p ts) (λ more. from n (found ++ more)) rest d)
      go (inr (y, d)) = absurd (cc)

  from_fault : (n : ℕ) → FaultAt n
  unfolding many_from
  from_fault zero found ts rest len e = absurd (cc)
  from_fault (suc n) found ts rest len e = step_fault n (from_fault n) found ts rest len e

  -- what turns spell is read, where the next token may stop them
  from_all : (turns : List (List A)) (n : ℕ) (found : List A) (u rest : List Tok) → Turns r u turns → length (u ++ rest) ≤ n
      → h (next rest) ≡ true → f (next rest) ≡ false → from n found (u ++ rest) ≡ Ok (found ++ joined turns, rest)
  from_all [] n found u rest e len stop not_f = ap (λ z. from n found (z ++ rest)) e ∙ from_stop n found rest not_f ∙ ap (λ z. Ok (z, rest)) (sym (append-nil found))
  from_all (x ∷ turns) n found u rest t len stop not_f =
      let front = t.0 in
      let back = t.1 in
      let m = nonzero n front back rest (subst (λ z. length (z ++ rest) ≤ n) t.2 len) (takes front x t.3) in
      ap (λ z. from n found (z ++ rest)) t.2
      ∙ ap (λ z. from z found ((front ++ back) ++ rest)) m.1
      ∙ step m.0 found x front back rest rest rest (begun front x (back ++ rest) t.3) (turn.all front (back ++ rest) x t.3 (goes_on turns back t.4))
      ∙ from_all turns m.0 (found ++ x) back rest t.4 m.2 stop not_f
      ∙ ap (λ z. Ok (z, rest)) (append_assoc found x (joined turns))
    where
      begun : (front : List Tok) (x : List A) (behind : List Tok) → r front x → f (next (front ++ behind)) ≡ true
      begun front x behind s = go (turn.ahead front behind x s)
        where
          go : (f (next (front ++ behind)) ≡ true) ⊎ ((false ≡ true) × (front ≡ [])) → f (next (front ++ behind)) ≡ true
          go (inl t) = t
          go (inr n) = absurd (let d : false ≡ true = n.0 in cc)

      goes_on : (turns : List (List A)) (back : List Tok) → Turns r back turns → h (next (back ++ rest)) ≡ true
      goes_on [] back e = ap (λ z. h (next (z ++ rest))) e ∙ stop
      goes_on (y ∷ more) back w =
          ap (λ z. h (next (z ++ rest))) w.2 ∙ ap (λ z. h (next z)) (append_assoc w.0 w.1 rest) ∙ apart (next (w.0 ++ (w.1 ++ rest))) (begun w.0 y (w.1 ++ rest) w.3)

  many_ok : (ts rest : List Tok) (all : List A) → many f p ts ≡ Ok (all, rest) → ReadsOk (List A) (Many r) (many f p) ts rest all
  unfolding many
  many_ok ts rest all e =
      let x = from_ok (length ts) [] ts rest all (omega arith) e in
      record { front = x.front; cut = x.cut; spells = (x.turns, x.spells, x.value); local = λ other l. x.local (length (x.front ++ other)) other (omega arith) l }

  many_fault : (ts rest : List Tok) → many f p ts ≡ Err rest → Faults (List A) (Many r) (many f p) ts rest
  unfolding many
  many_fault ts rest e =
      let x = from_fault (length ts) [] ts rest (omega arith) e in
      record { front = x.front; cut = x.cut; viable = inr (x.more, joined x.turns, (x.turns, x.viable, refl)); local = λ other l. x.local (length (x.front ++ other)) other (omega arith) l }

  many_all : (u rest : List Tok) (all : List A) → Many r u all → stops_many f h (next rest) ≡ true → many f p (u ++ rest) ≡ Ok (all, rest)
  unfolding many
  many_all u rest all t e =
      let stop = and_parts (h (next rest)) _ e in
      from_all t.0 (length (u ++ rest)) [] u rest t.1 (omega arith) stop.0 (not_true (f (next rest)) stop.1) ∙ ap (λ z. Ok (z, rest)) (sym t.2)

  many_ahead : (u rest : List Tok) (all : List A) → Many r u all → (f (next (u ++ rest)) ≡ true) ⊎ ((true ≡ true) × (u ≡ []))
  many_ahead u rest all t = go t.0 t.1
    where
      go : (turns : List (List A)) → Turns r u turns → (f (next (u ++ rest)) ≡ true) ⊎ ((true ≡ true) × (u ≡ []))
      go [] e = inr (refl, e)
      go (x ∷ turns) w = inl (ap (λ z. f (next (z ++ rest))) w.2 ∙ ap (λ z. f (next z)) (append_assoc w.0 w.1 rest) ∙ at (turn.ahead w.0 (w.1 ++ rest) x w.3))
        where
          at : (f (next (w.0 ++ (w.1 ++ rest))) ≡ true) ⊎ ((false ≡ true) × (w.0 ≡ [])) → f (next (w.0 ++ (w.1 ++ rest))) ≡ true
          at (inl t) = t
          at (inr n) = absurd (let d : false ≡ true = n.0 in cc)

  pub many_meets : Meets (List A) (Many r) true f (stops_many f h) (many f p)
  many_meets = record { ok = many_ok; fault = many_fault; all = many_all; ahead = many_ahead }
