-- What it is that a parser reads a rule with one token ahead, and that each way of making a rule keeps it.
use Rattle.std.proofs.Common.{◌≡◌, Bool, true, false, ◌&&◌, ◌||◌, not, ◌⊎◌, inl, inr, List, [], ◌∷◌, ◌++◌, Result, Ok, Err, cond, refl, sym, ap, ◌∙◌, append_assoc, subst}
use Rattle.grammar_rules.specs.declared.word.Word.{Word}
use Rattle.grammar_rules.specs.declared.word.Word.TheVariants.{End}
use Rattle.brs_tokens.specs.Tok.{Tok}
use Rattle.grammar_rules.specs.Words.{next, word_of}
use Rattle.grammar_rules.specs.Rules.{Rule, One, Pure, Never, Splits, Either, Begins}
use Rattle.grammar_rules.specs.Rules as rule
use Rattle.grammar_rules.specs.Reading.{Outcome, Parser, and_then, pure, refuse, one, choose}
use Rattle.grammar_rules.specs.Reading as reading
use Rattle.grammar_rules.proofs.Lists.{bind_ok, bind_err, chosen, next_along, choose_first, choose_second, and_parts, and_both, or_first, or_second, implied, not_true, done, stopped, ok_parts}

-- a word was read, and it would be so whatever comes behind the next token
pub record ReadsOk (A : Type 0) (r : List Tok → A → Type 0) (p : List Tok → Result (A × List Tok) (List Tok)) (ts rest : List Tok) (a : A) : Type 0 where
  pub front : List Tok
  pub cut : ts ≡ front ++ rest
  pub spells : r front a
  pub local : (other : List Tok) → next other ≡ next rest → p (front ++ other) ≡ Ok (a, other)

-- reading stopped at the rest, whatever comes behind its first token, and what it passed may become a word
pub record Faults (A : Type 0) (r : List Tok → A → Type 0) (p : List Tok → Result (A × List Tok) (List Tok)) (ts rest : List Tok) : Type 0 where
  pub front : List Tok
  pub cut : ts ≡ front ++ rest
  pub viable : (front ≡ []) ⊎ Begins r front
  pub local : (other : List Tok) → next other ≡ next rest → p (front ++ other) ≡ Err other

abbrev pub Words : Type 0
Words = Word → Bool

-- `begins` has the words that a word of the rule can begin with, `stops` those before which it ends; `null` says whether it may be empty
pub record Meets (A : Type 0) (r : List Tok → A → Type 0) (null : Bool) (begins stops : Word → Bool) (p : List Tok → Result (A × List Tok) (List Tok)) : Type 0 where
  pub ok : (ts rest : List Tok) (a : A) → p ts ≡ Ok (a, rest) → ReadsOk A r p ts rest a
  pub fault : (ts rest : List Tok) → p ts ≡ Err rest → Faults A r p ts rest
  pub all : (u rest : List Tok) (a : A) → r u a → stops (next rest) ≡ true → p (u ++ rest) ≡ Ok (a, rest)
  pub ahead : (u rest : List Tok) (a : A) → r u a → (begins (next (u ++ rest)) ≡ true) ⊎ ((null ≡ true) × (u ≡ []))

pub record HasWord (A : Type 0) (r : List Tok → A → Type 0) : Type 0 where
  pub tokens : List Tok
  pub value : A
  pub spells : r tokens value

pub begun : {A : Type 0} (r : Rule A) (front : List Tok) → HasWord A r → (front ≡ []) ⊎ Begins r front → Begins r front
begun r front some (inl e) = (some.tokens, some.value, subst (λ z. r (z ++ some.tokens) some.value) (sym e) some.spells)
begun r front some (inr b) = b

-- ---- one after another

abbrev pub begins_then : Bool → Words → Words → Words
begins_then n f g w = f w || (n && g w)

abbrev pub stops_then : Bool → Words → Words → Words
stops_then m h k w = k w && (not m || h w)

module _ (A B : Type 0) (r : Rule A) (s : A → Rule B) (p : Parser A) (q : A → Parser B) (n m : Bool) (f g h k : Words)
    (first : Meets A r n f h p) (second : (a : A) → Meets B (s a) m g k (q a))
    (some : (a : A) → HasWord B (s a)) (apart : (w : Word) → g w ≡ true → h w ≡ true) where
  abbrev R : Rule B
  R = rule.◌>>=◌ r s

  abbrev P : Parser B
  P = reading.◌>>=◌ p q

  -- reading goes on behind a first word
  behind : (ts rest mid : List Tok) (a : A) (x : ReadsOk A r p ts mid a) (back : List Tok) → mid ≡ back ++ rest
      → (other : List Tok) → next other ≡ next rest → P ((x.front ++ back) ++ other) ≡ q a (back ++ other)
  behind ts rest mid a x back cut other e =
      ap P (append_assoc x.front back other)
      ∙ ap (λ o. and_then o q) (x.local (back ++ other) (next_along back other rest e ∙ ap next (sym cut)))

  whole : (ts rest mid back : List Tok) (a : A) (x : ReadsOk A r p ts mid a) → mid ≡ back ++ rest → ts ≡ (x.front ++ back) ++ rest
  whole ts rest mid back a x e = x.cut ∙ ap (λ z. x.front ++ z) e ∙ sym (append_assoc x.front back rest)

  then_ok : (ts rest : List Tok) (b : B) → P ts ≡ Ok (b, rest) → ReadsOk B R P ts rest b
  then_ok ts rest b e = go (bind_ok (p ts) q (b, rest) e)
    where
      go : (x : A × List Tok) × (p ts ≡ Ok x) × (q x.0 x.1 ≡ Ok (b, rest)) → ReadsOk B R P ts rest b
      go x =
          let one_ = first.ok ts x.0.1 x.0.0 x.1 in
          let two = (second x.0.0).ok x.0.1 rest b x.2 in
          record {
            front = one_.front ++ two.front;
            cut = whole ts rest x.0.1 two.front x.0.0 one_ two.cut;
            spells = record { front = one_.front; back = two.front; value = x.0.0; cut = refl; first = one_.spells; second = two.spells };
            local = λ other l. behind ts rest x.0.1 x.0.0 one_ two.front two.cut other l ∙ two.local other l;
          }

  then_fault : (ts rest : List Tok) → P ts ≡ Err rest → Faults B R P ts rest
  then_fault ts rest e = go (bind_err (p ts) q rest e)
    where
      go : (p ts ≡ Err rest) ⊎ ((x : A × List Tok) × (p ts ≡ Ok x) × (q x.0 x.1 ≡ Err rest)) → Faults B R P ts rest
      go (inl d) =
          let x = first.fault ts rest d in
          record {
            front = x.front;
            cut = x.cut;
            viable = longer x.front x.viable;
            local = λ other l. ap (λ o. and_then o q) (x.local other l);
          }
        where
          longer : (front : List Tok) → (front ≡ []) ⊎ Begins r front → (front ≡ []) ⊎ Begins R front
          longer front (inl none) = inl none
          longer front (inr (more, a, spells)) =
              inr (more ++ (some a).tokens, (some a).value, record { front = front ++ more; back = (some a).tokens; value = a; cut = sym (append_assoc front more (some a).tokens); first = spells; second = (some a).spells })
      go (inr x) =
          let one_ = first.ok ts x.0.1 x.0.0 x.1 in
          let two = (second x.0.0).fault x.0.1 rest x.2 in
          let b = begun (s x.0.0) two.front (some x.0.0) two.viable in
          record {
            front = one_.front ++ two.front;
            cut = whole ts rest x.0.1 two.front x.0.0 one_ two.cut;
            viable = inr (b.0, b.1, record { front = one_.front; back = two.front ++ b.0; value = x.0.0; cut = append_assoc one_.front two.front b.0; first = one_.spells; second = b.2 });
            local = λ other l. behind ts rest x.0.1 x.0.0 one_ two.front two.cut other l ∙ two.local other l;
          }

  then_all : (u rest : List Tok) (b : B) → R u b → stops_then m h k (next rest) ≡ true → P (u ++ rest) ≡ Ok (b, rest)
  then_all u rest b z e =
      let stop = and_parts (k (next rest)) (not m || h (next rest)) e in
      ap (λ w. P (w ++ rest)) z.cut
      ∙ ap P (append_assoc z.front z.back rest)
      ∙ ap (λ o. and_then o q) (first.all z.front (z.back ++ rest) z.value z.first (may_stop (second z.value).ahead stop.1))
      ∙ (second z.value).all z.back rest b z.second stop.0
    where
      may_stop : ((v rest : List Tok) (b : B) → s z.value v b → (g (next (v ++ rest)) ≡ true) ⊎ ((m ≡ true) × (v ≡ []))) → (not m || h (next rest)) ≡ true → h (next (z.back ++ rest)) ≡ true
      may_stop ahead stop = go (ahead z.back rest b z.second)
        where
          go : (g (next (z.back ++ rest)) ≡ true) ⊎ ((m ≡ true) × (z.back ≡ [])) → h (next (z.back ++ rest)) ≡ true
          go (inl t) = apart (next (z.back ++ rest)) t
          go (inr (t, none)) = ap (λ v. h (next (v ++ rest))) none ∙ implied m (h (next rest)) stop t

  then_ahead : (u rest : List Tok) (b : B) → R u b → (begins_then n f g (next (u ++ rest)) ≡ true) ⊎ (((n && m) ≡ true) × (u ≡ []))
  then_ahead u rest b z = go (first.ahead z.front (z.back ++ rest) z.value z.first) ((second z.value).ahead z.back rest b z.second)
    where
      same : u ++ rest ≡ z.front ++ (z.back ++ rest)
      same = ap (λ w. w ++ rest) z.cut ∙ append_assoc z.front z.back rest

      go : (f (next (z.front ++ (z.back ++ rest))) ≡ true) ⊎ ((n ≡ true) × (z.front ≡ [])) → (g (next (z.back ++ rest)) ≡ true) ⊎ ((m ≡ true) × (z.back ≡ []))
          → (begins_then n f g (next (u ++ rest)) ≡ true) ⊎ (((n && m) ≡ true) × (u ≡ []))
      go (inl t) _ = inl (or_first (f (next (u ++ rest))) (n && g (next (u ++ rest))) (ap (λ w. f (next w)) same ∙ t))
      go (inr (t, none)) (inl v) = inl (or_second (f (next (u ++ rest))) (n && g (next (u ++ rest))) (and_both n (g (next (u ++ rest))) t (ap (λ w. g (next w)) (same ∙ ap (λ w. w ++ (z.back ++ rest)) none) ∙ v)))
      go (inr (t, none)) (inr (v, none')) = inr (and_both n m t v, z.cut ∙ ap (λ w. w ++ z.back) none ∙ none')

  pub then_meets : Meets B R (n && m) (begins_then n f g) (stops_then m h k) P
  then_meets = record { ok = then_ok; fault = then_fault; all = then_all; ahead = then_ahead }

-- ---- one token, none, nothing

one_ok : (test : Words) (ts rest : List Tok) (a : Tok) → one test ts ≡ Ok (a, rest) → ReadsOk Tok (One test) (one test) ts rest a
unfolding one
one_ok test [] rest a e = absurd (cc)
one_ok test (t ∷ ts) rest a e = go (chosen (test (word_of t)) (Ok (t, ts)) (Err (t ∷ ts)) (Ok (a, rest)) e)
  where
    go : ((test (word_of t) ≡ true) × (done t ts ≡ done a rest)) ⊎ ((test (word_of t) ≡ false) × (stopped (t ∷ ts) ≡ done a rest)) → ReadsOk Tok (One test) (one test) (t ∷ ts) rest a
    go (inl (y, d)) =
        let same : t ≡ a = (ok_parts t a ts rest d).0 in
        let cut : ts ≡ rest = (ok_parts t a ts rest d).1 in
        record {
          front = t ∷ [];
          cut = ap (λ z. t ∷ z) cut;
          spells = (ap (λ z. z ∷ []) same, ap (λ z. test (word_of z)) (sym same) ∙ y);
          local = λ other l. ap (λ b. cond b (Ok (t, other)) (Err (t ∷ other))) y ∙ ap (λ z. Ok (z, other)) same;
        }
    go (inr (y, d)) = absurd (cc)

one_local : (test : Words) (t : Tok) (ts other : List Tok) → test (word_of t) ≡ false → next other ≡ (word_of t) → one test other ≡ Err other
unfolding one
one_local test t ts [] y e = refl
one_local test t ts (o ∷ other) y e = ap (λ b. cond b (Ok (o, other)) (Err (o ∷ other))) (ap test e ∙ y)

one_fault : (test : Words) (ts rest : List Tok) → test End ≡ false → one test ts ≡ Err rest → Faults Tok (One test) (one test) ts rest
unfolding one
one_fault test [] rest n e = go rest cc
  where
    nothing : (o : List Tok) → next o ≡ End → one test o ≡ Err o
    nothing [] l = refl
    nothing (o ∷ os) l = ap (λ b. cond b (Ok (o, os)) (Err (o ∷ os))) (ap test l ∙ n)

    go : (z : List Tok) → [] ≡ z → Faults Tok (One test) (one test) [] z
    go z d = record { front = []; cut = d; viable = inl refl; local = λ other l. nothing other (l ∙ ap next (sym d)) }
one_fault test (t ∷ ts) rest n e = go (chosen (test (word_of t)) (Ok (t, ts)) (Err (t ∷ ts)) (Err rest) e)
  where
    go : ((test (word_of t) ≡ true) × (done t ts ≡ stopped rest)) ⊎ ((test (word_of t) ≡ false) × (stopped {A = Tok} (t ∷ ts) ≡ stopped rest)) → Faults Tok (One test) (one test) (t ∷ ts) rest
    go (inl (y, d)) = absurd (cc)
    go (inr (y, d)) =
        let cut : t ∷ ts ≡ rest = cc in
        record { front = []; cut = cut; viable = inl refl; local = λ other l. one_local test t ts other y (l ∙ ap next (sym cut)) }

one_all : (test : Words) (u rest : List Tok) (a : Tok) → One test u a → one test (u ++ rest) ≡ Ok (a, rest)
unfolding one
one_all test u rest a e = ap (λ z. one test (z ++ rest)) e.0 ∙ ap (λ b. cond b (Ok (a, rest)) (Err (a ∷ rest))) e.1

pub one_meets : (test : Words) → test End ≡ false → Meets Tok (One test) false test (λ w. true) (one test)
one_meets test n = record {
  ok = one_ok test;
  fault = λ ts rest e. one_fault test ts rest n e;
  all = λ u rest a e y. one_all test u rest a e;
  ahead = λ u rest a e. inl (ap (λ z. test (next (z ++ rest))) e.0 ∙ e.1);
}

pub pure_meets : (A : Type 0) (a : A) → Meets A (Pure a) true (λ w. false) (λ w. true) (pure a)
pure_meets A a = record {
  ok = λ ts rest b e. let cut : ts ≡ rest = (ok_parts a b ts rest e).1 in let same : a ≡ b = (ok_parts a b ts rest e).0 in record { front = []; cut = cut; spells = (refl, sym same); local = λ other l. ap (λ z. Ok (z, other)) same };
  fault = λ ts rest e. absurd (cc);
  all = λ u rest b e y. ap (λ z. Ok (a, z ++ rest)) e.0 ∙ ap (λ z. Ok (z, rest)) (sym e.1);
  ahead = λ u rest b e. inr (refl, e.0);
}

pub never_meets : (A : Type 0) (n : Bool) (f h : Words) → Meets A Never n f h refuse
never_meets A n f h = record {
  ok = λ ts rest b e. absurd (cc);
  fault = λ ts rest e. let cut : ts ≡ rest = cc in record { front = []; cut = cut; viable = inl refl; local = λ other l. refl };
  all = λ u rest b e y. absurd e;
  ahead = λ u rest b e. absurd e;
}

-- the same with more words to begin with, and fewer to stop at
pub widen : {A : Type 0} {r : List Tok → A → Type 0} {p : List Tok → Result (A × List Tok) (List Tok)} {n : Bool} (f h f' h' : Words)
    → Meets A r n f h p → ((w : Word) → f w ≡ true → f' w ≡ true) → ((w : Word) → h' w ≡ true → h w ≡ true) → Meets A r n f' h' p
widen f h f' h' x more fewer = record {
  ok = x.ok;
  fault = x.fault;
  all = λ u rest a e y. x.all u rest a e (fewer (next rest) y);
  ahead = λ u rest a e. go (x.ahead u rest a e);
}
  where
    go : {N U : Type 0} {w : Word} → (f w ≡ true) ⊎ (N × U) → (f' w ≡ true) ⊎ (N × U)
    go (inl t) = inl (more _ t)
    go (inr t) = inr t

-- ---- one of two

abbrev pub stops_either : Bool → Words → Words → Words → Words
stops_either m f h k w = h w && (k w && (not m || not (f w)))

abbrev pub begins_either : Words → Words → Words
begins_either f g w = f w || g w

module _ (A : Type 0) (r s : Rule A) (p q : Parser A) (m : Bool) (f g h k : Words)
    (first : Meets A r false f h p) (second : Meets A s m g k q) (apart : (w : Word) → g w ≡ true → f w ≡ false) where
  abbrev E : Rule A
  E = Either r s

  abbrev C : Parser A
  C = choose f p q

  either_ok : (ts rest : List Tok) (a : A) → C ts ≡ Ok (a, rest) → ReadsOk A E C ts rest a
  either_ok ts rest a e = go (chosen (f (next ts)) (p ts) (q ts) (Ok (a, rest)) e)
    where
      go : ((f (next ts) ≡ true) × (p ts ≡ Ok (a, rest))) ⊎ ((f (next ts) ≡ false) × (q ts ≡ Ok (a, rest))) → ReadsOk A E C ts rest a
      go (inl (y, d)) =
          let x = first.ok ts rest a d in
          record {
            front = x.front;
            cut = x.cut;
            spells = inl x.spells;
            local = λ other l. choose_first f p q (x.front ++ other) (ap f (next_along x.front other rest l ∙ ap next (sym x.cut)) ∙ y) ∙ x.local other l;
          }
      go (inr (y, d)) =
          let x = second.ok ts rest a d in
          record {
            front = x.front;
            cut = x.cut;
            spells = inr x.spells;
            local = λ other l. choose_second f p q (x.front ++ other) (ap f (next_along x.front other rest l ∙ ap next (sym x.cut)) ∙ y) ∙ x.local other l;
          }

  either_fault : (ts rest : List Tok) → C ts ≡ Err rest → Faults A E C ts rest
  either_fault ts rest e = go (chosen (f (next ts)) (p ts) (q ts) (Err rest) e)
    where
      left : (front : List Tok) → (front ≡ []) ⊎ Begins r front → (front ≡ []) ⊎ Begins E front
      left front (inl n) = inl n
      left front (inr b) = inr (b.0, b.1, inl b.2)

      right : (front : List Tok) → (front ≡ []) ⊎ Begins s front → (front ≡ []) ⊎ Begins E front
      right front (inl n) = inl n
      right front (inr b) = inr (b.0, b.1, inr b.2)

      go : ((f (next ts) ≡ true) × (p ts ≡ Err rest)) ⊎ ((f (next ts) ≡ false) × (q ts ≡ Err rest)) → Faults A E C ts rest
      go (inl (y, d)) =
          let x = first.fault ts rest d in
          record {
            front = x.front;
            cut = x.cut;
            viable = left x.front x.viable;
            local = λ other l. choose_first f p q (x.front ++ other) (ap f (next_along x.front other rest l ∙ ap next (sym x.cut)) ∙ y) ∙ x.local other l;
          }
      go (inr (y, d)) =
          let x = second.fault ts rest d in
          record {
            front = x.front;
            cut = x.cut;
            viable = right x.front x.viable;
            local = λ other l. choose_second f p q (x.front ++ other) (ap f (next_along x.front other rest l ∙ ap next (sym x.cut)) ∙ y) ∙ x.local other l;
          }

  either_all : (u rest : List Tok) (a : A) → E u a → stops_either m f h k (next rest) ≡ true → C (u ++ rest) ≡ Ok (a, rest)
  either_all u rest a (inl x) e = go (first.ahead u rest a x)
    where
      go : (f (next (u ++ rest)) ≡ true) ⊎ ((false ≡ true) × (u ≡ [])) → C (u ++ rest) ≡ Ok (a, rest)
      go (inl t) = choose_first f p q (u ++ rest) t ∙ first.all u rest a x (and_parts (h (next rest)) _ e).0
      go (inr n) = absurd (let d : false ≡ true = n.0 in cc)
  either_all u rest a (inr x) e = go (second.ahead u rest a x)
    where
      parts : (k (next rest) ≡ true) × ((not m || not (f (next rest))) ≡ true)
      parts = and_parts (k (next rest)) _ (and_parts (h (next rest)) _ e).1

      go : (g (next (u ++ rest)) ≡ true) ⊎ ((m ≡ true) × (u ≡ [])) → C (u ++ rest) ≡ Ok (a, rest)
      go (inl t) = choose_second f p q (u ++ rest) (apart (next (u ++ rest)) t) ∙ second.all u rest a x parts.0
      go (inr n) = choose_second f p q (u ++ rest) (ap (λ z. f (next (z ++ rest))) n.1 ∙ not_true (f (next rest)) (implied m _ parts.1 n.0)) ∙ second.all u rest a x parts.0

  either_ahead : (u rest : List Tok) (a : A) → E u a → (begins_either f g (next (u ++ rest)) ≡ true) ⊎ ((m ≡ true) × (u ≡ []))
  either_ahead u rest a (inl x) = go (first.ahead u rest a x)
    where
      go : (f (next (u ++ rest)) ≡ true) ⊎ ((false ≡ true) × (u ≡ [])) → (begins_either f g (next (u ++ rest)) ≡ true) ⊎ ((m ≡ true) × (u ≡ []))
      go (inl t) = inl (or_first (f (next (u ++ rest))) (g (next (u ++ rest))) t)
      go (inr n) = absurd (let d : false ≡ true = n.0 in cc)
  either_ahead u rest a (inr x) = go (second.ahead u rest a x)
    where
      go : (g (next (u ++ rest)) ≡ true) ⊎ ((m ≡ true) × (u ≡ [])) → (begins_either f g (next (u ++ rest)) ≡ true) ⊎ ((m ≡ true) × (u ≡ []))
      go (inl t) = inl (or_second (f (next (u ++ rest))) (g (next (u ++ rest))) t)
      go (inr n) = inr n

  pub either_meets : Meets A E m (begins_either f g) (stops_either m f h k) C
  either_meets = record { ok = either_ok; fault = either_fault; all = either_all; ahead = either_ahead }
