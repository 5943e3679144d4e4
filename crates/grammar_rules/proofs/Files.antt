-- A parser of whole lists answers the rule's value, or the first fault.
use Rattle.std.proofs.Common.{◌≡◌, ℕ, suc, ◌+◌, ◌-◌, ◌<◌, Bool, true, ◌⊎◌, inl, inr, List, [], ◌∷◌, ◌++◌, length, take, drop, length-append, Ok, Err, refl, sym, ap, ◌∙◌, append_assoc, append-nil, subst, arith}
use Rattle.std.proofs.lemmas.List.{take-append-drop, take-append-le, take_all, drop_all}
use Rattle.std.proofs.Math.Seq.{take-append-add}
use Rattle.grammar_rules.specs.declared.word.Word.{Word}
use Rattle.grammar_rules.specs.declared.word.Word.TheVariants.{End}
use Rattle.brs_tokens.specs.Tok.{Tok}
use Rattle.grammar_rules.specs.Words.{next}
use Rattle.grammar_rules.specs.Rules.{Rule, Begins}
use Rattle.grammar_rules.specs.Faults.{Goes, FirstFault}
use Rattle.grammar_rules.specs.Reading.{Parser, and_then, end, finish, whole}
use Rattle.grammar_rules.proofs.Lists.{bind_ok, bind_err, done, ok_parts, err_parts}
use Rattle.grammar_rules.proofs.Meets.{begun}
use Rattle.grammar_rules.proofs.Good.{Good}

-- a word spells all the tokens, so it goes on at each
goes_all : {A : Type 0} (r : Rule A) (ts : List Tok) (a : A) (k : ℕ) → r ts a → Goes A r ts k
goes_all r ts a k s = record {
  more = drop (suc k) ts;
  value = a;
  spells = subst (λ z. r z a) (sym (take-append-drop (suc k) ts)) s;
  ends = λ h. drop_all (suc k) ts (omega arith);
}

pub no_fault : {A : Type 0} (r : Rule A) (ts : List Tok) (a : A) (k : ℕ) → r ts a → FirstFault A r ts k → ⊥
no_fault r ts a k s f = f.here (goes_all r ts a k s)

pub one_fault : {A : Type 0} (r : Rule A) (ts : List Tok) (j k : ℕ) → FirstFault A r ts j → FirstFault A r ts k → j ≡ k
one_fault r ts j k f g =
    let p : j < k → ⊥ = λ h. f.here (g.before j h) in
    let q : k < j → ⊥ = λ h. g.here (f.before k h) in
    omega (arith, p, q)

-- what goes on behind a front goes on at each of its tokens
goes_before : {A : Type 0} (r : Rule A) (front rest more : List Tok) (a : A) (j : ℕ) → j < length front → r (front ++ more) a → Goes A r (front ++ rest) j
goes_before r front rest more a j h s = record {
  more = drop (suc j) front ++ more;
  value = a;
  spells = subst (λ z. r z a) (sym same) s;
  ends = λ l. absurd (omega (arith, l, h, length-append front rest));
}
  where
    same : take (suc j) (front ++ rest) ++ (drop (suc j) front ++ more) ≡ front ++ more
    same = ap (λ z. z ++ (drop (suc j) front ++ more)) (take-append-le (suc j) front rest (omega arith))
        ∙ sym (append_assoc (take (suc j) front) (drop (suc j) front) more)
        ∙ ap (λ z. z ++ more) (take-append-drop (suc j) front)

-- what goes on at the first token behind a front begins with the front, and goes on with that token
along : {A : Type 0} (r : Rule A) (front rest : List Tok) → Goes A r (front ++ rest) (length front) → (other : List Tok) × (next other ≡ next rest) × (other ≡ [] → rest ≡ []) × (a : A) × r (front ++ other) a
along {A} r front [] g =
    ([], refl, (λ e. refl), g.value, subst (λ z. r z g.value) (ap (λ z. take (suc (length front)) (front ++ []) ++ z) (g.ends (omega (arith, length-append front []))) ∙ append-nil _ ∙ take_all (suc (length front)) (front ++ []) (omega (arith, length-append front []))) g.spells)
along {A} r front (t ∷ rest) g = (t ∷ g.more, refl, (λ e. absurd (cc)), g.value, subst (λ z. r z g.value) same g.spells)
  where
    same : take (suc (length front)) (front ++ t ∷ rest) ++ g.more ≡ front ++ t ∷ g.more
    same = ap (λ n. take n (front ++ t ∷ rest) ++ g.more) (let e : suc (length front) ≡ length front + 1 = omega arith in e)
        ∙ ap (λ z. z ++ g.more) (take-append-add front (t ∷ rest) 1)
        ∙ append_assoc front (t ∷ []) g.more

module _ (A : Type 0) (r : Rule A) (null : Bool) (begins stops : Word → Bool) (p : Parser A) (good : Good A r null begins stops p) (ends : stops End ≡ true) where
  spelled : (u : List Tok) (a : A) → r u a → p u ≡ Ok (a, [])
  spelled u a s = ap p (sym (append-nil u)) ∙ good.meets.all u [] a s ends

  pub whole_all : (u : List Tok) (a : A) → r u a → whole p u ≡ Ok (a, [])
  unfolding whole finish end
  whole_all u a s = ap (λ o. and_then o finish) (spelled u a s)

  pub whole_ok : (ts rest : List Tok) (a : A) → whole p ts ≡ Ok (a, rest) → r ts a
  unfolding whole finish end
  whole_ok ts rest a e = go (bind_ok (p ts) finish (a, rest) e)
    where
      at : (b : A) (mid : List Tok) → finish b mid ≡ done a rest → (mid ≡ []) × (b ≡ a)
      at b [] d = (refl, (ok_parts b a [] rest d).0)
      at b (t ∷ mid) d = absurd (cc)

      go : (x : A × List Tok) × (p ts ≡ Ok x) × (finish x.0 x.1 ≡ Ok (a, rest)) → r ts a
      go x =
          let m = at x.0.0 x.0.1 x.2 in
          let y = good.meets.ok ts x.0.1 x.0.0 x.1 in
          subst (λ z. r z a) (sym (y.cut ∙ ap (λ z. y.front ++ z) m.0 ∙ append-nil y.front)) (subst (λ z. r y.front z) m.1 y.spells)

  fault_at : (front rest : List Tok) → Begins r front
      → ((other : List Tok) (a : A) → next other ≡ next rest → (other ≡ [] → rest ≡ []) → r (front ++ other) a → ⊥)
      → FirstFault A r (front ++ rest) (length front)
  fault_at front rest begins_ bad = record {
    within = omega (arith, length-append front rest);
    here = λ g. let x = along r front rest g in bad x.0 x.3 x.1 x.2 x.4;
    before = λ j h. goes_before r front rest begins_.0 begins_.1 j h begins_.2;
  }

  fault_in : (ts front rest : List Tok) → ts ≡ front ++ rest → FirstFault A r (front ++ rest) (length front) → FirstFault A r ts (length ts - length rest)
  fault_in ts front rest cut f =
      let n : length ts - length rest ≡ length front = omega (arith, ap length cut, length-append front rest) in
      subst (λ k. FirstFault A r ts k) (sym n) (subst (λ z. FirstFault A r z (length front)) (sym cut) f)

  stopped_inside : (ts rest : List Tok) → p ts ≡ Err rest → FirstFault A r ts (length ts - length rest)
  stopped_inside ts rest e =
      let x = good.meets.fault ts rest e in
      fault_in ts x.front rest x.cut (fault_at x.front rest (begun r x.front good.some x.viable)
      (λ other a l _ s. let d = sym (spelled (x.front ++ other) a s) ∙ x.local other l in absurd (cc)))

  stopped_behind : (ts mid rest : List Tok) (b : A) → p ts ≡ Ok (b, mid) → finish b mid ≡ Err rest → FirstFault A r ts (length ts - length rest)
  unfolding finish end
  stopped_behind ts [] rest b e d = absurd (cc)
  stopped_behind ts (t ∷ mid) rest b e d =
      let x = good.meets.ok ts (t ∷ mid) b e in
      subst (λ z. FirstFault A r ts (length ts - length z)) (err_parts {A = A} (t ∷ mid) rest d)
      (fault_in ts x.front (t ∷ mid) x.cut (fault_at x.front (t ∷ mid) (begun r x.front good.some (inr ([], b, subst (λ z. r z b) (sym (append-nil x.front)) x.spells)))
      (λ other a l n s. let m = (ok_parts a b [] other (sym (spelled (x.front ++ other) a s) ∙ x.local other l)).1 in let c = n (sym m) in absurd (cc))))

  pub whole_fault : (ts rest : List Tok) → whole p ts ≡ Err rest → FirstFault A r ts (length ts - length rest)
  unfolding whole
  whole_fault ts rest e = go (bind_err (p ts) finish rest e)
    where
      go : (p ts ≡ Err rest) ⊎ ((x : A × List Tok) × (p ts ≡ Ok x) × (finish x.0 x.1 ≡ Err rest)) → FirstFault A r ts (length ts - length rest)
      go (inl d) = stopped_inside ts rest d
      go (inr x) = stopped_behind ts x.0.1 rest x.0.0 x.1 x.2

  pub one_value : (u : List Tok) (a b : A) → r u a → r u b → a ≡ b
  one_value u a b x y = (ok_parts a b [] [] (sym (spelled u a x) ∙ spelled u b y)).0
