-- Rules with the same words, for forms that share a beginning.
use Rattle.std.proofs.Common.{◌≡◌, Bool, true, ◌⊎◌, inl, inr, ◌↔◌, List, [], ◌++◌, Result, refl, sym, ap, ◌∙◌, append_assoc, append-nil, subst}
use Rattle.grammar_rules.specs.declared.word.Word.{Word}
use Rattle.brs_tokens.specs.Tok.{Tok}
use Rattle.grammar_rules.specs.Rules.{Rule, Pure, Splits, Either, Begins}
use Rattle.grammar_rules.proofs.Meets.{Meets, Faults}
use Rattle.grammar_rules.proofs.Good.{Good}

abbrev pub Same : {A : Type 0} → Rule A → Rule A → Type 0
Same r s = (ts : List Tok) (a : _) → r ts a ↔ s ts a

module _ {A : Type 0} {r s : List Tok → A → Type 0} {p : List Tok → Result (A × List Tok) (List Tok)} (same : (ts : List Tok) (a : A) → r ts a ↔ s ts a) where
  moved : (ts rest : List Tok) → Faults A r p ts rest → Faults A s p ts rest
  moved ts rest x = record { front = x.front; cut = x.cut; viable = go x.viable; local = x.local }
    where
      go : (x.front ≡ []) ⊎ Begins r x.front → (x.front ≡ []) ⊎ Begins s x.front
      go (inl e) = inl e
      go (inr b) = inr (b.0, b.1, (same _ _).0 b.2)

  pub meets_same : {n : Bool} {f h : Word → Bool} → Meets A r n f h p → Meets A s n f h p
  meets_same m = record {
    ok = λ ts rest a e. let x = m.ok ts rest a e in record { front = x.front; cut = x.cut; spells = (same _ _).0 x.spells; local = x.local };
    fault = λ ts rest e. moved ts rest (m.fault ts rest e);
    all = λ u rest a w e. m.all u rest a ((same _ _).1 w) e;
    ahead = λ u rest a w. m.ahead u rest a ((same _ _).1 w);
  }

  pub good_same : {n : Bool} {f h : Word → Bool} → Good A r n f h p → Good A s n f h p
  good_same g = record { meets = meets_same g.meets; some = record { tokens = g.some.tokens; value = g.some.value; spells = (same _ _).0 g.some.spells } }

-- two forms with one beginning
module _ {A B : Type 0} (r : List Tok → A → Type 0) (s t : A → List Tok → B → Type 0) where
  pub factored : (ts : List Tok) (b : B) → Splits A B r (λ a. Either (s a) (t a)) ts b ↔ Either (Splits A B r s) (Splits A B r t) ts b
  factored ts b = (λ x. there x (x.second), back)
    where
      there : (x : Splits A B r (λ a. Either (s a) (t a)) ts b) → s x.value x.back b ⊎ t x.value x.back b → Splits A B r s ts b ⊎ Splits A B r t ts b
      there x (inl y) = inl (record { front = x.front; back = x.back; value = x.value; cut = x.cut; first = x.first; second = y })
      there x (inr y) = inr (record { front = x.front; back = x.back; value = x.value; cut = x.cut; first = x.first; second = y })

      back : Splits A B r s ts b ⊎ Splits A B r t ts b → Splits A B r (λ a. Either (s a) (t a)) ts b
      back (inl x) = record { front = x.front; back = x.back; value = x.value; cut = x.cut; first = x.first; second = inl x.second }
      back (inr x) = record { front = x.front; back = x.back; value = x.value; cut = x.cut; first = x.first; second = inr x.second }

-- a form inside a sequence, written out
module _ {A B C : Type 0} (r : List Tok → A → Type 0) (s : A → List Tok → B → Type 0) (t : B → List Tok → C → Type 0) where
  pub regrouped : (ts : List Tok) (c : C) → Splits A C r (λ a. Splits B C (s a) t) ts c ↔ Splits B C (Splits A B r s) t ts c
  regrouped ts c = (
    (λ x. record {
      front = x.front ++ x.second.front;
      back = x.second.back;
      value = x.second.value;
      cut = x.cut ∙ ap (λ z. x.front ++ z) x.second.cut ∙ sym (append_assoc x.front x.second.front x.second.back);
      first = record { front = x.front; back = x.second.front; value = x.value; cut = refl; first = x.first; second = x.second.first };
      second = x.second.second;
    }),
    (λ y. record {
      front = y.first.front;
      back = y.first.back ++ y.back;
      value = y.first.value;
      cut = y.cut ∙ ap (λ z. z ++ y.back) y.first.cut ∙ append_assoc y.first.front y.first.back y.back;
      first = y.first.first;
      second = record { front = y.first.back; back = y.back; value = y.value; cut = refl; first = y.first.second; second = y.second };
    }),
  )

-- a rule that may be empty in some of its cases
module _ {A : Type 0} {r : List Tok → A → Type 0} {p : List Tok → Result (A × List Tok) (List Tok)} {f h : Word → Bool} where
  pub may_be_null : (n : Bool) → Meets A r n f h p → Meets A r true f h p
  may_be_null n m = record { ok = m.ok; fault = m.fault; all = m.all; ahead = λ u rest a w. go (m.ahead u rest a w) }
    where
      go : {T U V : Type 0} → T ⊎ (U × V) → T ⊎ ((true ≡ true) × V)
      go (inl t) = inl t
      go (inr x) = inr (refl, x.1)

-- ---- rules with the same words, part by part

pub same_back : {A : Type 0} {r s : List Tok → A → Type 0} → ((ts : List Tok) (a : A) → r ts a ↔ s ts a) → (ts : List Tok) (a : A) → s ts a ↔ r ts a
same_back e ts a = ((e ts a).1, (e ts a).0)

pub same_along : {A : Type 0} {r s t : List Tok → A → Type 0} → ((ts : List Tok) (a : A) → r ts a ↔ s ts a) → ((ts : List Tok) (a : A) → s ts a ↔ t ts a) → (ts : List Tok) (a : A) → r ts a ↔ t ts a
same_along e d ts a = ((λ x. (d ts a).0 ((e ts a).0 x)), (λ x. (e ts a).1 ((d ts a).1 x)))

pub same_either : {A : Type 0} {r r' s s' : List Tok → A → Type 0} → ((ts : List Tok) (a : A) → r ts a ↔ r' ts a) → ((ts : List Tok) (a : A) → s ts a ↔ s' ts a)
    → (ts : List Tok) (a : A) → Either r s ts a ↔ Either r' s' ts a
same_either {A} {r} {r'} {s} {s'} e d ts a = (there, back)
  where
    there : Either r s ts a → Either r' s' ts a
    there (inl x) = inl ((e ts a).0 x)
    there (inr x) = inr ((d ts a).0 x)

    back : Either r' s' ts a → Either r s ts a
    back (inl x) = inl ((e ts a).1 x)
    back (inr x) = inr ((d ts a).1 x)

pub same_splits : {A B : Type 0} {r r' : List Tok → A → Type 0} {s s' : A → List Tok → B → Type 0} → ((ts : List Tok) (a : A) → r ts a ↔ r' ts a)
    → ((x : A) (ts : List Tok) (b : B) → s x ts b ↔ s' x ts b) → (ts : List Tok) (b : B) → Splits A B r s ts b ↔ Splits A B r' s' ts b
same_splits e d ts b = (
  (λ x. record { front = x.front; back = x.back; value = x.value; cut = x.cut; first = (e x.front x.value).0 x.first; second = (d x.value x.back b).0 x.second }),
  (λ x. record { front = x.front; back = x.back; value = x.value; cut = x.cut; first = (e x.front x.value).1 x.first; second = (d x.value x.back b).1 x.second }),
)

pub same_self : {A : Type 0} (r : List Tok → A → Type 0) (ts : List Tok) (a : A) → r ts a ↔ r ts a
same_self r ts a = ((λ x. x), (λ x. x))

-- nothing behind it
pub alone : {A : Type 0} (r : List Tok → A → Type 0) (ts : List Tok) (a : A) → Splits A A r (λ x. Pure x) ts a ↔ r ts a
alone {A} r ts a = (
  (λ x. subst (λ z. r z a) (sym (x.cut ∙ ap (λ z. x.front ++ z) x.second.0 ∙ append-nil x.front)) (subst (λ z. r x.front z) (sym x.second.1) x.first)),
  (λ y. record { front = ts; back = []; value = a; cut = sym (append-nil ts); first = y; second = (refl, refl) }),
)

-- one of two in front of a rule
pub distributed : {A B : Type 0} (r s : List Tok → A → Type 0) (t : A → List Tok → B → Type 0) (ts : List Tok) (b : B)
    → Splits A B (Either r s) t ts b ↔ Either (Splits A B r t) (Splits A B s t) ts b
distributed {A} {B} r s t ts b = (λ x. there x (x.first), back)
  where
    there : (x : Splits A B (Either r s) t ts b) → r x.front x.value ⊎ s x.front x.value → Splits A B r t ts b ⊎ Splits A B s t ts b
    there x (inl y) = inl (record { front = x.front; back = x.back; value = x.value; cut = x.cut; first = y; second = x.second })
    there x (inr y) = inr (record { front = x.front; back = x.back; value = x.value; cut = x.cut; first = y; second = x.second })

    back : Splits A B r t ts b ⊎ Splits A B s t ts b → Splits A B (Either r s) t ts b
    back (inl x) = record { front = x.front; back = x.back; value = x.value; cut = x.cut; first = inl x.first; second = x.second }
    back (inr x) = record { front = x.front; back = x.back; value = x.value; cut = x.cut; first = inr x.first; second = x.second }
