-- What it is that a reading reads a rule with one token ahead, and that each way of making a rule keeps it.
use Rattle.std.proofs.Common.{◌≡◌, ℕ, zero, suc, ◌<◌, ◌≤◌, Bool, true, false, ◌||◌, ◌⊎◌, inl, inr, List, [], ◌∷◌, ◌++◌, length, length-append, Option, Some, None, cond, refl, sym, ap, ◌∙◌, append_assoc, append-nil, arith}
use Rattle.brs_tokens.specs.Tok.{Tok}
use Rattle.first_form.specs.FirstForm.{Rule, One, Pure, Splits, Either, Turns, joined, Many}
use Rattle.first_form.specs.FirstForm as rule
use Rattle.first_form.specs.FirstReading.{Outcome, Reading, and_then, pure, followed_by, one, at, choose, many_from, many}
use Rattle.first_form.specs.FirstReading as reading

-- a test of what stands ahead
abbrev pub Ahead : Type 0
Ahead = List Tok → Bool

abbrev pub Within : Ahead → Ahead → Type 0
Within f g = (ts : List Tok) → f ts ≡ true → g ts ≡ true

abbrev pub Apart : Ahead → Ahead → Type 0
Apart f g = (ts : List Tok) → f ts ≡ true → g ts ≡ false

-- `stops` has the lists before which a word of the rule ends, and `starts` those that a word begins where such a list follows
pub record Meets (A : Type 0) (r : List Tok → A → Type 0) (starts stops : List Tok → Bool) (p : List Tok → Option (A × List Tok)) : Type 0 where
  pub sound : (ts rest : List Tok) (a : A) → p ts ≡ Some (a, rest) → (front : List Tok) × (ts ≡ front ++ rest) × r front a
  pub complete : (u rest : List Tok) (a : A) → r u a → stops rest ≡ true → p (u ++ rest) ≡ Some (a, rest)
  pub ahead : (u rest : List Tok) (a : A) → r u a → stops rest ≡ true → starts (u ++ rest) ≡ true

abbrev done : {A : Type 0} → A → List Tok → Outcome A
done a ts = Some (a, ts)

some_parts : {A : Type 0} (a b : A) (s t : List Tok) → done a s ≡ done b t → (a ≡ b) × (s ≡ t)
some_parts {A} a b s t e = let x : ◌≡◌ {A = A × List Tok} (a, s) (b, t) = cc in (ap (λ z. z.0) x, ap (λ z. z.1) x)

bind_some : {A B : Type 0} (o : Outcome A) (f : A → Reading B) (y : B × List Tok) → and_then o f ≡ Some y → (x : A × List Tok) × (o ≡ Some x) × (f x.0 x.1 ≡ Some y)
bind_some (Some x) f y e = (x, refl, e)
bind_some None f y e = absurd (cc)

followed_parts : {A : Type 0} (o : Option A) (ts rest : List Tok) (a : A) → followed_by o ts ≡ Some (a, rest) → (o ≡ Some a) × (ts ≡ rest)
followed_parts (Some b) ts rest a e = let x = some_parts b a ts rest e in (ap Some x.0, x.1)
followed_parts None ts rest a e = absurd (cc)

chosen : {A : Type 0} (b : Bool) (x y z : A) → cond b x y ≡ z → ((b ≡ true) × (x ≡ z)) ⊎ ((b ≡ false) × (y ≡ z))
chosen true x y z e = inl (refl, e)
chosen false x y z e = inr (refl, e)

choose_first : {A : Type 0} (test : Ahead) (p q : Reading A) (ts : List Tok) → test ts ≡ true → choose test p q ts ≡ p ts
choose_first test p q ts e = ap (λ b. cond b (p ts) (q ts)) e

choose_second : {A : Type 0} (test : Ahead) (p q : Reading A) (ts : List Tok) → test ts ≡ false → choose test p q ts ≡ q ts
choose_second test p q ts e = ap (λ b. cond b (p ts) (q ts)) e

or_first : (a b : Bool) → a ≡ true → (a || b) ≡ true
or_first true b e = refl
or_first false b e = absurd (cc)

or_second : (a b : Bool) → b ≡ true → (a || b) ≡ true
or_second true b e = refl
or_second false b e = e

abbrev pub any : Ahead
any ts = true

-- ---- one token, none

pub one_meets : {A : Type 0} (value : Tok → Option A) (test : Tok → Bool) → ((t : Tok) (a : A) → value t ≡ Some a → test t ≡ true) → Meets A (One value) (at test) any (one value)
one_meets {A} value test passes = record { sound = sound_; complete = complete_; ahead = ahead_ }
  where
    sound_ : (ts rest : List Tok) (a : A) → one value ts ≡ Some (a, rest) → (front : List Tok) × (ts ≡ front ++ rest) × One value front a
    sound_ [] rest a e = absurd (cc)
    sound_ (t ∷ ts) rest a e =
        let x = followed_parts (value t) ts rest a e in
        (t ∷ [], ap (λ z. t ∷ z) x.1, (t, refl, x.0))

    complete_ : (u rest : List Tok) (a : A) → One value u a → any rest ≡ true → one value (u ++ rest) ≡ Some (a, rest)
    complete_ u rest a z e = ap (λ v. one value (v ++ rest)) z.1 ∙ ap (λ o. followed_by o rest) z.2

    ahead_ : (u rest : List Tok) (a : A) → One value u a → any rest ≡ true → at test (u ++ rest) ≡ true
    ahead_ u rest a z e = ap (λ v. at test (v ++ rest)) z.1 ∙ passes z.0 a z.2

pub pure_meets : {A : Type 0} (a : A) (k : Ahead) → Meets A (Pure a) k k (pure a)
pure_meets {A} a k = record {
  sound = λ ts rest b e. let x = some_parts a b ts rest e in ([], x.1, (refl, sym x.0));
  complete = λ u rest b z e. ap (λ v. done a (v ++ rest)) z.0 ∙ ap (λ c. done c rest) (sym z.1);
  ahead = λ u rest b z e. ap (λ v. k (v ++ rest)) z.0 ∙ e;
}

-- ---- one after another

module _ {A B : Type 0} {r : List Tok → A → Type 0} {s : A → List Tok → B → Type 0} {p : List Tok → Option (A × List Tok)} {q : A → List Tok → Option (B × List Tok)}
    {f g h k : List Tok → Bool} (first : Meets A r f h p) (second : (a : A) → Meets B (s a) g k (q a)) (within : Within g h) where
  abbrev R : Rule B
  R = rule.◌>>=◌ r s

  abbrev P : Reading B
  P = reading.◌>>=◌ p q

  then_sound : (ts rest : List Tok) (b : B) → P ts ≡ Some (b, rest) → (front : List Tok) × (ts ≡ front ++ rest) × R front b
  then_sound ts rest b e = go (bind_some (p ts) q (b, rest) e)
    where
      go : (x : A × List Tok) × (p ts ≡ Some x) × (q x.0 x.1 ≡ Some (b, rest)) → (front : List Tok) × (ts ≡ front ++ rest) × R front b
      go x =
          let one_ = first.sound ts x.0.1 x.0.0 x.1 in
          let two = (second x.0.0).sound x.0.1 rest b x.2 in (
            one_.0 ++ two.0,
            one_.1 ∙ ap (λ z. one_.0 ++ z) two.1 ∙ sym (append_assoc one_.0 two.0 rest),
            record { front = one_.0; back = two.0; value = x.0.0; cut = refl; first = one_.2; second = two.2 },
          )

  same : (u rest : List Tok) (b : B) (z : R u b) → u ++ rest ≡ z.front ++ (z.back ++ rest)
  same u rest b z = ap (λ w. w ++ rest) z.cut ∙ append_assoc z.front z.back rest

  may_stop : (u rest : List Tok) (b : B) (z : R u b) → k rest ≡ true → h (z.back ++ rest) ≡ true
  may_stop u rest b z e = within (z.back ++ rest) ((second z.value).ahead z.back rest b z.second e)

  then_complete : (u rest : List Tok) (b : B) → R u b → k rest ≡ true → P (u ++ rest) ≡ Some (b, rest)
  then_complete u rest b z e =
      ap P (same u rest b z)
      ∙ ap (λ o. and_then o q) (first.complete z.front (z.back ++ rest) z.value z.first (may_stop u rest b z e))
      ∙ (second z.value).complete z.back rest b z.second e

  then_ahead : (u rest : List Tok) (b : B) → R u b → k rest ≡ true → f (u ++ rest) ≡ true
  then_ahead u rest b z e = ap f (same u rest b z) ∙ first.ahead z.front (z.back ++ rest) z.value z.first (may_stop u rest b z e)

  pub then_meets : Meets B (Splits A B r s) f k (λ ts. and_then (p ts) q)
  then_meets = record { sound = then_sound; complete = then_complete; ahead = then_ahead }

-- ---- one of two

module _ {A : Type 0} {r s : List Tok → A → Type 0} {p q : List Tok → Option (A × List Tok)} {f g h : List Tok → Bool} (c : List Tok → Bool)
    (first : Meets A r f h p) (second : Meets A s g h q) (yes_ : Within f c) (no_ : Apart g c) where
  either_sound : (ts rest : List Tok) (a : A) → choose c p q ts ≡ Some (a, rest) → (front : List Tok) × (ts ≡ front ++ rest) × Either r s front a
  either_sound ts rest a e = go (chosen (c ts) (p ts) (q ts) (Some (a, rest)) e)
    where
      go : ((c ts ≡ true) × (p ts ≡ Some (a, rest))) ⊎ ((c ts ≡ false) × (q ts ≡ Some (a, rest))) → (front : List Tok) × (ts ≡ front ++ rest) × Either r s front a
      go (inl x) = let y = first.sound ts rest a x.1 in (y.0, y.1, inl y.2)
      go (inr x) = let y = second.sound ts rest a x.1 in (y.0, y.1, inr y.2)

  either_complete : (u rest : List Tok) (a : A) → Either r s u a → h rest ≡ true → choose c p q (u ++ rest) ≡ Some (a, rest)
  either_complete u rest a (inl z) e = choose_first c p q (u ++ rest) (yes_ (u ++ rest) (first.ahead u rest a z e)) ∙ first.complete u rest a z e
  either_complete u rest a (inr z) e = choose_second c p q (u ++ rest) (no_ (u ++ rest) (second.ahead u rest a z e)) ∙ second.complete u rest a z e

  either_ahead : (u rest : List Tok) (a : A) → Either r s u a → h rest ≡ true → (f (u ++ rest) || g (u ++ rest)) ≡ true
  either_ahead u rest a (inl z) e = or_first (f (u ++ rest)) (g (u ++ rest)) (first.ahead u rest a z e)
  either_ahead u rest a (inr z) e = or_second (f (u ++ rest)) (g (u ++ rest)) (second.ahead u rest a z e)

  pub either_meets : Meets A (Either r s) (λ ts. f ts || g ts) h (choose c p q)
  either_meets = record { sound = either_sound; complete = either_complete; ahead = either_ahead }

-- ---- larger and smaller sets

pub meets_as : {A : Type 0} {r : List Tok → A → Type 0} {p : List Tok → Option (A × List Tok)} {f h : List Tok → Bool} (f' h' : Ahead) → Within f f' → Within h' h → Meets A r f h p → Meets A r f' h' p
meets_as f' h' more fewer x = record {
  sound = x.sound;
  complete = λ u rest a z e. x.complete u rest a z (fewer rest e);
  ahead = λ u rest a z e. more (u ++ rest) (x.ahead u rest a z (fewer rest e));
}

-- ---- any number

-- a word of the rule has a token
abbrev pub Takes : {A : Type 0} → Rule A → Type 0
Takes r = (u : List Tok) (a : _) → r u a → 0 < length u

pub then_takes : {A B : Type 0} (value : Tok → Option A) (s : A → Rule B) → Takes (rule.◌>>=◌ (One value) s)
then_takes value s u b z =
    let cut : u ≡ (z.first.0 ∷ []) ++ z.back = z.cut ∙ ap (λ w. w ++ z.back) z.first.1 in
    omega (arith, ap length cut)

module _ {A : Type 0} {r : List Tok → List A → Type 0} {p : List Tok → Option (List A × List Tok)} {f h : List Tok → Bool} (k : List Tok → Bool)
    (turn : Meets (List A) r f h p) (takes : Takes r) (ends : Apart k f) (on : Within f h) (off : Within k h) where
  abbrev Found : List A → List A → List Tok → List Tok → Type 0
  Found found all ts rest = (front : List Tok) × (more : List A) × (ts ≡ front ++ rest) × Many r front more × (all ≡ found ++ more)

  none_found : (found all : List A) (ts rest : List Tok) → done found ts ≡ done all rest → Found found all ts rest
  none_found found all ts rest e = let x = some_parts found all ts rest e in ([], [], x.1, ([], refl, refl), sym x.0 ∙ sym (append-nil found))

  one_found : (found all x : List A) (ts mid rest : List Tok) → (front : List Tok) × (ts ≡ front ++ mid) × r front x → Found (found ++ x) all mid rest → Found found all ts rest
  one_found found all x ts mid rest w m = (
    w.0 ++ m.0,
    x ++ m.1,
    w.1 ∙ ap (λ z. w.0 ++ z) m.2 ∙ sym (append_assoc w.0 m.0 rest),
    (x ∷ m.3.0, (w.0, m.0, refl, w.2, m.3.1), ap (λ z. x ++ z) m.3.2),
    m.4 ∙ append_assoc found x m.1,
  )

  from_sound : (n : ℕ) (found all : List A) (ts rest : List Tok) → many_from f p n found ts ≡ Some (all, rest) → Found found all ts rest
  unfolding many_from
  from_sound zero found all ts rest e = none_found found all ts rest e
  from_sound (suc n) found all ts rest e =
      go (λ x mid. from_sound n (found ++ x) all mid rest) (chosen (f ts) _ _ (Some (all, rest)) e)
    where
      more_from : List A → Reading (List A)
      more_from x = many_from f p n (found ++ x)

      go : ((x : List A) (mid : List Tok) → many_from f p n (found ++ x) mid ≡ Some (all, rest) → Found (found ++ x) all mid rest)
          → ((f ts ≡ true) × (and_then (p ts) (λ x. many_from f p n (found ++ x)) ≡ Some (all, rest))) ⊎ ((f ts ≡ false) × (done found ts ≡ Some (all, rest)))
          → Found found all ts rest
      go again (inl y) =
          let b = bind_some (p ts) (λ x. many_from f p n (found ++ x)) (all, rest) y.1 in
          one_found found all b.0.0 ts b.0.1 rest (turn.sound ts b.0.1 b.0.0 b.1) (again b.0.0 b.0.1 b.2)
      go again (inr y) = none_found found all ts rest y.1

  starts_turn : (x : List A) (xs : List (List A)) (u rest : List Tok) → (w : Turns r u (x ∷ xs)) → h (w.1 ++ rest) ≡ true → f (u ++ rest) ≡ true
  starts_turn x xs u rest w e = ap (λ z. f (z ++ rest)) w.2 ∙ ap f (append_assoc w.0 w.1 rest) ∙ turn.ahead w.0 (w.1 ++ rest) x w.3 e

  -- before a turn, and before the rest, a turn may end
  follows : (xs : List (List A)) (u rest : List Tok) → Turns r u xs → k rest ≡ true → h (u ++ rest) ≡ true
  follows [] u rest w e = ap (λ z. h (z ++ rest)) w ∙ off rest e
  follows (x ∷ xs) u rest w e = on (u ++ rest) (starts_turn x xs u rest w (follows xs w.1 rest w.4 e))

  last_turn : (n : ℕ) (found : List A) (rest : List Tok) → k rest ≡ true → many_from f p n found rest ≡ Some (found, rest)
  unfolding many_from
  last_turn zero found rest e = refl
  last_turn (suc n) found rest e = choose_second f (reading.◌>>=◌ p (λ x. many_from f p n (found ++ x))) (pure found) rest (ends rest e)

  from_complete : (xs : List (List A)) (n : ℕ) (found : List A) (u rest : List Tok) → Turns r u xs → k rest ≡ true → length u ≤ n
      → many_from f p n found (u ++ rest) ≡ Some (found ++ joined xs, rest)
  unfolding many_from
  from_complete [] n found u rest w e fits =
      ap (λ z. many_from f p n found (z ++ rest)) w ∙ last_turn n found rest e ∙ ap (λ z. done z rest) (sym (append-nil found))
  from_complete (x ∷ xs) zero found u rest w e fits =
      absurd (omega (arith, takes w.0 x w.3, ap length w.2, length-append w.0 w.1))
  from_complete (x ∷ xs) (suc n) found u rest w e fits =
      let stop = follows xs w.1 rest w.4 e in
      let shorter : length w.1 ≤ n = omega (arith, takes w.0 x w.3, ap length w.2, length-append w.0 w.1) in
      choose_first f (reading.◌>>=◌ p (λ y. many_from f p n (found ++ y))) (pure found) (u ++ rest) (starts_turn x xs u rest w stop)
      ∙ ap (λ z. and_then (p (z ++ rest)) (λ y. many_from f p n (found ++ y))) w.2
      ∙ ap (λ z. and_then (p z) (λ y. many_from f p n (found ++ y))) (append_assoc w.0 w.1 rest)
      ∙ ap (λ o. and_then o (λ y. many_from f p n (found ++ y))) (turn.complete w.0 (w.1 ++ rest) x w.3 stop)
      ∙ from_complete xs n (found ++ x) w.1 rest w.4 e shorter
      ∙ ap (λ z. done z rest) (append_assoc found x (joined xs))

  many_sound : (ts rest : List Tok) (all : List A) → many f p ts ≡ Some (all, rest) → (front : List Tok) × (ts ≡ front ++ rest) × Many r front all
  unfolding many
  many_sound ts rest all e =
      let x = from_sound (length ts) [] all ts rest e in
      (x.0, x.2, (x.3.0, x.3.1, x.4 ∙ x.3.2))

  many_complete : (u rest : List Tok) (all : List A) → Many r u all → k rest ≡ true → many f p (u ++ rest) ≡ Some (all, rest)
  unfolding many
  many_complete u rest all z e =
      from_complete z.0 (length (u ++ rest)) [] u rest z.1 e (omega (arith, length-append u rest)) ∙ ap (λ w. done w rest) (sym z.2)

  many_ahead : (u rest : List Tok) (all : List A) → Many r u all → k rest ≡ true → (f (u ++ rest) || k (u ++ rest)) ≡ true
  many_ahead u rest all (xs, w, s) e = go xs w
    where
      go : (xs : List (List A)) → Turns r u xs → (f (u ++ rest) || k (u ++ rest)) ≡ true
      go [] w = or_second (f (u ++ rest)) (k (u ++ rest)) (ap (λ z. k (z ++ rest)) w ∙ e)
      go (x ∷ xs) w = or_first (f (u ++ rest)) (k (u ++ rest)) (starts_turn x xs u rest w (follows xs w.1 rest w.4 e))

  pub many_meets : Meets (List A) (Many r) (λ ts. f ts || k ts) k (many f p)
  many_meets = record { sound = many_sound; complete = many_complete; ahead = many_ahead }
