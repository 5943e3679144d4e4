-- Tests, options, runs and marks: what is written is read, and what is read was written so.
use Rattle.std.proofs.Common.{◌≡◌, ℕ, ◌<◌, arith, Bool, true, false, not, ◌&&◌, ◌||◌, ◌==◌, ◌⊎◌, inl, inr, List, [], ◌∷◌, ◌++◌, Some, None, Option, cond, refl, ap, ◌∙◌, subst}
use Rattle.std.specs.List.{list_all}
use Rattle.std.proofs.lemmas.Bool.{eqb-true, eq-eqb, leb-true}
use Rattle.std.proofs.lemmas.Str.Ascii.{IsAscii-nil, IsAscii-cons}
use Rattle.std.specs.Prelude.{nat_le}
use Rattle.std.specs.Str.{IsAscii, is_utf8}
use Rattle.std.proofs.lemmas.Str.{IsUtf8-from_ascii, is_utf8-from_IsUtf8}
use Rattle.xml_pieces.specs.Written.{is_space, is_name_byte, is_attribute_byte, is_empty, strip}
use Rattle.xml_pieces.specs.Reading.{Outcome, Parser, and_then, bind, run, after, some_of, behind, exactly, either_mark, checked}

-- ---- tests

pub and_parts : (a b : Bool) → (a && b) ≡ true → (a ≡ true) × (b ≡ true)
and_parts true b e = (refl, e)
and_parts false b e = absurd (cc)

pub and_both : (a b : Bool) → a ≡ true → b ≡ true → (a && b) ≡ true
and_both true b e f = f
and_both false b e f = absurd (cc)

pub or_parts : (a b : Bool) → (a || b) ≡ true → (a ≡ true) ⊎ (b ≡ true)
or_parts true b e = inl refl
or_parts false b e = inr e

pub not_true : (a : Bool) → not a ≡ true → a ≡ false
not_true true e = absurd (cc)
not_true false e = refl

pub not_false : (a : Bool) → a ≡ false → not a ≡ true
not_false true e = absurd (cc)
not_false false e = refl

pub chosen : {A : Type 0} (b : Bool) (x y z : A) → cond b x y ≡ z → ((b ≡ true) × (x ≡ z)) ⊎ ((b ≡ false) × (y ≡ z))
chosen true x y z e = inl (refl, e)
chosen false x y z e = inr (refl, e)

pub space_is : (b : ℕ) → is_space b ≡ true → (b ≡ 32) ⊎ ((b ≡ 9) ⊎ ((b ≡ 13) ⊎ (b ≡ 10)))
unfolding is_space
space_is b e = elim (or_parts (b == 32 || b == 9 || b == 13) (b == 10) e) [
  | inl f ↦ elim (or_parts (b == 32 || b == 9) (b == 13) f) [
    | inl g ↦ elim (or_parts (b == 32) (b == 9) g) [ inl h ↦ inl (eqb-true b 32 h) | inr h ↦ inr (inl (eqb-true b 9 h)) ]
    | inr g ↦ inr (inr (inl (eqb-true b 13 g)))
  ]
  | inr f ↦ inr (inr (inr (eqb-true b 10 f)))
]

-- white space is in no name
pub space_no_name : (b : ℕ) → is_space b ≡ true → is_name_byte b ≡ false
unfolding is_name_byte
space_no_name b e = elim (space_is b e) [
  | inl h ↦ rw h refl
  | inr more ↦ elim more [ inl h ↦ rw h refl | inr more ↦ elim more [ inl h ↦ rw h refl | inr h ↦ rw h refl ] ]
]

pub name_no_space : (b : ℕ) → is_name_byte b ≡ true → is_space b ≡ false
name_no_space b e = at (is_space b) refl
  where
    at : (v : Bool) → is_space b ≡ v → v ≡ false
    at true s = let no = space_no_name b s in absurd (cc)
    at false s = refl

space_no_attribute_byte : (b : ℕ) → is_space b ≡ true → is_attribute_byte b ≡ false
unfolding is_attribute_byte
space_no_attribute_byte b e =
    let name = space_no_name b e in
    elim (space_is b e) [
      | inl h ↦ rw name (rw h refl)
      | inr more ↦ elim more [ inl h ↦ rw name (rw h refl) | inr more ↦ elim more [ inl h ↦ rw name (rw h refl) | inr h ↦ rw name (rw h refl) ] ]
    ]

pub space_no_attribute : (b : ℕ) → is_space b ≡ true → is_attribute_byte b ≡ false
space_no_attribute = space_no_attribute_byte

pub attribute_no_space : (b : ℕ) → is_attribute_byte b ≡ true → is_space b ≡ false
attribute_no_space b e = at (is_space b) refl
  where
    at : (v : Bool) → is_space b ≡ v → v ≡ false
    at true s = let no = space_no_attribute b s in absurd (cc)
    at false s = refl

-- ---- names are UTF-8

below : (low high b : ℕ) → high < 128 → (nat_le low b && nat_le b high) ≡ true → b < 128
below low high b small e = let fits = leb-true b high (and_parts (nat_le low b) (nat_le b high) e).1 in omega arith

equals : (c b : ℕ) → c < 128 → (b == c) ≡ true → b < 128
equals c b small e = let is = eqb-true b c e in omega arith

name_small : (b : ℕ) → is_name_byte b ≡ true → b < 128
unfolding is_name_byte
name_small b e = elim (or_parts (((((nat_le 97 b && nat_le b 122) || (nat_le 65 b && nat_le b 90)) || (nat_le 48 b && nat_le b 57)) || b == 95) || b == 45) (b == 46) e) [
  | inr h ↦ equals 46 b (omega arith) h
  | inl e ↦ elim (or_parts ((((nat_le 97 b && nat_le b 122) || (nat_le 65 b && nat_le b 90)) || (nat_le 48 b && nat_le b 57)) || b == 95) (b == 45) e) [
    | inr h ↦ equals 45 b (omega arith) h
    | inl e ↦ elim (or_parts (((nat_le 97 b && nat_le b 122) || (nat_le 65 b && nat_le b 90)) || (nat_le 48 b && nat_le b 57)) (b == 95) e) [
      | inr h ↦ equals 95 b (omega arith) h
      | inl e ↦ elim (or_parts ((nat_le 97 b && nat_le b 122) || (nat_le 65 b && nat_le b 90)) (nat_le 48 b && nat_le b 57) e) [
        | inr h ↦ below 48 57 b (omega arith) h
        | inl e ↦ elim (or_parts (nat_le 97 b && nat_le b 122) (nat_le 65 b && nat_le b 90) e) [
          | inl h ↦ below 97 122 b (omega arith) h
          | inr h ↦ below 65 90 b (omega arith) h
        ]
      ]
    ]
  ]
]

attribute_small : (b : ℕ) → is_attribute_byte b ≡ true → b < 128
unfolding is_attribute_byte
attribute_small b e = elim (or_parts (is_name_byte b) (b == 58) e) [ inl h ↦ name_small b h | inr h ↦ equals 58 b (omega arith) h ]

all_small : (p : ℕ → Bool) (bs : List ℕ) → ((b : ℕ) → p b ≡ true → b < 128) → list_all p bs ≡ true → IsAscii bs
all_small p [] small all = IsAscii-nil
all_small p (b ∷ bs) small all =
    let parts = and_parts (p b) (list_all p bs) all in
    IsAscii-cons b bs (small b parts.0) (all_small p bs small parts.1)

pub name_utf8 : (bs : List ℕ) → list_all is_name_byte bs ≡ true → is_utf8 bs ≡ true
name_utf8 bs all = is_utf8-from_IsUtf8 bs (IsUtf8-from_ascii bs (all_small is_name_byte bs name_small all))

pub attribute_utf8 : (bs : List ℕ) → list_all is_attribute_byte bs ≡ true → is_utf8 bs ≡ true
attribute_utf8 bs all = is_utf8-from_IsUtf8 bs (IsUtf8-from_ascii bs (all_small is_attribute_byte bs attribute_small all))

pub name_is_attribute : (bs : List ℕ) → list_all is_name_byte bs ≡ true → list_all is_attribute_byte bs ≡ true
unfolding is_attribute_byte
name_is_attribute [] all = refl
name_is_attribute (b ∷ bs) all =
    let parts = and_parts (is_name_byte b) (list_all is_name_byte bs) all in
    and_both (is_attribute_byte b) (list_all is_attribute_byte bs) (ap (λ v. v || b == 58) parts.0) (name_is_attribute bs parts.1)

-- ---- options

pub and_then_some : {A B : Type 0} (o : Outcome A) (f : A → Parser B) (y : B × List ℕ) → and_then o f ≡ Some y → (x : A × List ℕ) × (o ≡ Some x) × (f x.0 x.1 ≡ Some y)
and_then_some (Some x) f y e = (x, refl, e)
and_then_some None f y e = absurd (cc)

pub bind_some : {A B : Type 0} (o : Option A) (f : A → Option B) (y : B) → bind o f ≡ Some y → (x : A) × (o ≡ Some x) × (f x ≡ Some y)
bind_some (Some x) f y e = (x, refl, e)
bind_some None f y e = absurd (cc)

abbrev pub done : {A : Type 0} → A → List ℕ → Outcome A
done a bs = Some (a, bs)

pub done_parts : {A : Type 0} (a b : A) (s t : List ℕ) → done a s ≡ done b t → (a ≡ b) × (s ≡ t)
done_parts {A} a b s t e = let x : ◌≡◌ {A = A × List ℕ} (a, s) (b, t) = cc in (ap (λ z. z.0) x, ap (λ z. z.1) x)

-- ---- runs

abbrev pub Stops : (ℕ → Bool) → List ℕ → Type 0
Stops p [] = Unit {0}
Stops p (b ∷ bs) = p b ≡ false

-- what stops a run also stops it behind bytes that do
pub stops_through : (p q : ℕ → Bool) (u rest : List ℕ) → ((b : ℕ) → q b ≡ true → p b ≡ false) → list_all q u ≡ true → Stops p rest → Stops p (u ++ rest)
stops_through p q [] rest apart all stops = stops
stops_through p q (b ∷ u) rest apart all stops = apart b (and_parts (q b) (list_all q u) all).0

-- some bytes that do not pass stop a run
pub stops_at : (p q : ℕ → Bool) (u rest : List ℕ) → ((b : ℕ) → q b ≡ true → p b ≡ false) → list_all q u ≡ true → (u ≡ [] → ⊥) → Stops p (u ++ rest)
stops_at p q [] rest apart all some = absurd (some refl)
stops_at p q (b ∷ u) rest apart all some = apart b (and_parts (q b) (list_all q u) all).0

pub run_again : (p : ℕ → Bool) (u rest : List ℕ) → list_all p u ≡ true → Stops p rest → run p (u ++ rest) ≡ u
unfolding run
run_again p [] [] all stops = refl
run_again p [] (b ∷ rest) all stops = ap (λ v. cond v (b ∷ run p rest) []) stops
run_again p (b ∷ u) rest all stops =
    let parts = and_parts (p b) (list_all p u) all in
    ap (λ v. cond v (b ∷ run p (u ++ rest)) []) parts.0 ∙ ap (λ z. b ∷ z) (run_again p u rest parts.1 stops)

pub after_again : (p : ℕ → Bool) (u rest : List ℕ) → list_all p u ≡ true → Stops p rest → after p (u ++ rest) ≡ rest
unfolding after
after_again p [] [] all stops = refl
after_again p [] (b ∷ rest) all stops = ap (λ v. cond v (after p rest) (b ∷ rest)) stops
after_again p (b ∷ u) rest all stops =
    let parts = and_parts (p b) (list_all p u) all in
    ap (λ v. cond v (after p (u ++ rest)) (b ∷ (u ++ rest))) parts.0 ∙ after_again p u rest parts.1 stops

pub run_whole : (p : ℕ → Bool) (bs : List ℕ) → bs ≡ run p bs ++ after p bs
unfolding run after
run_whole p [] = refl
run_whole p (b ∷ bs) = elim (p b) as (λ v. b ∷ bs ≡ cond v (b ∷ run p bs) [] ++ cond v (after p bs) (b ∷ bs)) [
  | true ↦ ap (λ z. b ∷ z) (run_whole p bs)
  | false ↦ refl
]

all_at : (p : ℕ → Bool) (b : ℕ) (bs : List ℕ) (v : Bool) → p b ≡ v → list_all p (run p bs) ≡ true → list_all p (cond v (b ∷ run p bs) []) ≡ true
all_at p b bs true e all = and_both (p b) (list_all p (run p bs)) e all
all_at p b bs false e all = refl

pub run_all : (p : ℕ → Bool) (bs : List ℕ) → list_all p (run p bs) ≡ true
unfolding run
run_all p [] = refl
run_all p (b ∷ bs) = all_at p b bs (p b) refl (run_all p bs)

stop_at : (p : ℕ → Bool) (b : ℕ) (bs : List ℕ) (v : Bool) → p b ≡ v → Stops p (after p bs) → Stops p (cond v (after p bs) (b ∷ bs))
stop_at p b bs true e stops = stops
stop_at p b bs false e stops = e

pub after_stops : (p : ℕ → Bool) (bs : List ℕ) → Stops p (after p bs)
unfolding after
after_stops p [] = tt
after_stops p (b ∷ bs) = stop_at p b bs (p b) refl (after_stops p bs)

pub not_empty : (bs : List ℕ) → (bs ≡ [] → ⊥) → is_empty bs ≡ false
not_empty [] h = absurd (h refl)
not_empty (b ∷ bs) h = refl

pub some_again : (p : ℕ → Bool) (u rest : List ℕ) → list_all p u ≡ true → (u ≡ [] → ⊥) → Stops p rest → some_of p (u ++ rest) ≡ Some (u, rest)
unfolding some_of
some_again p u rest all some stops =
    let r = run_again p u rest all stops in
    let a = after_again p u rest all stops in
    let e = not_empty u some in
    simp (r, a, e)

-- what some_of takes
pub record SomeTaken (p : ℕ → Bool) (bs u rest : List ℕ) : Type 0 where
  pub whole : bs ≡ u ++ rest
  pub all : list_all p u ≡ true
  pub some : u ≡ [] → ⊥
  pub stops : Stops p rest

pub some_taken : (p : ℕ → Bool) (bs u rest : List ℕ) → some_of p bs ≡ Some (u, rest) → SomeTaken p bs u rest
unfolding some_of
some_taken p bs u rest e = at (run p bs) (after p bs) (run_whole p bs) (run_all p bs) (after_stops p bs) e
  where
    at : (r a : List ℕ) → bs ≡ r ++ a → list_all p r ≡ true → Stops p a → cond {A = Parser (List ℕ)} (is_empty r) (λ bs. None) (λ bs. Some (r, bs)) a ≡ done u rest → SomeTaken p bs u rest
    at [] a w all stops e = absurd (cc)
    at (b ∷ r) a w all stops e =
        let same = done_parts (b ∷ r) u a rest e in
        record {
          whole = w ∙ ap (λ z. z ++ a) same.0 ∙ ap (λ z. u ++ z) same.1;
          all = subst (λ z. list_all p z ≡ true) same.0 all;
          some = λ n. let bad : b ∷ r ≡ [] = same.0 ∙ n in absurd (cc);
          stops = subst (λ z. Stops p z) same.1 stops;
        }

-- ---- marks

pub strip_again : (mark rest : List ℕ) → strip mark (mark ++ rest) ≡ Some rest
unfolding strip
strip_again [] rest = refl
strip_again (c ∷ mark) rest = let same = eq-eqb c c refl in ap (λ v. cond v (strip mark (mark ++ rest)) None) same ∙ strip_again mark rest

pub strip_taken : (mark bs rest : List ℕ) → strip mark bs ≡ Some rest → bs ≡ mark ++ rest
unfolding strip
strip_taken [] bs rest e = cc
strip_taken (c ∷ mark) [] rest e = absurd (cc)
strip_taken (c ∷ mark) (b ∷ bs) rest e = elim (chosen (b == c) (strip mark bs) None (Some rest) e) [
  | inl x ↦ let h = eqb-true b c x.0 in ap (λ z. z ∷ bs) h ∙ ap (λ z. c ∷ z) (strip_taken mark bs rest x.1)
  | inr x ↦ absurd (cc)
]

pub exactly_again : (mark rest : List ℕ) → exactly mark (mark ++ rest) ≡ Some (tt, rest)
unfolding exactly
exactly_again mark rest = let e = strip_again mark rest in rw e refl

pub exactly_taken : (mark bs rest : List ℕ) (x : Unit {0}) → exactly mark bs ≡ Some (x, rest) → bs ≡ mark ++ rest
unfolding exactly
exactly_taken mark bs rest x e = at (strip mark bs) refl e
  where
    at : (o : Option (List ℕ)) → strip mark bs ≡ o → behind o (λ r. Some (tt, r)) None ≡ done x rest → bs ≡ mark ++ rest
    at (Some r) s e = let same = (done_parts tt x r rest e).1 in strip_taken mark bs r s ∙ ap (λ z. mark ++ z) same
    at None s e = absurd (cc)

pub mark_taken : {A : Type 0} (mark bs : List ℕ) (p q : Parser A) (x : A × List ℕ) → either_mark mark p q bs ≡ Some x
    → ((rest : List ℕ) × (bs ≡ mark ++ rest) × (p rest ≡ Some x)) ⊎ (q bs ≡ Some x)
unfolding either_mark
mark_taken {A} mark bs p q x e = at (strip mark bs) refl e
  where
    at : (o : Option (List ℕ)) → strip mark bs ≡ o → behind o p (q bs) ≡ Some x → ((rest : List ℕ) × (bs ≡ mark ++ rest) × (p rest ≡ Some x)) ⊎ (q bs ≡ Some x)
    at (Some r) s e = inl (r, strip_taken mark bs r s, e)
    at None s e = inr e

pub mark_first : {A : Type 0} (mark bs rest : List ℕ) (p q : Parser A) → strip mark bs ≡ Some rest → either_mark mark p q bs ≡ p rest
unfolding either_mark
mark_first mark bs rest p q e = ap (λ z. behind z p (q bs)) e

pub mark_other : {A : Type 0} (mark bs : List ℕ) (p q : Parser A) → strip mark bs ≡ None → either_mark mark p q bs ≡ q bs
unfolding either_mark
mark_other mark bs p q e = ap (λ z. behind z p (q bs)) e

-- ---- texts

pub checked_again : {A : Type 0} (bytes : List ℕ) (f : List ℕ → A) (rest : List ℕ) → is_utf8 bytes ≡ true → checked bytes f rest ≡ Some (f bytes, rest)
checked_again bytes f rest e = ap (λ v. bind (cond v (Some bytes) None) (λ text. Some (f text, rest))) e

pub record CheckedTaken (A : Type 0) (bytes : List ℕ) (f : List ℕ → A) (rest : List ℕ) (x : A) (end_ : List ℕ) : Type 0 where
  pub utf8 : is_utf8 bytes ≡ true
  pub same : f bytes ≡ x
  pub left : rest ≡ end_

pub checked_taken : {A : Type 0} (bytes : List ℕ) (f : List ℕ → A) (rest : List ℕ) (x : A) (end_ : List ℕ) → checked bytes f rest ≡ Some (x, end_) → CheckedTaken A bytes f rest x end_
checked_taken {A} bytes f rest x end_ e = at (is_utf8 bytes) refl e
  where
    at : (v : Bool) → is_utf8 bytes ≡ v → bind (cond v (Some bytes) None) (λ text. done (f text) rest) ≡ done x end_ → CheckedTaken A bytes f rest x end_
    at true u e = let same = done_parts (f bytes) x rest end_ e in record { utf8 = u; same = same.0; left = same.1 }
    at false u e = absurd (cc)
