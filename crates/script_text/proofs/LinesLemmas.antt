-- Lines of each kind.
use Rattle.std.proofs.Common.{◌≡◌, ◌≢◌, ℕ, suc, ◌+◌, ◌-◌, ◌^◌, ◌<◌, Bool, true, false, ◌==◌, List, [], ◌∷◌, ◌++◌, length, take, drop, get_or, cond, codes, Option, Some, None, IfSome, MatchOption, Bor, nat_eq, sym, refl, ap, ◌∙◌, subst, arith, append_assoc, length-append, length-drop, add-one, drop-cons, take-append-drop}
use Rattle.std.specs.Cmp.Lexicographic.{pointwise}
use Rattle.std.specs.Fmt.{decimal}
use Rattle.std.specs.List.{find, position, position_or_len}
use Rattle.std.proofs.Math.Seq.{get_or-append_seam, take-append_seam, drop-append-add}
use Rattle.std.proofs.lemmas.List.{append_cancel_right, get_or_append_left, take_all}
use Rattle.std.specs.Str.{bytes_eq}
use Rattle.std.proofs.lemmas.Bool.Decides.{Decides-eqb}
use Rattle.std.proofs.lemmas.Slice.Eq.{strip_suffix_is, bytes_eq-Decides}
use Rattle.std.proofs.lemmas.List.Prefix.{end_rest}
use Rattle.std.proofs.lemmas.List.Sums.{position_or_len_is, passes_at_first}
use Rattle.std.proofs.lemmas.Bool.{cond-true, cond_both, both_ways, eq-eqb, lt-ltb, ltb-true, eqb-true, ne_eqb}
use Rattle.std.proofs.lemmas.Fmt.{decimal_is_IsNumeral}
use Rattle.std.proofs.lemmas.Str.Parse.{digit_at}
use Rattle.script_text.specs.declared.key_words.TheConstants.{NAMED_KEYS}
use Rattle.chan_values.specs.declared.key.Key.{Key}
use Rattle.chan_values.specs.declared.key.Key.TheVariants as key
use Rattle.chan_values.specs.declared.event.Event.{Event}
use Rattle.chan_values.specs.declared.event.Event.TheVariants as event
use Rattle.script_text.specs.Keys.{IsKey, key_text, key_word}
use Rattle.script_text.specs.Lines.{Says, press_word}

differ : (x y : ℕ) (xs ys : List ℕ) → nat_eq x y ≡ false → x ∷ xs ≡ y ∷ ys → ⊥
differ x y xs ys apart e = both_ways _ apart (eq-eqb x y (ap (λ l. get_or l 0 0) e))

-- `strip_suffix` of bytes

abbrev pub StripsEnd : List ℕ → List ℕ → Option (Bor (List ℕ)) → Type 0
StripsEnd s p r = MatchOption r (pointwise nat_eq (drop (length s - length p) s) p ≡ false) (λ x. (pointwise nat_eq (drop (length s - length p) s) p ≡ true) × (x.now ≡ take (length s - length p) s) × (length x.now + length p ≡ length s))

pub strips_end_is : (s p : List ℕ) (r : Option (Bor (List ℕ))) → StripsEnd s p r → MatchOption r ((front : List ℕ) → s ≢ front ++ p) (λ x. s ≡ x.now ++ p)
strips_end_is s p r h = strip_suffix_is Decides-eqb s p r h

-- keys

abbrev pub Spelled : List ℕ → Option Key → Type 0
Spelled word r = IfSome r (λ k. IsKey k × (word ≡ key_text k))

abbrev pub has_word : List ℕ → Key → Bool
has_word word k = bytes_eq (key_word k) word

-- each of the keys has a word of its own
abbrev pub AreNamed : List Key → Type 0
AreNamed [] = Unit {0}
AreNamed (k ∷ ks) = (IsKey k × (key_text k ≡ key_word k)) × AreNamed ks

find_spelled : (word : List ℕ) (ks : List Key) → AreNamed ks → Spelled word (find (has_word word) ks)
find_spelled word [] named = tt
find_spelled word (k ∷ ks) named =
    cond_both (has_word word k) (Some k) (find (has_word word) ks) (Spelled word)
    (λ e. (named.0.0, sym (named.0.1 ∙ (bytes_eq-Decides (key_word k) word).0 e)))
    (λ _. find_spelled word ks named.1)

are_named : AreNamed NAMED_KEYS
are_named =
    ((tt, refl), ((tt, refl), ((tt, refl), ((tt, refl), ((tt, refl), ((tt, refl), ((tt, refl), ((tt, refl), ((tt, refl), ((tt, refl), ((tt, refl), tt)))))))))))

pub named_spelled : (word : List ℕ) (r : Option Key) → r ≡ find (has_word word) NAMED_KEYS → Spelled word r
named_spelled word r is = subst (Spelled word) (sym is) (find_spelled word NAMED_KEYS are_named)

-- a key that is no literal is its word
pub word_alone : (k : Key) → ((c : ℕ) → k ≡ key.Literal c → ⊥) → key_text k ≡ key_word k
word_alone key.Up other = refl
word_alone key.Down other = refl
word_alone key.Left other = refl
word_alone key.Right other = refl
word_alone key.Back other = refl
word_alone key.Play other = refl
word_alone key.Ok other = refl
word_alone key.Rewind other = refl
word_alone key.FastForward other = refl
word_alone key.Replay other = refl
word_alone key.Options other = refl
word_alone (key.Literal c) other = absurd (other c refl)

last_differs : (s a b : List ℕ) (x y : ℕ) → s ≡ a ++ x ∷ [] → s ≡ b ++ y ∷ [] → x ≡ y
last_differs s a b x y p q = let e = sym (end_rest s (x ∷ []) a p) ∙ end_rest s (y ∷ []) b q in cc

press_is_no_release : (a b : List ℕ) → a ++ codes " press" ≡ b ++ codes " release" → ⊥
press_is_no_release a b e =
    let split : a ++ codes " press" ≡ (a ++ codes " pres") ++ 115 ∷ [] = sym (append_assoc a (codes " pres") (115 ∷ [])) in
    let other : b ++ codes " release" ≡ (b ++ codes " releas") ++ 101 ∷ [] = sym (append_assoc b (codes " releas") (101 ∷ [])) in
    let same = last_differs _ _ _ 115 101 split (e ∙ other) in
    absurd (omega arith)

ends_same : (a b : List ℕ) (p q : Bool) → a ++ press_word p ≡ b ++ press_word q → (a ≡ b) × (p ≡ q)
ends_same a b true true e = (append_cancel_right a b _ e, refl)
ends_same a b true false e = absurd (press_is_no_release a b e)
ends_same a b false true e = absurd (press_is_no_release b a (sym e))
ends_same a b false false e = (append_cancel_right a b _ e, refl)

-- what a line says that begins with `key ` and ends so
pub record PressIs (text : List ℕ) (pressed : Bool) (e : Event) : Type 0 where
  pub key : Key
  pub is : e ≡ event.Key key pressed
  pub in_range : IsKey key
  pub spelled : text ≡ key_text key

pub press_found : (text : List ℕ) (pressed : Bool) (e : Event) → Says (codes "key " ++ text ++ press_word pressed) e → PressIs text pressed e
press_found text pressed (event.Key k p) h =
    let same : text ++ press_word pressed ≡ key_text k ++ press_word p = ap (drop 4) h.spelled in
    let parts = ends_same text (key_text k) pressed p same in
    record { key = k; is = ap (event.Key k) (sym parts.1); in_range = h.in_range; spelled = parts.0 }
press_found text pressed (event.Turn a n) h = absurd (differ 107 116 _ _ refl h.spelled)
press_found text pressed (event.Round n) h = absurd (differ 107 114 _ _ refl h.spelled)
press_found text pressed (event.Expire a) h = absurd (differ 107 101 _ _ refl h.spelled)

pub key_line : (rest text word : List ℕ) (r : Option Event) → rest ≡ text ++ word → IfSome r (λ e. Says (codes "key " ++ text ++ word) e)
    → IfSome r (λ e. Says (codes "key " ++ rest) e)
key_line rest text word r is h = subst (λ l. IfSome r (λ e. Says (codes "key " ++ l) e)) (sym is) h

pub key_line_of : (rest text word : List ℕ) (e : Event) → rest ≡ text ++ word → Says (codes "key " ++ rest) e → Says (codes "key " ++ text ++ word) e
key_line_of rest text word e is h = subst (λ l. Says (codes "key " ++ l) e) is h

-- turns

abbrev pub is_space : ℕ → Bool
is_space b = b == 32

no_space : (n i : ℕ) → n < 2 ^ 32 → i < length (decimal n) → is_space (get_or (decimal n) i 0) ≡ false
no_space n i small within =
    let digit = digit_at (decimal n) i (decimal_is_IsNumeral n (omega arith)).0.1 within in
    ne_eqb _ 32 (λ e. omega arith)

space_found : (rest back : List ℕ) (n : ℕ) → n < 2 ^ 32 → rest ≡ decimal n ++ 32 ∷ back → position_or_len is_space rest ≡ length (decimal n)
space_found rest back n small is =
    let long : length rest ≡ length (decimal n) + suc (length back) = ap length is ∙ length-append (decimal n) (32 ∷ back) in
    position_or_len_is is_space rest (length (decimal n)) 0 (omega arith)
    (λ k below. ap (λ s. is_space (get_or s k 0)) is ∙ ap is_space (get_or_append_left (decimal n) (32 ∷ back) 0 k below) ∙ no_space n k small below)
    (λ _. ap (λ s. is_space (get_or s (length (decimal n)) 0)) is ∙ ap is_space (get_or-append_seam (decimal n) 32 back 0))

pub record TurnIs (rest : List ℕ) (at : ℕ) (e : Event) : Type 0 where
  pub actor : ℕ
  pub steps : ℕ
  pub is : e ≡ event.Turn actor steps
  pub actor_small : actor < 2 ^ 32
  pub steps_small : steps < 2 ^ 32
  pub front : take at rest ≡ decimal actor
  pub back : take (length rest - (at + 1)) (drop (at + 1) rest) ≡ decimal steps

position_at : (rest : List ℕ) (n : ℕ) → position_or_len is_space rest ≡ n → n < length rest → position is_space rest ≡ Some n
position_at rest n found within =
    let inside : position_or_len is_space rest < length rest = omega arith in
    cond-true _ (Some (position_or_len is_space rest)) None (lt-ltb _ _ inside) ∙ ap Some found

abbrev pub IsTurn : List ℕ → ℕ → ℕ → Type 0
IsTurn rest a n = (a < 2 ^ 32) × (n < 2 ^ 32) × (rest ≡ decimal a ++ 32 ∷ decimal n)

spaced : (rest : List ℕ) (a n : ℕ) → IsTurn rest a n → position is_space rest ≡ Some (length (decimal a))
spaced rest a n h =
    let found = space_found rest (decimal n) a h.0 h.2 in
    let long : length rest ≡ length (decimal a) + suc (length (decimal n)) = ap length h.2 ∙ length-append (decimal a) (32 ∷ decimal n) in
    position_at rest (length (decimal a)) found (omega arith)

turn_parts : (rest : List ℕ) (at a n : ℕ) → IsTurn rest a n → at ≡ length (decimal a) → TurnIs rest at (event.Turn a n)
turn_parts rest at a n h is =
    let behind : drop (at + 1) rest ≡ decimal n =
    ap (λ k. drop (k + 1) rest) is ∙ ap (drop (length (decimal a) + 1)) h.2 ∙ drop-append-add (decimal a) (32 ∷ decimal n) 1 in
    record {
      actor = a;
      steps = n;
      is = refl;
      actor_small = h.0;
      steps_small = h.1;
      front = ap (λ k. take k rest) is ∙ ap (take (length (decimal a))) h.2 ∙ take-append_seam (decimal a) (32 ∷ decimal n);
      back = take_all _ _ (omega (arith, length-drop (at + 1) rest)) ∙ behind;
    }

turn_line : (rest : List ℕ) (a n : ℕ) → Says (codes "turn " ++ rest) (event.Turn a n) → IsTurn rest a n
turn_line rest a n h =
    let same : rest ≡ decimal a ++ 32 ∷ decimal n = ap (drop 5) h.spelled in
    (h.in_range.0, h.in_range.1, same)

pub turn_found : (rest : List ℕ) (at : ℕ) (e : Event) → Some at ≡ position is_space rest → Says (codes "turn " ++ rest) e → TurnIs rest at e
turn_found rest at (event.Key k p) found h = absurd (differ 116 107 _ _ refl h.spelled)
turn_found rest at (event.Turn a n) found h =
    let turn = turn_line rest a n h in
    let place = found ∙ spaced rest a n turn in
    turn_parts rest at a n turn (let same : at ≡ length (decimal a) = cc in same)
turn_found rest at (event.Round n) found h = absurd (differ 116 114 _ _ refl h.spelled)
turn_found rest at (event.Expire a) found h = absurd (differ 116 101 _ _ refl h.spelled)

none_or_some : (n : ℕ) → ◌≡◌ {A = Option ℕ} None (Some n) → ⊥
none_or_some n e = cc

pub turn_has_space : (rest : List ℕ) (e : Event) → None ≡ position is_space rest → Says (codes "turn " ++ rest) e → ⊥
turn_has_space rest (event.Key k p) none h = differ 116 107 _ _ refl h.spelled
turn_has_space rest (event.Turn a n) none h = none_or_some _ (none ∙ spaced rest a n (turn_line rest a n h))
turn_has_space rest (event.Round n) none h = differ 116 114 _ _ refl h.spelled
turn_has_space rest (event.Expire a) none h = differ 116 101 _ _ refl h.spelled

found_at : (t : Bool) (n at : ℕ) → cond t (Some n) None ≡ Some at → (t ≡ true) × (n ≡ at)
found_at true n at e = (refl, cc)
found_at false n at e = absurd (cc)

pub turn_says : (rest : List ℕ) (at a n : ℕ) → a < 2 ^ 32 → n < 2 ^ 32 → Some at ≡ position is_space rest → take at rest ≡ decimal a
    → take (length rest - (at + 1)) (drop (at + 1) rest) ≡ decimal n → Says (codes "turn " ++ rest) (event.Turn a n)
turn_says rest at a n small_a small_n found front back =
    let hit = found_at _ _ at (sym found) in
    let within : at < length rest = omega (arith, ltb-true _ _ hit.0, hit.1) in
    let space : get_or rest at 0 ≡ 32 = eqb-true _ 32 (ap (λ k. is_space (get_or rest k 0)) (sym hit.1) ∙ passes_at_first is_space rest 0 (ltb-true _ _ hit.0)) in
    let behind : drop (at + 1) rest ≡ decimal n = sym (take_all _ _ (omega (arith, length-drop (at + 1) rest))) ∙ back in
    let mid : drop at rest ≡ get_or rest at 0 ∷ drop (at + 1) rest = rw add-one (drop-cons rest at 0 within) in
    let tail : drop at rest ≡ 32 ∷ decimal n = mid ∙ ap (λ b. b ∷ drop (at + 1) rest) space ∙ ap (λ r. 32 ∷ r) behind in
    let whole : rest ≡ decimal a ++ 32 ∷ decimal n = sym (take-append-drop at rest) ∙ ap (λ f. f ++ drop at rest) front ∙ ap (λ t. decimal a ++ t) tail in
    record { in_range = (small_a, small_n); spelled = ap (λ r. codes "turn " ++ r) whole }
