-- A loop that counts its turns up, beside `many_from`, which counts them down.
use Rattle.std.proofs.Common.{◌≡◌, ℕ, suc, ◌+◌, ◌-◌, ◌<◌, ◌≤◌, Bool, true, false, List, ◌++◌, Ok, Err, sym, ap, ◌∙◌, append_assoc, arith}
use Rattle.grammar_rules.specs.declared.word.Word.{Word}
use Rattle.brs_tokens.specs.Tok.{Tok}
use Rattle.grammar_rules.specs.Words.{next}
use Rattle.token_cursor.specs.declared.cursor.ParseError.{ParseError}
use Rattle.token_cursor.specs.declared.cursor.ParseError.TheVariants.{Fault, NoMemory}
use Rattle.token_cursor.specs.Reads.{Gives, Reads}
use Rattle.grammar_rules.specs.Reading.{Outcome, Parser, and_then, pure, choose, many_from, many, trail_from, trail}
use Rattle.grammar_rules.specs.Reading as reading
use Rattle.grammar_rules.proofs.Lists.{choose_first, choose_second}

module _ {A : Type 0} (test : Word → Bool) (p : Parser (List A)) (o : Outcome (List A)) (n at : ℕ) (found : List A) (ts : List Tok) where
  one_more : at < n → o ≡ many_from test p (n - at) found ts → o ≡ many_from test p (suc (n - (at + 1))) found ts
  one_more below e = let turn : n - at ≡ suc (n - (at + 1)) = omega arith in e ∙ ap (λ k. many_from test p k found ts) turn

  more : Parser (List A)
  more = reading.◌>>=◌ p (λ x. many_from test p (n - (at + 1)) (found ++ x))

  pub stops_here : at < n → o ≡ many_from test p (n - at) found ts → test (next ts) ≡ false → o ≡ Ok (found, ts)
  unfolding many_from more
  stops_here below e y = one_more below e ∙ choose_second test more (pure found) ts y

  goes_on : at < n → o ≡ many_from test p (n - at) found ts → test (next ts) ≡ true → o ≡ more ts
  unfolding many_from more
  goes_on below e y = one_more below e ∙ choose_first test more (pure found) ts y

  pub turn_err : (new : List Tok) → at < n → o ≡ many_from test p (n - at) found ts → test (next ts) ≡ true → p ts ≡ Err new → o ≡ Err new
  unfolding more
  turn_err new below e y d = goes_on below e y ∙ ap (λ z. and_then z (λ x. many_from test p (n - (at + 1)) (found ++ x))) d

  pub turn_ok : (x : List A) (new : List Tok) → at < n → o ≡ many_from test p (n - at) found ts → test (next ts) ≡ true → p ts ≡ Ok (x, new)
      → o ≡ many_from test p (n - (at + 1)) (found ++ x) new
  unfolding more
  turn_ok x new below e y d = goes_on below e y ∙ ap (λ z. and_then z (λ x. many_from test p (n - (at + 1)) (found ++ x))) d

  pub no_more : n ≤ at → o ≡ many_from test p (n - at) found ts → o ≡ Ok (found, ts)
  unfolding many_from
  no_more done e = let none : n - at ≡ 0 = omega arith in e ∙ ap (λ k. many_from test p k found ts) none

-- a turn's error is the loop's
pub exits : {A X : Type 0} (view : X → List A) (o : Outcome (List A)) (turn : Outcome (List A)) (e : ParseError) (new : List Tok)
    → (turn ≡ Err new → o ≡ Err new) → Gives view turn (Err e) new → Reads {A = List A} o (Err e) new
exits view o turn Fault new h g = h g
exits view o turn NoMemory new h g = tt

-- the same beside `trail_from`
module _ {A : Type 0} (gs is : Word → Bool) (p q : Parser (List A)) (o : Outcome (List A)) (n at : ℕ) (found : List A) (ts : List Tok) where
  behind : List A → Parser (List A)
  behind g = choose is (reading.◌>>=◌ q (λ x. trail_from gs is p q (n - (at + 1)) (found ++ (g ++ x)))) (pure (found ++ g))

  one_trail : at < n → o ≡ trail_from gs is p q (n - at) found ts → o ≡ trail_from gs is p q (suc (n - (at + 1))) found ts
  one_trail below e = let turn : n - at ≡ suc (n - (at + 1)) = omega arith in e ∙ ap (λ k. trail_from gs is p q k found ts) turn

  pub trail_stops : at < n → o ≡ trail_from gs is p q (n - at) found ts → gs (next ts) ≡ false → o ≡ Ok (found, ts)
  unfolding trail_from behind
  trail_stops below e y = one_trail below e ∙ choose_second gs (reading.◌>>=◌ p behind) (pure found) ts y

  trail_goes : at < n → o ≡ trail_from gs is p q (n - at) found ts → gs (next ts) ≡ true → o ≡ and_then (p ts) behind
  unfolding trail_from behind
  trail_goes below e y = one_trail below e ∙ choose_first gs (reading.◌>>=◌ p behind) (pure found) ts y

  pub gap_err : (new : List Tok) → at < n → o ≡ trail_from gs is p q (n - at) found ts → gs (next ts) ≡ true → p ts ≡ Err new → o ≡ Err new
  gap_err new below e y d = trail_goes below e y ∙ ap (λ z. and_then z behind) d

  pub gap_stops : (g : List A) (mid : List Tok) → at < n → o ≡ trail_from gs is p q (n - at) found ts → gs (next ts) ≡ true → p ts ≡ Ok (g, mid) → is (next mid) ≡ false → o ≡ Ok (found ++ g, mid)
  unfolding behind
  gap_stops g mid below e y d w =
      trail_goes below e y ∙ ap (λ z. and_then z behind) d ∙ choose_second is (reading.◌>>=◌ q (λ x. trail_from gs is p q (n - (at + 1)) (found ++ (g ++ x)))) (pure (found ++ g)) mid w

  item_at : (g : List A) (mid : List Tok) → at < n → o ≡ trail_from gs is p q (n - at) found ts → gs (next ts) ≡ true → p ts ≡ Ok (g, mid) → is (next mid) ≡ true
      → o ≡ and_then (q mid) (λ x. trail_from gs is p q (n - (at + 1)) (found ++ (g ++ x)))
  unfolding behind
  item_at g mid below e y d w =
      trail_goes below e y ∙ ap (λ z. and_then z behind) d ∙ choose_first is (reading.◌>>=◌ q (λ x. trail_from gs is p q (n - (at + 1)) (found ++ (g ++ x)))) (pure (found ++ g)) mid w

  pub item_err : (g : List A) (mid new : List Tok) → at < n → o ≡ trail_from gs is p q (n - at) found ts → gs (next ts) ≡ true → p ts ≡ Ok (g, mid) → is (next mid) ≡ true → q mid ≡ Err new → o ≡ Err new
  item_err g mid new below e y d w k = item_at g mid below e y d w ∙ ap (λ z. and_then z (λ x. trail_from gs is p q (n - (at + 1)) (found ++ (g ++ x)))) k

  pub item_ok : (g x : List A) (mid new : List Tok) → at < n → o ≡ trail_from gs is p q (n - at) found ts → gs (next ts) ≡ true → p ts ≡ Ok (g, mid) → is (next mid) ≡ true → q mid ≡ Ok (x, new)
      → o ≡ trail_from gs is p q (n - (at + 1)) ((found ++ g) ++ x) new
  item_ok g x mid new below e y d w k =
      item_at g mid below e y d w ∙ ap (λ z. and_then z (λ x. trail_from gs is p q (n - (at + 1)) (found ++ (g ++ x)))) k
      ∙ ap (λ z. trail_from gs is p q (n - (at + 1)) z new) (sym (append_assoc found g x))

  pub trail_over : n ≤ at → o ≡ trail_from gs is p q (n - at) found ts → o ≡ Ok (found, ts)
  unfolding trail_from
  trail_over done e = let none : n - at ≡ 0 = omega arith in e ∙ ap (λ k. trail_from gs is p q k found ts) none
