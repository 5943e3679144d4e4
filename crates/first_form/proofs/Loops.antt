-- A loop that counts its turns up, beside `many_from`, which counts them down.
use Rattle.std.proofs.Common.{◌≡◌, ℕ, suc, ◌+◌, ◌-◌, ◌<◌, ◌≤◌, Bool, true, false, List, ◌++◌, Some, None, Err, cond, ap, ◌∙◌, arith}
use Rattle.brs_tokens.specs.Tok.{Tok}
use Rattle.first_form.specs.declared.cursor.Stop.{Stop}
use Rattle.first_form.specs.declared.cursor.Stop.TheVariants.{NotFirst, NoMemory}
use Rattle.first_form.specs.FirstReading.{Outcome, Reading, and_then, pure, many_from}
use Rattle.first_form.specs.FirstReading as reading
use Rattle.first_form.specs.FirstStop.{Reads, ReadsItems}

module _ {A : Type 0} (test : List Tok → Bool) (p : Reading (List A)) (o : Outcome (List A)) (n at : ℕ) (found : List A) (ts : List Tok) where
  more : Reading (List A)
  more = reading.◌>>=◌ p (λ x. many_from test p (n - (at + 1)) (found ++ x))

  one_more : at < n → o ≡ many_from test p (n - at) found ts → o ≡ many_from test p (suc (n - (at + 1))) found ts
  one_more below e = let turn : n - at ≡ suc (n - (at + 1)) = omega arith in e ∙ ap (λ k. many_from test p k found ts) turn

  pub stops_here : at < n → o ≡ many_from test p (n - at) found ts → test ts ≡ false → o ≡ Some (found, ts)
  unfolding many_from more
  stops_here below e y = one_more below e ∙ ap (λ b. cond b (more ts) (pure found ts)) y

  goes_on : at < n → o ≡ many_from test p (n - at) found ts → test ts ≡ true → o ≡ more ts
  unfolding many_from more
  goes_on below e y = one_more below e ∙ ap (λ b. cond b (more ts) (pure found ts)) y

  pub turn_none : at < n → o ≡ many_from test p (n - at) found ts → test ts ≡ true → p ts ≡ None → o ≡ None
  unfolding more
  turn_none below e y d = goes_on below e y ∙ ap (λ z. and_then z (λ x. many_from test p (n - (at + 1)) (found ++ x))) d

  pub turn_some : (x : List A) (new : List Tok) → at < n → o ≡ many_from test p (n - at) found ts → test ts ≡ true → p ts ≡ Some (x, new)
      → o ≡ many_from test p (n - (at + 1)) (found ++ x) new
  unfolding more
  turn_some x new below e y d = goes_on below e y ∙ ap (λ z. and_then z (λ x. many_from test p (n - (at + 1)) (found ++ x))) d

  pub no_more : n ≤ at → o ≡ many_from test p (n - at) found ts → o ≡ Some (found, ts)
  unfolding many_from
  no_more done e = let none : n - at ≡ 0 = omega arith in e ∙ ap (λ k. many_from test p k found ts) none

-- where a turn stops, the loop stops
pub exits : {A : Type 0} (o : Outcome (List A)) (turn : Outcome (List A)) (e : Stop) (new : List Tok)
    → (turn ≡ None → o ≡ None) → ReadsItems {A = A} turn (Err e) new → Reads {A = List A} o (Err e) new
exits o turn NotFirst new h g = h g
exits o turn NoMemory new h g = tt
