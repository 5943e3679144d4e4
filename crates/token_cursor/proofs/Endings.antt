-- A loop that counts its turns up, beside `ended_from`, which counts them down.
use Rattle.std.proofs.Common.{◌≡◌, ℕ, suc, ◌+◌, ◌-◌, ◌<◌, ◌≤◌, Bool, true, false, List, ◌++◌, Option, Some, None, Ok, Err, ap, ◌∙◌, arith}
use Rattle.brs_tokens.specs.Tok.{Tok}
use Rattle.grammar_rules.specs.declared.word.Word.{Word}
use Rattle.grammar_rules.specs.Rules.{Ending}
use Rattle.grammar_rules.specs.Words.{next}
use Rattle.grammar_rules.specs.Reading.{Outcome, Parser, and_then, pure, choose, ended_from, ended}
use Rattle.grammar_rules.specs.Reading as reading
use Rattle.token_cursor.specs.declared.cursor.ParseError.{ParseError}
use Rattle.token_cursor.specs.declared.cursor.ParseError.TheVariants.{Fault, NoMemory}
use Rattle.token_cursor.specs.Reads.{Gives}
use Rattle.grammar_rules.proofs.Lists.{choose_first, choose_second}

module _ {A B E : Type 0} (t h a : Word → Bool) (p : Parser (List A)) (q : Parser E) (r : E → Parser (List A)) (s : E → Parser B) (o : Outcome (Ending A B)) (n at : ℕ) (found : List A) (ts : List Tok) where
  abbrev rest : List A → Parser (Ending A B)
  rest xs = ended_from t h a p q r s (n - (at + 1)) xs

  abbrev final : Option B → Ending A B
  final y = record { turns = found; last = y }

  goes : List A → Parser (Ending A B)
  goes x = rest (found ++ x)

  ends : E → Parser (Ending A B)
  ends e = reading.◌>>=◌ (s e) (λ y. pure (final (Some y)))

  behind : E → Parser (Ending A B)
  behind e = choose a (reading.◌>>=◌ (r e) goes) (ends e)

  headed : Parser (Ending A B)
  headed = choose h (reading.◌>>=◌ q behind) (pure (final None))

  one_turn : at < n → o ≡ ended_from t h a p q r s (n - at) found ts → o ≡ choose t (reading.◌>>=◌ p goes) headed ts
  unfolding ended_from goes ends behind headed
  one_turn below e = let turn : n - at ≡ suc (n - (at + 1)) = omega arith in e ∙ ap (λ k. ended_from t h a p q r s k found ts) turn

  at_turn : at < n → o ≡ ended_from t h a p q r s (n - at) found ts → t (next ts) ≡ true → o ≡ and_then (p ts) goes
  at_turn below e y = one_turn below e ∙ choose_first t (reading.◌>>=◌ p goes) headed ts y

  pub turn_err : (new : List Tok) → at < n → o ≡ ended_from t h a p q r s (n - at) found ts → t (next ts) ≡ true → p ts ≡ Err new → o ≡ Err new
  turn_err new below e y d = at_turn below e y ∙ ap (λ z. and_then z goes) d

  pub turn_ok : (x : List A) (new : List Tok) → at < n → o ≡ ended_from t h a p q r s (n - at) found ts → t (next ts) ≡ true → p ts ≡ Ok (x, new)
      → o ≡ ended_from t h a p q r s (n - (at + 1)) (found ++ x) new
  unfolding goes
  turn_ok x new below e y d = at_turn below e y ∙ ap (λ z. and_then z goes) d

  past_turn : at < n → o ≡ ended_from t h a p q r s (n - at) found ts → t (next ts) ≡ false → o ≡ headed ts
  past_turn below e y = one_turn below e ∙ choose_second t (reading.◌>>=◌ p goes) headed ts y

  pub stops_here : at < n → o ≡ ended_from t h a p q r s (n - at) found ts → t (next ts) ≡ false → h (next ts) ≡ false → o ≡ Ok (final None, ts)
  unfolding headed
  stops_here below e y z = past_turn below e y ∙ choose_second h (reading.◌>>=◌ q behind) (pure (final None)) ts z

  at_head : at < n → o ≡ ended_from t h a p q r s (n - at) found ts → t (next ts) ≡ false → h (next ts) ≡ true → o ≡ and_then (q ts) behind
  unfolding headed
  at_head below e y z = past_turn below e y ∙ choose_first h (reading.◌>>=◌ q behind) (pure (final None)) ts z

  pub head_err : (new : List Tok) → at < n → o ≡ ended_from t h a p q r s (n - at) found ts → t (next ts) ≡ false → h (next ts) ≡ true → q ts ≡ Err new → o ≡ Err new
  head_err new below e y z d = at_head below e y z ∙ ap (λ x. and_then x behind) d

  past_head : (b : E) (mid : List Tok) → at < n → o ≡ ended_from t h a p q r s (n - at) found ts → t (next ts) ≡ false → h (next ts) ≡ true → q ts ≡ Ok (b, mid) → o ≡ behind b mid
  past_head b mid below e y z d = at_head below e y z ∙ ap (λ x. and_then x behind) d

  at_last : (b : E) (mid : List Tok) → at < n → o ≡ ended_from t h a p q r s (n - at) found ts → t (next ts) ≡ false → h (next ts) ≡ true → q ts ≡ Ok (b, mid) → a (next mid) ≡ false
      → o ≡ and_then (s b mid) (λ y. pure (final (Some y)))
  unfolding behind ends
  at_last b mid below e y z d w = past_head b mid below e y z d ∙ choose_second a (reading.◌>>=◌ (r b) goes) (ends b) mid w

  pub last_err : (b : E) (mid new : List Tok) → at < n → o ≡ ended_from t h a p q r s (n - at) found ts → t (next ts) ≡ false → h (next ts) ≡ true → q ts ≡ Ok (b, mid) → a (next mid) ≡ false
      → s b mid ≡ Err new → o ≡ Err new
  last_err b mid new below e y z d w k = at_last b mid below e y z d w ∙ ap (λ x. and_then x (λ y. pure (final (Some y)))) k

  pub last_ok : (b : E) (x : B) (mid new : List Tok) → at < n → o ≡ ended_from t h a p q r s (n - at) found ts → t (next ts) ≡ false → h (next ts) ≡ true → q ts ≡ Ok (b, mid) → a (next mid) ≡ false
      → s b mid ≡ Ok (x, new) → o ≡ Ok (final (Some x), new)
  last_ok b x mid new below e y z d w k = at_last b mid below e y z d w ∙ ap (λ x. and_then x (λ y. pure (final (Some y)))) k

  at_other : (b : E) (mid : List Tok) → at < n → o ≡ ended_from t h a p q r s (n - at) found ts → t (next ts) ≡ false → h (next ts) ≡ true → q ts ≡ Ok (b, mid) → a (next mid) ≡ true
      → o ≡ and_then (r b mid) goes
  unfolding behind
  at_other b mid below e y z d w = past_head b mid below e y z d ∙ choose_first a (reading.◌>>=◌ (r b) goes) (ends b) mid w

  pub other_err : (b : E) (mid new : List Tok) → at < n → o ≡ ended_from t h a p q r s (n - at) found ts → t (next ts) ≡ false → h (next ts) ≡ true → q ts ≡ Ok (b, mid) → a (next mid) ≡ true
      → r b mid ≡ Err new → o ≡ Err new
  other_err b mid new below e y z d w k = at_other b mid below e y z d w ∙ ap (λ x. and_then x goes) k

  pub other_ok : (b : E) (x : List A) (mid new : List Tok) → at < n → o ≡ ended_from t h a p q r s (n - at) found ts → t (next ts) ≡ false → h (next ts) ≡ true → q ts ≡ Ok (b, mid) → a (next mid) ≡ true
      → r b mid ≡ Ok (x, new) → o ≡ ended_from t h a p q r s (n - (at + 1)) (found ++ x) new
  unfolding goes
  other_ok b x mid new below e y z d w k = at_other b mid below e y z d w ∙ ap (λ x. and_then x goes) k

  pub no_more : n ≤ at → o ≡ ended_from t h a p q r s (n - at) found ts → o ≡ Ok (final None, ts)
  unfolding ended_from
  no_more done e = let none : n - at ≡ 0 = omega arith in e ∙ ap (λ k. ended_from t h a p q r s k found ts) none

-- an error of a part is the loop's
pub exits : {X Y Z W : Type 0} (view : X → Y) (out : Z → W) (o : Outcome W) (part : Outcome Y) (e : ParseError) (new : List Tok)
    → (part ≡ Err new → o ≡ Err new) → Gives view part (Err e) new → Gives out o (Err e) new
exits view out o part Fault new f g = f g
exits view out o part NoMemory new f g = tt
