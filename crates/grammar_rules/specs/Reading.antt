-- Reading with one token ahead: what it is to read a rule's word off the front of a list, or to stop at a token.
use Rattle.std.specs.Prelude.{ℕ, zero, suc, Bool, if◌then◌else◌, List, [], ◌∷◌, ◌++◌, length, Option, None, Some, Result, Ok, Err}
use Rattle.grammar_rules.specs.declared.word.Word.{Word}
use Rattle.brs_tokens.specs.Tok.{Tok}
use Rattle.grammar_rules.specs.Words.{next, word_of}
use Rattle.grammar_rules.specs.Rules.{Ending}

-- A value and the rest, or the rest from the token on that stops the reading.
abbrev pub Outcome : Type 0 → Type 0
Outcome A = Result (A × List Tok) (List Tok)

abbrev pub Parser : Type 0 → Type 0
Parser A = List Tok → Outcome A

abbrev pub and_then : {A B : Type 0} → Outcome A → (A → Parser B) → Outcome B
and_then (Ok p) f = f p.0 p.1
and_then (Err e) f = Err e

infixl 10 ◌>>=◌
abbrev pub ◌>>=◌ : {A B : Type 0} → Parser A → (A → Parser B) → Parser B
p >>= f = λ ts. and_then (p ts) f

infixl 10 ◌>>◌
abbrev pub ◌>>◌ : {A B : Type 0} → Parser A → Parser B → Parser B
p >> q = λ ts. and_then (p ts) (λ _. q)

abbrev pub pure : {A : Type 0} → A → Parser A
pure a = λ ts. Ok (a, ts)

abbrev pub refuse : {A : Type 0} → Parser A
refuse = λ ts. Err ts

unfoldable pub one : (Word → Bool) → Parser Tok
one test [] = Err []
one test (t ∷ ts) = if test (word_of t) then Ok (t, ts) else Err (t ∷ ts)

-- the first where the next token passes the test, else the second
abbrev pub choose : {A : Type 0} → (Word → Bool) → Parser A → Parser A → Parser A
choose test p q = λ ts. if test (next ts) then p ts else q ts

-- turns while the next token passes the test; each takes a token, so their number is no limit
unfoldable pub many_from : {A : Type 0} → (Word → Bool) → Parser (List A) → ℕ → List A → Parser (List A)
many_from test turn zero found = pure found
many_from test turn (suc n) found = choose test (turn >>= λ more. many_from test turn n (found ++ more)) (pure found)

unfoldable pub many : {A : Type 0} → (Word → Bool) → Parser (List A) → Parser (List A)
many test turn = λ ts. many_from test turn (length ts) [] ts

-- gaps and items in turn, from a gap on; it may end behind a gap
unfoldable pub trail_from : {A : Type 0} → (Word → Bool) → (Word → Bool) → Parser (List A) → Parser (List A) → ℕ → List A → Parser (List A)
trail_from gaps items gap item zero found = pure found
trail_from gaps items gap item (suc n) found =
    choose gaps (gap >>= λ g. choose items (item >>= λ x. trail_from gaps items gap item n (found ++ (g ++ x))) (pure (found ++ g))) (pure found)

unfoldable pub trail : {A : Type 0} → (Word → Bool) → (Word → Bool) → Parser (List A) → Parser (List A) → Parser (List A)
trail gaps items gap item = λ ts. trail_from gaps items gap item (length ts) [] ts

abbrev pub optional : {A : Type 0} → (Word → Bool) → Parser A → Parser (Option A)
optional test p = choose test (p >>= λ a. pure (Some a)) (pure None)

-- Turns of two kinds, and at most one last turn. The second kind and the last turn have one beginning, `head`; a word of the third test behind
-- it tells that a turn goes on.
unfoldable pub ended_from : {A B E : Type 0} → (Word → Bool) → (Word → Bool) → (Word → Bool) → Parser (List A) → Parser E → (E → Parser (List A)) → (E → Parser B) → ℕ → List A → Parser (Ending A B)
ended_from turns heads again turn head other last zero found = pure (record { turns = found; last = None })
ended_from turns heads again turn head other last (suc n) found =
    choose turns (turn >>= λ x. ended_from turns heads again turn head other last n (found ++ x))
    (choose heads (head >>= λ e. choose again (other e >>= λ x. ended_from turns heads again turn head other last n (found ++ x)) (last e >>= λ y. pure (record { turns = found; last = Some y })))
    (pure (record { turns = found; last = None })))

unfoldable pub ended : {A B E : Type 0} → (Word → Bool) → (Word → Bool) → (Word → Bool) → Parser (List A) → Parser E → (E → Parser (List A)) → (E → Parser B) → Parser (Ending A B)
ended turns heads again turn head other last = λ ts. ended_from turns heads again turn head other last (length ts) [] ts

-- not at the number 0
abbrev pub nested : {A : Type 0} → ℕ → Parser A → Parser A
nested zero p = refuse
nested (suc n) p = p

-- nothing is left
unfoldable pub end : Parser (Unit {0})
end [] = Ok (tt, [])
end (t ∷ ts) = Err (t ∷ ts)

unfoldable pub finish : {A : Type 0} → A → Parser A
finish a = end >> pure a

-- nothing may follow
unfoldable pub whole : {A : Type 0} → Parser A → Parser A
whole p = p >>= finish
