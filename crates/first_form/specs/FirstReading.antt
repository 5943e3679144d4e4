-- The reading of a first form from the front of a token list, one token ahead.
use Rattle.std.specs.Prelude.{ℕ, zero, suc, Bool, false, ◌||◌, List, [], ◌∷◌, ◌++◌, length, Option, Some, None, if◌then◌else◌, codes}
use Rattle.brs_tokens.specs.Tok.{Tok}
use Rattle.first_form.specs.FirstForm.{is_newline, is_name, is_text, is_keyword, is_named, is_sign, the, name_of, words_of, sign_of, operand_of, names_good}
use Rattle.first_form.specs.declared.tree.FirstMain.{FirstMain}
use Rattle.first_form.specs.declared.tree.Line.{Line}
use Rattle.first_form.specs.declared.tree.Line.TheVariants.{Assign, Print}
use Rattle.first_form.specs.declared.tree.PrintItem.{PrintItem}
use Rattle.first_form.specs.declared.tree.PrintItem.TheVariants as item
use Rattle.first_form.specs.declared.tree.Sum.{Sum}
use Rattle.first_form.specs.declared.tree.Term.{Term}

-- a value and the rest, or none where the tokens don't begin with a word of the rule
abbrev pub Outcome : Type 0 → Type 0
Outcome A = Option (A × List Tok)

abbrev pub Reading : Type 0 → Type 0
Reading A = List Tok → Outcome A

abbrev pub and_then : {A B : Type 0} → Outcome A → (A → Reading B) → Outcome B
and_then None f = None
and_then (Some p) f = f p.0 p.1

infixl 10 ◌>>=◌
abbrev pub ◌>>=◌ : {A B : Type 0} → Reading A → (A → Reading B) → Reading B
p >>= f = λ ts. and_then (p ts) f

infixl 10 ◌>>◌
abbrev pub ◌>>◌ : {A B : Type 0} → Reading A → Reading B → Reading B
p >> q = λ ts. and_then (p ts) (λ _. q)

abbrev pub pure : {A : Type 0} → A → Reading A
pure a = λ ts. Some (a, ts)

abbrev pub followed_by : {A : Type 0} → Option A → List Tok → Outcome A
followed_by None ts = None
followed_by (Some a) ts = Some (a, ts)

-- what the next token tells
abbrev pub one : {A : Type 0} → (Tok → Option A) → Reading A
one value [] = None
one value (t ∷ ts) = followed_by (value t) ts

-- whether the next token passes a test
abbrev pub at : (Tok → Bool) → List Tok → Bool
at test [] = false
at test (t ∷ ts) = test t

abbrev pub choose : {A : Type 0} → (List Tok → Bool) → Reading A → Reading A → Reading A
choose test p q = λ ts. if test ts then p ts else q ts

-- turns while the test holds; each takes a token, so their number is no limit
unfoldable pub many_from : {A : Type 0} → (List Tok → Bool) → Reading (List A) → ℕ → List A → Reading (List A)
many_from test turn zero found = pure found
many_from test turn (suc n) found = choose test (turn >>= λ more. many_from test turn n (found ++ more)) (pure found)

unfoldable pub many : {A : Type 0} → (List Tok → Bool) → Reading (List A) → Reading (List A)
many test turn = λ ts. many_from test turn (length ts) [] ts

-- ---- the rules

abbrev pub at_operator : List Tok → Bool
at_operator ts = at (is_sign (codes "+")) ts || at (is_sign (codes "-")) ts

abbrev pub at_print : List Tok → Bool
at_print = at (is_keyword (codes "print"))

abbrev pub at_line : List Tok → Bool
at_line ts = at is_newline ts || (at_print ts || at is_name ts)

unfoldable pub read_term : Reading (List Term)
read_term = do
  sign ← one sign_of
  operand ← one operand_of
  pure (record { sign = sign; operand = operand } ∷ [])

unfoldable pub read_sum : Reading Sum
read_sum = do
  first ← one operand_of
  more ← many at_operator read_term
  pure (record { first = first; more = more })

unfoldable pub read_words : Reading PrintItem
read_words = do
  words ← one words_of
  pure (item.Words words)

unfoldable pub read_printed_sum : Reading PrintItem
read_printed_sum = do
  sum ← read_sum
  pure (item.Sum sum)

unfoldable pub read_item : Reading PrintItem
read_item = choose (at is_text) read_words read_printed_sum

unfoldable pub read_further_item : Reading (List PrintItem)
read_further_item = do
  one (the (is_sign (codes ";")))
  x ← read_item
  pure (x ∷ [])

unfoldable pub read_blank_line : Reading (List Line)
read_blank_line = do
  one (the is_newline)
  pure []

unfoldable pub read_assignment : Reading (List Line)
read_assignment = do
  target ← one name_of
  one (the (is_sign (codes "=")))
  sum ← read_sum
  one (the is_newline)
  pure (Assign target sum ∷ [])

unfoldable pub read_items : Reading (List PrintItem)
read_items = do
  first ← read_item
  more ← many (at (is_sign (codes ";"))) read_further_item
  pure (first ∷ more)

unfoldable pub read_print : Reading (List Line)
read_print = do
  one (the (is_keyword (codes "print")))
  items ← read_items
  one (the is_newline)
  pure (Print items ∷ [])

unfoldable pub read_line : Reading (List Line)
read_line = choose (at is_newline) read_blank_line (choose at_print read_print read_assignment)

unfoldable pub read_possible_newline : Reading (Unit {0})
read_possible_newline = choose (at is_newline) (one (the is_newline)) (pure tt)

unfoldable pub read_head : Reading (Unit {0})
read_head = do
  one (the (is_keyword (codes "sub")))
  one (the (is_named (codes "main")))
  one (the (is_sign (codes "(")))
  one (the (is_sign (codes ")")))
  one (the is_newline)

unfoldable pub read_end : Reading (Unit {0})
read_end = do
  one (the (is_keyword (codes "end")))
  one (the (is_keyword (codes "sub")))
  read_possible_newline

unfoldable pub read_main : Reading (List Line)
read_main = do
  read_head
  lines ← many at_line read_line
  read_end
  pure lines

-- the tree, where nothing is left and the names are good
abbrev pub checked : Outcome (List Line) → Option FirstMain
checked None = None
checked (Some (lines, [])) = if names_good lines then Some (record { lines = lines }) else None
checked (Some (lines, t ∷ ts)) = None

-- the tree of a token list, where it is of the first form
unfoldable pub first_of : List Tok → Option FirstMain
first_of ts = checked (read_main ts)
