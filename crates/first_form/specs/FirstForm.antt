-- The grammar of the first form: which token lists spell which tree.
use Rattle.std.specs.Prelude.{◌≡◌, ℕ, pos, ◌+◌, ◌-◌, ◌*◌, ◌^◌, nat_lt, nat_le, Bool, true, false, ◌&&◌, not, ◌⊎◌, List, [], ◌∷◌, ◌++◌, length, take, drop, Option, Some, None, option_map, if◌then◌else◌, codes}
use Rattle.std.specs.List.{list_all}
use Rattle.std.specs.Str.{bytes_eq, all_ascii_digits}
use Rattle.chan_values.specs.Folded.{folded}
use Rattle.brs_tokens.specs.Tok.{Tok}
use Rattle.brs_tokens.specs.declared.token.TokenKind.{TokenKind}
use Rattle.brs_tokens.specs.declared.token.TokenKind.TheVariants as kind
use Rattle.first_form.specs.FirstNames.{names_set}
use Rattle.first_form.specs.declared.tree.FirstMain.{FirstMain}
use Rattle.first_form.specs.declared.tree.Line.{Line}
use Rattle.first_form.specs.declared.tree.Line.TheVariants.{Assign, Print}
use Rattle.first_form.specs.declared.tree.PrintItem.{PrintItem}
use Rattle.first_form.specs.declared.tree.PrintItem.TheVariants as item
use Rattle.first_form.specs.declared.tree.Sum.{Sum}
use Rattle.first_form.specs.declared.tree.Term.{Term}
use Rattle.first_form.specs.declared.tree.Sign.{Sign}
use Rattle.first_form.specs.declared.tree.Sign.TheVariants.{Plus, Minus}
use Rattle.first_form.specs.declared.tree.Operand.{Operand}
use Rattle.first_form.specs.declared.tree.Operand.TheVariants.{Number, Name}

-- ---- tokens

abbrev pub all_ascii : List ℕ → Bool
all_ascii bytes = list_all (λ b. nat_lt b 128) bytes

-- the number that decimal digits spell, after those that spell n
abbrev pub decimal_after : ℕ → List ℕ → ℕ
decimal_after n [] = n
decimal_after n (digit ∷ digits) = decimal_after (10 * n + (digit - 48)) digits

-- the number of decimal digits, up to 2,147,483,647
abbrev pub number_value : List ℕ → Option ℕ
number_value digits =
    if all_ascii_digits digits && (nat_lt 0 (length digits) && nat_lt (decimal_after 0 digits) (2 ^ 31)) then Some (decimal_after 0 digits) else None

-- a name, folded
abbrev pub name_value : List ℕ → Option (List ℕ)
name_value slice = if all_ascii slice then Some (folded slice) else None

-- what stands between the quotes of a text
abbrev pub words_value : List ℕ → Option (List ℕ)
words_value slice =
    let words = take (length slice - 2) (drop 1 slice) in
    if nat_le 2 (length slice) && all_ascii words then Some words else None

abbrev pub is_kind_newline : TokenKind → Bool
is_kind_newline kind.Newline = true
is_kind_newline _ = false

abbrev pub is_kind_name : TokenKind → Bool
is_kind_name kind.Name = true
is_kind_name _ = false

abbrev pub is_kind_keyword : TokenKind → Bool
is_kind_keyword kind.Keyword = true
is_kind_keyword _ = false

abbrev pub is_kind_text : TokenKind → Bool
is_kind_text kind.Text = true
is_kind_text _ = false

abbrev pub is_kind_sign : TokenKind → Bool
is_kind_sign kind.Sign = true
is_kind_sign _ = false

-- the value of what begins a sum, by its kind
abbrev pub operand_value : TokenKind → List ℕ → Option Operand
operand_value kind.Number slice = option_map (λ n. Number (pos n)) (number_value slice)
operand_value kind.Name slice = option_map Name (name_value slice)
operand_value _ slice = None

abbrev pub is_newline : Tok → Bool
is_newline t = is_kind_newline t.kind

abbrev pub is_name : Tok → Bool
is_name t = is_kind_name t.kind

abbrev pub is_text : Tok → Bool
is_text t = is_kind_text t.kind

-- this keyword, in any case
abbrev pub is_keyword : List ℕ → Tok → Bool
is_keyword word t = is_kind_keyword t.kind && bytes_eq (folded t.slice) (folded word)

-- this name, in any case
abbrev pub is_named : List ℕ → Tok → Bool
is_named word t = is_kind_name t.kind && bytes_eq (folded t.slice) (folded word)

abbrev pub is_sign : List ℕ → Tok → Bool
is_sign spelling t = is_kind_sign t.kind && bytes_eq t.slice spelling

-- what a token tells where it passes a test
abbrev pub when : {A : Type 0} → (Tok → Bool) → (List ℕ → Option A) → Tok → Option A
when test value t = if test t then value t.slice else None

-- a token that has to stand there, and tells nothing
abbrev pub the : (Tok → Bool) → Tok → Option (Unit {0})
the test t = if test t then Some tt else None

abbrev pub name_of : Tok → Option (List ℕ)
name_of = when is_name name_value

abbrev pub words_of : Tok → Option (List ℕ)
words_of = when is_text words_value

abbrev pub sign_of : Tok → Option Sign
sign_of t = if is_sign (codes "+") t then Some Plus else (if is_sign (codes "-") t then Some Minus else None)

abbrev pub operand_of : Tok → Option Operand
operand_of t = operand_value t.kind t.slice

-- ---- rules

abbrev pub Rule : Type 0 → Type 1
Rule A = List Tok → A → Type 0

-- one token, and what it tells
abbrev pub One : {A : Type 0} → (Tok → Option A) → Rule A
One value ts a = (t : Tok) × (ts ≡ t ∷ []) × (value t ≡ Some a)

-- no token
abbrev pub Pure : {A : Type 0} → A → Rule A
Pure a ts b = (ts ≡ []) × (b ≡ a)

-- a front by one rule, and the rest by another
pub record Splits (A B : Type 0) (r : List Tok → A → Type 0) (s : A → List Tok → B → Type 0) (ts : List Tok) (b : B) : Type 0 where
  pub front : List Tok
  pub back : List Tok
  pub value : A
  pub cut : ts ≡ front ++ back
  pub first : r front value
  pub second : s value back b

infixl 10 ◌>>=◌
abbrev pub ◌>>=◌ : {A B : Type 0} → Rule A → (A → Rule B) → Rule B
r >>= s = Splits _ _ r s

infixl 10 ◌>>◌
abbrev pub ◌>>◌ : {A B : Type 0} → Rule A → Rule B → Rule B
r >> s = Splits _ _ r (λ _. s)

abbrev pub Either : {A : Type 0} → Rule A → Rule A → Rule A
Either r s ts a = r ts a ⊎ s ts a

-- one after another, each with a list of its own
abbrev pub Turns : {A : Type 0} → Rule (List A) → List Tok → List (List A) → Type 0
Turns r ts [] = ts ≡ []
Turns r ts (x ∷ xs) = (front : List Tok) × (back : List Tok) × (ts ≡ front ++ back) × r front x × Turns r back xs

abbrev pub joined : {A : Type 0} → List (List A) → List A
joined [] = []
joined (x ∷ xs) = x ++ joined xs

-- any number of turns
abbrev pub Many : {A : Type 0} → Rule (List A) → Rule (List A)
Many r ts all = (turns : List (List _)) × Turns r ts turns × (all ≡ joined turns)

-- ---- the grammar

-- operand = number | name
abbrev pub AnOperand : Rule Operand
AnOperand = One operand_of

-- ( "+" | "-" ) operand
unfoldable pub ATerm : Rule (List Term)
ATerm = do
  sign ← One sign_of
  operand ← AnOperand
  Pure (record { sign = sign; operand = operand } ∷ [])

-- sum = operand { ( "+" | "-" ) operand }
unfoldable pub ASum : Rule Sum
ASum = do
  first ← AnOperand
  more ← Many ATerm
  Pure (record { first = first; more = more })

unfoldable pub Words : Rule PrintItem
Words = do
  words ← One words_of
  Pure (item.Words words)

unfoldable pub PrintedSum : Rule PrintItem
PrintedSum = do
  sum ← ASum
  Pure (item.Sum sum)

-- item = text | sum
abbrev pub AnItem : Rule PrintItem
AnItem = Either Words PrintedSum

-- ";" item
unfoldable pub AFurtherItem : Rule (List PrintItem)
AFurtherItem = do
  One (the (is_sign (codes ";")))
  x ← AnItem
  Pure (x ∷ [])

-- A blank line leaves nothing in the tree.
unfoldable pub ABlankLine : Rule (List Line)
ABlankLine = do
  One (the is_newline)
  Pure []

-- name "=" sum NL
unfoldable pub AnAssignment : Rule (List Line)
AnAssignment = do
  target ← One name_of
  One (the (is_sign (codes "=")))
  sum ← ASum
  One (the is_newline)
  Pure (Assign target sum ∷ [])

-- item { ";" item }
unfoldable pub Items : Rule (List PrintItem)
Items = do
  first ← AnItem
  more ← Many AFurtherItem
  Pure (first ∷ more)

-- "print" item { ";" item } NL
unfoldable pub APrint : Rule (List Line)
APrint = do
  One (the (is_keyword (codes "print")))
  items ← Items
  One (the is_newline)
  Pure (Print items ∷ [])

-- line = [ name "=" sum | "print" item { ";" item } ] NL
abbrev pub ALine : Rule (List Line)
ALine = Either ABlankLine (Either APrint AnAssignment)

-- [ NL ]
abbrev pub APossibleNewline : Rule (Unit {0})
APossibleNewline = Either (One (the is_newline)) (Pure tt)

-- "sub" "main" "(" ")" NL
unfoldable pub AHead : Rule (Unit {0})
AHead = do
  One (the (is_keyword (codes "sub")))
  One (the (is_named (codes "main")))
  One (the (is_sign (codes "(")))
  One (the (is_sign (codes ")")))
  One (the is_newline)

-- "end" "sub" [ NL ]
unfoldable pub AnEnd : Rule (Unit {0})
AnEnd = do
  One (the (is_keyword (codes "end")))
  One (the (is_keyword (codes "sub")))
  APossibleNewline

-- first = "sub" "main" "(" ")" NL { line } "end" "sub" [ NL ]
unfoldable pub AMain : Rule (List Line)
AMain = do
  AHead
  lines ← Many ALine
  AnEnd
  Pure lines

-- ---- names

abbrev pub assigns_m : Line → Bool
assigns_m (Assign target sum) = bytes_eq target (codes "m")
assigns_m (Print items) = false

-- No target is `m`, and each name in a sum is the target of an earlier line.
abbrev pub names_good : List Line → Bool
names_good lines = list_all (λ line. not (assigns_m line)) lines && names_set [] lines

-- these tokens are a source file of the first form, with this tree
pub record IsFirst (ts : List Tok) (tree : FirstMain) : Type 0 where
  pub spelled : AMain ts tree.lines
  pub names : names_good tree.lines ≡ true
