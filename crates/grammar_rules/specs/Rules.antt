-- Rules of a grammar: relations between a token list and what it spells.
use Rattle.std.specs.Prelude.{◌≡◌, Bool, true, ◌⊎◌, List, [], ◌∷◌, ◌++◌, Option, Some, None}
use Rattle.grammar_rules.specs.declared.word.Word.{Word}
use Rattle.brs_tokens.specs.Tok.{Tok}
use Rattle.grammar_rules.specs.Words.{word_of}

abbrev pub Rule : Type 0 → Type 1
Rule A = List Tok → A → Type 0

-- one token whose word passes the test
abbrev pub One : (Word → Bool) → Rule Tok
One test ts t = (ts ≡ t ∷ []) × (test (word_of t) ≡ true)

-- no token at all
abbrev pub Pure : {A : Type 0} → A → Rule A
Pure a ts b = (ts ≡ []) × (b ≡ a)

-- nothing
abbrev pub Never : {A : Type 0} → Rule A
Never ts a = ⊥

-- a front by one rule, and the rest by another
pub record Splits (A B : Type 0) (r : List Tok → A → Type 0) (s : A → List Tok → B → Type 0) (ts : List Tok) (b : B) : Type 0 where
  pub front : List Tok
  pub back : List Tok
  pub value : A
  pub cut : ts ≡ front ++ back
  pub first : r front value
  pub second : s value back b

infixl 10 ◌>>=◌
abbrev pub ◌>>=◌ : {A B : Type 0} → Rule A → (A → Rule B) → Rule B
r >>= s = Splits _ _ r s

infixl 10 ◌>>◌
abbrev pub ◌>>◌ : {A B : Type 0} → Rule A → Rule B → Rule B
r >> s = Splits _ _ r (λ _. s)

abbrev pub Either : {A : Type 0} → Rule A → Rule A → Rule A
Either r s ts a = r ts a ⊎ s ts a

-- any number of turns, each with a list of its own
abbrev pub Turns : {A : Type 0} → Rule (List A) → List Tok → List (List A) → Type 0
Turns r ts [] = ts ≡ []
Turns r ts (x ∷ xs) = (front : List Tok) × (back : List Tok) × (ts ≡ front ++ back) × r front x × Turns r back xs

abbrev pub joined : {A : Type 0} → List (List A) → List A
joined [] = []
joined (x ∷ xs) = x ++ joined xs

abbrev pub Many : {A : Type 0} → Rule (List A) → Rule (List A)
Many r ts all = (turns : List (List _)) × Turns r ts turns × (all ≡ joined turns)

-- Items with gaps between, and at most one gap at the end; a gap and an item each have a list.
abbrev pub Trail : {A : Type 0} → Rule (List A) → Rule (List A) → List Tok → List (List A × List A) → Option (List A) → Type 0
Trail gap item ts [] None = ts ≡ []
Trail gap item ts [] (Some g) = gap ts g
Trail gap item ts (t ∷ more) last =
    (front : List Tok) × (mid : List Tok) × (back : List Tok) × (ts ≡ front ++ (mid ++ back)) × gap front t.0 × item mid t.1 × Trail gap item back more last

abbrev pub trailed : {A : Type 0} → List (List A × List A) → Option (List A) → List A
trailed [] None = []
trailed [] (Some g) = g
trailed (t ∷ more) last = (t.0 ++ t.1) ++ trailed more last

-- { gap item } [ gap ]
abbrev pub Trailing : {A : Type 0} → Rule (List A) → Rule (List A) → Rule (List A)
Trailing gap item ts all = (turns : List (List _ × List _)) × (last : Option (List _)) × Trail gap item ts turns last × (all ≡ trailed turns last)

-- [ last ]
abbrev pub Optional : {A : Type 0} → Rule A → Rule (Option A)
Optional r = Either (r >>= λ a. Pure (Some a)) (Pure None)

-- what a row of turns and at most one last turn of another kind gives
pub record Ending (A B : Type 0) : Type 0 where
  pub turns : List A
  pub last : Option B

-- { turn } [ last ]
abbrev pub Ended : {A B : Type 0} → Rule (List A) → Rule B → Rule (Ending A B)
Ended turn last = Many turn >>= λ xs. Optional last >>= λ y. Pure (record { turns = xs; last = y })

-- some tokens of the rule begin so
abbrev pub Begins : {A : Type 0} → Rule A → List Tok → Type 0
Begins r ts = (more : List Tok) × (a : _) × r (ts ++ more) a
