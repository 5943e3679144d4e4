-- The first fault of a token list, from the rule alone.
use Rattle.std.specs.Prelude.{◌≡◌, ℕ, suc, ◌<◌, ◌≤◌, List, [], ◌++◌, length, take}
use Rattle.brs_tokens.specs.Tok.{Tok}

-- Some word of the rule begins with the tokens up to and including the one at k, where the end counts as a token.
pub record Goes (A : Type 0) (r : List Tok → A → Type 0) (ts : List Tok) (k : ℕ) : Type 0 where
  pub more : List Tok
  pub value : A
  pub spells : r (take (suc k) ts ++ more) value
  pub ends : length ts ≤ k → more ≡ []

-- the token at k, or the end, is the first up to which no word begins so
pub record FirstFault (A : Type 0) (r : List Tok → A → Type 0) (ts : List Tok) (k : ℕ) : Type 0 where
  pub within : k ≤ length ts
  pub here : Goes A r ts k → ⊥
  pub before : (j : ℕ) → j < k → Goes A r ts j
