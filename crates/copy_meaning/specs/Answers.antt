-- What unfolding answers: a value is too deep, else too large, else it has its tree.
use Rattle.std.specs.Prelude.{ℕ, ◌+◌, ◌<◌, ◌≤◌, Option, Some, None, cond, nat_lt}
use Rattle.chan_values.specs.Tree.{Tree, parts}
use Rattle.heap_meaning.specs.Values.{StoreValue}
use Rattle.heap_meaning.specs.Store.{Store}
use Rattle.copy_meaning.specs.Unfolding.{Form, Chain, Unfolds}
use Rattle.copy_meaning.specs.Bounded.{tree_within}
use Rattle.copy_meaning.specs.Forms.{form_in}

pub data Answer : Type 0 where
  Copy : Tree → Answer
  TooDeep : Answer
  TooLarge : Answer

-- too deep where a chain that is longer than the bound begins at the value; else too large where its tree has more parts than this; else its tree
pub data Answers {A : Type 0} (form : A → Form A) (bound most : ℕ) (a : A) : Answer → Type 0 where
  too_deep : Chain form (bound + 1) a → Answers form bound most a TooDeep
  too_large : {t : Tree} → (Chain form (bound + 1) a → ⊥) → Unfolds form a t → most < parts t → Answers form bound most a TooLarge
  whole : {t : Tree} → (Chain form (bound + 1) a → ⊥) → Unfolds form a t → parts t ≤ most → Answers form bound most a (Copy t)

-- what unfolding a value of a store answers, with the bounds of a portable value
abbrev pub Leaves : Store → StoreValue → Answer → Type 0
Leaves store v answer = Answers (form_in store) 64 65536 v answer

abbrev pub answer_of : ℕ → Option Tree → Answer
answer_of most None = TooDeep
answer_of most (Some t) = cond (nat_lt most (parts t)) TooLarge (Copy t)

-- the one answer of unfolding a value of a store
unfoldable pub unfolded : Store → StoreValue → Answer
unfolded store v = answer_of 65536 (tree_within (form_in store) 64 v)
