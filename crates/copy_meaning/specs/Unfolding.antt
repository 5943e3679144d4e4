-- What a value unfolds to, where `form` tells what each value is. A value may hold itself.
use Rattle.std.specs.Prelude.{◌≡◌, ℕ, suc, List, [], ◌∷◌, Some, slice_get}
use Rattle.chan_values.specs.Tree.{Plain, Kind, Tree, Leaf, Branch, Trees, none, more}

-- a value is plain, or an array or associative array that holds items
pub data Form (A : Type 0) : Type 0 where
  Single : Plain → Form A
  Holds : Kind → List A → Form A

-- so many arrays or associative arrays, each an item of the one before, begin at the value
pub data Chain {A : Type 0} (form : A → Form A) : ℕ → A → Type 0 where
  last : {a : A} {kind : Kind} {items : List A} → form a ≡ Holds kind items → Chain form 1 a
  link : {n : ℕ} {a b : A} {kind : Kind} {items : List A} (i : ℕ) → form a ≡ Holds kind items → slice_get items i ≡ Some b → Chain form n b → Chain form (suc n) a

mutual
  -- the value unfolds to the tree
  pub data Unfolds {A : Type 0} (form : A → Form A) : A → Tree → Type 0 where
    single : {a : A} {plain : Plain} → form a ≡ Single plain → Unfolds form a (Leaf plain)
    holds : {a : A} {kind : Kind} {items : List A} {ts : Trees} → form a ≡ Holds kind items → UnfoldEach form items ts → Unfolds form a (Branch kind ts)

  -- each of the items unfolds to its tree
  pub data UnfoldEach {A : Type 0} (form : A → Form A) : List A → Trees → Type 0 where
    no_item : UnfoldEach form [] none
    an_item : {a : A} {items : List A} {t : Tree} {ts : Trees} → Unfolds form a t → UnfoldEach form items ts → UnfoldEach form (a ∷ items) (more t ts)
