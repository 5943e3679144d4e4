-- Values of two kinds with the same items have the same trees.
use Rattle.std.proofs.Common.{◌≡◌, ℕ, zero, suc, List, [], ◌∷◌, map, Option, Some, refl, ap, ◌∙◌}
use Rattle.std.specs.Prelude.{slice_get, option_map}
use Rattle.chan_values.specs.Tree.{Kind, Tree, Branch}
use Rattle.copy_meaning.specs.Unfolding.{Form, Single, Holds}
use Rattle.copy_meaning.specs.Bounded.{joined, each, opened, closed, tree_within}

abbrev pub carried : {A B : Type 0} → (A → B) → Form A → Form B
carried f (Single p) = Single p
carried f (Holds k items) = Holds k (map f items)

-- `f` leads from each good value to one with the same items, which are good
pub record Alike {A B : Type 0} (form : A → Form A) (form' : B → Form B) (f : A → B) (good : A → Type 0) : Type 0 where
  pub shows : (a : A) → good a → form' (f a) ≡ carried f (form a)
  pub items : (a : A) (k : Kind) (items : List A) (i : ℕ) (b : A) → good a → form a ≡ Holds k items → slice_get items i ≡ Some b → good b

each_alike : {A B : Type 0} (f : A → B) (one : A → Option Tree) (one' : B → Option Tree) (items : List A) → ((i : ℕ) (a : A) → slice_get items i ≡ Some a → one' (f a) ≡ one a) → each one' (map f items) ≡ each one items
each_alike f one one' [] h = refl
each_alike f one one' (a ∷ items) h =
    let p = h 0 a refl in
    let q = each_alike f one one' items (λ i b e. h (suc i) b e) in
    ap (λ o. joined o (each one' (map f items))) p ∙ ap (joined (one a)) q

pub tree_alike : {A B : Type 0} (form : A → Form A) (form' : B → Form B) (f : A → B) (good : A → Type 0) → Alike form form' f good → (n : ℕ) (a : A) → good a → tree_within form' n (f a) ≡ tree_within form n a
tree_alike form form' f good l zero a g = ap closed (l.shows a g) ∙ go (form a)
  where
    go : (s : Form _) → closed (carried f s) ≡ closed s
    go (Single p) = refl
    go (Holds k items) = refl
tree_alike form form' f good l (suc n) a g = ap (opened (tree_within form' n)) (l.shows a g) ∙ go (λ b h. tree_alike form form' f good l n b h) (form a) refl
  where
    go : ((b : _) → good b → tree_within form' n (f b) ≡ tree_within form n b) → (s : Form _) → form a ≡ s → opened (tree_within form' n) (carried f s) ≡ opened (tree_within form n) s
    go rec (Single p) e = refl
    go rec (Holds k items) e = ap (option_map (Branch k)) (each_alike f (tree_within form n) (tree_within form' n) items (λ i b h. rec b (l.items a k items i b g e h)))
