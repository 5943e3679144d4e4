-- A list of actors of which one has changed.
use Rattle.std.proofs.Common.{◌≡◌, ℕ, zero, suc, Bool, true, false, List, [], ◌∷◌, Option, Some, refl, ap}
use Rattle.std.specs.Prelude.{slice_get}
use Rattle.node_tree.specs.Nodes.{changed}
use Rattle.brs_meaning.specs.Answering.{Reply}
use Rattle.world_meaning.specs.Core.{Actor}
use Rattle.world_meaning.specs.Ending.{handed_if, handed}

pub at_changed : {A : Type 0} (P : Option A → Type 0) (f : A → A) (xs : List A) (i j : ℕ) → (i ≡ j → (x : A) → slice_get xs j ≡ Some x → P (Some x) → P (Some (f x))) → P (slice_get xs j) → P (slice_get (changed f xs i) j)
at_changed P f [] i j h p = p
at_changed P f (x ∷ xs) zero zero h p = h refl x refl p
at_changed P f (x ∷ xs) zero (suc j) h p = p
at_changed P f (x ∷ xs) (suc i) zero h p = p
at_changed P f (x ∷ xs) (suc i) (suc j) h p = at_changed P f xs i j (λ e. h (ap suc e)) p

pub posts_handed : (reply : Reply) (x : Actor) → (handed reply x).posts ≡ x.posts
posts_handed reply x = go x.live
  where
    go : (b : Bool) → (handed_if b reply x).posts ≡ x.posts
    go true = refl
    go false = refl
