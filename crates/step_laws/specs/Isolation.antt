-- What a step of another actor than 0 leaves in place, whatever actor 0 is in the middle of.
use Rattle.std.specs.Prelude.{◌≡◌, ℕ, suc, Bool, true, false, List, [], ◌∷◌, Option, Some, None}
use Rattle.world_meaning.specs.Channel.{Channel}
use Rattle.world_meaning.specs.Labels.{Label, Posts}
use Rattle.world_meaning.specs.Core.{Core, Moved, actor_at}
use Rattle.world_meaning.specs.Steps.{step}

-- whether an actor posts
abbrev pub is_post : Label → Bool
is_post (Posts a i) = true
is_post _ = false

abbrev pub or_so : Bool → Bool → Bool
or_so true b = true
or_so false b = b

abbrev pub has_post : List Label → Bool
has_post [] = false
has_post (label ∷ labels) = or_so (is_post label) (has_post labels)

-- actor 0 with its calls, its store and its homes, what it has to do, the entry that has begun, all registrations and the focus are as
-- they were; and where the step posts, so is each node
pub record LeavesInPlace (c : Core) (m : Moved) : Type 0 where
  pub first : actor_at m.core 0 ≡ actor_at c 0
  pub homes : m.core.homes ≡ c.homes
  pub agendas : m.core.agendas ≡ c.agendas
  pub begun : m.core.begun ≡ c.begun
  pub observers : m.core.observers ≡ c.observers
  pub focus : m.core.focus ≡ c.focus
  pub posts : has_post m.labels ≡ true → m.core.nodes ≡ c.nodes

abbrev pub IfLeaves : Core → Option Moved → Type 0
IfLeaves c None = Unit {0}
IfLeaves c (Some m) = LeavesInPlace c m

abbrev pub EveryOtherStep : Type 0
EveryOtherStep = (ch : Channel) (b : ℕ) (c : Core) → IfLeaves c (step ch (suc b) c)
