-- The inbox of the render actor: its entries in order, and the numbers that posts and keys have been given.
use Rattle.std.specs.Prelude.{◌≡◌, ℕ, ◌+◌, ◌≤◌, Bool, false, List, [], ◌∷◌, ◌==◌, Option, None, Some, if◌then◌else◌, slice_index_or}
use Rattle.render_inbox.specs.declared.entry.Entry.{Entry}
use Rattle.render_inbox.specs.declared.entry.Entry.TheVariants.{Key, Access, TaskEnd}

pub record InboxState : Type 0 where
  -- what waits, the oldest first
  pub entries : List Entry
  -- how many posts each actor has made, by its number; none past the end
  pub posts : List ℕ
  -- how many keys have come
  pub keys : ℕ
  -- how many entries have come in all
  pub calls : ℕ

-- how many posts an actor has made
abbrev pub posts_of : InboxState → ℕ → ℕ
posts_of inbox actor = slice_index_or inbox.posts actor 0

-- the entry is a post of the actor
abbrev pub is_post_of : ℕ → Entry → Bool
is_post_of actor (Key number key press) = false
is_post_of actor (Access poster number access) = poster == actor
is_post_of actor (TaskEnd poster number done) = poster == actor

abbrev pub number_of : Entry → ℕ
number_of (Key number key press) = number
number_of (Access poster number access) = number
number_of (TaskEnd poster number done) = number

-- the entries without the first post of the actor
abbrev pub without_first : ℕ → List Entry → List Entry
without_first actor [] = []
without_first actor (e ∷ es) = if is_post_of actor e then es else (e ∷ without_first actor es)

-- the number of the first post of the actor
abbrev pub first_number : ℕ → List Entry → Option ℕ
first_number actor [] = None
first_number actor (e ∷ es) = if is_post_of actor e then Some (number_of e) else first_number actor es

-- no number is beyond the entries that have come
pub record AreCounted (inbox : InboxState) : Type 0 where
  pub posts : (actor : ℕ) → posts_of inbox actor ≤ inbox.calls
  pub keys : inbox.keys ≤ inbox.calls

-- the actor has made one post more, and nothing else was counted but the entry
pub record CountsPost (old new : InboxState) (actor given : ℕ) : Type 0 where
  pub number : given ≡ posts_of old actor + 1
  pub posts : (a : ℕ) → posts_of new a ≡ (if a == actor then posts_of old a + 1 else posts_of old a)
  pub keys : new.keys ≡ old.keys
  pub calls : new.calls ≡ old.calls + 1

-- the numbers are as they were
pub record SameCounts (old new : InboxState) : Type 0 where
  pub posts : (a : ℕ) → posts_of new a ≡ posts_of old a
  pub keys : new.keys ≡ old.keys
  pub calls : new.calls ≡ old.calls
