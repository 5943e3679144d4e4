-- Answers to actors, errors, and the ends of actors and of the run.
use Rattle.std.specs.Prelude.{ℕ, zero, suc, ◌+◌, Bool, true, false, [], ◌∷◌, ◌++◌, Option, Some, None}
use Rattle.chan_values.specs.declared.end_reason.EndReason.{EndReason}
use Rattle.chan_values.specs.declared.end_reason.EndReason.TheVariants as why
use Rattle.chan_values.specs.declared.error_code.ErrorCode.{ErrorCode}
use Rattle.chan_values.specs.declared.place.Place.{Place}
use Rattle.brs_meaning.specs.Running.{Waits}
use Rattle.brs_meaning.specs.Answering.{State, Reply, Failed, replied, is_idle, want_place}
use Rattle.world_meaning.specs.Labels.{Fails, Returns, Posts}
use Rattle.world_meaning.specs.Core.{Entry, LastEntry, Closing, Hands, Begun, Actor, Core, Moved, moved, followed, actor_at, change_actor, posts_of, tree_of_actor}

-- ---- answers

abbrev pub with_state : State → Actor → Actor
with_state s x = record x { tree = s.tree; store = s.store }

-- an answer stands where the actor waits for it; an actor that has ended gets none
abbrev pub handed_if : (live : Bool) → Reply → Actor → Actor
handed_if true reply x = with_state (replied reply x.tree x.store) x
handed_if false reply x = x

abbrev pub handed : Reply → Actor → Actor
handed reply x = handed_if x.live reply x

abbrev pub hand : ℕ → Reply → Core → Core
hand a reply c = change_actor a (handed reply) c

-- ---- ends

abbrev pub end_run : EndReason → Core → Core
end_run reason c = record c { ending = Some reason }

-- an actor that ends drops its calls and the `m` of each of its homes
abbrev pub ended : Actor → Actor
ended x = record x { tree = Waits []; homes = []; live = false }

abbrev pub end_actor : ℕ → Core → Core
end_actor a c = change_actor a ended c

abbrev pub with_post : Actor → Actor
with_post x = record x { posts = x.posts + 1 }

-- an entry of an actor comes to the end of the inbox, with the actor's next number
abbrev pub post_entry : ℕ → (number : ℕ) → Entry → Core → Moved
post_entry a number e c = moved (record (change_actor a with_post c) { inbox = c.inbox ++ e ∷ [] }) (Posts a number ∷ [])

-- the last entry of a task
abbrev pub post_last : ℕ → (returned : Bool) → Core → Moved
post_last a returned c = let number = posts_of (actor_at c a) + 1 in post_entry a number (LastEntry a number returned) c

-- an error ends its actor: the run too where that is actor 0 or 1, and else the task
abbrev pub fail : ℕ → ErrorCode → Place → Core → Moved
fail zero e at c = moved (end_run why.Error (end_actor 0 c)) (Fails 0 e at ∷ [])
fail (suc zero) e at c = moved (end_run why.Error (end_actor 1 c)) (Fails 1 e at ∷ [])
fail (suc (suc b)) e at c = followed (moved (end_actor (suc (suc b)) c) (Fails (suc (suc b)) e at ∷ [])) (post_last (suc (suc b)) false)

abbrev pub fail_where : ℕ → ErrorCode → Option Place → Core → Moved
fail_where a e (Some at) c = fail a e at c
fail_where a e None c = moved c []

-- an error of what an actor asked for, which was done at once: it comes where the actor asked
abbrev pub fail_asking : ℕ → ErrorCode → Core → Moved
fail_asking a e c = fail_where a e (want_place (tree_of_actor (actor_at c a))) c

-- The first function of an actor returned: that of actor 1 ends the run, that of a task the task. What calls of actor 0 return is no end.
abbrev pub leave : ℕ → Core → Moved
leave (suc zero) c = moved (end_run why.Main (end_actor 1 c)) (Returns 1 ∷ [])
leave a c = followed (moved (end_actor a c) (Returns a ∷ [])) (post_last a true)

-- ---- the place at which actor 0 does something: an access of its own, for which it waits, or the entry that has begun, where it is idle

abbrev pub with_closing : Closing → Option Begun → Option Begun
with_closing closing None = None
with_closing closing (Some b) = Some (record b { closing = Some closing })

abbrev pub close : Closing → Core → Core
close closing c = record c { begun = with_closing closing c.begun }

abbrev pub is_idle_first : Core → Bool
is_idle_first c = is_idle (tree_of_actor (actor_at c 0))

abbrev pub answered_at : (idle : Bool) → Reply → Core → Core
answered_at true reply c = close (Hands reply) c
answered_at false reply c = hand 0 reply c

-- the answer of the place
abbrev pub answer : Reply → Core → Core
answer reply c = answered_at (is_idle_first c) reply c

abbrev pub refused_at : (idle : Bool) → ErrorCode → Option Place → Core → Moved
refused_at true e at c = moved (close (Hands (Failed e)) c) []
refused_at false e at c = fail_where 0 e at c

-- an error of the place: it is handed back to the poster, or comes in actor 0
abbrev pub refuse : ErrorCode → Option Place → Core → Moved
refuse e at c = refused_at (is_idle_first c) e at c

abbrev pub asking_place : Core → Option Place
asking_place c = want_place (tree_of_actor (actor_at c 0))
