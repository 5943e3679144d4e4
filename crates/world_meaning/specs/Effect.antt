-- What an access does to the world, and what follows it.
use Rattle.std.specs.Prelude.{ℕ, List, [], ◌∷◌, Option, Bool}
use Rattle.chan_values.specs.declared.error_code.ErrorCode.{ErrorCode}
use Rattle.chan_values.specs.Tree.{Tree, Leaf, Boolean}
use Rattle.brs_meaning.specs.Program.{Function}
use Rattle.brs_meaning.specs.Answering.{Value, Values}
use Rattle.world_meaning.specs.Core.{Called, Core, Moved, moved, followed, with_agendas}
use Rattle.world_meaning.specs.Ending.{answer, refuse, asking_place}
use Rattle.world_meaning.specs.Agendas.{settle, call_on_top}

pub data Result : Type 0 where
  -- an answer, at once
  Gives : Tree → Result
  -- an error of the access
  Raises : ErrorCode → Result
  -- jobs come first
  Jobs : Result
  -- a function of an interface, in its node's home, with these arguments
  Calls : Option Function → (home : ℕ) → List Tree → Result

pub record Effect : Type 0 where
  pub after : Moved
  pub result : Result

-- nothing but an answer
abbrev pub gives : Tree → Core → Effect
gives v c = record { after = moved c []; result = Gives v }

abbrev pub tells : Bool → Core → Effect
tells b c = gives (Leaf (Boolean b)) c

abbrev pub raises : ErrorCode → Core → Effect
raises e c = record { after = moved c []; result = Raises e }

-- in actor 0 the answer follows the last of the jobs
abbrev pub follow : Result → Core → Moved
follow (Gives v) c = moved (answer (Value v) c) []
follow (Raises e) c = refuse e (asking_place c) c
follow Jobs c = settle c
follow (Calls f home arguments) c = call_on_top f home (Values arguments) (with_agendas (Called ∷ c.agendas) c)

abbrev pub serve : Effect → Moved
serve e = followed e.after (follow e.result)
