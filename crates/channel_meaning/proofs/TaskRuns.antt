-- Runs of a task that are worked out by hand, line by line of the transcript.
use lib.Utf8.{encode}
use Rattle.std.specs.Prelude.{◌≡◌, true, false, List, [], ◌∷◌, Some, codes}
use Rattle.std.specs.Str.{chars, is_utf8}
use Rattle.std.specs.Fmt.{digits}
use Rattle.std.specs.Int.{int_wrap}
use Rattle.std.proofs.Common.{refl, arith}
use Rattle.chan_values.specs.declared.event.Event.{Event}
use Rattle.chan_values.specs.declared.event.Event.TheVariants.{Key, Turn, Round}
use Rattle.chan_values.specs.declared.key.Key.TheVariants as key
use Rattle.copy_meaning.specs.Answers.{unfolded}
use Rattle.field_types.specs.Words.{is_alike}
use Rattle.trace_report.specs.declared.entry.EntryName.TheVariants as entry
use Rattle.brs_grammar.specs.Form.{Todo, finish}
use Rattle.world_meaning.specs.Channel.{Channel}
use Rattle.world_meaning.specs.IsChannel.{IsChannel}
use Rattle.field_observers.specs.declared.target.Target.TheVariants as target
use Rattle.world_meaning.specs.Changing.{text_at}
use Rattle.channel_meaning.specs.History.{Line, Printed, Returned, Posted, Began, Ended, Started, Stopped, Dropped, Notified}
use Rattle.channel_meaning.specs.World.{run}
use Rattle.channel_meaning.proofs.Sources as s

-- init: m.top.functionName = "go"
abbrev worker_init : Todo
worker_init = s.put s.m_top (codes "functionname") (s.text (codes "\"go\"")) finish

-- go: m.top.n = 5, print "set"
abbrev worker_go : Todo
worker_go = s.put s.m_top (codes "n") (s.number (codes "5")) (s.print (s.text (codes "\"set\"")) finish)

abbrev worker : (main : Todo) → Channel
worker main =
    s.channel main (s.sub worker_init ∷ s.sub worker_go ∷ [])
    ((s.at (codes "init") 1 ∷ s.at (codes "go") 2 ∷ []) ∷ [])
    (s.plan (codes "Worker") (Some 2) (s.number_field (codes "n") false ∷ []) [] 1 ∷ [])
    (s.component 1 (Some 1) [] [] ∷ [])

-- w = createObject("roSGNode", "Worker"), w.control = "RUN", and then the rest
abbrev starting : Todo → Todo
starting rest = s.set (codes "w") (s.create (codes "\"Worker\"")) (s.put (s.name (codes "w")) (codes "control") (s.text (codes "\"RUN\"")) rest)

abbrev waiting : Todo
waiting = s.drop (s.called (codes "wait") (s.number (codes "0") ∷ s.new_port ∷ [])) finish

abbrev trace_of : Channel → List Event → List Line
trace_of ch events = (run ch 1000 events).history.trace

-- the making of a node by Main is a post; its `init` runs before the answer
a_making : trace_of (worker (starting waiting)) (Turn 1 100 ∷ Turn 0 100 ∷ []) ≡ Posted 1 1 ∷ Began (entry.Post 1 1) ∷ Ended (entry.Post 1 1) ∷ []
unfolding chars is_utf8 encode digits int_wrap unfolded is_alike
a_making = refl

-- a task's life: its start, its post while a key waits behind it, its return, and its last entry
a_life :
    trace_of (worker (starting waiting))
    (Turn 1 100 ∷ Turn 0 100 ∷ Turn 1 100 ∷ Turn 0 100 ∷ Key key.Ok true ∷ Turn 2 100 ∷ Turn 2 100 ∷ Turn 0 100 ∷ Turn 2 100 ∷ Turn 0 100 ∷ [])
    ≡ Posted 1 1 ∷ Began (entry.Post 1 1) ∷ Ended (entry.Post 1 1)
    ∷ Posted 1 2 ∷ Began (entry.Post 1 2) ∷ Started 2 2 ∷ Ended (entry.Post 1 2)
    ∷ Posted 2 1 ∷ Began (entry.Key 1) ∷ Ended (entry.Key 1) ∷ Began (entry.Post 2 1) ∷ Ended (entry.Post 2 1)
    ∷ Printed 2 (codes "set") ∷ Returned 2 ∷ Posted 2 2 ∷ Began (entry.Post 2 2) ∷ Ended (entry.Post 2 2) ∷ []
unfolding chars is_utf8 encode digits int_wrap unfolded is_alike
a_life = refl

-- a stop before the task's access has begun drops it: the node keeps its value
a_drop :
    trace_of (worker (starting (s.put (s.name (codes "w")) (codes "control") (s.text (codes "\"STOP\"")) waiting)))
    (Round 100 ∷ Round 100 ∷ Turn 0 100 ∷ Turn 1 100 ∷ Turn 2 100 ∷ Turn 0 100 ∷ [])
    ≡ Posted 1 1 ∷ Began (entry.Post 1 1) ∷ Ended (entry.Post 1 1)
    ∷ Posted 1 2 ∷ Began (entry.Post 1 2) ∷ Started 2 2 ∷ Ended (entry.Post 1 2)
    ∷ Posted 1 3 ∷ Posted 2 1 ∷ Began (entry.Post 1 3) ∷ Stopped 2 ∷ Dropped 2 1 ∷ Ended (entry.Post 1 3) ∷ []
unfolding chars is_utf8 encode digits int_wrap unfolded is_alike
a_drop = refl

-- a task that is stopped by an observer of its own access: the access has begun, goes on to its end, and nobody gets its answer
abbrev halting : Channel
halting =
    s.channel (starting waiting) (s.sub worker_init ∷ s.sub worker_go ∷ s.sub (s.put s.m_top (codes "control") (s.text (codes "\"STOP\"")) finish) ∷ [])
    ((s.at (codes "init") 1 ∷ s.at (codes "go") 2 ∷ s.at (codes "halt") 3 ∷ []) ∷ [])
    (s.plan (codes "Worker") (Some 2) (s.number_field (codes "n") false ∷ []) [] 1 ∷ [])
    (s.component 1 (Some 1) (record { key = codes "n"; value = codes "halt" } ∷ []) [] ∷ [])

-- it is a channel as the check of a folder lets them through
halting_is_one : IsChannel halting
unfolding chars is_utf8 encode digits int_wrap is_alike
halting_is_one = record {
  plans = s.table_with (s.plan (codes "Worker") (Some 2) (s.number_field (codes "n") false ∷ []) [] 1) (record { base = omega arith; openings = (refl, tt); elements = tt; nodes = refl });
  places = refl;
  components = (tt, (tt, (tt, (record { scope = omega arith; init = refl; on_change = (refl, tt); interface = tt }, tt))));
  scopes = ((refl, tt), ((refl, (refl, (refl, tt))), tt));
  main = refl;
}

a_stop_of_a_begun_access :
    trace_of halting (Turn 1 100 ∷ Turn 0 100 ∷ Turn 1 100 ∷ Turn 0 100 ∷ Turn 2 100 ∷ Turn 0 100 ∷ Turn 2 100 ∷ [])
    ≡ Posted 1 1 ∷ Began (entry.Post 1 1) ∷ Ended (entry.Post 1 1)
    ∷ Posted 1 2 ∷ Began (entry.Post 1 2) ∷ Started 2 2 ∷ Ended (entry.Post 1 2)
    ∷ Posted 2 1 ∷ Began (entry.Post 2 1) ∷ Notified 2 (codes "n") (record { target = target.Function 0 (codes "halt"); fixed = true }) ∷ Stopped 2 ∷ Ended (entry.Post 2 1) ∷ []
unfolding chars is_utf8 encode digits int_wrap unfolded is_alike
a_stop_of_a_begun_access = refl

-- RUN again before the last entry of the actor that returned: the next actor starts at once, and the last entry of the first sets nothing
abbrev quick : Channel
quick =
    s.channel (starting (s.put (s.name (codes "w")) (codes "control") (s.text (codes "\"RUN\"")) waiting))
    (s.sub worker_init ∷ s.sub (s.print (s.text (codes "\"ran\"")) finish) ∷ [])
    ((s.at (codes "init") 1 ∷ s.at (codes "go") 2 ∷ []) ∷ [])
    (s.plan (codes "Worker") (Some 2) [] [] 1 ∷ [])
    (s.component 1 (Some 1) [] [] ∷ [])

abbrev restarting : List Event
restarting = Turn 1 100 ∷ Turn 0 100 ∷ Turn 1 100 ∷ Turn 0 100 ∷ Turn 1 100 ∷ Turn 2 100 ∷ Turn 0 100 ∷ []

a_restart :
    trace_of quick restarting
    ≡ Posted 1 1 ∷ Began (entry.Post 1 1) ∷ Ended (entry.Post 1 1)
    ∷ Posted 1 2 ∷ Began (entry.Post 1 2) ∷ Started 2 2 ∷ Ended (entry.Post 1 2)
    ∷ Posted 1 3 ∷ Printed 2 (codes "ran") ∷ Returned 2 ∷ Posted 2 1
    ∷ Began (entry.Post 1 3) ∷ Started 3 2 ∷ Ended (entry.Post 1 3) ∷ Began (entry.Post 2 1) ∷ Ended (entry.Post 2 1) ∷ []
unfolding chars is_utf8 encode digits int_wrap unfolded is_alike
a_restart = refl

still_running : text_at (run quick 1000 restarting).core.nodes 2 (codes "state") ≡ codes "run"
unfolding chars is_utf8 encode digits int_wrap unfolded is_alike
still_running = refl

-- RUN of a function that isn't there starts nothing
abbrev lost : Channel
lost =
    s.channel (starting waiting) (s.sub worker_init ∷ [])
    ((s.at (codes "init") 1 ∷ []) ∷ [])
    (s.plan (codes "Worker") (Some 2) [] [] 1 ∷ [])
    (s.component 1 (Some 1) [] [] ∷ [])

a_function_that_is_not_there :
    trace_of lost (Turn 1 100 ∷ Turn 0 100 ∷ Turn 1 100 ∷ Turn 0 100 ∷ [])
    ≡ Posted 1 1 ∷ Began (entry.Post 1 1) ∷ Ended (entry.Post 1 1) ∷ Posted 1 2 ∷ Began (entry.Post 1 2) ∷ Ended (entry.Post 1 2) ∷ []
unfolding chars is_utf8 encode digits int_wrap unfolded is_alike
a_function_that_is_not_there = refl

stopped_at_once : text_at (run lost 1000 (Turn 1 100 ∷ Turn 0 100 ∷ Turn 1 100 ∷ Turn 0 100 ∷ [])).core.nodes 2 (codes "state") ≡ codes "stop"
unfolding chars is_utf8 encode digits int_wrap unfolded is_alike
stopped_at_once = refl
