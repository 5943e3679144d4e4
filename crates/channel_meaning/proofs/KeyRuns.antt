-- Runs with keys, ports and waits that are worked out by hand.
use lib.Utf8.{encode}
use Rattle.std.specs.Prelude.{◌≡◌, true, false, List, [], ◌∷◌, Some, None, codes}
use Rattle.std.specs.Str.{chars, is_utf8}
use Rattle.std.specs.Fmt.{digits}
use Rattle.std.specs.Int.{int_wrap}
use Rattle.std.proofs.Common.{refl}
use Rattle.chan_values.specs.declared.end_reason.EndReason.TheVariants as why
use Rattle.chan_values.specs.declared.error_code.ErrorCode.TheVariants.{E10}
use Rattle.chan_values.specs.declared.event.Event.{Event}
use Rattle.chan_values.specs.declared.event.Event.TheVariants.{Key, Turn, Round, Expire}
use Rattle.chan_values.specs.declared.key.Key.TheVariants as key
use Rattle.copy_meaning.specs.Answers.{unfolded}
use Rattle.field_observers.specs.declared.target.Target.TheVariants as target
use Rattle.field_types.specs.Words.{is_alike}
use Rattle.trace_report.specs.declared.entry.EntryName.TheVariants as entry
use Rattle.brs_grammar.specs.declared.tree.ComparisonSign.TheVariants as sign
use Rattle.brs_grammar.specs.Form as f
use Rattle.brs_grammar.specs.Form.{Form, Node, Params, unnamed, required, Todo, finish, first}
use Rattle.brs_grammar.specs.Parts.{forms}
use Rattle.world_meaning.specs.Channel.{Channel}
use Rattle.channel_meaning.specs.History.{Printed, Failed, Returned, Posted, Began, Ended, Started, Notified, Visited}
use Rattle.channel_meaning.specs.World.{World, run}
use Rattle.channel_meaning.proofs.Sources as s

abbrev run_of : Channel → List Event → World
run_of ch events = run ch 1000 events

abbrev waiting : Todo
waiting = s.drop (s.called (codes "wait") (s.number (codes "0") ∷ s.new_port ∷ [])) finish

-- ---- a key that a parent takes, and a back that nobody takes

abbrev key_and_press : Params
key_and_press = required s.here (codes "key") None (required s.here (codes "press") None unnamed)

-- Mid's init makes a Leaf below it, whose init takes the focus. Leaf's handler answers false, Mid's answers key <> "back".
abbrev focused : Channel
focused =
    s.channel (s.set (codes "n") (s.create (codes "\"Mid\"")) waiting)
    (s.sub (s.drop (s.method s.m_top (codes "createchild") (s.text (codes "\"Leaf\"") ∷ [])) finish)
    ∷ s.function key_and_press (s.return (Node (f.Compare sign.NotEqual) s.here (forms (s.name (codes "key") ∷ s.text (codes "\"back\"") ∷ []))))
    ∷ s.sub (s.drop (s.method s.m_top (codes "setfocus") (s.truth true ∷ [])) finish)
    ∷ s.function key_and_press (s.return (s.truth false)) ∷ [])
    ((s.at (codes "init") 1 ∷ s.at (codes "onkeyevent") 2 ∷ []) ∷ (s.at (codes "init") 3 ∷ s.at (codes "onkeyevent") 4 ∷ []) ∷ [])
    (s.plan (codes "Mid") (Some 1) [] [] 1 ∷ s.plan (codes "Leaf") (Some 1) [] [] 1 ∷ [])
    (s.component 1 (Some 1) [] [] ∷ s.component 2 (Some 3) [] [] ∷ [])

pressing : (run_of focused (Round 100 ∷ Round 100 ∷ Key key.Up true ∷ Turn 0 100 ∷ Key key.Back true ∷ Turn 0 100 ∷ [])).history.trace
    ≡ Posted 1 1 ∷ Began (entry.Post 1 1) ∷ Ended (entry.Post 1 1)
    ∷ Began (entry.Key 1) ∷ Visited key.Up true 3 false ∷ Visited key.Up true 2 true ∷ Ended (entry.Key 1)
    ∷ Began (entry.Key 2) ∷ Visited key.Back true 3 false ∷ Visited key.Back true 2 false ∷ Ended (entry.Key 2) ∷ []
unfolding chars is_utf8 encode digits int_wrap unfolded is_alike
pressing = refl

an_untaken_back : (run_of focused (Round 100 ∷ Round 100 ∷ Key key.Up true ∷ Turn 0 100 ∷ Key key.Back true ∷ Turn 0 100 ∷ [])).core.ending ≡ Some why.Back
unfolding chars is_utf8 encode digits int_wrap unfolded is_alike
an_untaken_back = refl

-- ---- a message through a port, and a wait that expires

-- init: m.port = createObject("roMessagePort"), m.top.observeField("n", m.port), m.top.functionName = "go"
abbrev m_port : Form
m_port = s.member (s.name (codes "m")) (codes "port")

abbrev listener_init : Todo
listener_init =
    s.put (s.name (codes "m")) (codes "port") s.new_port
    (s.drop (s.method s.m_top (codes "observefield") (s.text (codes "\"n\"") ∷ m_port ∷ []))
    (s.put s.m_top (codes "functionname") (s.text (codes "\"go\"")) finish))

-- go: msg = wait(0, m.port), print msg.getField(); msg.getData(), x = wait(5, m.port), print x
abbrev listener_go : Todo
listener_go =
    s.set (codes "msg") (s.called (codes "wait") (s.number (codes "0") ∷ m_port ∷ []))
    (first (f.Print (f.Shown ∷ f.Semicolon ∷ f.Shown ∷ [])) s.here
    (forms (s.method (s.name (codes "msg")) (codes "getfield") [] ∷ s.method (s.name (codes "msg")) (codes "getdata") [] ∷ []))
    (s.set (codes "x") (s.called (codes "wait") (s.number (codes "5") ∷ m_port ∷ [])) (s.print (s.name (codes "x")) finish)))

abbrev listening : Channel
listening =
    s.channel
    (s.set (codes "w") (s.create (codes "\"Listener\""))
    (s.put (s.name (codes "w")) (codes "control") (s.text (codes "\"RUN\""))
    (s.put (s.name (codes "w")) (codes "n") (s.number (codes "7")) waiting)))
    (s.sub listener_init ∷ s.sub listener_go ∷ [])
    ((s.at (codes "init") 1 ∷ s.at (codes "go") 2 ∷ []) ∷ [])
    (s.plan (codes "Listener") (Some 2) (s.number_field (codes "n") false ∷ []) [] 1 ∷ [])
    (s.component 1 (Some 1) [] [] ∷ [])

-- a wait with the time 0 doesn't expire
a_message_and_a_wait :
    (run_of listening (Round 100 ∷ Round 100 ∷ Round 100 ∷ Round 100 ∷ Expire 1 ∷ Expire 2 ∷ Round 100 ∷ Turn 0 100 ∷ [])).history.trace
    ≡ Posted 1 1 ∷ Began (entry.Post 1 1) ∷ Ended (entry.Post 1 1)
    ∷ Posted 1 2 ∷ Began (entry.Post 1 2) ∷ Started 2 2 ∷ Ended (entry.Post 1 2)
    ∷ Posted 1 3 ∷ Began (entry.Post 1 3) ∷ Notified 2 (codes "n") (record { target = target.Port 1; fixed = false }) ∷ Ended (entry.Post 1 3)
    ∷ Printed 2 (codes "n 7") ∷ Printed 2 (codes "invalid") ∷ Returned 2 ∷ Posted 2 1 ∷ Began (entry.Post 2 1) ∷ Ended (entry.Post 2 1) ∷ []
unfolding chars is_utf8 encode digits int_wrap unfolded is_alike
a_message_and_a_wait = refl

-- ---- an `init` that waits: actor 0 never waits for a port

abbrev waiting_init : Channel
waiting_init =
    s.channel (s.set (codes "n") (s.create (codes "\"Slow\"")) finish) (s.sub waiting ∷ [])
    ((s.at (codes "init") 1 ∷ []) ∷ [])
    (s.plan (codes "Slow") (Some 0) [] [] 1 ∷ [])
    (s.component 1 (Some 1) [] [] ∷ [])

an_init_that_waits : (run_of waiting_init (Round 100 ∷ Round 100 ∷ [])).history.trace ≡ Posted 1 1 ∷ Began (entry.Post 1 1) ∷ Failed 0 E10 (record { path = 0; line = 2 }) ∷ []
unfolding chars is_utf8 encode digits int_wrap unfolded is_alike
an_init_that_waits = refl

an_error_of_actor_0 : (run_of waiting_init (Round 100 ∷ Round 100 ∷ [])).core.ending ≡ Some why.Error
unfolding chars is_utf8 encode digits int_wrap unfolded is_alike
an_error_of_actor_0 = refl
