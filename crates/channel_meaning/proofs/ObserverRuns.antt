-- Runs with observers of fields that are worked out by hand.
use lib.Utf8.{encode}
use Rattle.std.specs.Prelude.{◌≡◌, ℕ, Bool, true, false, List, [], ◌∷◌, Some, None, codes}
use Rattle.std.specs.Str.{chars, is_utf8}
use Rattle.std.specs.Fmt.{digits}
use Rattle.std.specs.Int.{int_wrap}
use Rattle.std.proofs.Common.{refl}
use Rattle.chan_values.specs.declared.end_reason.EndReason.TheVariants as why
use Rattle.chan_values.specs.declared.error_code.ErrorCode.TheVariants.{E9}
use Rattle.chan_values.specs.declared.event.Event.{Event}
use Rattle.chan_values.specs.declared.event.Event.TheVariants.{Turn, Round}
use Rattle.copy_meaning.specs.Answers.{unfolded}
use Rattle.field_observers.specs.declared.target.Registration.{Registration}
use Rattle.field_observers.specs.declared.target.Target.TheVariants as target
use Rattle.field_types.specs.Words.{is_alike}
use Rattle.trace_report.specs.declared.entry.EntryName.TheVariants as entry
use Rattle.brs_grammar.specs.Form as f
use Rattle.brs_grammar.specs.Form.{Text, Form, Node, Todo, finish}
use Rattle.brs_grammar.specs.Parts.{forms}
use Rattle.world_meaning.specs.Channel.{Channel}
use Rattle.channel_meaning.specs.History.{Line, Printed, Failed, Returned, Posted, Began, Ended, Notified}
use Rattle.channel_meaning.specs.World.{run}
use Rattle.channel_meaning.proofs.Sources as s

abbrev trace_of : Channel → (bound : ℕ) → List Event → List Line
trace_of ch bound events = (run ch bound events).history.trace

-- `m.top.observeField(f, function)`
abbrev observe : Text → Text → Todo → Todo
observe f function rest = s.drop (s.method s.m_top (codes "observefield") (s.text f ∷ s.text function ∷ [])) rest

-- an observer that a function registered, and one that came with the making of its node
abbrev of_function : Text → Registration
of_function x = record { target = target.Function 0 x; fixed = false }

abbrev of_field : Text → Registration
of_field x = record { target = target.Function 0 x; fixed = true }

-- ---- a change takes those who are registered then

-- init registers `one` and `two`; `one` takes both away and registers `three`
abbrev obs : (main : Todo) → Channel
obs main =
    s.channel main
    (s.sub (observe (codes "\"n\"") (codes "\"one\"") (observe (codes "\"n\"") (codes "\"two\"") finish))
    ∷ s.sub (s.drop (s.method s.m_top (codes "unobservefield") (s.text (codes "\"n\"") ∷ [])) (observe (codes "\"n\"") (codes "\"three\"") finish))
    ∷ s.sub finish ∷ s.sub finish ∷ [])
    ((s.at (codes "init") 1 ∷ s.at (codes "one") 2 ∷ s.at (codes "two") 3 ∷ s.at (codes "three") 4 ∷ []) ∷ [])
    (s.plan (codes "Obs") (Some 0) (s.number_field (codes "n") false ∷ []) [] 1 ∷ [])
    (s.component 1 (Some 1) [] [] ∷ [])

abbrev setting_twice : Text → Text → Text → Todo
setting_twice kind one other =
    s.set (codes "o") (s.create kind) (s.put (s.name (codes "o")) (codes "n") (s.number one) (s.put (s.name (codes "o")) (codes "n") (s.number other) finish))

observers_at_the_change :
    trace_of (obs (setting_twice (codes "\"Obs\"") (codes "1") (codes "2"))) 1000 (Round 100 ∷ Round 100 ∷ Round 100 ∷ Round 100 ∷ [])
    ≡ Posted 1 1 ∷ Began (entry.Post 1 1) ∷ Ended (entry.Post 1 1)
    ∷ Posted 1 2 ∷ Began (entry.Post 1 2) ∷ Notified 2 (codes "n") (of_function (codes "one")) ∷ Notified 2 (codes "n") (of_function (codes "two")) ∷ Ended (entry.Post 1 2)
    ∷ Posted 1 3 ∷ Began (entry.Post 1 3) ∷ Notified 2 (codes "n") (of_function (codes "three")) ∷ Ended (entry.Post 1 3)
    ∷ Returned 1 ∷ []
unfolding chars is_utf8 encode digits int_wrap unfolded is_alike
observers_at_the_change = refl

-- ---- alwaysNotify

abbrev hearing : (always : Bool) → (main : Todo) → Channel
hearing always main =
    s.channel main (s.sub finish ∷ [])
    ((s.at (codes "hit") 1 ∷ []) ∷ [])
    (s.plan (codes "Two") (Some 0) (s.number_field (codes "n") always ∷ []) [] 1 ∷ [])
    (s.component 1 None (record { key = codes "n"; value = codes "hit" } ∷ []) [] ∷ [])

-- the same value again is no change
a_value_again :
    trace_of (hearing false (setting_twice (codes "\"Two\"") (codes "1") (codes "1"))) 1000 (Round 100 ∷ Round 100 ∷ Round 100 ∷ Round 100 ∷ [])
    ≡ Posted 1 1 ∷ Began (entry.Post 1 1) ∷ Ended (entry.Post 1 1)
    ∷ Posted 1 2 ∷ Began (entry.Post 1 2) ∷ Notified 2 (codes "n") (of_field (codes "hit")) ∷ Ended (entry.Post 1 2)
    ∷ Posted 1 3 ∷ Began (entry.Post 1 3) ∷ Ended (entry.Post 1 3)
    ∷ Returned 1 ∷ []
unfolding chars is_utf8 encode digits int_wrap unfolded is_alike
a_value_again = refl

-- but where the field has alwaysNotify
always_notified :
    trace_of (hearing true (setting_twice (codes "\"Two\"") (codes "1") (codes "1"))) 1000 (Round 100 ∷ Round 100 ∷ Round 100 ∷ Round 100 ∷ [])
    ≡ Posted 1 1 ∷ Began (entry.Post 1 1) ∷ Ended (entry.Post 1 1)
    ∷ Posted 1 2 ∷ Began (entry.Post 1 2) ∷ Notified 2 (codes "n") (of_field (codes "hit")) ∷ Ended (entry.Post 1 2)
    ∷ Posted 1 3 ∷ Began (entry.Post 1 3) ∷ Notified 2 (codes "n") (of_field (codes "hit")) ∷ Ended (entry.Post 1 3)
    ∷ Returned 1 ∷ []
unfolding chars is_utf8 encode digits int_wrap unfolded is_alike
always_notified = refl

-- ---- the bound

-- 4 steps of Main post the making; its begin would be the fifth
a_bound_at_a_begin : trace_of (hearing false (setting_twice (codes "\"Two\"") (codes "1") (codes "1"))) 4 (Round 100 ∷ Round 100 ∷ []) ≡ Posted 1 1 ∷ []
unfolding chars is_utf8 encode digits int_wrap unfolded is_alike
a_bound_at_a_begin = refl

-- begin, end, 4 steps of Main that post the set, and its begin make 11; the delivery would be the twelfth
a_bound_at_a_delivery :
    trace_of (hearing false (setting_twice (codes "\"Two\"") (codes "1") (codes "1"))) 11 (Round 100 ∷ Round 100 ∷ Round 100 ∷ [])
    ≡ Posted 1 1 ∷ Began (entry.Post 1 1) ∷ Ended (entry.Post 1 1) ∷ Posted 1 2 ∷ Began (entry.Post 1 2) ∷ []
unfolding chars is_utf8 encode digits int_wrap unfolded is_alike
a_bound_at_a_delivery = refl

a_bound_ends_the_run : (run (hearing false (setting_twice (codes "\"Two\"") (codes "1") (codes "1"))) 11 (Round 100 ∷ Round 100 ∷ Round 100 ∷ [])).core.ending ≡ Some why.Steps
unfolding chars is_utf8 encode digits int_wrap unfolded is_alike
a_bound_ends_the_run = refl

-- ---- a delivery inside another

-- the observer of a sets b and prints; the observer of b prints
abbrev nested : (main : Todo) → Channel
nested main =
    s.channel main
    (s.sub (s.put s.m_top (codes "b") (s.number (codes "1")) (s.print (s.text (codes "\"after\"")) finish))
    ∷ s.sub (s.print (s.text (codes "\"inside\"")) finish) ∷ [])
    ((s.at (codes "first") 1 ∷ s.at (codes "second") 2 ∷ []) ∷ [])
    (s.plan (codes "Nested") (Some 0) (s.number_field (codes "a") false ∷ s.number_field (codes "b") false ∷ []) [] 1 ∷ [])
    (s.component 1 None (record { key = codes "a"; value = codes "first" } ∷ record { key = codes "b"; value = codes "second" } ∷ []) [] ∷ [])

a_delivery_inside_another :
    trace_of (nested (s.set (codes "o") (s.create (codes "\"Nested\"")) (s.put (s.name (codes "o")) (codes "a") (s.number (codes "1")) finish))) 1000 (Round 100 ∷ Round 100 ∷ Turn 0 100 ∷ [])
    ≡ Posted 1 1 ∷ Began (entry.Post 1 1) ∷ Ended (entry.Post 1 1)
    ∷ Posted 1 2 ∷ Began (entry.Post 1 2) ∷ Notified 2 (codes "a") (of_field (codes "first")) ∷ Notified 2 (codes "b") (of_field (codes "second"))
    ∷ Printed 0 (codes "inside") ∷ Printed 0 (codes "after") ∷ Ended (entry.Post 1 2) ∷ []
unfolding chars is_utf8 encode digits int_wrap unfolded is_alike
a_delivery_inside_another = refl

-- ---- a field holds a copy

-- g = createObject("roSGScreen").getGlobalNode(), g.addField("d", "assocarray", false), a = {x: 1}, g.d = a, a.x = 2, print g.d.x,
-- a.self = a, g.d = a: the field keeps what it got, and a value that holds itself can't leave its actor
abbrev g : Form
g = s.name (codes "g")

abbrev copying : Todo
copying =
    s.set (codes "g") (s.method (s.called (codes "createobject") (s.text (codes "\"roSGScreen\"") ∷ [])) (codes "getglobalnode") [])
    (s.drop (s.method g (codes "addfield") (s.text (codes "\"d\"") ∷ s.text (codes "\"assocarray\"") ∷ s.truth false ∷ []))
    (s.set (codes "a") (Node (f.Pairs (f.WordKey (codes "x") ∷ [])) s.here (forms (s.number (codes "1") ∷ [])))
    (s.put g (codes "d") (s.name (codes "a"))
    (s.put (s.name (codes "a")) (codes "x") (s.number (codes "2"))
    (s.print (s.member (s.member g (codes "d")) (codes "x"))
    (s.put (s.name (codes "a")) (codes "self") (s.name (codes "a"))
    (s.put g (codes "d") (s.name (codes "a")) finish)))))))

a_copied_array :
    trace_of (s.channel copying [] [] [] []) 1000 (Round 100 ∷ Round 100 ∷ Round 100 ∷ Round 100 ∷ [])
    ≡ Posted 1 1 ∷ Began (entry.Post 1 1) ∷ Ended (entry.Post 1 1)
    ∷ Posted 1 2 ∷ Began (entry.Post 1 2) ∷ Ended (entry.Post 1 2)
    ∷ Posted 1 3 ∷ Began (entry.Post 1 3) ∷ Ended (entry.Post 1 3)
    ∷ Printed 1 (codes " 1") ∷ Failed 1 E9 (record { path = 0; line = 2 }) ∷ []
unfolding chars is_utf8 encode digits int_wrap unfolded is_alike
a_copied_array = refl
