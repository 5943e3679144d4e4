-- Runs with calls, wants and answers that are worked out by hand.
use lib.Utf8.{encode}
use Rattle.std.specs.Str.{chars, is_utf8}
use Rattle.std.specs.Fmt.{digits}
use Rattle.std.specs.Int.{int_wrap}
use Rattle.std.specs.Prelude.{◌≡◌, ℕ, zero, suc, List, [], ◌∷◌, Option, Some, None, cond, ◌==◌, codes}
use Rattle.std.specs.Str.{bytes_eq}
use Rattle.std.proofs.Common.{refl}
use Rattle.brs_tokens.specs.declared.place.Place as t
use Rattle.chan_values.specs.declared.place.Place as c
use Rattle.chan_values.specs.declared.error_code.ErrorCode.TheVariants.{E2, E5, E6, E8}
use Rattle.heap_meaning.specs.Values.{Reference}
use Rattle.heap_meaning.specs.Store.{MapObject}
use Rattle.brs_grammar.specs.declared.tree.SumSign.TheVariants as a
use Rattle.brs_grammar.specs.declared.tree.TypeWord.TheVariants as w
use Rattle.brs_grammar.specs.Form as f
use Rattle.brs_grammar.specs.Form.{Text, Head, Form, Node, Forms, none, more, Params, unnamed, required, optional, Doing, Todo, finish, first}
use Rattle.brs_grammar.specs.Parts.{forms}
use Rattle.brs_meaning.specs.Program.{Program, Function}
use Rattle.brs_meaning.specs.Locals.{Home}
use Rattle.brs_meaning.specs.Request.{MakePort}
use Rattle.brs_meaning.specs.Running.{OnTop, before, Tree}
use Rattle.brs_meaning.specs.Moving.{next}
use Rattle.brs_meaning.specs.Reduction.{Outcome, Asked, Printed, Raised}
use Rattle.brs_meaning.specs.Runs.{outcomes}

abbrev here : t.Place
here = record { line = 2; column = 1 }

abbrev number : Text → Form
number n = Node (f.Number n) here none

abbrev text : Text → Form
text x = Node (f.Quoted x) here none

abbrev name : Text → Form
name x = Node (f.Name x) here none

abbrev two : Head → Form → Form → Form
two h x y = Node h here (more x (more y none))

abbrev set : Text → Form → Todo → Todo
set x e rest = first (f.Set (f.ToName x)) here (more e none) rest

abbrev print : Form → Todo → Todo
print e rest = first (f.Print (f.Shown ∷ [])) here (more e none) rest

abbrev return : Form → Todo
return e = first f.Return here (more e none) finish

abbrev main_of : Todo → Function
main_of body = record { file = 0; path = 1; heading = record { line = 1; column = 1 }; callee = record { params = unnamed; value = None; body = body } }

-- function add(n as integer, k = 2) as integer, return n + k
abbrev add : Function
add = record {
  file = 0;
  path = 1;
  heading = record { line = 9; column = 1 };
  callee = record { params = required here (codes "n") (Some w.Integer) (optional here (codes "k") None (number (codes "2")) unnamed); value = Some w.Integer; body = return (two (f.Add a.Plus) (name (codes "n")) (name (codes "k"))) };
}

-- function who(), return m.x
abbrev who : Function
who = record {
  file = 0;
  path = 1;
  heading = record { line = 12; column = 1 };
  callee = record { params = unnamed; value = None; body = return (Node (f.Member (codes "x")) here (more (name (codes "m")) none)) };
}

-- function again(), return again()
abbrev again : Function
again = record {
  file = 0;
  path = 1;
  heading = record { line = 15; column = 1 };
  callee = record { params = unnamed; value = None; body = return (Node f.Call here (more (name (codes "again")) none)) };
}

abbrev function_of : ℕ → Option Function
function_of zero = Some add
function_of (suc zero) = Some who
function_of (suc (suc zero)) = Some again
function_of (suc (suc (suc n))) = None

abbrev built_in_of : ℕ → Option Text
built_in_of n = cond (n == 16) (Some (codes "wait")) (cond (n == 17) (Some (codes "createobject")) None)

abbrev built_in_number_of : Text → Option ℕ
built_in_number_of x = cond (bytes_eq x (codes "wait")) (Some 16) (cond (bytes_eq x (codes "createobject")) (Some 17) None)

abbrev three_functions : Program
three_functions = record {
  function = function_of;
  built_in = built_in_of;
  anonymous = λ n at. 0;
  built_in_number = built_in_number_of;
  scopes = (record { key = codes "add"; value = 0 } ∷ record { key = codes "who"; value = 1 } ∷ record { key = codes "again"; value = 2 } ∷ []) ∷ [];
}

abbrev home : Home
home = record { scope = 0; m = Reference 0 }

abbrev opened : Todo → Tree
opened body = next (record { kind = OnTop; function = main_of body; home = 0; m = Reference 0; locals = [] }) (before body []) []

abbrev shown : ℕ → Todo → List Outcome
shown n body = outcomes three_functions 1 (home ∷ []) n (opened body) (MapObject [] ∷ [])

abbrev on_line_2 : c.Place
on_line_2 = record { path = 1; line = 2 }

abbrev called : Text → List Form → Form
called x es = Node f.Call here (more (name x) (forms es))

-- print add(5): the name 1, the number 1, the call 1, the default 1 and 1 to bind it, n + k 3, the return 1, the print 1
a_default : shown 9 (print (called (codes "add") (number (codes "5") ∷ [])) finish) ≡ []
unfolding is_utf8 int_wrap
a_default = refl

a_default_printed : shown 10 (print (called (codes "add") (number (codes "5") ∷ [])) finish) ≡ Printed (codes " 7") ∷ []
unfolding chars is_utf8 digits int_wrap
a_default_printed = refl

-- a parameter with an argument takes no step
an_argument : shown 9 (print (called (codes "add") (number (codes "5") ∷ number (codes "8") ∷ [])) finish) ≡ Printed (codes " 13") ∷ []
unfolding chars is_utf8 digits int_wrap
an_argument = refl

-- add() has too few arguments, and add("5") one of a wrong type, both at the call
too_few_arguments : shown 2 (print (called (codes "add") []) finish) ≡ Raised E6 on_line_2 ∷ []
too_few_arguments = refl

a_wrong_argument : shown 3 (print (called (codes "add") (text (codes "\"5\"") ∷ [])) finish) ≡ Raised E2 on_line_2 ∷ []
unfolding is_utf8
a_wrong_argument = refl

-- x = 1, x(): what is no function can't be called
no_function : shown 4 (set (codes "x") (number (codes "1")) (first f.Drop here (more (called (codes "x") []) none) finish)) ≡ Raised E5 on_line_2 ∷ []
unfolding is_utf8
no_function = refl

-- a call as a statement takes one step more, to drop what it gave: 2 for `who`, 1 to call it, 1 and 1 for m.x, the return 1, the drop 1
abbrev dropping : Todo
dropping = first f.Drop here (more (called (codes "who") []) none) (print (number (codes "4")) finish)

a_call_is_dropped : shown 7 dropping ≡ []
unfolding is_utf8
a_call_is_dropped = refl

a_call_was_dropped : shown 8 dropping ≡ Printed (codes " 4") ∷ []
unfolding chars is_utf8 digits int_wrap
a_call_was_dropped = refl

-- a = {f: who, x: 3}, print a.f(): the associative array is `m`; print who(): the `m` is that of the home
abbrev with_m : Todo
with_m =
    set (codes "a") (Node (f.Pairs (f.WordKey (codes "f") ∷ f.WordKey (codes "x") ∷ [])) here (forms (name (codes "who") ∷ number (codes "3") ∷ [])))
    (print (Node (f.CallMember (codes "f")) here (more (name (codes "a")) none)) (print (called (codes "who") []) finish))

the_m_of_a_member : shown 16 with_m ≡ Printed (codes " 3") ∷ Printed (codes "invalid") ∷ []
unfolding chars is_utf8 digits int_wrap encode
the_m_of_a_member = refl

-- again() calls itself: the 257th call in progress is refused, at the place of that call. Each call takes the name and the call.
too_many_calls : shown 512 (first f.Drop here (more (called (codes "again") []) none) finish) ≡ Raised E8 on_line_2 ∷ []
too_many_calls = refl

-- createObject("roMessagePort") asks for a port; the step is made, and the actor waits
abbrev a_port : Todo
a_port = set (codes "p") (called (codes "createobject") (text (codes "\"roMessagePort\"") ∷ [])) (print (name (codes "p")) finish)

a_port_is_asked_for : shown 9 a_port ≡ Asked MakePort ∷ []
unfolding is_utf8 chars encode
a_port_is_asked_for = refl
