-- Runs that are worked out by hand.
use Rattle.std.specs.Prelude.{◌≡◌, ℕ, true, false, List, [], ◌∷◌, None, codes}
use lib.Utf8.{encode}
use Rattle.std.specs.Str.{chars, is_utf8}
use Rattle.std.specs.Fmt.{digits}
use Rattle.std.specs.Int.{int_wrap}
use Rattle.copy_meaning.specs.Answers.{unfolded}
use Rattle.std.proofs.Common.{refl}
use Rattle.brs_tokens.specs.declared.place.Place as t
use Rattle.chan_values.specs.declared.error_code.ErrorCode.TheVariants.{E1, E2, E3}
use Rattle.chan_values.specs.Tree as v
use Rattle.heap_meaning.specs.Values.{Reference}
use Rattle.heap_meaning.specs.Store.{MapObject}
use Rattle.brs_grammar.specs.declared.tree.LoopKind.TheVariants as loop
use Rattle.brs_grammar.specs.declared.tree.ProductSign.TheVariants as p
use Rattle.brs_grammar.specs.declared.tree.UpdateSign.TheVariants as u
use Rattle.brs_grammar.specs.Form as f
use Rattle.brs_grammar.specs.Form.{Text, Head, Form, Node, Forms, none, more, Params, unnamed, Doing, Todo, finish, first}
use Rattle.brs_grammar.specs.Parts.{forms}
use Rattle.brs_meaning.specs.Program.{Program, Function}
use Rattle.brs_meaning.specs.Locals.{Home}
use Rattle.brs_meaning.specs.Running.{OnTop, before}
use Rattle.brs_meaning.specs.Moving.{next}
use Rattle.brs_meaning.specs.Reduction.{Outcome, Printed, Raised, Returned}
use Rattle.brs_meaning.specs.Runs.{outcomes}

-- everything on line 2, but for the heading
abbrev here : t.Place
here = record { line = 2; column = 1 }

abbrev number : Text → Form
number n = Node (f.Number n) here none

abbrev name : Text → Form
name x = Node (f.Name x) here none

abbrev two : Head → Form → Form → Form
two h a b = Node h here (more a (more b none))

abbrev set : Text → Form → Todo → Todo
set x e rest = first (f.Set (f.ToName x)) here (more e none) rest

abbrev main_of : Todo → Function
main_of body = record { file = 0; path = 1; heading = record { line = 1; column = 1 }; callee = record { params = unnamed; value = None; body = body } }

abbrev nothing_else : Program
nothing_else = record { function = λ n. None; built_in = λ n. None; anonymous = λ n at. 0; built_in_number = λ x. None; scopes = [] ∷ [] }

abbrev home : Home
home = record { scope = 0; m = Reference 0 }

-- what so many steps of a `Main` with this body show
abbrev shown : ℕ → Todo → List Outcome
shown n body =
    outcomes nothing_else 1 (home ∷ []) n
    (next (record { kind = OnTop; function = main_of body; home = 0; m = Reference 0; locals = [] }) (before body []) []) (MapObject [] ∷ [])

-- x = 7
-- print "x="; x; " "; x \ 2; x mod 4
abbrev printing : Todo
printing =
    set (codes "x") (number (codes "7"))
    (first (f.Print (f.Shown ∷ f.Semicolon ∷ f.Shown ∷ f.Semicolon ∷ f.Shown ∷ f.Semicolon ∷ f.Shown ∷ f.Semicolon ∷ f.Shown ∷ [])) here
    (forms (Node (f.Quoted (codes "\"x=\"")) here none ∷ name (codes "x") ∷ Node (f.Quoted (codes "\" \"")) here none ∷ two (f.Multiply p.Divide) (name (codes "x")) (number (codes "2")) ∷ two (f.Multiply p.Modulo) (name (codes "x")) (number (codes "4")) ∷ [])) finish)

-- 11 steps print nothing, the 12th prints, and the 13th ends the body
eleven_steps : shown 11 printing ≡ []
eleven_steps = refl

twelve_steps : shown 12 printing ≡ Printed (codes "x= 7  3 3") ∷ []
unfolding chars is_utf8 encode digits int_wrap
twelve_steps = refl

thirteen_steps : shown 13 printing ≡ Printed (codes "x= 7  3 3") ∷ Returned (v.Leaf v.Invalid) ∷ []
unfolding chars is_utf8 encode digits int_wrap unfolded
thirteen_steps = refl

abbrev negative : Text → Form
negative x = Node f.Negate here (more (number x) none)

abbrev print : Form → Todo → Todo
print e rest = first (f.Print (f.Shown ∷ [])) here (more e none) rest

abbrev done : Outcome
done = Returned (v.Leaf v.Invalid)

-- print -7 \ 2; -7 mod 2: a quotient is cut toward zero, and a remainder has the sign of the left side
abbrev dividing : Todo
dividing =
    first (f.Print (f.Shown ∷ f.Semicolon ∷ f.Shown ∷ [])) here
    (forms (two (f.Multiply p.Divide) (negative (codes "7")) (number (codes "2")) ∷ two (f.Multiply p.Modulo) (negative (codes "7")) (number (codes "2")) ∷ [])) finish

a_negative_quotient : shown 9 dividing ≡ Printed (codes "-3-1") ∷ []
unfolding chars is_utf8 encode digits int_wrap
a_negative_quotient = refl

-- x = false and f(): the left side decides, so the name `f` is never read
abbrev deciding : Todo
deciding = set (codes "x") (two f.And (Node (f.Truth false) here none) (Node f.Call here (more (name (codes "f")) none))) finish

-- the Boolean 1, the operator 1, the assignment 1, the end 1
a_deciding_left : shown 3 deciding ≡ []
a_deciding_left = refl

a_deciding_left_ends : shown 4 deciding ≡ done ∷ []
unfolding unfolded
a_deciding_left_ends = refl

-- x = f: a name that is nothing
an_unset_name : shown 1 (set (codes "x") (name (codes "f")) finish) ≡ Raised E1 (record { path = 1; line = 2 }) ∷ []
an_unset_name = refl

-- print 1 \ 0
a_zero_divisor : shown 3 (print (two (f.Multiply p.Divide) (number (codes "1")) (number (codes "0"))) finish) ≡ Raised E3 (record { path = 1; line = 2 }) ∷ []
unfolding is_utf8
a_zero_divisor = refl

-- x = 1, x++ with 4 steps, print x
abbrev counting : Todo
counting = set (codes "x") (number (codes "1")) (first (f.Update (f.ToName (codes "x")) u.Plus here (number (codes "1"))) here none (print (name (codes "x")) finish))

an_increment : shown 8 counting ≡ Printed (codes " 2") ∷ []
unfolding chars is_utf8 digits int_wrap
an_increment = refl

-- for i = 1 to 3, next: 2 for the numbers, 1 to set i, 4 tests, 3 additions; then print i takes 2
abbrev a_loop : Todo
a_loop = first (f.For here (codes "i") finish) here (more (number (codes "1")) (more (number (codes "3")) none)) (print (name (codes "i")) finish)

a_for : shown 11 a_loop ≡ []
unfolding is_utf8 int_wrap
a_for = refl

a_for_ends : shown 12 a_loop ≡ Printed (codes " 4") ∷ []
unfolding chars is_utf8 digits int_wrap
a_for_ends = refl

-- for each x in [1, 2], next: 3 for the array, 1 to begin, 3 tests; then print x takes 2
abbrev each_of : Todo
each_of = first (f.ForEach here (codes "x") finish) here (more (two f.Array (number (codes "1")) (number (codes "2"))) none) (print (name (codes "x")) finish)

a_for_each : shown 8 each_of ≡ []
unfolding is_utf8
a_for_each = refl

a_for_each_ends : shown 9 each_of ≡ Printed (codes " 2") ∷ []
unfolding chars is_utf8 digits int_wrap
a_for_each_ends = refl

-- while true, exit while, end while: 1 to place the condition, the condition 1, 1 after it, the exit 1; then print takes 2
abbrev leaving : Todo
leaving = first (f.While (Node (f.Truth true) here none) (first (f.Exit loop.While) here none finish)) here none (print (number (codes "5")) finish)

an_exit : shown 5 leaving ≡ []
unfolding is_utf8
an_exit = refl

an_exit_ends : shown 6 leaving ≡ Printed (codes " 5") ∷ []
unfolding chars is_utf8 digits int_wrap
an_exit_ends = refl

-- if 1 .. : a condition is a Boolean
a_wrong_condition : shown 2 (first (f.If finish finish) here (more (number (codes "1")) none) finish) ≡ Raised E2 (record { path = 1; line = 2 }) ∷ []
unfolding is_utf8
a_wrong_condition = refl

-- a = [7], a[2] = 1, print a[1]: an array grows with `invalid`
abbrev growing : Todo
growing =
    set (codes "a") (Node f.Array here (more (number (codes "7")) none))
    (first (f.Set f.ToIndex) here (forms (name (codes "a") ∷ number (codes "2") ∷ number (codes "1") ∷ []))
    (print (two f.Index (name (codes "a")) (number (codes "1"))) finish))

a_growing_array : shown 11 growing ≡ Printed (codes "invalid") ∷ []
unfolding chars is_utf8
a_growing_array = refl
