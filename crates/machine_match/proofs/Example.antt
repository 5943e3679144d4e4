-- `x = x + 1` in its code, its machine and its tree, worked out by hand.
use Rattle.std.proofs.Common.{◌≡◌, ℕ, zero, suc, List, [], ◌∷◌, Option, Some, None, Bool, true, false, cond, refl, subst}
use Rattle.std.specs.Prelude.{pos, codes, slice_get, nat_lt}
use Rattle.std.specs.Int.{int_wrap}
use Rattle.brs_tokens.specs.declared.place.Place.{Place}
use Rattle.brs_grammar.specs.declared.tree.SumSign.TheVariants.{Plus}
use Rattle.brs_grammar.specs.Form as g
use Rattle.brs_grammar.specs.Form.{Text, Form, Node, none, more, unnamed, Todo, finish, first}
use Rattle.heap_meaning.specs.declared.plain.Plain.TheVariants.{Invalid, Small}
use Rattle.heap_meaning.specs.Values.{StoreValue, Scalar}
use Rattle.brs_code.specs.declared.function.Function as code
use Rattle.brs_code.specs.declared.function.ValueType.TheVariants.{Any}
use Rattle.brs_code.specs.declared.instr.Instr.{Instr}
use Rattle.brs_code.specs.declared.instr.Instr.TheVariants as i
use Rattle.brs_code.specs.declared.instr.Operator.TheVariants as o
use Rattle.brs_code.specs.declared.instr.Placed.{Placed}
use Rattle.code_relation.specs.Standing.{FunctionAt, AreDistinct, no_loops}
use Rattle.brs_meaning.specs.Program.{Program, Function, scoped}
use Rattle.brs_forms.specs.Words.{is_m}
use Rattle.brs_meaning.specs.Locals.{Home, local}
use Rattle.brs_meaning.specs.Running as r
use Rattle.brs_meaning.specs.Running.{OnTop, Does, around, Under, under, AtHead, AtJob, AtEnd, before}
use Rattle.brs_meaning.specs.Moving.{next}
use Rattle.brs_meaning.specs.Reduction.{Went, reduce, reduced}
use Rattle.machine_meaning.specs.Image as m
use Rattle.machine_meaning.specs.Image.{Image, function_at, built_in_at}
use Rattle.machine_meaning.specs.Frame as f
use Rattle.machine_meaning.specs.Frame.{Operand, Holds, Frame}
use Rattle.machine_meaning.specs.Stepping.{Shows, Steps, counted}
use Rattle.machine_match.specs.Places.{here as at_once}
use Rattle.machine_match.specs.Stands.{FunctionStands, CalleeStands, ImageStands, SlotsAre, FrameStands, compiled, Stands}
use Rattle.machine_match.proofs.Control.{block_rest, rest_next}
use Rattle.machine_match.proofs.Going.{next_stands}

-- ---- the forms

abbrev here : Place
here = record { line = 2; column = 1 }

abbrev x : Text
x = codes "x"

abbrev sum : Form
sum = Node (g.Add Plus) here (more (Node (g.Name x) here none) (more (Node (g.Number (codes "1")) here none) none))

abbrev body : Todo
body = first (g.Set (g.ToName x)) here (more sum none) finish

abbrev source : Function
source = record { file = 0; path = 1; heading = record { line = 1; column = 1 }; callee = record { params = unnamed; value = None; body = body } }

-- ---- the code

abbrev placed : Instr → (line operands : ℕ) → Placed
placed instr line operands = record { instr = instr; line = line; operands = operands }

abbrev code_of : code.Function
code_of = record {
  path = 1;
  line = 1;
  first = 0;
  parameters = [];
  needed = 0;
  value = Any;
  names = x ∷ [];
  texts = [];
  marks = [];
  start = 0;
  code = placed (i.Load 0) 2 0 ∷ placed (i.Integer (pos 1)) 2 1 ∷ placed (i.Binary o.Add) 2 2 ∷ placed (i.Store 0) 2 1 ∷ placed i.End 0 0 ∷ [];
}

one_name : AreDistinct (x ∷ [])
one_name zero zero y a b = refl
one_name zero (suc m) y a b = absurd cc
one_name (suc n) m y a b = absurd cc

-- it stands to the forms
pub code_stands : FunctionAt [] code_of (record { line = 1; callee = source.callee })
code_stands = record {
  line = refl;
  value = refl;
  needed = refl;
  names = one_name;
  entry = 0;
  parameters = refl;
  end = 4;
  body = (
    3,
    (
      3,
      (
        2,
        (
          1,
          (0, refl, record { index = 0; names = λ e. refl; instr = record { has = (0, refl); takes = refl; next = refl } }),
          (1, refl, 2, (1, refl, record { index = 0; names = tt; instr = record { has = (1, refl); takes = refl; next = refl } }), refl),
        ),
        record { index = 0; names = tt; instr = record { has = (2, refl); takes = refl; next = refl } },
      ),
      refl,
    ),
    4,
    record { index = 0; aims = refl; instr = record { has = (1, refl); takes = refl; next = refl } },
    refl,
  );
  leaves = (0, refl);
}

-- ---- the machine

abbrev image : Image
image = record { code = record { named = code_of ∷ []; anonymous = []; scopes = [] ∷ [] }; built_ins = [] }

abbrev homes : List Home
homes = record { scope = 0; m = Scalar Invalid } ∷ []

abbrev number : ℕ → StoreValue
number n = Scalar (Small (pos n))

abbrev frame : (place : ℕ) → List Operand → (value : ℕ) → Frame
frame place operands value =
    record { kind = OnTop; function = code_of; home = 0; m = Scalar Invalid; place = place; operands = operands; slots = Some (number value) ∷ [] }

-- x is 1: its value becomes an operand, then 1, then their sum, which the slot takes
pub reads_x : Steps image 1 homes [] [] (frame 0 [] 1) (Shows Went (f.Works (frame 1 (Holds (number 1) ∷ []) 1) []) [])
reads_x = counted refl refl

pub reads_1 : Steps image 1 homes [] [] (frame 1 (Holds (number 1) ∷ []) 1) (Shows Went (f.Works (frame 2 (Holds (number 1) ∷ Holds (number 1) ∷ []) 1) []) [])
reads_1 = counted refl refl

pub adds : Steps image 1 homes [] [] (frame 2 (Holds (number 1) ∷ Holds (number 1) ∷ []) 1) (Shows Went (f.Works (frame 3 (Holds (number 2) ∷ []) 1) []) [])
unfolding int_wrap
adds = counted refl refl

pub sets_x : Steps image 1 homes [] [] (frame 3 (Holds (number 2) ∷ []) 1) (Shows Went (f.Works (frame 4 [] 2) []) [])
sets_x = counted refl refl

-- ---- the tree

abbrev program : Program
program = record { function = slice_get (source ∷ []); built_in = λ n. None; anonymous = λ n at. 0; built_in_number = λ y. None; scopes = [] ∷ [] }

abbrev call : (value : ℕ) → r.Call
call value = record { kind = OnTop; function = source; home = 0; m = Scalar Invalid; locals = record { key = x; value = number value } ∷ [] }

abbrev under_set : Under
under_set = under (Does (g.Set (g.ToName x))) here [] none

abbrev tree : (value : ℕ) → r.Spot → r.Tree
tree value spot = r.Works (call value) spot [] []

pub begins : next (call 1) (before body []) [] ≡ tree 1 (AtHead (g.Name x) here [] (around (g.Add Plus) here [] (more (Node (g.Number (codes "1")) here none) none) ∷ []) under_set)
begins = refl

pub name_is_value : reduce program 1 homes (next (call 1) (before body []) []) [] ≡ reduced Went (tree 1 (AtHead (g.Number (codes "1")) here [] (around (g.Add Plus) here (number 1 ∷ []) none ∷ []) under_set)) []
name_is_value = refl

pub number_is_value : reduce program 1 homes (tree 1 (AtHead (g.Number (codes "1")) here [] (around (g.Add Plus) here (number 1 ∷ []) none ∷ []) under_set)) [] ≡ reduced Went (tree 1 (AtHead (g.Add Plus) here (number 1 ∷ number 1 ∷ []) [] under_set)) []
number_is_value = refl

pub sum_is_value : reduce program 1 homes (tree 1 (AtHead (g.Add Plus) here (number 1 ∷ number 1 ∷ []) [] under_set)) [] ≡ reduced Went (tree 1 (AtJob (Does (g.Set (g.ToName x))) here (number 2 ∷ []))) []
unfolding int_wrap
sum_is_value = refl

pub x_is_set : reduce program 1 homes (tree 1 (AtJob (Does (g.Set (g.ToName x))) here (number 2 ∷ []))) [] ≡ reduced Went (tree 2 AtEnd) []
x_is_set = refl

-- ---- the machine stands for the tree

no_m : (n : ℕ) (y : Text) → slice_get (x ∷ []) n ≡ Some y → is_m y ≡ false
no_m zero y e = let same : x ≡ y = cc in subst (λ z. is_m z ≡ false) same refl
no_m (suc n) y e = absurd cc

function_stands : FunctionStands image program code_of source
function_stands = record { path = refl; forms = []; code = code_stands; no_m = no_m; params = tt; body = (tt, ((tt, ((tt, tt), ((tt, tt), tt))), tt), tt) }

pub image_stands : ImageStands image program
image_stands = record { functions = functions; built_ins = built_ins; numbers = λ y. refl; scopes = scopes }
  where
    functions : (n : ℕ) → CalleeStands image program (function_at image n) (program.function n)
    functions zero = function_stands
    functions (suc n) = tt

    built_ins : (n : ℕ) → program.built_in n ≡ built_in_at image n
    built_ins n = either_way (nat_lt n 1) None
      where
        either_way : (b : Bool) (o : Option Text) → o ≡ cond b o o
        either_way true o = refl
        either_way false o = refl

    scopes : (scope : ℕ) (y : Text) → scoped program scope y ≡ m.scoped image scope y
    scopes zero y = refl
    scopes (suc n) y = refl

slots_are : SlotsAre code_of (Some (number 1) ∷ []) (call 1).locals
slots_are zero y e = let same : x ≡ y = cc in subst (λ z. local z (call 1).locals ≡ Some (number 1)) same refl
slots_are (suc n) y e = absurd cc

-- so the laws speak of it
pub machine_stands : Stands image program (f.Works (frame 0 [] 1) []) (next (call 1) (before body []) [])
machine_stands =
    let stands : FrameStands image program (frame 0 [] 1) (call 1) = record { function = function_stands; same = refl; slots = slots_are; room = refl } in
    let end = function_stands.code.end in
    let rest = block_rest (compiled function_stands) body (no_loops end) 0 end [] function_stands.code.body function_stands.body (end, at_once, function_stands.code.leaves, refl) in
    next_stands image program (frame 0 [] 1) (call 1) stands (before body []) [] [] refl (rest_next (compiled function_stands) (no_loops end) 0 (before body []) rest) tt
