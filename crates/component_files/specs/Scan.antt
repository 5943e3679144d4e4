-- Reading a component file piece by piece, with the line of the first piece that leads nowhere.
use Rattle.std.specs.Prelude.{◌≡◌, ℕ, zero, suc, ◌-◌, if◌then◌else◌, List, length, take, Some, None, Result, Ok, Err}
use Rattle.xml_pieces.specs.Written.{is_empty}
use Rattle.xml_pieces.specs.Reading.{Outcome, and_then, bind, a_piece}
use Rattle.component_files.specs.declared.place.Place.{Place}
use Rattle.component_files.specs.declared.element.ComponentFile.{ComponentFile}
use Rattle.component_files.specs.declared.state.State.TheVariants as state
use Rattle.component_files.specs.declared.state.Progress.{Progress}
use Rattle.component_files.specs.declared.state.Progress.TheVariants.{Start, Inside}
use Rattle.component_files.specs.declared.read.ComponentAnswer.{ComponentAnswer}
use Rattle.component_files.specs.declared.read.ComponentAnswer.TheVariants.{Fault, NoMemory}
use Rattle.component_files.specs.Places.{place_after}
use Rattle.component_files.specs.Steps.{advance}

abbrev pub finish : Progress → ℕ → Result ComponentFile ℕ
finish Start line = Err line
finish (Inside state.Before) line = Err line
finish (Inside (state.Component f)) line = Err line
finish (Inside (state.Interface f)) line = Err line
finish (Inside (state.Member f k)) line = Err line
finish (Inside (state.Script f s)) line = Err line
finish (Inside (state.Children f os)) line = Err line
finish (Inside (state.After f)) line = Ok f

unfoldable pub turn : Progress → Place → List ℕ → Outcome Progress
turn s place bs = and_then (a_piece bs) (λ p rest. bind (advance s p place) (λ next. Some (next, rest)))

abbrev pub goes_on : Outcome Progress → (Progress → List ℕ → Result ComponentFile ℕ) → ℕ → Result ComponentFile ℕ
goes_on (Some x) f line = f x.0 x.1
goes_on None f line = Err line

-- the bytes before a rest
abbrev pub before : List ℕ → List ℕ → List ℕ
before bs rest = take (length bs - length rest) bs

unfoldable pub scan : ℕ → Progress → Place → List ℕ → Result ComponentFile ℕ
scan zero s place bs = if is_empty bs then finish s place.line else Err place.line
scan (suc n) s place bs = if is_empty bs then finish s place.line else goes_on (turn s place bs) (λ next rest. scan n next (place_after place (before bs rest)) rest) place.line

abbrev pub Finds : Result ComponentFile ℕ → Result ComponentFile ComponentAnswer → Type 0
Finds o (Ok f) = o ≡ Ok f
Finds o (Err (Fault at)) = o ≡ Err at.line
Finds o (Err NoMemory) = Unit {0}

-- this file is what is answered, unless memory runs out
abbrev pub IsRead : ComponentFile → Result ComponentFile ComponentAnswer → Type 0
IsRead f (Ok g) = g ≡ f
IsRead f (Err (Fault at)) = ⊥
IsRead f (Err NoMemory) = Unit {0}

-- a fault on this line is what is answered, unless memory runs out
abbrev pub IsFault : ℕ → Result ComponentFile ComponentAnswer → Type 0
IsFault n (Ok g) = ⊥
IsFault n (Err (Fault at)) = at.line ≡ n
IsFault n (Err NoMemory) = Unit {0}
