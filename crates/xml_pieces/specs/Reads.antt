-- What a function that reads answers: what its reading gives, unless memory runs out.
use Rattle.std.specs.Prelude.{◌≡◌, Bool, true, false, ℕ, List, Result, Ok, Err, Option, Some, None}
use Rattle.xml_pieces.specs.Reading.{Outcome}
use Rattle.xml_pieces.specs.declared.read_error.ReadError.{ReadError}
use Rattle.xml_pieces.specs.declared.read_error.ReadError.TheVariants.{Fault, NoMemory}

abbrev pub Gives : {X Y : Type 0} → (X → Y) → Outcome Y → Result X ReadError → List ℕ → Type 0
Gives view outcome (Ok x) new = outcome ≡ Some (view x, new)
Gives view outcome (Err Fault) new = outcome ≡ None
Gives view outcome (Err NoMemory) new = Unit {0}

abbrev pub Reads : {A : Type 0} → Outcome A → Result A ReadError → List ℕ → Type 0
Reads = Gives (λ a. a)

-- what a function that takes nothing off a text answers
abbrev pub Answers : {A : Type 0} → Option A → Result A ReadError → Type 0
Answers o (Ok x) = o ≡ Some x
Answers o (Err Fault) = o ≡ None
Answers o (Err NoMemory) = Unit {0}

-- a mark was taken, or nothing was
abbrev pub Eats : Option (List ℕ) → Bool → List ℕ → List ℕ → Type 0
Eats o true old new = o ≡ Some new
Eats o false old new = (o ≡ None) × (new ≡ old)
