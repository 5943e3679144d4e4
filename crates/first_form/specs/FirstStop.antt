-- What a function that reads answers, unless memory runs out.
use Rattle.std.specs.Prelude.{◌≡◌, List, [], ◌∷◌, Option, Some, None, Result, Ok, Err}
use Rattle.brs_tokens.specs.Tok.{Tok}
use Rattle.first_form.specs.declared.cursor.Stop.{Stop}
use Rattle.first_form.specs.declared.cursor.Stop.TheVariants.{NotFirst, NoMemory}

-- the value of one token
abbrev pub Tells : {A : Type 0} → Option A → Result A Stop → Type 0
Tells told (Ok a) = told ≡ Some a
Tells told (Err NotFirst) = told ≡ None
Tells told (Err NoMemory) = Unit {0}

-- a value and the tokens that are left
abbrev pub Reads : {A : Type 0} → Option (A × List Tok) → Result A Stop → List Tok → Type 0
Reads outcome (Ok a) new = outcome ≡ Some (a, new)
Reads outcome (Err NotFirst) new = outcome ≡ None
Reads outcome (Err NoMemory) new = Unit {0}

-- the same for a function that answers one item or none, where the reading has a list
abbrev pub option_items : {A : Type 0} → Option A → List A
option_items None = []
option_items (Some a) = a ∷ []

abbrev pub ReadsItems : {A : Type 0} → Option (List A × List Tok) → Result (Option A) Stop → List Tok → Type 0
ReadsItems outcome (Ok a) new = outcome ≡ Some (option_items a, new)
ReadsItems outcome (Err NotFirst) new = outcome ≡ None
ReadsItems outcome (Err NoMemory) new = Unit {0}
