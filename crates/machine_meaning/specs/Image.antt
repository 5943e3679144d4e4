-- The functions and the scopes of a channel, as its code has them.
use Rattle.std.specs.Prelude.{ℕ, suc, ◌+◌, ◌-◌, List, [], ◌∷◌, ◌++◌, length, Option, Some, None, slice_get, cond, nat_lt}
use Rattle.std.specs.Str.{bytes_eq}
use Rattle.chan_values.specs.declared.place.Place.{Place}
use Rattle.brs_grammar.specs.Form.{Text}
use Rattle.brs_code.specs.declared.code.Code.{Code}
use Rattle.brs_code.specs.declared.function.Function.{Function}
use Rattle.brs_code.specs.declared.scope.ScopeEntry.{ScopeEntry}
use Rattle.brs_code.specs.Join.{function_count}

-- the joined code of a channel, and the folded names of the built-in functions in the order of their numbers
pub record Image : Type 0 where
  pub code : Code
  pub built_ins : List Text

-- named functions have the first numbers, and anonymous functions those behind them
abbrev pub function_at : Image → ℕ → Option Function
function_at image n = slice_get (image.code.named ++ image.code.anonymous) n

-- the number of the anonymous function that a function's file lists at a place
abbrev pub anonymous_number : Image → Function → ℕ → ℕ
anonymous_number image f n = length image.code.named + (f.first + n)

-- built-in functions have the numbers behind those of the code
abbrev pub built_in_at : Image → ℕ → Option Text
built_in_at image n = cond (nat_lt n (function_count image.code)) None (slice_get image.built_ins (n - function_count image.code))

abbrev pub number_among : List Text → Text → ℕ → Option ℕ
number_among [] x n = None
number_among (y ∷ names) x n = cond (bytes_eq y x) (Some n) (number_among names x (suc n))

abbrev pub built_in_number : Image → Text → Option ℕ
built_in_number image x = number_among image.built_ins x (function_count image.code)

-- the number of the function that a name reads as in a scope
abbrev pub among_entries : List ScopeEntry → Text → Option ℕ
among_entries [] x = None
among_entries (e ∷ entries) x = cond (bytes_eq e.name x) (Some e.function) (among_entries entries x)

abbrev pub in_scope : Option (List ScopeEntry) → Text → Option ℕ
in_scope None x = None
in_scope (Some entries) x = among_entries entries x

abbrev pub scoped : Image → (scope : ℕ) → Text → Option ℕ
scoped image scope x = in_scope (slice_get image.code.scopes scope) x

-- a line of a function, and the line of its first word, as they are reported
abbrev pub place_at : Function → (line : ℕ) → Place
place_at f line = record { path = f.path; line = line }
