-- The functions and the scopes of a channel, as its actors see them.
use Rattle.std.specs.Prelude.{ℕ, List, Option, Some, None, slice_get}
use Rattle.brs_tokens.specs.declared.place.Place as t
use Rattle.chan_values.specs.declared.place.Place as c
use Rattle.heap_meaning.specs.Values.{Entry}
use Rattle.heap_meaning.specs.Keys.{value_at_key}
use Rattle.brs_grammar.specs.Form.{Text}
use Rattle.brs_grammar.specs.Parts.{Callee}

-- a function of the source, named or anonymous: the file that it stands in, the path of that file in the listing, the place of its
-- first word, and what is called
pub record Function : Type 0 where
  pub file : ℕ
  pub path : ℕ
  pub heading : t.Place
  pub callee : Callee

-- the functions that a scope has, by folded name
abbrev pub Scope : Type 0
Scope = List (Entry ℕ)

-- what is called by a number, the number of an anonymous function by its file and the place of its first word, that of a built-in
-- function by its folded name, and the scopes by number
pub record Program : Type 0 where
  pub function : ℕ → Option Function
  pub built_in : ℕ → Option Text
  pub anonymous : (file : ℕ) → t.Place → ℕ
  pub built_in_number : Text → Option ℕ
  pub scopes : List Scope

-- the function of a name in a scope
abbrev pub in_scope : Option Scope → Text → Option ℕ
in_scope None x = None
in_scope (Some scope) x = value_at_key scope x

abbrev pub scoped : Program → (scope : ℕ) → Text → Option ℕ
scoped p scope x = in_scope (slice_get p.scopes scope) x

-- a place of a function's file, as it is reported
abbrev pub place_in : Function → t.Place → c.Place
place_in f at = record { path = f.path; line = at.line }

-- the place of a function's heading
abbrev pub heading : Function → c.Place
heading f = place_in f f.heading
