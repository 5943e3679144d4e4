-- The locals of a call, and the homes of an actor.
use Rattle.std.specs.Prelude.{ℕ, List, [], ◌∷◌, Option, cond}
use Rattle.std.specs.Str.{bytes_eq}
use Rattle.heap_meaning.specs.Values.{StoreValue, Entry}
use Rattle.heap_meaning.specs.Keys.{value_at_key}
use Rattle.brs_grammar.specs.Form.{Text}

-- the locals that were assigned, by folded name, each once, in the order in which they were first assigned
abbrev pub Locals : Type 0
Locals = List (Entry StoreValue)

abbrev pub local : Text → Locals → Option StoreValue
local x locals = value_at_key locals x

-- the locals after an assignment
abbrev pub assigned : Text → StoreValue → Locals → Locals
assigned x v [] = record { key = x; value = v } ∷ []
assigned x v (e ∷ rest) = cond (bytes_eq e.key x) (record { key = x; value = v } ∷ rest) (e ∷ assigned x v rest)

-- a home: the number of the scope in which its names are looked up, and its `m`
pub record Home : Type 0 where
  pub scope : ℕ
  pub m : StoreValue
