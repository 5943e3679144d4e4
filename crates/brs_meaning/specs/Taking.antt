-- Arguments of calls that ask something of the world, by their kinds. The number of arguments counts before their kinds.
use Rattle.std.specs.Prelude.{ℕ, ℤ, Bool, List, [], ◌∷◌, length, cond, ◌==◌}
use Rattle.chan_values.specs.declared.error_code.ErrorCode.TheVariants.{E2, E6}
use Rattle.heap_meaning.specs.declared.plain.Plain.TheVariants.{Truth, Small, Big, Node, Port}
use Rattle.heap_meaning.specs.Values.{StoreValue, Scalar, Words}
use Rattle.brs_grammar.specs.Form.{Text}
use Rattle.brs_meaning.specs.Given.{Given, Fails}

-- so many arguments
abbrev pub taking : ℕ → List StoreValue → Given → Given
taking n arguments given = cond (length arguments == n) given (Fails E6)

-- the first argument, and then the others
abbrev pub text_then : List StoreValue → (Text → List StoreValue → Given) → Given
text_then (Words t ∷ rest) given = given t rest
text_then _ given = Fails E2

abbrev pub node_then : List StoreValue → (ℕ → List StoreValue → Given) → Given
node_then (Scalar (Node n) ∷ rest) given = given n rest
node_then _ given = Fails E2

abbrev pub port_then : List StoreValue → (ℕ → List StoreValue → Given) → Given
port_then (Scalar (Port p) ∷ rest) given = given p rest
port_then _ given = Fails E2

-- a number of either width
abbrev pub number_then : List StoreValue → (ℤ → List StoreValue → Given) → Given
number_then (Scalar (Small n) ∷ rest) given = given n rest
number_then (Scalar (Big n) ∷ rest) given = given n rest
number_then _ given = Fails E2

abbrev pub truth_then : List StoreValue → (Bool → List StoreValue → Given) → Given
truth_then (Scalar (Truth b) ∷ rest) given = given b rest
truth_then _ given = Fails E2

abbrev pub value_then : List StoreValue → (StoreValue → List StoreValue → Given) → Given
value_then (v ∷ rest) given = given v rest
value_then [] given = Fails E2

-- a text or a port
abbrev pub target_then : List StoreValue → (Text → Given) → (ℕ → Given) → Given
target_then (Words t ∷ rest) by_name by_port = by_name t
target_then (Scalar (Port p) ∷ rest) by_name by_port = by_port p
target_then _ by_name by_port = Fails E2
