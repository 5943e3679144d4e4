-- What an expression gives of the values of its operands, of which the last stands first: one row for each head.
use Rattle.std.specs.Prelude.{List, [], ◌∷◌, map, reverse}
use Rattle.brs_tokens.specs.declared.place.Place.{Place}
use Rattle.chan_values.specs.declared.error_code.ErrorCode.TheVariants.{E2}
use Rattle.heap_meaning.specs.declared.plain.Plain.TheVariants as p
use Rattle.heap_meaning.specs.Values.{StoreValue, Scalar, Words, Entry}
use Rattle.heap_meaning.specs.Keys.{with_key}
use Rattle.heap_meaning.specs.Store.{ArrayObject, MapObject, Store}
use Rattle.plain_operations.specs.Operators.{operated, operated_alone}
use Rattle.plain_operations.specs.declared.operator.Operator.{Operator}
use Rattle.plain_operations.specs.declared.operator.Operator.TheVariants as o
use Rattle.plain_operations.specs.declared.operator.UnaryOperator.{UnaryOperator}
use Rattle.plain_operations.specs.declared.operator.UnaryOperator.TheVariants as u
use Rattle.brs_grammar.specs.Form.{Text, Head, Number, Quoted, Truth, Invalid, Name, Array, Pairs, Negate, Not, And, Or, Compare, Shift, Add, Multiply, Member, Index, CallMember, Call, Anonymous}
use Rattle.brs_meaning.specs.Given.{Given, Gives, Fails, Setting, makes, answered}
use Rattle.brs_forms.specs.Words.{readable, text_of, key_of}
use Rattle.brs_meaning.specs.Literals.{number_of}
use Rattle.brs_builtins.specs.Operands.{operand, answer_of}
use Rattle.brs_meaning.specs.Operators.{comparison, shift, sum, product}
use Rattle.brs_meaning.specs.Names.{named}
use Rattle.brs_meaning.specs.Members.{member_read, index_read}
use Rattle.brs_meaning.specs.Calls.{call, member_call}

abbrev pub binary : Operator → List StoreValue → Store → Given
binary op (b ∷ a ∷ []) store = answered (answer_of (operated op (operand a) (operand b)) store)
binary op vs store = Fails E2

abbrev pub unary : UnaryOperator → List StoreValue → Store → Given
unary op (a ∷ []) store = answered (answer_of (operated_alone op (operand a)) store)
unary op vs store = Fails E2

-- a later equal key replaces
abbrev pub entries : List Text → List StoreValue → List (Entry StoreValue) → List (Entry StoreValue)
entries (k ∷ ks) (v ∷ vs) so_far = entries ks vs (with_key so_far k v)
entries _ _ so_far = so_far

abbrev pub called_with : Setting → List StoreValue → Store → Given
called_with s (f ∷ arguments) store = call s f arguments store
called_with s [] store = Fails E2

abbrev pub member_called_with : Setting → Text → List StoreValue → Store → Given
member_called_with s k (x ∷ arguments) store = member_call s x k arguments store
member_called_with s k [] store = Fails E2

abbrev pub member_of : Text → List StoreValue → Store → Given
member_of k (x ∷ []) store = member_read x k store
member_of k vs store = Fails E2

abbrev pub index_of : List StoreValue → Store → Given
index_of (i ∷ x ∷ []) store = index_read x i store
index_of vs store = Fails E2

abbrev pub contract : Setting → Head → Place → List StoreValue → Store → Given
contract s (Number t) at vs store = Gives (number_of t) store
contract s (Quoted t) at vs store = Gives (Words (text_of t)) store
contract s (Truth b) at vs store = Gives (Scalar (p.Truth b)) store
contract s Invalid at vs store = Gives (Scalar p.Invalid) store
contract s (Name x) at vs store = named s x store
contract s Array at vs store = makes (ArrayObject (reverse vs)) store
contract s (Pairs keys) at vs store = makes (MapObject (entries (map key_of keys) (reverse vs) [])) store
contract s Negate at vs store = unary u.Negate vs store
contract s Not at vs store = unary u.Not vs store
contract s And at vs store = binary o.And vs store
contract s Or at vs store = binary o.Or vs store
contract s (Compare sign) at vs store = binary (comparison sign) vs store
contract s (Shift sign) at vs store = binary (shift sign) vs store
contract s (Add sign) at vs store = binary (sum sign) vs store
contract s (Multiply sign) at vs store = binary (product sign) vs store
contract s (Member k) at vs store = member_of (readable k) vs store
contract s Index at vs store = index_of vs store
contract s (CallMember k) at vs store = member_called_with s (readable k) (reverse vs) store
contract s Call at vs store = called_with s (reverse vs) store
contract s (Anonymous kind params value body) at vs store = Gives (Scalar (p.Function (s.program.anonymous s.function.file at))) store
