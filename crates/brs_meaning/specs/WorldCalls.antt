-- Calls that ask something of the world and touch no node: of ports and screens, and the built-in functions that make objects or wait.
use Rattle.std.specs.Prelude.{ℕ, pos, Bool, true, false, List, [], ◌∷◌, cond, ◌==◌, int_lt, codes}
use Rattle.std.specs.Str.{bytes_eq}
use Rattle.chan_values.specs.Folded.{folded}
use Rattle.chan_values.specs.declared.error_code.ErrorCode.TheVariants.{E4, E6, E10}
use Rattle.heap_meaning.specs.declared.plain.Plain.TheVariants.{Invalid, Truth, Node, Screen}
use Rattle.heap_meaning.specs.Values.{StoreValue, Scalar}
use Rattle.heap_meaning.specs.Store.{ArrayObject, MapObject, Store}
use Rattle.brs_grammar.specs.Form.{Text}
use Rattle.brs_meaning.specs.Request.{Asks, Make, Scene, MakePort, Wait, Poll}
use Rattle.brs_meaning.specs.Given.{Given, Gives, Wants, Fails, makes}
use Rattle.brs_meaning.specs.Taking.{taking, text_then, port_then, number_then}

-- a method of a port, by its folded name
abbrev pub port_call : Text → (port : ℕ) → (arguments : List StoreValue) → Given
port_call name p vs = cond (bytes_eq name (codes "getmessage")) (taking 0 vs (Wants (Poll p))) (Fails E4)

-- a method of the screen, by its folded name
abbrev pub screen_call : Text → (arguments : List StoreValue) → Store → Given
screen_call name vs store =
    cond (bytes_eq name (codes "createscene")) (taking 1 vs (text_then vs (λ kind rest. Wants (Asks (Scene kind)))))
    (cond (bytes_eq name (codes "show")) (taking 0 vs (Gives (Scalar (Truth true)) store))
    (cond (bytes_eq name (codes "close")) (taking 0 vs (Gives (Scalar Invalid) store))
    (cond (bytes_eq name (codes "setmessageport")) (taking 1 vs (port_then vs (λ p rest. Gives (Scalar Invalid) store)))
    (cond (bytes_eq name (codes "getglobalnode")) (taking 0 vs (Gives (Scalar (Node 1)) store)) (Fails E4)))))

-- only actor 1 makes a screen
abbrev pub screen_made : Bool → (further : List StoreValue) → Store → Given
screen_made true further store = taking 0 further (Gives (Scalar Screen) store)
screen_made false further store = Gives (Scalar Invalid) store

-- CreateObject, by the folded name of what is made; other names give `invalid`, whatever further arguments there are
abbrev pub object_made : (actor : ℕ) → Text → (further : List StoreValue) → Store → Given
object_made actor name further store =
    cond (bytes_eq name (codes "roarray")) (makes (ArrayObject []) store)
    (cond (bytes_eq name (codes "roassociativearray")) (taking 0 further (makes (MapObject []) store))
    (cond (bytes_eq name (codes "romessageport")) (taking 0 further (Wants MakePort))
    (cond (bytes_eq name (codes "rosgnode")) (taking 1 further (text_then further (λ kind rest. Wants (Asks (Make kind)))))
    (cond (bytes_eq name (codes "rosgscreen")) (screen_made (actor == 1) further store) (Gives (Scalar Invalid) store)))))

abbrev pub create_object : (actor : ℕ) → (arguments : List StoreValue) → Store → Given
create_object actor [] store = Fails E6
create_object actor (v ∷ vs) store = text_then (v ∷ vs) (λ name further. object_made actor (folded name) further store)

-- Wait: in the render actor it is an error whatever it is given
abbrev pub wait : (actor : ℕ) → (arguments : List StoreValue) → Given
wait actor vs = taking 2 vs (cond (actor == 0) (Fails E10) (number_then vs (λ t rest. port_then rest (λ p more. Wants (Wait p (int_lt (pos 0) t))))))
