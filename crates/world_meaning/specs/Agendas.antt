-- What actor 0 does once a job is over, and how a job begins.
use Rattle.std.specs.Prelude.{ℕ, Bool, true, false, List, [], ◌∷◌, ◌++◌, Option, Some, None, codes}
use Rattle.chan_values.specs.Folded.{folded}
use Rattle.chan_values.specs.declared.error_code.ErrorCode.TheVariants.{E9}
use Rattle.chan_values.specs.declared.key.Key.{Key}
use Rattle.chan_values.specs.declared.key.Key.TheVariants as key
use Rattle.chan_values.specs.declared.message.Message.{Message}
use Rattle.chan_values.specs.declared.place.Place.{Place}
use Rattle.chan_values.specs.Tree.{Invalid, Boolean, Words, Tree, Leaf}
use Rattle.field_observers.specs.declared.target.Target.{Target}
use Rattle.field_observers.specs.declared.target.Target.TheVariants as target
use Rattle.field_observers.specs.declared.target.Registration.{Registration}
use Rattle.message_ports.specs.Messages.{messages_of, with_messages}
use Rattle.focus_keys.specs.KeyText.{text_of}
use Rattle.brs_meaning.specs.Program.{Function, scoped, heading}
use Rattle.brs_meaning.specs.Reduction.{home_of}
use Rattle.brs_meaning.specs.Answering.{Value, Arguments, Values, Message', Put, Done, Refused, put}
use Rattle.world_meaning.specs.Channel.{Channel, function_at, function_of_node}
use Rattle.world_meaning.specs.Labels.{Answers, Delivers, Visits, Takes}
use Rattle.world_meaning.specs.Core as k
use Rattle.world_meaning.specs.Core.{Hands, GoesBack, Closing, Init, Answer, Another, EntryEnd, Agenda, Deliveries, Inits, Called, Core, Moved, moved, followed, actor_at, change_actor, with_agendas, home_of_node, tree_of_actor, store_of_actor, homes_of_actor, waiting_calls}
use Rattle.world_meaning.specs.Ending.{with_state, fail, close, answer, refuse}

abbrev pub invalid : Tree
invalid = Leaf Invalid

abbrev pub yes : Tree
yes = Leaf (Boolean true)

abbrev pub no : Tree
no = Leaf (Boolean false)

-- ---- the last job is over

-- nobody took a key: a press of back ends the channel
abbrev pub untaken : Key → (press : Bool) → Closing
untaken key.Back true = GoesBack
untaken _ press = Hands (Value no)

-- where nothing is left to do and nothing is at work, the answer follows
abbrev pub settled : List Agenda → Core → Moved
settled (Deliveries false message [] (Answer reply) ∷ later) c = moved (answer reply (with_agendas later c)) (Answers ∷ [])
settled (Deliveries false message [] Another ∷ later) c = followed (moved (with_agendas later c) (Answers ∷ [])) (settled later)
settled (Deliveries false message [] EntryEnd ∷ later) c = moved (answer (Value invalid) (with_agendas later c)) []
settled (Inits false [] reply ∷ later) c = moved (answer reply (with_agendas later c)) []
settled (k.Visits key press None [] ∷ later) c = moved (close (untaken key press) (with_agendas later c)) []
settled _ c = moved c []

abbrev pub settle : Core → Moved
settle c = settled c.agendas c

abbrev pub settle_with : List Agenda → Core → Moved
settle_with agendas c = settled agendas (with_agendas agendas c)

-- ---- a job is over

-- what a call that was put on top left: a value, or one that can't be unfolded, with the place of its return
pub data Left : Type 0 where
  Came : Tree → Left
  TooLarge : Place → Left

-- the value of a function of an interface is the answer
abbrev pub returned : Left → Core → Moved
returned (Came v) c = moved (answer (Value v) c) []
returned (TooLarge at) c = refuse E9 (Some at) c

-- only the Boolean true takes a key
abbrev pub takes : Left → Bool
takes (Came (Leaf (Boolean b))) = b
takes _ = false

-- the walk is over at the first node whose handler takes the key
abbrev pub visited : (taken : Bool) → Key → Bool → (node : ℕ) → (left : List ℕ) → (later : List Agenda) → Core → Moved
visited true key press n left later c = moved (close (Hands (Value yes)) (with_agendas later c)) (Takes key press n true ∷ [])
visited false key press n left later c = followed (moved c (Takes key press n false ∷ [])) (settle_with (k.Visits key press None left ∷ later))

-- the job at work is over. What an observer or an `init` returns is dropped.
abbrev pub finished : Left → List Agenda → Core → Moved
finished v (Deliveries busy message left next ∷ later) c = settle_with (Deliveries false message left next ∷ later) c
finished v (Inits busy left reply ∷ later) c = settle_with (Inits false left reply ∷ later) c
finished v (Called ∷ later) c = returned v (with_agendas later c)
finished v (k.Visits key press (Some n) left ∷ later) c = visited (takes v) key press n left later c
finished v (k.Visits key press None left ∷ later) c = moved c []
finished v [] c = moved c []

abbrev pub finish : Left → Core → Moved
finish v c = finished v c.agendas c

-- ---- a job begins

-- the error of a call that can't begin comes in actor 0, at the heading of the function
abbrev pub topped : Function → Put → Core → Moved
topped f (Done s) c = moved (change_actor 0 (with_state s) c) []
topped f (Refused e) c = fail 0 e (heading f) c

-- a call on top in actor 0. A number that is no function's calls nothing.
abbrev pub call_on_top : Option Function → (home : ℕ) → Arguments → Core → Moved
call_on_top None home arguments c = finish (Came invalid) c
call_on_top (Some f) home arguments c =
    let x = actor_at c 0 in
    topped f (put f home (homes_of_actor x) arguments (waiting_calls (tree_of_actor x)) (store_of_actor x)) c

-- a delivery calls the function in the home that registered it, with the message where it has a parameter; or puts the message into the port
abbrev pub deliver_to : Channel → Message → Target → Core → Moved
deliver_to ch message (target.Function home name) c =
    call_on_top (function_at ch (scoped ch.program (home_of (homes_of_actor (actor_at c 0)) home).scope (folded name))) home (Message' message) c
deliver_to ch message (target.Port port) c = finish (Came invalid) (record c { ports = with_messages c.ports port (messages_of c.ports port ++ message ∷ []) })

abbrev pub deliver : Channel → Message → Registration → Core → Moved
deliver ch message r c = followed (moved c (Delivers message.node message.field r ∷ [])) (deliver_to ch message r.target)

abbrev pub call_init : Channel → Init → Core → Moved
call_init ch i c = call_on_top (ch.program.function i.function) i.home (Values []) c

-- a handler gets the text of the key, and whether it is pressed
abbrev pub call_handler : Channel → Key → Bool → (node : ℕ) → (home : Option ℕ) → Core → Moved
call_handler ch key press n None c = finish (Came invalid) c
call_handler ch key press n (Some home) c =
    call_on_top (function_at ch (function_of_node ch c.nodes n (codes "onkeyevent"))) home (Values (Leaf (Words (text_of key)) ∷ Leaf (Boolean press) ∷ [])) c

abbrev pub visit : Channel → Key → Bool → (node : ℕ) → Core → Moved
visit ch key press n c = followed (moved c (Visits n ∷ [])) (call_handler ch key press n (home_of_node c n))
