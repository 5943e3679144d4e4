-- Counted changes: a set of a field that its observers hear of.
use Rattle.std.specs.Prelude.{ℕ, true, false, List, [], ◌∷◌, unwrap_or, codes}
use Rattle.chan_values.specs.Folded.{folded}
use Rattle.chan_values.specs.declared.message.Message.{Message}
use Rattle.chan_values.specs.Tree.{Words, Tree, Leaf}
use Rattle.node_tree.specs.declared.node.Node.{Node}
use Rattle.node_tree.specs.declared.answers.SetResult.{SetResult}
use Rattle.node_tree.specs.declared.answers.SetResult.TheVariants.{NoField, NoFit, Same, Changed}
use Rattle.node_tree.specs.Fields.{field_of, value_of, set_answer, after_set}
use Rattle.field_observers.specs.declared.target.Registration.{Registration}
use Rattle.field_observers.specs.InTime.{in_time}
use Rattle.brs_grammar.specs.Form.{Text}
use Rattle.brs_meaning.specs.Answering.{Value}
use Rattle.world_meaning.specs.Portables.{portable_of}
use Rattle.world_meaning.specs.Labels.{Changes}
use Rattle.world_meaning.specs.Core.{Next, Answer, Deliveries, Core, Moved, moved}
use Rattle.world_meaning.specs.Agendas.{invalid, yes}
use Rattle.world_meaning.specs.Effect.{Jobs, Effect, tells}

abbrev pub value_at : List Node → (node : ℕ) → Text → Tree
value_at nodes n f = unwrap_or (value_of nodes n f) invalid

abbrev pub words_of : Tree → Text
words_of (Leaf (Words bytes)) = bytes
words_of _ = []

abbrev pub text_at : List Node → (node : ℕ) → Text → Text
text_at nodes n f = words_of (value_at nodes n f)

-- the registrations of a field, in order
abbrev pub observers_of : Core → (node : ℕ) → Text → List Registration
observers_of c n f = in_time c.observers n (folded f)

-- what the observers of a field are told: its node, the id that the node has, the folded name of the field and its value
abbrev pub message_of : List Node → (node : ℕ) → Text → Message
message_of nodes n f = record { node = n; id = text_at nodes n (codes "id"); field = folded f; payload = portable_of (value_at nodes n f) }

abbrev pub with_change : List Node → (node : ℕ) → Text → Next → Core → Moved
with_change nodes n f next c =
    moved (record c { nodes = nodes; agendas = Deliveries false (message_of nodes n f) (observers_of c n f) next ∷ c.agendas })
    (Changes n (folded f) (value_at nodes n f) (observers_of c n f) ∷ [])

-- the field holds the value, and those are told who are registered now
abbrev pub change : (node : ℕ) → Text → Tree → Next → Core → Moved
change n f v next c = with_change (after_set c.nodes n f v) n f next c

-- what a set of the value would do
abbrev pub set_of : Core → (node : ℕ) → Text → Tree → SetResult
set_of c n f v = set_answer (field_of c.nodes n f) v

abbrev pub set_by : SetResult → (node : ℕ) → Text → Tree → Core → Effect
set_by NoField n f v c = tells false c
set_by NoFit n f v c = tells false c
set_by Same n f v c = tells true c
set_by Changed n f v c = record { after = change n f v (Answer (Value yes)) c; result = Jobs }

-- a set of a field by actor 0, or by an entry
abbrev pub set : (node : ℕ) → Text → Tree → Core → Effect
set n f v c = set_by (set_of c n f v) n f v c
