-- The messages of each port. Ports have numbers from 1, in the order of making.
use Rattle.std.specs.Prelude.{ℕ, ◌-◌, ◌≤◌, List, [], length, slice_index_or, slice_set}
use Rattle.chan_values.specs.declared.message.Message.{Message}

-- the messages that wait in a port, the oldest first
abbrev pub messages_of : List (List Message) → ℕ → List Message
messages_of ports port = slice_index_or ports (port - 1) []

-- the ports, with these messages in one of them
abbrev pub with_messages : List (List Message) → ℕ → List Message → List (List Message)
with_messages ports port messages = slice_set ports (port - 1) messages

-- the port has been made
abbrev pub IsPort : List (List Message) → ℕ → Type 0
IsPort ports port = (1 ≤ port) × (port ≤ length ports)
