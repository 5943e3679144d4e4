-- What a door is doing, and what its calls do to its connections.
use Rattle.std.specs.Prelude.{◌≡◌, ℕ, Bool, true, false, ◌+◌, ◌-◌, ◌<◌, ◌≤◌, nat_lt, List, [], ◌++◌, length, take, drop, slice_get, slice_set, slice_index_or, Result, Ok, Err, Option, None, Some, ◌↔◌, IfSome, option_map}
use Rattle.std.specs.Option.{option_or, option_map_or}
use Rattle.outside.specs.declared.door.Connection.{Connection}
use Rattle.outside.specs.declared.door.DoorState.{DoorState}
use Rattle.outside.specs.declared.door.DoorState.TheVariants.{Closed, Listening, Open}

abbrev pub IsListening : DoorState → Type 0
IsListening Closed = ⊥
IsListening (Listening port) = Unit {0}
IsListening (Open port) = ⊥

abbrev pub IsOpen : DoorState → Type 0
IsOpen Closed = ⊥
IsOpen (Listening port) = ⊥
IsOpen (Open port) = Unit {0}

-- a listening door with a connection open
abbrev pub with_open : DoorState → DoorState
with_open Closed = Closed
with_open (Listening port) = Open port
with_open (Open port) = Open port

-- a door whose open connection is closed
abbrev pub listening_again : DoorState → DoorState
listening_again Closed = Closed
listening_again (Listening port) = Listening port
listening_again (Open port) = Listening port

-- `accept` that answers true opens a connection, and any other leaves the state
abbrev pub AcceptMoves : {E : Type 0} → Result Bool E → DoorState → DoorState → Type 0
AcceptMoves (Ok true) before now = now ≡ with_open before
AcceptMoves (Ok false) before now = now ≡ before
AcceptMoves (Err e) before now = now ≡ before

-- all connections of a door in the order in which they come, and how many of them were accepted: the first ones, so many
pub record Connections : Type 0 where
  pub all : List Connection
  pub accepted : ℕ

abbrev pub connections_of : List Connection → ℕ → Connections
connections_of all accepted = record { all = all; accepted = accepted }

-- some connection was not accepted
abbrev pub has_waiting : Connections → Bool
has_waiting c = nat_lt c.accepted (length c.all)

-- the first connection that was not accepted is accepted
abbrev pub accept_first : Connections → Connections
accept_first c = record c { accepted = c.accepted + 1 }

-- the place of the open connection, which is the one that was accepted last
abbrev pub open_place : Connections → ℕ
open_place c = c.accepted - 1

abbrev pub open_connection : Connections → Option Connection
open_connection c = slice_get c.all (open_place c)

-- a change of the open connection alone
abbrev pub at_open : (Connection → Connection) → Connections → Connections
at_open change c = option_map_or (λ current. record c { all = slice_set c.all (open_place c) (change current) }) (open_connection c) c

-- the bytes of a connection that were not given yet
abbrev pub left_of : Connection → List ℕ
left_of c = drop c.given c.incoming

-- so many more bytes were given
abbrev pub giving : ℕ → Connection → Connection
giving count c = record c { given = c.given + count }

-- these bytes were written
abbrev pub sending : List ℕ → Connection → Connection
sending bytes c = record c { outgoing = c.outgoing ++ bytes }

-- a call failed, and the first failure is kept
abbrev pub noting_failure : Connection → Connection
noting_failure c = record c { failed_after = option_or c.failed_after (Some c.given) }

-- the piece begins with the next bytes of the open connection, and there are none exactly at its end
abbrev pub GivesNext : ℕ → List ℕ → Connections → Type 0
GivesNext count piece c =
    IfSome (open_connection c) (λ current. (take count piece ≡ take count (left_of current)) × ((count ≡ 0) ↔ (left_of current ≡ [])))

-- `accept` that answers true takes the first connection that waits, and any other takes none
abbrev pub AcceptTakes : {E : Type 0} → Result Bool E → Option Connections → Option Connections → Type 0
AcceptTakes (Ok true) before now = now ≡ option_map accept_first before
AcceptTakes (Ok false) before now = now ≡ before
AcceptTakes (Err e) before now = now ≡ before

-- what `read` leaves of the connections
abbrev pub ReadMarks : {E : Type 0} → Result ℕ E → Option Connections → Option Connections → Type 0
ReadMarks (Ok count) before now = now ≡ option_map (at_open (giving count)) before
ReadMarks (Err e) before now = now ≡ option_map (at_open noting_failure) before

-- what `write` leaves of the connections
abbrev pub WriteMarks : {E : Type 0} → Result ℕ E → List ℕ → Option Connections → Option Connections → Type 0
WriteMarks (Ok count) bytes before now = now ≡ option_map (at_open (sending (take count bytes))) before
WriteMarks (Err e) bytes before now = now ≡ option_map (at_open noting_failure) before

-- a connection that no call has touched
pub record IsFresh (c : Connection) : Type 0 where
  pub nothing_given : c.given ≡ 0
  pub nothing_sent : c.outgoing ≡ []
  pub no_failure : c.failed_after ≡ None

-- what holds of the connections at every moment of a door: at a closed door none was accepted, at one with a connection open
-- one was, no more bytes were given than there are, and the connections that were not accepted are fresh
pub record IsKept (state : DoorState) (c : Connections) : Type 0 where
  pub in_range : c.accepted ≤ length c.all
  pub none_accepted : state ≡ Closed → c.accepted ≡ 0
  pub some_accepted : IsOpen state → 0 < c.accepted
  pub given_in_range : (k : ℕ) (d : Connection) → k < length c.all → (slice_index_or c.all k d).given ≤ length (slice_index_or c.all k d).incoming
  pub waiting_fresh : (k : ℕ) (d : Connection) → c.accepted ≤ k → k < length c.all → IsFresh (slice_index_or c.all k d)
