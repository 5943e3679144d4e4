-- The tree that is held at its redex is the syntax tree, and its step is that of the syntax tree.
use Rattle.std.specs.Prelude.{◌≡◌, ℕ, true, false, List, [], ◌∷◌}
use Rattle.heap_meaning.specs.Values.{StoreValue}
use Rattle.heap_meaning.specs.Store.{Store}
use Rattle.brs_grammar.specs.Form.{Head, more}
use Rattle.brs_tokens.specs.declared.place.Place.{Place}
use Rattle.brs_meaning.specs.Program.{Program, Function}
use Rattle.brs_meaning.specs.Locals.{Home}
use Rattle.brs_meaning.specs.Running.{Kind, Inner, OnTop, Call, Task, Around, around, Under, Spot, AtHead, AtDecided, AtJob, AtEnd, AtFailure, Hole, Operand, Ends, Held, Tree, Works, Waits}
use Rattle.brs_meaning.specs.Moving.{decides}
use Rattle.brs_meaning.specs.Reduction.{Outcome, Raised, Reduced, reduce}
use Rattle.brs_meaning.specs.Plain.{Part, Value, Makes, Runs, Open, nothing, also, Statement, Does, Fails, Finished, parts_of, start, onto, plug, plug_hole, Moved, Moves, Breaks, Rests, step}
use Rattle.brs_meaning.specs.Answering.{Reply, Arguments, Put, Done, Refused, received, replied, put}

abbrev pub statement_of : Spot → Statement
statement_of (AtHead head at vs context base) = plug (Makes head at (onto vs nothing)) context base
statement_of (AtDecided head at v f fs context base) = plug (Makes head at (also (Value v) (parts_of (more f fs)))) context base
statement_of (AtJob job at vs) = Does job at (onto vs nothing)
statement_of AtEnd = Finished
statement_of (AtFailure e at) = Fails e at

-- a part in the calls that wait for it, the innermost first
abbrev pub beneath : Part → List Held → Part
beneath p [] = p
beneath p (h ∷ below) = beneath (Runs h.call (plug_hole p h.hole) h.tasks) below

abbrev pub part_of_tree : Tree → Part
part_of_tree (Works call spot tasks below) = beneath (Runs call (statement_of spot) tasks) below
part_of_tree (Waits below) = beneath Open below

-- an error leaves no call
abbrev pub moved_as : Outcome → Tree → Store → Moved Part
moved_as (Raised e at) tree store = Breaks e at store
moved_as outcome tree store = Moves outcome (part_of_tree tree) store

abbrev pub moved_of : Reduced → Moved Part
moved_of r = moved_as r.outcome r.tree r.store

-- ---- what holds of the trees of every run

-- the first of the values, which stands last, doesn't decide the operator
abbrev pub Undecided : Head → List StoreValue → Type 0
Undecided head [] = Unit {0}
Undecided head (v ∷ []) = decides head v ≡ false
Undecided head (v ∷ w ∷ vs) = Undecided head (w ∷ vs)

-- the values before the last one don't
abbrev pub Settled : Head → List StoreValue → Type 0
Settled head [] = Unit {0}
Settled head (v ∷ vs) = Undecided head vs

abbrev pub AllUndecided : List Around → Type 0
AllUndecided [] = Unit {0}
AllUndecided (around head at done after ∷ context) = Undecided head done × AllUndecided context

abbrev pub SpotIs : Spot → Type 0
SpotIs (AtHead head at vs context base) = Settled head vs × AllUndecided context
SpotIs (AtDecided head at v f fs context base) = (decides head v ≡ true) × AllUndecided context
SpotIs _ = Unit {0}

abbrev pub HoleIs : Hole → Type 0
HoleIs (Operand context base) = AllUndecided context
HoleIs Ends = Unit {0}

-- a call that another one made stands in the place of an operand
abbrev pub Fits : Kind → Hole → Type 0
Fits OnTop hole = Unit {0}
Fits Inner (Operand context base) = Unit {0}
Fits Inner Ends = ⊥

-- each call was made in the one below it, or was put on top; what is at work, if anything, is a call of this kind
abbrev pub CallsAre : Kind → List Held → Type 0
CallsAre OnTop [] = Unit {0}
CallsAre Inner [] = ⊥
CallsAre kind (h ∷ below) = Fits kind h.hole × HoleIs h.hole × CallsAre h.call.kind below

abbrev pub IsTree : Tree → Type 0
IsTree (Works call spot tasks below) = SpotIs spot × CallsAre call.kind below
IsTree (Waits below) = CallsAre OnTop below

-- the step at the place where a tree is held is the step of the whole tree
abbrev pub SameStep : Type 0
SameStep =
    (p : Program) (actor : ℕ) (homes : List Home) (call : Call) (spot : Spot) (tasks : List Task) (below : List Held) (store : Store)
    → IsTree (Works call spot tasks below)
    → step p actor homes (part_of_tree (Works call spot tasks below)) store ≡ moved_of (reduce p actor homes (Works call spot tasks below) store)

-- a tree that waits has no step
abbrev pub NoStep : Type 0
NoStep = (p : Program) (actor : ℕ) (homes : List Home) (below : List Held) (store : Store) → CallsAre OnTop below → step p actor homes (part_of_tree (Waits below)) store ≡ Rests

-- each step of a tree of this kind gives one
abbrev pub StepKeeps : Type 0
StepKeeps = (p : Program) (actor : ℕ) (homes : List Home) (tree : Tree) (store : Store) → IsTree tree → IsTree (reduce p actor homes tree store).tree

-- a value that is received stands in the place of the open answer
abbrev pub ReceivedIn : Type 0
ReceivedIn =
    (v : StoreValue) (call : Call) (place : Place) (context : List Around) (base : Under) (tasks : List Task) (below : List Held)
    → part_of_tree (received v (Waits (record { call = call; place = place; hole = Operand context base; tasks = tasks } ∷ below)))
    ≡ beneath (Runs call (plug (Value v) context base) tasks) below

-- where the answer ends the statement, the next one begins
abbrev pub ReceivedAtEnd : Type 0
ReceivedAtEnd =
    (v : StoreValue) (call : Call) (place : Place) (tasks : List Task) (below : List Held)
    → part_of_tree (received v (Waits (record { call = call; place = place; hole = Ends; tasks = tasks } ∷ below))) ≡ beneath (start call tasks) below

-- answers keep what holds of trees
abbrev pub RepliesKeep : Type 0
RepliesKeep = (reply : Reply) (tree : Tree) (store : Store) → IsTree tree → IsTree (replied reply tree store).tree

-- a call that was put on top is a tree, and a call that was refused leaves all as it was
abbrev pub PutIs : Put → Type 0
PutIs (Done s) = IsTree s.tree
PutIs (Refused e) = Unit {0}

abbrev pub PutsKeep : Type 0
PutsKeep = (f : Function) (home : ℕ) (homes : List Home) (arguments : Arguments) (below : List Held) (store : Store) → IsTree (Waits below) → PutIs (put f home homes arguments below store)
