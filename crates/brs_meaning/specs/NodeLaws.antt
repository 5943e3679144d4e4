-- Laws on the nodes that an actor names, for every set of nodes that may be named.
use Rattle.std.specs.Prelude.{◌≡◌, ℕ, Bool, true, List}
use Rattle.heap_meaning.specs.Store.{Store}
use Rattle.brs_meaning.specs.Program.{Program, Function}
use Rattle.brs_meaning.specs.Locals.{Home}
use Rattle.brs_meaning.specs.Running as k
use Rattle.brs_meaning.specs.Running.{Held}
use Rattle.brs_meaning.specs.Reduction.{reduce}
use Rattle.brs_meaning.specs.Answering.{Reply, Arguments, replied, put}
use Rattle.brs_meaning.specs.Nodes.{Each, CallsName, StoreNames, HomesName, HeldNames, ReducedNames, ReplyNames, ArgumentsName, StateNames, PutNames}

-- the nodes of which this is true
abbrev pub In : (ℕ → Bool) → ℕ → Type 0
In nodes n = nodes n ≡ true

-- a step names no nodes but those that were named before, and node 1, the global node
abbrev pub StepNames : Type 0
StepNames =
    (nodes : ℕ → Bool) (p : Program) (actor : ℕ) (homes : List Home) (tree : k.Tree) (store : Store)
    → In nodes 1 → HomesName (In nodes) homes → CallsName (In nodes) tree → StoreNames (In nodes) store → ReducedNames (In nodes) (reduce p actor homes tree store)

-- an answer brings no nodes but its own
abbrev pub AnswerNames : Type 0
AnswerNames =
    (nodes : ℕ → Bool) (reply : Reply) (tree : k.Tree) (store : Store)
    → ReplyNames (In nodes) reply → CallsName (In nodes) tree → StoreNames (In nodes) store → StateNames (In nodes) (replied reply tree store)

-- nor does a call that is put on top
abbrev pub CallOnTopNames : Type 0
CallOnTopNames =
    (nodes : ℕ → Bool) (f : Function) (home : ℕ) (homes : List Home) (arguments : Arguments) (below : List Held) (store : Store)
    → ArgumentsName (In nodes) arguments → HomesName (In nodes) homes → Each (HeldNames (In nodes)) below → StoreNames (In nodes) store
    → PutNames (In nodes) (put f home homes arguments below store)
