-- The laws, for every channel, actor, machine and tree.
use Rattle.std.specs.Prelude.{◌≡◌, true, ℕ, List}
use Rattle.heap_meaning.specs.Store.{Store}
use Rattle.brs_code.specs.declared.function.Function as code
use Rattle.brs_meaning.specs.Program.{Program, Function}
use Rattle.brs_meaning.specs.Locals.{Home}
use Rattle.brs_meaning.specs.Running.{Held, Tree}
use Rattle.brs_meaning.specs.Reduction.{Outcome, reduce}
use Rattle.brs_meaning.specs.Runs.{outcomes}
use Rattle.brs_meaning.specs.Answering as ta
use Rattle.brs_meaning.specs.Answering.{Reply, Arguments}
use Rattle.machine_meaning.specs.Image.{Image}
use Rattle.machine_meaning.specs.Frame.{Suspended, Machine}
use Rattle.machine_meaning.specs.Stepping.{Shown, StepOf}
use Rattle.machine_meaning.specs.Answering as ma
use Rattle.machine_meaning.specs.Runs.{Runs}
use Rattle.machine_match.specs.Stands.{FunctionStands, ImageStands, CallsStand, Stands, ShownStands}

-- a step of a machine is the reduction of the tree for which it stands
abbrev pub StepIsReduction : Type 0
StepIsReduction =
    (image : Image) (p : Program) (actor : ℕ) (homes : List Home) (machine : Machine) (tree : Tree) (store : Store) (s : Shown)
    → ImageStands image p → Stands image p machine tree → StepOf image actor homes machine store s → ShownStands image p s (reduce p actor homes tree store)

-- a machine that stands for a tree at work has a step
abbrev pub NeverStuck : Type 0
NeverStuck =
    (image : Image) (p : Program) (actor : ℕ) (homes : List Home) (machine : Machine) (tree : Tree) (store : Store)
    → ImageStands image p → Stands image p machine tree → ta.is_at_work tree ≡ true → (s : Shown) × StepOf image actor homes machine store s

-- a machine and a tree with one store
abbrev pub StateStands : Image → Program → ma.State → ta.State → Type 0
StateStands image p s t = (s.store ≡ t.store) × Stands image p s.machine t.tree

-- an answer to an open want keeps what stands
abbrev pub ReplyStands : Type 0
ReplyStands =
    (image : Image) (p : Program) (reply : Reply) (machine : Machine) (tree : Tree) (store : Store)
    → Stands image p machine tree → StateStands image p (ma.replied reply machine store) (ta.replied reply tree store)

abbrev pub PutStands : Image → Program → ma.Put → ta.Put → Type 0
PutStands image p (ma.Done s) (ta.Done t) = StateStands image p s t
PutStands image p (ma.Refused e) (ta.Refused e') = e ≡ e'
PutStands image p _ _ = ⊥

-- so does a call that is put on top, and both refuse it with the same error
abbrev pub CallOnTopStands : Type 0
CallOnTopStands =
    (image : Image) (p : Program) (f : code.Function) (source : Function) (home : ℕ) (homes : List Home) (arguments : Arguments) (below : List Suspended) (held : List Held) (store : Store)
    → FunctionStands image p f source → CallsStand image p below held → PutStands image p (ma.put f home homes arguments below store) (ta.put source home homes arguments held store)

-- what the world asks of a machine is what it asks of the tree
abbrev pub SameIdle : Type 0
SameIdle = (image : Image) (p : Program) (machine : Machine) (tree : Tree) → Stands image p machine tree → ma.is_idle machine ≡ ta.is_idle tree

abbrev pub SameWork : Type 0
SameWork = (image : Image) (p : Program) (machine : Machine) (tree : Tree) → Stands image p machine tree → ma.is_at_work machine ≡ ta.is_at_work tree

abbrev pub SamePlace : Type 0
SamePlace = (image : Image) (p : Program) (machine : Machine) (tree : Tree) → Stands image p machine tree → ma.want_place machine ≡ ta.want_place tree

abbrev pub SameHome : Type 0
SameHome = (image : Image) (p : Program) (machine : Machine) (tree : Tree) → Stands image p machine tree → ma.want_home machine ≡ ta.want_home tree

-- its next step waits for a message of the same port
abbrev pub SameWait : Type 0
SameWait =
    (image : Image) (p : Program) (actor : ℕ) (homes : List Home) (machine : Machine) (tree : Tree) (store : Store) (s : Shown)
    → ImageStands image p → Stands image p machine tree → StepOf image actor homes machine store s → ma.next_wait s ≡ ta.next_wait p actor homes tree store

-- so many steps of a machine show what so many reductions of the tree show
abbrev pub SameOutcomes : Type 0
SameOutcomes =
    (image : Image) (p : Program) (actor : ℕ) (homes : List Home) (n : ℕ) (machine : Machine) (tree : Tree) (store : Store) (shown : List Outcome)
    → ImageStands image p → Stands image p machine tree → Runs image actor homes n machine store shown → shown ≡ outcomes p actor homes n tree store
