-- The head of a request, as `httparse` reads it.
use Rattle.std.specs.Prelude.{◌≡◌, ℕ, ◌≤◌, List, length}
use Rattle.httparse.specs.Grammar.{RequestHead, ReadsRequest}

-- the bytes begin with this head, of at most 64 header lines
abbrev pub BeginsWith : List ℕ → RequestHead → Type 0
BeginsWith bytes head = (rest : List ℕ) × ReadsRequest bytes head rest × (length head.fields ≤ 64)

-- the bytes begin with a head of this method and target
abbrev pub IsFront : List ℕ → List ℕ → List ℕ → Type 0
IsFront bytes method target = (head : RequestHead) × BeginsWith bytes head × (method ≡ head.method) × (target ≡ head.target)

-- the bytes begin with no head
abbrev pub HasNoFront : List ℕ → Type 0
HasNoFront bytes = (head : RequestHead) → BeginsWith bytes head → ⊥
