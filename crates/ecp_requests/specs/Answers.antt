-- The answer to the bytes that have come on a connection.
use Rattle.std.specs.Prelude.{◌≡◌, ◌≢◌, ◌⊎◌, ℕ, ◌<◌, ◌≤◌, List, length, take}
use Rattle.ecp_requests.specs.EmptyLines.{HasEmptyLine}
use Rattle.ecp_requests.specs.Heads.{IsFront, HasNoFront}
use Rattle.ecp_requests.specs.Targets.{HeadAnswer}
use Rattle.ecp_requests.specs.declared.request.Request.{Request}
use Rattle.ecp_requests.specs.declared.request.Request.TheVariants.{BadHead, More}

-- the first 4,096 bytes, in which a head has to end
abbrev pub head_room : List ℕ → List ℕ
head_room bytes = take 4096 bytes

-- bytes that begin with no head can't be mended
abbrev pub IsOver : List ℕ → Type 0
IsOver bytes = (4096 < length bytes) ⊎ HasEmptyLine bytes

pub data IsAnswer (bytes : List ℕ) (answer : Request) : Type 0 where
  head : (method target : List ℕ) → IsFront (head_room bytes) method target → HeadAnswer method target answer → IsAnswer bytes answer
  bad_head : HasNoFront (head_room bytes) → IsOver bytes → answer ≡ BadHead → IsAnswer bytes answer
  more : HasNoFront (head_room bytes) → (IsOver bytes → ⊥) → answer ≡ More → IsAnswer bytes answer

-- the answer of the shortest front of all bytes of a connection that does not ask for more
pub record IsConnectionAnswer (bytes : List ℕ) (answer : Request) : Type 0 where
  pub len : ℕ
  pub within : len ≤ length bytes
  pub front : IsAnswer (take len bytes) answer
  pub decides : answer ≢ More
  pub shortest : (n : ℕ) → n < len → IsAnswer (take n bytes) More
