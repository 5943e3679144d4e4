-- What a head asks for by its method and its target.
use Rattle.std.specs.Prelude.{◌≡◌, ◌≢◌, ℕ, Bool, true, false, List, ◌++◌, codes}
use Rattle.ecp_requests.specs.KeyNames.{IsNameOf}
use Rattle.ecp_requests.specs.declared.key_name.KeyName.{KeyName}
use Rattle.ecp_requests.specs.declared.key_name.KeyName.TheVariants as name
use Rattle.ecp_requests.specs.declared.request.Request.{Request}
use Rattle.ecp_requests.specs.declared.request.Request.TheVariants.{Keys, Leave, NoKey, NotFound, BadMethod}

-- what is asked for under a key name
abbrev pub request_for : KeyName → Bool → Bool → Request
request_for (name.Key key) press release = Keys key press release
request_for name.Home press release = Leave
request_for name.Backspace press release = NoKey
request_for name.Search press release = NoKey
request_for name.Enter press release = NoKey

-- the text is a key name under which this is asked for
abbrev pub Names : List ℕ → Bool → Bool → Request → Type 0
Names text press release request = (key : KeyName) × IsNameOf text key × (request ≡ request_for key press release)

-- the target asks for this
pub data Asks (target : List ℕ) (request : Request) : Type 0 where
  keypress : (text : List ℕ) → target ≡ codes "/keypress/" ++ text → Names text true true request → Asks target request
  keydown : (text : List ℕ) → target ≡ codes "/keydown/" ++ text → Names text true false request → Asks target request
  keyup : (text : List ℕ) → target ≡ codes "/keyup/" ++ text → Names text false true request → Asks target request

-- the answer to a head with this method and target
pub data HeadAnswer (method target : List ℕ) (answer : Request) : Type 0 where
  asked : Asks target answer → method ≡ codes "POST" → HeadAnswer method target answer
  bad_method : (request : Request) → Asks target request → method ≢ codes "POST" → answer ≡ BadMethod → HeadAnswer method target answer
  not_found : ((request : Request) → Asks target request → ⊥) → answer ≡ NotFound → HeadAnswer method target answer
