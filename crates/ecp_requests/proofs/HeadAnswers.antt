-- A head has one answer.
use Rattle.std.proofs.Common.{◌≡◌, ◌≢◌, ℕ, List, codes, Option, Some, None, sym}
use Rattle.ecp_requests.specs.Targets.{Asks, HeadAnswer, asked, bad_method, not_found}
use Rattle.ecp_requests.specs.declared.request.Request.{Request}
use Rattle.ecp_requests.specs.declared.request.Request.TheVariants.{NotFound, BadMethod}

some_same : (a b : Request) → ◌≡◌ {A = Option Request} (Some a) (Some b) → a ≡ b
some_same a b e = cc

none_or_some : (a : Request) → ◌≡◌ {A = Option Request} None (Some a) → ⊥
none_or_some a e = cc

pub nothing_asked : (target : List ℕ) → ((request : Request) → Asks target request → ◌≡◌ {A = Option Request} None (Some request))
    → (request : Request) → Asks target request → ⊥
nothing_asked target found request asks = none_or_some request (found request asks)

pub only_asked : (method target : List ℕ) (request answer : Request) → Asks target request
    → ((q : Request) → Asks target q → ◌≡◌ {A = Option Request} (Some request) (Some q)) → method ≡ codes "POST" → HeadAnswer method target answer → request ≡ answer
only_asked method target request answer asks found post (asked h m) = some_same request answer (found answer h)
only_asked method target request answer asks found post (bad_method q h m is) = absurd (m post)
only_asked method target request answer asks found post (not_found h is) = absurd (h request asks)

pub only_bad_method : (method target : List ℕ) (request answer : Request) → Asks target request → method ≢ codes "POST"
    → HeadAnswer method target answer → BadMethod ≡ answer
only_bad_method method target request answer asks other (asked h m) = absurd (other m)
only_bad_method method target request answer asks other (bad_method q h m is) = sym is
only_bad_method method target request answer asks other (not_found h is) = absurd (h request asks)

pub only_not_found : (method target : List ℕ) (answer : Request) → ((request : Request) → Asks target request → ⊥)
    → HeadAnswer method target answer → NotFound ≡ answer
only_not_found method target answer none (asked h m) = absurd (none answer h)
only_not_found method target answer none (bad_method q h m is) = absurd (none q h)
only_not_found method target answer none (not_found h is) = sym is
