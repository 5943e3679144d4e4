-- Bytes have one answer.
use Rattle.std.proofs.Common.{◌≡◌, ℕ, List, sym, ap, ◌∙◌, subst}
use Rattle.httparse.proofs.GrammarLemmas.{request_unique}
use Rattle.ecp_requests.specs.Answers.{IsAnswer, head, bad_head, more, IsOver, head_room}
use Rattle.ecp_requests.specs.Heads.{IsFront, HasNoFront}
use Rattle.ecp_requests.specs.Targets.{HeadAnswer}
use Rattle.ecp_requests.specs.declared.request.Request.{Request}
use Rattle.ecp_requests.specs.declared.request.Request.TheVariants.{BadHead, More}

-- a head has one method and one target
same_front : (bytes m t n u : List ℕ) → IsFront bytes m t → IsFront bytes n u → (n ≡ m) × (u ≡ t)
same_front bytes m t n u f g =
    let same = (request_unique bytes f.0 g.0 f.1.0 g.1.0 f.1.1 g.1.1).0 in
    (g.2 ∙ ap (λ h. h.method) (sym same) ∙ sym f.2, g.3 ∙ ap (λ h. h.target) (sym same) ∙ sym f.3)

pub only_head : (bytes m t : List ℕ) (result answer : Request) → IsFront (head_room bytes) m t
    → ((a : Request) → HeadAnswer m t a → result ≡ a) → IsAnswer bytes answer → result ≡ answer
only_head bytes m t result answer front only (head n u other is) =
    let same = same_front (head_room bytes) m t n u front other in
    only answer (subst (λ x. HeadAnswer x t answer) same.0 (subst (λ y. HeadAnswer n y answer) same.1 is))
only_head bytes m t result answer front only (bad_head none over is) = absurd (none front.0 front.1)
only_head bytes m t result answer front only (more none over is) = absurd (none front.0 front.1)

pub only_bad_head : (bytes : List ℕ) (answer : Request) → HasNoFront (head_room bytes) → IsOver bytes → IsAnswer bytes answer → BadHead ≡ answer
only_bad_head bytes answer none over (head n u other is) = absurd (none other.0 other.1)
only_bad_head bytes answer none over (bad_head _ _ is) = sym is
only_bad_head bytes answer none over (more _ not_over is) = absurd (not_over over)

pub only_more : (bytes : List ℕ) (answer : Request) → HasNoFront (head_room bytes) → (IsOver bytes → ⊥) → IsAnswer bytes answer → More ≡ answer
only_more bytes answer none not_over (head n u other is) = absurd (none other.0 other.1)
only_more bytes answer none not_over (bad_head _ over is) = absurd (not_over over)
only_more bytes answer none not_over (more _ _ is) = sym is
