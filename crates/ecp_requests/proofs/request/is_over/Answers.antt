use Rattle.std.proofs.Common.{refl, inl, inr, ⊎_elim, arith}
use Rattle.ecp_requests.proofs.request.is_over.Goals as goal

pub returns-then-bytes-gt-LONGEST_HEAD : goal.returns-then-bytes-gt-LONGEST_HEAD
returns-then-bytes-gt-LONGEST_HEAD c = (λ _. inl (omega arith), λ _. refl)

pub returns : goal.returns
returns c =
    (λ t. inr (c.has_empty_line.ensures.0 t), λ over. ⊎_elim (λ long. absurd (omega arith)) (λ line. c.has_empty_line.ensures.1 line) over)
