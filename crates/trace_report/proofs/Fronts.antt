-- A line without the LF that ends it.
use Rattle.std.proofs.Common.{◌≡◌, ℕ, ◌+◌, ◌-◌, ◌≤◌, List, [], ◌∷◌, ◌++◌, length, take, sym, ap, ◌∙◌, arith, length-append}
use Rattle.std.proofs.Math.Seq.{take-append_seam}

pub without_last : (bytes line : List ℕ) → bytes ≡ line ++ 10 ∷ [] → take (length bytes - 1) bytes ≡ line
without_last bytes line is =
    let long : length bytes - 1 ≡ length line = omega (arith, ap length is, length-append line (10 ∷ [])) in
    ap (λ n. take n bytes) long ∙ ap (take (length line)) is ∙ take-append_seam line (10 ∷ [])
