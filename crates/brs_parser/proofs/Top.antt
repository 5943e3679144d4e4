-- What `parse` rests on, in the numbers that the code computes.
use Rattle.std.proofs.Common.{◌≡◌, ℕ, ◌-◌, List, length, Err, sym, ap, ◌∙◌, subst}
use Rattle.brs_tokens.specs.Tok.{Tok}
use Rattle.brs_grammar.specs.Grammar.{IsFirstFault}
use Rattle.brs_grammar.specs.ReadFunctions as reading
use Rattle.brs_grammar.proofs.Whole.{file_fault}

pub fault_token : (ts rest : List Tok) (len left n : ℕ) → reading.file ts ≡ Err rest → len ≡ length ts → left ≡ length rest → n ≡ len - left → IsFirstFault ts n
fault_token ts rest len left n e a b c =
    subst (λ k. IsFirstFault ts k) (ap (λ k. length ts - k) (sym b) ∙ ap (λ k. k - left) (sym a) ∙ sym c) (file_fault ts rest e)
