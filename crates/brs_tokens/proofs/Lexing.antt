-- What stays true while a source file is spelled.
use Rattle.std.proofs.Common.{◌≡◌, ◌≢◌, ℕ, zero, suc, ◌+◌, ◌-◌, ◌<◌, ◌≤◌, List, [], ◌∷◌, ◌++◌, length, take, drop, Ok, Err, refl, sym, ap, ◌∙◌, append-nil, arith}
use Rattle.std.proofs.lemmas.List.{length-drop, length-take-le}
use Rattle.brs_tokens.specs.Tok.{Tok}
use Rattle.brs_tokens.specs.Spelling.{piece_at, place_after, fault_at, token_of, spelling, spelling_from, with_tokens}
use Rattle.brs_tokens.specs.declared.piece.Piece.{Piece}
use Rattle.brs_tokens.specs.declared.place.Place.{Place}
use Rattle.brs_tokens.specs.declared.lex_fault.LexKind.{LexKind}
use Rattle.brs_tokens.specs.declared.lex_fault.LexKind.TheVariants.{NotUtf8}
use Rattle.brs_tokens.specs.declared.lex_fault.LexFault.{LexFault}
use Rattle.brs_tokens.proofs.SpellingLemmas.{spelling-nil, spelling-pass, spelling-bad, spelling-stop, spelling-fault, spelling-piece, with_tokens-both}

-- these tokens, and then what the rest is spelled as
pub record IsLexing (src : List ℕ) (first_line : ℕ) (tokens : List Tok) (rest : List ℕ) (good len : ℕ) (place : Place) : Type 0 where
  pub within : len ≤ length rest
  pub some : 1 ≤ place.column
  pub line : place.line + length rest ≤ first_line + length src
  pub column : place.column + length rest ≤ 1 + length src
  pub so_far : spelling src first_line ≡ with_tokens tokens (spelling_from good len place rest)

take-take : (n m : ℕ) (bs : List ℕ) → n ≤ m → take n (take m bs) ≡ take n bs
take-take zero m bs le = refl
take-take (suc n) zero bs le = absurd (omega arith)
take-take (suc n) (suc m) [] le = refl
take-take (suc n) (suc m) (b ∷ bs) le = ap (λ t. b ∷ t) (take-take n m bs (omega arith))

-- a byte of the piece begins no character
pub lexing-bad : (src : List ℕ) (first_line : ℕ) (tokens : List Tok) (rest passed : List ℕ) (good len : ℕ) (place : Place) (fault : LexFault)
    → IsLexing src first_line tokens rest good len place → passed ≡ take len rest → good < length passed
    → fault ≡ fault_at NotUtf8 (place_after place (take good passed)) → spelling src first_line ≡ Err fault
lexing-bad src first_line tokens rest passed good len place fault is front bad e =
    let short : good < len = omega (arith, ap length front, length-take-le len rest is.within) in
    let same : take good passed ≡ take good rest = ap (take good) front ∙ take-take good len rest (omega arith) in
    is.so_far ∙ ap (with_tokens tokens) (spelling-bad len good place rest is.within short)
    ∙ ap (λ t. Err (fault_at NotUtf8 (place_after place t))) (sym same) ∙ ap Err (sym e)

-- the piece is passed over
pub lexing-pass : (src : List ℕ) (first_line : ℕ) (tokens : List Tok) (rest passed more : List ℕ) (good len : ℕ) (place after : Place)
    → IsLexing src first_line tokens rest good len place → passed ≡ take len rest → more ≡ drop len rest → length passed ≤ good
    → after ≡ place_after place passed → 1 ≤ after.column → after.line ≤ place.line + length passed → after.column ≤ place.column + length passed
    → IsLexing src first_line tokens more (good - len) 0 after
lexing-pass src first_line tokens rest passed more good len place after is front back fits e some line column =
    let size : length passed ≡ len = ap length front ∙ length-take-le len rest is.within in
    let left : length more ≡ length rest - len = ap length back ∙ length-drop len rest in
    record {
      within = omega arith;
      some = some;
      line = omega (arith, is.line, is.within);
      column = omega (arith, is.column, is.within);
      so_far = is.so_far ∙ ap (with_tokens tokens) (spelling-pass len good place rest is.within (omega arith))
          ∙ ap (λ t. with_tokens tokens (spelling_from (good - len) 0 (place_after place t) (drop len rest))) (sym front)
          ∙ ap (λ p. with_tokens tokens (spelling_from (good - len) 0 p (drop len rest))) (sym e)
          ∙ ap (λ t. with_tokens tokens (spelling_from (good - len) 0 after t)) (sym back);
    }

-- nothing is left
pub lexing-end : (src : List ℕ) (first_line : ℕ) (tokens : List Tok) (rest : List ℕ) (good : ℕ) (place : Place)
    → IsLexing src first_line tokens rest good 0 place → rest ≡ [] → spelling src first_line ≡ Ok tokens
lexing-end src first_line tokens rest good place is e =
    is.so_far ∙ ap (λ t. with_tokens tokens (spelling_from good 0 place t)) e ∙ ap (with_tokens tokens) (spelling-nil good 0 place) ∙ ap Ok (simp append-nil)

-- no character begins where a piece should
pub lexing-stop : (src : List ℕ) (first_line : ℕ) (tokens : List Tok) (rest : List ℕ) (good : ℕ) (place : Place) (fault : LexFault)
    → IsLexing src first_line tokens rest good 0 place → good ≡ 0 → 0 < length rest → fault ≡ fault_at NotUtf8 place → spelling src first_line ≡ Err fault
lexing-stop src first_line tokens rest good place fault is none some e =
    is.so_far ∙ ap (λ n. with_tokens tokens (spelling_from n 0 place rest)) none ∙ ap (with_tokens tokens) (spelling-stop place rest some) ∙ ap Err (sym e)

pub lexing-fault : (src : List ℕ) (first_line : ℕ) (tokens : List Tok) (rest : List ℕ) (good : ℕ) (place : Place) (kind : LexKind) (fault : LexFault)
    → IsLexing src first_line tokens rest good 0 place → good ≢ 0 → 0 < length rest → piece_at rest ≡ Err kind → fault ≡ fault_at kind place
    → spelling src first_line ≡ Err fault
lexing-fault src first_line tokens rest good place kind fault is more some at e =
    is.so_far ∙ ap (with_tokens tokens) (spelling-fault good place rest kind (omega arith) some at) ∙ ap Err (sym e)

-- the next piece begins
pub lexing-piece : (src : List ℕ) (first_line : ℕ) (tokens new : List Tok) (rest : List ℕ) (good : ℕ) (place : Place) (piece : Piece)
    → IsLexing src first_line tokens rest good 0 place → good ≢ 0 → 0 < length rest → piece_at rest ≡ Ok piece → 0 < piece.len → piece.len ≤ length rest
    → new ≡ tokens ++ token_of piece.kind (take piece.len rest) place → IsLexing src first_line new rest good piece.len place
lexing-piece src first_line tokens new rest good place piece is more some at long within e = record {
  within = within;
  some = is.some;
  line = is.line;
  column = is.column;
  so_far = is.so_far ∙ ap (with_tokens tokens) (spelling-piece good place rest piece (omega arith) some at long)
      ∙ with_tokens-both tokens (token_of piece.kind (take piece.len rest) place) (spelling_from good piece.len place rest)
      ∙ ap (λ t. with_tokens t (spelling_from good piece.len place rest)) (sym e);
}
