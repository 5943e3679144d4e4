-- How the spelling goes on from piece to piece.
use Rattle.std.proofs.Common.{◌≡◌, ℕ, zero, suc, ◌-◌, ◌<◌, ◌≤◌, List, [], ◌∷◌, ◌++◌, length, take, drop, Result, Ok, Err, append_assoc, refl, ap, arith}
use Rattle.brs_tokens.specs.Tok.{Tok}
use Rattle.brs_tokens.specs.Spelling.{piece_at, after_byte, place_after, fault_at, token_of, with_tokens, spelling_from}
use Rattle.brs_tokens.specs.declared.piece.Piece.{Piece}
use Rattle.brs_tokens.specs.declared.place.Place.{Place}
use Rattle.brs_tokens.specs.declared.lex_fault.LexKind.{LexKind}
use Rattle.brs_tokens.specs.declared.lex_fault.LexKind.TheVariants.{NotUtf8}
use Rattle.brs_tokens.specs.declared.lex_fault.LexFault.{LexFault}

pub spelling-nil : (good inside : ℕ) (p : Place) → spelling_from good inside p [] ≡ Ok []
unfolding spelling_from
spelling-nil good inside p = refl

-- over the rest of a piece whose bytes are all characters
pub spelling-pass : (inside good : ℕ) (p : Place) (bs : List ℕ) → inside ≤ length bs → inside ≤ good
    → spelling_from good inside p bs ≡ spelling_from (good - inside) 0 (place_after p (take inside bs)) (drop inside bs)
unfolding spelling_from
spelling-pass zero good p bs within fits = let e : good - 0 ≡ good = omega arith in rw e refl
spelling-pass (suc inside) good p [] within fits = absurd (omega arith)
spelling-pass (suc inside) zero p (b ∷ bs) within fits = absurd (omega arith)
spelling-pass (suc inside) (suc good) p (b ∷ bs) within fits =
    let e : suc good - suc inside ≡ good - inside = omega arith in
    rw e (spelling-pass inside good (after_byte p b) bs (omega arith) (omega arith))

-- to the first byte of it that begins no character
pub spelling-bad : (inside good : ℕ) (p : Place) (bs : List ℕ) → inside ≤ length bs → good < inside
    → spelling_from good inside p bs ≡ Err (fault_at NotUtf8 (place_after p (take good bs)))
unfolding spelling_from
spelling-bad inside zero p [] within bad = absurd (omega arith)
spelling-bad inside zero p (b ∷ bs) within bad = refl
spelling-bad inside (suc good) p [] within bad = absurd (omega arith)
spelling-bad zero (suc good) p (b ∷ bs) within bad = absurd (omega arith)
spelling-bad (suc inside) (suc good) p (b ∷ bs) within bad = spelling-bad inside good (after_byte p b) bs (omega arith) (omega arith)

-- where a piece should begin and no character does
pub spelling-stop : (p : Place) (bs : List ℕ) → 0 < length bs → spelling_from 0 0 p bs ≡ Err (fault_at NotUtf8 p)
unfolding spelling_from
spelling-stop p [] some = absurd (omega arith)
spelling-stop p (b ∷ bs) some = refl

pub spelling-fault : (good : ℕ) (p : Place) (bs : List ℕ) (kind : LexKind) → 0 < good → 0 < length bs → piece_at bs ≡ Err kind
    → spelling_from good 0 p bs ≡ Err (fault_at kind p)
unfolding spelling_from
spelling-fault zero p bs kind some more e = absurd (omega arith)
spelling-fault (suc good) p [] kind some more e = absurd (omega arith)
spelling-fault (suc good) p (b ∷ bs) kind some more e = rw (e, spelling_from) refl

pub spelling-piece : (good : ℕ) (p : Place) (bs : List ℕ) (piece : Piece) → 0 < good → 0 < length bs → piece_at bs ≡ Ok piece → 0 < piece.len
    → spelling_from good 0 p bs ≡ with_tokens (token_of piece.kind (take piece.len bs) p) (spelling_from good piece.len p bs)
unfolding spelling_from
spelling-piece zero p bs piece some more e long = absurd (omega arith)
spelling-piece (suc good) p [] piece some more e long = absurd (omega arith)
spelling-piece (suc good) p (b ∷ bs) piece some more e long =
    rw (e, spelling_from) (ap (λ r. with_tokens (token_of piece.kind (take piece.len (b ∷ bs)) p) r) (inside piece.len long))
  where
    inside : (len : ℕ) → 0 < len → spelling_from good (len - 1) (after_byte p b) bs ≡ spelling_from (suc good) len p (b ∷ bs)
    inside zero l = absurd (omega arith)
    inside (suc len) l = let same : suc len - 1 ≡ len = omega arith in rw same refl

pub with_tokens-both : (a b : List Tok) (r : Result (List Tok) LexFault) → with_tokens a (with_tokens b r) ≡ with_tokens (a ++ b) r
with_tokens-both a b (Ok more) = ap Ok (simp append_assoc)
with_tokens-both a b (Err fault) = refl
