-- How bytes are spelled that are cut into their longest pieces.
use Rattle.std.proofs.Common.{◌≡◌, ℕ, zero, suc, ◌+◌, ◌-◌, ◌<◌, ◌≤◌, ◌⊎◌, inl, inr, List, [], ◌∷◌, ◌++◌, length, take, drop, Result, Ok, Err, refl, sym, ap, ◌∙◌, subst, append_assoc, append-nil, length-append, arith}
use Rattle.std.proofs.Math.Seq.{take-append_seam, drop-append_seam}
use Rattle.std.proofs.lemmas.List.{take-append-drop, length-drop, length-take-le}
use Rattle.brs_tokens.specs.Tok.{Tok}
use Rattle.brs_tokens.specs.Kinds.{IsLongestPiece}
use Rattle.brs_tokens.specs.FaultTable.{Row}
use Rattle.brs_tokens.specs.Cuts.{WrittenPiece, slices, Cut, place_behind, tokens_of}
use Rattle.brs_tokens.specs.Spelling.{piece_at, place_after, fault_at, token_of, with_tokens, spelling_from}
use Rattle.brs_tokens.specs.declared.piece.Piece.{Piece}
use Rattle.brs_tokens.specs.declared.piece.PieceKind.{PieceKind}
use Rattle.brs_tokens.specs.declared.place.Place.{Place}
use Rattle.brs_tokens.specs.declared.lex_fault.LexFault.{LexFault}
use Rattle.brs_tokens.specs.declared.lex_fault.LexKind.{LexKind}
use Rattle.brs_tokens.specs.declared.lex_fault.LexKind.TheVariants.{NotUtf8}
use Rattle.brs_tokens.proofs.SpellingLemmas.{spelling-pass, spelling-bad, spelling-stop, spelling-piece, with_tokens-both}
use Rattle.brs_tokens.proofs.TokensLemmas.{IsPiece, longest-is, piece_at-longest}
use Rattle.brs_tokens.proofs.LongestKinds.{spells-some}
use Rattle.brs_tokens.proofs.Rows.{piece-meant, piece-found}
use Rattle.brs_tokens.proofs.Places.{place-more}

-- over pieces

with_tokens-none : (r : Result (List Tok) LexFault) → r ≡ with_tokens [] r
with_tokens-none (Ok tokens) = refl
with_tokens-none (Err fault) = refl

-- over the piece that begins here
over-piece : (first_line good : ℕ) (before : List ℕ) (kind : PieceKind) (slice behind : List ℕ) → IsLongestPiece kind slice behind → ((fault : LexKind) → Row fault (slice ++ behind) → ⊥)
    → length slice ≤ good → spelling_from good 0 (place_behind first_line before) (slice ++ behind)
    ≡ with_tokens (token_of kind slice (place_behind first_line before)) (spelling_from (good - length slice) 0 (place_behind first_line (before ++ slice)) behind)
over-piece first_line good before kind slice behind is none fits =
    let some = spells-some kind slice is.spells in
    let size = length-append slice behind in
    spelling-piece good (place_behind first_line before) (slice ++ behind) (record { kind = kind; len = length slice }) (omega arith) (omega arith) (piece-found kind slice behind is none) some
    ∙ ap (with_tokens (token_of kind (take (length slice) (slice ++ behind)) (place_behind first_line before)))
    (spelling-pass (length slice) good (place_behind first_line before) (slice ++ behind) (omega arith) fits)
    ∙ ap (λ t. with_tokens (token_of kind t (place_behind first_line before)) (spelling_from (good - length slice) 0 (place_after (place_behind first_line before) t) (drop (length slice) (slice ++ behind))))
    (take-append_seam slice behind)
    ∙ ap (λ t. with_tokens (token_of kind slice (place_behind first_line before)) (spelling_from (good - length slice) 0 (place_after (place_behind first_line before) slice) t)) (drop-append_seam slice behind)
    ∙ ap (λ q. with_tokens (token_of kind slice (place_behind first_line before)) (spelling_from (good - length slice) 0 q behind)) (place-more first_line before slice)

pub over-cut : (first_line good : ℕ) (before bytes : List ℕ) (pieces : List WrittenPiece) (rest : List ℕ) → Cut bytes pieces rest → length (slices pieces) ≤ good
    → spelling_from good 0 (place_behind first_line before) bytes
    ≡ with_tokens (tokens_of first_line before pieces) (spelling_from (good - length (slices pieces)) 0 (place_behind first_line (before ++ slices pieces)) rest)
over-cut first_line good before bytes [] rest cut fits =
    let left : good - 0 ≡ good = omega arith in
    ap (spelling_from good 0 (place_behind first_line before)) cut
    ∙ ap (λ t. spelling_from good 0 (place_behind first_line t) rest) (sym (append-nil before))
    ∙ ap (λ n. spelling_from n 0 (place_behind first_line (before ++ [])) rest) (sym left)
    ∙ with_tokens-none (spelling_from (good - 0) 0 (place_behind first_line (before ++ [])) rest)
over-cut first_line good before bytes (p ∷ pieces) rest (behind, split, is, none, cut) fits =
    let size = length-append p.slice (slices pieces) in
    let left : (good - length p.slice) - length (slices pieces) ≡ good - length (p.slice ++ slices pieces) = omega arith in
    let place = append_assoc before p.slice (slices pieces) in
    ap (spelling_from good 0 (place_behind first_line before)) split
    ∙ over-piece first_line good before p.kind p.slice behind is (λ fault row. none fault (subst (Row fault) (sym split) row)) (omega arith)
    ∙ ap (with_tokens (token_of p.kind p.slice (place_behind first_line before))) (over-cut first_line (good - length p.slice) (before ++ p.slice) behind pieces rest cut (omega arith))
    ∙ with_tokens-both (token_of p.kind p.slice (place_behind first_line before)) (tokens_of first_line (before ++ p.slice) pieces)
    (spelling_from ((good - length p.slice) - length (slices pieces)) 0 (place_behind first_line ((before ++ p.slice) ++ slices pieces)) rest)
    ∙ ap (λ n. with_tokens (tokens_of first_line before (p ∷ pieces)) (spelling_from n 0 (place_behind first_line ((before ++ p.slice) ++ slices pieces)) rest)) left
    ∙ ap (λ t. with_tokens (tokens_of first_line before (p ∷ pieces)) (spelling_from (good - length (p.slice ++ slices pieces)) 0 (place_behind first_line t) rest)) place

pub cut-bytes : (bytes : List ℕ) (pieces : List WrittenPiece) (rest : List ℕ) → Cut bytes pieces rest → bytes ≡ slices pieces ++ rest
cut-bytes bytes [] rest cut = cut
cut-bytes bytes (p ∷ pieces) rest (behind, split, is, none, cut) =
    split ∙ ap (λ t. p.slice ++ t) (cut-bytes behind pieces rest cut) ∙ sym (append_assoc p.slice (slices pieces) rest)

-- one cut goes as far as another that ends at a fault

same-piece : (bytes : List ℕ) (p q : WrittenPiece) (behind after : List ℕ) → bytes ≡ p.slice ++ behind → bytes ≡ q.slice ++ after
    → piece_at bytes ≡ Ok (record { kind = p.kind; len = length p.slice }) → piece_at bytes ≡ Ok (record { kind = q.kind; len = length q.slice })
    → (length p.slice ≡ length q.slice) × (behind ≡ after)
same-piece bytes p q behind after first second at also =
    let same : ◌≡◌ {A = Piece} (record { kind = p.kind; len = length p.slice }) (record { kind = q.kind; len = length q.slice }) = cc in
    let size : length p.slice ≡ length q.slice = ap (λ (r : Piece). r.len) same in
    (size, sym (ap (drop (length p.slice)) first ∙ drop-append_seam p.slice behind) ∙ ap (λ n. drop n bytes) size ∙ ap (drop (length q.slice)) second ∙ drop-append_seam q.slice after)

begun : (bytes : List ℕ) (p : WrittenPiece) (behind : List ℕ) → bytes ≡ p.slice ++ behind → IsLongestPiece p.kind p.slice behind → ((fault : LexKind) → Row fault bytes → ⊥)
    → piece_at bytes ≡ Ok (record { kind = p.kind; len = length p.slice })
begun bytes p behind split is none = ap piece_at split ∙ piece-found p.kind p.slice behind is (λ fault row. none fault (subst (Row fault) (sym split) row))

pub cut-reaches : (bytes : List ℕ) (pieces others : List WrittenPiece) (rest more : List ℕ) (kind : LexKind) → Cut bytes pieces rest → Cut bytes others more → Row kind more
    → length (slices pieces) ≤ length (slices others)
cut-reaches bytes [] others rest more kind cut other row = omega arith
cut-reaches bytes (p ∷ pieces) [] rest more kind (behind, split, is, none, cut) other row = absurd (none kind (subst (Row kind) (sym other) row))
cut-reaches bytes (p ∷ pieces) (q ∷ others) rest more kind (behind, split, is, none, cut) (after, split_too, is_too, none_too, other) row =
    let same = same-piece bytes p q behind after split split_too (begun bytes p behind split is none) (begun bytes q after split_too is_too none_too) in
    let further = cut-reaches behind pieces others rest more kind cut (subst (λ t. Cut t others more) (sym same.1) other) row in
    omega (arith, same.0, further, length-append p.slice (slices pieces), length-append q.slice (slices others))

-- as far as the bytes can be cut

-- A byte that begins no character is the next one, or lies within the next piece.
pub record IsOver (left : ℕ) (rest : List ℕ) : Type 0 where
  pub some : 0 < length rest
  pub at : (left ≡ 0) ⊎ ((q : Piece) × (piece_at rest ≡ Ok q) × (0 < left) × (left < q.len))

-- A fault of the table is next.
pub record IsFaulty (left : ℕ) (rest : List ℕ) : Type 0 where
  pub some : 0 < length rest
  pub kind : LexKind
  pub at : piece_at rest ≡ Err kind
  pub more : 0 < left

pub record Outcome (good : ℕ) (bytes : List ℕ) : Type 0 where
  pub pieces : List WrittenPiece
  pub rest : List ℕ
  pub cut : Cut bytes pieces rest
  pub within : length (slices pieces) ≤ good
  pub end : (rest ≡ []) ⊎ (IsOver (good - length (slices pieces)) rest ⊎ IsFaulty (good - length (slices pieces)) rest)

one-further : (good : ℕ) (bytes : List ℕ) (q : Piece) → piece_at bytes ≡ Ok q → q.len ≤ length bytes → q.len ≤ good → Outcome (good - q.len) (drop q.len bytes) → Outcome good bytes
one-further good bytes q at within fits o =
    let meant = piece-meant bytes q at in
    let size : length (take q.len bytes ++ slices o.pieces) ≡ q.len + length (slices o.pieces) =
    length-append (take q.len bytes) (slices o.pieces) ∙ ap (λ n. n + length (slices o.pieces)) (length-take-le q.len bytes within) in
    let left : (good - q.len) - length (slices o.pieces) ≡ good - length (take q.len bytes ++ slices o.pieces) = omega arith in
    record {
      pieces = record { kind = q.kind; slice = take q.len bytes } ∷ o.pieces;
      rest = o.rest;
      cut = (drop q.len bytes, sym (take-append-drop q.len bytes), meant.0, meant.1, o.cut);
      within = omega (arith, o.within, size);
      end = subst (λ n. (o.rest ≡ []) ⊎ (IsOver n o.rest ⊎ IsFaulty n o.rest)) left o.end;
    }

pub outcome : (k good : ℕ) (bytes : List ℕ) → length bytes ≤ k → Outcome good bytes
outcome k good [] fits = record { pieces = []; rest = []; cut = refl; within = omega arith; end = inl refl }
outcome zero good (b ∷ bs) fits = absurd (omega arith)
outcome (suc k) zero (b ∷ bs) fits =
    record { pieces = []; rest = b ∷ bs; cut = refl; within = omega arith; end = inr (inl (record { some = omega arith; at = inl (omega arith) })) }
outcome (suc k) (suc good) (b ∷ bs) fits = by_piece (λ left rest within. outcome k left rest within) (piece_at (b ∷ bs)) refl
  where
    here : (rest : IsOver (suc good - 0) (b ∷ bs) ⊎ IsFaulty (suc good - 0) (b ∷ bs)) → Outcome (suc good) (b ∷ bs)
    here end = record { pieces = []; rest = b ∷ bs; cut = refl; within = omega arith; end = inr end }

    by_size : ((left : ℕ) (rest : List ℕ) → length rest ≤ k → Outcome left rest) → (q : Piece) → piece_at (b ∷ bs) ≡ Ok q → IsPiece (b ∷ bs) q → (q.len ≤ suc good) ⊎ (suc good < q.len) → Outcome (suc good) (b ∷ bs)
    by_size further q at is (inl within) =
        one-further (suc good) (b ∷ bs) q at is.within within
        (further (suc good - q.len) (drop q.len (b ∷ bs)) (omega (arith, length-drop q.len (b ∷ bs), is.some, is.within)))
    by_size further q at is (inr past) = here (inl (record { some = omega arith; at = inr (q, at, omega arith, omega arith) }))

    by_piece : ((left : ℕ) (rest : List ℕ) → length rest ≤ k → Outcome left rest) → (r : Result Piece LexKind) → piece_at (b ∷ bs) ≡ r → Outcome (suc good) (b ∷ bs)
    by_piece further (Err kind) at = here (inr (record { some = omega arith; kind = kind; at = at; more = omega arith }))
    by_piece further (Ok q) at = by_size further q at (longest-is (length (b ∷ bs)) (b ∷ bs) q (omega arith) (piece_at-longest (b ∷ bs) q at).0) (grind arith)

-- what is spelled where a byte begins no character
pub over-spelled : (left : ℕ) (p : Place) (rest : List ℕ) → IsOver left rest → spelling_from left 0 p rest ≡ Err (fault_at NotUtf8 (place_after p (take left rest)))
over-spelled left p rest over = by_case over.at
  where
    by_case : (left ≡ 0) ⊎ ((q : Piece) × (piece_at rest ≡ Ok q) × (0 < left) × (left < q.len)) → spelling_from left 0 p rest ≡ Err (fault_at NotUtf8 (place_after p (take left rest)))
    by_case (inl none) = rw none (spelling-stop p rest over.some)
    by_case (inr (q, at, more, less)) =
        let is : IsPiece rest q = longest-is (length rest) rest q (omega arith) (piece_at-longest rest q at).0 in
        spelling-piece left p rest q more over.some at is.some ∙ ap (with_tokens (token_of q.kind (take q.len rest) p)) (spelling-bad q.len left p rest is.within less)

pub piece-within : (rest : List ℕ) (q : Piece) → piece_at rest ≡ Ok q → q.len ≤ length rest
piece-within rest q at = let is : IsPiece rest q = longest-is (length rest) rest q (omega arith) (piece_at-longest rest q at).0 in is.within

-- fewer bytes are left than are behind
pub over-short : (left : ℕ) (rest : List ℕ) → IsOver left rest → left < length rest
over-short left rest over = by_case over.at
  where
    by_case : (left ≡ 0) ⊎ ((q : Piece) × (piece_at rest ≡ Ok q) × (0 < left) × (left < q.len)) → left < length rest
    by_case (inl none) = omega (arith, over.some)
    by_case (inr (q, at, more, less)) =
        omega (arith, piece-within rest q at)

-- one piece more at the end of a cut
pub cut-more : (bytes : List ℕ) (pieces : List WrittenPiece) (rest : List ℕ) (q : Piece) → Cut bytes pieces rest → piece_at rest ≡ Ok q
    → Cut bytes (pieces ++ record { kind = q.kind; slice = take q.len rest } ∷ []) (drop q.len rest)
cut-more bytes [] rest q cut at =
    let meant = piece-meant rest q at in (
      drop q.len rest,
      cut ∙ sym (take-append-drop q.len rest),
      meant.0,
      λ fault row. meant.1 fault (subst (Row fault) cut row),
      refl,
    )
cut-more bytes (p ∷ pieces) rest q (behind, split, is, none, cut) at = (behind, split, is, none, cut-more behind pieces rest q cut at)
