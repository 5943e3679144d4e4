-- The longest piece, as it is computed, is the longest of any kind.
use Rattle.std.proofs.Common.{◌≡◌, ℕ, zero, suc, ◌+◌, ◌-◌, ◌<◌, ◌≤◌, ◌⊎◌, inl, inr, List, [], ◌∷◌, ◌++◌, length, take, drop, Option, Some, None, refl, sym, ap, ◌∙◌, subst, length-append, arith}
use Rattle.std.proofs.Math.Seq.{take-append_seam, take-append-add}
use Rattle.std.proofs.lemmas.List.{take-append-drop, length-drop, length-take-le}
use Rattle.brs_tokens.specs.Pieces.{piece_kind}
use Rattle.brs_tokens.specs.Kinds.{Spells, Begins, IsLongestPiece}
use Rattle.brs_tokens.specs.Spelling.{longest_within, longest_piece}
use Rattle.brs_tokens.specs.declared.piece.Piece.{Piece}
use Rattle.brs_tokens.specs.declared.piece.PieceKind.{PieceKind}
use Rattle.brs_tokens.proofs.Longest.{longest_within-none}
use Rattle.brs_tokens.proofs.LongestWord.{longest_within-at}
use Rattle.brs_tokens.proofs.TokensLemmas.{IsPiece, longest-is}
use Rattle.brs_tokens.proofs.KindsLemmas.{spells-kind}
use Rattle.brs_tokens.proofs.KindsConverse.{kind-spells, nothing-made}

pub spells-some : (kind : PieceKind) (piece : List ℕ) → Spells kind piece → 0 < length piece
spells-some kind [] s = absurd (nothing-made kind (spells-kind kind [] s))
spells-some kind (b ∷ piece) s = omega arith

-- a front of some length is one with more behind it
front-more : (piece behind : List ℕ) (m : ℕ) → length piece ≤ m → take m (piece ++ behind) ≡ piece ++ take (m - length piece) behind
front-more piece behind m fits =
    let sum : m ≡ length piece + (m - length piece) = omega arith in
    ap (λ n. take n (piece ++ behind)) sum ∙ take-append-add piece behind (m - length piece)

pub longest-found : (kind : PieceKind) (piece behind : List ℕ) → IsLongestPiece kind piece behind → longest_piece (piece ++ behind) ≡ Some (record { kind = kind; len = length piece })
longest-found kind piece behind is =
    longest_within-at (piece ++ behind) kind (length piece) (spells-some kind piece is.spells)
    (ap piece_kind (take-append_seam piece behind) ∙ spells-kind kind piece is.spells)
    (omega (arith, length-append piece behind)) (λ m l u. none m l u (piece_kind (take m (piece ++ behind))) refl)
  where
    none : (m : ℕ) → length piece < m → m ≤ length (piece ++ behind) → (found : Option PieceKind) → piece_kind (take m (piece ++ behind)) ≡ found → found ≡ None
    none m l u None e = refl
    none m l u (Some other) e =
        let front = front-more piece behind m (omega arith) in
        let s : Spells other (piece ++ take (m - length piece) behind) = subst (λ t. Spells other t) front (kind-spells other (take m (piece ++ behind)) e) in
        let nothing = is.longest other (take (m - length piece) behind) (drop (m - length piece) behind) (sym (take-append-drop (m - length piece) behind)) s in
        let fits : m - length piece ≤ length behind = omega (arith, length-append piece behind) in
        absurd (omega (arith, ap length nothing, length-take-le (m - length piece) behind fits))

-- what is longer is no piece
longer-none : (k : ℕ) (bytes : List ℕ) (p : Piece) → longest_within k bytes ≡ Some p → (m : ℕ) → p.len < m → m ≤ k → piece_kind (take m bytes) ≡ None
unfolding longest_within
longer-none zero bytes p e m l u = absurd (cc)
longer-none (suc k) bytes p e m l u =
    elim (piece_kind (take (suc k) bytes)) as (λ t. (piece_kind (take (suc k) bytes) ≡ t) → piece_kind (take m bytes) ≡ None) [
      | Some kind ↦ λ h.
          let e' = rw (h, longest_within) at e in
          let len : suc k ≡ p.len = cc in
          absurd (omega arith)
      | None ↦ λ h.
          let e' = rw (h, longest_within) at e in
          let cases : (m ≡ suc k) ⊎ (m ≤ k) = grind arith in
          elim cases [
            | inl same ↦ ap (λ n. piece_kind (take n bytes)) same ∙ h
            | inr less ↦ longer-none k bytes p e' m l less
          ]
    ] refl

pub longest-meant : (bytes : List ℕ) (p : Piece) → longest_piece bytes ≡ Some p → IsLongestPiece p.kind (take p.len bytes) (drop p.len bytes)
longest-meant bytes p e =
    let is : IsPiece bytes p = longest-is (length bytes) bytes p (omega arith) e in
    record { spells = kind-spells p.kind (take p.len bytes) is.spells; longest = longest is.within }
  where
    longest : p.len ≤ length bytes → (other : PieceKind) (more rest : List ℕ) → drop p.len bytes ≡ more ++ rest → Spells other (take p.len bytes ++ more) → more ≡ []
    longest within other [] rest split s = refl
    longest within other (b ∷ more) rest split s =
        let size : length (take p.len bytes) ≡ p.len = length-take-le p.len bytes within in
        let whole : bytes ≡ take p.len bytes ++ ((b ∷ more) ++ rest) = sym (take-append-drop p.len bytes) ∙ ap (λ t. take p.len bytes ++ t) split in
        let front : take (length (take p.len bytes) + length (b ∷ more)) bytes ≡ take p.len bytes ++ (b ∷ more) =
        ap (take (length (take p.len bytes) + length (b ∷ more))) whole ∙ take-append-add (take p.len bytes) ((b ∷ more) ++ rest) (length (b ∷ more))
        ∙ ap (λ t. take p.len bytes ++ t) (take-append_seam (b ∷ more) rest) in
        let fits : length (take p.len bytes) + length (b ∷ more) ≤ length bytes =
        omega (arith, ap length split, length-drop p.len bytes, length-append (b ∷ more) rest) in
        let none = longer-none (length bytes) bytes p e (length (take p.len bytes) + length (b ∷ more)) (omega arith) fits in
        let found = ap piece_kind front ∙ spells-kind other (take p.len bytes ++ (b ∷ more)) s in
        absurd (cc)

-- no piece begins

none-within : (k : ℕ) (bytes : List ℕ) → longest_within k bytes ≡ None → (m : ℕ) → 0 < m → m ≤ k → piece_kind (take m bytes) ≡ None
unfolding longest_within
none-within zero bytes e m l u = absurd (omega arith)
none-within (suc k) bytes e m l u =
    elim (piece_kind (take (suc k) bytes)) as (λ t. (piece_kind (take (suc k) bytes) ≡ t) → piece_kind (take m bytes) ≡ None) [
      | Some kind ↦ λ h. let e' = rw (h, longest_within) at e in absurd (cc)
      | None ↦ λ h.
          let e' = rw (h, longest_within) at e in
          let cases : (m ≡ suc k) ⊎ (m ≤ k) = grind arith in
          elim cases [
            | inl same ↦ ap (λ n. piece_kind (take n bytes)) same ∙ h
            | inr less ↦ none-within k bytes e' m l less
          ]
    ] refl

pub none-meant : (bytes : List ℕ) → longest_piece bytes ≡ None → (kind : PieceKind) → Begins (Spells kind) bytes → ⊥
none-meant bytes e kind b =
    let some = spells-some kind b.front b.is in
    let front : take (length b.front) bytes ≡ b.front = ap (take (length b.front)) b.bytes_are ∙ take-append_seam b.front b.behind in
    let none = none-within (length bytes) bytes e (length b.front) some (omega (arith, ap length b.bytes_are, length-append b.front b.behind)) in
    let found = ap piece_kind front ∙ spells-kind kind b.front b.is in
    absurd (apart (piece_kind (take (length b.front) bytes)) none found)
  where
    apart : (o : Option PieceKind) → o ≡ None → o ≡ Some kind → ⊥
    apart o n s = absurd (cc)

pub none-found : (bytes : List ℕ) → ((kind : PieceKind) → Begins (Spells kind) bytes → ⊥) → longest_piece bytes ≡ None
none-found bytes never = longest_within-none bytes (length bytes) (λ m l u. none m (piece_kind (take m bytes)) refl)
  where
    none : (m : ℕ) (found : Option PieceKind) → piece_kind (take m bytes) ≡ found → found ≡ None
    none m None e = refl
    none m (Some kind) e =
        absurd (never kind (record { front = take m bytes; behind = drop m bytes; bytes_are = sym (take-append-drop m bytes); is = kind-spells kind (take m bytes) e }))
