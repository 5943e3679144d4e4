use Rattle.std.proofs.Common.{◌≡◌, ◌+◌, ◌-◌, ◌≤◌, List, [], ◌∷◌, ℕ, length, get_or, take, drop, Some, None, refl, sym, ap, ◌∙◌, arith}
use Rattle.std.proofs.lemmas.List.{nil_from_length, take_all, length-drop}
use Rattle.std.specs.List.{prefix_len}
use Rattle.brs_tokens.specs.Classes.{stays_in_line}
use Rattle.brs_tokens.specs.Lengths.{word_piece}
use Rattle.brs_tokens.specs.Spelling.{longest_piece, longest_within}
use Rattle.brs_tokens.specs.declared.piece.PieceKind.TheVariants.{Comment}
use Rattle.brs_tokens.proofs.LongestPiece.{IsOther, piece, piece-blank, piece-newline, piece-comment, piece-word}
use Rattle.brs_tokens.proofs.piece.longest_piece.Goals as goal

longest-nil : longest_piece [] ≡ None
unfolding longest_within
longest-nil = refl

split : (bs : List ℕ) → 1 ≤ length bs → get_or bs 0 0 ∷ drop 1 bs ≡ bs
split [] some = absurd (omega arith)
split (b ∷ bs) some = refl

pub returns-in_default-clause-piece : goal.returns-in_default-clause-piece
returns-in_default-clause-piece c =
    let none : c.args.bytes.now ≡ [] = nil_from_length c.args.bytes.now (omega arith) in
    sym longest-nil ∙ ap longest_piece (sym none)

pub returns-then-is_blank-clause-piece : goal.returns-then-is_blank-clause-piece
returns-then-is_blank-clause-piece c =
    let bs = c.args.bytes.now in
    sym (piece-blank (get_or bs 0 0) (drop 1 bs) cc) ∙ ap longest_piece (split bs (omega arith))

pub returns-then-first-eq10-clause-piece : goal.returns-then-first-eq10-clause-piece
returns-then-first-eq10-clause-piece c =
    let bs = c.args.bytes.now in
    let whole = split bs (omega arith) in
    let same : 10 ∷ drop 1 bs ≡ bs = cc in
    sym (piece-newline (drop 1 bs)) ∙ ap longest_piece same

pub returns-then-first-eq39-clause-piece : goal.returns-then-first-eq39-clause-piece
returns-then-first-eq39-clause-piece c =
    let bs = c.args.bytes.now in
    let whole = split bs (omega arith) in
    let same : 39 ∷ drop 1 bs ≡ bs = cc in
    let more : take (length bs - 1) (drop 1 bs) ≡ drop 1 bs = take_all (length bs - 1) (drop 1 bs) (omega (arith, length-drop 1 bs)) in
    ap (λ n. Some (piece Comment (1 + n))) c.run_len.ensures.len
    ∙ ap (λ t. Some (piece Comment (1 + prefix_len stays_in_line t))) more
    ∙ sym (piece-comment (drop 1 bs)) ∙ ap longest_piece same

pub returns-then-begins_name-clause-piece : goal.returns-then-begins_name-clause-piece
returns-then-begins_name-clause-piece c =
    let bs = c.args.bytes.now in
    let whole = split bs (omega arith) in
    let is : IsOther (get_or bs 0 0) = record { blank = cc; newline = c.if-first-eq10.false; apostrophe = c.if-first-eq39.false } in
    let word : longest_piece bs ≡ Some (word_piece bs) = ap longest_piece (sym whole) ∙ piece-word (get_or bs 0 0) (drop 1 bs) is (cc) ∙ ap (λ t. Some (word_piece t)) whole in
    ap Some c.word_piece.ensures.piece ∙ sym word
