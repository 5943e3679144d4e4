use Rattle.std.proofs.Common.{◌≡◌, ◌+◌, ◌∷◌, Some, sym, ap, ◌∙◌, arith}
use Rattle.brs_tokens.specs.Lengths.{sign_len}
use Rattle.brs_tokens.specs.Spelling.{longest_piece}
use Rattle.brs_tokens.specs.declared.piece.PieceKind.TheVariants.{Token}
use Rattle.brs_tokens.specs.declared.token.TokenKind.TheVariants.{Number, Text}
use Rattle.brs_tokens.proofs.LongestPiece.{IsUnnamed, IsUndigited, piece, first_and, first_and-from_cases, piece-decimal, piece-hex, piece-text, piece-sign-none, piece-sign-some}
use Rattle.brs_tokens.proofs.piece.number_text_or_sign.Goals as goal

pub returns-then-is_digit-clause-piece : goal.returns-then-is_digit-clause-piece
returns-then-is_digit-clause-piece c =
    let is : IsUnnamed c.args.first = record { other = record { blank = c.requires.blank; newline = c.requires.newline; apostrophe = c.requires.apostrophe }; name = c.requires.name } in
    ap (λ n. Some (piece (Token Number) (1 + n))) c.digits_len.ensures.len
    ∙ sym (piece-decimal c.args.first c.args.more.now is cc) ∙ ap longest_piece (sym c.requires.split)

pub returns-then-first-eq38-clause-piece : goal.returns-then-first-eq38-clause-piece
returns-then-first-eq38-clause-piece c =
    let same : 38 ∷ c.args.more.now ≡ c.args.bytes.now = cc in
    first_and-from_cases c.token_after.result (Token Number) c.hex_len.result c.token_after.ensures.none c.token_after.ensures.some
    ∙ ap (first_and (Token Number)) c.hex_len.ensures.len ∙ sym (piece-hex c.args.more.now) ∙ ap longest_piece same

pub returns-then-first-eq34-clause-piece : goal.returns-then-first-eq34-clause-piece
returns-then-first-eq34-clause-piece c =
    let same : 34 ∷ c.args.more.now ≡ c.args.bytes.now = cc in
    first_and-from_cases c.token_after-then-first-eq34.result (Token Text) c.text_len.result c.token_after-then-first-eq34.ensures.none c.token_after-then-first-eq34.ensures.some
    ∙ ap (first_and (Token Text)) c.text_len.ensures.len ∙ sym (piece-text c.args.more.now) ∙ ap longest_piece same

pub returns-in-0-clause-piece : goal.returns-in-0-clause-piece
returns-in-0-clause-piece c =
    let is : IsUndigited c.args.first = record { unnamed = record { other = record { blank = c.requires.blank; newline = c.requires.newline; apostrophe = c.requires.apostrophe }; name = c.requires.name }; digit = cc } in
    let none : sign_len (c.args.first ∷ c.args.more.now) ≡ 0 = ap sign_len (sym c.requires.split) ∙ sym c.sign_len.ensures.len ∙ c.in-0.is in
    sym (piece-sign-none c.args.first c.args.more.now is c.if-first-eq38.false c.if-first-eq34.false none) ∙ ap longest_piece (sym c.requires.split)

pub returns-in_default-clause-piece : goal.returns-in_default-clause-piece
returns-in_default-clause-piece c =
    let is : IsUndigited c.args.first = record { unnamed = record { other = record { blank = c.requires.blank; newline = c.requires.newline; apostrophe = c.requires.apostrophe }; name = c.requires.name }; digit = cc } in
    let len : sign_len (c.args.first ∷ c.args.more.now) ≡ c.sign_len.result = ap sign_len (sym c.requires.split) ∙ sym c.sign_len.ensures.len in
    sym (piece-sign-some c.args.first c.args.more.now c.sign_len.result is c.if-first-eq38.false c.if-first-eq34.false len (omega arith)) ∙ ap longest_piece (sym c.requires.split)
