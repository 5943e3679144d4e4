-- The definitions of pieces, faults and places, by hand on short texts.
use Rattle.std.proofs.Common.{◌≡◌, [], ◌∷◌, ◌++◌, Some, inl, inr, refl}
use Rattle.std.specs.Prelude.{codes}
use Rattle.std.proofs.lemmas.Bool.{false≢true}
use Rattle.brs_tokens.specs.Pieces.{piece_kind, word_kind, is_keyword, is_sign}
use Rattle.brs_tokens.specs.Spelling.{longest_within}
use Rattle.brs_tokens.specs.Kinds.{Spells, IsLongestPiece}
use Rattle.brs_tokens.specs.FaultTable.{Row}
use Rattle.brs_tokens.specs.Cuts.{place_behind}
use Rattle.brs_tokens.specs.declared.piece.Piece.{Piece}
use Rattle.brs_tokens.specs.declared.piece.PieceKind.TheVariants.{Comment, Token}
use Rattle.brs_tokens.specs.declared.place.Place.{Place}
use Rattle.brs_tokens.specs.declared.token.TokenKind.TheVariants.{Name, Number, Text, Sign}
use Rattle.brs_tokens.specs.declared.lex_fault.LexKind.TheVariants.{FloatLiteral}
use Rattle.brs_tokens.proofs.KindsLemmas.{spells-kind}
use Rattle.brs_tokens.proofs.KindsConverse.{cons-some}
use Rattle.brs_tokens.proofs.LongestKinds.{longest-meant}
use Rattle.brs_tokens.proofs.Rows.{float-found}

doubled_quote : Spells (Token Text) (codes "\"a\"\"b\"")
doubled_quote = (codes "a\"b", refl, refl)

comment_by_word : Spells Comment (codes "Rem 'x")
comment_by_word = record { mark = codes "Rem"; line = codes " 'x"; bytes_are = refl; begins = inr (refl, refl); in_line = refl }

name_that_begins_with_rem : Spells Comment (codes "remark") → ⊥
unfolding piece_kind word_kind is_keyword
name_that_begins_with_rem s = let made : Some (Token Name) ≡ Some Comment = spells-kind Comment (codes "remark") s in absurd (cc)

hexadecimal : Spells (Token Number) (codes "&hFf&")
hexadecimal = record {
  digits = codes "&hFf";
  end = codes "&";
  bytes_are = refl;
  written = inr (104, codes "Ff", refl, inl refl, (cons-some 70 (codes "f"), refl));
  ends = inr refl;
}

longer_of_two_signs : IsLongestPiece (Token Sign) (codes "<=") (codes "=x")
unfolding longest_within piece_kind is_sign
longer_of_two_signs = let p : Piece = record { kind = Token Sign; len = 2 } in longest-meant (codes "<==x") p refl

exponent : Row FloatLiteral (codes "1e+5x")
exponent = record {
  front = codes "1e+5";
  behind = codes "x";
  bytes_are = refl;
  is = inr (record {
    digits = codes "1";
    letter = 101;
    sign = codes "+";
    last = 53;
    bytes_are = refl;
    some = (cons-some 49 [], refl);
    scale = inl refl;
    signed = inr (inl refl);
    ends = refl;
  });
}

capital_exponent : Row FloatLiteral (codes "1E5") → ⊥
capital_exponent row = false≢true (float-found (codes "1E5") row)

-- a line further for the LF, and a column for each byte of `cd`
third_column : ◌≡◌ {A = Place} (place_behind 3 (codes "ab" ++ 10 ∷ codes "cd")) (record { line = 4; column = 3 })
third_column = refl
