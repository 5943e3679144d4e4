-- A token as definitions speak of it: what it is, its bytes and its place.
use Rattle.std.specs.Prelude.{ℕ, List, map}
use Rattle.brs_tokens.specs.declared.token.Token.{Token}
use Rattle.brs_tokens.specs.declared.token.TokenKind.{TokenKind}

pub record Tok : Type 0 where
  pub kind : TokenKind
  pub slice : List ℕ
  pub line : ℕ
  pub column : ℕ

abbrev pub tok_of : Token → Tok
tok_of t = record { kind = t.kind; slice = t.slice.now; line = t.line; column = t.column }

abbrev pub toks_of : List Token → List Tok
toks_of tokens = map tok_of tokens
