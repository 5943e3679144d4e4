use Rattle.std.proofs.Common.{◌-◌, length}
use Rattle.brs_tokens.proofs.Lexing.{IsLexing}
use Rattle.brs_tokens.proofs.lexer.lex.Given as goal

abbrev pub invariant-pieces : goal.invariant-pieces
invariant-pieces l = IsLexing l.src l.first_line l.tokens l.rest l.good l.len l.place

abbrev pub decreases-pieces : goal.decreases-pieces
decreases-pieces l = length l.rest - l.len
