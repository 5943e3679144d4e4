-- What `lex` answers.
use Rattle.std.specs.Prelude.{◌≡◌, List, Result, Ok, Err}
use Rattle.brs_tokens.specs.Tok.{Tok}
use Rattle.brs_tokens.specs.declared.lex_fault.LexFault.{LexFault}
use Rattle.brs_tokens.specs.declared.lexer.LexAnswer.{LexAnswer}
use Rattle.brs_tokens.specs.declared.lexer.LexAnswer.TheVariants.{Fault, NoMemory}

-- the answer is this spelling, unless memory ran out
abbrev pub Answers : Result (List Tok) LexFault → Result (List Tok) LexAnswer → Type 0
Answers spelling (Ok tokens) = spelling ≡ Ok tokens
Answers spelling (Err (Fault fault)) = spelling ≡ Err fault
Answers spelling (Err NoMemory) = Unit {0}
