-- What parsing a file answers.
use Rattle.std.specs.Prelude.{◌≡◌, List, Result, Ok, Err}
use Rattle.brs_grammar.specs.declared.tree.NamedFunction.{NamedFunction}
use Rattle.brs_parser.specs.declared.fault.SyntaxFault.{SyntaxFault}
use Rattle.brs_parser.specs.declared.source.ParseAnswer.{ParseAnswer}
use Rattle.brs_parser.specs.declared.source.ParseAnswer.TheVariants.{Fault, NoMemory}

-- these functions, unless memory ran out
abbrev pub IsParsed : List NamedFunction → Result (List NamedFunction) ParseAnswer → Type 0
IsParsed functions (Ok found) = found ≡ functions
IsParsed functions (Err (Fault fault)) = ⊥
IsParsed functions (Err NoMemory) = Unit {0}

-- this fault, unless memory ran out
abbrev pub IsFault : SyntaxFault → Result (List NamedFunction) ParseAnswer → Type 0
IsFault fault (Ok functions) = ⊥
IsFault fault (Err (Fault found)) = found ≡ fault
IsFault fault (Err NoMemory) = Unit {0}
