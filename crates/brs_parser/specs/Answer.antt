-- What `parse` answers.
use Rattle.std.specs.Prelude.{◌≡◌, List, Result, Ok, Err}
use Rattle.brs_grammar.specs.declared.tree.FileTree.{FileTree}
use Rattle.brs_grammar.specs.declared.tree.NamedFunction.{NamedFunction}
use Rattle.brs_parser.specs.declared.fault.SyntaxFault.{SyntaxFault}
use Rattle.brs_parser.specs.declared.source.ParseAnswer.{ParseAnswer}
use Rattle.brs_parser.specs.declared.source.ParseAnswer.TheVariants.{Fault, NoMemory}

-- this tree, unless memory ran out
abbrev pub IsTree : List NamedFunction → Result FileTree ParseAnswer → Type 0
IsTree functions (Ok tree) = tree.functions ≡ functions
IsTree functions (Err (Fault fault)) = ⊥
IsTree functions (Err NoMemory) = Unit {0}

-- this fault, unless memory ran out
abbrev pub IsFault : SyntaxFault → Result FileTree ParseAnswer → Type 0
IsFault fault (Ok tree) = ⊥
IsFault fault (Err (Fault found)) = found ≡ fault
IsFault fault (Err NoMemory) = Unit {0}
