-- What reading a source file answers.
use Rattle.std.specs.Prelude.{◌≡◌, List, Result, Ok, Err}
use Rattle.brs_grammar.specs.declared.tree.NamedFunction.{NamedFunction}
use Rattle.file_faults.specs.declared.source.SourceAnswer.{SourceAnswer}
use Rattle.file_faults.specs.declared.source.SourceAnswer.TheVariants.{Fault, NoMemory}
use Rattle.file_faults.specs.declared.source.SourceFault.{SourceFault}

-- these functions, unless memory ran out
abbrev pub IsRead : List NamedFunction → Result (List NamedFunction) SourceAnswer → Type 0
IsRead functions (Ok found) = found ≡ functions
IsRead functions (Err (Fault fault)) = ⊥
IsRead functions (Err NoMemory) = Unit {0}

-- this fault, unless memory ran out
abbrev pub IsRefused : SourceFault → Result (List NamedFunction) SourceAnswer → Type 0
IsRefused fault (Ok functions) = ⊥
IsRefused fault (Err (Fault found)) = found ≡ fault
IsRefused fault (Err NoMemory) = Unit {0}
