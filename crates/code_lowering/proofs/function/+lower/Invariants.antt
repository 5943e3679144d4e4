use Rattle.std.proofs.Common.{◌≡◌, List, ℕ, length, take}
use Rattle.std.specs.Prelude.{reverse}
use Rattle.brs_code.specs.declared.function.Function.{Function}
use Rattle.brs_code.specs.declared.instr.Placed.{Placed}
use Rattle.code_lowering.specs.Lowered.{Begins, Grows, Reads, CodeOf}
use Rattle.code_lowering.proofs.function.+lower.Given as goal

abbrev pub invariant-lower_body-loop-at : goal.invariant-lower_body-loop-at
invariant-lower_body-loop-at l = record {
  count : length l.list ≡ l.at;
  grows : Grows l.fn.tables l.tables;
  file : Begins Function l.fn.file l.file;
  stands : (all : List Function) (f : Function) → Begins Function l.file all → Reads l.tables f → Begins Placed l.list f.code → CodeOf all f 0 (length l.fn.file) 0 (take l.at (reverse l.code)) l.at (length l.file) l.operands;
}
