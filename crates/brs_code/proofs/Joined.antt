-- Joining keeps the file part of the rule.
use Rattle.std.proofs.Common.{◌≡◌, ℕ, ◌+◌, ◌<◌, ◌≤◌, min, ◌++◌, ◌^◌, length, map, All, IfSome, slice_get, Option, None, Some, sym, subst, ap, ◌∙◌, arith}
use Rattle.std.proofs.lemmas.List.{length-append, length-map}
use Rattle.std.proofs.lemmas.List.Elements.{All-append, All-map, All-weaker}
use Rattle.brs_code.specs.declared.code.Code.{Code}
use Rattle.brs_code.specs.declared.function.Function.{Function}
use Rattle.brs_code.specs.declared.instr.Instr.{Instr}
use Rattle.brs_code.specs.declared.instr.Instr.TheVariants as i
use Rattle.brs_code.specs.declared.instr.Placed.{Placed}
use Rattle.brs_code.specs.Rule.{NamesExist, InstructionRule, FunctionRule, IsFilePart}
use Rattle.brs_code.specs.Join.{moved, joined}

-- a function with another path, and with so many more anonymous functions before its own
abbrev placed : ℕ → ℕ → Function → Function
placed path first f = record f { path = path; first = first }

names_kept : (f : Function) (path first some all : ℕ) → ((k : ℕ) → f.first + k < some → first + k < all) → (x : Instr) → NamesExist f some x → NamesExist (placed path first f) all x
names_kept f path first some all more (i.Function k) h = more k h
names_kept f path first some all more _ h = h

instruction_kept : (f : Function) (path first some all : ℕ) → ((k : ℕ) → f.first + k < some → first + k < all) → (at : ℕ) (x : Placed) → InstructionRule f some at x → InstructionRule (placed path first f) all at x
instruction_kept f path first some all more at x h = record {
  takes = h.takes;
  next = h.next;
  turns = h.turns;
  forward = h.forward;
  names = names_kept f path first some all more x.instr h.names;
}

function_kept : (f : Function) (path first some all : ℕ) → ((k : ℕ) → f.first + k < some → first + k < all) → first ≤ all → FunctionRule some f → FunctionRule all (placed path first f)
function_kept f path first some all more within h = record {
  first = within;
  start = h.start;
  parameters = λ k d below. let p = h.parameters k d below in record { slot = p.slot; entry = p.entry };
  instructions = λ at. each at (slice_get f.code at) (h.instructions at);
}
  where
    each : (at : ℕ) (o : Option Placed) → IfSome o (InstructionRule f some at) → IfSome o (InstructionRule (placed path first f) all at)
    each at None r = r
    each at (Some x) r = instruction_kept f path first some all more at x r

grown : (some all : ℕ) → some ≤ all → (f : Function) → FunctionRule some f → FunctionRule all f
grown some all less f h = function_kept f f.path f.first some all (λ k below. omega (arith, less, below)) (omega (arith, less, h.first)) h

-- among so many functions in all no number is past the largest one
moved_kept : (path before some : ℕ) → before + some < 2 ^ 64 → (f : Function) → FunctionRule some f → FunctionRule (before + some) (moved path before f)
moved_kept path before some fits f h =
    let number = min (before + f.first) 0xffff_ffff_ffff_ffff in
    let bound = h.first in
    let same : number ≡ before + f.first = omega (arith, fits, bound) in
    function_kept f path number some (before + some) (λ k below. omega (arith, same, below)) (omega (arith, same, bound)) h

list_kept : (path before some : ℕ) → before + some < 2 ^ 64 → (old more : _) → All (FunctionRule before) old → All (FunctionRule some) more → All (FunctionRule (before + some)) (old ++ map (moved path before) more)
list_kept path before some fits old more a b =
    All-append (FunctionRule (before + some)) old (map (moved path before) more)
    (All-weaker (FunctionRule before) (FunctionRule (before + some)) (grown before (before + some) (omega arith)) old a)
    (All-map (FunctionRule (before + some)) (moved path before) more (All-weaker (FunctionRule some) (λ f. FunctionRule (before + some) (moved path before f)) (moved_kept path before some fits) more b))

pub joined_keeps : (code : Code) (path : ℕ) (file : Code) → length code.anonymous + length file.anonymous < 2 ^ 64 → IsFilePart code → IsFilePart file → IsFilePart (joined code path file)
joined_keeps code path file fits a b =
    let before = length code.anonymous in
    let some = length file.anonymous in
    let all : length (code.anonymous ++ map (moved path before) file.anonymous) ≡ before + some =
    length-append code.anonymous (map (moved path before) file.anonymous) ∙ ap (λ n. before + n) (length-map file.anonymous (moved path before)) in
    let N : ℕ → Type 0 = λ n. All (FunctionRule n) (code.named ++ map (moved path before) file.named) in
    let A : ℕ → Type 0 = λ n. All (FunctionRule n) (code.anonymous ++ map (moved path before) file.anonymous) in
    record {
      named = subst N (sym all) (list_kept path before some fits code.named file.named a.named b.named);
      anonymous = subst A (sym all) (list_kept path before some fits code.anonymous file.anonymous a.anonymous b.anonymous);
    }
