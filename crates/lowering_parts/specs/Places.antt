-- Instructions whose jumps count instructions and whose names are 0, as instructions at a place whose names stand in tables.
use Rattle.std.specs.Prelude.{ℕ, ◌+◌, ◌-◌}
use Rattle.brs_code.specs.declared.instr.Instr.{Instr}
use Rattle.brs_code.specs.declared.instr.Instr.TheVariants as i

-- The place to which a jump leads. One forward says how many instructions it passes over, and one backward how many it goes back.
abbrev pub ahead : (at passes : ℕ) → ℕ
ahead at passes = at + 1 + passes

abbrev pub back : (at by : ℕ) → ℕ
back at by = at - by

-- the instruction at this place
abbrev pub at_place : ℕ → Instr → Instr
at_place at (i.AndTest n) = i.AndTest (ahead at n)
at_place at (i.OrTest n) = i.OrTest (ahead at n)
at_place at (i.Branch n) = i.Branch (ahead at n)
at_place at (i.Jump n) = i.Jump (ahead at n)
at_place at (i.Again n) = i.Again (back at n)
at_place at (i.ForTest slot n) = i.ForTest slot (ahead at n)
at_place at (i.ForNext slot n) = i.ForNext slot (back at n)
at_place at (i.ForEach n) = i.ForEach (ahead at n)
at_place at (i.EachNext slot n) = i.EachNext slot (back at n)
at_place at (i.Exit keeps n) = i.Exit keeps (ahead at n)
at_place at x = x

-- what it names stands at n in its table
abbrev pub with_index : ℕ → Instr → Instr
with_index n (i.Text text) = i.Text n
with_index n (i.Load slot) = i.Load n
with_index n (i.Function number) = i.Function n
with_index n (i.MakePairs key count) = i.MakePairs n count
with_index n (i.Member name) = i.Member n
with_index n (i.CallMember name count) = i.CallMember n count
with_index n (i.Store slot) = i.Store n
with_index n (i.StoreMember name) = i.StoreMember n
with_index n (i.KeepMember name) = i.KeepMember n
with_index n (i.Print mark marks values) = i.Print n marks values
with_index n (i.For slot) = i.For n
with_index n (i.ForStep slot) = i.ForStep n
with_index n (i.ForTest slot to) = i.ForTest n to
with_index n (i.ForNext slot to) = i.ForNext n to
with_index n (i.EachNext slot to) = i.EachNext n to
with_index n x = x
