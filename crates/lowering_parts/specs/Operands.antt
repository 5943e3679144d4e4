-- How many operands stand where an instruction begins, from those of the one before it.
use Rattle.std.specs.Prelude.{ℕ, ◌+◌, ◌-◌, None, Some}
use Rattle.brs_code.specs.declared.instr.Instr.{Instr}
use Rattle.brs_code.specs.declared.instr.Instr.TheVariants as i
use Rattle.brs_code.specs.Instruction.{pops, goes_on}

-- Behind an instruction that doesn't go on, as many as below its statement: what is returned and what a `for` keeps are gone.
abbrev pub after_leaving : Instr → ℕ → ℕ
after_leaving i.Return operands = operands - 1
after_leaving (i.ForNext slot to) operands = operands - 2
after_leaving x operands = operands

-- behind an instruction that begins with so many
abbrev pub after : Instr → ℕ → ℕ
after x operands = elim (goes_on x) [ Some leaves ↦ operands - pops x + leaves | None ↦ after_leaving x operands ]
