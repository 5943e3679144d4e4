-- The numbers of the run-time errors.
use Rattle.std.specs.Prelude.{ℕ}
use Rattle.chan_values.specs.declared.error_code.ErrorCode.{ErrorCode}
use Rattle.chan_values.specs.declared.error_code.ErrorCode.TheVariants.{E1, E2, E3, E4, E5, E6, E7, E8, E9, E10, E11, E12}

abbrev pub error_number : ErrorCode → ℕ
error_number E1 = 1
error_number E2 = 2
error_number E3 = 3
error_number E4 = 4
error_number E5 = 5
error_number E6 = 6
error_number E7 = 7
error_number E8 = 8
error_number E9 = 9
error_number E10 = 10
error_number E11 = 11
error_number E12 = 12
