-- The code of several files as one.
use Rattle.std.specs.Prelude.{ℕ, ◌+◌, min, ◌++◌, length, map}
use Rattle.brs_code.specs.declared.code.Code.{Code}
use Rattle.brs_code.specs.declared.function.Function.{Function}

-- a function of the file of this path, behind so many anonymous functions of other files; a number past the largest one stays
-- the largest one, which no function of valid code has
abbrev pub moved : ℕ → ℕ → Function → Function
moved path before f = record f { path = path; first = min (before + f.first) 0xffff_ffff_ffff_ffff }

-- the functions of the file stand behind those that were there, and the scopes stay
abbrev pub joined : Code → ℕ → Code → Code
joined code path file = record {
  named = code.named ++ map (moved path (length code.anonymous)) file.named;
  anonymous = code.anonymous ++ map (moved path (length code.anonymous)) file.anonymous;
  scopes = code.scopes;
}

-- how many functions there are, with and without a name
abbrev pub function_count : Code → ℕ
function_count code = length code.named + length code.anonymous
