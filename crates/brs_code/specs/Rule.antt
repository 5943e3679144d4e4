-- The rule of valid code.
use Rattle.std.specs.Prelude.{◌≡◌, ℕ, ◌+◌, ◌-◌, ◌<◌, ◌≤◌, Bool, true, false, List, length, take, drop, count_by, All, IfSome, IsSomeAnd, slice_get}
use Rattle.chan_values.specs.declared.place.Place.{Place}
use Rattle.brs_code.specs.declared.code.Code.{Code}
use Rattle.brs_code.specs.declared.function.Function.{Function}
use Rattle.brs_code.specs.declared.function.Mark.{Mark}
use Rattle.brs_code.specs.declared.function.Mark.TheVariants.{Semicolon, Comma, Value}
use Rattle.brs_code.specs.declared.function.Parameter.{Parameter}
use Rattle.brs_code.specs.declared.instr.Instr.{Instr}
use Rattle.brs_code.specs.declared.instr.Instr.TheVariants as i
use Rattle.brs_code.specs.declared.instr.Placed.{Placed}
use Rattle.brs_code.specs.declared.scope.ScopeEntry.{ScopeEntry}
use Rattle.brs_code.specs.Instruction.{pops, goes_on, turn, is_free_turn}

-- ---- one instruction

-- at this place stands an instruction that begins with so many operands
abbrev pub LeadsTo : List Placed → ℕ → ℕ → Type 0
LeadsTo code to operands = IsSomeAnd (slice_get code to) (λ next. next.operands ≡ operands)

abbrev pub is_value : Mark → Bool
is_value Value = true
is_value Semicolon = false
is_value Comma = false

-- so many marks from the first one on are there, and so many of them stand for a value
abbrev pub HasMarks : List Mark → ℕ → ℕ → ℕ → Type 0
HasMarks all first count values = (first + count ≤ length all) × (count_by is_value (take count (drop first all)) ≡ values)

-- each slot, text, mark, function and parameter that an instruction names is there; the file has so many anonymous functions
abbrev pub NamesExist : Function → ℕ → Instr → Type 0
NamesExist f anonymous (i.Text text) = text < length f.texts
NamesExist f anonymous (i.Member name) = name < length f.texts
NamesExist f anonymous (i.CallMember name count) = name < length f.texts
NamesExist f anonymous (i.StoreMember name) = name < length f.texts
NamesExist f anonymous (i.KeepMember name) = name < length f.texts
NamesExist f anonymous (i.MakePairs key count) = key + count ≤ length f.texts
NamesExist f anonymous (i.Load slot) = slot < length f.names
NamesExist f anonymous (i.Store slot) = slot < length f.names
NamesExist f anonymous (i.For slot) = slot < length f.names
NamesExist f anonymous (i.ForStep slot) = slot < length f.names
NamesExist f anonymous (i.ForTest slot to) = slot < length f.names
NamesExist f anonymous (i.ForNext slot to) = slot < length f.names
NamesExist f anonymous (i.EachNext slot to) = slot < length f.names
NamesExist f anonymous (i.Print mark marks values) = HasMarks f.marks mark marks values
NamesExist f anonymous (i.Function number) = f.first + number < anonymous
NamesExist f anonymous (i.Bind number) = number < length f.parameters
NamesExist f anonymous _ = Unit {0}

-- the instruction at a place of its function
pub record InstructionRule (f : Function) (anonymous at : ℕ) (x : Placed) : Type 0 where
  -- it takes no more operands than there are
  pub takes : pops x.instr ≤ x.operands
  -- where it goes on there is a next instruction, with the operands that are left, so only a return leaves the function
  pub next : IfSome (goes_on x.instr) (λ leaves. LeadsTo f.code (at + 1) (x.operands - pops x.instr + leaves))
  -- where it turns there is an instruction, with the operands that are left
  pub turns : IfSome (turn x.instr) (λ t. LeadsTo f.code t.to (x.operands - pops x.instr + t.leaves))
  -- a turn that takes no step leads forward
  pub forward : is_free_turn x.instr ≡ true → IfSome (turn x.instr) (λ t. at < t.to)
  pub names : NamesExist f anonymous x.instr

-- ---- one function

-- a call begins with no operands
pub record ParameterRule (f : Function) (x : Parameter) : Type 0 where
  pub slot : x.slot < length f.names
  pub entry : LeadsTo f.code x.entry 0

pub record FunctionRule (anonymous : ℕ) (f : Function) : Type 0 where
  pub first : f.first ≤ anonymous
  pub start : LeadsTo f.code f.start 0
  pub parameters : All (ParameterRule f) f.parameters
  pub instructions : (at : ℕ) → IfSome (slice_get f.code at) (InstructionRule f anonymous at)

-- ---- the code of a channel

pub record IsFilePart (code : Code) : Type 0 where
  pub named : All (FunctionRule (length code.anonymous)) code.named
  pub anonymous : All (FunctionRule (length code.anonymous)) code.anonymous

-- scope 0 is there, and each function that a scope names
pub record IsWholePart (code : Code) : Type 0 where
  pub source : 0 < length code.scopes
  pub functions : All (λ scope. All (λ (entry : ScopeEntry). entry.function < length code.named) scope) code.scopes

pub record IsValid (code : Code) : Type 0 where
  pub file : IsFilePart code
  pub whole : IsWholePart code

-- the place of a function's heading: its first word
abbrev pub heading_of : Function → Place
heading_of f = record { path = f.path; line = f.line }
