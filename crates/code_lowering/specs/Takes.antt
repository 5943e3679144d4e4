-- Forms whose heads and statements have as many operands as they take.
use Rattle.std.specs.Prelude.{◌≡◌, ℕ, ◌+◌, List, length, map, count_by}
use Rattle.brs_grammar.specs.Form as g
use Rattle.brs_grammar.specs.Form.{Head, Form, Node, Forms, none, more, Params, unnamed, required, optional, Doing, Todo, finish, first}
use Rattle.brs_grammar.specs.View.{Callee}
use Rattle.brs_code.specs.declared.code.Code.{Code}
use Rattle.brs_code.specs.Instruction.{pops}
use Rattle.brs_code.specs.Rule.{is_value}
use Rattle.code_drafts.specs.declared.draft.Draft.{Draft}
use Rattle.code_drafts.specs.DraftCode.{function_draft}
use Rattle.code_relation.specs.Heads.{count, head_instr, keep_instr, set_instr, return_instr, for_instr, mark_of}
use Rattle.code_relation.specs.Standing.{FunctionForm, FunctionsAt}

abbrev mutual
  pub FormTakes : Form → Type 0
  FormTakes (Node h at xs) = ((n : ℕ) → pops (head_instr h n (count xs)) ≡ count xs) × HeadTakes h (count xs) × FormsTake xs

  -- with k operands
  pub HeadTakes : Head → (k : ℕ) → Type 0
  HeadTakes (g.Pairs keys) k = length keys ≡ k
  HeadTakes (g.Anonymous kind ps type body) k = ParamsTake ps × TodoTakes body
  HeadTakes h k = Unit {0}

  pub FormsTake : Forms → Type 0
  FormsTake none = Unit {0}
  FormsTake (more x xs) = FormTakes x × FormsTake xs

  pub ParamsTake : Params → Type 0
  ParamsTake unnamed = Unit {0}
  ParamsTake (required at x type ps) = ParamsTake ps
  ParamsTake (optional at x type e ps) = FormTakes e × ParamsTake ps

  -- with k operands
  pub DoingTakes : Doing → (k : ℕ) → Type 0
  DoingTakes (g.Set aim) k = (n : ℕ) → pops (set_instr aim n) ≡ k
  DoingTakes (g.Update aim sign at e) k = ((n : ℕ) → pops (keep_instr aim n) ≡ k) × ((n : ℕ) → pops (set_instr aim n) ≡ k + 1) × FormTakes e
  DoingTakes g.Drop k = 1 ≡ k
  DoingTakes (g.Print marks) k = count_by is_value (map mark_of marks) ≡ k
  DoingTakes g.Return k = pops (return_instr k) ≡ k
  DoingTakes (g.Exit kind) k = k ≡ 0
  DoingTakes (g.If a b) k = (k ≡ 1) × TodoTakes a × TodoTakes b
  DoingTakes (g.While c body) k = (0 ≡ k) × FormTakes c × TodoTakes body
  DoingTakes (g.For at name body) k = ((n : ℕ) → pops (for_instr k n) ≡ k) × TodoTakes body
  DoingTakes (g.ForEach at name body) k = (1 ≡ k) × TodoTakes body

  pub TodoTakes : Todo → Type 0
  TodoTakes finish = Unit {0}
  TodoTakes (first d at xs rest) = FormsTake xs × DoingTakes d (count xs) × TodoTakes rest

abbrev pub CalleeTakes : Callee → Type 0
CalleeTakes c = ParamsTake c.params × TodoTakes c.body

abbrev pub FunctionTakes : FunctionForm → Type 0
FunctionTakes x = CalleeTakes x.callee

-- ---- functions

-- the draft of a function of the tree
abbrev pub form_draft : FunctionForm → Draft
form_draft x = function_draft x.line x.callee

-- The code stands to these functions in their order, and somewhere to each anonymous function that they name.
pub record StandsTo (code : Code) (forms : List FunctionForm) : Type 0 where
  pub functions : List FunctionForm
  pub named : FunctionsAt functions code.named forms
  pub anonymous : FunctionsAt functions code.anonymous functions
