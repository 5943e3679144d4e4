-- The code of a tree before its names stand in tables.
use Rattle.std.specs.Prelude.{ℕ, zero, suc, ◌+◌, Bool, true, false, if◌then◌else◌, List, [], ◌∷◌, ◌++◌, length, map, reverse, slice_get, Option, None, Some}
use Rattle.brs_tokens.specs.declared.place.Place.{Place}
use Rattle.brs_grammar.specs.declared.tree.TypeWord.{TypeWord}
use Rattle.brs_grammar.specs.Form as p
use Rattle.brs_grammar.specs.Form.{Text, Head, Form, Node, Forms, none, more, Params, unnamed, required, optional, Doing, Todo, finish, first}
use Rattle.brs_grammar.specs.Parts.{Tail, member, index, arguments, Step, Operand, Choice, Callee}
use Rattle.brs_forms.specs.Words.{readable, text_of, key_of, is_m}
use Rattle.brs_code.specs.declared.instr.Instr.{Instr}
use Rattle.brs_code.specs.declared.instr.Instr.TheVariants as i
use Rattle.brs_code.specs.declared.instr.Operator.TheVariants as op
use Rattle.code_drafts.specs.declared.draft.Draft.{Draft}
use Rattle.code_relation.specs.declared.exits.Exits.{Exits}
use Rattle.code_drafts.specs.declared.draft.Draft.TheVariants.{Plain, Slot, Word, Words, Marks, Function}
use Rattle.code_drafts.specs.declared.draft.DraftParameter.{DraftParameter}
use Rattle.code_relation.specs.Heads.{count, others, head_instr, name_instr, keep_instr, set_instr, return_instr, for_instr, mark_of, exit_instr, value_type, needed_of, update_operator}

-- Places are told by how many instructions stand between: a jump forward says how many it passes over, and one backward how many
-- instructions it goes back. An index into a table is 0.

-- ---- what an instruction names

abbrev pub name_draft : Text → (line : ℕ) → Draft
name_draft x line = if is_m x then Plain i.LoadM line else Slot (i.Load 0) line x

abbrev pub keep_draft : p.Aim → (line : ℕ) → Draft
keep_draft (p.ToName x) line = name_draft x line
keep_draft (p.ToMember x) line = Word (i.KeepMember 0) line (readable x)
keep_draft p.ToIndex line = Plain i.KeepIndex line

abbrev pub set_draft : p.Aim → (line : ℕ) → Draft
set_draft (p.ToName x) line = Slot (i.Store 0) line x
set_draft (p.ToMember x) line = Word (i.StoreMember 0) line (readable x)
set_draft p.ToIndex line = Plain i.StoreIndex line

-- ---- where an `exit` leads from inside

abbrev pub farther : ℕ → Exits → Exits
farther n x = record { for_to = x.for_to + n; for_keeps = x.for_keeps; while_to = x.while_to + n; while_keeps = x.while_keeps }

-- from the body of a loop that keeps n operands and ends with one instruction
abbrev pub inside_for : ℕ → Exits → Exits
inside_for n x = record { for_to = 1; for_keeps = n; while_to = x.while_to + 1; while_keeps = x.while_keeps + n }

abbrev pub inside_while : Exits → Exits
inside_while x = record { for_to = x.for_to + 1; for_keeps = x.for_keeps; while_to = 1; while_keeps = 0 }

abbrev pub no_loops : Exits
no_loops = record { for_to = 0; for_keeps = 0; while_to = 0; while_keeps = 0 }

-- ---- what the parts of a statement are put together to

abbrev pub if_code : (line : ℕ) → List Draft → List Draft → List Draft
if_code line a b = Plain (i.Branch (length a + 1)) line ∷ (a ++ Plain (i.Jump (length b)) 0 ∷ b)

abbrev pub while_code : (line : ℕ) → List Draft → List Draft → List Draft
while_code line test body =
    Plain i.While line ∷ (test ++ Plain (i.Branch (length body + 1)) line ∷ (body ++ Plain (i.Again (length test + 1 + length body)) line ∷ []))

abbrev pub for_code : (line k : ℕ) → Text → List Draft → List Draft
for_code line k x body =
    Slot (for_instr k 0) line x ∷ Slot (i.ForTest 0 (length body + 1)) line x ∷ (body ++ Slot (i.ForNext 0 (length body + 1)) line x ∷ [])

abbrev pub each_code : (line : ℕ) → Text → List Draft → List Draft
each_code line x body = Plain (i.ForEach (length body)) line ∷ (body ++ Slot (i.EachNext 0 (length body)) line x ∷ [])

-- an operand behind the test of `and` and `or`
abbrev pub tested : (ℕ → Instr) → (line : ℕ) → List Draft → List Draft
tested test line right = Plain (test (length right + 1)) line ∷ right

-- ---- the code of each form

abbrev mutual
  pub form_code : Form → List Draft
  form_code (Node p.And at fs) = tested_code i.AndTest at.line fs ++ Plain (i.Binary op.And) at.line ∷ []
  form_code (Node p.Or at fs) = tested_code i.OrTest at.line fs ++ Plain (i.Binary op.Or) at.line ∷ []
  form_code (Node h at fs) = forms_code fs ++ head_draft h at.line (count fs) ∷ []

  pub head_draft : Head → (line k : ℕ) → Draft
  head_draft (p.Quoted t) line k = Word (i.Text 0) line (text_of t)
  head_draft (p.Name x) line k = name_draft x line
  head_draft (p.Pairs keys) line k = Words (i.MakePairs 0 k) line (map key_of keys)
  head_draft (p.Member x) line k = Word (i.Member 0) line (readable x)
  head_draft (p.CallMember x) line k = Word (i.CallMember 0 (others k)) line (readable x)
  head_draft (p.Anonymous kind ps type body) line k =
      let rest = todo_code no_loops body ++ Plain i.End 0 ∷ [] in
      Function line (reverse (params_drafts 0 ps rest)) (needed_of ps) (value_type type) (length rest) (reverse (params_code 0 ps rest))
  head_draft h line k = Plain (head_instr h 0 k) line

  pub forms_code : Forms → List Draft
  forms_code none = []
  forms_code (more f fs) = form_code f ++ forms_code fs

  pub tested_code : (ℕ → Instr) → (line : ℕ) → Forms → List Draft
  tested_code test line none = []
  tested_code test line (more f fs) = form_code f ++ tests_code test line fs

  pub tests_code : (ℕ → Instr) → (line : ℕ) → Forms → List Draft
  tests_code test line none = []
  tests_code test line (more f fs) = tested test line (form_code f) ++ tests_code test line fs

  -- the defaults in order, each with what gives it to its parameter, in front of what follows
  pub params_code : ℕ → Params → List Draft → List Draft
  params_code n unnamed rest = rest
  params_code n (required at x type ps) rest = params_code (n + 1) ps rest
  params_code n (optional at x type e ps) rest = form_code e ++ Plain (i.Bind n) at.line ∷ params_code (n + 1) ps rest

  pub params_drafts : ℕ → Params → List Draft → List DraftParameter
  params_drafts n unnamed rest = []
  params_drafts n (required at x type ps) rest =
      record { name = x; kind = value_type type; after = length (params_code (n + 1) ps rest) } ∷ params_drafts (n + 1) ps rest
  params_drafts n (optional at x type e ps) rest =
      record { name = x; kind = value_type type; after = length (form_code e ++ Plain (i.Bind n) at.line ∷ params_code (n + 1) ps rest) } ∷ params_drafts (n + 1) ps rest

  -- the code of a statement behind its k operands
  pub doing_code : Exits → Doing → (line k : ℕ) → List Draft
  doing_code x (p.Set aim) line k = set_draft aim line ∷ []
  doing_code x (p.Update aim sign at e) line k =
      keep_draft aim line ∷ (form_code e ++ Plain (i.Binary (update_operator sign)) at.line ∷ set_draft aim line ∷ [])
  doing_code x p.Drop line k = Plain i.Drop line ∷ []
  doing_code x (p.Print marks) line k = Marks (i.Print 0 (length marks) k) line (map mark_of marks) ∷ []
  doing_code x p.Return line k = Plain (return_instr k) line ∷ []
  doing_code x (p.Exit kind) line k = Plain (exit_instr x kind) line ∷ []
  doing_code x (p.If a b) line k =
      if_code line (todo_code (farther (length (todo_code x b) + 1) x) a) (todo_code x b)
  doing_code x (p.While c body) line k = while_code line (form_code c) (todo_code (inside_while x) body)
  doing_code x (p.For at name body) line k = for_code line k name (todo_code (inside_for 2 x) body)
  doing_code x (p.ForEach at name body) line k = each_code line name (todo_code (inside_for 1 x) body)

  -- the code of statements, where an `exit` from behind them leads as x says
  pub todo_code : Exits → Todo → List Draft
  todo_code x finish = []
  todo_code x (first d at fs rest) =
      forms_code fs ++ (doing_code (farther (length (todo_code x rest)) x) d at.line (count fs) ++ todo_code x rest)

-- the code of a function: its line, and what is called
abbrev pub function_draft : (line : ℕ) → Callee → Draft
function_draft line c = head_draft (p.Anonymous p.FunctionKind c.params c.value c.body) line 0

abbrev pub step_code : Exits → Step → List Draft
step_code x s = forms_code s.operands ++ doing_code x s.doing s.place.line (count s.operands)

-- ---- lists

-- the code of each, one after another
abbrev pub flat : {A : Type 0} → (A → List Draft) → List A → List Draft
flat g [] = []
flat g (x ∷ xs) = g x ++ flat g xs

-- an operand of a chain with its operator
abbrev pub right_code : Head → Place → Form → List Draft
right_code p.And at right = tested i.AndTest at.line (form_code right) ++ Plain (i.Binary op.And) at.line ∷ []
right_code p.Or at right = tested i.OrTest at.line (form_code right) ++ Plain (i.Binary op.Or) at.line ∷ []
right_code h at right = form_code right ++ head_draft h at.line 2 ∷ []

abbrev pub operand_code : Operand → List Draft
operand_code y = right_code y.head y.place y.right

-- ---- what stands behind a value

abbrev pub calls_one : Tail → Bool
calls_one (arguments at es) = true
calls_one t = false

abbrev pub calls : List Tail → Bool
calls [] = false
calls (t ∷ ts) = calls_one t

-- the name of a member as a text
abbrev pub member_name : Tail → Option Text
member_name (member at x) = Some (readable x)
member_name t = None

abbrev pub call_draft : Option Text → (line n : ℕ) → Draft
call_draft None line n = Plain (i.Call n) line
call_draft (Some name) line n = Word (i.CallMember 0 n) line name

-- behind a member or not, and before arguments or not: a member that arguments follow directly is called
abbrev pub tail_code : Option Text → Tail → Bool → List Draft
tail_code before (member at x) true = []
tail_code before (member at x) false = Word (i.Member 0) at.line (readable x) ∷ []
tail_code before (index at e) called = form_code e ++ Plain i.Index at.line ∷ []
tail_code before (arguments at es) called = forms_code es ++ call_draft before at.line (count es) ∷ []

abbrev pub tails_code : Option Text → List Tail → List Draft
tails_code before [] = []
tails_code before (t ∷ ts) = tail_code before t (calls ts) ++ tails_code (member_name t) ts

-- the member before place k
abbrev pub name_before : List Tail → ℕ → Option Text
name_before ts zero = None
name_before ts (suc k) = elim (slice_get ts k) [ None ↦ None | Some t ↦ member_name t ]
