-- How the code of a function stands to its forms: one case for each form. Where forms stand one after another there is a place between
-- them, and nothing is said of lengths. A form has the counted instructions that are its steps, in their order.
use Rattle.std.specs.Prelude.{◌≡◌, Bool, false, ℕ, zero, suc, ◌+◌, List, [], ◌∷◌, length, map, take, drop, slice_get, Option, None, Some}
use Rattle.brs_tokens.specs.declared.place.Place.{Place}
use Rattle.brs_grammar.specs.declared.tree.LoopKind.{LoopKind}
use Rattle.brs_grammar.specs.declared.tree.TypeWord.{TypeWord}
use Rattle.brs_grammar.specs.Form as g
use Rattle.brs_grammar.specs.Form.{Text, Head, Form, Node, Forms, none, more, Params, unnamed, required, optional, Doing, Todo, finish, first}
use Rattle.brs_grammar.specs.declared.tree.FileTree.{FileTree}
use Rattle.brs_grammar.specs.declared.tree.NamedFunction.{NamedFunction}
use Rattle.brs_grammar.specs.View.{Callee, named_of}
use Rattle.brs_code.specs.declared.code.Code.{Code}
use Rattle.brs_forms.specs.Words.{readable, text_of, key_of, is_m}
use Rattle.brs_code.specs.declared.instr.Instr.{Instr}
use Rattle.brs_code.specs.declared.instr.Instr.TheVariants as i
use Rattle.brs_code.specs.declared.instr.Operator.TheVariants as op
use Rattle.brs_code.specs.declared.function.Function.{Function}
use Rattle.brs_code.specs.declared.function.Parameter.{Parameter}
use Rattle.brs_code.specs.Instruction.{pops}
use Rattle.code_relation.specs.declared.exits.Exits.{Exits}
use Rattle.code_relation.specs.Heads.{count, head_instr, keep_instr, set_instr, return_instr, for_instr, mark_of, exit_instr, update_operator, value_type, needed_of}

-- a function of the tree: the line of its first word, and what is called
pub record FunctionForm : Type 0 where
  pub line : ℕ
  pub callee : Callee

-- ---- one instruction

-- this instruction stands there, with this line
abbrev pub Has : Function → ℕ → Instr → ℕ → Type 0
Has f p i line = (operands : ℕ) × (slice_get f.code p ≡ Some (record { instr = i; line = line; operands = operands }))

-- an instruction with k operands, and the place behind it
pub record InstrAt (f : Function) (p : ℕ) (instr : Instr) (line k q : ℕ) : Type 0 where
  pub has : Has f p instr line
  pub takes : pops instr ≡ k
  pub next : p + 1 ≡ q

-- What a head names stands at n in its table. The anonymous functions of the file are listed beside.
abbrev pub Names : Function → List FunctionForm → Head → (line n : ℕ) → Type 0
Names f fs (g.Quoted t) line n = slice_get f.texts n ≡ Some (text_of t)
Names f fs (g.Name x) line n = is_m x ≡ false → slice_get f.names n ≡ Some x
Names f fs (g.Pairs keys) line n = take (length keys) (drop n f.texts) ≡ map key_of keys
Names f fs (g.Member x) line n = slice_get f.texts n ≡ Some (readable x)
Names f fs (g.CallMember x) line n = slice_get f.texts n ≡ Some (readable x)
Names f fs (g.Anonymous kind ps type body) line n = slice_get fs n ≡ Some (record { line = line; callee = record { params = ps; value = type; body = body } })
Names f fs h line n = Unit {0}

-- the instruction of an expression's head
pub record HeadAt (f : Function) (fs : List FunctionForm) (p : ℕ) (h : Head) (line k q : ℕ) : Type 0 where
  pub index : ℕ
  pub names : Names f fs h line index
  pub instr : InstrAt f p (head_instr h index k) line k q

-- What stands between two operands of a form that ends at e: nothing, but for the test of a head that its first operand may decide. A test
-- is one step where it decides, and leads to the end of the form. Else it is free.
abbrev pub BetweenAt : Function → ℕ → Head → (line e n : ℕ) → Type 0
BetweenAt f p g.And line e n = InstrAt f p (i.AndTest e) line 1 n
BetweenAt f p g.Or line e n = InstrAt f p (i.OrTest e) line 1 n
BetweenAt f p _ line e n = p ≡ n

-- ---- expressions

module _ (f : Function) (fs : List FunctionForm) where
  -- from p to q the code gives the form's value
  abbrev mutual
    pub FormAt : ℕ → Form → ℕ → Type 0
    FormAt p (Node h at xs) q = (r : ℕ) × OperandsAt p h at.line xs q r × HeadAt f fs r h at.line (count xs) q

    -- the operands of a head whose form ends at e
    pub OperandsAt : ℕ → Head → (line : ℕ) → Forms → (e q : ℕ) → Type 0
    OperandsAt p h line none e q = p ≡ q
    OperandsAt p h line (more x xs) e q = (r : ℕ) × FormAt p x r × OthersAt r h line xs e q

    -- those after an operand
    pub OthersAt : ℕ → Head → (line : ℕ) → Forms → (e q : ℕ) → Type 0
    OthersAt p h line none e q = p ≡ q
    OthersAt p h line (more x xs) e q = (n : ℕ) × BetweenAt f p h line e n × (r : ℕ) × FormAt n x r × OthersAt r h line xs e q

  -- the operands of a statement
  abbrev pub FormsAt : ℕ → Forms → ℕ → Type 0
  FormsAt p none q = p ≡ q
  FormsAt p (more x xs) q = (r : ℕ) × FormAt p x r × FormsAt r xs q

-- ---- targets

-- what an aim names stands at n in its table
abbrev pub Aims : Function → g.Aim → (n : ℕ) → Type 0
Aims f (g.ToName x) n = slice_get f.names n ≡ Some x
Aims f (g.ToMember x) n = slice_get f.texts n ≡ Some (readable x)
Aims f g.ToIndex n = Unit {0}

-- sets the target to the last of k operands
pub record SetAt (f : Function) (p : ℕ) (aim : g.Aim) (line k q : ℕ) : Type 0 where
  pub index : ℕ
  pub aims : Aims f aim index
  pub instr : InstrAt f p (set_instr aim index) line k q

-- reads the target, and keeps its k operands below the value
pub record KeepAt (f : Function) (p : ℕ) (aim : g.Aim) (line k q : ℕ) : Type 0 where
  pub index : ℕ
  pub aims : Aims f aim index
  pub instr : InstrAt f p (keep_instr aim index) line k q

-- ---- statements

-- round the body of a loop that keeps n operands and ends at this place
abbrev pub inside_for : (n end : ℕ) → Exits → Exits
inside_for n end x = record { for_to = end; for_keeps = n; while_to = x.while_to; while_keeps = x.while_keeps + n }

abbrev pub inside_while : (end : ℕ) → Exits → Exits
inside_while end x = record { for_to = x.for_to; for_keeps = x.for_keeps; while_to = end; while_keeps = 0 }

-- outside of loops, in a body that ends at this place
abbrev pub no_loops : (end : ℕ) → Exits
no_loops end = record { for_to = end; for_keeps = 0; while_to = end; while_keeps = 0 }

-- the marks stand at n in their table
abbrev pub MarksAt : Function → (n : ℕ) → List g.Mark → Type 0
MarksAt f n marks = take (length marks) (drop n f.marks) ≡ map mark_of marks

module _ (f : Function) (fs : List FunctionForm) where
  -- from p to q the code does the statement, after its k operands
  abbrev mutual
    pub DoingAt : Exits → ℕ → Doing → (line k q : ℕ) → Type 0
    DoingAt x p (g.Set aim) line k q = SetAt f p aim line k q
    DoingAt x p (g.Update aim sign at e) line k q =
        (r : ℕ) × KeepAt f p aim line k r × (m : ℕ) × FormAt f fs r e m × (n : ℕ) × InstrAt f m (i.Binary (update_operator sign)) at.line 2 n × SetAt f n aim line (k + 1) q
    DoingAt x p g.Drop line k q = InstrAt f p i.Drop line k q
    DoingAt x p (g.Print marks) line k q = (n : ℕ) × MarksAt f n marks × InstrAt f p (i.Print n (length marks) k) line k q
    DoingAt x p g.Return line k q = InstrAt f p (return_instr k) line k q
    DoingAt x p (g.Exit kind) line k q = (k ≡ 0) × Has f p (exit_instr x kind) line × (p + 1 ≡ q)
    DoingAt x p (g.If a b) line k q =
        (k ≡ 1) × (m : ℕ) × Has f p (i.Branch (m + 1)) line × BlockAt x (p + 1) a m × Has f m (i.Jump q) 0 × BlockAt x (m + 1) b q
    DoingAt x p (g.While c body) line k q =
        (s : ℕ) × InstrAt f p i.While line k s × (m : ℕ) × FormAt f fs s c m × Has f m (i.Branch q) line × (e : ℕ) × BlockAt (inside_while q x) (m + 1) body e × InstrAt f e (i.Again s) line 0 q
    DoingAt x p (g.For at name body) line k q =
        (n : ℕ) × (slice_get f.names n ≡ Some name) × (s : ℕ) × InstrAt f p (for_instr k n) line k s × Has f s (i.ForTest n q) line × (e : ℕ) × BlockAt (inside_for 2 q x) (s + 1) body e × InstrAt f e (i.ForNext n s) line 2 q
    DoingAt x p (g.ForEach at name body) line k q =
        (n : ℕ) × (slice_get f.names n ≡ Some name) × (e : ℕ) × (s : ℕ) × InstrAt f p (i.ForEach e) line k s × BlockAt (inside_for 1 q x) s body e × InstrAt f e (i.EachNext n s) line 1 q

    -- from p to q the code does these statements
    pub BlockAt : Exits → ℕ → Todo → ℕ → Type 0
    BlockAt x p finish q = p ≡ q
    BlockAt x p (first d at xs rest) q =
        (m : ℕ) × FormsAt f fs p xs m × (n : ℕ) × DoingAt x m d at.line (count xs) n × BlockAt x n rest q

  -- The parameters from this one on, and the code of their defaults from p to q. A call goes on at an entry where its parameter is the first
  -- without an argument.
  abbrev pub ParametersAt : (number p : ℕ) → List Parameter → Params → ℕ → Type 0
  ParametersAt number p [] unnamed q = p ≡ q
  ParametersAt number p (x ∷ xs) (required at name type ps) q =
      (x.entry ≡ p) × (x.kind ≡ value_type type) × (slice_get f.names x.slot ≡ Some name) × ParametersAt (number + 1) p xs ps q
  ParametersAt number p (x ∷ xs) (optional at name type e ps) q =
      (x.entry ≡ p) × (x.kind ≡ value_type type) × (slice_get f.names x.slot ≡ Some name) × (r : ℕ) × FormAt f fs p e r × (s : ℕ) × InstrAt f r (i.Bind number) at.line 1 s × ParametersAt (number + 1) s xs ps q
  ParametersAt number p _ _ q = ⊥

-- ---- functions and files

-- no two slots have one name
abbrev pub AreDistinct : List Text → Type 0
AreDistinct names = (a b : ℕ) (x : Text) → slice_get names a ≡ Some x → slice_get names b ≡ Some x → a ≡ b

pub record FunctionAt (fs : List FunctionForm) (f : Function) (form : FunctionForm) : Type 0 where
  pub line : f.line ≡ form.line
  pub value : f.value ≡ value_type form.callee.value
  pub needed : f.needed ≡ needed_of form.callee.params
  pub names : AreDistinct f.names
  pub entry : ℕ
  pub parameters : ParametersAt f fs 0 entry f.parameters form.callee.params f.start
  pub end : ℕ
  pub body : BlockAt f fs (no_loops end) f.start form.callee.body end
  pub leaves : Has f end i.End 0

-- each function in turn
abbrev pub FunctionsAt : List FunctionForm → List Function → List FunctionForm → Type 0
FunctionsAt fs [] [] = Unit {0}
FunctionsAt fs (c ∷ cs) (x ∷ xs) = FunctionAt fs c x × FunctionsAt fs cs xs
FunctionsAt fs _ _ = ⊥

-- a named function as a form
abbrev pub named_form : NamedFunction → FunctionForm
named_form x = let n = named_of x in record { line = n.place.line; callee = n.callee }

-- The code of a file stands to its tree: its named functions in their order, and somewhere each anonymous function that they name.
pub record CodeAt (code : Code) (tree : FileTree) : Type 0 where
  pub functions : List FunctionForm
  pub named : FunctionsAt functions code.named (map named_form tree.functions)
  pub anonymous : FunctionsAt functions code.anonymous functions
