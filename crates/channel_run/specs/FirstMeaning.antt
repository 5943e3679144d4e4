-- What one Main of assignments, sums and prints means: the steps of its actor, over a syntax tree in which parts may be values.
-- Each step replaces one form, the leftmost innermost of those whose operands are all values, or ends the body.
use Rattle.std.specs.Prelude.{ℕ, ℤ, pos, negsuc, List, [], ◌∷◌, ◌++◌, map, fold, flat_map, codes, Option, Some, None, if◌then◌else◌}
use Rattle.std.specs.Option.{option_map, option_map_or}
use Rattle.std.specs.Fmt.{decimal, signed_decimal}
use Rattle.std.specs.Int.{w32, int_wrapping_add, int_wrapping_sub}
use Rattle.std.specs.Str.{bytes_eq}
use Rattle.first_form.specs.declared.tree.FirstMain.{FirstMain}
use Rattle.first_form.specs.declared.tree.Line.{Line}
use Rattle.first_form.specs.declared.tree.Line.TheVariants as line
use Rattle.first_form.specs.declared.tree.PrintItem.{PrintItem}
use Rattle.first_form.specs.declared.tree.PrintItem.TheVariants as item
use Rattle.first_form.specs.declared.tree.Operand.{Operand}
use Rattle.first_form.specs.declared.tree.Operand.TheVariants as operand
use Rattle.first_form.specs.declared.tree.Sum.{Sum}
use Rattle.first_form.specs.declared.tree.Sign.{Sign}
use Rattle.first_form.specs.declared.tree.Sign.TheVariants.{Plus, Minus}
use Rattle.trace_report.specs.TraceText.{print_line, ended_line}

-- a whole number of 32 bits, or a text
pub data Value : Type 0 where
  Integer : ℤ → Value
  String : List ℕ → Value

-- an expression, in which a part that was replaced is a held value
pub data Form : Type 0 where
  Held : Value → Form
  Number : ℤ → Form
  Words : List ℕ → Form
  Name : List ℕ → Form
  Operator : Sign → Form → Form → Form

pub data Statement : Type 0 where
  Assign : List ℕ → Form → Statement
  Print : List Form → Statement

-- ---- the tree of a source file

abbrev pub operand_form : Operand → Form
operand_form (operand.Number n) = Number n
operand_form (operand.Name name) = Name name

-- `a - b + c` is `(a - b) + c`
abbrev pub sum_form : Sum → Form
sum_form sum =
    fold (λ left term. Operator term.sign left (operand_form term.operand)) (operand_form sum.first) sum.more

abbrev pub item_form : PrintItem → Form
item_form (item.Words words) = Words words
item_form (item.Sum sum) = sum_form sum

abbrev pub line_statement : Line → Statement
line_statement (line.Assign name sum) = Assign name (sum_form sum)
line_statement (line.Print items) = Print (map item_form items)

-- ---- one step of a form

-- the values that were assigned, by the folded names of the locals, the newest first
abbrev pub Locals : Type 0
Locals = List (List ℕ × Value)

abbrev pub value_of : Locals → List ℕ → Option Value
value_of [] name = None
value_of (local ∷ locals) name = if bytes_eq local.0 name then Some local.1 else value_of locals name

-- numbers wrap round at 32 bits
abbrev pub signed_sum : Sign → ℤ → ℤ → ℤ
signed_sum Plus x y = int_wrapping_add w32 x y
signed_sum Minus x y = int_wrapping_sub w32 x y

-- what an operator gives
abbrev pub applied : Sign → Value → Value → Option Value
applied sign (Integer x) (Integer y) = Some (Integer (signed_sum sign x y))
applied sign (Integer x) (String t) = None
applied sign (String s) y = None

-- the leftmost innermost form whose operands are all values is replaced by its value
abbrev pub form_step : Locals → Form → Option Form
form_step locals (Held v) = None
form_step locals (Number n) = Some (Held (Integer n))
form_step locals (Words words) = Some (Held (String words))
form_step locals (Name name) = option_map Held (value_of locals name)
form_step locals (Operator sign (Held x) (Held y)) = option_map Held (applied sign x y)
form_step locals (Operator sign (Held x) b) = option_map (λ after. Operator sign (Held x) after) (form_step locals b)
form_step locals (Operator sign a b) = option_map (λ after. Operator sign after b) (form_step locals a)

-- the same in the first of some forms that isn't a value
abbrev pub forms_step : Locals → List Form → Option (List Form)
forms_step locals [] = None
forms_step locals (Held v ∷ forms) = option_map (λ after. Held v ∷ after) (forms_step locals forms)
forms_step locals (form ∷ forms) = option_map (λ after. after ∷ forms) (form_step locals form)

-- the values that the forms hold, where each of them is one
abbrev pub held_values : List Form → Option (List Value)
held_values [] = Some []
held_values (Held v ∷ forms) = option_map (λ values. v ∷ values) (held_values forms)
held_values (form ∷ forms) = None

-- ---- one step of the actor

-- what is left of the body, with the locals, until the body has ended
pub data Actor : Type 0 where
  Running : List Statement → Locals → Actor
  Ended : Actor

-- a text as it is, a number in decimal with a space before it where it isn't negative
abbrev pub shown : Value → List ℕ
shown (Integer (pos n)) = 32 ∷ decimal n
shown (Integer (negsuc n)) = signed_decimal (negsuc n)
shown (String words) = words

-- what a print of these values adds to the trace
abbrev pub printed : List Value → List ℕ
printed values = print_line 1 (flat_map shown values)

-- a step of the first statement, with what it adds to the trace
abbrev pub statement_step : Locals → Statement → List Statement → Option (Actor × List ℕ)
statement_step locals (Assign name (Held v)) rest = Some (Running rest ((name, v) ∷ locals), [])
statement_step locals (Assign name form) rest =
    option_map (λ after. (Running (Assign name after ∷ rest) locals, [])) (form_step locals form)
statement_step locals (Print items) rest =
    option_map_or
    (λ values. Some (Running rest locals, printed values))
    (held_values items)
    (option_map (λ after. (Running (Print after ∷ rest) locals, [])) (forms_step locals items))

-- the one step that the actor has, with what it adds to the trace; none where it has ended
abbrev pub actor_step : Actor → Option (Actor × List ℕ)
actor_step (Running [] locals) = Some (Ended, ended_line 1)
actor_step (Running (statement ∷ rest) locals) = statement_step locals statement rest
actor_step Ended = None

-- the actor of Main, before its first step
abbrev pub opening_actor : FirstMain → Actor
opening_actor main = Running (map line_statement main.lines) []
