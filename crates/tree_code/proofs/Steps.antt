-- The code of each statement, from that of its parts.
use Rattle.std.proofs.Common.{◌≡◌, ℕ, ◌+◌, List, [], ◌∷◌, ◌++◌, Option, None, Some, length, map, take, refl, sym, ap, ◌∙◌, append_assoc, arith}
use lib.Chars.{codes}
use Rattle.std.proofs.lemmas.List.{append-nil, length-map}
use Rattle.chan_values.specs.Folded.{folded}
use Rattle.brs_tokens.specs.declared.place.Place.{Place}
use Rattle.brs_grammar.specs.declared.tree.BlockArm.{BlockArm, out-BlockArm}
use Rattle.brs_grammar.specs.declared.tree.CountSign.{CountSign}
use Rattle.brs_grammar.specs.declared.tree.Expression.{Expression}
use Rattle.brs_grammar.specs.declared.tree.LineArm.{LineArm, out-LineArm}
use Rattle.brs_grammar.specs.declared.tree.LoopKind.{LoopKind}
use Rattle.brs_grammar.specs.declared.tree.Name.{Name}
use Rattle.brs_grammar.specs.declared.tree.PrintItem.{PrintItem}
use Rattle.brs_grammar.specs.declared.tree.PrintItem.TheVariants as printed
use Rattle.brs_grammar.specs.declared.tree.Simple.{Simple}
use Rattle.brs_grammar.specs.declared.tree.Simple.TheVariants as simple
use Rattle.brs_grammar.specs.declared.tree.Statement.{Statement}
use Rattle.brs_grammar.specs.declared.tree.Statement.TheVariants as statement
use Rattle.brs_grammar.specs.declared.tree.Target.{Target, out-Target}
use Rattle.brs_grammar.specs.declared.tree.UpdateSign.{UpdateSign}
use Rattle.brs_grammar.specs.Form as p
use Rattle.brs_grammar.specs.Form.{Form, Forms, more, none, Todo, finish}
use Rattle.brs_grammar.specs.View.{Aim, Choice, Printed, called, semicolon, comma, value, mark, shown, join, todos, aimed, assign_step, update_step, counted, one, choices, if_step, variable, simple_of, statement_of, block_arm_of, line_arm_of, print_item_of, postfix_of, expression_of, target_of}
use Rattle.brs_grammar.proofs.Views as v
use Rattle.brs_code.specs.declared.instr.Instr.TheVariants as i
use Rattle.brs_forms.specs.Words as words
use Rattle.code_relation.specs.declared.exits.Exits.{Exits}
use Rattle.code_relation.specs.Heads.{count, mark_of, number_instr, update_operator, exit_instr}
use Rattle.code_drafts.specs.declared.draft.Draft.{Draft}
use Rattle.code_drafts.specs.declared.draft.Draft.TheVariants.{Plain, Marks}
use Rattle.code_drafts.specs.DraftCode.{flat, form_code, forms_code, todo_code, step_code, set_draft, keep_draft, name_draft, tails_code, if_code, while_code, for_code, each_code, farther, inside_for, inside_while}
use Rattle.code_drafts.specs.TreeCode.{expression_code}
use Rattle.code_drafts.specs.StatementCode.{set_of, keep_of, operands_of, choice_code, choices_code, item_code, print_item_code}
use Rattle.code_drafts.proofs.Tails.{tailed_code}
use Rattle.code_drafts.proofs.Values.{all_tails}
use Rattle.tree_code.specs.FileCode.{simple_code, statement_code, run_code, block_code, block_arm_code, block_arms_code, line_arm_code, line_arms_code}

-- ---- targets

join_code : (fs gs : Forms) → forms_code (join fs gs) ≡ forms_code fs ++ forms_code gs
join_code none gs = refl
join_code (more f fs) gs = ap (λ l. form_code f ++ l) (join_code fs gs) ∙ sym (append_assoc (form_code f) (forms_code fs) (forms_code gs))

abbrev assigned : Aim → List Draft → List Draft
assigned a e = forms_code (aimed a).operands ++ (e ++ set_draft (aimed a).to (aimed a).place.line ∷ [])

assign_all : (x : Exits) (a : Aim) (e : Form) → step_code x (assign_step a e) ≡ assigned a (form_code e)
assign_all x a e =
    let s = set_draft (aimed a).to (aimed a).place.line in
    let ops = forms_code (aimed a).operands in
    ap (λ l. l ++ s ∷ []) (join_code (aimed a).operands (more e none))
    ∙ ap (λ l. (ops ++ l) ++ s ∷ []) (append-nil (form_code e))
    ∙ append_assoc ops (form_code e) (s ∷ [])

pub assign_is : (x : Exits) (t : Target) (at : Place) (e : Expression) → simple_code x (simple.Assign t at e)
    ≡ operands_of (out-Target t).name (out-Target t).more ++ (expression_code e ++ set_of (out-Target t).name (out-Target t).more ∷ [])
assign_is x t at e = ap (step_code x) (v.simple-Assign t at e) ∙ assign_all x (target_of t) (expression_of e) ∙ ap (λ a. assigned a (expression_code e)) (v.target-out t)

abbrev updated : Aim → Draft → List Draft → List Draft
updated a apply e = forms_code (aimed a).operands ++ (keep_draft (aimed a).to (aimed a).place.line ∷ (e ++ apply ∷ set_draft (aimed a).to (aimed a).place.line ∷ []))

update_form : (x : Exits) (t : Target) (at : Place) (s : UpdateSign) (e : Form) → step_code x (update_step (target_of t) at s e)
    ≡ operands_of (out-Target t).name (out-Target t).more ++ (keep_of (out-Target t).name (out-Target t).more ∷ (form_code e ++ Plain (i.Binary (update_operator s)) at.line ∷ set_of (out-Target t).name (out-Target t).more ∷ []))
update_form x t at s e = ap (λ a. updated a (Plain (i.Binary (update_operator s)) at.line) (form_code e)) (v.target-out t)

pub update_is : (x : Exits) (t : Target) (at : Place) (s : UpdateSign) (e : Expression) → simple_code x (simple.Update t at s e)
    ≡ operands_of (out-Target t).name (out-Target t).more ++ (keep_of (out-Target t).name (out-Target t).more ∷ (expression_code e ++ Plain (i.Binary (update_operator s)) at.line ∷ set_of (out-Target t).name (out-Target t).more ∷ []))
update_is x t at s e = ap (step_code x) (v.simple-Update t at s e) ∙ update_form x t at s (expression_of e)

pub count_is : (x : Exits) (t : Target) (at : Place) (s : CountSign) → simple_code x (simple.Count t at s)
    ≡ operands_of (out-Target t).name (out-Target t).more ++ (keep_of (out-Target t).name (out-Target t).more ∷ Plain (number_instr (words.number_of (codes "1"))) at.line ∷ Plain (i.Binary (update_operator (counted s))) at.line ∷ set_of (out-Target t).name (out-Target t).more ∷ [])
count_is x t at s = ap (step_code x) (v.simple-Count t at s) ∙ update_form x t at (counted s) (one at)

abbrev dropped : Aim → List Draft
dropped a = name_draft a.name a.place.line ∷ (tails_code None a.tails ++ Plain i.Drop a.place.line ∷ [])

call_all : (x : Exits) (a : Aim) → step_code x (record { doing = p.Drop; place = a.place; operands = more (called a) none }) ≡ dropped a
call_all x a =
    ap (λ l. l ++ Plain i.Drop a.place.line ∷ []) (append-nil (form_code (called a)) ∙ tailed_code (variable a.place a.name) a.tails)

pub call_is : (x : Exits) (t : Target) → simple_code x (simple.Call t)
    ≡ name_draft (folded (out-Target t).name.text) (out-Target t).name.place.line ∷ (tails_code None (take (length (out-Target t).more) (map postfix_of (out-Target t).more)) ++ Plain i.Drop (out-Target t).name.place.line ∷ [])
call_is x t =
    let l = out-Target t in
    ap (step_code x) (v.simple-Call t) ∙ call_all x (target_of t) ∙ ap dropped (v.target-out t)
    ∙ ap (λ c. name_draft (folded l.name.text) l.name.place.line ∷ (c ++ Plain i.Drop l.name.place.line ∷ [])) (sym (all_tails l.more))

-- ---- other statements in one line

shown_first : (y : Printed) (ys : List Printed) → forms_code (shown (y ∷ ys)) ≡ item_code y ++ forms_code (shown ys)
shown_first semicolon ys = refl
shown_first comma ys = refl
shown_first (value e) ys = refl

shown_code : (xs : List PrintItem) → forms_code (shown (map print_item_of xs)) ≡ flat print_item_code xs
shown_code [] = refl
shown_code (x ∷ xs) = shown_first (print_item_of x) (map print_item_of xs) ∙ ap (λ l. print_item_code x ++ l) (shown_code xs)

pub semicolon_is : print_item_code printed.Semicolon ≡ []
semicolon_is = ap item_code v.print-item-Semicolon

pub comma_is : print_item_code printed.Comma ≡ []
comma_is = ap item_code v.print-item-Comma

pub shown_is : (e : Expression) → print_item_code (printed.Value e) ≡ expression_code e
shown_is e = ap item_code (v.print-item-Value e)

pub ruleset print_items = (semicolon_is, comma_is, shown_is)

pub print_is : (x : Exits) (at : Place) (xs : List PrintItem) → simple_code x (simple.Print at xs)
    ≡ flat print_item_code xs ++ Marks (i.Print 0 (length xs) (count (shown (map print_item_of xs)))) at.line (map mark_of (map mark (map print_item_of xs))) ∷ []
print_is x at xs =
    let marks = map mark (map print_item_of xs) in
    let values = count (shown (map print_item_of xs)) in
    ap (step_code x) (v.simple-Print at xs)
    ∙ ap (λ l. l ++ Marks (i.Print 0 (length marks) values) at.line (map mark_of marks) ∷ []) (shown_code xs)
    ∙ ap (λ n. flat print_item_code xs ++ Marks (i.Print 0 n values) at.line (map mark_of marks) ∷ []) (length-map (map print_item_of xs) mark ∙ length-map xs print_item_of)

pub return_is : (x : Exits) (at : Place) → simple_code x (simple.Return at None) ≡ Plain i.ReturnInvalid at.line ∷ []
return_is x at = ap (step_code x) (v.simple-Return-None at)

pub return_value_is : (x : Exits) (at : Place) (e : Expression) → simple_code x (simple.Return at (Some e)) ≡ expression_code e ++ Plain i.Return at.line ∷ []
return_value_is x at e = ap (step_code x) (v.simple-Return-Some at e) ∙ ap (λ l. l ++ Plain i.Return at.line ∷ []) (append-nil (expression_code e))

pub exit_is : (x : Exits) (at : Place) (kind : LoopKind) → simple_code x (simple.Exit at kind) ≡ Plain (exit_instr x kind) at.line ∷ []
exit_is x at kind = ap (step_code x) (v.simple-Exit at kind)

pub ruleset simple_rules = (
  assign_is,
  update_is,
  count_is,
  call_is,
  print_is,
  return_is,
  return_value_is,
  exit_is,
  append_assoc,
  append-nil,
)

-- ---- arms

pub block_arm_is : (x : Exits) (a : BlockArm) (rest : List Draft) → block_arm_code x a rest
    ≡ expression_code (out-BlockArm a).condition ++ if_code (out-BlockArm a).place.line (block_code (farther (length rest + 1) x) (out-BlockArm a).block) rest
block_arm_is x a rest = ap (λ c. choice_code x c rest) (v.block-arm-out a)

pub line_arm_is : (x : Exits) (a : LineArm) (rest : List Draft) → line_arm_code x a rest
    ≡ expression_code (out-LineArm a).condition ++ if_code (out-LineArm a).place.line (run_code (farther (length rest + 1) x) (out-LineArm a).run) rest
line_arm_is x a rest = ap (λ c. choice_code x c rest) (v.line-arm-out a)

pub ruleset arm_rules = (block_arm_is, line_arm_is)

abbrev exits : (for_to for_keeps while_to while_keeps : ℕ) → Exits
exits a b c d = record { for_to = a; for_keeps = b; while_to = c; while_keeps = d }

farther_zero : (x : Exits) → farther 0 x ≡ x
farther_zero x =
    let a : x.for_to + 0 ≡ x.for_to = omega arith in
    let b : x.while_to + 0 ≡ x.while_to = omega arith in
    ap (λ n. exits n x.for_keeps (x.while_to + 0) x.while_keeps) a ∙ ap (λ n. exits x.for_to x.for_keeps n x.while_keeps) b

-- an `if` whose other block is this code
abbrev chosen : Exits → Choice → List Draft → List Draft
chosen x c k = (form_code c.condition ++ []) ++ if_code c.place.line (todo_code (farther (length k + 1) x) c.body) k

if_from : (x : Exits) (c : Choice) (cs : List Choice) (other : Todo) (k : List Draft) → todo_code x (choices cs other) ≡ k → step_code x (if_step c cs other) ≡ choice_code x c k
if_from x c cs other k e =
    ap (chosen x c) e ∙ ap (λ l. l ++ if_code c.place.line (todo_code (farther (length k + 1) x) c.body) k) (append-nil (form_code c.condition))

choices_all : (x : Exits) (cs : List Choice) (other : Todo) → todo_code x (choices cs other) ≡ choices_code x cs (todo_code x other)
choices_all x [] other = refl
choices_all x (c ∷ cs) other =
    let condition = form_code c.condition ++ [] in
    let behind = todo_code x (choices cs other) in
    ap (λ y. condition ++ (if_code c.place.line (todo_code (farther (length (todo_code y (choices cs other)) + 1) y) c.body) (todo_code y (choices cs other)) ++ [])) (farther_zero x)
    ∙ ap (λ l. condition ++ l) (append-nil (if_code c.place.line (todo_code (farther (length behind + 1) x) c.body) behind))
    ∙ if_from x c cs other (choices_code x cs (todo_code x other)) (choices_all x cs other)

if_all : (x : Exits) (c : Choice) (cs : List Choice) (other : Todo) → step_code x (if_step c cs other) ≡ choice_code x c (choices_code x cs (todo_code x other))
if_all x c cs other = if_from x c cs other (choices_code x cs (todo_code x other)) (choices_all x cs other)

-- ---- statements of a block

pub simple_is : (x : Exits) (s : Simple) → statement_code x (statement.Simple s) ≡ simple_code x s
simple_is x s = ap (step_code x) (v.statement-Simple s)

pub block_if_is : (x : Exits) (c : BlockArm) (cs : List BlockArm) → statement_code x (statement.BlockIf c cs None) ≡ block_arm_code x c (block_arms_code x cs [])
block_if_is x c cs = ap (step_code x) (v.statement-BlockIf-None c cs) ∙ if_all x (block_arm_of c) (map block_arm_of cs) finish

pub block_if_else_is : (x : Exits) (c : BlockArm) (cs : List BlockArm) (b : List Statement) → statement_code x (statement.BlockIf c cs (Some b)) ≡ block_arm_code x c (block_arms_code x cs (block_code x b))
block_if_else_is x c cs b = ap (step_code x) (v.statement-BlockIf-Some c cs b) ∙ if_all x (block_arm_of c) (map block_arm_of cs) (todos (map statement_of b))

pub line_if_is : (x : Exits) (c : LineArm) (cs : List LineArm) → statement_code x (statement.LineIf c cs None) ≡ line_arm_code x c (line_arms_code x cs [])
line_if_is x c cs = ap (step_code x) (v.statement-LineIf-None c cs) ∙ if_all x (line_arm_of c) (map line_arm_of cs) finish

pub line_if_else_is : (x : Exits) (c : LineArm) (cs : List LineArm) (b : List Simple) → statement_code x (statement.LineIf c cs (Some b)) ≡ line_arm_code x c (line_arms_code x cs (run_code x b))
line_if_else_is x c cs b = ap (step_code x) (v.statement-LineIf-Some c cs b) ∙ if_all x (line_arm_of c) (map line_arm_of cs) (todos (map simple_of b))

pub for_is : (x : Exits) (at : Place) (n : Name) (a b : Expression) (body : List Statement) → statement_code x (statement.For at n a b None body)
    ≡ expression_code a ++ (expression_code b ++ for_code at.line 2 (folded n.text) (block_code (inside_for 2 x) body))
for_is x at n a b body =
    let loop = for_code at.line 2 (folded n.text) (block_code (inside_for 2 x) body) in
    ap (step_code x) (v.statement-For-None at n a b body)
    ∙ ap (λ l. (expression_code a ++ l) ++ loop) (append-nil (expression_code b))
    ∙ append_assoc (expression_code a) (expression_code b) loop

pub for_step_is : (x : Exits) (at : Place) (n : Name) (a b s : Expression) (body : List Statement) → statement_code x (statement.For at n a b (Some s) body)
    ≡ expression_code a ++ (expression_code b ++ (expression_code s ++ for_code at.line 3 (folded n.text) (block_code (inside_for 2 x) body)))
for_step_is x at n a b s body =
    let loop = for_code at.line 3 (folded n.text) (block_code (inside_for 2 x) body) in
    ap (step_code x) (v.statement-For-Some at n a b s body)
    ∙ ap (λ l. (expression_code a ++ (expression_code b ++ l)) ++ loop) (append-nil (expression_code s))
    ∙ append_assoc (expression_code a) (expression_code b ++ expression_code s) loop
    ∙ ap (λ l. expression_code a ++ l) (append_assoc (expression_code b) (expression_code s) loop)

pub for_each_is : (x : Exits) (at : Place) (n : Name) (e : Expression) (body : List Statement) → statement_code x (statement.ForEach at n e body)
    ≡ expression_code e ++ each_code at.line (folded n.text) (block_code (inside_for 1 x) body)
for_each_is x at n e body =
    ap (step_code x) (v.statement-ForEach at n e body)
    ∙ ap (λ l. l ++ each_code at.line (folded n.text) (block_code (inside_for 1 x) body)) (append-nil (expression_code e))

pub while_is : (x : Exits) (at : Place) (e : Expression) (body : List Statement) → statement_code x (statement.While at e body)
    ≡ while_code at.line (expression_code e) (block_code (inside_while x) body)
while_is x at e body = ap (step_code x) (v.statement-While at e body)

pub ruleset statement_rules = (
  simple_is,
  block_if_is,
  block_if_else_is,
  line_if_is,
  line_if_else_is,
  for_is,
  for_step_is,
  for_each_is,
  while_is,
  append_assoc,
  append-nil,
)
