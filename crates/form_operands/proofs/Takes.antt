-- What the parts of a tree take, and the forms that are put together from them.
use Rattle.std.proofs.Common.{◌≡◌, ℕ, ◌+◌, Bool, true, false, if◌then◌else◌, List, [], ◌∷◌, Option, None, Some, map, refl, sym, ◌∙◌, arith}
use Rattle.std.specs.Prelude.{cond, All, IfSome, count_by}
use Rattle.std.proofs.lemmas.List.Elements.{All-nil, All-cons, All-head, All-tail}
use Rattle.std.proofs.lemmas.List.Sums.{sum_by-cons}
use Rattle.brs_tokens.specs.declared.place.Place.{Place}
use Rattle.brs_grammar.specs.declared.tree.UpdateSign.{UpdateSign}
use Rattle.brs_grammar.specs.Form as p
use Rattle.brs_grammar.specs.Form.{Text, Form, Node, Forms, none, more, Params, Todo, finish, first}
use Rattle.brs_grammar.specs.Parts.{Step, Tail, member, index, arguments, Printed, semicolon, comma, value, Operand, Choice, Formal, Aim, Aimed, forms, join, maybe, todos, mark, shown, parameter, params, chained, tailed, variable, called, but_last, last_of, aimed_last, aimed, assign_step, update_step, choices, if_step}
use Rattle.brs_forms.specs.Words.{is_m}
use Rattle.brs_code.specs.declared.function.Mark.TheVariants as shown_mark
use Rattle.brs_code.specs.declared.instr.Instr.TheVariants as i
use Rattle.brs_code.specs.Instruction.{pops}
use Rattle.brs_code.specs.Rule.{is_value}
use Rattle.code_relation.specs.Heads.{count, head_instr, keep_instr, set_instr, mark_of}
use Rattle.code_lowering.specs.Takes.{FormTakes, HeadTakes, FormsTake, ParamsTake, DoingTakes, TodoTakes}

-- ---- the parts

-- an operator takes two operands
abbrev pub OperandTakes : Operand → Type 0
OperandTakes y = ((n : ℕ) → pops (head_instr y.head n 2) ≡ 2) × HeadTakes y.head 2 × FormTakes y.right

abbrev pub TailTakes : Tail → Type 0
TailTakes (member at k) = Unit {0}
TailTakes (index at e) = FormTakes e
TailTakes (arguments at es) = FormsTake es

abbrev pub PrintedTakes : Printed → Type 0
PrintedTakes semicolon = Unit {0}
PrintedTakes comma = Unit {0}
PrintedTakes (value e) = FormTakes e

abbrev pub StepTakes : Step → Type 0
StepTakes s = FormsTake s.operands × DoingTakes s.doing (count s.operands)

abbrev pub ChoiceTakes : Choice → Type 0
ChoiceTakes c = FormTakes c.condition × TodoTakes c.body

abbrev pub FormalTakes : Formal → Type 0
FormalTakes x = IfSome x.default FormTakes

-- ---- lists

pub forms_take : (es : List Form) → All FormTakes es → FormsTake (forms es)
forms_take [] a = tt
forms_take (e ∷ es) a = (All-head FormTakes e es a, forms_take es (All-tail FormTakes e es a))

pub shown_take : (xs : List Printed) → All PrintedTakes xs → FormsTake (shown xs)
shown_take [] a = tt
shown_take (semicolon ∷ xs) a = shown_take xs (All-tail PrintedTakes semicolon xs a)
shown_take (comma ∷ xs) a = shown_take xs (All-tail PrintedTakes comma xs a)
shown_take (value e ∷ xs) a = (All-head PrintedTakes (value e) xs a, shown_take xs (All-tail PrintedTakes (value e) xs a))

-- as many values are shown as marks stand for values
pub shown_count : (xs : List Printed) → count_by is_value (map mark_of (map mark xs)) ≡ count (shown xs)
shown_count [] = refl
shown_count (semicolon ∷ xs) = shown_count xs
shown_count (comma ∷ xs) = shown_count xs
shown_count (value e ∷ xs) = sum_by-cons (λ m. cond (is_value m) 1 0) shown_mark.Value (map mark_of (map mark xs)) ∙ omega (arith, shown_count xs)

pub maybe_takes : (e : Option Form) → IfSome e FormTakes → FormsTake (maybe e)
maybe_takes None t = tt
maybe_takes (Some e) t = (t, tt)

pub todos_take : (ss : List Step) → All StepTakes ss → TodoTakes (todos ss)
todos_take [] a = tt
todos_take (s ∷ ss) a = let t = All-head StepTakes s ss a in (t.0, t.1, todos_take ss (All-tail StepTakes s ss a))

parameter_takes : (x : Formal) (rest : Params) → FormalTakes x → ParamsTake rest → ParamsTake (parameter x rest)
parameter_takes x rest t a = go x.default t
  where
    go : (d : Option Form) → IfSome d FormTakes → ParamsTake (parameter (record x { default = d }) rest)
    go None h = a
    go (Some e) h = (h, a)

pub params_take : (xs : List Formal) → All FormalTakes xs → ParamsTake (params xs)
params_take [] a = tt
params_take (x ∷ xs) a = parameter_takes x (params xs) (All-head FormalTakes x xs a) (params_take xs (All-tail FormalTakes x xs a))

-- ---- choices

choices_take : (cs : List Choice) (other : Todo) → All ChoiceTakes cs → TodoTakes other → TodoTakes (choices cs other)
choices_take [] other a t = t
choices_take (c ∷ cs) other a t =
    let h = All-head ChoiceTakes c cs a in
    ((h.0, tt), (refl, h.1, choices_take cs other (All-tail ChoiceTakes c cs a) t), tt)

pub if_takes : (c : Choice) (cs : List Choice) (other : Todo) → ChoiceTakes c → All ChoiceTakes cs → TodoTakes other → StepTakes (if_step c cs other)
if_takes c cs other h a t = ((h.0, tt), (refl, h.1, choices_take cs other a t))

-- ---- chains

pub chained_takes : (x : Form) (ys : List Operand) → FormTakes x → All OperandTakes ys → FormTakes (chained x ys)
chained_takes x [] t a = t
chained_takes x (y ∷ ys) t a =
    let o = All-head OperandTakes y ys a in
    chained_takes (Node y.head y.place (more x (more y.right none))) ys (o.0, o.1, (t, (o.2, tt))) (All-tail OperandTakes y ys a)

pub variable_takes : (at : Place) (x : Text) → FormTakes (variable at x)
variable_takes at x = (λ n. go (is_m x) n, tt, tt)
  where
    go : (b : Bool) (n : ℕ) → pops (if b then i.LoadM else i.Load n) ≡ 0
    go true n = refl
    go false n = refl

-- a member that is called takes the value behind the arguments
call_takes : (k : Text) (at : Place) (x : Form) (es : Forms) → FormTakes x → FormsTake es → FormTakes (Node (p.CallMember k) at (more x es))
call_takes k at x es t a = (λ n. omega arith, tt, (t, a))

value_call_takes : (at : Place) (x : Form) (es : Forms) → FormTakes x → FormsTake es → FormTakes (Node p.Call at (more x es))
value_call_takes at x es t a = (λ n. omega arith, tt, (t, a))

member_takes : (k : Text) (at : Place) (x : Form) → FormTakes x → FormTakes (Node (p.Member k) at (more x none))
member_takes k at x t = (λ n. refl, tt, (t, tt))

index_takes : (at : Place) (x e : Form) → FormTakes x → FormTakes e → FormTakes (Node p.Index at (more x (more e none)))
index_takes at x e t a = (λ n. refl, tt, (t, (a, tt)))

pub tailed_takes : (x : Form) (ts : List Tail) → FormTakes x → All TailTakes ts → FormTakes (tailed x ts)
tailed_takes x [] t a = t
tailed_takes x (member at k ∷ []) t a = member_takes k at x t
tailed_takes x (member at k ∷ arguments there es ∷ ts) t a =
    let b = All-tail TailTakes (member at k) (arguments there es ∷ ts) a in
    tailed_takes (Node (p.CallMember k) there (more x es)) ts (call_takes k there x es t (All-head TailTakes (arguments there es) ts b)) (All-tail TailTakes (arguments there es) ts b)
tailed_takes x (member at k ∷ member there j ∷ ts) t a =
    tailed_takes (Node (p.Member k) at (more x none)) (member there j ∷ ts) (member_takes k at x t) (All-tail TailTakes (member at k) (member there j ∷ ts) a)
tailed_takes x (member at k ∷ index there e ∷ ts) t a =
    tailed_takes (Node (p.Member k) at (more x none)) (index there e ∷ ts) (member_takes k at x t) (All-tail TailTakes (member at k) (index there e ∷ ts) a)
tailed_takes x (index at e ∷ ts) t a =
    tailed_takes (Node p.Index at (more x (more e none))) ts (index_takes at x e t (All-head TailTakes (index at e) ts a)) (All-tail TailTakes (index at e) ts a)
tailed_takes x (arguments at es ∷ ts) t a =
    tailed_takes (Node p.Call at (more x es)) ts (value_call_takes at x es t (All-head TailTakes (arguments at es) ts a)) (All-tail TailTakes (arguments at es) ts a)

pub called_takes : (a : Aim) → All TailTakes a.tails → FormTakes (called a)
called_takes a t = tailed_takes (variable a.place a.name) a.tails (variable_takes a.place a.name) t

-- ---- what is set

-- no call
abbrev pub IsAim : Tail → Type 0
IsAim (member at k) = Unit {0}
IsAim (index at e) = Unit {0}
IsAim (arguments at es) = ⊥

abbrev pub EndsInAim : List Tail → Type 0
EndsInAim [] = Unit {0}
EndsInAim (t ∷ ts) = IsAim (last_of t ts)

record AimTakes (a : Aimed) : Type 0 where
  operands : FormsTake a.operands
  keeps : (n : ℕ) → pops (keep_instr a.to n) ≡ count a.operands
  sets : (n : ℕ) → pops (set_instr a.to n) ≡ count a.operands + 1

last_takes : (x : Form) (t : Tail) → IsAim t → FormTakes x → TailTakes t → AimTakes (aimed_last x t)
last_takes x (member at k) h t a = record { operands = (t, tt); keeps = λ n. refl; sets = λ n. refl }
last_takes x (index at e) h t a = record { operands = (t, (a, tt)); keeps = λ n. refl; sets = λ n. refl }
last_takes x (arguments at es) h t a = absurd h

but_last_take : (t : Tail) (ts : List Tail) → All TailTakes (t ∷ ts) → All TailTakes (but_last t ts)
but_last_take t [] a = All-nil TailTakes
but_last_take t (u ∷ us) a = All-cons TailTakes t (but_last u us) (All-head TailTakes t (u ∷ us) a) (but_last_take u us (All-tail TailTakes t (u ∷ us) a))

last_take : (t : Tail) (ts : List Tail) → All TailTakes (t ∷ ts) → TailTakes (last_of t ts)
last_take t [] a = All-head TailTakes t [] a
last_take t (u ∷ us) a = last_take u us (All-tail TailTakes t (u ∷ us) a)

aimed_takes : (a : Aim) → EndsInAim a.tails → All TailTakes a.tails → AimTakes (aimed a)
aimed_takes a h t = go a.tails h t
  where
    named : (b : Bool) (n : ℕ) → pops (if b then i.LoadM else i.Load n) ≡ 0
    named true n = refl
    named false n = refl

    go : (ts : List Tail) → EndsInAim ts → All TailTakes ts → AimTakes (aimed (record a { tails = ts }))
    go [] h t = record { operands = tt; keeps = λ n. named (is_m a.name) n; sets = λ n. refl }
    go (u ∷ us) h t =
        last_takes (tailed (variable a.place a.name) (but_last u us)) (last_of u us) h
        (tailed_takes (variable a.place a.name) (but_last u us) (variable_takes a.place a.name) (but_last_take u us t)) (last_take u us t)

join_takes : (fs : Forms) (e : Form) → FormsTake fs → FormTakes e → FormsTake (join fs (more e none))
join_takes none e a t = (t, tt)
join_takes (more f fs) e a t = (a.0, join_takes fs e a.1 t)

join_count : (fs : Forms) (e : Form) → count (join fs (more e none)) ≡ count fs + 1
join_count none e = refl
join_count (more f fs) e = omega (arith, join_count fs e)

pub assign_takes : (a : Aim) (e : Form) → EndsInAim a.tails → All TailTakes a.tails → FormTakes e → StepTakes (assign_step a e)
assign_takes a e h t u =
    let x = aimed_takes a h t in
    (join_takes (aimed a).operands e x.operands u, λ n. x.sets n ∙ sym (join_count (aimed a).operands e))

pub update_takes : (a : Aim) (at : Place) (sign : UpdateSign) (e : Form) → EndsInAim a.tails → All TailTakes a.tails → FormTakes e → StepTakes (update_step a at sign e)
update_takes a at sign e h t u =
    let x = aimed_takes a h t in
    (x.operands, (x.keeps, x.sets, u))
