-- The static faults of forms that are put together from lists.
use Rattle.std.proofs.Common.{◌≡◌, List, [], ◌∷◌, ◌++◌, map, refl, sym, ap, ◌∙◌, append_assoc}
use Rattle.std.proofs.lemmas.List.{append-nil}
use Rattle.brs_tokens.specs.declared.place.Place.{Place}
use Rattle.brs_grammar.specs.Form as p
use Rattle.brs_grammar.specs.Form.{Text, Form, Forms, Node, more, none, Todo, finish}
use Rattle.brs_grammar.specs.View.{Step, Tail, Printed, Operand, Choice, Aim, forms, join, todos, shown, chained, tailed, variable, but_last, last_of, aimed_last, aimed, assign_step, update_step, choices, if_step, member, index, arguments, semicolon, comma, value}
use Rattle.static_faults.specs.declared.fault.StaticFault.{StaticFault}
use Rattle.static_faults.specs.declared.fault.Surroundings.{Surroundings}
use Rattle.static_faults.specs.Faults.{aim_faults, form_faults, forms_faults, todo_faults}
use Rattle.static_faults.specs.Parts.{flat, operand_faults, tail_faults, printed_faults, step_faults, choice_faults, plain_faults}

pub flat_append : {A : Type 0} (g : A → List StaticFault) (xs : List A) (x : A) → flat g (xs ++ x ∷ []) ≡ flat g xs ++ g x
flat_append g [] x = append-nil (g x)
flat_append g (y ∷ ys) x = ap (λ l. g y ++ l) (flat_append g ys x) ∙ sym (append_assoc (g y) (flat g ys) (g x))

pub flat_map : {A B : Type 0} (g : B → List StaticFault) (h : A → B) (xs : List A) → flat g (map h xs) ≡ flat (λ x. g (h x)) xs
flat_map g h [] = refl
flat_map g h (x ∷ xs) = ap (λ l. g (h x) ++ l) (flat_map g h xs)

-- ---- expressions

chain_faults : (x : Form) (ys : List Operand) → form_faults (chained x ys) ≡ form_faults x ++ flat operand_faults ys
chain_faults x [] = sym (append-nil (form_faults x))
chain_faults x (y ∷ ys) = chain_faults (Node y.head y.place (more x (more y.right none))) ys ∙ simp (append_assoc, append-nil)

pub chained_faults : {A : Type 0} (part : A → Operand) (x : Form) (ys : List A) → form_faults (chained x (map part ys)) ≡ form_faults x ++ flat (λ y. operand_faults (part y)) ys
chained_faults part x ys = chain_faults x (map part ys) ∙ ap (λ l. form_faults x ++ l) (flat_map operand_faults part ys)

tail_chain : (x : Form) (ts : List Tail) → form_faults (tailed x ts) ≡ form_faults x ++ flat tail_faults ts
tail_chain x [] = sym (append-nil (form_faults x))
tail_chain x (member at k ∷ []) = simp append-nil
tail_chain x (member at k ∷ arguments there es ∷ ts) = tail_chain (Node (p.CallMember k) there (more x es)) ts ∙ simp (append_assoc, append-nil)
tail_chain x (member at k ∷ member there j ∷ ts) = tail_chain (Node (p.Member k) at (more x none)) (member there j ∷ ts) ∙ simp (append_assoc, append-nil)
tail_chain x (member at k ∷ index there e ∷ ts) = tail_chain (Node (p.Member k) at (more x none)) (index there e ∷ ts) ∙ simp (append_assoc, append-nil)
tail_chain x (index at e ∷ ts) = tail_chain (Node p.Index at (more x (more e none))) ts ∙ simp (append_assoc, append-nil)
tail_chain x (arguments at es ∷ ts) = tail_chain (Node p.Call at (more x es)) ts ∙ simp (append_assoc, append-nil)

pub tailed_faults : {A : Type 0} (part : A → Tail) (x : Form) (ts : List A) → form_faults (tailed x (map part ts)) ≡ form_faults x ++ flat (λ t. tail_faults (part t)) ts
tailed_faults part x ts = tail_chain x (map part ts) ∙ ap (λ l. form_faults x ++ l) (flat_map tail_faults part ts)

all_faults : (es : List Form) → forms_faults (forms es) ≡ flat form_faults es
all_faults [] = refl
all_faults (e ∷ es) = ap (λ l. form_faults e ++ l) (all_faults es)

pub forms_all : {A : Type 0} (part : A → Form) (es : List A) → forms_faults (forms (map part es)) ≡ flat (λ e. form_faults (part e)) es
forms_all part es = all_faults (map part es) ∙ flat_map form_faults part es

all_shown : (xs : List Printed) → forms_faults (shown xs) ≡ flat printed_faults xs
all_shown [] = refl
all_shown (semicolon ∷ xs) = all_shown xs
all_shown (comma ∷ xs) = all_shown xs
all_shown (value e ∷ xs) = ap (λ l. form_faults e ++ l) (all_shown xs)

pub shown_all : {A : Type 0} (part : A → Printed) (xs : List A) → forms_faults (shown (map part xs)) ≡ flat (λ x. printed_faults (part x)) xs
shown_all part xs = all_shown (map part xs) ∙ flat_map printed_faults part xs

-- ---- what is set

last_tail : (t : Tail) (ts : List Tail) → flat tail_faults (but_last t ts) ++ tail_faults (last_of t ts) ≡ flat tail_faults (t ∷ ts)
last_tail t [] = sym (append-nil (tail_faults t))
last_tail t (u ∷ us) = append_assoc (tail_faults t) (flat tail_faults (but_last u us)) (tail_faults (last_of u us)) ∙ ap (λ l. tail_faults t ++ l) (last_tail u us)

last_operands : (x : Form) (t : Tail) → forms_faults (aimed_last x t).operands ≡ form_faults x ++ tail_faults t
last_operands x (member at k) = refl
last_operands x (index at e) = ap (λ l. form_faults x ++ l) (append-nil (form_faults e))
last_operands x (arguments at es) = refl

last_is_no_name : (x : Form) (t : Tail) → aim_faults (aimed_last x t).to (aimed_last x t).place ≡ []
last_is_no_name x (member at k) = refl
last_is_no_name x (index at e) = refl
last_is_no_name x (arguments at es) = refl

aimed_operands : (a : Aim) → forms_faults (aimed a).operands ≡ flat tail_faults a.tails
aimed_operands a = go a.tails
  where
    go : (ts : List Tail) → forms_faults (aimed (record a { tails = ts })).operands ≡ flat tail_faults ts
    go [] = refl
    go (t ∷ ts) =
        last_operands (tailed (variable a.place a.name) (but_last t ts)) (last_of t ts)
        ∙ ap (λ l. l ++ tail_faults (last_of t ts)) (tail_chain (variable a.place a.name) (but_last t ts))
        ∙ last_tail t ts

aimed_name : (a : Aim) → aim_faults (aimed a).to (aimed a).place ≡ plain_faults a.name a.place a.tails
aimed_name a = go a.tails
  where
    go : (ts : List Tail) → aim_faults (aimed (record a { tails = ts })).to (aimed (record a { tails = ts })).place ≡ plain_faults a.name a.place ts
    go [] = refl
    go (t ∷ ts) = last_is_no_name (tailed (variable a.place a.name) (but_last t ts)) (last_of t ts)

joined : (fs gs : Forms) → forms_faults (join fs gs) ≡ forms_faults fs ++ forms_faults gs
joined none gs = refl
joined (more f fs) gs = ap (λ l. form_faults f ++ l) (joined fs gs) ∙ sym (append_assoc (form_faults f) (forms_faults fs) (forms_faults gs))

pub assign_all : (s : Surroundings) (a : Aim) (e : Form) → step_faults s (assign_step a e) ≡ (flat tail_faults a.tails ++ form_faults e) ++ plain_faults a.name a.place a.tails
assign_all s a e =
    ap (λ l. l ++ aim_faults (aimed a).to (aimed a).place) (joined (aimed a).operands (more e none))
    ∙ ap (λ l. (l ++ (form_faults e ++ [])) ++ aim_faults (aimed a).to (aimed a).place) (aimed_operands a)
    ∙ ap (λ l. (flat tail_faults a.tails ++ (form_faults e ++ [])) ++ l) (aimed_name a)
    ∙ ap (λ l. (flat tail_faults a.tails ++ l) ++ plain_faults a.name a.place a.tails) (append-nil (form_faults e))

pub update_all : (s : Surroundings) (a : Aim) (at : Place) (sign : _) (e : Form) → step_faults s (update_step a at sign e) ≡ flat tail_faults a.tails ++ (plain_faults a.name a.place a.tails ++ form_faults e)
update_all s a at sign e =
    ap (λ l. l ++ (aim_faults (aimed a).to (aimed a).place ++ form_faults e)) (aimed_operands a)
    ∙ ap (λ l. flat tail_faults a.tails ++ (l ++ form_faults e)) (aimed_name a)

pub plain_map : {A B : Type 0} (part : A → B) (x : Text) (at : Place) (ts : List A) → plain_faults x at (map part ts) ≡ plain_faults x at ts
plain_map part x at [] = refl
plain_map part x at (t ∷ ts) = refl

-- ---- blocks

all_todos : (s : Surroundings) (ss : List Step) → todo_faults s (todos ss) ≡ flat (step_faults s) ss
all_todos s [] = refl
all_todos s (x ∷ xs) = ap (λ l. step_faults s x ++ l) (all_todos s xs)

pub todos_all : {A : Type 0} (part : A → Step) (s : Surroundings) (xs : List A) → todo_faults s (todos (map part xs)) ≡ flat (λ x. step_faults s (part x)) xs
todos_all part s xs = all_todos s (map part xs) ∙ flat_map (step_faults s) part xs

choices_all : (s : Surroundings) (cs : List Choice) (other : Todo) → todo_faults s (choices cs other) ≡ flat (choice_faults s) cs ++ todo_faults s other
choices_all s [] other = refl
choices_all s (c ∷ cs) other =
    ap (λ l. ((form_faults c.condition ++ []) ++ (todo_faults s c.body ++ l)) ++ []) (choices_all s cs other) ∙ simp (append_assoc, append-nil)

pub if_all : {A : Type 0} (part : A → Choice) (s : Surroundings) (c : A) (cs : List A) (other : Todo)
    → step_faults s (if_step (part c) (map part cs) other) ≡ choice_faults s (part c) ++ (flat (λ x. choice_faults s (part x)) cs ++ todo_faults s other)
if_all part s c cs other =
    ap (λ l. (form_faults (part c).condition ++ []) ++ (todo_faults s (part c).body ++ l)) (choices_all s (map part cs) other ∙ ap (λ l. l ++ todo_faults s other) (flat_map (choice_faults s) part cs))
    ∙ simp (append_assoc, append-nil)
