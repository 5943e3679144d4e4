-- A form, a statement and a body take as many steps as they have parts, and nothing is traced before a statement's last step.
use Rattle.std.proofs.Common.{◌≡◌, ℕ, zero, suc, ◌+◌, ◌-◌, ◌≤◌, ◌⊎◌, inl, inr, Bool, false, List, [], ◌∷◌, ◌++◌, Option, Some, None, nat_le, nat_lt, if◌then◌else◌, refl, sym, ap, ◌∙◌, subst, arith}
use Rattle.std.specs.Prelude.{option_and_then}
use Rattle.std.proofs.Math.Dec.{leb-suc-suc, leb-suc-zero}
use Rattle.std.proofs.lemmas.Bool.{le-leb}
use Rattle.std.specs.Option.{option_map, option_map_or}
use Rattle.first_form.specs.declared.tree.Sign.{Sign}
use Rattle.trace_report.specs.TraceText.{ended_line}
use Rattle.channel_run.specs.FirstMeaning.{Value, Form, Held, Number, Words, Name, Operator, Integer, String, Statement, Assign, Print, Locals, value_of, applied, form_step, forms_step, held_values, Running, printed, statement_step, actor_step}

-- ---- what a form comes to, and in how many steps

abbrev pub form_steps : Form → ℕ
form_steps (Held v) = 0
form_steps (Number n) = 1
form_steps (Words words) = 1
form_steps (Name name) = 1
form_steps (Operator sign a b) = form_steps a + form_steps b + 1

abbrev pub form_value : Locals → Form → Option Value
form_value locals (Held v) = Some v
form_value locals (Number n) = Some (Integer n)
form_value locals (Words words) = Some (String words)
form_value locals (Name name) = value_of locals name
form_value locals (Operator sign a b) = option_and_then (λ x. option_and_then (λ y. applied sign x y) (form_value locals b)) (form_value locals a)

-- a step leads to a form with the same value and a step less to go
pub record Goes (locals : Locals) (form : Form) (v : Value) : Type 0 where
  pub after : Form
  pub steps : form_step locals form ≡ Some after
  pub value : form_value locals after ≡ Some v
  pub less : form_steps form ≡ suc (form_steps after)

and_then_some : {A B : Type 0} (f : A → Option B) (o : Option A) (y : B) → option_and_then f o ≡ Some y → (x : A) × (o ≡ Some x) × (f x ≡ Some y)
and_then_some f None y h = absurd (cc)
and_then_some f (Some x) y h = (x, refl, h)

-- a step of the left operand, and of the right one where the left one is a value
left_step : (locals : Locals) (op : Sign) (other form after : Form) → form_step locals form ≡ Some after → form_step locals (Operator op form other) ≡ Some (Operator op after other)
left_step locals op other (Held v) after h = absurd (cc)
left_step locals op other (Number n) after h = ap (option_map (λ f. Operator op f other)) h
left_step locals op other (Words words) after h = ap (option_map (λ f. Operator op f other)) h
left_step locals op other (Name name) after h = ap (option_map (λ f. Operator op f other)) h
left_step locals op other (Operator sign a b) after h = ap (option_map (λ f. Operator op f other)) h

right_step : (locals : Locals) (op : Sign) (x : Value) (form after : Form) → form_step locals form ≡ Some after → form_step locals (Operator op (Held x) form) ≡ Some (Operator op (Held x) after)
right_step locals op x (Held v) after h = absurd (cc)
right_step locals op x (Number n) after h = ap (option_map (λ f. Operator op (Held x) f)) h
right_step locals op x (Words words) after h = ap (option_map (λ f. Operator op (Held x) f)) h
right_step locals op x (Name name) after h = ap (option_map (λ f. Operator op (Held x) f)) h
right_step locals op x (Operator sign a b) after h = ap (option_map (λ f. Operator op (Held x) f)) h

-- a step of the first form of a list, which isn't a value
first_step : (locals : Locals) (forms : List Form) (form after : Form) → form_step locals form ≡ Some after → forms_step locals (form ∷ forms) ≡ Some (after ∷ forms)
first_step locals forms (Held v) after h = absurd (cc)
first_step locals forms (Number n) after h = ap (option_map (λ f. f ∷ forms)) h
first_step locals forms (Words words) after h = ap (option_map (λ f. f ∷ forms)) h
first_step locals forms (Name name) after h = ap (option_map (λ f. f ∷ forms)) h
first_step locals forms (Operator sign a b) after h = ap (option_map (λ f. f ∷ forms)) h

first_open : (locals : Locals) (forms : List Form) (form after : Form) → form_step locals form ≡ Some after → held_values (form ∷ forms) ≡ None
first_open locals forms (Held v) after h = absurd (cc)
first_open locals forms (Number n) after h = refl
first_open locals forms (Words words) after h = refl
first_open locals forms (Name name) after h = refl
first_open locals forms (Operator sign a b) after h = refl

-- a step of what is assigned
assigned_step : (locals : Locals) (target : List ℕ) (rest : List Statement) (form after : Form) → form_step locals form ≡ Some after
    → statement_step locals (Assign target form) rest ≡ Some (Running (Assign target after ∷ rest) locals, [])
assigned_step locals target rest (Held v) after h = absurd (cc)
assigned_step locals target rest (Number n) after h = ap (option_map (λ f. (Running (Assign target f ∷ rest) locals, []))) h
assigned_step locals target rest (Words words) after h = ap (option_map (λ f. (Running (Assign target f ∷ rest) locals, []))) h
assigned_step locals target rest (Name name) after h = ap (option_map (λ f. (Running (Assign target f ∷ rest) locals, []))) h
assigned_step locals target rest (Operator sign a b) after h = ap (option_map (λ f. (Running (Assign target f ∷ rest) locals, []))) h

goes_apply : (locals : Locals) (sign : Sign) (x y v : Value) → applied sign x y ≡ Some v → Goes locals (Operator sign (Held x) (Held y)) v
goes_apply locals sign x y v h = record { after = Held v; steps = ap (option_map Held) h; value = refl; less = refl }

goes_right : (locals : Locals) (sign : Sign) (x y v : Value) (b : Form) → Goes locals b y → applied sign x y ≡ Some v → Goes locals (Operator sign (Held x) b) v
goes_right locals sign x y v b go h = record {
  after = Operator sign (Held x) go.after;
  steps = right_step locals sign x b go.after go.steps;
  value = ap (option_and_then (applied sign x)) go.value ∙ h;
  less = omega (arith, go.less);
}

goes_left : (locals : Locals) (sign : Sign) (x y v : Value) (a b : Form) → Goes locals a x → form_value locals b ≡ Some y → applied sign x y ≡ Some v → Goes locals (Operator sign a b) v
goes_left locals sign x y v a b go by h = record {
  after = Operator sign go.after b;
  steps = left_step locals sign b a go.after go.steps;
  value = ap (option_and_then (λ x. option_and_then (λ y. applied sign x y) (form_value locals b))) go.value ∙ ap (option_and_then (applied sign x)) by ∙ h;
  less = omega (arith, go.less);
}

-- a form with a value is it, or has a step towards it
pub form_goes : (locals : Locals) (form : Form) (v : Value) → form_value locals form ≡ Some v → (form ≡ Held v) ⊎ Goes locals form v
form_goes locals (Held w) v h = let e : w ≡ v = cc in inl (ap Held e)
form_goes locals (Number n) v h = let e : Integer n ≡ v = cc in inr (record { after = Held (Integer n); steps = refl; value = h; less = refl })
form_goes locals (Words words) v h = inr (record { after = Held (String words); steps = refl; value = h; less = refl })
form_goes locals (Name name) v h = inr (record { after = Held v; steps = ap (option_map Held) h; value = refl; less = refl })
form_goes locals (Operator sign a b) v h =
    let left = and_then_some (λ x. option_and_then (λ y. applied sign x y) (form_value locals b)) (form_value locals a) v h in
    let right = and_then_some (λ y. applied sign left.0 y) (form_value locals b) v left.2 in
    inr (elim (form_goes locals a left.0 left.1) [
      | inl at_a ↦ elim (form_goes locals b right.0 right.1) [
        | inl at_b ↦ subst (λ a'. Goes locals (Operator sign a' b) v) (sym at_a) (subst (λ b'. Goes locals (Operator sign (Held left.0) b') v) (sym at_b) (goes_apply locals sign left.0 right.0 v right.2))
        | inr go ↦ subst (λ a'. Goes locals (Operator sign a' b) v) (sym at_a) (goes_right locals sign left.0 right.0 v b go right.2)
      ]
      | inr go ↦ goes_left locals sign left.0 right.0 v a b go right.1 right.2
    ])

-- ---- the same of a list of forms

abbrev pub forms_steps : List Form → ℕ
forms_steps [] = 0
forms_steps (form ∷ forms) = form_steps form + forms_steps forms

abbrev pub forms_values : Locals → List Form → Option (List Value)
forms_values locals [] = Some []
forms_values locals (form ∷ forms) = option_and_then (λ v. option_map (λ values. v ∷ values) (forms_values locals forms)) (form_value locals form)

pub record AllHeld (forms : List Form) (values : List Value) : Type 0 where
  pub held : held_values forms ≡ Some values
  pub none_left : forms_steps forms ≡ 0

pub record FormsGo (locals : Locals) (forms : List Form) (values : List Value) : Type 0 where
  pub after : List Form
  pub steps : forms_step locals forms ≡ Some after
  pub all : forms_values locals after ≡ Some values
  pub less : forms_steps forms ≡ suc (forms_steps after)
  pub not_held : held_values forms ≡ None

map_some : {A B : Type 0} (f : A → B) (o : Option A) (y : B) → option_map f o ≡ Some y → (x : A) × (o ≡ Some x) × (f x ≡ y)
map_some f None y h = absurd (cc)
map_some f (Some x) y h = let e : f x ≡ y = cc in (x, refl, e)

first_goes : (locals : Locals) (form : Form) (forms : List Form) (v : Value) (values : List Value) → Goes locals form v → forms_values locals forms ≡ Some values → FormsGo locals (form ∷ forms) (v ∷ values)
first_goes locals form forms v values go rest = record {
  after = go.after ∷ forms;
  steps = first_step locals forms form go.after go.steps;
  all = ap (option_and_then (λ v. option_map (λ values. v ∷ values) (forms_values locals forms))) go.value ∙ ap (option_map (λ values. v ∷ values)) rest;
  less = omega (arith, go.less);
  not_held = first_open locals forms form go.after go.steps;
}

later_goes : (locals : Locals) (v : Value) (forms : List Form) (values : List Value) → FormsGo locals forms values → FormsGo locals (Held v ∷ forms) (v ∷ values)
later_goes locals v forms values go = record {
  after = Held v ∷ go.after;
  steps = ap (option_map (λ after. Held v ∷ after)) go.steps;
  all = ap (option_map (λ values. v ∷ values)) go.all;
  less = omega (arith, go.less);
  not_held = ap (option_map (λ values. v ∷ values)) go.not_held;
}

later_held : (v : Value) (forms : List Form) (values : List Value) → AllHeld forms values → AllHeld (Held v ∷ forms) (v ∷ values)
later_held v forms values all = record { held = ap (option_map (λ values. v ∷ values)) all.held; none_left = omega (arith, all.none_left) }

pub forms_go : (locals : Locals) (forms : List Form) (values : List Value) → forms_values locals forms ≡ Some values → AllHeld forms values ⊎ FormsGo locals forms values
forms_go locals [] values h = inl (record { held = h; none_left = refl })
forms_go locals (form ∷ forms) values h =
    let head = and_then_some (λ v. option_map (λ values. v ∷ values) (forms_values locals forms)) (form_value locals form) values h in
    let tail = map_some (λ values. head.0 ∷ values) (forms_values locals forms) values head.2 in
    subst (λ vs. AllHeld (form ∷ forms) vs ⊎ FormsGo locals (form ∷ forms) vs) tail.2
    (elim (form_goes locals form head.0 head.1) [
      | inl at_form ↦ subst (λ f. AllHeld (f ∷ forms) (head.0 ∷ tail.0) ⊎ FormsGo locals (f ∷ forms) (head.0 ∷ tail.0)) (sym at_form)
          (elim (forms_go locals forms tail.0 tail.1) [
            | inl all ↦ inl (later_held head.0 forms tail.0 all)
            | inr go ↦ inr (later_goes locals head.0 forms tail.0 go)
          ])
      | inr go ↦ inr (first_goes locals form forms head.0 tail.0 go tail.1)
    ])

-- ---- a statement

abbrev pub statement_steps : Statement → ℕ
statement_steps (Assign name form) = form_steps form + 1
statement_steps (Print items) = forms_steps items + 1

-- the locals after a statement, with what it traces
abbrev pub statement_effect : Locals → Statement → Option (Locals × List ℕ)
statement_effect locals (Assign name form) = option_map (λ v. ((name, v) ∷ locals, [])) (form_value locals form)
statement_effect locals (Print items) = option_map (λ values. (locals, printed values)) (forms_values locals items)

-- its last step
pub record Finishes (locals : Locals) (statement : Statement) (rest : List Statement) (effect : Locals × List ℕ) : Type 0 where
  pub steps : statement_step locals statement rest ≡ Some (Running rest effect.0, effect.1)
  pub last : statement_steps statement ≡ 1

-- a step before that
pub record Proceeds (locals : Locals) (statement : Statement) (rest : List Statement) (effect : Locals × List ℕ) : Type 0 where
  pub after : Statement
  pub steps : statement_step locals statement rest ≡ Some (Running (after ∷ rest) locals, [])
  pub effect_is : statement_effect locals after ≡ Some effect
  pub less : statement_steps statement ≡ suc (statement_steps after)

assign_held : (locals : Locals) (name : List ℕ) (v : Value) (rest : List Statement) → Finishes locals (Assign name (Held v)) rest ((name, v) ∷ locals, [])
assign_held locals name v rest = record { steps = refl; last = refl }

assign_goes : (locals : Locals) (name : List ℕ) (form : Form) (v : Value) (rest : List Statement) → Goes locals form v → Proceeds locals (Assign name form) rest ((name, v) ∷ locals, [])
assign_goes locals name form v rest go = record {
  after = Assign name go.after;
  steps = assigned_step locals name rest form go.after go.steps;
  effect_is = ap (option_map (λ v. ((name, v) ∷ locals, []))) go.value;
  less = omega (arith, go.less);
}

print_held : (locals : Locals) (items : List Form) (values : List Value) (rest : List Statement) → AllHeld items values → Finishes locals (Print items) rest (locals, printed values)
print_held locals items values rest all = record {
  steps = ap (λ o. option_map_or (λ values. Some (Running rest locals, printed values)) o (option_map (λ after. (Running (Print after ∷ rest) locals, [])) (forms_step locals items))) all.held;
  last = omega (arith, all.none_left);
}

print_goes : (locals : Locals) (items : List Form) (values : List Value) (rest : List Statement) → FormsGo locals items values → Proceeds locals (Print items) rest (locals, printed values)
print_goes locals items values rest go = record {
  after = Print go.after;
  steps = ap (λ o. option_map_or (λ values. Some (Running rest locals, printed values)) o (option_map (λ after. (Running (Print after ∷ rest) locals, [])) (forms_step locals items))) go.not_held
      ∙ ap (option_map (λ after. (Running (Print after ∷ rest) locals, []))) go.steps;
  effect_is = ap (option_map (λ values. (locals, printed values))) go.all;
  less = omega (arith, go.less);
}

pub statement_goes : (locals : Locals) (statement : Statement) (rest : List Statement) (effect : Locals × List ℕ) → statement_effect locals statement ≡ Some effect → Finishes locals statement rest effect ⊎ Proceeds locals statement rest effect
statement_goes locals (Assign name form) rest effect h =
    let found = map_some (λ v. ((name, v) ∷ locals, [])) (form_value locals form) effect h in
    subst (λ e. Finishes locals (Assign name form) rest e ⊎ Proceeds locals (Assign name form) rest e) found.2
    (elim (form_goes locals form found.0 found.1) [
      | inl at_form ↦ inl (subst (λ f. Finishes locals (Assign name f) rest ((name, found.0) ∷ locals, [])) (sym at_form) (assign_held locals name found.0 rest))
      | inr go ↦ inr (assign_goes locals name form found.0 rest go)
    ])
statement_goes locals (Print items) rest effect h =
    let found = map_some (λ values. (locals, printed values)) (forms_values locals items) effect h in
    subst (λ e. Finishes locals (Print items) rest e ⊎ Proceeds locals (Print items) rest e) found.2
    (elim (forms_go locals items found.0 found.1) [
      | inl all ↦ inl (print_held locals items found.0 rest all)
      | inr go ↦ inr (print_goes locals items found.0 rest go)
    ])

-- ---- a body

-- each statement has its effect after those before it
abbrev pub Ready : Locals → List Statement → Type 0
Ready locals [] = Unit {0}
Ready locals (statement ∷ rest) = (effect : Locals × List ℕ) × (statement_effect locals statement ≡ Some effect) × Ready effect.0 rest

-- what a body traces in k steps
abbrev pub body_text : ℕ → Locals → List Statement → List ℕ
body_text k locals [] = if nat_lt 0 k then ended_line 1 else []
body_text k locals (statement ∷ rest) =
    option_map_or
    (λ effect. if nat_le (statement_steps statement) k then effect.1 ++ body_text (k - statement_steps statement) effect.0 rest else [])
    (statement_effect locals statement)
    []

-- whether it ends in k steps
abbrev pub body_ends : ℕ → Locals → List Statement → Bool
body_ends k locals [] = nat_lt 0 k
body_ends k locals (statement ∷ rest) =
    option_map_or
    (λ effect. if nat_le (statement_steps statement) k then body_ends (k - statement_steps statement) effect.0 rest else false)
    (statement_effect locals statement)
    false

-- a step of a body, with what stays the same over it
pub record BodyStep (locals : Locals) (statements : List Statement) : Type 0 where
  pub after : List Statement
  pub locals_after : Locals
  pub traced : List ℕ
  pub steps : actor_step (Running statements locals) ≡ Some (Running after locals_after, traced)
  pub ready : Ready locals_after after
  pub text : (k : ℕ) → body_text (suc k) locals statements ≡ traced ++ body_text k locals_after after
  pub ends : (k : ℕ) → body_ends (suc k) locals statements ≡ body_ends k locals_after after

-- the first where m is at most n, under a test with the same outcome at k and l
if_enough : {A : Type 0} (m k : ℕ) (a b : A) → m ≤ k → (if nat_le m k then a else b) ≡ a
if_enough m k a b h = ap (λ t. if t then a else b) (le-leb m k h)

same_test : {A : Type 0} (m n k : ℕ) (f : ℕ → A) (b : A) → m ≡ suc n → (if nat_le m (suc k) then f (suc k - m) else b) ≡ (if nat_le n k then f (k - n) else b)
same_test m n k f b h =
    let test : nat_le m (suc k) ≡ nat_le n k = ap (λ x. nat_le x (suc k)) h ∙ leb-suc-suc n k in
    let left : suc k - m ≡ k - n = omega (arith, h) in
    ap (λ t. if t then f (suc k - m) else b) test ∙ ap (λ d. if nat_le n k then f d else b) left

step_finishes : (locals : Locals) (statement : Statement) (rest : List Statement) (effect : Locals × List ℕ)
    → statement_effect locals statement ≡ Some effect → Ready effect.0 rest → Finishes locals statement rest effect → BodyStep locals (statement ∷ rest)
step_finishes locals statement rest effect h ready last = record {
  after = rest;
  locals_after = effect.0;
  traced = effect.1;
  steps = last.steps;
  ready = ready;
  text = λ k.
      ap (λ o. option_map_or (λ effect. if nat_le (statement_steps statement) (suc k) then effect.1 ++ body_text (suc k - statement_steps statement) effect.0 rest else []) o []) h
      ∙ same_test (statement_steps statement) 0 k (λ d. effect.1 ++ body_text d effect.0 rest) [] last.last
      ∙ if_enough 0 k _ _ (omega arith) ∙ ap (λ d. effect.1 ++ body_text d effect.0 rest) (omega arith);
  ends = λ k.
      ap (λ o. option_map_or (λ effect. if nat_le (statement_steps statement) (suc k) then body_ends (suc k - statement_steps statement) effect.0 rest else false) o false) h
      ∙ same_test (statement_steps statement) 0 k (λ d. body_ends d effect.0 rest) false last.last
      ∙ if_enough 0 k _ _ (omega arith) ∙ ap (λ d. body_ends d effect.0 rest) (omega arith);
}

step_proceeds : (locals : Locals) (statement : Statement) (rest : List Statement) (effect : Locals × List ℕ)
    → statement_effect locals statement ≡ Some effect → Ready effect.0 rest → Proceeds locals statement rest effect → BodyStep locals (statement ∷ rest)
step_proceeds locals statement rest effect h ready go = record {
  after = go.after ∷ rest;
  locals_after = locals;
  traced = [];
  steps = go.steps;
  ready = (effect, go.effect_is, ready);
  text = λ k.
      ap (λ o. option_map_or (λ effect. if nat_le (statement_steps statement) (suc k) then effect.1 ++ body_text (suc k - statement_steps statement) effect.0 rest else []) o []) h
      ∙ same_test (statement_steps statement) (statement_steps go.after) k (λ d. effect.1 ++ body_text d effect.0 rest) [] go.less
      ∙ sym (ap (λ o. option_map_or (λ effect. if nat_le (statement_steps go.after) k then effect.1 ++ body_text (k - statement_steps go.after) effect.0 rest else []) o []) go.effect_is);
  ends = λ k.
      ap (λ o. option_map_or (λ effect. if nat_le (statement_steps statement) (suc k) then body_ends (suc k - statement_steps statement) effect.0 rest else false) o false) h
      ∙ same_test (statement_steps statement) (statement_steps go.after) k (λ d. body_ends d effect.0 rest) false go.less
      ∙ sym (ap (λ o. option_map_or (λ effect. if nat_le (statement_steps go.after) k then body_ends (k - statement_steps go.after) effect.0 rest else false) o false) go.effect_is);
}

pub body_step : (locals : Locals) (statement : Statement) (rest : List Statement) → Ready locals (statement ∷ rest) → BodyStep locals (statement ∷ rest)
body_step locals statement rest ready = elim (statement_goes locals statement rest ready.0 ready.1) [
  | inl last ↦ step_finishes locals statement rest ready.0 ready.1 ready.2 last
  | inr go ↦ step_proceeds locals statement rest ready.0 ready.1 ready.2 go
]

-- a statement takes a step at least
statement_some : (statement : Statement) → 1 ≤ statement_steps statement
statement_some (Assign name form) = omega arith
statement_some (Print items) = omega arith

if_none : {A : Type 0} (m : ℕ) (a b : A) → 1 ≤ m → (if nat_le m 0 then a else b) ≡ b
if_none zero a b h = absurd (omega arith)
if_none (suc m) a b h = ap (λ t. if t then a else b) (leb-suc-zero m)

none_in_none : {A B : Type 0} (m : ℕ) (f : A → B) (b : B) (o : Option A) → 1 ≤ m → option_map_or (λ x. if nat_le m 0 then f x else b) o b ≡ b
none_in_none m f b None h = refl
none_in_none m f b (Some x) h = if_none m (f x) b h

-- no steps trace nothing, and end nothing
pub body_text_none : (locals : Locals) (statements : List Statement) → body_text 0 locals statements ≡ []
body_text_none locals [] = refl
body_text_none locals (statement ∷ rest) =
    none_in_none (statement_steps statement) (λ effect. effect.1 ++ body_text (0 - statement_steps statement) effect.0 rest) [] (statement_effect locals statement) (statement_some statement)

pub body_ends_none : (locals : Locals) (statements : List Statement) → body_ends 0 locals statements ≡ false
body_ends_none locals [] = refl
body_ends_none locals (statement ∷ rest) =
    none_in_none (statement_steps statement) (λ effect. body_ends (0 - statement_steps statement) effect.0 rest) false (statement_effect locals statement) (statement_some statement)
