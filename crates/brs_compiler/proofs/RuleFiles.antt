-- The code of a file keeps the file part of the rule.
use Rattle.std.proofs.Common.{◌≡◌, ℕ, ◌+◌, ◌-◌, ◌<◌, ◌≤◌, List, [], ◌∷◌, length, map, reverse, Option, refl, arith, subst}
use Rattle.std.specs.Prelude.{All}
use Rattle.std.proofs.lemmas.List.Elements.{All-nil, All-cons, All-head, All-tail}
use Rattle.std.proofs.lemmas.Option.{slice_get_within}
use Rattle.brs_grammar.specs.declared.tree.TypeWord.{TypeWord}
use Rattle.brs_grammar.specs.Form as g
use Rattle.brs_grammar.specs.Form.{Text, Head, Form, Node, Forms, none, more, Params, unnamed, required, optional, Doing, Todo, finish, first}
use Rattle.brs_grammar.specs.View.{Callee}
use Rattle.brs_forms.specs.Words.{readable, text_of}
use Rattle.brs_code.specs.declared.code.Code.{Code}
use Rattle.brs_code.specs.declared.function.Function.{Function}
use Rattle.brs_code.specs.declared.function.ValueType.{ValueType}
use Rattle.brs_code.specs.declared.instr.Instr.TheVariants as i
use Rattle.brs_code.specs.declared.instr.Operator.TheVariants as op
use Rattle.brs_code.specs.Instruction.{pops}
use Rattle.brs_code.specs.Rule.{LeadsTo, FunctionRule, IsFilePart}
use Rattle.code_drafts.specs.declared.draft.Draft.{Draft, out-Draft}
use Rattle.code_drafts.specs.declared.draft.Draft.TheOpen as opened
use Rattle.code_drafts.specs.declared.draft.Draft.TheVariants as draft
use Rattle.code_drafts.specs.declared.draft.DraftParameter.{DraftParameter}
use Rattle.code_drafts.specs.DraftCode.{head_draft, params_code, params_drafts, function_draft}
use Rattle.code_relation.specs.Heads.{count, head_instr, others, needed_of, value_type}
use Rattle.code_relation.specs.Standing.{FunctionForm}
use Rattle.code_lowering.specs.Lowered as lowered
use Rattle.code_lowering.specs.Lowered.{CodeOf, FunctionOf, function_of, NamedOf, named_of, FileOf, next_function}
use Rattle.code_lowering.specs.Takes.{FormTakes, HeadTakes, FormsTake, ParamsTake, DoingTakes, TodoTakes, CalleeTakes, FunctionTakes, form_draft}
use Rattle.code_lowering.proofs.Split.{function_one, opens_function}
use Rattle.code_lowering.proofs.Heads.{alone}
use Rattle.brs_compiler.proofs.RuleParts.{each_of, keeps_at, Functions, functions_none, functions_both, functions_one}
use Rattle.brs_compiler.proofs.RuleForms.{FormRule, FormsRule, OneRule, no_forms_rule, more_forms_rule, free_form_rule, tested_form_rule, plain_rule, number_rule, word_rule, pairs_rule, name_rule}
use Rattle.brs_compiler.proofs.RuleStatements.{TodoRule, DoingRule, finish_rule, first_rule, set_rule, drop_rule, print_rule, return_rule, exit_rule, update_rule, if_rule, while_rule, for_rule, each_rule}
use Rattle.brs_compiler.proofs.RuleFunctions.{ParamsRule, unnamed_rule, required_rule, optional_rule, ended, Whole, function_rule}

-- no function of a file comes behind those of others
first_is : (all : List Function) (n line : ℕ) (ps : List DraftParameter) (needed : ℕ) (value : ValueType) (size : ℕ) (code : List Draft) (f : Function) (m : ℕ) → FunctionOf all n line ps needed value size code f m → f.first ≡ 0
first_is all n line ps needed value size code f m (function_of r c h) = h.first_is

-- an anonymous function
anonymous_rule : (all : List Function) (f : Function) (ps : Params) (type : Option TypeWord) (body : Todo) (line k : ℕ) → f.first ≡ 0 → 0 ≡ k → ((h : Function) → h.first ≡ 0 → ParamsRule all h ps) → ((h : Function) → h.first ≡ 0 → TodoRule all h body)
    → OneRule all f (draft.Function line (reverse (params_drafts 0 ps (ended all f body))) (needed_of ps) (value_type type) (length (ended all f body)) (reverse (params_code 0 ps (ended all f body)))) k 1
anonymous_rule all f ps type body line k own single a b p n o q m r most c =
    let rest = ended all f body in
    let s = alone all f p n o (draft.Function line (reverse (params_drafts 0 ps rest)) (needed_of ps) (value_type type) (length rest) (reverse (params_code 0 ps rest))) q m r c in
    let w = function_one all f p n o line (reverse (params_drafts 0 ps rest)) (needed_of ps) (value_type type) (length rest) (reverse (params_code 0 ps rest)) m r s.one in
    let begins = first_is all n line (reverse (params_drafts 0 ps rest)) (needed_of ps) (value_type type) (length rest) (reverse (params_code 0 ps rest)) w.made w.number w.function in
    let inner = function_rule all w.made n line ps type body w.number (a w.made begins) (b w.made begins) w.function in
    let number : w.number < length all = slice_get_within all w.number w.made w.stands in
    let left : r ≡ o - 0 + 1 = w.stands_at.leaves in
    record {
      order = omega (arith, inner.order, w.next_number);
      functions = functions_both all n w.number m inner.functions (functions_one all w.number m w.made w.next_number w.stands inner.rule);
      leaves = omega (arith, left, single);
      keeps = λ l h. keeps_at f (length all) p o (i.Function w.number) line r q w.stands_at s.next_place (omega arith) (subst (λ j. LeadsTo f.code q j) left l) tt (λ j. tt) (omega (arith, own, number));
    }

module _ (all : List Function) where
  mutual
    form_rule : (x : Form) (f : Function) → f.first ≡ 0 → FormTakes x → FormRule all f x
    form_rule (Node g.And at none) f z t p n o q m r c = absurd (omega (arith, t.0 0))
    form_rule (Node g.And at (more x none)) f z t p n o q m r c = absurd (omega (arith, t.0 0))
    form_rule (Node g.And at (more x (more y (more u us)))) f z t p n o q m r c = absurd (omega (arith, t.0 0))
    form_rule (Node g.And at (more x (more y none))) f z t p n o q m r c =
        tested_form_rule all f at x y i.AndTest op.And (λ p k. refl)
        (λ a p o line r q e s h most l k. keeps_at f a p o (i.AndTest e) line r q s h most l k (λ j. absurd (cc)) tt) (λ p o line r e s. s.leaves)
        (form_rule x f z t.2.0) (form_rule y f z t.2.1.0) (plain_rule all f (i.Binary op.And) at.line 2 1 (λ p. refl) refl refl refl tt) p n o q m r c
    form_rule (Node g.Or at none) f z t p n o q m r c = absurd (omega (arith, t.0 0))
    form_rule (Node g.Or at (more x none)) f z t p n o q m r c = absurd (omega (arith, t.0 0))
    form_rule (Node g.Or at (more x (more y (more u us)))) f z t p n o q m r c = absurd (omega (arith, t.0 0))
    form_rule (Node g.Or at (more x (more y none))) f z t p n o q m r c =
        tested_form_rule all f at x y i.OrTest op.Or (λ p k. refl)
        (λ a p o line r q e s h most l k. keeps_at f a p o (i.OrTest e) line r q s h most l k (λ j. absurd (cc)) tt) (λ p o line r e s. s.leaves)
        (form_rule x f z t.2.0) (form_rule y f z t.2.1.0) (plain_rule all f (i.Binary op.Or) at.line 2 1 (λ p. refl) refl refl refl tt) p n o q m r c
    form_rule (Node h at xs) f z t p n o q m r c = free_form_rule all f h at xs (forms_rule xs f z t.2) (head_rule h f z at.line (count xs) t.0 t.1) p n o q m r c

    forms_rule : (xs : Forms) (f : Function) → f.first ≡ 0 → FormsTake xs → FormsRule all f xs
    forms_rule none f z t = no_forms_rule all f
    forms_rule (more x xs) f z t = more_forms_rule all f x xs (form_rule x f z t.0) (forms_rule xs f z t.1)

    head_rule : (h : Head) (f : Function) → f.first ≡ 0 → (line k : ℕ) → ((j : ℕ) → pops (head_instr h j k) ≡ k) → HeadTakes h k → OneRule all f (head_draft h line k) k 1
    head_rule (g.Number t) f z line k takes w = number_rule all f t line k (takes 0)
    head_rule (g.Quoted t) f z line k takes w = word_rule all f (i.Text 0) (text_of t) line k 1 i.Text (λ p j. refl) (λ j. refl) (λ j. refl) takes (λ j h. h)
    head_rule (g.Name x) f z line k takes w = name_rule all f x line k (takes 0)
    head_rule (g.Pairs keys) f z line k takes w = pairs_rule all f keys line k w
    head_rule (g.Member x) f z line k takes w = word_rule all f (i.Member 0) (readable x) line k 1 i.Member (λ p j. refl) (λ j. refl) (λ j. refl) takes (λ j h. h)
    head_rule (g.CallMember x) f z line k takes w =
        word_rule all f (i.CallMember 0 (others k)) (readable x) line k 1 (λ j. i.CallMember j (others k)) (λ p j. refl) (λ j. refl) (λ j. refl) takes (λ j h. h)
    head_rule (g.Anonymous kind ps type body) f z line k takes w = anonymous_rule all f ps type body line k z (takes 0) (λ h e. params_rule ps h e w.0) (λ h e. todo_rule body h e w.1)
    head_rule h f z line k takes w = plain_rule all f (head_instr h 0 k) line k 1 (λ p. refl) refl refl (takes 0) tt

    params_rule : (ps : Params) (f : Function) → f.first ≡ 0 → ParamsTake ps → ParamsRule all f ps
    params_rule unnamed f z t = unnamed_rule all f
    params_rule (required at x type ps) f z t = required_rule all f at x type ps (params_rule ps f z t)
    params_rule (optional at x type e ps) f z t = optional_rule all f at x type e ps (form_rule e f z t.0) (params_rule ps f z t.1)

    doing_rule : (d : Doing) (f : Function) → f.first ≡ 0 → (line k : ℕ) → DoingTakes d k → DoingRule all f d line k
    doing_rule (g.Set aim) f z line k t = set_rule all f aim line k t
    doing_rule (g.Update aim sign at e) f z line k t = update_rule all f aim sign at e line k t.0 t.1 (form_rule e f z t.2)
    doing_rule g.Drop f z line k t = drop_rule all f line k t
    doing_rule (g.Print marks) f z line k t = print_rule all f marks line k t
    doing_rule g.Return f z line k t = return_rule all f line k t
    doing_rule (g.Exit kind) f z line k t = exit_rule all f kind line k t
    doing_rule (g.If a b) f z line k t = if_rule all f a b line k t.0 (todo_rule a f z t.1) (todo_rule b f z t.2)
    doing_rule (g.While e body) f z line k t = while_rule all f e body line k t.0 (form_rule e f z t.1) (todo_rule body f z t.2)
    doing_rule (g.For at name body) f z line k t = for_rule all f at name body line k t.0 (todo_rule body f z t.1)
    doing_rule (g.ForEach at name body) f z line k t = each_rule all f at name body line k t.0 (todo_rule body f z t.1)

    todo_rule : (todo : Todo) (f : Function) → f.first ≡ 0 → TodoTakes todo → TodoRule all f todo
    todo_rule finish f z t = finish_rule all f
    todo_rule (first x at xs rest) f z t = first_rule all f x at xs rest (forms_rule xs f z t.0) (doing_rule x f z at.line (count xs) t.1) (todo_rule rest f z t.2)

  -- ---- functions

  opened_function : (n line : ℕ) (ps : List DraftParameter) (needed : ℕ) (value : ValueType) (size : ℕ) (code : List Draft) (f : Function) (m : ℕ) → NamedOf all n (opened.Function line ps needed value size code) f m
      → FunctionOf all n line ps needed value size code f m
  opened_function n line ps needed value size code f m (named_of a) = a

  callee_rule : (n line : ℕ) (c : Callee) (f : Function) (m : ℕ) → CalleeTakes c → NamedOf all n (out-Draft (function_draft line c)) f m → Whole all f n m
  callee_rule n line c f m t a =
      let rest = ended all f c.body in
      let ps = reverse (params_drafts 0 c.params rest) in
      let code = reverse (params_code 0 c.params rest) in
      let made : FunctionOf all n line ps (needed_of c.params) (value_type c.value) (length rest) code f m =
      opened_function n line ps (needed_of c.params) (value_type c.value) (length rest) code f m
      (subst (λ d. NamedOf all n d f m) (opens_function line ps (needed_of c.params) (value_type c.value) (length rest) code) a) in
      let begins = first_is all n line ps (needed_of c.params) (value_type c.value) (length rest) code f m made in
      function_rule all f n line c.params c.value c.body m (params_rule c.params f begins t.0) (todo_rule c.body f begins t.1) made

  -- the named functions of a file keep the rule, and so do the anonymous functions inside them
  record Named (n m : ℕ) (gs : List Function) : Type 0 where
    order : n ≤ m
    functions : Functions all n m
    rules : All (FunctionRule (length all)) gs

  file_rule : (xs : List FunctionForm) (n : ℕ) (gs : List Function) (m : ℕ) → All FunctionTakes xs → FileOf all n (map form_draft xs) gs m → Named n m gs
  file_rule [] n [] m t lowered.none = record { order = omega arith; functions = functions_none all n n (omega arith); rules = All-nil (FunctionRule (length all)) }
  file_rule [] n (g ∷ gs) m t a = elim a [ ]
  file_rule (x ∷ xs) n [] m t a = elim a [ ]
  file_rule (x ∷ xs) n (g ∷ gs) m t (next_function k a rest) =
      let one = callee_rule n x.line x.callee g k (All-head FunctionTakes x xs t) a in
      let others = file_rule xs k gs m (All-tail FunctionTakes x xs t) rest in
      record {
        order = omega (arith, one.order, others.order);
        functions = functions_both all n k m one.functions others.functions;
        rules = All-cons (FunctionRule (length all)) g gs one.rule others.rules;
      }

pub file_part : (code : Code) (drafts : List Draft) → FileOf code.anonymous 0 drafts code.named (length code.anonymous) → (forms : List FunctionForm) → drafts ≡ map form_draft forms → All FunctionTakes forms → IsFilePart code
file_part code drafts a forms e t =
    let all = code.anonymous in
    let whole = file_rule all forms 0 code.named (length all) t (subst (λ ds. FileOf all 0 ds code.named (length all)) e a) in
    record {
      named = whole.rules;
      anonymous = each_of (FunctionRule (length all)) all (λ k x h. let w = whole.functions k (omega arith) (slice_get_within all k x h) in
          let same : w.0 ≡ x = cc (w.1, h) in
          subst (λ g. FunctionRule (length all) g) same w.2);
    }
