-- The code of forms stands to them.
use Rattle.std.proofs.Common.{◌≡◌, ℕ, zero, suc, ◌+◌, List, [], ◌∷◌, ◌++◌, length, reverse, Some, refl, sym, ap, ◌∙◌, arith, subst}
use Rattle.std.specs.Prelude.{slice_get, Option}
use Rattle.brs_grammar.specs.declared.tree.TypeWord.{TypeWord}
use Rattle.brs_code.specs.declared.function.ValueType.{ValueType}
use Rattle.code_drafts.specs.declared.draft.Draft.{Draft}
use Rattle.code_drafts.specs.declared.draft.DraftParameter.{DraftParameter}
use Rattle.brs_grammar.specs.Form as g
use Rattle.brs_grammar.specs.Form.{Text, Head, Form, Node, Forms, none, more, Params, unnamed, required, optional, Doing, Todo, finish, first}
use Rattle.brs_forms.specs.Words.{readable, text_of}
use Rattle.brs_code.specs.declared.function.Function.{Function}
use Rattle.brs_code.specs.declared.instr.Instr.TheVariants as i
use Rattle.brs_code.specs.declared.instr.Operator.TheVariants as op
use Rattle.brs_code.specs.Instruction.{pops}
use Rattle.code_drafts.specs.declared.draft.Draft.TheVariants as draft
use Rattle.code_drafts.specs.DraftCode.{form_code, forms_code, head_draft, params_code, params_drafts}
use Rattle.code_relation.specs.Heads.{count, head_instr, others, needed_of, value_type}
use Rattle.code_relation.specs.Standing.{FunctionForm, FunctionAt, AreDistinct, HeadAt}
use Rattle.code_lowering.specs.Lowered.{CodeOf, FunctionOf, FunctionHead, function_of}
use Rattle.code_lowering.specs.Takes.{FormTakes, HeadTakes, FormsTake, ParamsTake, DoingTakes, TodoTakes}
use Rattle.code_lowering.proofs.Numbers.{form_functions, head_functions, params_functions, todo_functions, Law, law_map, law_function}
use Rattle.code_lowering.proofs.Split.{Numbered, function_one}
use Rattle.code_lowering.proofs.Heads.{Alone, alone, plain_head, number_head, word_head, pairs_head, name_head}
use Rattle.code_lowering.proofs.Joined.{FormLaw, FormsLaw, HeadLaw, no_forms, more_forms, free_form, tested_form}
use Rattle.code_lowering.proofs.Statements.{TodoLaw, DoingLaw, finish_law, first_law, set_law, drop_law, return_law, exit_law, print_law, update_law, if_law, while_law, for_law, each_law}
use Rattle.code_lowering.proofs.Parameters.{ParamsLaw, unnamed_law, required_law, optional_law, body_code, function_law}

-- the distinct names of a function that is made
pub names_of : (all : List Function) (n line : ℕ) (ps : List DraftParameter) (needed : ℕ) (value : ValueType) (size : ℕ) (code : List Draft) (f : Function) (m : ℕ) → FunctionOf all n line ps needed value size code f m → AreDistinct f.names
names_of all n line ps needed value size code f m (function_of r c h) = h.distinct

-- an anonymous function
anonymous_law : (all : List Function) (fs : List FunctionForm) (f : Function) (kind : g.Kind) (ps : Params) (type : Option TypeWord) (body : Todo) (line k : ℕ) → ((j : ℕ) → pops (head_instr (g.Anonymous kind ps type body) j k) ≡ k)
    → ((h : Function) → ParamsLaw all fs h ps) → ((h : Function) → AreDistinct h.names → TodoLaw all fs h body) → HeadLaw all fs f (g.Anonymous kind ps type body) line k
anonymous_law all fs f kind ps type body line k takes a b p n o q m r c =
    let rest = body_code all fs f body in
    let form : FunctionForm = record { line = line; callee = record { params = ps; value = type; body = body } } in
    let s = alone all f p n o (draft.Function line (reverse (params_drafts 0 ps rest)) (needed_of ps) (value_type type) (length rest) (reverse (params_code 0 ps rest))) q m r c in
    let w = function_one all f p n o line (reverse (params_drafts 0 ps rest)) (needed_of ps) (value_type type) (length rest) (reverse (params_code 0 ps rest)) m r s.one in
    let distinct = names_of all n line (reverse (params_drafts 0 ps rest)) (needed_of ps) (value_type type) (length rest) (reverse (params_code 0 ps rest)) w.made w.number w.function in
    law_map all fs n ((params_functions ps ++ todo_functions body) ++ form ∷ []) m _ (HeadAt f fs p (g.Anonymous kind ps type body) line k q)
    (law_function all fs n (params_functions ps ++ todo_functions body) w.number m w.made form (sym w.next_number) w.stands
    (function_law all fs w.made n line ps type body w.number (a w.made) (b w.made distinct) w.function))
    (λ v. record { index = w.number; names = v; instr = record { has = w.has; takes = takes w.number; next = s.next_place } })

module _ (all : List Function) (fs : List FunctionForm) where
  mutual
    pub form_law : (x : Form) (f : Function) → FormTakes x → FormLaw all fs f x
    form_law (Node g.And at none) f t p n o q m r c = absurd (omega (arith, t.0 0))
    form_law (Node g.And at (more x none)) f t p n o q m r c = absurd (omega (arith, t.0 0))
    form_law (Node g.And at (more x (more y (more z zs)))) f t p n o q m r c = absurd (omega (arith, t.0 0))
    form_law (Node g.And at (more x (more y none))) f t p n o q m r c =
        tested_form all fs f g.And at x y i.AndTest op.And (λ p k. refl) (λ k. refl) (λ p e n w. w) (form_law x f t.2.0) (form_law y f t.2.1.0)
        (λ p n o q m r c. plain_head all f fs p n o at.line 2 q m r g.And (i.Binary op.And) refl tt refl c) p n o q m r c
    form_law (Node g.Or at none) f t p n o q m r c = absurd (omega (arith, t.0 0))
    form_law (Node g.Or at (more x none)) f t p n o q m r c = absurd (omega (arith, t.0 0))
    form_law (Node g.Or at (more x (more y (more z zs)))) f t p n o q m r c = absurd (omega (arith, t.0 0))
    form_law (Node g.Or at (more x (more y none))) f t p n o q m r c =
        tested_form all fs f g.Or at x y i.OrTest op.Or (λ p k. refl) (λ k. refl) (λ p e n w. w) (form_law x f t.2.0) (form_law y f t.2.1.0)
        (λ p n o q m r c. plain_head all f fs p n o at.line 2 q m r g.Or (i.Binary op.Or) refl tt refl c) p n o q m r c
    form_law (Node h at xs) f t p n o q m r c =
        free_form all fs f h at xs (λ p e. refl) (forms_law xs f t.2) (head_law h f at.line (count xs) t.0 t.1) p n o q m r c

    pub forms_law : (xs : Forms) (f : Function) → FormsTake xs → FormsLaw all fs f xs
    forms_law none f t = no_forms all fs f
    forms_law (more x xs) f t = more_forms all fs f x xs (form_law x f t.0) (forms_law xs f t.1)

    pub head_law : (h : Head) (f : Function) (line k : ℕ) → ((j : ℕ) → pops (head_instr h j k) ≡ k) → HeadTakes h k → HeadLaw all fs f h line k
    head_law (g.Number t) f line k takes w p n o q m r c = number_head all f fs p n o line k q m r t (takes 0) c
    head_law (g.Quoted t) f line k takes w p n o q m r c = word_head all f fs p n o line k q m r (g.Quoted t) (i.Text 0) (text_of t) (λ j. refl) (λ j e. e) takes c
    head_law (g.Name x) f line k takes w p n o q m r c = name_head all f fs p n o line k q m r x takes c
    head_law (g.Pairs keys) f line k takes w p n o q m r c = pairs_head all f fs p n o line k q m r keys takes c
    head_law (g.Member x) f line k takes w p n o q m r c = word_head all f fs p n o line k q m r (g.Member x) (i.Member 0) (readable x) (λ j. refl) (λ j e. e) takes c
    head_law (g.CallMember x) f line k takes w p n o q m r c = word_head all f fs p n o line k q m r (g.CallMember x) (i.CallMember 0 (others k)) (readable x) (λ j. refl) (λ j e. e) takes c
    head_law (g.Anonymous kind ps type body) f line k takes w p n o q m r c =
        anonymous_law all fs f kind ps type body line k takes (λ h. params_law ps h w.0) (λ h d. todo_law body h d w.1) p n o q m r c
    head_law h f line k takes w p n o q m r c = plain_head all f fs p n o line k q m r h (head_instr h 0 k) refl tt (takes 0) c

    pub params_law : (ps : Params) (f : Function) → ParamsTake ps → ParamsLaw all fs f ps
    params_law unnamed f t = unnamed_law all fs f
    params_law (required at x type ps) f t = required_law all fs f at x type ps (params_law ps f t)
    params_law (optional at x type e ps) f t = optional_law all fs f at x type e ps (form_law e f t.0) (params_law ps f t.1)

    pub doing_law : (d : Doing) (f : Function) (line k : ℕ) → AreDistinct f.names → DoingTakes d k → DoingLaw all fs f d line k
    doing_law (g.Set aim) f line k d t = set_law all fs f aim line k t
    doing_law (g.Update aim sign at e) f line k d t = update_law all fs f aim sign at e line k t.0 t.1 (form_law e f t.2)
    doing_law g.Drop f line k d t = drop_law all fs f line k t
    doing_law (g.Print marks) f line k d t = print_law all fs f marks line k
    doing_law g.Return f line k d t = return_law all fs f line k t
    doing_law (g.Exit kind) f line k d t = exit_law all fs f kind line k t
    doing_law (g.If a b) f line k d t = if_law all fs f a b line k t.0 (todo_law a f d t.1) (todo_law b f d t.2)
    doing_law (g.While e body) f line k d t = while_law all fs f e body line k t.0 (form_law e f t.1) (todo_law body f d t.2)
    doing_law (g.For at name body) f line k d t = for_law all fs f d at name body line k t.0 (todo_law body f d t.1)
    doing_law (g.ForEach at name body) f line k d t = each_law all fs f d at name body line k t.0 (todo_law body f d t.1)

    pub todo_law : (todo : Todo) (f : Function) → AreDistinct f.names → TodoTakes todo → TodoLaw all fs f todo
    todo_law finish f d t = finish_law all fs f
    todo_law (first x at xs rest) f d t = first_law all fs f x at xs rest (forms_law xs f t.0) (doing_law x f at.line (count xs) d t.1) (todo_law rest f d t.2)
