-- The code of forms put together from that of their parts.
use Rattle.std.proofs.Common.{◌≡◌, ℕ, zero, suc, ◌+◌, ◌-◌, Bool, true, false, List, [], ◌∷◌, ◌++◌, length, map, take, drop, reverse, Some, refl, sym, ap, ◌∙◌, arith, subst}
use Rattle.std.specs.Prelude.{slice_get}
use Rattle.std.proofs.lemmas.List.{append-nil, reverse-reverse}
use Rattle.brs_tokens.specs.declared.place.Place.{Place}
use Rattle.brs_grammar.specs.declared.tree.TypeWord.{TypeWord}
use Rattle.std.specs.Prelude.{Option}
use Rattle.brs_grammar.specs.Form as g
use Rattle.brs_grammar.specs.Form.{Text, Head, Form, Node, Forms, none, more, Params, unnamed, required, optional, Doing, Todo, finish, first}
use Rattle.brs_code.specs.declared.function.Function.{Function}
use Rattle.brs_code.specs.declared.instr.Instr.{Instr}
use Rattle.brs_code.specs.declared.instr.Instr.TheVariants as i
use Rattle.brs_code.specs.declared.instr.Operator.{Operator}
use Rattle.brs_code.specs.Instruction.{pops}
use Rattle.code_drafts.specs.declared.draft.Draft.{Draft, out-Draft}
use Rattle.code_drafts.specs.declared.draft.Draft.TheVariants as draft
use Rattle.code_drafts.specs.DraftCode.{form_code, forms_code, head_draft}
use Rattle.code_relation.specs.Heads.{count, head_instr}
use Rattle.code_relation.specs.Standing.{FunctionForm, Has, InstrAt, HeadAt, BetweenAt, FormAt, OperandsAt, OthersAt, FormsAt}
use Rattle.lowering_parts.specs.Places.{at_place, with_index}
use Rattle.code_lowering.specs.Lowered.{OneAt, CodeOf}
use Rattle.code_lowering.proofs.Numbers.{form_functions, forms_functions, head_functions, Law, law_none, law_map, law_both, law_from, law_as}
use Rattle.code_lowering.proofs.Split.{Parts, parts, First, first_of, nothing, code_ends, plain_one}
use Rattle.code_lowering.proofs.Heads.{Alone, alone, has_as}

-- ---- operands between which nothing stands

others_of : (f : Function) (fs : List FunctionForm) (h : Head) (line e : ℕ) → ((p : ℕ) → BetweenAt f p h line e p) → (p : ℕ) (xs : Forms) (q : ℕ) → FormsAt f fs p xs q → OthersAt f fs p h line xs e q
others_of f fs h line e free p none q s = s
others_of f fs h line e free p (more x xs) q s = (p, free p, s.0, s.1, others_of f fs h line e free s.0 xs q s.2)

operands_of : (f : Function) (fs : List FunctionForm) (h : Head) (line e : ℕ) → ((p : ℕ) → BetweenAt f p h line e p) → (p : ℕ) (xs : Forms) (q : ℕ) → FormsAt f fs p xs q → OperandsAt f fs p h line xs e q
operands_of f fs h line e free p none q s = s
operands_of f fs h line e free p (more x xs) q s = (s.0, s.1, others_of f fs h line e free s.0 xs q s.2)

-- ---- what the code of a part gives, wherever it stands

abbrev pub FormLaw : List Function → List FunctionForm → Function → Form → Type 0
FormLaw all fs f x = (p n o q m r : ℕ) → CodeOf all f p n o (form_code x) q m r → Law all fs n (form_functions x) m (FormAt f fs p x q)

abbrev pub FormsLaw : List Function → List FunctionForm → Function → Forms → Type 0
FormsLaw all fs f xs = (p n o q m r : ℕ) → CodeOf all f p n o (forms_code xs) q m r → Law all fs n (forms_functions xs) m (FormsAt f fs p xs q)

abbrev pub HeadLaw : List Function → List FunctionForm → Function → Head → (line k : ℕ) → Type 0
HeadLaw all fs f h line k = (p n o q m r : ℕ) → CodeOf all f p n o (head_draft h line k ∷ []) q m r → Law all fs n (head_functions h line) m (HeadAt f fs p h line k q)

pub no_forms : (all : List Function) (fs : List FunctionForm) (f : Function) → FormsLaw all fs f none
no_forms all fs f p n o q m r c =
    let z = nothing all f p n o q m r c in
    law_none all fs n m (FormsAt f fs p none q) z.number z.place

pub more_forms : (all : List Function) (fs : List FunctionForm) (f : Function) (x : Form) (xs : Forms) → FormLaw all fs f x → FormsLaw all fs f xs → FormsLaw all fs f (more x xs)
more_forms all fs f x xs a b p n o q m r c =
    let s = parts all f p n o (form_code x) (forms_code xs) q m r c in
    law_map all fs n (form_functions x ++ forms_functions xs) m _ (FormsAt f fs p (more x xs) q)
    (law_both all fs n (form_functions x) s.number (forms_functions xs) m (FormAt f fs p x s.at) (FormsAt f fs s.at xs q)
    (a p n o s.at s.number s.operands s.front) (b s.at s.number s.operands q m r s.back))
    (λ w. (s.at, w.0, w.1))

-- a form between whose operands nothing stands
pub free_form : (all : List Function) (fs : List FunctionForm) (f : Function) (h : Head) (at : Place) (xs : Forms) → ((p e : ℕ) → BetweenAt f p h at.line e p) → FormsLaw all fs f xs → HeadLaw all fs f h at.line (count xs)
    → (p n o q m r : ℕ) → CodeOf all f p n o (forms_code xs ++ head_draft h at.line (count xs) ∷ []) q m r → Law all fs n (forms_functions xs ++ head_functions h at.line) m (FormAt f fs p (Node h at xs) q)
free_form all fs f h at xs free a b p n o q m r c =
    let s = parts all f p n o (forms_code xs) (head_draft h at.line (count xs) ∷ []) q m r c in
    law_map all fs n (forms_functions xs ++ head_functions h at.line) m _ (FormAt f fs p (Node h at xs) q)
    (law_both all fs n (forms_functions xs) s.number (head_functions h at.line) m (FormsAt f fs p xs s.at) (HeadAt f fs s.at h at.line (count xs) q)
    (a p n o s.at s.number s.operands s.front) (b s.at s.number s.operands q m r s.back))
    (λ w. (s.at, operands_of f fs h at.line q (λ z. free z q) p xs s.at w.0, w.1))

-- ---- `and` and `or`

-- two operands, with a test between them that leads to the end of the form
pub tested_form : (all : List Function) (fs : List FunctionForm) (f : Function) (h : Head) (at : Place) (x y : Form) (test : ℕ → Instr) (operator : Operator)
    → ((p k : ℕ) → at_place p (test k) ≡ test (p + 1 + k)) → ((k : ℕ) → pops (test k) ≡ 1) → ((p e n : ℕ) → InstrAt f p (test e) at.line 1 n → BetweenAt f p h at.line e n) → FormLaw all fs f x → FormLaw all fs f y
    → ((p n o q m r : ℕ) → CodeOf all f p n o (draft.Plain (i.Binary operator) at.line ∷ []) q m r → Law all fs n [] m (HeadAt f fs p h at.line 2 q))
    → (p n o q m r : ℕ) → CodeOf all f p n o ((form_code x ++ ((draft.Plain (test (length (form_code y) + 1)) at.line ∷ form_code y) ++ [])) ++ draft.Plain (i.Binary operator) at.line ∷ []) q m r
    → Law all fs n ((form_functions x ++ (form_functions y ++ [])) ++ []) m (FormAt f fs p (Node h at (more x (more y none))) q)
tested_form all fs f h at x y test operator places takes between a b head p n o q m r c =
    let jump = draft.Plain (test (length (form_code y) + 1)) at.line in
    let s = parts all f p n o (form_code x ++ (jump ∷ (form_code y ++ []))) (draft.Plain (i.Binary operator) at.line ∷ []) q m r c in
    let t = parts all f p n o (form_code x) (jump ∷ (form_code y ++ [])) s.at s.number s.operands s.front in
    let u = first_of all f t.at t.number t.operands jump (form_code y ++ []) s.at s.number s.operands t.back in
    let v = parts all f (t.at + 1) u.number u.operands (form_code y) [] s.at s.number s.operands u.rest in
    let z = nothing all f v.at v.number v.operands s.at s.number s.operands v.back in
    let w = plain_one all f t.at t.number t.operands (test (length (form_code y) + 1)) at.line u.number u.operands u.one in
    let last = alone all f s.at s.number s.operands (draft.Plain (i.Binary operator) at.line) q m r s.back in
    let ends : v.at ≡ t.at + 1 + length (form_code y) = code_ends all f (t.at + 1) u.number u.operands (form_code y) v.at v.number v.operands v.front in
    let to : t.at + 1 + (length (form_code y) + 1) ≡ q = omega (arith, ends, z.place, last.next_place) in
    let here : InstrAt f t.at (test q) at.line 1 (t.at + 1) = record {
      has = has_as f t.at at.line (at_place t.at (test (length (form_code y) + 1))) (test q) (places t.at (length (form_code y) + 1) ∙ ap test to) w.has;
      takes = takes q;
      next = refl;
    } in
    law_map all fs n ((form_functions x ++ (form_functions y ++ [])) ++ []) m _ (FormAt f fs p (Node h at (more x (more y none))) q)
    (law_both all fs n (form_functions x ++ (form_functions y ++ [])) s.number [] m (FormAt f fs p x t.at × FormAt f fs (t.at + 1) y v.at) (HeadAt f fs s.at h at.line 2 q)
    (law_both all fs n (form_functions x) t.number (form_functions y ++ []) s.number (FormAt f fs p x t.at) (FormAt f fs (t.at + 1) y v.at)
    (a p n o t.at t.number t.operands t.front)
    (law_as all fs t.number (form_functions y) (form_functions y ++ []) s.number (FormAt f fs (t.at + 1) y v.at) (sym (append-nil (form_functions y)))
    (law_from all fs t.number u.number (form_functions y) v.number s.number (FormAt f fs (t.at + 1) y v.at) w.number z.number
    (b (t.at + 1) u.number u.operands v.at v.number v.operands v.front))))
    (head s.at s.number s.operands q m r s.back))
    (λ k. (s.at, (t.at, k.0.0, (t.at + 1, between t.at q (t.at + 1) here, v.at, k.0.1, z.place)), k.1))
