-- The code of parameters, and of functions from that of their parameters and bodies.
use Rattle.std.proofs.Common.{◌≡◌, ℕ, zero, suc, ◌+◌, ◌-◌, List, [], ◌∷◌, ◌++◌, length, reverse, Some, refl, sym, ap, ◌∙◌, arith, subst}
use Rattle.std.specs.Prelude.{slice_get, Option}
use Rattle.std.proofs.lemmas.List.{reverse-reverse}
use Rattle.brs_tokens.specs.declared.place.Place.{Place}
use Rattle.brs_grammar.specs.declared.tree.TypeWord.{TypeWord}
use Rattle.brs_grammar.specs.Form.{Text, Form, Params, unnamed, required, optional, Todo}
use Rattle.brs_code.specs.declared.function.Function.{Function}
use Rattle.brs_code.specs.declared.function.Parameter.{Parameter}
use Rattle.brs_code.specs.declared.instr.Instr.TheVariants as i
use Rattle.code_drafts.specs.declared.draft.Draft.{Draft, out-Draft}
use Rattle.code_drafts.specs.declared.draft.Draft.TheVariants as draft
use Rattle.code_drafts.specs.declared.draft.DraftParameter.{DraftParameter}
use Rattle.code_drafts.specs.DraftCode.{form_code, params_code, params_drafts, todo_code, no_loops}
use Rattle.code_relation.specs.Heads.{value_type, needed_of}
use Rattle.code_relation.specs.Standing as standing
use Rattle.code_relation.specs.Standing.{FunctionForm, FunctionAt, InstrAt, FormAt, BlockAt, ParametersAt, Has}
use Rattle.code_lowering.specs.Lowered.{ParameterOf, ParametersOf, CodeOf, FunctionOf, function_of}
use Rattle.code_lowering.proofs.Numbers.{form_functions, params_functions, todo_functions, Law, law_none, law_map, law_both, law_from}
use Rattle.code_lowering.proofs.Split.{Parts, parts, First, first_of, code_ends, plain_one}
use Rattle.code_lowering.proofs.Heads.{Alone, alone}
use Rattle.code_lowering.proofs.Joined.{FormLaw}
use Rattle.code_lowering.proofs.Statements.{Leads, TodoLaw}

-- the code of the defaults, and what is behind it
pub record Defaults (all : List Function) (fs : List FunctionForm) (f : Function) (number : ℕ) (ps : Params) (xs : List Parameter) (p n : ℕ) (rest : List Draft) (q m r : ℕ) : Type 0 where
  pub at : ℕ
  pub first : ℕ
  pub operands : ℕ
  pub law : Law all fs n (params_functions ps) first (ParametersAt f fs number p xs ps at)
  pub back : CodeOf all f at first operands rest q m r

abbrev pub ParamsLaw : List Function → List FunctionForm → Function → Params → Type 0
ParamsLaw all fs f ps = (number : ℕ) (rest : List Draft) (xs : List Parameter) (p n o q m r : ℕ) → ParametersOf f.names q (params_drafts number ps rest) xs → CodeOf all f p n o (params_code number ps rest) q m r
    → Defaults all fs f number ps xs p n rest q m r

module _ (all : List Function) (fs : List FunctionForm) (f : Function) where
  pub unnamed_law : ParamsLaw all fs f unnamed
  unnamed_law number rest [] p n o q m r had c = record { at = p; first = n; operands = o; law = law_none all fs n n (ParametersAt f fs number p [] unnamed p) refl refl; back = c }
  unnamed_law number rest (x ∷ xs) p n o q m r had c = absurd had

  pub required_law : (at : Place) (name : Text) (type : Option TypeWord) (ps : Params) → ParamsLaw all fs f ps → ParamsLaw all fs f (required at name type ps)
  required_law at name type ps a number rest [] p n o q m r had c = absurd had
  required_law at name type ps a number rest (x ∷ xs) p n o q m r had c =
      let d = a (number + 1) rest xs p n o q m r had.1 c in
      let ends : q ≡ p + length (params_code (number + 1) ps rest) = code_ends all f p n o (params_code (number + 1) ps rest) q m r c in
      let entry : x.entry ≡ p = omega (arith, had.0.entry, ends) in
      record {
        at = d.at;
        first = d.first;
        operands = d.operands;
        back = d.back;
        law = law_map all fs n (params_functions ps) d.first _ (ParametersAt f fs number p (x ∷ xs) (required at name type ps) d.at) d.law (λ w. (entry, had.0.kind, had.0.slot, w));
      }

  pub optional_law : (at : Place) (name : Text) (type : Option TypeWord) (e : Form) (ps : Params) → FormLaw all fs f e → ParamsLaw all fs f ps → ParamsLaw all fs f (optional at name type e ps)
  optional_law at name type e ps b a number rest [] p n o q m r had c = absurd had
  optional_law at name type e ps b a number rest (x ∷ xs) p n o q m r had c =
      let bind = draft.Plain (i.Bind number) at.line in
      let behind = params_code (number + 1) ps rest in
      let s = parts all f p n o (form_code e) (bind ∷ behind) q m r c in
      let t = first_of all f s.at s.number s.operands bind behind q m r s.back in
      let w = plain_one all f s.at s.number s.operands (i.Bind number) at.line t.number t.operands t.one in
      let d = a (number + 1) rest xs (s.at + 1) t.number t.operands q m r had.1 t.rest in
      let ends : q ≡ p + length (form_code e ++ bind ∷ behind) = code_ends all f p n o (form_code e ++ bind ∷ behind) q m r c in
      let entry : x.entry ≡ p = omega (arith, had.0.entry, ends) in
      record {
        at = d.at;
        first = d.first;
        operands = d.operands;
        back = d.back;
        law = law_map all fs n (form_functions e ++ params_functions ps) d.first _ (ParametersAt f fs number p (x ∷ xs) (optional at name type e ps) d.at)
            (law_both all fs n (form_functions e) t.number (params_functions ps) d.first (FormAt f fs p e s.at) (ParametersAt f fs (number + 1) (s.at + 1) xs ps d.at)
            (law_from all fs n n (form_functions e) s.number t.number (FormAt f fs p e s.at) refl w.number (b p n o s.at s.number s.operands s.front))
            d.law)
            (λ v. (entry, had.0.kind, had.0.slot, s.at, v.0, s.at + 1, record { has = w.has; takes = refl; next = refl }, v.1));
      }

  -- ---- functions

  abbrev pub body_code : Todo → List Draft
  body_code body = todo_code no_loops body ++ draft.Plain i.End 0 ∷ []

  pub function_law : (n line : ℕ) (ps : Params) (type : Option TypeWord) (body : Todo) (m : ℕ) → ParamsLaw all fs f ps → TodoLaw all fs f body
      → FunctionOf all n line (reverse (params_drafts 0 ps (body_code body))) (needed_of ps) (value_type type) (length (body_code body)) (reverse (params_code 0 ps (body_code body))) f m
      → Law all fs n (params_functions ps ++ todo_functions body) m (FunctionAt fs f (record { line = line; callee = record { params = ps; value = type; body = body } }))
  function_law n line ps type body m a b (function_of r c h) =
      let code = params_code 0 ps (body_code body) in
      let drafts = params_drafts 0 ps (body_code body) in
      let q = length (reverse code) in
      let c' : CodeOf all f 0 n 0 code q m r = subst (λ l. CodeOf all f 0 n 0 l q m r) (reverse-reverse code) c in
      let had : ParametersOf f.names q drafts f.parameters = subst (λ l. ParametersOf f.names q l f.parameters) (reverse-reverse drafts) h.parameters_are in
      let d = a 0 (body_code body) f.parameters 0 n 0 q m r had c' in
      let s = parts all f d.at d.first d.operands (todo_code no_loops body) (draft.Plain i.End 0 ∷ []) q m r d.back in
      let e = alone all f s.at s.number s.operands (draft.Plain i.End 0) q m r s.back in
      let w = plain_one all f s.at s.number s.operands i.End 0 m r e.one in
      let ends : q ≡ d.at + length (body_code body) = code_ends all f d.at d.first d.operands (body_code body) q m r d.back in
      let start : f.start ≡ d.at = omega (arith, h.start_is, ends) in
      let leads : Leads s.at no_loops (standing.no_loops s.at) = record { for_place = omega arith; for_count = refl; while_place = omega arith; while_count = refl } in
      law_map all fs n (params_functions ps ++ todo_functions body) m _ (FunctionAt fs f (record { line = line; callee = record { params = ps; value = type; body = body } }))
      (law_both all fs n (params_functions ps) d.first (todo_functions body) m (ParametersAt f fs 0 0 f.parameters ps d.at) (BlockAt f fs (standing.no_loops s.at) d.at body s.at)
      d.law
      (law_from all fs d.first d.first (todo_functions body) s.number m (BlockAt f fs (standing.no_loops s.at) d.at body s.at) refl w.number
      (b no_loops (standing.no_loops s.at) d.at d.first d.operands s.at s.number s.operands leads s.front)))
      (λ v. record {
        line = h.line_is;
        value = h.value_is;
        needed = h.needs;
        names = h.distinct;
        entry = 0;
        parameters = subst (λ k. ParametersAt f fs 0 0 f.parameters ps k) (sym start) v.0;
        end = s.at;
        body = subst (λ k. BlockAt f fs (standing.no_loops s.at) k body s.at) (sym start) v.1;
        leaves = w.has;
      })
