-- The code of functions keeps the rule.
use Rattle.std.proofs.Common.{◌≡◌, ℕ, ◌+◌, ◌-◌, ◌≤◌, List, [], ◌∷◌, ◌++◌, length, reverse, Option, Some, refl, sym, ◌∙◌, arith, subst}
use Rattle.std.specs.Prelude.{slice_get, All}
use Rattle.std.proofs.lemmas.List.{reverse-reverse}
use Rattle.std.proofs.lemmas.List.Elements.{All-nil, All-cons}
use Rattle.std.proofs.lemmas.Option.{slice_get_within}
use Rattle.brs_tokens.specs.declared.place.Place.{Place}
use Rattle.brs_grammar.specs.declared.tree.TypeWord.{TypeWord}
use Rattle.brs_grammar.specs.Form.{Text, Form, Params, unnamed, required, optional, Todo}
use Rattle.brs_code.specs.declared.function.Function.{Function}
use Rattle.brs_code.specs.declared.function.Parameter.{Parameter}
use Rattle.brs_code.specs.declared.instr.Instr.TheVariants as i
use Rattle.brs_code.specs.Rule.{LeadsTo, ParameterRule, FunctionRule}
use Rattle.code_drafts.specs.declared.draft.Draft.{Draft}
use Rattle.code_drafts.specs.declared.draft.Draft.TheVariants as draft
use Rattle.code_drafts.specs.DraftCode.{form_code, params_code, params_drafts, todo_code, no_loops}
use Rattle.code_relation.specs.Heads.{value_type, needed_of}
use Rattle.code_lowering.specs.Lowered.{ParametersOf, CodeOf, FunctionOf, function_of}
use Rattle.code_lowering.proofs.Split.{parts, first_of, code_ends, plain_one}
use Rattle.code_lowering.proofs.Heads.{alone, first_alone}
use Rattle.brs_compiler.proofs.RuleParts.{Keeps, keeps_none, keeps_both, keeps_at, keeps_all, leads_front, leads_here, leads_as, Functions, functions_none, functions_both}
use Rattle.brs_compiler.proofs.RuleForms.{FormRule, plain_rule}
use Rattle.brs_compiler.proofs.RuleStatements.{Ways, TodoRule}

-- The code of the defaults from p to `at`, with what is behind it. The function has `number` parameters before these.
pub record Defaulted (all : List Function) (f : Function) (xs : List Parameter) (p n : ℕ) (rest : List Draft) (q m r : ℕ) : Type 0 where
  pub at : ℕ
  pub first : ℕ
  pub operands : ℕ
  pub order : n ≤ first
  pub functions : Functions all n first
  pub none : operands ≡ 0
  pub back : CodeOf all f at first operands rest q m r
  pub parameters : LeadsTo f.code at 0 → All (ParameterRule f) xs
  pub keeps : LeadsTo f.code at 0 → Keeps f (length all) p at
  pub begins : LeadsTo f.code at 0 → LeadsTo f.code p 0

abbrev pub ParamsRule : List Function → Function → Params → Type 0
ParamsRule all f ps = (number : ℕ) (rest : List Draft) (xs : List Parameter) (p n o q m r : ℕ) → o ≡ 0 → number + length xs ≡ length f.parameters → ParametersOf f.names q (params_drafts number ps rest) xs
    → CodeOf all f p n o (params_code number ps rest) q m r → Defaulted all f xs p n rest q m r

module _ (all : List Function) (f : Function) where
  parameter_rule : (x : Parameter) (p : ℕ) (name : List ℕ) → slice_get f.names x.slot ≡ Some name → x.entry ≡ p → LeadsTo f.code p 0 → ParameterRule f x
  parameter_rule x p name e z l = record { slot = slice_get_within f.names x.slot name e; entry = leads_as f p x.entry 0 0 (sym z) refl l }

  pub unnamed_rule : ParamsRule all f unnamed
  unnamed_rule number rest [] p n o q m r none many had c = record {
    at = p;
    first = n;
    operands = o;
    order = omega arith;
    functions = functions_none all n n (omega arith);
    none = none;
    back = c;
    parameters = λ l. All-nil (ParameterRule f);
    keeps = λ l. keeps_none f (length all) p p (omega arith);
    begins = λ l. l;
  }
  unnamed_rule number rest (x ∷ xs) p n o q m r none many had c = absurd had

  pub required_rule : (at : Place) (name : Text) (type : Option TypeWord) (ps : Params) → ParamsRule all f ps → ParamsRule all f (required at name type ps)
  required_rule at name type ps a number rest [] p n o q m r none many had c = absurd had
  required_rule at name type ps a number rest (x ∷ xs) p n o q m r none many had c =
      let d = a (number + 1) rest xs p n o q m r none (omega (arith, many)) had.1 c in
      let ends : q ≡ p + length (params_code (number + 1) ps rest) = code_ends all f p n o (params_code (number + 1) ps rest) q m r c in
      let entry : x.entry ≡ p = omega (arith, had.0.entry, ends) in
      record {
        at = d.at;
        first = d.first;
        operands = d.operands;
        order = d.order;
        functions = d.functions;
        none = d.none;
        back = d.back;
        parameters = λ l. All-cons (ParameterRule f) x xs (parameter_rule x p name had.0.slot entry (d.begins l)) (d.parameters l);
        keeps = d.keeps;
        begins = d.begins;
      }

  pub optional_rule : (at : Place) (name : Text) (type : Option TypeWord) (e : Form) (ps : Params) → FormRule all f e → ParamsRule all f ps → ParamsRule all f (optional at name type e ps)
  optional_rule at name type e ps b a number rest [] p n o q m r none many had c = absurd had
  optional_rule at name type e ps b a number rest (x ∷ xs) p n o q m r none many had c =
      let bind = draft.Plain (i.Bind number) at.line in
      let behind = params_code (number + 1) ps rest in
      let s = parts all f p n o (form_code e) (bind ∷ behind) q m r c in
      let t = first_of all f s.at s.number s.operands bind behind q m r s.back in
      let w = plain_one all f s.at s.number s.operands (i.Bind number) at.line t.number t.operands t.one in
      let one = b p n o s.at s.number s.operands s.front in
      let two = plain_rule all f (i.Bind number) at.line 1 0 (λ p. refl) refl refl refl (omega (arith, many)) s.at s.number s.operands (s.at + 1) t.number t.operands (omega (arith, one.leaves))
      (first_alone all f s.at s.number s.operands bind t.number t.operands t.one) in
      let bound : t.operands ≡ 0 = omega (arith, one.leaves, two.leaves, none) in
      let d = a (number + 1) rest xs (s.at + 1) t.number t.operands q m r bound (omega (arith, many)) had.1 t.rest in
      let ends : q ≡ p + length (form_code e ++ bind ∷ behind) = code_ends all f p n o (form_code e ++ bind ∷ behind) q m r c in
      let entry : x.entry ≡ p = omega (arith, had.0.entry, ends) in
      let at_bind : LeadsTo f.code s.at s.operands = leads_here f s.at s.operands (i.Bind number) at.line t.operands w.stands in
      let at_start : LeadsTo f.code p 0 = leads_as f p p o 0 refl none (leads_front all f p n o (form_code e) s.at s.number s.operands s.front at_bind) in
      record {
        at = d.at;
        first = d.first;
        operands = d.operands;
        order = omega (arith, one.order, two.order, d.order);
        functions = functions_both all n s.number d.first one.functions (functions_both all s.number t.number d.first two.functions d.functions);
        none = d.none;
        back = d.back;
        parameters = λ l. All-cons (ParameterRule f) x xs (parameter_rule x p name had.0.slot entry at_start) (d.parameters l);
        keeps = λ l. keeps_both f (length all) p s.at d.at (one.keeps at_bind tt)
            (keeps_both f (length all) s.at (s.at + 1) d.at (two.keeps (leads_as f (s.at + 1) (s.at + 1) 0 t.operands refl (sym bound) (d.begins l)) tt) (d.keeps l));
        begins = λ l. at_start;
      }

  -- ---- functions

  abbrev pub ended : Todo → List Draft
  ended body = todo_code no_loops body ++ draft.Plain i.End 0 ∷ []

  -- the function keeps the rule, and so do the anonymous functions inside it
  pub record Whole (n m : ℕ) : Type 0 where
    pub order : n ≤ m
    pub functions : Functions all n m
    pub rule : FunctionRule (length all) f

  pub function_rule : (n line : ℕ) (ps : Params) (type : Option TypeWord) (body : Todo) (m : ℕ) → ParamsRule all f ps → TodoRule all f body
      → FunctionOf all n line (reverse (params_drafts 0 ps (ended body))) (needed_of ps) (value_type type) (length (ended body)) (reverse (params_code 0 ps (ended body))) f m
      → Whole n m
  function_rule n line ps type body m a b (function_of r c h) =
      let code = params_code 0 ps (ended body) in
      let drafts = params_drafts 0 ps (ended body) in
      let q = length (reverse code) in
      let c' : CodeOf all f 0 n 0 code q m r = subst (λ l. CodeOf all f 0 n 0 l q m r) (reverse-reverse code) c in
      let had : ParametersOf f.names q drafts f.parameters = subst (λ l. ParametersOf f.names q l f.parameters) (reverse-reverse drafts) h.parameters_are in
      let d = a 0 (ended body) f.parameters 0 n 0 q m r refl (omega arith) had c' in
      let s = parts all f d.at d.first d.operands (todo_code no_loops body) (draft.Plain i.End 0 ∷ []) q m r d.back in
      let e = alone all f s.at s.number s.operands (draft.Plain i.End 0) q m r s.back in
      let w = plain_one all f s.at s.number s.operands i.End 0 m r e.one in
      let ends : q ≡ d.at + length (ended body) = code_ends all f d.at d.first d.operands (ended body) q m r d.back in
      let start : f.start ≡ d.at = omega (arith, h.start_is, ends) in
      let two = b no_loops d.at d.first d.operands s.at s.number s.operands s.front in
      let zero_left : s.operands ≡ 0 = two.leaves ∙ d.none in
      let at_end : LeadsTo f.code s.at s.operands = leads_here f s.at s.operands i.End 0 r w.stands in
      let at_end_none : LeadsTo f.code s.at 0 = leads_as f s.at s.at s.operands 0 refl zero_left at_end in
      let at_body : LeadsTo f.code d.at 0 = leads_as f d.at d.at d.operands 0 refl d.none (leads_front all f d.at d.first d.operands (todo_code no_loops body) s.at s.number s.operands s.front at_end) in
      let ways : Ways f s.at d.operands no_loops = record {
        for_count = omega arith;
        for_leads = leads_as f s.at (s.at + 0) 0 (d.operands - 0) (omega arith) (omega (arith, d.none)) at_end_none;
        while_count = omega arith;
        while_leads = leads_as f s.at (s.at + 0) 0 (d.operands - 0) (omega arith) (omega (arith, d.none)) at_end_none;
      } in
      record {
        order = omega (arith, d.order, two.order, w.number);
        functions = functions_both all n d.first m d.functions (subst (λ j. Functions all d.first j) w.number two.functions);
        rule = record {
          first = omega (arith, h.first_is);
          start = leads_as f d.at f.start 0 0 (sym start) refl at_body;
          parameters = d.parameters at_body;
          instructions = keeps_all f (length all) q (omega (arith, h.ends))
              (keeps_both f (length all) 0 d.at q (d.keeps at_body)
              (keeps_both f (length all) d.at s.at q (two.keeps at_end ways)
              (keeps_at f (length all) s.at s.operands i.End 0 r q w.stands e.next_place (omega arith) tt tt (λ j. tt) tt)));
        };
      }
