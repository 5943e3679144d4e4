-- The code of functions stands to them.
use Rattle.std.proofs.Common.{◌≡◌, ℕ, zero, suc, ◌+◌, List, [], ◌∷◌, ◌++◌, length, map, reverse, Some, refl, sym, ap, ◌∙◌, arith, subst}
use Rattle.std.specs.Prelude.{slice_get, All}
use Rattle.std.proofs.lemmas.List.Elements.{All-head, All-tail}
use Rattle.brs_grammar.specs.View.{Callee}
use Rattle.brs_code.specs.declared.code.Code.{Code}
use Rattle.brs_code.specs.declared.function.Function.{Function}
use Rattle.brs_code.specs.declared.function.ValueType.{ValueType}
use Rattle.code_drafts.specs.declared.draft.Draft.{Draft, out-Draft}
use Rattle.code_drafts.specs.declared.draft.Draft.TheOpen as opened
use Rattle.code_drafts.specs.declared.draft.Draft.TheVariants as draft
use Rattle.code_drafts.specs.declared.draft.DraftParameter.{DraftParameter}
use Rattle.code_drafts.specs.DraftCode.{params_code, params_drafts, function_draft}
use Rattle.code_relation.specs.Heads.{needed_of, value_type}
use Rattle.code_relation.specs.Standing.{FunctionForm, FunctionAt, FunctionsAt}
use Rattle.code_lowering.specs.Lowered.{FunctionOf, NamedOf, named_of, FileOf, none, next_function}
use Rattle.code_lowering.specs.Takes.{CalleeTakes, FunctionTakes, form_draft, StandsTo}
use Rattle.code_lowering.proofs.Numbers.{params_functions, todo_functions, Slice, Law, law_none, law_both}
use Rattle.code_lowering.proofs.Split.{opens_function}
use Rattle.code_lowering.proofs.Parameters.{body_code, function_law}
use Rattle.code_lowering.proofs.Forms.{params_law, todo_law, names_of}

abbrev callee_functions : Callee → List FunctionForm
callee_functions c = params_functions c.params ++ todo_functions c.body

abbrev file_functions : List FunctionForm → List FunctionForm
file_functions [] = []
file_functions (x ∷ xs) = callee_functions x.callee ++ file_functions xs

module _ (all : List Function) (fs : List FunctionForm) where
  -- the function of a draft whose parts are known
  opened_named : (n line : ℕ) (ps : List DraftParameter) (needed : ℕ) (value : ValueType) (size : ℕ) (code : List Draft) (f : Function) (m : ℕ) → NamedOf all n (opened.Function line ps needed value size code) f m
      → FunctionOf all n line ps needed value size code f m
  opened_named n line ps needed value size code f m (named_of a) = a

  callee_law : (n line : ℕ) (c : Callee) (f : Function) (m : ℕ) → CalleeTakes c → NamedOf all n (out-Draft (function_draft line c)) f m → Law all fs n (callee_functions c) m (FunctionAt fs f (record { line = line; callee = c }))
  callee_law n line c f m t a =
      let rest = body_code all fs f c.body in
      let ps = reverse (params_drafts 0 c.params rest) in
      let code = reverse (params_code 0 c.params rest) in
      let made : FunctionOf all n line ps (needed_of c.params) (value_type c.value) (length rest) code f m =
      opened_named n line ps (needed_of c.params) (value_type c.value) (length rest) code f m
      (subst (λ d. NamedOf all n d f m) (opens_function line ps (needed_of c.params) (value_type c.value) (length rest) code) a) in
      function_law all fs f n line c.params c.value c.body m (params_law all fs c.params f t.0)
      (todo_law all fs c.body f (names_of all n line ps (needed_of c.params) (value_type c.value) (length rest) code f m made) t.1) made

  file_law : (xs : List FunctionForm) (n : ℕ) (gs : List Function) (m : ℕ) → All FunctionTakes xs → FileOf all n (map form_draft xs) gs m → Law all fs n (file_functions xs) m (FunctionsAt fs gs xs)
  file_law [] n (g ∷ gs) m t a = elim a [ ]
  file_law (x ∷ xs) n [] m t a = elim a [ ]
  file_law [] n [] m t none = law_none all fs n n (FunctionsAt fs [] []) refl tt
  file_law (x ∷ xs) n (g ∷ gs) m t (next_function k a rest) =
      law_both all fs n (callee_functions x.callee) k (file_functions xs) m (FunctionAt fs g x) (FunctionsAt fs gs xs)
      (callee_law n x.line x.callee g k (All-head FunctionTakes x xs t) a) (file_law xs k gs m (All-tail FunctionTakes x xs t) rest)

functions_at : (fs : List FunctionForm) (gs : List Function) (xs : List FunctionForm) → length gs ≡ length xs
    → ((k : ℕ) (x : FunctionForm) → slice_get xs k ≡ Some x → (g : Function) × (slice_get gs k ≡ Some g) × FunctionAt fs g x) → FunctionsAt fs gs xs
functions_at fs [] [] e each = tt
functions_at fs [] (x ∷ xs) e each = absurd (omega (arith, e))
functions_at fs (g ∷ gs) [] e each = absurd (omega (arith, e))
functions_at fs (g ∷ gs) (x ∷ xs) e each =
    let one = each 0 x refl in
    let same : one.0 ≡ g = cc (one.1) in
    (subst (λ h. FunctionAt fs h x) same one.2, functions_at fs gs xs (omega (arith, e)) (λ k y h. each (suc k) y h))

pub stands : (code : Code) (drafts : List Draft) → FileOf code.anonymous 0 drafts code.named (length code.anonymous) → (forms : List FunctionForm) → drafts ≡ map form_draft forms → All FunctionTakes forms → StandsTo code forms
stands code drafts a forms e t =
    let fs = file_functions forms in
    let a' : FileOf code.anonymous 0 (map form_draft forms) code.named (length code.anonymous) = subst (λ ds. FileOf code.anonymous 0 ds code.named (length code.anonymous)) e a in
    let law = file_law code.anonymous fs forms 0 code.named (length code.anonymous) t a' in
    let whole : Slice fs 0 fs = λ k x h. ap (slice_get fs) (plus k) ∙ h in
    record {
      functions = fs;
      named = law.stands whole;
      anonymous = functions_at fs code.anonymous fs (omega (arith, law.numbers)) (λ k x h. let w = law.each whole k x h in (w.0, ap (slice_get code.anonymous) (sym (plus k)) ∙ w.1, w.2));
    }
  where
    plus : (k : ℕ) → 0 + k ≡ k
    plus k = omega arith
