-- The code of parameters and functions.
use Rattle.std.proofs.Common.{◌≡◌, ℕ, suc, ◌+◌, ◌-◌, ◌<◌, ◌≤◌, List, [], ◌∷◌, ◌++◌, Option, None, Some, length, map, take, drop, drop-cons, get_or, refl, sym, ap, ◌∙◌, arith}
use Rattle.std.specs.Prelude.{reverse}
use Rattle.std.proofs.lemmas.List.{map-append, take_more, append-nil, reverse-append}
use Rattle.brs_grammar.specs.declared.tree.Expression.{Expression}
use Rattle.brs_grammar.specs.declared.tree.NamedFunction.{NamedFunction}
use Rattle.brs_grammar.specs.declared.tree.Parameter.{Parameter, out-Parameter}
use Rattle.brs_grammar.specs.declared.tree.Rest.{Rest, out-Rest}
use Rattle.brs_grammar.specs.Form.{Form}
use Rattle.brs_grammar.specs.View.{Formal, parameter, params, parameter_of, rest_of}
use Rattle.brs_grammar.proofs.Views as v
use Rattle.brs_code.specs.declared.instr.Instr.TheVariants as i
use Rattle.code_drafts.specs.declared.draft.Draft.{Draft}
use Rattle.code_drafts.specs.declared.draft.Draft.TheVariants.{Plain, Function}
use Rattle.code_drafts.specs.declared.draft.DraftParameter.{DraftParameter}
use Rattle.code_relation.specs.Heads.{needed_of, value_type}
use Rattle.code_drafts.specs.DraftCode.{form_code, params_code, params_drafts, function_draft, no_loops}
use Rattle.code_drafts.specs.TreeCode.{expression_code}
use Rattle.code_drafts.specs.StatementCode.{formal_code, formal_draft}
use Rattle.tree_code.specs.FileCode.{block_code, named_draft, parameter_draft}

-- ---- one parameter

formal_at : (x : Parameter) (d : Option Expression) → (out-Parameter x).default ≡ d → parameter_of x ≡ v.formal_of (out-Parameter x).name d (out-Parameter x).kind
formal_at x d e = v.parameter-out x ∙ ap (λ o. v.formal_of (out-Parameter x).name o (out-Parameter x).kind) e

pub required_code : (n : ℕ) (x : Parameter) (rest : List Draft) → (out-Parameter x).default ≡ None → rest ≡ formal_code n (parameter_of x) rest
required_code n x rest e = sym (ap (λ f. formal_code n f rest) (formal_at x None e))

pub optional_code : (n : ℕ) (x : Parameter) (d : Expression) (rest one two : List Draft) → (out-Parameter x).default ≡ Some d → one ≡ Plain (i.Bind n) (out-Parameter x).name.place.line ∷ rest → two ≡ expression_code d ++ one
    → two ≡ formal_code n (parameter_of x) rest
optional_code n x d rest one two e bind new =
    new ∙ ap (λ l. expression_code d ++ l) bind ∙ sym (ap (λ f. formal_code n f rest) (formal_at x (Some d) e))

-- a parameter stands before its own default
formal_one : (n : ℕ) (x : Parameter) (rest : List Draft) → formal_draft n (parameter_of x) rest ≡ parameter_draft x (length (formal_code n (parameter_of x) rest)) ∷ []
formal_one n x rest =
    ap (λ f. formal_draft n f rest) (v.parameter-out x) ∙ go (out-Parameter x).default
    ∙ ap (λ f. parameter_draft x (length (formal_code n f rest)) ∷ []) (sym (v.parameter-out x))
  where
    go : (d : Option Expression) → formal_draft n (v.formal_of (out-Parameter x).name d (out-Parameter x).kind) rest ≡ parameter_draft x (length (formal_code n (v.formal_of (out-Parameter x).name d (out-Parameter x).kind) rest)) ∷ []
    go None = refl
    go (Some e) = refl

-- ---- parameters

first_code : (n : ℕ) (f : Formal) (fs : List Formal) (rest : List Draft) → params_code n (params (f ∷ fs)) rest ≡ formal_code n f (params_code (n + 1) (params fs) rest)
first_code n f fs rest = go f.default
  where
    go : (d : Option Form) → params_code n (params ((record f { default = d }) ∷ fs)) rest ≡ formal_code n (record f { default = d }) (params_code (n + 1) (params fs) rest)
    go None = refl
    go (Some e) = refl

first_draft : (n : ℕ) (f : Formal) (fs : List Formal) (rest : List Draft) → params_drafts n (params (f ∷ fs)) rest ≡ formal_draft n f (params_code (n + 1) (params fs) rest) ++ params_drafts (n + 1) (params fs) rest
first_draft n f fs rest = go f.default
  where
    go : (d : Option Form) → params_drafts n (params ((record f { default = d }) ∷ fs)) rest ≡ formal_draft n (record f { default = d }) (params_code (n + 1) (params fs) rest) ++ params_drafts (n + 1) (params fs) rest
    go None = refl
    go (Some e) = refl

-- the code of the parameters from number n on
abbrev pub code_from : List Parameter → ℕ → List Draft → List Draft
code_from all n base = params_code n (params (map parameter_of (drop n all))) base

abbrev pub drafts_from : List Parameter → ℕ → List Draft → List DraftParameter
drafts_from all n base = params_drafts n (params (map parameter_of (drop n all))) base

code_step : (all : List Parameter) (base : List Draft) (k : ℕ) (x : Parameter) → k < length all → x ≡ get_or all k x → code_from all k base ≡ formal_code k (parameter_of x) (code_from all (k + 1) base)
code_step all base k x h is =
    let s : k + 1 ≡ suc k = omega arith in
    ap (λ l. params_code k (params (map parameter_of l)) base) (drop-cons all k x h ∙ ap (λ y. y ∷ drop (suc k) all) (sym is))
    ∙ first_code k (parameter_of x) (map parameter_of (drop (suc k) all)) base
    ∙ ap (λ j. formal_code k (parameter_of x) (params_code (k + 1) (params (map parameter_of (drop j all))) base)) (sym s)

draft_step : (all : List Parameter) (base : List Draft) (k : ℕ) (x : Parameter) → k < length all → x ≡ get_or all k x → drafts_from all k base ≡ formal_draft k (parameter_of x) (code_from all (k + 1) base) ++ drafts_from all (k + 1) base
draft_step all base k x h is =
    let s : k + 1 ≡ suc k = omega arith in
    ap (λ l. params_drafts k (params (map parameter_of l)) base) (drop-cons all k x h ∙ ap (λ y. y ∷ drop (suc k) all) (sym is))
    ∙ first_draft k (parameter_of x) (map parameter_of (drop (suc k) all)) base
    ∙ ap (λ j. formal_draft k (parameter_of x) (params_code (k + 1) (params (map parameter_of (drop j all))) base) ++ params_drafts (k + 1) (params (map parameter_of (drop j all))) base) (sym s)

-- one more parameter in front of those behind it
pub code_more : (all : List Parameter) (base code code' : List Draft) (i k : ℕ) (x : Parameter) → i < length all → k ≡ length all - 1 - i → x ≡ get_or all k x
    → code ≡ code_from all (length all - i) base → code' ≡ formal_code k (parameter_of x) code → code' ≡ code_from all (length all - (i + 1)) base
code_more all base code code' i k x h at is was new =
    let a : length all - (i + 1) ≡ k = omega arith in
    let b : length all - i ≡ k + 1 = omega arith in
    new ∙ ap (formal_code k (parameter_of x)) (was ∙ ap (λ n. code_from all n base) b)
    ∙ sym (code_step all base k x (omega arith) is) ∙ ap (λ n. code_from all n base) (sym a)

pub drafts_more : (all : List Parameter) (base code code' : List Draft) (ds ds' : List DraftParameter) (i k n : ℕ) (x : Parameter) (d : DraftParameter) → i < length all → k ≡ length all - 1 - i → x ≡ get_or all k x
    → code ≡ code_from all (length all - i) base → ds ≡ reverse (drafts_from all (length all - i) base) → code' ≡ formal_code k (parameter_of x) code → n ≡ length code' → d ≡ parameter_draft x n → ds' ≡ ds ++ d ∷ []
    → ds' ≡ reverse (drafts_from all (length all - (i + 1)) base)
drafts_more all base code code' ds ds' i k n x d h at is was had next len one new =
    let a : length all - (i + 1) ≡ k = omega arith in
    let b : length all - i ≡ k + 1 = omega arith in
    let one' : d ∷ [] ≡ formal_draft k (parameter_of x) (code_from all (k + 1) base) =
    ap (λ y. y ∷ []) (one ∙ ap (parameter_draft x) (len ∙ ap length next)) ∙ sym (formal_one k x code)
    ∙ ap (formal_draft k (parameter_of x)) (was ∙ ap (λ n. code_from all n base) b) in
    new ∙ ap (λ l. l ++ d ∷ []) (had ∙ ap (λ n. reverse (drafts_from all n base)) b)
    ∙ sym (reverse-append (d ∷ []) (drafts_from all (k + 1) base))
    ∙ ap (λ l. reverse (l ++ drafts_from all (k + 1) base)) one'
    ∙ ap reverse (sym (draft_step all base k x (omega arith) is)) ∙ ap (λ n. reverse (drafts_from all n base)) (sym a)

nothing_left : {A : Type 0} (xs : List A) → drop (length xs) xs ≡ []
nothing_left [] = refl
nothing_left (x ∷ xs) = nothing_left xs

none_yet : (all : List Parameter) → drop (length all - 0) all ≡ []
none_yet all =
    let z : length all - 0 ≡ length all = omega arith in
    ap (λ n. drop n all) z ∙ nothing_left all

-- behind the last parameter
pub code_begin : (all : List Parameter) (base : List Draft) → base ≡ code_from all (length all - 0) base
code_begin all base = sym (ap (λ l. params_code (length all - 0) (params (map parameter_of l)) base) (none_yet all))

pub drafts_begin : (all : List Parameter) (base : List Draft) → [] ≡ reverse (drafts_from all (length all - 0) base)
drafts_begin all base = sym (ap (λ l. reverse (params_drafts (length all - 0) (params (map parameter_of l)) base)) (none_yet all))

-- all parameters
pub code_done : (all : List Parameter) (base code : List Draft) (i : ℕ) → length all ≤ i → code ≡ code_from all (length all - i) base → code ≡ params_code 0 (params (map parameter_of all)) base
code_done all base code i h was =
    let z : length all - i ≡ 0 = omega arith in
    was ∙ ap (λ n. code_from all n base) z

pub drafts_done : (all : List Parameter) (base : List Draft) (ds : List DraftParameter) (i : ℕ) → length all ≤ i → ds ≡ reverse (drafts_from all (length all - i) base) → ds ≡ reverse (params_drafts 0 (params (map parameter_of all)) base)
drafts_done all base ds i h was =
    let z : length all - i ≡ 0 = omega arith in
    was ∙ ap (λ n. reverse (drafts_from all n base)) z

-- ---- functions

pub function_is : (line : ℕ) (r : Rest) → function_draft line (rest_of r)
    ≡ (let ps = params (map parameter_of (out-Rest r).parameters) in let rest = block_code no_loops (out-Rest r).body ++ Plain i.End 0 ∷ [] in
    Function line (reverse (params_drafts 0 ps rest)) (needed_of ps) (value_type (out-Rest r).value) (length rest) (reverse (params_code 0 ps rest)))
function_is line r = ap (function_draft line) (v.rest-out r)

pub ruleset function_rules = (function_is, append-nil)

-- ---- files

pub named_more : (drafts drafts' : List Draft) (fs : List NamedFunction) (i : ℕ) (f : NamedFunction) (d : Draft) → i < length fs → f ≡ get_or fs i f → drafts ≡ map named_draft (take i fs)
    → d ≡ named_draft f → drafts' ≡ drafts ++ d ∷ [] → drafts' ≡ map named_draft (take (i + 1) fs)
named_more drafts drafts' fs i f d h at was is new =
    new ∙ ap (λ l. l ++ d ∷ []) was ∙ ap (λ e. map named_draft (take i fs) ++ e ∷ []) is
    ∙ sym (map-append named_draft (take i fs) (f ∷ [])) ∙ ap (λ y. map named_draft (take i fs ++ y ∷ [])) at
    ∙ ap (map named_draft) (sym (take_more fs i f h))
