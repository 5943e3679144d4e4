-- Targets, by the last part behind their name.
use Rattle.std.proofs.Common.{◌≡◌, ℕ, zero, suc, ◌+◌, ◌-◌, ◌<◌, List, [], ◌∷◌, ◌++◌, length, map, take, get_or, Option, None, Some, refl, sym, ap, ◌∙◌, arith, append_assoc}
use Rattle.std.specs.Prelude.{slice_get}
use Rattle.std.proofs.lemmas.List.{append-nil, length-map}
use Rattle.chan_values.specs.Folded.{folded}
use Rattle.brs_tokens.specs.declared.place.Place.{Place}
use Rattle.brs_grammar.specs.declared.tree.Expression.{Expression}
use Rattle.brs_grammar.specs.declared.tree.Name.{Name}
use Rattle.brs_grammar.specs.declared.tree.Postfix.{Postfix}
use Rattle.brs_grammar.specs.declared.tree.Postfix.TheVariants as postfix
use Rattle.brs_grammar.specs.Form.{Text, Form}
use Rattle.brs_grammar.specs.View.{Aimed, Tail, member, index, arguments, aimed, aimed_last, but_last, last_of, tailed, variable, forms, postfix_of, expression_of}
use Rattle.brs_grammar.proofs.Views as v
use Rattle.brs_code.specs.declared.instr.Instr.TheVariants as i
use Rattle.brs_forms.specs.Words.{readable}
use Rattle.code_drafts.specs.declared.draft.Draft.{Draft}
use Rattle.code_drafts.specs.declared.draft.Draft.TheVariants.{Plain, Slot, Word}
use Rattle.code_drafts.specs.DraftCode.{form_code, forms_code, name_draft, set_draft, keep_draft, tails_code, flat}
use Rattle.code_drafts.specs.TreeCode.{expression_code}
use Rattle.code_drafts.proofs.Values.{all_code}
use Rattle.code_drafts.specs.StatementCode.{aim_of, set_of, keep_of, operands_of, last_code}
use Rattle.code_drafts.proofs.Tails.{part_at, tailed_code}

last_get : (t : Tail) (us : List Tail) (k : ℕ) (y : Tail) → k ≡ length us → slice_get (t ∷ us) k ≡ Some y → last_of t us ≡ y
last_get t [] k y e g = let g' : slice_get (t ∷ []) 0 ≡ Some y = ap (slice_get (t ∷ [])) (sym e) ∙ g in cc
last_get t (u ∷ us) k y e g =
    let g' : slice_get (t ∷ u ∷ us) (suc (length us)) ≡ Some y = ap (slice_get (t ∷ u ∷ us)) (sym e) ∙ g in
    last_get u us (length us) y refl g'

front_is : (t : Tail) (us : List Tail) (k : ℕ) → k ≡ length us → but_last t us ≡ take k (t ∷ us)
front_is t [] k e = sym (ap (λ n. take n (t ∷ [])) e)
front_is t (u ∷ us) k e = ap (λ l. t ∷ l) (front_is u us (length us) refl) ∙ sym (ap (λ n. take n (t ∷ u ∷ us)) e)

aimed_is : (at : Place) (x : Text) (ts : List Tail) (k : ℕ) (y : Tail) → suc k ≡ length ts → slice_get ts k ≡ Some y → aimed (record { place = at; name = x; tails = ts }) ≡ aimed_last (tailed (variable at x) (take k ts)) y
aimed_is at x [] k y e g = absurd (cc)
aimed_is at x (t ∷ us) k y e g =
    let e' : k ≡ length us = omega (arith, e) in
    ap (λ f. aimed_last (tailed (variable at x) f) (last_of t us)) (front_is t us k e')
    ∙ ap (aimed_last (tailed (variable at x) (take k (t ∷ us)))) (last_get t us k y e' g)

none_is : (n : Name) (xs : List Postfix) → length xs ≡ 0 → xs ≡ []
none_is n [] e = refl
none_is n (x ∷ xs) e = absurd (omega (arith, e))

-- the target without its last part
abbrev Front : Name → List Postfix → Form
Front n xs = tailed (variable n.place (folded n.text)) (take (length xs - 1) (map postfix_of xs))

last_part : (n : Name) (xs : List Postfix) (y : Postfix) → (length xs ≡ 0 → ⊥) → y ≡ get_or xs (length xs - 1) y → aimed (aim_of n xs) ≡ aimed_last (Front n xs) (postfix_of y)
last_part n xs y ne is =
    let k = length xs - 1 in
    let l = length-map xs postfix_of in
    aimed_is n.place (folded n.text) (map postfix_of xs) k (postfix_of y) (omega (arith, l, ne)) (part_at xs k y (omega (arith, ne)) is)

-- ---- what sets

pub set_name : (n : Name) (xs : List Postfix) → length xs ≡ 0 → Slot (i.Store 0) n.place.line (folded n.text) ≡ set_of n xs
set_name n xs e = sym (ap (set_of n) (none_is n xs e))

set_last : (n : Name) (xs : List Postfix) (y : Postfix) (t : Tail) → (length xs ≡ 0 → ⊥) → y ≡ get_or xs (length xs - 1) y → postfix_of y ≡ t → set_of n xs ≡ (let a = aimed_last (Front n xs) t in set_draft a.to a.place.line)
set_last n xs y t ne is e = ap (λ (a : Aimed). set_draft a.to a.place.line) (last_part n xs y ne is ∙ ap (aimed_last (Front n xs)) e)

pub set_member : (n : Name) (xs : List Postfix) (y : Postfix) (at : Place) (x : Name) → (length xs ≡ 0 → ⊥) → y ≡ get_or xs (length xs - 1) y → y ≡ postfix.Member at x → Word (i.StoreMember 0) at.line (readable (folded x.text)) ≡ set_of n xs
set_member n xs y at x ne is e = sym (set_last n xs y (member at (folded x.text)) ne is (ap postfix_of e ∙ v.postfix-Member at x))

pub set_index : (n : Name) (xs : List Postfix) (y : Postfix) (at : Place) (x : Expression) → (length xs ≡ 0 → ⊥) → y ≡ get_or xs (length xs - 1) y → y ≡ postfix.Index at x → Plain i.StoreIndex at.line ≡ set_of n xs
set_index n xs y at x ne is e = sym (set_last n xs y (index at (expression_of x)) ne is (ap postfix_of e ∙ v.postfix-Index at x))

pub set_arguments : (n : Name) (xs : List Postfix) (y : Postfix) (at : Place) (es : List Expression) → (length xs ≡ 0 → ⊥) → y ≡ get_or xs (length xs - 1) y → y ≡ postfix.Arguments at es → Plain i.StoreIndex at.line ≡ set_of n xs
set_arguments n xs y at es ne is e = sym (set_last n xs y (arguments at (forms (map expression_of es))) ne is (ap postfix_of e ∙ v.postfix-Arguments at es))

-- ---- what keeps

pub keep_name : (n : Name) (xs : List Postfix) → length xs ≡ 0 → name_draft (folded n.text) n.place.line ≡ keep_of n xs
keep_name n xs e = sym (ap (keep_of n) (none_is n xs e))

keep_last : (n : Name) (xs : List Postfix) (y : Postfix) (t : Tail) → (length xs ≡ 0 → ⊥) → y ≡ get_or xs (length xs - 1) y → postfix_of y ≡ t → keep_of n xs ≡ (let a = aimed_last (Front n xs) t in keep_draft a.to a.place.line)
keep_last n xs y t ne is e = ap (λ (a : Aimed). keep_draft a.to a.place.line) (last_part n xs y ne is ∙ ap (aimed_last (Front n xs)) e)

pub keep_member : (n : Name) (xs : List Postfix) (y : Postfix) (at : Place) (x : Name) → (length xs ≡ 0 → ⊥) → y ≡ get_or xs (length xs - 1) y → y ≡ postfix.Member at x → Word (i.KeepMember 0) at.line (readable (folded x.text)) ≡ keep_of n xs
keep_member n xs y at x ne is e = sym (keep_last n xs y (member at (folded x.text)) ne is (ap postfix_of e ∙ v.postfix-Member at x))

pub keep_index : (n : Name) (xs : List Postfix) (y : Postfix) (at : Place) (x : Expression) → (length xs ≡ 0 → ⊥) → y ≡ get_or xs (length xs - 1) y → y ≡ postfix.Index at x → Plain i.KeepIndex at.line ≡ keep_of n xs
keep_index n xs y at x ne is e = sym (keep_last n xs y (index at (expression_of x)) ne is (ap postfix_of e ∙ v.postfix-Index at x))

pub keep_arguments : (n : Name) (xs : List Postfix) (y : Postfix) (at : Place) (es : List Expression) → (length xs ≡ 0 → ⊥) → y ≡ get_or xs (length xs - 1) y → y ≡ postfix.Arguments at es → Plain i.KeepIndex at.line ≡ keep_of n xs
keep_arguments n xs y at es ne is e = sym (keep_last n xs y (arguments at (forms (map expression_of es))) ne is (ap postfix_of e ∙ v.postfix-Arguments at es))

-- ---- operands

pub no_operands : (n : Name) (xs : List Postfix) (code : List Draft) → length xs ≡ 0 → code ≡ operands_of n xs ++ code
no_operands n xs code e = sym (ap (λ l. operands_of n l ++ code) (none_is n xs e))

operands_last : (f : Form) (t : Tail) → forms_code (aimed_last f t).operands ≡ form_code f ++ last_code t
operands_last f (member at x) = refl
operands_last f (index at e) = ap (λ l. form_code f ++ l) (append-nil (form_code e))
operands_last f (arguments at es) = refl

pub some_operands : (n : Name) (xs : List Postfix) (y : Postfix) (k : ℕ) (code code1 code2 code3 : List Draft) → (length xs ≡ 0 → ⊥) → k ≡ length xs - 1 → y ≡ get_or xs k y
    → code1 ≡ last_code (postfix_of y) ++ code → code2 ≡ tails_code None (take k (map postfix_of xs)) ++ code1 → code3 ≡ name_draft (folded n.text) n.place.line ∷ code2
    → code3 ≡ operands_of n xs ++ code
some_operands n xs y k code code1 code2 code3 ne ke is e1 e2 e3 =
    let d = name_draft (folded n.text) n.place.line in
    let ts = tails_code None (take (length xs - 1) (map postfix_of xs)) in
    let l = last_code (postfix_of y) in
    let at = is ∙ ap (λ j. get_or xs j y) ke in
    let whole : operands_of n xs ≡ (d ∷ ts) ++ l = ap (λ (a : Aimed). forms_code a.operands) (last_part n xs y ne at) ∙ operands_last (Front n xs) (postfix_of y) ∙ ap (λ c. c ++ l) (tailed_code (variable n.place (folded n.text)) (take (length xs - 1) (map postfix_of xs))) in
    e3 ∙ ap (λ c. d ∷ c) (e2 ∙ ap (λ j. tails_code None (take j (map postfix_of xs)) ++ code1) ke ∙ ap (λ c. ts ++ c) e1 ∙ sym (append_assoc ts l code))
    ∙ ap (λ c. c ++ code) (sym whole)

-- ---- the last part by its variants

pub last_member : (at : Place) (x : Name) → last_code (postfix_of (postfix.Member at x)) ≡ []
last_member at x = ap last_code (v.postfix-Member at x)

pub last_index : (at : Place) (e : Expression) → last_code (postfix_of (postfix.Index at e)) ≡ expression_code e
last_index at e = ap last_code (v.postfix-Index at e)

pub last_arguments : (at : Place) (es : List Expression) → last_code (postfix_of (postfix.Arguments at es)) ≡ flat expression_code es
last_arguments at es = ap last_code (v.postfix-Arguments at es) ∙ all_code es

pub ruleset lasts = (last_member, last_index, last_arguments)
