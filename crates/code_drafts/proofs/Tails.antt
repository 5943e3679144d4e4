-- What stands behind a value.
use Rattle.std.proofs.Common.{◌≡◌, ℕ, zero, suc, ◌+◌, ◌-◌, ◌<◌, ◌≤◌, Bool, true, false, List, [], ◌∷◌, ◌++◌, length, map, take, drop, get_or, Option, None, Some, refl, sym, ap, ◌∙◌, append_assoc, arith, subst}
use Rattle.std.specs.Prelude.{slice_get}
use Rattle.std.proofs.lemmas.List.{append-nil}
use Rattle.std.specs.Option.{option_map}
use Rattle.std.proofs.lemmas.Option.{slice_get_read, slice_get-map}
use Rattle.chan_values.specs.Folded.{folded}
use Rattle.brs_tokens.specs.declared.place.Place.{Place}
use Rattle.brs_grammar.specs.declared.tree.Expression.{Expression}
use Rattle.brs_grammar.specs.declared.tree.Name.{Name}
use Rattle.brs_grammar.specs.declared.tree.Postfix.{Postfix}
use Rattle.brs_grammar.specs.declared.tree.Postfix.TheVariants as postfix
use Rattle.brs_grammar.specs.Form as p
use Rattle.brs_grammar.specs.Form.{Text, Form, Node, more, none}
use Rattle.brs_grammar.specs.View.{Tail, member, index, arguments, tailed, forms, postfix_of, expression_of}
use Rattle.brs_grammar.proofs.Views as v
use Rattle.brs_forms.specs.Words.{readable}
use Rattle.code_drafts.specs.declared.draft.Draft.{Draft}
use Rattle.code_drafts.specs.DraftCode.{form_code, tails_code, tail_code, calls, calls_one, member_name, name_before}

-- ---- the parts by their variants

pub name_member : (at : Place) (x : Name) → member_name (postfix_of (postfix.Member at x)) ≡ Some (readable (folded x.text))
name_member at x = ap member_name (v.postfix-Member at x)

pub name_index : (at : Place) (e : Expression) → member_name (postfix_of (postfix.Index at e)) ≡ None
name_index at e = ap member_name (v.postfix-Index at e)

pub name_arguments : (at : Place) (es : List Expression) → member_name (postfix_of (postfix.Arguments at es)) ≡ None
name_arguments at es = ap member_name (v.postfix-Arguments at es)

pub ruleset names = (name_member, name_index, name_arguments)

pub calls_member : (at : Place) (x : Name) → calls_one (postfix_of (postfix.Member at x)) ≡ false
calls_member at x = ap calls_one (v.postfix-Member at x)

pub calls_index : (at : Place) (e : Expression) → calls_one (postfix_of (postfix.Index at e)) ≡ false
calls_index at e = ap calls_one (v.postfix-Index at e)

pub calls_arguments : (at : Place) (es : List Expression) → calls_one (postfix_of (postfix.Arguments at es)) ≡ true
calls_arguments at es = ap calls_one (v.postfix-Arguments at es)

pub ruleset calling = (calls_member, calls_index, calls_arguments)

-- ---- by place

get_take : {A : Type 0} (n : ℕ) (xs : List A) (k : ℕ) → k < n → slice_get (take n xs) k ≡ slice_get xs k
get_take zero xs k h = absurd (omega (arith, h))
get_take (suc n) [] k h = refl
get_take (suc n) (x ∷ xs) zero h = refl
get_take (suc n) (x ∷ xs) (suc k) h = get_take n xs k (omega arith)

drop_get : {A : Type 0} (xs : List A) (k : ℕ) (x : A) → slice_get xs k ≡ Some x → drop k xs ≡ x ∷ drop (suc k) xs
drop_get [] k x e = absurd (cc)
drop_get (y ∷ ys) zero x e = cc
drop_get (y ∷ ys) (suc k) x e = drop_get ys k x e

drop_take : {A : Type 0} (n : ℕ) (xs : List A) → drop n (take n xs) ≡ []
drop_take zero xs = refl
drop_take (suc n) [] = refl
drop_take (suc n) (x ∷ xs) = drop_take n xs

-- the part at a place, as the list of what the parts are has it
pub part_at : (xs : List Postfix) (k : ℕ) (x : Postfix) → k < length xs → x ≡ get_or xs k x → slice_get (map postfix_of xs) k ≡ Some (postfix_of x)
part_at xs k x h e = slice_get-map postfix_of xs k ∙ ap (option_map postfix_of) (slice_get_read xs (length xs) k x refl h e)

front_at : (xs : List Postfix) (n k : ℕ) (x : Postfix) → k < n → n ≤ length xs → x ≡ get_or xs k x → slice_get (take n (map postfix_of xs)) k ≡ Some (postfix_of x)
front_at xs n k x h le e = get_take n (map postfix_of xs) k h ∙ part_at xs k x (omega arith) e

name_at : (ts : List Tail) (j k : ℕ) (t : Tail) → j ≡ suc k → slice_get ts k ≡ Some t → name_before ts j ≡ member_name t
name_at ts j k t is e =
    ap (name_before ts) is ∙ ap (λ (o : Option Tail). elim o [ None ↦ None | Some t ↦ member_name t ]) e

pub before_first : (ts : List Tail) (k : ℕ) → k ≡ 0 → None ≡ name_before ts k
before_first ts k e = sym (ap (name_before ts) e)

pub before_other : (xs : List Postfix) (at : ℕ) (x : Postfix) → (at ≡ 0 → ⊥) → at < length xs → x ≡ get_or xs (at - 1) x → member_name (postfix_of x) ≡ name_before (map postfix_of xs) at
before_other xs at x nz h e =
    sym (name_at (map postfix_of xs) at (at - 1) (postfix_of x) (omega arith) (part_at xs (at - 1) x (omega arith) e))

pub called_last : (xs : List Postfix) (at n : ℕ) → at + 1 ≡ n → false ≡ calls (drop (at + 1) (take n (map postfix_of xs)))
called_last xs at n e =
    sym (ap (λ k. calls (drop k (take n (map postfix_of xs)))) e ∙ ap calls (drop_take n (map postfix_of xs)))

pub called_other : (xs : List Postfix) (at n : ℕ) (x : Postfix) → (at + 1 ≡ n → ⊥) → at < n → n ≤ length xs → x ≡ get_or xs (at + 1) x → calls_one (postfix_of x) ≡ calls (drop (at + 1) (take n (map postfix_of xs)))
called_other xs at n x ne h le e =
    sym (ap calls (drop_get (take n (map postfix_of xs)) (at + 1) (postfix_of x) (front_at xs n (at + 1) x (omega arith) le e)))

-- ---- one more turn of the loop from the last part to the first

pub tails_more : (xs : List Postfix) (base code code' : List Draft) (n i k : ℕ) (x : Postfix) (before : Option Text) (called : Bool) → i < n → n ≤ length xs → k ≡ n - 1 - i → x ≡ get_or xs k x
    → before ≡ name_before (map postfix_of xs) k → called ≡ calls (drop (k + 1) (take n (map postfix_of xs)))
    → code ≡ tails_code (name_before (map postfix_of xs) (n - i)) (drop (n - i) (take n (map postfix_of xs))) ++ base
    → code' ≡ tail_code before (postfix_of x) called ++ code
    → code' ≡ tails_code (name_before (map postfix_of xs) (n - (i + 1))) (drop (n - (i + 1)) (take n (map postfix_of xs))) ++ base
tails_more xs base code code' n i k x before called h le at is be ca was new =
    let ts = take n (map postfix_of xs) in
    let t = postfix_of x in
    let a : n - (i + 1) ≡ k = omega arith in
    let b : n - i ≡ suc k = omega arith in
    let b' : k + 1 ≡ suc k = omega arith in
    let kn : k < n = omega arith in
    let kl : k < length xs = omega arith in
    let rest = drop (suc k) ts in
    let here = drop_get ts k t (front_at xs n k x kn le is) in
    let named = name_at (map postfix_of xs) (n - i) k t b (part_at xs k x kl is) in
    let was' : code ≡ tails_code (member_name t) rest ++ base = was ∙ ap (λ m. tails_code m (drop (n - i) ts) ++ base) named ∙ ap (λ j. tails_code (member_name t) (drop j ts) ++ base) b in
    let ca' : called ≡ calls rest = ca ∙ ap (λ j. calls (drop j ts)) b' in
    new ∙ ap (λ l. tail_code before t called ++ l) was'
    ∙ ap (λ c. tail_code before t c ++ (tails_code (member_name t) rest ++ base)) ca'
    ∙ ap (λ m. tail_code m t (calls rest) ++ (tails_code (member_name t) rest ++ base)) be
    ∙ sym (append_assoc (tail_code (name_before (map postfix_of xs) k) t (calls rest)) (tails_code (member_name t) rest) base)
    ∙ ap (λ l. tails_code (name_before (map postfix_of xs) k) l ++ base) (sym here)
    ∙ ap (λ j. tails_code (name_before (map postfix_of xs) j) (drop j ts) ++ base) (sym a)

pub tails_begin : (xs : List Postfix) (base : List Draft) (n : ℕ) → base ≡ tails_code (name_before (map postfix_of xs) (n - 0)) (drop (n - 0) (take n (map postfix_of xs))) ++ base
tails_begin xs base n =
    let z : n - 0 ≡ n = omega arith in
    sym (ap (λ j. tails_code (name_before (map postfix_of xs) j) (drop j (take n (map postfix_of xs))) ++ base) z
    ∙ ap (λ l. tails_code (name_before (map postfix_of xs) n) l ++ base) (drop_take n (map postfix_of xs)))

-- ---- the chain as a form

again : (before : Option Text) (at : Place) (es : p.Forms) (ts : List Tail) → tails_code (member_name (arguments at es)) ts ≡ tails_code None ts
again before at es ts = refl

pub tailed_code : (x : Form) (ts : List Tail) → form_code (tailed x ts) ≡ form_code x ++ tails_code None ts
tailed_code x [] = sym (append-nil (form_code x))
tailed_code x (member at k ∷ []) = simp (append_assoc, append-nil)
tailed_code x (member at k ∷ arguments there es ∷ ts) =
    tailed_code (Node (p.CallMember k) there (more x es)) ts ∙ simp append_assoc
tailed_code x (member at k ∷ member there l ∷ ts) =
    tailed_code (Node (p.Member k) at (more x none)) (member there l ∷ ts) ∙ simp (append_assoc, append-nil)
tailed_code x (member at k ∷ index there e ∷ ts) =
    tailed_code (Node (p.Member k) at (more x none)) (index there e ∷ ts) ∙ simp (append_assoc, append-nil)
tailed_code x (index at e ∷ ts) =
    tailed_code (Node p.Index at (more x (more e none))) ts ∙ simp (append_assoc, append-nil)
tailed_code x (arguments at es ∷ ts) =
    tailed_code (Node p.Call at (more x es)) ts ∙ simp append_assoc
