-- The code of a value: what it begins with, and what stands behind it.
use Rattle.std.proofs.Common.{◌≡◌, ℕ, zero, suc, ◌+◌, ◌<◌, Bool, true, false, List, [], ◌∷◌, ◌++◌, length, map, take, get_or, Option, None, Some, refl, sym, ap, ◌∙◌, append_assoc, arith}
use Rattle.std.proofs.lemmas.List.{append-nil, length-map, map-append, take_more}
use Rattle.std.proofs.Math.Seq.{take-length}
use Rattle.chan_values.specs.Folded.{folded}
use Rattle.brs_tokens.specs.declared.place.Place.{Place}
use Rattle.brs_grammar.specs.declared.tree.Expression.{Expression}
use Rattle.brs_grammar.specs.declared.tree.Name.{Name}
use Rattle.brs_grammar.specs.declared.tree.Key.{Key}
use Rattle.brs_grammar.specs.declared.tree.Pair.{Pair, out-Pair}
use Rattle.brs_grammar.specs.declared.tree.Postfix.{Postfix}
use Rattle.brs_grammar.specs.declared.tree.Postfix.TheVariants as postfix
use Rattle.brs_grammar.specs.declared.tree.Primary.{Primary}
use Rattle.brs_grammar.specs.declared.tree.Primary.TheVariants as primary
use Rattle.brs_grammar.specs.declared.tree.Rest.{Rest}
use Rattle.brs_grammar.specs.declared.tree.Value.{Value, out-Value}
use Rattle.brs_grammar.specs.Form as p
use Rattle.brs_grammar.specs.Form.{Text, Form, Forms, Node, more, none}
use Rattle.brs_grammar.specs.View.{Tail, Entry, member, index, arguments, forms, key_of, postfix_of, primary_of, expression_of, pair_of, rest_of, value_of, variable}
use Rattle.brs_grammar.proofs.Views as v
use Rattle.brs_code.specs.declared.instr.Instr.TheVariants as i
use Rattle.brs_forms.specs.Words as words
use Rattle.code_drafts.specs.declared.draft.Draft.{Draft}
use Rattle.code_drafts.specs.declared.draft.Draft.TheVariants.{Plain, Slot, Word, Words}
use Rattle.code_relation.specs.Heads.{count, number_instr}
use Rattle.code_drafts.specs.DraftCode.{form_code, forms_code, name_draft, call_draft, function_draft, flat, tails_code, tail_code}
use Rattle.code_drafts.specs.TreeCode.{expression_code, value_code, primary_code, pair_code}
use Rattle.code_drafts.proofs.Tails.{tailed_code}

pub all_tails : (xs : List Postfix) → tails_code None (take (length xs) (map postfix_of xs)) ≡ tails_code None (map postfix_of xs)
all_tails xs = ap (λ n. tails_code None (take n (map postfix_of xs))) (sym (length-map xs postfix_of)) ∙ ap (tails_code None) (take-length (map postfix_of xs))

pub value_is : (e : Value) → value_code e ≡ primary_code (out-Value e).first ++ tails_code None (take (length (out-Value e).more) (map postfix_of (out-Value e).more))
value_is e =
    ap form_code (v.value-out e) ∙ tailed_code (primary_of (out-Value e).first) (map postfix_of (out-Value e).more)
    ∙ ap (λ l. primary_code (out-Value e).first ++ l) (sym (all_tails (out-Value e).more))

-- ---- lists of expressions

pub all_code : (es : List Expression) → forms_code (forms (map expression_of es)) ≡ flat expression_code es
all_code [] = refl
all_code (e ∷ es) = ap (λ l. expression_code e ++ l) (all_code es)

pub count_all : (es : List Expression) → count (forms (map expression_of es)) ≡ length es
count_all [] = refl
count_all (e ∷ es) = ap suc (count_all es)

pairs_code : (xs : List Pair) → forms_code (forms (map (λ (x : Entry). x.value) (map pair_of xs))) ≡ flat pair_code xs
pairs_code [] = refl
pairs_code (x ∷ xs) = ap (λ l. pair_code x ++ l) (pairs_code xs)

count_pairs : (xs : List Pair) → count (forms (map (λ (x : Entry). x.value) (map pair_of xs))) ≡ length xs
count_pairs [] = refl
count_pairs (x ∷ xs) = ap suc (count_pairs xs)

pub pair_is : (x : Pair) → pair_code x ≡ expression_code (out-Pair x).value
pair_is x = ap (λ (e : Entry). form_code e.value) (v.pair-out x)

pub key_is : (x : Pair) → (pair_of x).key ≡ key_of (out-Pair x).key
key_is x = ap (λ (e : Entry). e.key) (v.pair-out x)

-- ---- parts behind a value

pub member_called : (b : Option Text) (at : Place) (x : Name) → tail_code b (postfix_of (postfix.Member at x)) true ≡ []
member_called b at x = ap (λ t. tail_code b t true) (v.postfix-Member at x)

pub member_read : (b : Option Text) (at : Place) (x : Name) → tail_code b (postfix_of (postfix.Member at x)) false ≡ Word (i.Member 0) at.line (words.readable (folded x.text)) ∷ []
member_read b at x = ap (λ t. tail_code b t false) (v.postfix-Member at x)

pub index_read : (b : Option Text) (c : Bool) (at : Place) (e : Expression) → tail_code b (postfix_of (postfix.Index at e)) c ≡ expression_code e ++ Plain i.Index at.line ∷ []
index_read b c at e = ap (λ t. tail_code b t c) (v.postfix-Index at e)

pub called : (b : Option Text) (c : Bool) (at : Place) (es : List Expression) → tail_code b (postfix_of (postfix.Arguments at es)) c ≡ flat expression_code es ++ call_draft b at.line (length es) ∷ []
called b c at es =
    ap (λ t. tail_code b t c) (v.postfix-Arguments at es)
    ∙ ap (λ l. l ++ call_draft b at.line (count (forms (map expression_of es))) ∷ []) (all_code es)
    ∙ ap (λ n. flat expression_code es ++ call_draft b at.line n ∷ []) (count_all es)

-- ---- primary expressions

pub number_is : (at : Place) (t : Text) → primary_code (primary.Number at t) ≡ Plain (number_instr (words.number_of t)) at.line ∷ []
number_is at t = ap form_code (v.primary-Number at t)

pub text_is : (at : Place) (t : Text) → primary_code (primary.Text at t) ≡ Word (i.Text 0) at.line (words.text_of t) ∷ []
text_is at t = ap form_code (v.primary-Text at t)

pub true_is : (at : Place) → primary_code (primary.True at) ≡ Plain (i.Truth true) at.line ∷ []
true_is at = ap form_code (v.primary-True at)

pub false_is : (at : Place) → primary_code (primary.False at) ≡ Plain (i.Truth false) at.line ∷ []
false_is at = ap form_code (v.primary-False at)

pub invalid_is : (at : Place) → primary_code (primary.Invalid at) ≡ Plain i.Invalid at.line ∷ []
invalid_is at = ap form_code (v.primary-Invalid at)

pub variable_is : (x : Name) → primary_code (primary.Variable x) ≡ name_draft (folded x.text) x.place.line ∷ []
variable_is x = ap form_code (v.primary-Variable x)

pub bracketed_is : (at : Place) (e : Expression) → primary_code (primary.Bracketed at e) ≡ expression_code e
bracketed_is at e = ap form_code (v.primary-Bracketed at e)

pub array_is : (at : Place) (es : List Expression) → primary_code (primary.Array at es) ≡ flat expression_code es ++ Plain (i.MakeArray (length es)) at.line ∷ []
array_is at es =
    ap form_code (v.primary-Array at es)
    ∙ ap (λ l. l ++ Plain (i.MakeArray (count (forms (map expression_of es)))) at.line ∷ []) (all_code es)
    ∙ ap (λ n. flat expression_code es ++ Plain (i.MakeArray n) at.line ∷ []) (count_all es)

abbrev keys_of : List Pair → List (List ℕ)
keys_of xs = map words.key_of (map (λ (x : Entry). x.key) (map pair_of xs))

pub pairs_is : (at : Place) (xs : List Pair) → primary_code (primary.Pairs at xs) ≡ flat pair_code xs ++ Words (i.MakePairs 0 (length xs)) at.line (map words.key_of (map (λ (x : Entry). x.key) (map pair_of xs))) ∷ []
pairs_is at xs =
    ap form_code (v.primary-Pairs at xs)
    ∙ ap (λ l. l ++ Words (i.MakePairs 0 (count (forms (map (λ (x : Entry). x.value) (map pair_of xs))))) at.line (keys_of xs) ∷ []) (pairs_code xs)
    ∙ ap (λ n. flat pair_code xs ++ Words (i.MakePairs 0 n) at.line (keys_of xs) ∷ []) (count_pairs xs)

pub function_is : (at : Place) (r : Rest) → primary_code (primary.AnonymousFunction at r) ≡ function_draft at.line (rest_of r) ∷ []
function_is at r = ap form_code (v.primary-AnonymousFunction at r)

pub sub_is : (at : Place) (r : Rest) → primary_code (primary.AnonymousSub at r) ≡ function_draft at.line (rest_of r) ∷ []
sub_is at r = ap form_code (v.primary-AnonymousSub at r)

pub ruleset values = (
  value_is,
  member_called,
  member_read,
  index_read,
  called,
  number_is,
  text_is,
  true_is,
  false_is,
  invalid_is,
  variable_is,
  bracketed_is,
  array_is,
  pairs_is,
  function_is,
  sub_is,
  append_assoc,
  append-nil,
)

keys_map : (xs : List Pair) → map words.key_of (map (λ (x : Entry). x.key) (map pair_of xs)) ≡ map (λ (p : Pair). words.key_of (pair_of p).key) xs
keys_map [] = refl
keys_map (x ∷ xs) = ap (λ l. words.key_of (pair_of x).key ∷ l) (keys_map xs)

pub keys_more : (keys keys' : List (List ℕ)) (xs : List Pair) (i : ℕ) (x : Pair) (key : List ℕ) → i < length xs → x ≡ get_or xs i x → keys ≡ map words.key_of (map (λ (x : Entry). x.key) (map pair_of (take i xs)))
    → key ≡ words.key_of (key_of (out-Pair x).key) → keys' ≡ keys ++ key ∷ [] → keys' ≡ map words.key_of (map (λ (x : Entry). x.key) (map pair_of (take (i + 1) xs)))
keys_more keys keys' xs i x key h at was one new =
    let one' : key ≡ words.key_of (pair_of x).key = one ∙ sym (ap words.key_of (key_is x)) in
    let f : Pair → List ℕ = λ p. words.key_of (pair_of p).key in
    new ∙ ap (λ l. l ++ key ∷ []) was ∙ ap (λ k. map words.key_of (map (λ (x : Entry). x.key) (map pair_of (take i xs))) ++ k ∷ []) one'
    ∙ ap (λ l. l ++ f x ∷ []) (keys_map (take i xs)) ∙ sym (map-append f (take i xs) (x ∷ []))
    ∙ ap (λ y. map f (take i xs ++ y ∷ [])) at ∙ ap (map f) (sym (take_more xs i x h))
    ∙ sym (keys_map (take (i + 1) xs))
