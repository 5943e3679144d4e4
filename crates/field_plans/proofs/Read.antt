-- A text has the value that its type reads.
use Rattle.std.proofs.Common.{◌≡◌, ◌⊎◌, ℕ, ◌<◌, ◌^◌, ℤ, pos, negsuc, Bool, true, false, cond, ◌&&◌, List, [], ◌∷◌, Option, Some, None, codes, length, refl, sym, ap, ◌∙◌, arith, inl, inr, subst, SFits, w32, w64, ltb-true, lt-ltb}
use mir.Syntax.{Width}
use mir.Val.{hbits}
use Rattle.std.specs.Prelude.{Ok}
use Rattle.std.specs.Option.{option_map}
use Rattle.std.proofs.lemmas.Slice.Eq.{bytes_eq-Decides}
use Rattle.std.specs.Str.{all_ascii_digits}
use Rattle.std.specs.Str.Parse.{IsNumeral, digits_value, without_leading_sign, signed_digits_value}
use Rattle.std.proofs.lemmas.Str.Parse.{IsNumeralModel, numerals_by_value, tells_all_ascii_digits}
use Rattle.chan_values.specs.Tree.{Tree, Leaf, Boolean, Integer, LongInteger, Words}
use Rattle.chan_values.specs.Folded.{folded}
use Rattle.chan_values.specs.View.{tree_of}
use Rattle.chan_values.specs.declared.portable.Portable.{Portable}
use Rattle.field_types.specs.Attribute.{Reads, IsNumber, Answers}
use Rattle.field_types.specs.Opening.{opening_of}
use Rattle.field_types.specs.Words.{is_alike}
use Rattle.field_types.specs.declared.types.FieldType.{FieldType}
use Rattle.field_types.specs.declared.types.FieldType.TheVariants as t
use Rattle.field_plans.specs.Values.{is_numeral, is_within, is_number, where_empty, value_read}

-- ---- numerals and ranges

digits : IsNumeralModel (λ ds. all_ascii_digits ds ≡ true) (digits_value 10)
digits = numerals_by_value (λ ds. all_ascii_digits ds ≡ true) tells_all_ascii_digits

numeral_is : (ds : List ℕ) → IsNumeral 10 ds → is_numeral ds ≡ true
numeral_is [] n = let short = n.0 in absurd (omega arith)
numeral_is (c ∷ cs) n = digits.from (c ∷ cs) n.1

is_a_numeral : (ds : List ℕ) → is_numeral ds ≡ true → IsNumeral 10 ds
is_a_numeral [] e = absurd cc
is_a_numeral (c ∷ cs) e = (omega arith, digits.to (c ∷ cs) e)

within_is : (w : Width) (bits : ℕ) (z : ℤ) → hbits w ≡ bits → SFits w z → is_within bits z ≡ true
within_is w bits (pos n) e f = let h = f.sfits in lt-ltb n (2 ^ bits) (subst (λ b. n < 2 ^ b) e h)
within_is w bits (negsuc n) e f = let h = f.sfits in lt-ltb n (2 ^ bits) (subst (λ b. n < 2 ^ b) e h)

is_a_fit : (w : Width) (bits : ℕ) (z : ℤ) → hbits w ≡ bits → is_within bits z ≡ true → SFits w z
is_a_fit w bits (pos n) e h = record { sfits = subst (λ b. n < 2 ^ b) (sym e) (ltb-true n (2 ^ bits) h) }
is_a_fit w bits (negsuc n) e h = record { sfits = subst (λ b. n < 2 ^ b) (sym e) (ltb-true n (2 ^ bits) h) }

both_true : (a b : Bool) → a ≡ true → b ≡ true → (a && b) ≡ true
both_true true b e f = f
both_true false b e f = absurd cc

parts_true : (a b : Bool) → (a && b) ≡ true → (a ≡ true) × (b ≡ true)
parts_true true b e = (refl, e)
parts_true false b e = absurd cc

number_is : (w : Width) (bits : ℕ) (text : List ℕ) → hbits w ≡ bits → IsNumber w text → is_number bits text ≡ true
number_is w bits text e n =
    both_true (is_numeral (without_leading_sign text)) (is_within bits (signed_digits_value 10 text)) (numeral_is (without_leading_sign text) n.0) (within_is w bits (signed_digits_value 10 text) e n.1)

is_a_number : (w : Width) (bits : ℕ) (text : List ℕ) → hbits w ≡ bits → is_number bits text ≡ true → IsNumber w text
is_a_number w bits text e h =
    let p = parts_true (is_numeral (without_leading_sign text)) (is_within bits (signed_digits_value 10 text)) h in
    (is_a_numeral (without_leading_sign text) p.0, is_a_fit w bits (signed_digits_value 10 text) e p.1)

-- ---- one of two

chosen : {A : Type 0} (b : Bool) (x : A) (o : Option A) → b ≡ true → cond b (Some x) o ≡ Some x
chosen true x o e = refl
chosen false x o e = absurd cc

-- ---- the words of truth

not_both : (text : List ℕ) → is_alike (codes "true") text ≡ true → is_alike (codes "false") text ≡ true → ⊥
unfolding is_alike
not_both text a b =
    let e : folded (codes "true") ≡ folded (codes "false") = (bytes_eq-Decides (folded (codes "true")) (folded text)).0 a ∙ sym ((bytes_eq-Decides (folded (codes "false")) (folded text)).0 b) in
    let n : 4 ≡ 5 = ap length e in
    omega (arith, n)

false_read : (b c : Bool) (x y : Tree) → (b ≡ true → c ≡ true → ⊥) → c ≡ true → cond b (Some x) (cond c (Some y) None) ≡ Some y
false_read true c x y h e = absurd (h refl e)
false_read false true x y h e = refl
false_read false false x y h e = absurd cc

truth_read : (b c : Bool) (x y v : Tree) → cond b (Some x) (cond c (Some y) None) ≡ Some v → ((b ≡ true) × (v ≡ x)) ⊎ ((c ≡ true) × (v ≡ y))
truth_read true c x y v e = let s : x ≡ v = cc in inl (refl, sym s)
truth_read false true x y v e = let s : y ≡ v = cc in inr (refl, sym s)
truth_read false false x y v e = absurd cc

-- ---- the empty text

empty_is : (text : List ℕ) (usual v : Tree) → (text ≡ []) × (v ≡ usual) → where_empty text usual ≡ Some v
empty_is [] usual v r = ap Some (sym r.1)
empty_is (c ∷ cs) usual v r = absurd (no_text c cs r.0)
  where
    no_text : (c : ℕ) (cs : List ℕ) → c ∷ cs ≡ [] → ⊥
    no_text c cs e = absurd cc

is_an_empty : (text : List ℕ) (usual v : Tree) → where_empty text usual ≡ Some v → (text ≡ []) × (v ≡ usual)
is_an_empty [] usual v e = let s : usual ≡ v = cc in (refl, sym s)
is_an_empty (c ∷ cs) usual v e = absurd cc

-- ---- what a type reads

one_choice : (b : Bool) (x v : Tree) → cond b (Some x) None ≡ Some v → (b ≡ true) × (v ≡ x)
one_choice true x v e = let s : x ≡ v = cc in (refl, sym s)
one_choice false x v e = absurd cc

pub read_is : (k : FieldType) (text : List ℕ) (v : Tree) → Reads k text v → value_read k text ≡ Some v
read_is t.Integer text v r = chosen (is_number 31 text) (Leaf (Integer (signed_digits_value 10 text))) None (number_is w32 31 text refl r.0) ∙ ap Some (sym r.1)
read_is t.LongInteger text v r = chosen (is_number 63 text) (Leaf (LongInteger (signed_digits_value 10 text))) None (number_is w64 63 text refl r.0) ∙ ap Some (sym r.1)
read_is t.Boolean text v (inl r) = chosen (is_alike (codes "true") text) (Leaf (Boolean true)) (cond (is_alike (codes "false") text) (Some (Leaf (Boolean false))) None) r.0 ∙ ap Some (sym r.1)
read_is t.Boolean text v (inr r) = false_read (is_alike (codes "true") text) (is_alike (codes "false") text) (Leaf (Boolean true)) (Leaf (Boolean false)) (not_both text) r.0 ∙ ap Some (sym r.1)
read_is t.String text v r = ap Some (sym r)
read_is t.Node text v r = empty_is text (opening_of t.Node) v r
read_is t.AssocArray text v r = empty_is text (opening_of t.AssocArray) v r
read_is t.Array text v r = empty_is text (opening_of t.Array) v r
read_is t.StringArray text v r = empty_is text (opening_of t.StringArray) v r
read_is t.IntArray text v r = empty_is text (opening_of t.IntArray) v r
read_is t.BoolArray text v r = empty_is text (opening_of t.BoolArray) v r
read_is t.NodeArray text v r = empty_is text (opening_of t.NodeArray) v r

pub is_read : (k : FieldType) (text : List ℕ) (v : Tree) → value_read k text ≡ Some v → Reads k text v
is_read t.Integer text v e = let p = one_choice (is_number 31 text) (Leaf (Integer (signed_digits_value 10 text))) v e in (is_a_number w32 31 text refl p.0, p.1)
is_read t.LongInteger text v e = let p = one_choice (is_number 63 text) (Leaf (LongInteger (signed_digits_value 10 text))) v e in (is_a_number w64 63 text refl p.0, p.1)
is_read t.Boolean text v e = truth_read (is_alike (codes "true") text) (is_alike (codes "false") text) (Leaf (Boolean true)) (Leaf (Boolean false)) v e
is_read t.String text v e = let s : Leaf (Words text) ≡ v = cc in sym s
is_read t.Node text v e = is_an_empty text (opening_of t.Node) v e
is_read t.AssocArray text v e = is_an_empty text (opening_of t.AssocArray) v e
is_read t.Array text v e = is_an_empty text (opening_of t.Array) v e
is_read t.StringArray text v e = is_an_empty text (opening_of t.StringArray) v e
is_read t.IntArray text v e = is_an_empty text (opening_of t.IntArray) v e
is_read t.BoolArray text v e = is_an_empty text (opening_of t.BoolArray) v e
is_read t.NodeArray text v e = is_an_empty text (opening_of t.NodeArray) v e

pub not_read : (k : FieldType) (text : List ℕ) → ((v : Tree) → Reads k text v → ⊥) → value_read k text ≡ None
not_read k text none = go (value_read k text) refl
  where
    go : (o : Option Tree) → value_read k text ≡ o → o ≡ None
    go None e = refl
    go (Some v) e = absurd (none v (is_read k text v e))

-- what `read_attribute` answers is what the type reads
pub answer_is : (k : FieldType) (text : List ℕ) (p : Portable) → Answers k text (Ok p) → option_map tree_of (Some p) ≡ value_read k text
answer_is k text p r = sym (read_is k text (tree_of p) r)
