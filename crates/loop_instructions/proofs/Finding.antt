-- The values that instructions of `for` find.
use Rattle.std.proofs.Common.{◌≡◌, ℕ, ◌+◌, ◌-◌, ◌<◌, ◌≤◌, List, [], ◌∷◌, length, reverse, take, Option, Some, None, refl, sym, ap, ◌∙◌, arith}
use Rattle.std.specs.Prelude.{slice_get, slice_index_or}
use Rattle.std.proofs.lemmas.List.{reverse-reverse, length-reverse, length-take-le, get_or-take, get_or-reverse}
use Rattle.std.proofs.lemmas.Option.{slice_get-get_or}
use Rattle.heap_meaning.specs.declared.plain.Plain.TheVariants as p
use Rattle.heap_meaning.specs.Values.{Value, Direct, Cell, filler}
use Rattle.heap_meaning.specs.Reading.{plain_of}
use Rattle.heap_meaning.specs.Cells.{occurrence}
use Rattle.frame_stack.specs.Operand.{Operand, Holds, Items, Keys, value_of, values}
use Rattle.call_release.specs.References.{operand_references, all_operand_references}
use Rattle.loop_instructions.specs.declared.numbers.Number.{Number}
use Rattle.loop_instructions.specs.declared.numbers.Number.TheVariants as n
use Rattle.loop_instructions.specs.declared.numbers.Range.{Range}
use Rattle.loop_instructions.specs.Numbers.{number_in, number_at, plain_number, range_in, sum, sum_in}

-- ---- operands

-- the first of the last operands is the one before all others
pub operand_placed : (vs ws : List Value) (k : ℕ) → reverse vs ≡ take (k + 1) ws → k < length ws → slice_get vs 0 ≡ slice_get ws k
operand_placed vs ws k e p =
    let xs : List Value = take (k + 1) ws in
    let same : vs ≡ reverse xs = sym (reverse-reverse vs) ∙ ap reverse e in
    let many : length xs ≡ k + 1 = length-take-le (k + 1) ws (omega arith) in
    let turned : length (reverse xs) ≡ length xs = length-reverse xs in
    let place : length xs - 1 - 0 ≡ k = omega arith in
    ap (λ l. slice_get l 0) same
    ∙ slice_get-get_or (reverse xs) 0 filler (omega arith)
    ∙ ap Some (get_or-reverse xs 0 filler (omega arith) ∙ ap (λ j. slice_index_or xs j filler) place ∙ get_or-take (k + 1) ws k filler (omega arith))
    ∙ sym (slice_get-get_or ws k filler p)

value_occurs : (k : ℕ) (o : Operand) → occurrence k (value_of o) ≤ operand_references k o
value_occurs k (Holds v) = omega arith
value_occurs k (Items array next) = omega arith
value_occurs k (Keys keys) = omega arith

-- the value is that of an operand, which the call holds
pub record Found (operands : List Operand) (place : ℕ) (v : Value) : Type 0 where
  pub there : slice_get (values operands) place ≡ Some v
  pub out : (k : ℕ) → occurrence k v ≤ all_operand_references k operands

pub record LastTwo (operands : List Operand) : Type 0 where
  pub last : Value
  pub before : Value
  pub are : take 2 (values operands) ≡ last ∷ before ∷ []
  pub finds_last : Found operands 0 last
  pub finds_before : Found operands 1 before

pub last_two : (operands : List Operand) → 2 ≤ length operands → LastTwo operands
last_two [] h = absurd (omega arith)
last_two (b ∷ []) h = absurd (omega arith)
last_two (b ∷ a ∷ operands) h = record {
  last = value_of b;
  before = value_of a;
  are = refl;
  finds_last = record { there = refl; out = λ k. let y = value_occurs k b in omega arith };
  finds_before = record { there = refl; out = λ k. let y = value_occurs k a in omega arith };
}

pub record LastThree (operands : List Operand) : Type 0 where
  pub last : Value
  pub before : Value
  pub first : Value
  pub are : take 3 (values operands) ≡ last ∷ before ∷ first ∷ []
  pub finds_last : Found operands 0 last
  pub finds_before : Found operands 1 before
  pub finds_first : Found operands 2 first

pub last_three : (operands : List Operand) → 3 ≤ length operands → LastThree operands
last_three [] h = absurd (omega arith)
last_three (c ∷ []) h = absurd (omega arith)
last_three (c ∷ b ∷ []) h = absurd (omega arith)
last_three (c ∷ b ∷ a ∷ operands) h = record {
  last = value_of c;
  before = value_of b;
  first = value_of a;
  are = refl;
  finds_last = record { there = refl; out = λ k. let y = value_occurs k c in omega arith };
  finds_before = record { there = refl; out = λ k. let y = value_occurs k b in omega arith };
  finds_first = record { there = refl; out = λ k. let y = value_occurs k a in omega arith };
}

-- ---- numbers

pub number_is : (v : Value) (m : Number) → number_in (plain_of v) ≡ Some m → v ≡ Direct (plain_number m)
number_is (Direct (p.Small z)) m e =
    let s : Some (n.Small z) ≡ Some m = e in
    let q : n.Small z ≡ m = cc in
    ap (λ (x : Number). Direct (plain_number x)) q
number_is (Direct (p.Big z)) m e =
    let s : Some (n.Big z) ≡ Some m = e in
    let q : n.Big z ≡ m = cc in
    ap (λ (x : Number). Direct (plain_number x)) q
number_is (Direct p.Invalid) m e = absurd cc
number_is (Direct (p.Truth b)) m e = absurd cc
number_is (Direct (p.Function k)) m e = absurd cc
number_is (Direct (p.Node k)) m e = absurd cc
number_is (Direct (p.Port k)) m e = absurd cc
number_is (Direct p.Screen) m e = absurd cc
number_is (Cell k) m e = absurd cc

pub number_at_is : (o : Option Value) (m : Number) → number_at o ≡ Some m → o ≡ Some (Direct (plain_number m))
number_at_is None m e = absurd cc
number_at_is (Some v) m e = ap Some (number_is v m e)

-- the value of an operand that was found to be a number
pub found_is : (operands : List Operand) (place : ℕ) (v : Value) (m : Number) → Found operands place v → number_at (slice_get (values operands) place) ≡ Some m → v ≡ Direct (plain_number m)
found_is operands place v m f e = number_is v m (ap number_at (sym f.there) ∙ e)

pub record Are (a b c : Option Number) (r : Range) : Type 0 where
  pub start : a ≡ Some r.start
  pub end : b ≡ Some r.end
  pub step : c ≡ Some r.step

pub range_is : (a b c : Option Number) (r : Range) → range_in a b c ≡ Some r → Are a b c r
range_is (Some x) (Some y) (Some z) r e =
    let s : Some (record { start = x; end = y; step = z }) ≡ Some r = e in
    let q : record { start = x; end = y; step = z } ≡ r = cc in
    record { start = ap (λ (w : Range). Some w.start) q; end = ap (λ (w : Range). Some w.end) q; step = ap (λ (w : Range). Some w.step) q }
range_is None b c r e = absurd cc
range_is (Some x) None c r e = absurd cc
range_is (Some x) (Some y) None r e = absurd cc

pub record Added (a b : Option Number) (m : Number) : Type 0 where
  pub left : Number
  pub right : Number
  pub left_is : a ≡ Some left
  pub right_is : b ≡ Some right
  pub is : m ≡ sum left right

pub sum_is : (a b : Option Number) (m : Number) → sum_in a b ≡ Some m → Added a b m
sum_is (Some x) (Some y) m e =
    let s : Some (sum x y) ≡ Some m = e in
    let q : sum x y ≡ m = cc in
    record { left = x; right = y; left_is = refl; right_is = refl; is = sym q }
sum_is None b m e = absurd cc
sum_is (Some x) None m e = absurd cc
