-- What the values that instructions of `for` find are in the meaning.
use Rattle.std.proofs.Common.{◌≡◌, ℕ, ◌≤◌, [], ◌∷◌, Option, Some, None, refl, ap, ◌∙◌}
use Rattle.std.specs.Prelude.{ℤ, pos, Bool, true, false, cond}
use Rattle.std.specs.Option.{option_map}
use Rattle.chan_values.specs.declared.error_code.ErrorCode.TheVariants.{E2}
use Rattle.heap_meaning.specs.declared.plain.Plain.{Plain}
use Rattle.heap_meaning.specs.declared.plain.Plain.TheVariants as p
use Rattle.heap_meaning.specs.Values.{Value, StoreValue, Scalar}
use Rattle.heap_meaning.specs.Reading.{plain_of}
use Rattle.heap_meaning.specs.Store.{Store}
use Rattle.heap_meaning.specs.Cells.{Content, occurrence}
use Rattle.heap_meaning.specs.Stands.{Naming, Outside, meaning, Stands}
use Rattle.heap_meaning.specs.Heap.{Heap, content_at}
use Rattle.heap_meaning.proofs.Showing.{out_belongs, Seen, sees_plain, sees_text, sees_array, sees_pairs, sees_message, sees}
use Rattle.plain_operations.specs.declared.operator.Operator.TheVariants as o
use Rattle.brs_meaning.specs.Heads.{binary}
use Rattle.brs_meaning.specs.Given.{Gives, Fails}
use Rattle.brs_meaning.specs.Statements.{number, numbers, variable_number, stepped}
use Rattle.loop_instructions.specs.declared.numbers.Number.{Number}
use Rattle.loop_instructions.specs.declared.numbers.Number.TheVariants as n
use Rattle.loop_instructions.specs.declared.numbers.Range.{Range}
use Rattle.loop_instructions.specs.Numbers.{number_in, number_at, plain_number, integer, range_in, sum, sum_in}

-- ---- numbers

plain_means : (plain : Plain) → number (Scalar plain) ≡ option_map integer (number_in (Some plain))
plain_means p.Invalid = refl
plain_means (p.Truth b) = refl
plain_means (p.Small z) = refl
plain_means (p.Big z) = refl
plain_means (p.Function k) = refl
plain_means (p.Node k) = refl
plain_means (p.Port k) = refl
plain_means p.Screen = refl

seen_means : (name : Naming) (store : Store) (v : Value) (w : StoreValue) (o : Option Content) → Seen name store v w o → number w ≡ option_map integer (number_in (plain_of v))
seen_means name store _ _ _ (sees_plain {p = plain}) = plain_means plain
seen_means name store _ _ _ sees_text = refl
seen_means name store _ _ _ (sees_array g) = refl
seen_means name store _ _ _ (sees_pairs g) = refl
seen_means name store _ _ _ (sees_message g) = refl

-- a value that the calls hold is a number of the store exactly where it is one of the heap
pub value_means : (heap : Heap) (name : Naming) (store : Store) (outside : Outside) (v : Value) → Stands name heap.cells store outside → ((k : ℕ) → occurrence k v ≤ outside k) → number (meaning name v) ≡ option_map integer (number_in (plain_of v))
value_means heap name store outside v stands out =
    seen_means name store v (meaning name v) (content_at heap v) (sees heap name store outside v stands (out_belongs heap name store outside v stands out))

pub slot_means : (heap : Heap) (name : Naming) (store : Store) (outside : Outside) (o : Option Value) → Stands name heap.cells store outside → ((v : Value) → o ≡ Some v → (k : ℕ) → occurrence k v ≤ outside k)
    → variable_number (option_map (meaning name) o) ≡ option_map integer (number_at o)
slot_means heap name store outside None stands out = refl
slot_means heap name store outside (Some v) stands out = value_means heap name store outside v stands (out v refl)

pub number_means : (m : Number) → number (Scalar (plain_number m)) ≡ Some (integer m)
number_means (n.Small z) = refl
number_means (n.Big z) = refl

-- ---- the tables, by the numbers that were found

pub all_numbers : (r : Range) → numbers (number (Scalar (plain_number r.start))) (number (Scalar (plain_number r.end))) (number (Scalar (plain_number r.step))) ≡ true
all_numbers r =
    ap (λ q. numbers q (number (Scalar (plain_number r.end))) (number (Scalar (plain_number r.step)))) (number_means r.start)
    ∙ ap (λ q. numbers (Some (integer r.start)) q (number (Scalar (plain_number r.step)))) (number_means r.end)
    ∙ ap (λ q. numbers (Some (integer r.start)) (Some (integer r.end)) q) (number_means r.step)

no_range : (a b c : Option Number) → range_in a b c ≡ None → numbers (option_map integer a) (option_map integer b) (option_map integer c) ≡ false
no_range None b c e = refl
no_range (Some x) None c e = refl
no_range (Some x) (Some y) None e = refl
no_range (Some x) (Some y) (Some z) e = absurd cc

pub not_numbers : (x y z : Option ℤ) (a b c : Option Number) → x ≡ option_map integer a → y ≡ option_map integer b → z ≡ option_map integer c → range_in a b c ≡ None → numbers x y z ≡ false
not_numbers x y z a b c ea eb ec e =
    ap (λ q. numbers q y z) ea ∙ ap (λ q. numbers (option_map integer a) q z) eb ∙ ap (λ q. numbers (option_map integer a) (option_map integer b) q) ec ∙ no_range a b c e

-- ---- sums

pub step_taken : (a b : Number) (store : Store) → stepped (Some (Scalar (plain_number a))) (Scalar (plain_number b)) store ≡ Gives (Scalar (plain_number (sum a b))) store
step_taken (n.Small x) (n.Small y) store = refl
step_taken (n.Small x) (n.Big y) store = refl
step_taken (n.Big x) (n.Small y) store = refl
step_taken (n.Big x) (n.Big y) store = refl

no_sum : (a b : Option Number) → sum_in a b ≡ None → numbers (option_map integer a) (option_map integer b) (Some (pos 0)) ≡ false
no_sum None b e = refl
no_sum (Some x) None e = refl
no_sum (Some x) (Some y) e = absurd cc

pub no_step : (v : Option StoreValue) (step : StoreValue) (store : Store) (a b : Option Number) → variable_number v ≡ option_map integer a → number step ≡ option_map integer b → sum_in a b ≡ None → stepped v step store ≡ Fails E2
no_step None step store a b ea eb e = refl
no_step (Some v) step store a b ea eb e =
    ap (λ (q : Bool). cond q (binary o.Add (step ∷ v ∷ []) store) (Fails E2)) (ap (λ q. numbers q (number step) (Some (pos 0))) ea ∙ ap (λ q. numbers (option_map integer a) q (Some (pos 0))) eb ∙ no_sum a b e)
