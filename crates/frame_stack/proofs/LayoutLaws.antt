-- What the operands are, seen from the stack of values.
use Rattle.std.proofs.Common.{◌≡◌, ℕ, suc, ◌+◌, ◌-◌, ◌<◌, ◌≤◌, Bool, true, false, List, [], ◌∷◌, ◌++◌, length, take, drop, cond, eqb, refl, sym, ap, ◌∙◌, subst, arith}
use Rattle.std.specs.Prelude.{reverse}
use Rattle.std.proofs.lemmas.Bool.{eqb-true}
use Rattle.std.proofs.lemmas.List.{length-map, length-reverse, reverse-append, length-drop, take_all}
use Rattle.heap_meaning.specs.Values.{Value}
use Rattle.frame_stack.specs.declared.operands.Loop.{Loop}
use Rattle.frame_stack.specs.Operand.{Operand, Holds, value_of, values, each_of}
use Rattle.frame_stack.specs.Layout.{seen, Ascend, IsLaidOut}
use Rattle.frame_stack.proofs.Ends.{take_reverse}

-- ---- a value more

apart_as : (b : Bool) (a n : ℕ) → a < n → eqb a n ≡ b → eqb a n ≡ false
apart_as false a n h q = q
apart_as true a n h q = let x : a ≡ n = eqb-true a n q in absurd (omega arith)

ascend_more : (loops : List Loop) (n : ℕ) → Ascend loops n → Ascend loops (suc n)
ascend_more [] n a = tt
ascend_more (l ∷ loops) n a = let x : l.at < n = a.0 in (omega arith, a.1)

seen_value : (v : Value) (vs : List Value) (loops : List Loop) → Ascend loops (length vs) → seen (v ∷ vs) loops ≡ Holds v ∷ seen vs loops
seen_value v vs [] a = refl
seen_value v vs (l ∷ loops) a = ap (λ b. cond b (each_of l.each ∷ seen vs loops) (Holds v ∷ seen vs (l ∷ loops))) (apart_as (eqb l.at (length vs)) l.at (length vs) a.0 refl)

value_laid : (v : Value) (vs : List Value) (loops : List Loop) → IsLaidOut vs loops → IsLaidOut (v ∷ vs) loops
value_laid v vs loops h = record {
  places = ascend_more loops (length vs) h.places;
  fillers = ap values (seen_value v vs loops h.places) ∙ ap (λ l. v ∷ l) h.fillers;
}

pub pushed_laid : (v : Value) (first old new : List Value) (loops : List Loop) → old ≡ first → new ≡ old ++ v ∷ [] → IsLaidOut (reverse first) loops → IsLaidOut (reverse new) loops
pushed_laid v first old new loops same more h = subst (λ l. IsLaidOut l loops) (sym (ap reverse more ∙ reverse-append old (v ∷ []) ∙ ap (λ l. v ∷ reverse l) same)) (value_laid v (reverse first) loops h)

-- ---- how many there are

pub seen_length : (vs : List Value) (loops : List Loop) → IsLaidOut vs loops → length (seen vs loops) ≡ length vs
seen_length vs loops h = sym (length-map (seen vs loops) value_of) ∙ ap length h.fillers

-- the values of the last operands, as the program reads them
pub last_values : (xs read : List Value) (loops : List Loop) (shown : List Operand) (len n : ℕ) → read ≡ xs → len ≡ length xs → seen (reverse xs) loops ≡ shown → IsLaidOut (reverse xs) loops → n ≤ length shown
    → reverse (take (length read - (len - n)) (drop (len - n) read)) ≡ take n (values shown)
last_values xs read loops shown len n is l v h b =
    let s = seen_length (reverse xs) loops h in
    let r = length-reverse xs in
    let w : length (seen (reverse xs) loops) ≡ length shown = ap length v in
    let d = length-drop (len - n) xs in
    let e : len - n + n ≡ length xs = omega arith in
    let m : length (drop (len - n) xs) ≤ length xs - (len - n) = omega arith in
    ap (λ ys. reverse (take (length ys - (len - n)) (drop (len - n) ys))) is
    ∙ ap reverse (take_all (length xs - (len - n)) (drop (len - n) xs) m)
    ∙ take_reverse xs (len - n) n e
    ∙ ap (take n) (sym h.fillers)
    ∙ ap (λ ops. take n (values ops)) v
