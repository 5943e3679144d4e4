-- Lists of operands, and slots beside locals.
use Rattle.std.proofs.Common.{◌≡◌, ℕ, zero, suc, ◌<◌, List, [], ◌∷◌, ◌++◌, length, map, take, drop, Option, Some, Bool, true, false, cond, refl, sym, ap, ◌∙◌, arith, ◌⊎◌, inl, inr}
use Rattle.std.specs.Prelude.{slice_get, slice_set}
use Rattle.std.specs.Str.{bytes_eq}
use Rattle.std.proofs.lemmas.Slice.Eq.{bytes_eq-Decides}
use Rattle.heap_meaning.specs.Values.{StoreValue}
use Rattle.heap_meaning.proofs.Writes.{get_set_same, get_set_other, length_set}
use Rattle.brs_grammar.specs.Form.{Text}
use Rattle.brs_code.specs.declared.function.Function.{Function}
use Rattle.code_relation.specs.Standing.{AreDistinct}
use Rattle.brs_meaning.specs.Locals.{Locals, local, assigned}
use Rattle.machine_meaning.specs.Frame.{Holds, values, Slots, or_unset, with_slot}
use Rattle.machine_match.specs.Stands.{SlotsAre}

pub values_held : (vs : List StoreValue) → values (map Holds vs) ≡ vs
values_held [] = refl
values_held (v ∷ vs) = ap (λ l. v ∷ l) (values_held vs)

pub take_front : {A : Type 0} (xs ys : List A) → take (length xs) (xs ++ ys) ≡ xs
take_front [] ys = refl
take_front (x ∷ xs) ys = ap (λ l. x ∷ l) (take_front xs ys)

pub drop_front : {A : Type 0} (xs ys : List A) → drop (length xs) (xs ++ ys) ≡ ys
drop_front [] ys = refl
drop_front (x ∷ xs) ys = drop_front xs ys

pub get_within : {A : Type 0} (xs : List A) (n : ℕ) (x : A) → slice_get xs n ≡ Some x → n < length xs
get_within [] n x e = absurd cc
get_within (y ∷ xs) zero x e = omega arith
get_within (y ∷ xs) (suc n) x e = let l = get_within xs n x e in omega arith

-- ---- texts

pub same_bytes : (x : Text) → bytes_eq x x ≡ true
same_bytes x = (bytes_eq-Decides x x).1 refl

pub bytes_of : (x y : Text) → bytes_eq x y ≡ true → x ≡ y
bytes_of x y e = (bytes_eq-Decides x y).0 e

pub bytes_apart : (x y : Text) → (x ≡ y → ⊥) → bytes_eq x y ≡ false
bytes_apart x y apart = go (bytes_eq x y) refl
  where
    go : (b : Bool) → bytes_eq x y ≡ b → b ≡ false
    go true e = absurd (apart (bytes_of x y e))
    go false e = refl

-- ---- locals

pub local_assigned : (x y : Text) (v : StoreValue) (locals : Locals) → local x (assigned y v locals) ≡ cond (bytes_eq y x) (Some v) (local x locals)
local_assigned x y v [] = refl
local_assigned x y v (e ∷ rest) = go (bytes_eq e.key y) refl (bytes_eq y x) refl (local_assigned x y v rest)
  where
    go : (b : Bool) → bytes_eq e.key y ≡ b → (d : Bool) → bytes_eq y x ≡ d → local x (assigned y v rest) ≡ cond (bytes_eq y x) (Some v) (local x rest)
        → local x (cond b (record { key = y; value = v } ∷ rest) (e ∷ assigned y v rest)) ≡ cond d (Some v) (local x (e ∷ rest))
    go true same d found back =
        let key : e.key ≡ y = bytes_of e.key y same in
        ap (λ c. cond c (Some v) (local x rest)) found ∙ past d found key
      where
        past : (d : Bool) → bytes_eq y x ≡ d → e.key ≡ y → cond {A = Option StoreValue} d (Some v) (local x rest) ≡ cond d (Some v) (local x (e ∷ rest))
        past true found key = refl
        past false found key = ap (λ c. cond c (Some e.value) (local x rest)) (sym (ap (λ k. bytes_eq k x) key ∙ found))
    go false other true found back =
        let same : y ≡ x = bytes_of y x found in
        ap (λ c. cond c (Some e.value) (local x (assigned y v rest))) (ap (bytes_eq e.key) (sym same) ∙ other) ∙ back ∙ ap (λ c. cond c (Some v) (local x rest)) found
    go false other false found back = ap (λ l. cond (bytes_eq e.key x) (Some e.value) l) (back ∙ ap (λ c. cond c (Some v) (local x rest)) found)

same_or : (n k : ℕ) → (n ≡ k) ⊎ (n ≡ k → ⊥)
same_or zero zero = inl refl
same_or zero (suc k) = inr (λ e. omega (arith, e))
same_or (suc n) zero = inr (λ e. omega (arith, e))
same_or (suc n) (suc k) = elim (same_or n k) [ inl e ↦ inl (ap suc e) | inr not ↦ inr (λ e. let f : n ≡ k = omega (arith, e) in not f) ]

-- a slot that is set is the local of its name that is assigned
pub slots_set : (f : Function) (slots : Slots) (locals : Locals) (n : ℕ) (x : Text) (v : StoreValue)
    → AreDistinct f.names → length slots ≡ length f.names → slice_get f.names n ≡ Some x → SlotsAre f slots locals → SlotsAre f (with_slot n v slots) (assigned x v locals)
slots_set f slots locals n x v distinct room named are k y at = elim (same_or k n) [
  | inl e ↦
      let same : x ≡ y = cc in
      local_assigned y x v locals
      ∙ ap (λ c. cond c (Some v) (local y locals)) (ap (λ t. bytes_eq t y) same ∙ same_bytes y)
      ∙ sym (ap or_unset (ap (slice_get (slice_set slots n (Some v))) e ∙ get_set_same slots n (Some v) within))
  | inr not ↦
      local_assigned y x v locals
      ∙ ap (λ c. cond c (Some v) (local y locals)) (bytes_apart x y (λ e. not (distinct k n y at (named ∙ ap Some e))))
      ∙ are k y at
      ∙ sym (ap or_unset (get_set_other slots n k (Some v) not))
]
  where
    within : n < length slots
    within = let l = get_within f.names n x named in omega (arith, room)

pub room_set : (f : Function) (slots : Slots) (n : ℕ) (v : StoreValue) → length slots ≡ length f.names → length (with_slot n v slots) ≡ length f.names
room_set f slots n v room = length_set slots n (Some v) ∙ room
