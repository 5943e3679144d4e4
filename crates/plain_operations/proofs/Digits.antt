-- Digits at the start of a text.
use Rattle.std.proofs.Common.{◌≡◌, ℕ, ◌+◌, ◌-◌, ◌*◌, ◌<◌, ◌≤◌, ℤ, pos, ◌+ℤ◌, ◌*ℤ◌, true, false, cond, List, [], ◌∷◌, length, drop, get_or, refl, sym, ap, ◌∙◌, arith}
use Rattle.std.proofs.lemmas.Bool.Decides.{nat_tests}
use Rattle.std.proofs.lemmas.Int.{int_wrap-add_left, int_wrap-add_same, int_wrap-mul_left}
use Rattle.std.proofs.lemmas.List.{drop_more, drop_all}
use Rattle.std.proofs.lemmas.List.Sums.{take_while-cons}
use Rattle.std.specs.Char.{digit_value, is_ascii_digit}
use Rattle.std.specs.Int.{w32, int_wrap}
use Rattle.std.specs.List.{take_while}
use Rattle.std.specs.Str.Parse.{digits_value_after}
use Rattle.plain_operations.specs.Texts.{leading_number}

-- a digit more, on a number that has wrapped already
digit_wraps : (n : ℤ) (m d : ℕ) → n ≡ int_wrap w32 (pos m) → int_wrap w32 (int_wrap w32 (n *ℤ pos 10) +ℤ pos d) ≡ int_wrap w32 (pos (m * 10 + d))
digit_wraps n m d e =
    int_wrap-add_left w32 (n *ℤ pos 10) (pos d)
    ∙ int_wrap-add_same w32 (n *ℤ pos 10) (pos m *ℤ pos 10) (pos d) (ap (λ x. int_wrap w32 (x *ℤ pos 10)) e ∙ int_wrap-mul_left w32 (pos m) (pos 10))

-- the number, unwrapped, is that of the digits before place i
abbrev pub Reads : List ℕ → ℕ → ℤ → Type 0
Reads s i number = (m : ℕ) × (number ≡ int_wrap w32 (pos m)) × (digits_value_after 10 m (take_while is_ascii_digit (drop i s)) ≡ leading_number s)

digit_value_is : (d : ℕ) → is_ascii_digit d ≡ true → digit_value d ≡ d - 48
digit_value_is d e = grind (arith, nat_tests)

first_digit : (s : List ℕ) (i : ℕ) → i < length s → take_while is_ascii_digit (drop i s) ≡ cond (is_ascii_digit (get_or s i 0)) (get_or s i 0 ∷ take_while is_ascii_digit (drop (i + 1) s)) []
first_digit s i l = ap (take_while is_ascii_digit) (drop_more s i 0 l) ∙ take_while-cons is_ascii_digit (get_or s i 0) (drop (i + 1) s)

pub reads_more : (s : List ℕ) (i : ℕ) (number next : ℤ) → i < length s → is_ascii_digit (get_or s i 0) ≡ true → next ≡ int_wrap w32 (int_wrap w32 (number *ℤ pos 10) +ℤ pos (get_or s i 0 - 48)) → Reads s i number → Reads s (i + 1) next
reads_more s i number next l e f r =
    let d = get_or s i 0 in
    let t = take_while is_ascii_digit (drop (i + 1) s) in
    let g : digits_value_after 10 r.0 (take_while is_ascii_digit (drop i s)) ≡ digits_value_after 10 (r.0 * 10 + (d - 48)) t =
    ap (digits_value_after 10 r.0) (first_digit s i l ∙ ap (λ b. cond b (d ∷ t) []) e) ∙ ap (λ x. digits_value_after 10 (r.0 * 10 + x) t) (digit_value_is d e) in
    (r.0 * 10 + (d - 48), f ∙ digit_wraps number r.0 (d - 48) r.1, sym g ∙ r.2)

pub reads_stop : (s : List ℕ) (i : ℕ) (number : ℤ) → i < length s → is_ascii_digit (get_or s i 0) ≡ false → Reads s i number → number ≡ int_wrap w32 (pos (leading_number s))
reads_stop s i number l e r =
    let t = take_while is_ascii_digit (drop (i + 1) s) in
    r.1 ∙ ap (λ x. int_wrap w32 (pos x)) (sym (ap (digits_value_after 10 r.0) (first_digit s i l ∙ ap (λ b. cond b (get_or s i 0 ∷ t) []) e)) ∙ r.2)

pub reads_all : (s : List ℕ) (i : ℕ) (number : ℤ) → length s ≤ i → Reads s i number → number ≡ int_wrap w32 (pos (leading_number s))
reads_all s i number l r = r.1 ∙ ap (λ x. int_wrap w32 (pos x)) (sym (ap (λ x. digits_value_after 10 r.0 (take_while is_ascii_digit x)) (drop_all i s l)) ∙ r.2)

pub reads_none : (s : List ℕ) → Reads s 0 (pos 0)
unfolding int_wrap
reads_none s = (0, refl, refl)
