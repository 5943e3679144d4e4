-- What `parse` reads where no sign and no leading zero stands in front.
use Rattle.std.proofs.Common.{◌≡◌, ◌≢◌, ℕ, zero, suc, ◌^◌, ◌<◌, true, List, length, drop, get_or, Option, Some, IfSome, Result, Ok, Err, IsUtf8, sym, refl, ap, ◌∙◌, subst, arith}
use Rattle.std.specs.Fmt.{decimal}
use Rattle.std.specs.Result.{result_ok}
use Rattle.std.specs.Str.Parse.{AllDigits, digits_value, ParsesUnsigned, without_leading_plus}
use Rattle.std.proofs.lemmas.Bool.{ne_eqb, cond-false}
use Rattle.std.proofs.lemmas.Bool.Decides.{nat_tests}
use Rattle.std.proofs.lemmas.Fmt.{decimal_digit, first_decimal, IsAscii-decimal, decimal-digits_value, parse-decimal}
use Rattle.std.proofs.lemmas.Str.{IsUtf8-from_ascii}
use Rattle.std.proofs.lemmas.Str.Parse.{IsNumeralModel}
use Rattle.script_text.specs.Numbers.{is_plain}

own : IsNumeralModel (AllDigits 10) (digits_value 10)
own = record { to = λ ds h. h; from = λ ds h. h; same = λ ds h. refl }

pub IsUtf8-decimal : (n : ℕ) → n < 2 ^ 32 → IsUtf8 (decimal n)
IsUtf8-decimal n small = IsUtf8-from_ascii (decimal n) (IsAscii-decimal n (omega arith))

plain_above : (bs : List ℕ) → 48 < get_or bs 0 0 → is_plain bs ≡ true
plain_above bs above = grind (arith, nat_tests)

pub decimal-plain : (n : ℕ) → n < 2 ^ 32 → is_plain (decimal n) ≡ true
decimal-plain zero small = rw (decimal_digit 0 (omega arith)) refl
decimal-plain (suc n) small = plain_above (decimal (suc n)) (first_decimal (suc n) (omega arith) (omega arith))

plain_first : (bs : List ℕ) → is_plain bs ≡ true → get_or bs 0 0 ≢ 43
plain_first bs plain = λ e. grind (arith, nat_tests)

plain_zero : (bs : List ℕ) → is_plain bs ≡ true → 0 < length bs → get_or bs 0 0 ≡ 48 → length bs ≡ 1
plain_zero bs plain full first = grind (arith, nat_tests)

no_plus : (bs : List ℕ) → is_plain bs ≡ true → without_leading_plus bs ≡ bs
no_plus bs plain = ap (λ k. drop k bs) (cond-false _ 1 0 (ne_eqb (get_or bs 0 0) 43 (plain_first bs plain)))

plain_parsed : {E : Type 0} (bs : List ℕ) (r : Result ℕ E) → is_plain bs ≡ true → ParsesUnsigned 32 10 bs r
    → IfSome (result_ok r) (λ n. (n < 2 ^ 32) × (bs ≡ decimal n))
plain_parsed bs (Err e) plain parsed = tt
plain_parsed bs (Ok n) plain parsed =
    let same = no_plus bs plain in
    let numeral : (0 < length bs) × AllDigits 10 bs = subst (λ ds. (0 < length ds) × AllDigits 10 ds) same parsed.0.0 in
    let fits : digits_value 10 bs < 2 ^ 32 = subst (λ ds. digits_value 10 ds < 2 ^ 32) same parsed.0.1 in
    let value : n ≡ digits_value 10 bs = subst (λ ds. n ≡ digits_value 10 ds) same parsed.1 in
    (omega arith, sym (decimal-digits_value own bs numeral.1 numeral.0 (plain_zero bs plain numeral.0) (omega arith)) ∙ ap decimal (sym value))

-- a plain text that is read is that of its number
pub parsed_spelled : {E : Type 0} (bs text : List ℕ) (r : Result ℕ E) (o : Option ℕ) → is_plain bs ≡ true → text ≡ bs
    → ParsesUnsigned 32 10 text r → o ≡ result_ok r → IfSome o (λ n. (n < 2 ^ 32) × (bs ≡ decimal n))
parsed_spelled bs text r o plain same parsed is =
    subst (λ p. IfSome p (λ n. (n < 2 ^ 32) × (bs ≡ decimal n))) (sym is) (plain_parsed bs r plain (subst (λ t. ParsesUnsigned 32 10 t r) same parsed))

ok_is : {E : Type 0} (r : Result ℕ E) (n : ℕ) → r ≡ Ok n → result_ok r ≡ Some n
ok_is r n e = rw e refl

-- and the text of a number is read
pub parsed_found : {E : Type 0} (bs text : List ℕ) (r : Result ℕ E) (o : Option ℕ) (n : ℕ) → text ≡ bs
    → ParsesUnsigned 32 10 text r → o ≡ result_ok r → n < 2 ^ 32 → bs ≡ decimal n → o ≡ Some n
parsed_found bs text r o n same parsed is small spelled =
    is ∙ ok_is r n (parse-decimal 32 n text r small (omega arith) (same ∙ spelled) parsed)
