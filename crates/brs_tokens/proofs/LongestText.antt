-- The longest text, hexadecimal number and sign.
use Rattle.std.proofs.Common.{◌≡◌, ◌≢◌, ℕ, zero, suc, ◌+◌, ◌<◌, ◌≤◌, ◌⊎◌, inl, inr, Bool, true, false, List, [], ◌∷◌, length, take, refl, subst, arith}
use Rattle.std.specs.Prelude.{◌&&◌, ◌||◌, ◌==◌}
use Rattle.std.proofs.lemmas.Bool.Decides.{nat_tests, eqb_tells}
use Rattle.brs_tokens.specs.Classes.{is_hex_digit}
use Rattle.brs_tokens.specs.Pieces.{is_digits, is_hex_end, is_text_end, is_sign}
use Rattle.brs_tokens.specs.Lengths.{digits_len, hex_len, longer_by, text_len, sign_len}
use Rattle.brs_tokens.proofs.Longest.{IsLongest, NonePasses, digits}
use Rattle.brs_tokens.proofs.LengthsLemmas.{text_len-nil, text_len-plain, text_len-line, text_len-pair, text_len-last, text_len-close}

-- hexadecimal numbers

abbrev begins_hex : ℕ → ℕ → Bool
begins_hex h d = (h == 104 || h == 72) && is_hex_digit d

two_more : (n : ℕ) → 2 + n ≡ suc (suc n)
two_more n = omega arith

hex-long : (h d : ℕ) (bs : List ℕ) → begins_hex h d ≡ true → IsLongest is_hex_end (h ∷ d ∷ bs) (suc (suc (digits_len is_hex_digit bs)))
hex-long h d bs begins = record { within = omega (arith, more.within); passes = rw begins more.passes; longest = longest }
  where
    more : IsLongest (is_digits is_hex_digit) bs (digits_len is_hex_digit bs)
    more = digits is_hex_digit bs

    longest : (m : ℕ) → suc (suc (digits_len is_hex_digit bs)) < m → m ≤ length (h ∷ d ∷ bs) → is_hex_end (take m (h ∷ d ∷ bs)) ≡ false
    longest zero l u = absurd (omega arith)
    longest (suc zero) l u = absurd (omega arith)
    longest (suc (suc m)) l u = rw begins (more.longest m (omega arith) (omega arith))

pub hex-some : (bs : List ℕ) (n : ℕ) → hex_len bs ≡ suc n → IsLongest is_hex_end bs (suc n)
hex-some [] n e = absurd (omega arith)
hex-some (h ∷ []) n e = absurd (omega arith)
hex-some (h ∷ d ∷ bs) n e =
    elim (begins_hex h d) as (λ t. (begins_hex h d ≡ t) → IsLongest is_hex_end (h ∷ d ∷ bs) (suc n)) [
      | true ↦ λ begins.
          let e' = rw begins at e in
          let same : suc (suc (digits_len is_hex_digit bs)) ≡ suc n = omega arith in
          subst (λ m. IsLongest is_hex_end (h ∷ d ∷ bs) m) same (hex-long h d bs begins)
      | false ↦ λ begins. let e' = rw begins at e in absurd (omega arith)
    ] refl

pub hex-none : (bs : List ℕ) → hex_len bs ≡ 0 → NonePasses is_hex_end bs
hex-none [] e zero u = refl
hex-none [] e (suc m) u = absurd (omega arith)
hex-none (h ∷ []) e zero u = refl
hex-none (h ∷ []) e (suc zero) u = refl
hex-none (h ∷ []) e (suc (suc m)) u = absurd (omega arith)
hex-none (h ∷ d ∷ bs) e zero u = refl
hex-none (h ∷ d ∷ bs) e (suc zero) u = refl
hex-none (h ∷ d ∷ bs) e (suc (suc m)) u =
    elim (begins_hex h d) as (λ t. (begins_hex h d ≡ t) → is_hex_end (h ∷ d ∷ take m bs) ≡ false) [
      | true ↦ λ begins. let e' = rw begins at e in absurd (omega arith)
      | false ↦ λ begins. rw begins refl
    ] refl

-- texts

pub end-plain : (b c : ℕ) (bs : List ℕ) → b ≢ 34 → b ≢ 10 → is_text_end (b ∷ c ∷ bs) ≡ is_text_end (c ∷ bs)
end-plain b c bs q l = grind (arith, nat_tests)

end-last : (b : ℕ) → b ≢ 34 → is_text_end (b ∷ []) ≡ false
end-last b q = grind (arith, nat_tests)

end-close : (c : ℕ) (bs : List ℕ) → c ≢ 34 → is_text_end (34 ∷ c ∷ bs) ≡ false
end-close c bs q = grind (arith, nat_tests)

last_len : (b : ℕ) → b ≢ 34 → text_len (b ∷ []) ≡ 0
unfolding text_len
last_len b q = grind (arith, nat_tests)

longer_zero : (k none n : ℕ) → n ≡ 0 → longer_by k none n ≡ none
longer_zero k none n e = grind (arith, nat_tests)

longer_more : (k none n : ℕ) → n ≢ 0 → longer_by k none n ≡ k + n
longer_more k none n e = grind (arith, nat_tests)

longer_tells : (k none n : ℕ) → ((n ≡ 0) × (longer_by k none n ≡ none)) ⊎ ((n ≢ 0) × (longer_by k none n ≡ k + n))
longer_tells k none n = elim (eqb_tells n 0) [ inl is ↦ inl (is.1, longer_zero k none n is.1) | inr is ↦ inr (is.1, longer_more k none n is.1) ]

from_zero : (bs : List ℕ) (m : ℕ) → (0 < m → is_text_end (take m bs) ≡ false) → is_text_end (take m bs) ≡ false
from_zero bs zero more = refl
from_zero bs (suc m) more = more (omega arith)

pub text-longest : (bs : List ℕ) (m : ℕ) → text_len bs < m → m ≤ length bs → is_text_end (take m bs) ≡ false
text-longest bs zero l u = absurd (omega arith)
text-longest [] (suc m) l u = absurd (omega arith)
text-longest (b ∷ []) (suc zero) l u = elim (eqb_tells b 34) [
  | inl is ↦ let l' = rw (is.1, text_len-last) at l in absurd (omega arith)
  | inr is ↦ end-last b is.1
]
text-longest (b ∷ []) (suc (suc m)) l u = absurd (omega arith)
text-longest (b ∷ c ∷ bs) (suc zero) l u = elim (eqb_tells b 34) [
  | inl is ↦ elim (eqb_tells c 34) [
    | inl also ↦
        let l' = rw (is.1, also.1, text_len-pair bs) at l in
        elim (longer_tells 2 1 (text_len bs)) [ inl none ↦ absurd (omega arith) | inr some ↦ absurd (omega arith) ]
    | inr not_ ↦ let l' = rw (is.1, text_len-close c bs not_.1) at l in absurd (omega arith)
  ]
  | inr is ↦ end-last b is.1
]
text-longest (b ∷ c ∷ bs) (suc (suc m)) l u = elim (eqb_tells b 34) [
  | inl is ↦ elim (eqb_tells c 34) [
    | inl also ↦
        let l' = rw (is.1, also.1, text_len-pair bs) at l in
        rw (is.1, also.1) (elim (longer_tells 2 1 (text_len bs)) [
          | inl none ↦ from_zero bs m (λ more. text-longest bs m (omega arith) (omega arith))
          | inr some ↦ text-longest bs m (omega arith) (omega arith)
        ])
    | inr not_ ↦ rw is.1 (end-close c (take m bs) not_.1)
  ]
  | inr is ↦ elim (eqb_tells b 10) [
    | inl line ↦ rw line.1 refl
    | inr plain ↦
        let l' = rw (text_len-plain b (c ∷ bs) is.1 plain.1) at l in
        rw (end-plain b c (take m bs) is.1 plain.1) (elim (longer_tells 1 0 (text_len (c ∷ bs))) [
          | inl none ↦ text-longest (c ∷ bs) (suc m) (omega arith) (omega arith)
          | inr some ↦ text-longest (c ∷ bs) (suc m) (omega arith) (omega arith)
        ])
  ]
]

from_some : (bs : List ℕ) (n : ℕ) → text_len bs ≡ n → text_len bs ≢ 0 → ((k : ℕ) → text_len bs ≡ suc k → is_text_end (take (suc k) bs) ≡ true) → is_text_end (take n bs) ≡ true
from_some bs zero e some more = absurd (some e)
from_some bs (suc k) e some more = more k e

pub text-passes : (bs : List ℕ) (n : ℕ) → text_len bs ≡ suc n → is_text_end (take (suc n) bs) ≡ true
text-passes [] n e = absurd (omega (arith, text_len-nil))
text-passes (b ∷ []) zero e = elim (eqb_tells b 34) [ inl is ↦ is.0 | inr is ↦ let e' = rw (last_len b is.1) at e in absurd (omega arith) ]
text-passes (b ∷ []) (suc n) e = elim (eqb_tells b 34) [
  | inl is ↦ let e' = rw (is.1, text_len-last) at e in absurd (omega arith)
  | inr is ↦ let e' = rw (last_len b is.1) at e in absurd (omega arith)
]
text-passes (b ∷ c ∷ bs) zero e = elim (eqb_tells b 34) [
  | inl is ↦ is.0
  | inr is ↦ elim (eqb_tells b 10) [
    | inl line ↦ let e' = rw (line.1, text_len-line (c ∷ bs)) at e in absurd (omega arith)
    | inr plain ↦
        let e' = rw (text_len-plain b (c ∷ bs) is.1 plain.1) at e in
        elim (longer_tells 1 0 (text_len (c ∷ bs))) [ inl none ↦ absurd (omega arith) | inr some ↦ absurd (omega arith) ]
  ]
]
text-passes (b ∷ c ∷ bs) (suc n) e = elim (eqb_tells b 34) [
  | inl is ↦ elim (eqb_tells c 34) [
    | inl also ↦
        let e' = rw (is.1, also.1, text_len-pair bs) at e in
        rw (is.1, also.1) (elim (longer_tells 2 1 (text_len bs)) [
          | inl none ↦ absurd (omega arith)
          | inr some ↦ from_some bs n (omega arith) some.0 (λ k same. text-passes bs k same)
        ])
    | inr not_ ↦ let e' = rw (is.1, text_len-close c bs not_.1) at e in absurd (omega arith)
  ]
  | inr is ↦ elim (eqb_tells b 10) [
    | inl line ↦ let e' = rw (line.1, text_len-line (c ∷ bs)) at e in absurd (omega arith)
    | inr plain ↦
        let e' = rw (text_len-plain b (c ∷ bs) is.1 plain.1) at e in
        rw (end-plain b c (take n bs) is.1 plain.1) (elim (longer_tells 1 0 (text_len (c ∷ bs))) [
          | inl none ↦ absurd (omega arith)
          | inr some ↦ text-passes (c ∷ bs) n (omega arith)
        ])
  ]
]

pub text-within : (bs : List ℕ) → text_len bs ≤ length bs
text-within [] = omega (arith, text_len-nil)
text-within (b ∷ []) = elim (eqb_tells b 34) [
  | inl is ↦ rw (is.1, text_len-last) (omega arith)
  | inr is ↦ rw (last_len b is.1) (omega arith)
]
text-within (b ∷ c ∷ bs) = elim (eqb_tells b 34) [
  | inl is ↦ elim (eqb_tells c 34) [
    | inl also ↦ rw (is.1, also.1, text_len-pair bs) (elim (longer_tells 2 1 (text_len bs)) [ inl none ↦ omega arith | inr some ↦ omega (arith, text-within bs) ])
    | inr not_ ↦ rw (is.1, text_len-close c bs not_.1) (omega arith)
  ]
  | inr is ↦ elim (eqb_tells b 10) [
    | inl line ↦ rw (line.1, text_len-line (c ∷ bs)) (omega arith)
    | inr plain ↦
        rw (text_len-plain b (c ∷ bs) is.1 plain.1) (elim (longer_tells 1 0 (text_len (c ∷ bs))) [
          | inl none ↦ omega arith
          | inr some ↦ omega (arith, text-within (c ∷ bs))
        ])
  ]
]

pub text-some : (bs : List ℕ) (n : ℕ) → text_len bs ≡ suc n → IsLongest is_text_end bs (suc n)
text-some bs n e = record {
  within = omega (arith, text-within bs);
  passes = text-passes bs n e;
  longest = λ m l u. text-longest bs m (omega arith) u;
}

pub text-none : (bs : List ℕ) → text_len bs ≡ 0 → NonePasses is_text_end bs
text-none bs e m u = from_zero bs m (λ more. text-longest bs m (omega arith) u)

-- signs

past_two : (b c : ℕ) (bs : List ℕ) (m : ℕ) → 1 < m → m ≤ length (c ∷ bs) → is_sign (b ∷ take m (c ∷ bs)) ≡ false
unfolding is_sign
past_two b c bs zero l u = absurd (omega arith)
past_two b c bs (suc zero) l u = absurd (omega arith)
past_two b c [] (suc (suc m)) l u = absurd (omega arith)
past_two b c (d ∷ bs) (suc (suc m)) l u = refl

past_one : (b c : ℕ) (bs : List ℕ) → is_sign (b ∷ c ∷ []) ≡ false → (m : ℕ) → 0 < m → m ≤ length (c ∷ bs) → is_sign (b ∷ take m (c ∷ bs)) ≡ false
past_one b c bs h zero l u = absurd (omega arith)
past_one b c bs h (suc zero) l u = h
past_one b c bs h (suc (suc m)) l u = past_two b c bs (suc (suc m)) (omega arith) u

pub sign-some : (b : ℕ) (bs : List ℕ) (n : ℕ) → sign_len (b ∷ bs) ≡ suc n → IsLongest (λ cs. is_sign (b ∷ cs)) bs n
sign-some b [] n e =
    elim (is_sign (b ∷ [])) as (λ t. (is_sign (b ∷ []) ≡ t) → IsLongest (λ cs. is_sign (b ∷ cs)) [] n) [
      | true ↦ λ h.
          let e' = rw h at e in
          let none : n ≡ 0 = omega arith in
          rw none (record { within = omega arith; passes = h; longest = λ m l u. absurd (omega arith) })
      | false ↦ λ h. let e' = rw h at e in absurd (omega arith)
    ] refl
sign-some b (c ∷ bs) n e =
    elim (is_sign (b ∷ c ∷ [])) as (λ t. (is_sign (b ∷ c ∷ []) ≡ t) → IsLongest (λ cs. is_sign (b ∷ cs)) (c ∷ bs) n) [
      | true ↦ λ h.
          let e' = rw h at e in
          let one : n ≡ 1 = omega arith in
          rw one (record { within = omega arith; passes = h; longest = past_two b c bs })
      | false ↦ λ h.
          let e' = rw h at e in
          elim (is_sign (b ∷ [])) as (λ t. (is_sign (b ∷ []) ≡ t) → IsLongest (λ cs. is_sign (b ∷ cs)) (c ∷ bs) n) [
            | true ↦ λ g.
                let e'' = rw g at e' in
                let none : n ≡ 0 = omega arith in
                rw none (record { within = omega arith; passes = g; longest = past_one b c bs h })
            | false ↦ λ g. let e'' = rw g at e' in absurd (omega arith)
          ] refl
    ] refl

pub sign-none : (b : ℕ) (bs : List ℕ) → sign_len (b ∷ bs) ≡ 0 → NonePasses (λ cs. is_sign (b ∷ cs)) bs
sign-none b [] e m u =
    elim (is_sign (b ∷ [])) as (λ t. (is_sign (b ∷ []) ≡ t) → is_sign (b ∷ take m []) ≡ false) [
      | true ↦ λ h. let e' = rw h at e in absurd (omega arith)
      | false ↦ λ h. let none : m ≡ 0 = omega arith in rw none h
    ] refl
sign-none b (c ∷ bs) e m u =
    elim (is_sign (b ∷ c ∷ [])) as (λ t. (is_sign (b ∷ c ∷ []) ≡ t) → is_sign (b ∷ take m (c ∷ bs)) ≡ false) [
      | true ↦ λ h. let e' = rw h at e in absurd (omega arith)
      | false ↦ λ h.
          let e' = rw h at e in
          elim (is_sign (b ∷ [])) as (λ t. (is_sign (b ∷ []) ≡ t) → is_sign (b ∷ take m (c ∷ bs)) ≡ false) [
            | true ↦ λ g. let e'' = rw g at e' in absurd (omega arith)
            | false ↦ λ g. at_all m g h u
          ] refl
    ] refl
  where
    at_all : (m : ℕ) → is_sign (b ∷ []) ≡ false → is_sign (b ∷ c ∷ []) ≡ false → m ≤ length (c ∷ bs) → is_sign (b ∷ take m (c ∷ bs)) ≡ false
    at_all zero g h u = g
    at_all (suc m) g h u = past_one b c bs h (suc m) (omega arith) u
