-- Attribute values: what is written is read, and what is read was written so.
use Rattle.std.proofs.Common.{◌≡◌, ℕ, zero, suc, ◌<◌, ◌≤◌, Bool, true, false, not, ◌&&◌, ◌==◌, inl, inr, List, [], ◌∷◌, ◌++◌, length, length-append, codes, Some, None, cond, refl, ap, sym, ◌∙◌, subst, append_assoc, append-nil, arith}
use Rattle.std.specs.List.{list_all, flat_map}
use Rattle.std.proofs.lemmas.Bool.{eqb-true, leb-true}
use Rattle.std.proofs.Math.Utf8.{scalar}
use Rattle.std.specs.Prelude.{nat_le}
use Rattle.xml_pieces.specs.declared.part.Part.{Part}
use Rattle.xml_pieces.specs.declared.part.Part.TheVariants.{Byte, Char}
use Rattle.xml_pieces.specs.Parts.{part_bytes}
use Rattle.xml_pieces.specs.Written.{strip, is_empty, is_decimal, is_hexadecimal, numeral, Stretch, Plain, Less, Greater, Ampersand, Quote, Apostrophe, Decimal, Hexadecimal, stretch, meant, is_allowed}
use Rattle.xml_pieces.specs.Reading.{bind, exactly, some_of, either_mark, digit_test, radix, char_of, number, reference, value_part, value_from, refuse}
use Rattle.xml_pieces.proofs.Basics.{and_parts, and_both, not_true, not_false, not_empty, chosen, bind_some, and_then_some, done, done_parts, some_again, some_taken, exactly_again, exactly_taken, mark_taken, mark_first, mark_other}
use Rattle.xml_pieces.proofs.Characters.{as_char, char_there}

abbrev pub part_of : Stretch → Part
part_of (Plain b) = Byte b
part_of Less = Byte 60
part_of Greater = Byte 62
part_of Ampersand = Byte 38
part_of Quote = Byte 34
part_of Apostrophe = Byte 39
part_of (Decimal digits) = Char (numeral 10 0 digits)
part_of (Hexadecimal digits) = Char (numeral 16 0 digits)

pub same_part : (s : Stretch) → part_bytes (part_of s) ≡ meant s
same_part (Plain b) = refl
same_part Less = refl
same_part Greater = refl
same_part Ampersand = refl
same_part Quote = refl
same_part Apostrophe = refl
same_part (Decimal digits) = refl
same_part (Hexadecimal digits) = refl

-- ---- references by number

some_digits : (digits : List ℕ) → not (is_empty digits) ≡ true → digits ≡ [] → ⊥
some_digits [] e n = absurd (cc)
some_digits (d ∷ digits) e n = absurd (cc)

semicolon_stops : (hex : Bool) → digit_test hex 59 ≡ false
unfolding is_decimal is_hexadecimal
semicolon_stops true = refl
semicolon_stops false = refl

number_again : (hex : Bool) (digits rest : List ℕ) → (digits ≡ [] → ⊥) → list_all (digit_test hex) digits ≡ true → scalar (numeral (radix hex) 0 digits) ≡ true
    → number hex (digits ++ 59 ∷ rest) ≡ Some (Char (numeral (radix hex) 0 digits), rest)
unfolding number char_of
number_again hex digits rest some all is =
    let n = some_again (digit_test hex) digits (59 ∷ rest) all some (semicolon_stops hex) in
    let m = exactly_again (codes ";") rest in
    let c = char_there (numeral (radix hex) 0 digits) is in
    simp (n, m, c)

record NumberTaken (hex : Bool) (bs : List ℕ) (p : Part) (rest : List ℕ) : Type 0 where
  pub digits : List ℕ
  pub whole : bs ≡ digits ++ 59 ∷ rest
  pub some : digits ≡ [] → ⊥
  pub all : list_all (digit_test hex) digits ≡ true
  pub is : scalar (numeral (radix hex) 0 digits) ≡ true
  pub same : p ≡ Char (numeral (radix hex) 0 digits)

number_taken : (hex : Bool) (bs : List ℕ) (p : Part) (rest : List ℕ) → number hex bs ≡ Some (p, rest) → NumberTaken hex bs p rest
unfolding number char_of
number_taken hex bs p rest e =
    let n = and_then_some (some_of (digit_test hex) bs) _ (p, rest) e in
    let digits = some_taken (digit_test hex) bs n.0.0 n.0.1 n.1 in
    let m = and_then_some (exactly (codes ";") n.0.1) _ (p, rest) n.2 in
    let mark = exactly_taken (codes ";") n.0.1 m.0.1 m.0.0 m.1 in
    let code = numeral (radix hex) 0 n.0.0 in
    let c = bind_some (as_char code) (λ c. done (Char c) m.0.1) (p, rest) m.2 in
    let is = chosen (scalar code) (Some code) None (Some c.0) c.1 in
    let same = done_parts (Char c.0) p m.0.1 rest c.2 in
    let whole : bs ≡ n.0.0 ++ 59 ∷ rest = digits.whole ∙ ap (λ z. n.0.0 ++ z) (mark ∙ ap (λ z. 59 ∷ z) same.1) in
    elim is [
      | inl x ↦ let code_ : code ≡ c.0 = cc in record { digits = n.0.0; whole = whole; some = digits.some; all = digits.all; is = x.0; same = sym same.0 ∙ ap Char (sym code_) }
      | inr x ↦ absurd (cc)
    ]

reference_hash : (bs : List ℕ) → reference (35 ∷ bs) ≡ either_mark (codes "#x") (number true) (either_mark (codes "#") (number false) refuse) (35 ∷ bs)
unfolding reference either_mark strip
reference_hash bs = refl

hash_x : (bs : List ℕ) → strip (codes "#x") (35 ∷ (120 ∷ bs)) ≡ Some bs
unfolding strip
hash_x bs = refl

hash : (bs : List ℕ) → strip (codes "#") (35 ∷ bs) ≡ Some bs
unfolding strip
hash bs = refl

no_x : (d : ℕ) (bs : List ℕ) → is_decimal d ≡ true → strip (codes "#x") (35 ∷ (d ∷ bs)) ≡ None
unfolding is_decimal strip
no_x d bs e = at (d == 120) refl
  where
    at : (v : Bool) → (d == 120) ≡ v → cond v (Some bs) None ≡ None
    at true h =
        let is = eqb-true d 120 h in
        let low = leb-true d 57 (and_parts (nat_le 48 d) (nat_le d 57) e).1 in
        absurd (omega arith)
    at false h = refl

hexadecimal_again : (digits rest : List ℕ) → is_allowed (Hexadecimal digits) ≡ true → reference (35 ∷ (120 ∷ ((digits ++ 59 ∷ []) ++ rest))) ≡ Some (part_of (Hexadecimal digits), rest)
hexadecimal_again digits rest e =
    let parts = and_parts (not (is_empty digits) && list_all is_hexadecimal digits) (scalar (numeral 16 0 digits)) e in
    let front = and_parts (not (is_empty digits)) (list_all is_hexadecimal digits) parts.0 in
    let bs = (digits ++ 59 ∷ []) ++ rest in
    reference_hash (120 ∷ bs) ∙ mark_first (codes "#x") (35 ∷ (120 ∷ bs)) bs _ _ (hash_x bs) ∙ ap (number true) (append_assoc digits (59 ∷ []) rest)
    ∙ number_again true digits rest (some_digits digits front.0) front.1 parts.1

decimal_again : (digits rest : List ℕ) → is_allowed (Decimal digits) ≡ true → reference (35 ∷ ((digits ++ 59 ∷ []) ++ rest)) ≡ Some (part_of (Decimal digits), rest)
decimal_again [] rest e = absurd (cc)
decimal_again (d ∷ digits) rest e =
    let all = d ∷ digits in
    let parts = and_parts (not (is_empty all) && list_all is_decimal all) (scalar (numeral 10 0 all)) e in
    let front = and_parts (not (is_empty all)) (list_all is_decimal all) parts.0 in
    let first = and_parts (is_decimal d) (list_all is_decimal digits) front.1 in
    let bs = (all ++ 59 ∷ []) ++ rest in
    reference_hash bs ∙ mark_other (codes "#x") (35 ∷ bs) _ _ (no_x d ((digits ++ 59 ∷ []) ++ rest) first.0) ∙ mark_first (codes "#") (35 ∷ bs) bs _ _ (hash bs) ∙ ap (number false) (append_assoc all (59 ∷ []) rest)
    ∙ number_again false all rest (some_digits all front.0) front.1 parts.1

behind_ampersand : (bs : List ℕ) → value_part (38 ∷ bs) ≡ reference bs
unfolding value_part
behind_ampersand bs = refl

-- ---- parts

plain_again : (b : ℕ) (rest : List ℕ) → is_allowed (Plain b) ≡ true → value_part (b ∷ rest) ≡ Some (Byte b, rest)
unfolding value_part
plain_again b rest e =
    let parts = and_parts (not (b == 60)) (not (b == 38)) e in
    let x = not_true (b == 60) parts.0 in
    let y = not_true (b == 38) parts.1 in
    simp (x, y)

entity_again : (s : Stretch) (tail rest : List ℕ) → stretch s ≡ 38 ∷ tail → reference (tail ++ rest) ≡ Some (part_of s, rest) → value_part (stretch s ++ rest) ≡ Some (part_of s, rest)
entity_again s tail rest is e = ap (λ z. value_part (z ++ rest)) is ∙ behind_ampersand (tail ++ rest) ∙ e

entities : (rest : List ℕ)
    → (reference (codes "lt;" ++ rest) ≡ Some (Byte 60, rest)) × (reference (codes "gt;" ++ rest) ≡ Some (Byte 62, rest)) × (reference (codes "amp;" ++ rest) ≡ Some (Byte 38, rest))
    × (reference (codes "quot;" ++ rest) ≡ Some (Byte 34, rest)) × (reference (codes "apos;" ++ rest) ≡ Some (Byte 39, rest))
unfolding reference either_mark strip
entities rest = (refl, refl, refl, refl, refl)

pub part_again : (s : Stretch) (rest : List ℕ) → is_allowed s ≡ true → value_part (stretch s ++ rest) ≡ Some (part_of s, rest)
part_again (Plain b) rest e = plain_again b rest e
part_again Less rest e = entity_again Less (codes "lt;") rest refl (entities rest).0
part_again Greater rest e = entity_again Greater (codes "gt;") rest refl (entities rest).1
part_again Ampersand rest e = entity_again Ampersand (codes "amp;") rest refl (entities rest).2
part_again Quote rest e = entity_again Quote (codes "quot;") rest refl (entities rest).3
part_again Apostrophe rest e = entity_again Apostrophe (codes "apos;") rest refl (entities rest).4
part_again (Decimal digits) rest e = entity_again (Decimal digits) (35 ∷ (digits ++ 59 ∷ [])) rest refl (decimal_again digits rest e)
part_again (Hexadecimal digits) rest e = entity_again (Hexadecimal digits) (35 ∷ (120 ∷ (digits ++ 59 ∷ []))) rest refl (hexadecimal_again digits rest e)

-- what is taken as one part of a value
pub record PartTaken (bs : List ℕ) (p : Part) (rest : List ℕ) : Type 0 where
  pub one : Stretch
  pub whole : bs ≡ stretch one ++ rest
  pub allowed : is_allowed one ≡ true
  pub value : p ≡ part_of one

entity_at : (s : Stretch) (p : Part) (bs rest r tail : List ℕ) → is_allowed s ≡ true → stretch s ≡ 38 ∷ tail → bs ≡ tail ++ r → done (part_of s) r ≡ done p rest → PartTaken (38 ∷ bs) p rest
entity_at s p bs rest r tail allowed is e d =
    let same = done_parts (part_of s) p r rest d in
    record { one = s; whole = ap (λ z. 38 ∷ z) e ∙ ap (λ z. 38 ∷ (tail ++ z)) same.1 ∙ ap (λ z. z ++ rest) (sym is); allowed = allowed; value = sym same.0 }

is_filled : (digits : List ℕ) → (digits ≡ [] → ⊥) → not (is_empty digits) ≡ true
is_filled digits some = not_false (is_empty digits) (not_empty digits some)

hexadecimal_at : (bs r : List ℕ) (p : Part) (rest : List ℕ) → bs ≡ codes "#x" ++ r → number true r ≡ Some (p, rest) → PartTaken (38 ∷ bs) p rest
hexadecimal_at bs r p rest is e =
    let t = number_taken true r p rest e in
    record {
      one = Hexadecimal t.digits;
      whole = ap (λ z. 38 ∷ z) is ∙ ap (λ z. 38 ∷ (35 ∷ (120 ∷ z))) (t.whole ∙ sym (append_assoc t.digits (59 ∷ []) rest));
      allowed = and_both (not (is_empty t.digits) && list_all is_hexadecimal t.digits) (scalar (numeral 16 0 t.digits)) (and_both (not (is_empty t.digits)) (list_all is_hexadecimal t.digits) (is_filled t.digits t.some) t.all) t.is;
      value = t.same;
    }

decimal_at : (bs r : List ℕ) (p : Part) (rest : List ℕ) → bs ≡ codes "#" ++ r → number false r ≡ Some (p, rest) → PartTaken (38 ∷ bs) p rest
decimal_at bs r p rest is e =
    let t = number_taken false r p rest e in
    record {
      one = Decimal t.digits;
      whole = ap (λ z. 38 ∷ z) is ∙ ap (λ z. 38 ∷ (35 ∷ z)) (t.whole ∙ sym (append_assoc t.digits (59 ∷ []) rest));
      allowed = and_both (not (is_empty t.digits) && list_all is_decimal t.digits) (scalar (numeral 10 0 t.digits)) (and_both (not (is_empty t.digits)) (list_all is_decimal t.digits) (is_filled t.digits t.some) t.all) t.is;
      value = t.same;
    }

reference_taken : (bs : List ℕ) (p : Part) (rest : List ℕ) → reference bs ≡ Some (p, rest) → PartTaken (38 ∷ bs) p rest
unfolding reference
reference_taken bs p rest e = elim (mark_taken (codes "lt;") bs _ _ (p, rest) e) [
  | inl x ↦ entity_at Less p bs rest x.0 (codes "lt;") refl refl x.1 x.2
  | inr e ↦ elim (mark_taken (codes "gt;") bs _ _ (p, rest) e) [
    | inl x ↦ entity_at Greater p bs rest x.0 (codes "gt;") refl refl x.1 x.2
    | inr e ↦ elim (mark_taken (codes "amp;") bs _ _ (p, rest) e) [
      | inl x ↦ entity_at Ampersand p bs rest x.0 (codes "amp;") refl refl x.1 x.2
      | inr e ↦ elim (mark_taken (codes "quot;") bs _ _ (p, rest) e) [
        | inl x ↦ entity_at Quote p bs rest x.0 (codes "quot;") refl refl x.1 x.2
        | inr e ↦ elim (mark_taken (codes "apos;") bs _ _ (p, rest) e) [
          | inl x ↦ entity_at Apostrophe p bs rest x.0 (codes "apos;") refl refl x.1 x.2
          | inr e ↦ elim (mark_taken (codes "#x") bs _ _ (p, rest) e) [
            | inl x ↦ hexadecimal_at bs x.0 p rest x.1 x.2
            | inr e ↦ elim (mark_taken (codes "#") bs _ _ (p, rest) e) [
              | inl x ↦ decimal_at bs x.0 p rest x.1 x.2
              | inr e ↦ absurd (cc)
            ]
          ]
        ]
      ]
    ]
  ]
]

pub part_taken : (bs : List ℕ) (p : Part) (rest : List ℕ) → value_part bs ≡ Some (p, rest) → PartTaken bs p rest
unfolding value_part
part_taken [] p rest e = absurd (cc)
part_taken (b ∷ bs) p rest e = elim (chosen (b == 60) None (cond (b == 38) (reference bs) (done (Byte b) bs)) (done p rest) e) [
  | inl x ↦ absurd (cc)
  | inr x ↦ elim (chosen (b == 38) (reference bs) (done (Byte b) bs) (done p rest) x.1) [
    | inl y ↦ let is = eqb-true b 38 y.0 in subst (λ z. PartTaken (z ∷ bs) p rest) (sym is) (reference_taken bs p rest y.1)
    | inr y ↦
        let same = done_parts (Byte b) p bs rest y.1 in
        record {
          one = Plain b;
          whole = ap (λ z. b ∷ z) same.1;
          allowed = and_both (not (b == 60)) (not (b == 38)) (not_false (b == 60) x.0) (not_false (b == 38) y.0);
          value = sym same.0;
        }
  ]
]

-- ---- whole values

some_stretch : (s : Stretch) (rest : List ℕ) → (is_empty (stretch s ++ rest) ≡ false) × (0 < length (stretch s))
some_stretch (Plain b) rest = (refl, omega arith)
some_stretch Less rest = (refl, omega arith)
some_stretch Greater rest = (refl, omega arith)
some_stretch Ampersand rest = (refl, omega arith)
some_stretch Quote rest = (refl, omega arith)
some_stretch Apostrophe rest = (refl, omega arith)
some_stretch (Decimal digits) rest = (refl, omega arith)
some_stretch (Hexadecimal digits) rest = (refl, omega arith)

pub value_again : (n : ℕ) (found : List ℕ) (ss : List Stretch) → length (flat_map stretch ss) ≤ n → list_all is_allowed ss ≡ true
    → value_from n found (flat_map stretch ss) ≡ Some (found ++ flat_map meant ss)
unfolding value_from
value_again zero found [] fits all = ap Some (sym (append-nil found))
value_again (suc n) found [] fits all = ap Some (sym (append-nil found))
value_again zero found (s ∷ ss) fits all =
    let some = (some_stretch s []).1 in absurd (omega (arith, length-append (stretch s) (flat_map stretch ss)))
value_again (suc n) found (s ∷ ss) fits all =
    let parts = and_parts (is_allowed s) (list_all is_allowed ss) all in
    let some = some_stretch s (flat_map stretch ss) in
    let part = part_again s (flat_map stretch ss) parts.0 in
    let less : length (flat_map stretch ss) ≤ n = omega (arith, length-append (stretch s) (flat_map stretch ss), some.1) in
    ap (λ v. cond v (Some found) (bind (value_part (stretch s ++ flat_map stretch ss)) (λ x. value_from n (found ++ part_bytes x.0) x.1))) some.0
    ∙ ap (λ o. bind o (λ x. value_from n (found ++ part_bytes x.0) x.1)) part
    ∙ ap (λ z. value_from n (found ++ z) (flat_map stretch ss)) (same_part s)
    ∙ value_again n (found ++ meant s) ss less parts.1
    ∙ ap Some (append_assoc found (meant s) (flat_map meant ss))

-- what is taken as a value
pub record ValueTaken (found bs v : List ℕ) : Type 0 where
  pub parts : List Stretch
  pub whole : bs ≡ flat_map stretch parts
  pub allowed : list_all is_allowed parts ≡ true
  pub value : v ≡ found ++ flat_map meant parts

nothing_left : (bs : List ℕ) → is_empty bs ≡ true → bs ≡ []
nothing_left [] e = refl
nothing_left (b ∷ bs) e = absurd (cc)

empty_value : (found bs v : List ℕ) → is_empty bs ≡ true → Some found ≡ Some v → ValueTaken found bs v
empty_value found bs v none e = let same : found ≡ v = cc in record { parts = []; whole = nothing_left bs none; allowed = refl; value = sym same ∙ sym (append-nil found) }

pub value_taken : (n : ℕ) (found bs v : List ℕ) → value_from n found bs ≡ Some v → ValueTaken found bs v
unfolding value_from
value_taken zero found bs v e = elim (chosen (is_empty bs) (Some found) None (Some v) e) [
  | inl x ↦ empty_value found bs v x.0 x.1
  | inr x ↦ absurd (cc)
]
value_taken (suc n) found bs v e = elim (chosen (is_empty bs) (Some found) (bind (value_part bs) (λ x. value_from n (found ++ part_bytes x.0) x.1)) (Some v) e) [
  | inl x ↦ empty_value found bs v x.0 x.1
  | inr x ↦
      let b = bind_some (value_part bs) (λ x. value_from n (found ++ part_bytes x.0) x.1) v x.1 in
      let one = part_taken bs b.0.0 b.0.1 b.1 in
      let more = value_taken n (found ++ part_bytes b.0.0) b.0.1 v b.2 in
      let part : part_bytes b.0.0 ≡ meant one.one = ap part_bytes one.value ∙ same_part one.one in
      record {
        parts = one.one ∷ more.parts;
        whole = one.whole ∙ ap (λ z. stretch one.one ++ z) more.whole;
        allowed = and_both (is_allowed one.one) (list_all is_allowed more.parts) one.allowed more.allowed;
        value = more.value ∙ append_assoc found (part_bytes b.0.0) (flat_map meant more.parts) ∙ ap (λ z. found ++ (z ++ flat_map meant more.parts)) part;
      }
]
