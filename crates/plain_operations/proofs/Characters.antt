-- Characters of texts.
pub use Rattle.std.proofs.lemmas.Str.{chars_from_encodes}
use Rattle.std.proofs.Common.{◌≡◌, ℕ, ◌+◌, ◌-◌, ◌≤◌, List, [], ◌∷◌, ◌++◌, length, take, drop, sym, ap, ◌∙◌, arith, subst, length-append}
use Rattle.std.proofs.lemmas.List.{take-append-drop, take_at, drop-drop, length-drop, drop_all}
use Rattle.std.proofs.lemmas.Str.{encodes-chars, encodes-append, chars-append, length-le-encodes, cons_from_encodes, IsCharBoundary-at_seam}
use Rattle.std.specs.Char.{encode_utf8}
use Rattle.std.specs.Str.{IsUtf8, IsCharBoundary, chars, encode_utf8_all}

-- a text is its first characters and the rest
pub split_text : (s : List ℕ) (n : ℕ) → IsUtf8 s → s ≡ encode_utf8_all (take n (chars s)) ++ encode_utf8_all (drop n (chars s))
split_text s n u = sym (encodes-chars s u) ∙ ap encode_utf8_all (sym (take-append-drop n (chars s))) ∙ encodes-append (take n (chars s)) (drop n (chars s))

pub length_split : (s : List ℕ) (n : ℕ) → IsUtf8 s → length (encode_utf8_all (take n (chars s))) + length (encode_utf8_all (drop n (chars s))) ≡ length s
length_split s n u = sym (ap length (split_text s n u) ∙ length-append (encode_utf8_all (take n (chars s))) (encode_utf8_all (drop n (chars s))))

pub cut_text : (s rest : List ℕ) (n : ℕ) → IsUtf8 s → rest ≡ encode_utf8_all (drop n (chars s)) → take (length s - length rest) s ≡ encode_utf8_all (take n (chars s))
cut_text s rest n u e =
    let l : length (encode_utf8_all (take n (chars s))) ≡ length s - length rest = omega (arith, length_split s n u, ap length e) in
    ap (take (length s - length rest)) (split_text s n u) ∙ take_at (encode_utf8_all (take n (chars s))) (encode_utf8_all (drop n (chars s))) (length s - length rest) l

pub boundary_text : (s rest : List ℕ) (n : ℕ) → IsUtf8 s → IsUtf8 rest → rest ≡ encode_utf8_all (drop n (chars s)) → IsCharBoundary s (length s - length rest)
boundary_text s rest n u v e =
    let l : length (encode_utf8_all (take n (chars s))) ≡ length s - length rest = omega (arith, length_split s n u, ap length e) in
    subst (IsCharBoundary s) l (IsCharBoundary-at_seam s (encode_utf8_all (take n (chars s))) (encode_utf8_all (drop n (chars s))) (split_text s n u) (subst IsUtf8 e v))

-- the characters of the rest of a text
pub chars_of_rest : (s rest : List ℕ) (n : ℕ) → IsUtf8 rest → rest ≡ encode_utf8_all (drop n (chars s)) → chars rest ≡ drop n (chars s)
chars_of_rest s rest n v e = sym (chars_from_encodes (drop n (chars s)) rest v (sym e))

pub drop_next : (xs es : List ℕ) (n c : ℕ) → drop n xs ≡ c ∷ es → drop (n + 1) xs ≡ es
drop_next xs es n c e = sym (drop-drop 1 n xs) ∙ ap (drop 1) e

-- one character further
pub rest_step : (cs rest more : List ℕ) (n c : ℕ) → rest ≡ encode_utf8_all (drop n cs) → rest ≡ encode_utf8 c ++ more → more ≡ encode_utf8_all (drop (n + 1) cs)
rest_step cs rest more n c e f =
    let g = cons_from_encodes (drop n cs) more c (sym e ∙ f) in
    sym g.2 ∙ ap encode_utf8_all (sym (drop_next cs g.0 n c g.1))

-- where no character is left, none is left further on
pub rest_ends : (cs rest : List ℕ) (n m : ℕ) → rest ≡ encode_utf8_all (drop n cs) → length rest ≡ 0 → n ≤ m → [] ≡ encode_utf8_all (drop m cs)
rest_ends cs rest n m e z l =
    let h : length (drop n cs) ≡ 0 = omega (arith, length-le-encodes (drop n cs), ap length e) in
    let k : length cs ≤ m = omega (arith, length-drop n cs) in
    ap encode_utf8_all (sym (drop_all m cs k))

pub length_chars : (s : List ℕ) → IsUtf8 s → length (chars s) ≤ length s
length_chars s u = omega (arith, length-le-encodes (chars s), ap length (encodes-chars s u))

pub count_pair : (s t : List ℕ) → IsUtf8 s → length (chars (s ++ t)) ≡ length (chars s) + length (chars t)
count_pair s t u = ap length (chars-append s t u) ∙ length-append (chars s) (chars t)
