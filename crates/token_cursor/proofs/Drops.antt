-- The tokens from a place on, and the next of them.
use Rattle.std.proofs.Common.{◌≡◌, ℕ, zero, suc, ◌+◌, ◌<◌, ◌≤◌, ◌↔◌, Bool, true, false, List, [], ◌∷◌, length, drop, Some, Ok, Err, refl, sym, ap, ◌∙◌, arith}
use Rattle.std.proofs.Math.ListN.{drop_of_length-le}
use Rattle.std.specs.List.{slice_get}
use Rattle.brs_tokens.specs.Tok.{Tok}
use Rattle.grammar_rules.specs.declared.word.Word.{Word}
use Rattle.grammar_rules.specs.declared.word.Word.TheVariants as w
use Rattle.grammar_rules.specs.Words.{next, word_of}
use Rattle.grammar_rules.specs.Reading.{one}

pub drop_token : (ts : List Tok) (at : ℕ) (t : Tok) → slice_get ts at ≡ Some t → drop at ts ≡ t ∷ drop (suc at) ts
drop_token [] at t e = cc
drop_token (x ∷ xs) zero t e = let same : x ≡ t = cc in ap (λ y. y ∷ xs) same
drop_token (x ∷ xs) (suc at) t e = drop_token xs at t e

pub token_next : (ts : List Tok) (at : ℕ) (t : Tok) → slice_get ts at ≡ Some t → next (drop at ts) ≡ word_of t
token_next ts at t e = ap next (drop_token ts at t e)

pub end_next : (ts : List Tok) (at : ℕ) → length ts ≤ at → next (drop at ts) ≡ w.End
end_next ts at past = ap next (drop_of_length-le ts past)

pub one_end : (test : Word → Bool) (ts all : List Tok) (at : ℕ) → drop at all ≡ ts → length all ≤ at → one test ts ≡ Err ts
unfolding one
one_end test ts all at is past = let none : ts ≡ [] = sym is ∙ drop_of_length-le all past in rw none refl

one_not : (test : Word → Bool) (ts more : List Tok) (t : Tok) → ts ≡ t ∷ more → test (word_of t) ≡ false → one test ts ≡ Err ts
unfolding one
one_not test ts more t is fails = rw (is, fails) refl

one_ok : (test : Word → Bool) (ts more : List Tok) (t : Tok) → ts ≡ t ∷ more → test (word_of t) ≡ true → one test ts ≡ Ok (t, more)
unfolding one
one_ok test ts more t is passes = rw (is, passes) refl

pub token_refused : (test : Word → Bool) (passes : Bool) (ts all : List Tok) (at : ℕ) (t : Tok)
    → drop at all ≡ ts → slice_get all at ≡ Some t → passes ≡ test (next ts) → passes ≡ false → one test ts ≡ Err ts
token_refused test passes ts all at t is found same fails =
    let cut : ts ≡ t ∷ drop (suc at) all = sym is ∙ drop_token all at t found in
    one_not test ts (drop (suc at) all) t cut (ap test (sym (ap next cut)) ∙ sym same ∙ fails)

pub token_taken : (test : Word → Bool) (passes : Bool) (ts all : List Tok) (at : ℕ) (t : Tok)
    → drop at all ≡ ts → slice_get all at ≡ Some t → passes ≡ test (next ts) → passes ≡ true → one test ts ≡ Ok (t, drop (at + 1) all)
token_taken test passes ts all at t is found same holds =
    let cut : ts ≡ t ∷ drop (suc at) all = sym is ∙ drop_token all at t found in
    let next_ : at + 1 ≡ suc at = omega arith in
    rw next_ (one_ok test ts (drop (suc at) all) t cut (ap test (sym (ap next cut)) ∙ sym same ∙ holds))

pub past_end : (at n : ℕ) → ((false ≡ true) ↔ (at < n)) → n ≤ at
past_end at n h = let no : ¬ (at < n) = λ l. (let e : false ≡ true = h.1 l in cc) in omega (arith, no)
