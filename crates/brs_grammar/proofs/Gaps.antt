-- Line ends, and the gaps between the items of arrays and pairs.
use Rattle.std.proofs.Common.{◌≡◌, Bool, true, false, not, inl, inr, List, [], ◌∷◌, ◌++◌, refl, sym, ap, ◌∙◌, append_assoc, append-nil, subst}
use Rattle.grammar_rules.specs.declared.word.Word.{Word}
use Rattle.grammar_rules.specs.declared.word.Word.TheVariants as w
use Rattle.grammar_rules.specs.Words.{same_word}
use Rattle.grammar_rules.specs.Rules.{Rule, Pure, Either, Turns, joined, ◌>>◌}
use Rattle.grammar_rules.proofs.Same.{good_same}
use Rattle.grammar_rules.proofs.Good.{Good, any, one_good, pure_good, then_good, many_good, either_good, good_as}
use Rattle.brs_tokens.specs.Tok.{Tok}
use Rattle.brs_grammar.specs.Expressions as G
use Rattle.brs_grammar.specs.ReadExpressions as S
use Rattle.brs_grammar.specs.ReadExpressions.{is, begins_gap}

abbrev pub stops_newlines : Word → Bool
stops_newlines k = not (is w.Newline k)

abbrev pub stops_gap : Word → Bool
stops_gap k = not (begins_gap k)

pub blank_good : {A : Type 0} → Good (List A) (G.Blank {A = A}) false (is w.Newline) any (S.blank {A = A})
unfolding same_word G.Blank S.blank
blank_good = good_as (is w.Newline) any (then_good (one_good w.Newline refl refl) (λ _. pure_good _) refl) refl refl

pub newlines_good : Good (List (Unit {0})) G.Newlines true (is w.Newline) stops_newlines S.newlines
unfolding same_word G.Newlines S.newlines
newlines_good = good_as (is w.Newline) stops_newlines (many_good blank_good.meets refl refl) refl refl

-- ---- a gap as it is read: a comma and line ends, or line ends and then perhaps a comma and line ends

abbrev Commas : {A : Type 0} → Rule (List A)
Commas = G.word w.Comma >> (G.Newlines >> Pure [])

abbrev Lines : {A : Type 0} → Rule (List A)
Lines = G.word w.Newline >> (G.Newlines >> Either Commas (Pure []))

-- one line end and others
unfolding_newline : (front back : List Tok) (t : Tok) (xs : List (Unit {0})) → G.word w.Newline front t → G.Newlines back xs → (all : List (Unit {0})) × G.Newlines (front ++ back) all
unfolding G.Newlines G.Blank
unfolding_newline front back t xs x y =
    (joined ([] ∷ y.0), ([] ∷ y.0, (front, back, refl, record { front = front; back = []; value = t; cut = sym (append-nil front); first = x; second = (refl, refl) }, y.1), refl))

module _ (A : Type 0) where
  there : (ts : List Tok) (a : List A) → Either (Commas {A = A}) (Lines {A = A}) ts a → G.Gap {A = A} ts a
  unfolding G.CommaGap G.NewlineGap G.Newlines
  there ts a (inl x) = inl (record { front = []; back = ts; value = []; cut = refl; first = ([], refl, refl); second = x })
  there ts a (inr x) = go x.second.second
    where
      go : Either (Commas {A = A}) (Pure []) x.second.back a → G.Gap {A = A} ts a
      go (inr e) = inr (record { front = x.front; back = x.back; value = x.value; cut = x.cut; first = x.first; second = record { front = x.second.front; back = x.second.back; value = x.second.value; cut = x.second.cut; first = x.second.first; second = e } })
      go (inl c) =
          let m = unfolding_newline x.front x.second.front x.value x.second.value x.first x.second.first in
          inl (record {
            front = x.front ++ x.second.front;
            back = x.second.back;
            value = m.0;
            cut = x.cut ∙ ap (λ z. x.front ++ z) x.second.cut ∙ sym (append_assoc x.front x.second.front x.second.back);
            first = m.1;
            second = c;
          })

  back : (ts : List Tok) (a : List A) → G.Gap {A = A} ts a → Either (Commas {A = A}) (Lines {A = A}) ts a
  unfolding G.CommaGap G.NewlineGap G.Newlines G.Blank
  back ts a (inr x) = inr (record { front = x.front; back = x.back; value = x.value; cut = x.cut; first = x.first; second = record { front = x.second.front; back = x.second.back; value = x.second.value; cut = x.second.cut; first = x.second.first; second = inr x.second.second } })
  back ts a (inl x) = go x.first.0 x.first.1
    where
      go : (turns : List (List (Unit {0}))) → Turns (G.Blank {A = Unit {0}}) x.front turns → Either (Commas {A = A}) (Lines {A = A}) ts a
      go [] e = inl (subst (λ z. Commas {A = A} z a) (sym (x.cut ∙ ap (λ z. z ++ x.back) e)) x.second)
      go (y ∷ turns) t =
          let line = t.3 in
          let whole : ts ≡ line.front ++ (t.1 ++ x.back) =
          x.cut ∙ ap (λ z. z ++ x.back) (t.2 ∙ ap (λ z. z ++ t.1) (line.cut ∙ ap (λ z. line.front ++ z) line.second.0 ∙ append-nil line.front)) ∙ append_assoc line.front t.1 x.back in
          inr (record {
            front = line.front;
            back = t.1 ++ x.back;
            value = line.value;
            cut = whole;
            first = line.first;
            second = record { front = t.1; back = x.back; value = joined turns; cut = refl; first = (turns, t.4, refl); second = inl x.second };
          })

pub gap_good : {A : Type 0} → Good (List A) (G.Gap {A = A}) false begins_gap stops_gap (S.gap {A = A})
unfolding same_word S.gap S.comma_gap S.newline_gap
gap_good {A} =
    let commas : Good (List A) (Commas {A = A}) false (is w.Comma) stops_newlines (S.comma_gap {A = A}) =
    good_as (is w.Comma) stops_newlines (then_good (one_good w.Comma refl refl) (λ _. then_good newlines_good (λ _. pure_good _) refl) refl) refl refl in
    let lines : Good (List A) (Lines {A = A}) false (is w.Newline) stops_gap (S.newline_gap {A = A}) =
    good_as (is w.Newline) stops_gap (then_good (one_good w.Newline refl refl) (λ _. then_good newlines_good (λ _. either_good commas.meets (pure_good _) refl) refl) refl) refl refl in
    good_same (λ ts a. (there A ts a, back A ts a)) (good_as begins_gap stops_gap (either_good commas.meets lines refl) refl refl)
