-- The same for rules that have a word, with what the checker computes as conditions.
use Rattle.std.proofs.Common.{◌≡◌, Bool, true, false, ◌&&◌, inl, inr, List, [], ◌∷◌, ◌++◌, Result, refl, ap, ◌∙◌}
use Rattle.grammar_rules.specs.declared.word.Word.{Word}
use Rattle.grammar_rules.specs.declared.word.Word.TheVariants.{End}
use Rattle.brs_tokens.specs.Tok.{Tok}
use Rattle.grammar_rules.specs.Words.{same_word}
use Rattle.grammar_rules.specs.Rules.{One, Pure, Splits, Either, Many}
use Rattle.grammar_rules.specs.Reading.{and_then, pure, refuse, one, choose, many}
use Rattle.grammar_rules.proofs.Words.{within, in_second, apart, not_in_second, sample, sample_is}
use Rattle.grammar_rules.proofs.Meets.{Meets, Words, HasWord, begins_then, stops_then, then_meets, one_meets, pure_meets, widen, stops_either, begins_either, either_meets}
use Rattle.grammar_rules.proofs.Repeats.{stops_many, many_meets}

pub record Good (A : Type 0) (r : List Tok → A → Type 0) (null : Bool) (begins stops : Word → Bool) (p : List Tok → Result (A × List Tok) (List Tok)) : Type 0 where
  pub meets : Meets A r null begins stops p
  pub some : HasWord A r

abbrev pub any : Words
any w = true

abbrev pub none : Words
none w = false

-- one token of a word
pub one_good : (k : Word) → same_word k End ≡ false → same_word k k ≡ true → Good Tok (One (same_word k)) false (same_word k) any (one (same_word k))
one_good k e y = record { meets = one_meets (same_word k) e; some = record { tokens = sample k ∷ []; value = sample k; spells = (refl, ap (same_word k) (sample_is k e) ∙ y) } }

-- a token of a class, with one that is in it
pub class_good : (test : Word → Bool) (k : Word) → test End ≡ false → same_word k End ≡ false → test k ≡ true → Good Tok (One test) false test any (one test)
class_good test k n e y = record { meets = one_meets test n; some = record { tokens = sample k ∷ []; value = sample k; spells = (refl, ap test (sample_is k e) ∙ y) } }

pub pure_good : {A : Type 0} (a : A) → Good A (Pure a) true none any (pure a)
pure_good {A} a = record { meets = pure_meets A a; some = record { tokens = []; value = a; spells = (refl, refl) } }

-- one after another, where what may begin the second may stop the first
module _ {A B : Type 0} {r : List Tok → A → Type 0} {s : A → List Tok → B → Type 0} {p : List Tok → Result (A × List Tok) (List Tok)} {q : A → List Tok → Result (B × List Tok) (List Tok)}
    {n m : Bool} {f g h k : Word → Bool} where
  pub then_good : Good A r n f h p → ((a : A) → Good B (s a) m g k (q a)) → within g h ≡ true
      → Good B (Splits A B r s) (n && m) (begins_then n f g) (stops_then m h k) (λ ts. and_then (p ts) q)
  then_good first second check = record {
    meets = then_meets A B r s p q n m f g h k first.meets (λ a. (second a).meets) (λ a. (second a).some) (in_second g h check);
    some = let one_ = first.some in let two = (second one_.value).some in
        record { tokens = one_.tokens ++ two.tokens; value = two.value; spells = record { front = one_.tokens; back = two.tokens; value = one_.value; cut = refl; first = one_.spells; second = two.spells } };
  }

pub many_good : {A : Type 0} {r : List Tok → List A → Type 0} {p : List Tok → Result (List A × List Tok) (List Tok)} {f h : Word → Bool}
    → Meets (List A) r false f h p → within f h ≡ true → f End ≡ false → Good (List A) (Many r) true f (stops_many f h) (many f p)
many_good {A} {r} {p} {f} {h} turn check ends = record {
  meets = many_meets A r p f h turn (in_second f h check) ends;
  some = record { tokens = []; value = []; spells = ([], refl, refl) };
}

module _ {A : Type 0} {r s : List Tok → A → Type 0} {p q : List Tok → Result (A × List Tok) (List Tok)} {m : Bool} {f g h k : Word → Bool} where
  pub either_by : Meets A r false f h p → Meets A s m g k q → apart g f ≡ true
      → Meets A (Either r s) m (begins_either f g) (stops_either m f h k) (choose f p q)
  either_by first second check = either_meets A r s p q m f g h k first second (not_in_second g f check)

  -- it is enough that the second has a word
  pub either_good : Meets A r false f h p → Good A s m g k q → apart g f ≡ true
      → Good A (Either r s) m (begins_either f g) (stops_either m f h k) (choose f p q)
  either_good first second check = record {
    meets = either_by first second.meets check;
    some = record { tokens = second.some.tokens; value = second.some.value; spells = inr second.some.spells };
  }

  pub either_good_first : Good A r false f h p → Meets A s m g k q → apart g f ≡ true
      → Good A (Either r s) m (begins_either f g) (stops_either m f h k) (choose f p q)
  either_good_first first second check = record {
    meets = either_by first.meets second check;
    some = record { tokens = first.some.tokens; value = first.some.value; spells = inl first.some.spells };
  }

module _ {A : Type 0} {r : List Tok → A → Type 0} {p : List Tok → Result (A × List Tok) (List Tok)} {n : Bool} {f h : Word → Bool} (f' h' : Word → Bool) where
  pub meets_as : Meets A r n f h p → within f f' ≡ true → within h' h ≡ true → Meets A r n f' h' p
  meets_as x more fewer = widen f h f' h' x (in_second f f' more) (in_second h' h fewer)

  pub good_as : Good A r n f h p → within f f' ≡ true → within h' h ≡ true → Good A r n f' h' p
  good_as x more fewer = record { meets = meets_as x.meets more fewer; some = x.some }

-- what has no word is refused at once
pub absent : {A : Type 0} {r : List Tok → A → Type 0} (n : Bool) (f h : Word → Bool) → ((ts : List Tok) (a : A) → r ts a → ⊥) → Meets A r n f h refuse
absent n f h no_word = record {
  ok = λ ts rest b e. absurd (cc);
  fault = λ ts rest e. let cut : ts ≡ rest = cc in record { front = []; cut = cut; viable = inl refl; local = λ other l. refl };
  all = λ u rest b e y. absurd (no_word u b e);
  ahead = λ u rest b e. absurd (no_word u b e);
}
