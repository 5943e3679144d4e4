-- The longer rows, with what the checker computes as conditions.
use Rattle.std.proofs.Common.{◌≡◌, Bool, true, false, ◌||◌, inr, List, [], Option, Some, None, Result, refl}
use Rattle.grammar_rules.specs.declared.word.Word.{Word}
use Rattle.grammar_rules.specs.declared.word.Word.TheVariants.{End}
use Rattle.brs_tokens.specs.Tok.{Tok}
use Rattle.grammar_rules.specs.Rules.{Pure, Splits, Either, Optional, Trailing, Ending, Ended}
use Rattle.grammar_rules.specs.Reading.{and_then, pure, choose, optional, trail, ended}
use Rattle.grammar_rules.specs.Reading as reading
use Rattle.grammar_rules.proofs.Lists.{or_nothing}
use Rattle.grammar_rules.proofs.Words.{within, in_second, apart, not_in_second}
use Rattle.grammar_rules.proofs.Meets.{Meets, begins_then, stops_then, then_meets, pure_meets, widen, stops_either, begins_either, either_meets}
use Rattle.grammar_rules.proofs.Good.{Good, any, none, pure_good}
use Rattle.grammar_rules.proofs.Separated.{stops_trail, trail_good}
use Rattle.grammar_rules.proofs.Endings.{stops_ended, ended_by}

-- [ r ]
pub optional_good : {A : Type 0} {r : List Tok → A → Type 0} {p : List Tok → Result (A × List Tok) (List Tok)} {f h : Word → Bool}
    → Meets A r false f h p → Good (Option A) (Optional r) true f (stops_either true f h any) (optional f p)
optional_good {A} {r} {p} {f} {h} m = record {
  meets = widen (begins_either f none) (stops_either true f h any) f (stops_either true f h any)
      (either_meets (Option A) _ _ _ _ true f none h any given (pure_meets (Option A) None) (λ w e. absurd (cc)))
      (λ w e. or_nothing (f w) e) (λ w e. e);
  some = record { tokens = []; value = None; spells = inr (refl, refl) };
}
  where
    given : Meets (Option A) (Splits A (Option A) r (λ a. Pure (Some a))) false f h (reading.◌>>=◌ p (λ a. pure (Some a)))
    given =
        widen (begins_then false f none) (stops_then true h any) f h
        (then_meets A (Option A) r (λ a. Pure (Some a)) p (λ a. pure (Some a)) false true f none h any m (λ a. pure_meets (Option A) (Some a)) (λ a. (pure_good (Some a)).some) (λ w e. absurd (cc)))
        (λ w e. or_nothing (f w) e) (λ w e. e)

-- { gap item } [ gap ]
pub trailing_good : {A : Type 0} {G I : List Tok → List A → Type 0} {pg pi : List Tok → Result (List A × List Tok) (List Tok)} {bg sg bi si : Word → Bool}
    → Good (List A) G false bg sg pg → Good (List A) I false bi si pi → within bi sg ≡ true → within bg si ≡ true → bg End ≡ false
    → Good (List A) (Trailing G I) true bg (stops_trail bg sg bi si) (trail bg bi pg pi)
trailing_good {A} {G} {I} {pg} {pi} {bg} {sg} {bi} {si} gap item to_item to_gap ends =
    trail_good A G I pg pi bg sg bi si gap item (in_second bi sg to_item) (in_second bg si to_gap) ends

-- { turn | head turn } [ head last ]
pub ended_good : {A B E : Type 0} {T : List Tok → List A → Type 0} {H : List Tok → E → Type 0} {O : E → List Tok → List A → Type 0} {L : E → List Tok → B → Type 0}
    {pt : List Tok → Result (List A × List Tok) (List Tok)} {ph : List Tok → Result (E × List Tok) (List Tok)} {po : E → List Tok → Result (List A × List Tok) (List Tok)} {pl : E → List Tok → Result (B × List Tok) (List Tok)}
    {m : Bool} {ft st fh sh fo so fl sl : Word → Bool}
    → Good (List A) T false ft st pt → Good E H false fh sh ph → ((e : E) → Good (List A) (O e) false fo so (po e)) → ((e : E) → Good B (L e) m fl sl (pl e))
    → within (λ w. ft w || fh w) st ≡ true → within (λ w. ft w || fh w) so ≡ true → within (λ w. fo w || fl w) sh ≡ true
    → apart fh ft ≡ true → apart fl fo ≡ true → ft End ≡ false → fh End ≡ false
    → Good (Ending A B) (Ended (Either T (Splits E (List A) H O)) (Splits E B H L)) true (λ w. ft w || fh w) (stops_ended ft st fh sh fo so sl) (ended ft fh fo pt ph po pl)
ended_good {A} {B} {E} {T} {H} {O} {L} {pt} {ph} {po} {pl} {m} {ft} {st} {fh} {sh} {fo} {so} {fl} {sl} turn head other last a b c d e f g =
    ended_by A B E T H O L pt ph po pl m ft st fh sh fo so fl sl turn head other last
    (in_second (λ w. ft w || fh w) st a) (in_second (λ w. ft w || fh w) so b) (in_second (λ w. fo w || fl w) sh c) (not_in_second fh ft d) (not_in_second fl fo e) f g
