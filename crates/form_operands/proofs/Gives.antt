-- What holds of each value that a rule of a grammar gives.
use Rattle.std.proofs.Common.{inl, inr, List, [], ◌∷◌, ◌++◌, Option, None, Some, sym, subst}
use Rattle.std.specs.Prelude.{All, IfSome}
use Rattle.std.proofs.lemmas.List.Elements.{All-nil, All-append}
use Rattle.grammar_rules.specs.Rules.{Rule, Either, Turns, joined, Many, Trail, trailed, Trailing, Optional, Ending, Ended}
use Rattle.brs_tokens.specs.Tok.{Tok}

abbrev pub Gives : {A : Type 0} → (A → Type 0) → Rule A → Type 0
Gives {A} P r = (ts : List Tok) (a : A) → r ts a → P a

module _ {A : Type 0} (P : A → Type 0) where
  pub either_gives : (r s : Rule A) → Gives P r → Gives P s → Gives P (Either r s)
  either_gives r s g h ts a (inl x) = g ts a x
  either_gives r s g h ts a (inr y) = h ts a y

  each_turn : (r : Rule (List A)) → Gives (All P) r → (ts : List Tok) (turns : List (List A)) → Turns r ts turns → All P (joined turns)
  each_turn r g ts [] t = All-nil P
  each_turn r g ts (x ∷ xs) t = All-append P x (joined xs) (g t.0 x t.3) (each_turn r g t.1 xs t.4)

  pub many_gives : (r : Rule (List A)) → Gives (All P) r → Gives (All P) (Many r)
  many_gives r g ts a m = subst (All P) (sym m.2) (each_turn r g ts m.0 m.1)

  each_trail : (gap item : Rule (List A)) → Gives (All P) gap → Gives (All P) item → (ts : List Tok) (turns : List (List A × List A)) (last : Option (List A)) → Trail gap item ts turns last → All P (trailed turns last)
  each_trail gap item g h ts [] None t = All-nil P
  each_trail gap item g h ts [] (Some x) t = g ts x t
  each_trail gap item g h ts (x ∷ xs) last t =
      All-append P (x.0 ++ x.1) (trailed xs last) (All-append P x.0 x.1 (g t.0 x.0 t.4) (h t.1 x.1 t.5)) (each_trail gap item g h t.2 xs last t.6)

  pub trailing_gives : (gap item : Rule (List A)) → Gives (All P) gap → Gives (All P) item → Gives (All P) (Trailing gap item)
  trailing_gives gap item g h ts a m = subst (All P) (sym m.3) (each_trail gap item g h ts m.0 m.1 m.2)

  pub optional_gives : (r : Rule A) → Gives P r → Gives (λ x. IfSome x P) (Optional r)
  optional_gives r g ts x (inl s) = subst (λ y. IfSome y P) (sym s.second.1) (g s.front s.value s.first)
  optional_gives r g ts x (inr e) = subst (λ y. IfSome y P) (sym e.1) tt

-- what turns and at most one last turn give
pub record Ends {A B : Type 0} (P : A → Type 0) (Q : B → Type 0) (x : Ending A B) : Type 0 where
  pub turns : All P x.turns
  pub last : IfSome x.last Q

pub ended_gives : {A B : Type 0} (P : A → Type 0) (Q : B → Type 0) (turn : Rule (List A)) (last : Rule B) → Gives (All P) turn → Gives Q last → Gives (Ends P Q) (Ended turn last)
ended_gives P Q turn last g h ts x s =
    let t = s.second in
    subst (Ends P Q) (sym t.second.1) (record { turns = many_gives P turn g s.front s.value s.first; last = optional_gives Q last h t.front t.value t.first })
