-- A source file has no more functions than bytes.
use Rattle.std.proofs.Common.{◌≡◌, ℕ, zero, suc, ◌+◌, ◌<◌, ◌≤◌, ◌⊎◌, inl, inr, List, [], ◌∷◌, ◌++◌, length, length-append, Option, Some, None, Ok, ap, ◌∙◌, arith}
use Rattle.std.specs.Prelude.{◌↔◌, All}
use Rattle.std.specs.Option.{option_to_list}
use Rattle.brs_tokens.specs.Cuts.{AreTokens}
use Rattle.brs_tokens.specs.Pieces.{piece_kind}
use Rattle.brs_tokens.specs.Spelling.{place_after, spelling}
use Rattle.brs_tokens.specs.Tok.{Tok}
use Rattle.brs_tokens.specs.Tokens.{IsToken, StandIn}
use Rattle.brs_tokens.specs.declared.piece.PieceKind.{PieceKind}
use Rattle.brs_tokens.specs.declared.place.Place.{Place}
use Rattle.grammar_rules.specs.Rules.{Either, Turns, joined, Many, Optional, Ending}
use Rattle.brs_grammar.specs.Expressions.{Inside, Blank}
use Rattle.brs_grammar.specs.Functions.{Function, Sub, Named, NamedLine, File}
use Rattle.brs_grammar.specs.Grammar.{inside, file_number, IsFile}
use Rattle.brs_grammar.specs.declared.tree.NamedFunction.{NamedFunction}
use Rattle.file_faults.specs.SourceFaults.{IsGoodSource}

-- ---- tokens

some_bytes : (bytes : List ℕ) (kind : PieceKind) → piece_kind bytes ≡ Some kind → 1 ≤ length bytes
unfolding piece_kind
some_bytes [] kind e = absurd (cc)
some_bytes (b ∷ bytes) kind e = omega arith

first_some : (t : Tok) (ts : List Tok) → All IsToken (t ∷ ts) → 1 ≤ length t.slice
first_some t ts all = some_bytes t.slice _ (all 0 t (omega arith)).spells

others : (t : Tok) (ts : List Tok) → All IsToken (t ∷ ts) → All IsToken ts
others t ts all = λ k d h. all (suc k) d (omega arith)

token_count : (p : Place) (bytes : List ℕ) (ts : List Tok) → StandIn p bytes ts → All IsToken ts → length ts ≤ length bytes
token_count p bytes [] s all = omega arith
token_count p bytes (x ∷ ts) s all =
    let size : length bytes ≡ length s.0 + (length x.slice + length s.1) = ap length s.2 ∙ length-append s.0 (x.slice ++ s.1) ∙ ap (λ n. length s.0 + n) (length-append x.slice s.1) in
    omega (arith, size, first_some x ts all, token_count (place_after (place_after p s.0) x.slice) s.1 ts s.4 (others x ts all))

-- ---- functions

parts_size : (ts front back : List Tok) → ts ≡ front ++ back → length ts ≡ length front + length back
parts_size ts front back cut = ap length cut ∙ length-append front back

one_size : (ts : List Tok) (t : Tok) → ts ≡ t ∷ [] → length ts ≡ 1
one_size ts t e = ap length e

count_of : (a b : List NamedFunction) → a ≡ b → length a ≡ length b
count_of a b e = ap length e

last_count : (a b : Option NamedFunction) → a ≡ b → length (option_to_list a) ≡ length (option_to_list b)
last_count a b e = ap (λ o. length (option_to_list o)) e

ending_count : (a b : Ending NamedFunction NamedFunction) → a ≡ b → length (a.turns ++ option_to_list a.last) ≡ length b.turns + length (option_to_list b.last)
ending_count a b e = ap (λ (x : Ending NamedFunction NamedFunction). length (x.turns ++ option_to_list x.last)) e ∙ length-append b.turns (option_to_list b.last)

module _ (i : Inside) where
  named_some : (ts : List Tok) (f : NamedFunction) → Named i ts f → 1 ≤ length ts
  unfolding Function Sub
  named_some ts f (inl s) = omega (arith, parts_size ts s.front s.back s.cut, one_size s.front s.value s.first.0)
  named_some ts f (inr s) = omega (arith, parts_size ts s.front s.back s.cut, one_size s.front s.value s.first.0)

  line_size : (ts : List Tok) (fs : List NamedFunction) → Either Blank (NamedLine i) ts fs → length fs ≤ length ts
  unfolding Blank NamedLine
  line_size ts fs (inl s) = omega (arith, count_of fs [] s.second.1)
  line_size ts fs (inr s) =
      omega (arith, parts_size ts s.front s.back s.cut, named_some s.front s.value s.first, count_of fs (s.value ∷ []) s.second.second.1)

  turns_size : (ts : List Tok) (turns : List (List NamedFunction)) → Turns (Either Blank (NamedLine i)) ts turns → length (joined turns) ≤ length ts
  turns_size ts [] t = omega arith
  turns_size ts (x ∷ xs) t =
      omega (arith, parts_size ts t.0 t.1 t.2, length-append x (joined xs), line_size t.0 x t.3, turns_size t.1 xs t.4)

  many_size : (ts : List Tok) (fs : List NamedFunction) → Many (Either Blank (NamedLine i)) ts fs → length fs ≤ length ts
  many_size ts fs m = omega (arith, turns_size ts m.0 m.1, count_of fs (joined m.0) m.2)

  last_size : (ts : List Tok) (o : Option NamedFunction) → Optional (Named i) ts o → length (option_to_list o) ≤ length ts
  last_size ts o (inl s) = omega (arith, parts_size ts s.front s.back s.cut, named_some s.front s.value s.first, last_count o (Some s.value) s.second.1)
  last_size ts o (inr p) = omega (arith, last_count o None p.1)

  file_size : (ts : List Tok) (fs : List NamedFunction) → File i ts fs → length fs ≤ length ts
  unfolding File
  file_size ts fs s =
      let e = s.first in
      omega (
        arith,
        parts_size ts s.front s.back s.cut,
        parts_size s.front e.front e.back e.cut,
        parts_size e.back e.second.front e.second.back e.second.cut,
        many_size e.front e.value e.first,
        last_size e.second.front e.second.value e.second.first,
        count_of fs (s.value.turns ++ option_to_list s.value.last) s.second.1,
        ending_count s.value (record { turns = e.value; last = e.second.value }) e.second.second.1,
      )

functions_size : (ts : List Tok) (fs : List NamedFunction) → IsFile ts fs → length fs ≤ length ts
unfolding IsFile
functions_size ts fs is = file_size (inside file_number) ts fs is

-- what is known of the tokens of every source file
pub record TokenLaws : Type 0 where
  pub are : (src : List ℕ) (n : ℕ) (tokens : List Tok) → spelling src n ≡ Ok tokens → All IsToken tokens
  pub stand : (src : List ℕ) (n : ℕ) (tokens : List Tok) → spelling src n ≡ Ok tokens → StandIn (record { line = n; column = 1 }) src tokens
  pub spelled : (src : List ℕ) (n : ℕ) (tokens : List Tok) → (spelling src n ≡ Ok tokens) ↔ AreTokens src n tokens

pub source_size : TokenLaws → (src : List ℕ) (n : ℕ) (fs : List NamedFunction) → IsGoodSource src n fs → length fs ≤ length src
source_size laws src n fs good =
    let spelled = (laws.spelled src n good.tokens).1 good.spelled in
    omega (arith, functions_size good.tokens fs good.file, token_count (record { line = n; column = 1 }) src good.tokens (laws.stand src n good.tokens spelled) (laws.are src n good.tokens spelled))
