-- The grammar of whole files: what is read of a token list is its tree or its first fault.
use Rattle.std.proofs.Common.{◌≡◌, ℕ, zero, suc, ◌-◌, true, ◌⊎◌, inl, inr, List, [], ◌∷◌, ◌++◌, length, Ok, Err, refl}
use Rattle.grammar_rules.specs.declared.word.Word.TheVariants as w
use Rattle.grammar_rules.specs.Words.{same_word}
use Rattle.grammar_rules.specs.Reading.{Outcome}
use Rattle.grammar_rules.proofs.Good.{Good}
use Rattle.grammar_rules.proofs.Files as files
use Rattle.grammar_rules.proofs.Prefixes as prefixes
use Rattle.brs_tokens.specs.Tok.{Tok}
use Rattle.brs_grammar.specs.declared.tree.NamedFunction.{NamedFunction}
use Rattle.brs_grammar.specs.Grammar as G
use Rattle.brs_grammar.specs.Grammar.{IsFile, IsFirstFault, file_number}
use Rattle.brs_grammar.specs.ReadFunctions as S
use Rattle.brs_grammar.proofs.Expressions.{Within, an_expression_good, all_arguments_good, all_items_good, all_pairs_good, a_negation_good, a_minus_good}
use Rattle.brs_grammar.proofs.Functions.{a_rest_good, functions_good}
use Rattle.brs_grammar.proofs.StatementWords.{begins_file, stops_file}
use Rattle.brs_grammar.proofs.Statements.{block_good}

-- what stands inside is read so at each nesting number
pub within : (n : ℕ) → Within n (G.inside n) (S.inside n)
unfolding G.inside S.inside
within zero = record {
  no_expression = λ ts a x. x;
  no_arguments = λ ts a x. x;
  no_items = λ ts a x. x;
  no_pairs = λ ts a x. x;
  no_negation = λ ts a x. x;
  no_minus = λ ts a x. x;
  no_block = λ ts a x. x;
  no_rest = λ ts a x. x;
}
within (suc n) = record {
  expression = an_expression_good (G.inside n) (S.inside n) n (within n);
  arguments = all_arguments_good (G.inside n) (S.inside n) n (within n);
  items = all_items_good (G.inside n) (S.inside n) n (within n);
  pairs = all_pairs_good (G.inside n) (S.inside n) n (within n);
  negation = a_negation_good (G.inside n) (S.inside n) n (within n);
  minus = a_minus_good (G.inside n) (S.inside n) n (within n);
  block = block_good (G.inside n) (S.inside n) n (within n);
  rest = a_rest_good (G.inside n) (S.inside n) n (within n);
}

functions_at : (n : ℕ) → Good (List NamedFunction) (Rattle.brs_grammar.specs.Functions.File (G.inside n)) true begins_file stops_file (S.functions n (S.inside n))
functions_at n = functions_good (G.inside n) (S.inside n) n (within n)

file_good : Good (List NamedFunction) IsFile true begins_file stops_file (S.at S.functions file_number)
unfolding IsFile
file_good = functions_at file_number

ends : stops_file w.End ≡ true
unfolding same_word
ends = refl

pub file_ok : (ts rest : List Tok) (a : List NamedFunction) → S.file ts ≡ Ok (a, rest) → IsFile ts a
unfolding S.file
file_ok = files.whole_ok (List NamedFunction) IsFile true begins_file stops_file (S.at S.functions file_number) file_good ends

pub file_all : (ts : List Tok) (a : List NamedFunction) → IsFile ts a → S.file ts ≡ Ok (a, [])
unfolding S.file
file_all = files.whole_all (List NamedFunction) IsFile true begins_file stops_file (S.at S.functions file_number) file_good ends

pub file_fault : (ts rest : List Tok) → S.file ts ≡ Err rest → IsFirstFault ts (length ts - length rest)
unfolding S.file
file_fault = files.whole_fault (List NamedFunction) IsFile true begins_file stops_file (S.at S.functions file_number) file_good ends

pub one_tree : (ts : List Tok) (a b : List NamedFunction) → IsFile ts a → IsFile ts b → a ≡ b
one_tree = files.one_value (List NamedFunction) IsFile true begins_file stops_file (S.at S.functions file_number) file_good ends

pub never_both : (ts : List Tok) (a : List NamedFunction) (k : ℕ) → IsFile ts a → IsFirstFault ts k → ⊥
never_both = files.no_fault IsFile

pub one_fault : (ts : List Tok) (j k : ℕ) → IsFirstFault ts j → IsFirstFault ts k → j ≡ k
one_fault = files.one_fault IsFile

pub decided : (ts : List Tok) → ((a : List NamedFunction) × IsFile ts a) ⊎ ((k : ℕ) × IsFirstFault ts k)
decided ts = go (S.file ts) refl
  where
    go : (o : Outcome (List NamedFunction)) → S.file ts ≡ o → ((a : List NamedFunction) × IsFile ts a) ⊎ ((k : ℕ) × IsFirstFault ts k)
    go (Ok x) e = inl (x.0, file_ok ts x.1 x.0 e)
    go (Err rest) e = inr (length ts - length rest, file_fault ts rest e)

pub same_fault : (front more other : List Tok) (t : Tok) → IsFirstFault (front ++ t ∷ more) (length front) → IsFirstFault (front ++ t ∷ other) (length front)
same_fault = prefixes.same_fault IsFile
