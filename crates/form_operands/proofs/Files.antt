-- What the grammar gives of a whole file has the operands that it takes.
use Rattle.std.proofs.Common.{ℕ, zero, suc, inl, inr, List, Option, None, Some, map, sym, subst}
use Rattle.std.specs.Prelude.{All, IfSome}
use Rattle.std.specs.Option.{option_to_list}
use Rattle.std.proofs.lemmas.List.Elements.{All-nil, All-cons, All-append, All-map}
use Rattle.grammar_rules.specs.Words.{place_of}
use Rattle.grammar_rules.specs.Rules.{Either}
use Rattle.brs_tokens.specs.Tok.{Tok}
use Rattle.brs_grammar.specs.declared.tree.NamedFunction.{NamedFunction}
use Rattle.brs_grammar.specs.Expressions as X
use Rattle.brs_grammar.specs.Leaves as L
use Rattle.brs_grammar.specs.Leaves.{name_of}
use Rattle.brs_grammar.specs.Functions as G
use Rattle.brs_grammar.specs.Grammar.{inside, file_number, IsFile}
use Rattle.code_relation.specs.Standing.{named_form}
use Rattle.code_lowering.specs.Takes.{FunctionTakes}
use Rattle.form_operands.proofs.Gives.{Gives, many_gives, optional_gives, ended_gives}
use Rattle.form_operands.proofs.Parts.{ExpressionTakes, ParameterTakes, RestTakes, NamedTakes, a_parameter_takes, rest_takes, function_takes, sub_takes}
use Rattle.form_operands.proofs.Expressions.{one, Within, expression_gives, all_arguments_give, all_items_give, all_pairs_give, negation_gives, minus_gives}
use Rattle.form_operands.proofs.Statements.{block_gives}

module _ (i : X.Inside) (w : Within i) where
  default_gives : Gives ExpressionTakes (G.Default i)
  unfolding G.Default
  default_gives ts a s = expression_gives i w s.back a s.second

  parameter_gives : Gives ParameterTakes (G.AParameter i)
  unfolding G.AParameter
  parameter_gives ts a s =
      let u = s.second in
      let x = u.second in
      subst ParameterTakes (sym x.second.1) (a_parameter_takes (name_of s.value) u.value x.value (optional_gives ExpressionTakes (G.Default i) default_gives u.front u.value u.first))

  next_parameter_gives : Gives (All ParameterTakes) (G.NextParameter i)
  unfolding G.NextParameter
  next_parameter_gives ts a s =
      let u = s.second in
      subst (All ParameterTakes) (sym u.second.1) (one ParameterTakes u.value (parameter_gives u.front u.value u.first))

  some_parameters_give : Gives (All ParameterTakes) (G.SomeParameters i)
  unfolding G.SomeParameters
  some_parameters_give ts a s =
      let u = s.second in
      subst (All ParameterTakes) (sym u.second.1)
      (All-cons ParameterTakes s.value u.value (parameter_gives s.front s.value s.first) (many_gives ParameterTakes (G.NextParameter i) next_parameter_gives u.front u.value u.first))

  all_parameters_give : Gives (All ParameterTakes) (G.AllParameters i)
  all_parameters_give ts a (inl x) = some_parameters_give ts a x
  all_parameters_give ts a (inr e) = subst (All ParameterTakes) (sym e.1) (All-nil ParameterTakes)

  rest_gives : Gives RestTakes (G.ARest i)
  unfolding G.ARest
  rest_gives ts a s =
      let u = s.second in
      let type = u.second.second in
      let body = type.second.second in
      subst RestTakes (sym body.second.1) (rest_takes u.value type.value body.value (all_parameters_give u.front u.value u.first) (block_gives i w body.front body.value body.first))

  function_gives : Gives NamedTakes (G.Function i)
  unfolding G.Function
  function_gives ts a s =
      let x = s.second in
      let u = x.second in
      subst NamedTakes (sym u.second.second.1) (function_takes (place_of s.value) (name_of x.value) u.value (rest_gives u.front u.value u.first))

  sub_gives : Gives NamedTakes (G.Sub i)
  unfolding G.Sub
  sub_gives ts a s =
      let x = s.second in
      let u = x.second in
      subst NamedTakes (sym u.second.second.1) (sub_takes (place_of s.value) (name_of x.value) u.value (rest_gives u.front u.value u.first))

  named_gives : Gives NamedTakes (G.Named i)
  named_gives ts a (inl x) = function_gives ts a x
  named_gives ts a (inr x) = sub_gives ts a x

  named_line_gives : Gives (All NamedTakes) (G.NamedLine i)
  unfolding G.NamedLine
  named_line_gives ts a s = subst (All NamedTakes) (sym s.second.second.1) (one NamedTakes s.value (named_gives s.front s.value s.first))

  line_gives : Gives (All NamedTakes) (Either L.Blank (G.NamedLine i))
  unfolding L.Blank
  line_gives ts a (inl s) = subst (All NamedTakes) (sym s.second.1) (All-nil NamedTakes)
  line_gives ts a (inr x) = named_line_gives ts a x

  last_takes : (x : Option NamedFunction) → IfSome x NamedTakes → All NamedTakes (option_to_list x)
  last_takes None t = All-nil NamedTakes
  last_takes (Some x) t = one NamedTakes x t

  file_gives : Gives (All NamedTakes) (G.File i)
  unfolding G.File
  file_gives ts a s =
      let e = ended_gives NamedTakes NamedTakes (Either L.Blank (G.NamedLine i)) (G.Named i) line_gives named_gives s.front s.value s.first in
      subst (All NamedTakes) (sym s.second.1) (All-append NamedTakes s.value.turns (option_to_list s.value.last) e.turns (last_takes s.value.last e.last))

-- what stands inside takes its operands at each nesting number
within : (n : ℕ) → Within (inside n)
unfolding inside
within zero = record {
  expression = λ ts a x. absurd x;
  arguments = λ ts a x. absurd x;
  items = λ ts a x. absurd x;
  pairs = λ ts a x. absurd x;
  negation = λ ts a x. absurd x;
  minus = λ ts a x. absurd x;
  block = λ ts a x. absurd x;
  rest = λ ts a x. absurd x;
}
within (suc n) = record {
  expression = expression_gives (inside n) (within n);
  arguments = all_arguments_give (inside n) (within n);
  items = all_items_give (inside n) (within n);
  pairs = all_pairs_give (inside n) (within n);
  negation = negation_gives (inside n) (within n);
  minus = minus_gives (inside n) (within n);
  block = block_gives (inside n) (within n);
  rest = rest_gives (inside n) (within n);
}

pub files_take : (ts : List Tok) (fs : List NamedFunction) → IsFile ts fs → All FunctionTakes (map named_form fs)
unfolding IsFile
files_take ts fs h = All-map FunctionTakes named_form fs (file_gives (inside file_number) (within file_number) ts fs h)
