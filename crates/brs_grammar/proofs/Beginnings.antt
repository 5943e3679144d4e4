-- Rows with one beginning, as they are read: `if` with blocks and in a line, `for` and `for each`.
use Rattle.std.proofs.Common.{◌≡◌, Bool, true, false, inl, inr, ◌↔◌, List, [], ◌∷◌, refl, sym, subst}
use Rattle.brs_tokens.specs.declared.place.Place.{Place}
use Rattle.grammar_rules.specs.declared.word.Word.{Word}
use Rattle.grammar_rules.specs.declared.word.Word.TheVariants as w
use Rattle.grammar_rules.specs.Words.{word_of, place_of, same_word, is_name}
use Rattle.grammar_rules.specs.Rules.{Rule, Pure, Either, Ended, Optional, ◌>>=◌, ◌>>◌}
use Rattle.grammar_rules.proofs.Words.{in_second}
use Rattle.grammar_rules.proofs.Same.{factored, regrouped, same_back, same_along, same_either, same_splits, same_self, distributed}
use Rattle.brs_tokens.specs.Tok.{Tok}
use Rattle.brs_grammar.specs.declared.tree.BlockArm.{roll-BlockArm}
use Rattle.brs_grammar.specs.declared.tree.Expression.{Expression}
use Rattle.brs_grammar.specs.declared.tree.LineArm.{roll-LineArm}
use Rattle.brs_grammar.specs.declared.tree.Name.{Name}
use Rattle.brs_grammar.specs.declared.tree.Statement.{Statement}
use Rattle.brs_grammar.specs.declared.tree.Statement.TheVariants as statement
use Rattle.brs_grammar.specs.Expressions as X
use Rattle.brs_grammar.specs.Expressions.{name_of}
use Rattle.brs_grammar.specs.Statements as G
use Rattle.brs_grammar.specs.Statements.{is_type, is_update_sign, is_count_sign, ends_in_call}
use Rattle.brs_grammar.specs.ReadExpressions.{is}

module _ (i : X.Inside) where
  -- `if` with blocks and `if` in a line, behind the first condition
  abbrev pub BlockIfRest : Place → Expression → Rule Statement
  BlockIfRest at e =
      X.word w.Newline >> (i.block >>= λ b. Ended (G.Elif (G.NextBlockArm i)) (G.BlockElse i) >>= λ x.
      G.EndIf >> Pure (statement.BlockIf (roll-BlockArm (record { place = at; condition = e; block = b })) x.turns x.last))

  abbrev pub LineIfRest : Place → Expression → Rule Statement
  LineIfRest at e =
      G.Run i >>= λ xs. Ended (G.Elif (G.NextLineArm i)) (G.LineElse i) >>= λ x.
      Pure (statement.LineIf (roll-LineArm (record { place = at; condition = e; run = xs })) x.turns x.last)

  abbrev pub IfLine : Rule (List Statement)
  IfLine =
      X.word w.If >>= λ t. X.AnExpression i >>= λ e. G.Then >>= λ _.
      Either (BlockIfRest (place_of t) e >>= λ x. G.Separator >> Pure (x ∷ [])) (LineIfRest (place_of t) e >>= λ x. X.word w.Newline >> Pure (x ∷ []))

  -- `for` and `for each`, behind `for`
  abbrev pub ForRest : Place → Name → Rule Statement
  ForRest at x =
      X.word w.Equal >> (X.AnExpression i >>= λ a. X.word w.To >> (X.AnExpression i >>= λ b. Optional (G.Step i) >>= λ s.
      G.Separator >> (i.block >>= λ xs. G.EndFor >> Pure (statement.For at x a b s xs))))

  abbrev pub EachRest : Place → Rule Statement
  EachRest at = X.name >>= λ x. X.word w.In >> (X.AnExpression i >>= λ e. G.Separator >> (i.block >>= λ xs. G.EndFor >> Pure (statement.ForEach at (name_of x) e xs)))

  abbrev pub ForVariable : Place → Name → Bool → Rule Statement
  ForVariable at x true = Either (ForRest at x) (EachRest at)
  ForVariable at x false = ForRest at x

  abbrev pub AnyFor : Rule Statement
  AnyFor = X.word w.For >>= λ t. X.name >>= λ x. ForVariable (place_of t) (name_of x) (is w.Each (word_of x))

  abbrev pub OtherPlain : Rule Statement
  OtherPlain = Either (G.SimpleStatement i) (Either AnyFor (G.While i))

  abbrev pub OtherLine : Rule (List Statement)
  OtherLine = OtherPlain >>= λ x. G.Separator >> Pure (x ∷ [])

  -- `each` is a name
  each_is_name : (k : Word) → same_word w.Each k ≡ true → is_name k ≡ true
  unfolding same_word
  each_is_name = in_second (same_word w.Each) is_name refl

  module _ (at : Place) where
    abbrev pub TwoFors : Rule Statement
    TwoFors = Either (X.name >>= λ x. ForRest at (name_of x)) (X.word w.Each >> EachRest at)

    abbrev pub OneFor : Rule Statement
    OneFor = X.name >>= λ x. ForVariable at (name_of x) (is w.Each (word_of x))

    fors : (ts : List Tok) (a : Statement) → OneFor ts a ↔ TwoFors ts a
    fors ts a = ((λ x. there x (is w.Each (word_of x.value)) refl x.second), back)
      where
        there : (x : OneFor ts a) (b : Bool) → is w.Each (word_of x.value) ≡ b → ForVariable at (name_of x.value) (is w.Each (word_of x.value)) x.back a → TwoFors ts a
        there x true e y = go (subst (λ b. ForVariable at (name_of x.value) b x.back a) e y)
          where
            go : ForVariable at (name_of x.value) true x.back a → TwoFors ts a
            go (inl z) = inl (record { front = x.front; back = x.back; value = x.value; cut = x.cut; first = x.first; second = z })
            go (inr z) = inr (record { front = x.front; back = x.back; value = x.value; cut = x.cut; first = (x.first.0, e); second = z })
        there x false e y = inl (record { front = x.front; back = x.back; value = x.value; cut = x.cut; first = x.first; second = subst (λ b. ForVariable at (name_of x.value) b x.back a) e y })

        back : TwoFors ts a → OneFor ts a
        back (inl x) = record { front = x.front; back = x.back; value = x.value; cut = x.cut; first = x.first; second = choice (is w.Each (word_of x.value)) }
          where
            choice : (b : Bool) → ForVariable at (name_of x.value) b x.back a
            choice true = inl x.second
            choice false = x.second
        back (inr x) = record {
          front = x.front;
          back = x.back;
          value = x.value;
          cut = x.cut;
          first = (x.first.0, each_is_name (word_of x.value) x.first.1);
          second = subst (λ b. ForVariable at (name_of x.value) b x.back a) (sym x.first.1) (inr x.second);
        }

  any_for : (ts : List Tok) (a : Statement) → AnyFor ts a ↔ Either (G.For i) (G.ForEach i) ts a
  unfolding G.For G.ForEach
  any_for =
      same_along (same_splits (same_self (X.word w.For)) (λ t. fors (place_of t)))
      (factored (X.word w.For) (λ t. X.name >>= λ x. ForRest (place_of t) (name_of x)) (λ t. X.word w.Each >> EachRest (place_of t)))

  -- the plain statements, with `if` first
  plain : (ts : List Tok) (a : Statement) → Either (G.BlockIf i) OtherPlain ts a ↔ G.Plain i ts a
  plain ts a = (there, back)
    where
      there : Either (G.BlockIf i) OtherPlain ts a → G.Plain i ts a
      there (inl x) = inr (inl x)
      there (inr (inl x)) = inl x
      there (inr (inr (inr x))) = inr (inr (inr (inr x)))
      there (inr (inr (inl x))) = go ((any_for ts a).0 x)
        where
          go : Either (G.For i) (G.ForEach i) ts a → G.Plain i ts a
          go (inl y) = inr (inr (inl y))
          go (inr y) = inr (inr (inr (inl y)))

      back : G.Plain i ts a → Either (G.BlockIf i) OtherPlain ts a
      back (inl x) = inr (inl x)
      back (inr (inl x)) = inl x
      back (inr (inr (inl x))) = inr (inr (inl ((any_for ts a).1 (inl x))))
      back (inr (inr (inr (inl x)))) = inr (inr (inl ((any_for ts a).1 (inr x))))
      back (inr (inr (inr (inr x)))) = inr (inr (inr x))

  -- a rule behind three parts and a fourth, behind the fourth
  block_if : (ts : List Tok) (a : List Statement)
      → (X.word w.If >>= λ t. X.AnExpression i >>= λ e. G.Then >>= λ _. (BlockIfRest (place_of t) e >>= λ x. G.Separator >> Pure (x ∷ []))) ts a
      ↔ (G.BlockIf i >>= λ x. G.Separator >> Pure (x ∷ [])) ts a
  unfolding G.BlockIf
  block_if =
      same_along
      (same_splits (same_self (X.word w.If)) (λ t. same_along
      (same_splits (same_self (X.AnExpression i)) (λ e. regrouped G.Then (λ _. BlockIfRest (place_of t) e) (λ x. G.Separator >> Pure (x ∷ []))))
      (regrouped (X.AnExpression i) (λ e. G.Then >>= λ _. BlockIfRest (place_of t) e) (λ x. G.Separator >> Pure (x ∷ [])))))
      (regrouped (X.word w.If) (λ t. X.AnExpression i >>= λ e. G.Then >>= λ _. BlockIfRest (place_of t) e) (λ x. G.Separator >> Pure (x ∷ [])))

  line_if : (ts : List Tok) (a : List Statement)
      → (X.word w.If >>= λ t. X.AnExpression i >>= λ e. G.Then >>= λ _. (LineIfRest (place_of t) e >>= λ x. X.word w.Newline >> Pure (x ∷ []))) ts a
      ↔ G.LineIfLine i ts a
  unfolding G.LineIf G.LineIfLine
  line_if =
      same_along
      (same_splits (same_self (X.word w.If)) (λ t. same_along
      (same_splits (same_self (X.AnExpression i)) (λ e. regrouped G.Then (λ _. LineIfRest (place_of t) e) (λ x. X.word w.Newline >> Pure (x ∷ []))))
      (regrouped (X.AnExpression i) (λ e. G.Then >>= λ _. LineIfRest (place_of t) e) (λ x. X.word w.Newline >> Pure (x ∷ [])))))
      (regrouped (X.word w.If) (λ t. X.AnExpression i >>= λ e. G.Then >>= λ _. LineIfRest (place_of t) e) (λ x. X.word w.Newline >> Pure (x ∷ [])))

  two_ifs : (ts : List Tok) (a : List Statement) → IfLine ts a ↔ Either (G.BlockIf i >>= λ x. G.Separator >> Pure (x ∷ [])) (G.LineIfLine i) ts a
  two_ifs =
      same_along
      (same_along
      (same_splits (same_self (X.word w.If)) (λ t. same_along
      (same_splits (same_self (X.AnExpression i)) (λ e. factored G.Then (λ _. BlockIfRest (place_of t) e >>= λ x. G.Separator >> Pure (x ∷ [])) (λ _. LineIfRest (place_of t) e >>= λ x. X.word w.Newline >> Pure (x ∷ []))))
      (factored (X.AnExpression i) (λ e. G.Then >>= λ _. (BlockIfRest (place_of t) e >>= λ x. G.Separator >> Pure (x ∷ []))) (λ e. G.Then >>= λ _. (LineIfRest (place_of t) e >>= λ x. X.word w.Newline >> Pure (x ∷ []))))))
      (factored (X.word w.If) (λ t. X.AnExpression i >>= λ e. G.Then >>= λ _. (BlockIfRest (place_of t) e >>= λ x. G.Separator >> Pure (x ∷ []))) (λ t. X.AnExpression i >>= λ e. G.Then >>= λ _. (LineIfRest (place_of t) e >>= λ x. X.word w.Newline >> Pure (x ∷ [])))))
      (same_either block_if line_if)

  -- the lines of a block that are not empty, with those that begin with `if` first
  pub lines : (ts : List Tok) (a : List Statement) → Either IfLine OtherLine ts a ↔ Either (G.PlainLine i) (G.LineIfLine i) ts a
  unfolding G.PlainLine
  lines ts a = (there, back)
    where
      with_if : (ts : List Tok) (a : List Statement) → Either (G.BlockIf i >>= λ x. G.Separator >> Pure (x ∷ [])) OtherLine ts a ↔ G.PlainLine i ts a
      with_if =
          same_along (same_back (distributed (G.BlockIf i) OtherPlain (λ x. G.Separator >> Pure (x ∷ []))))
          (same_splits plain (λ x. same_self (G.Separator >> Pure (x ∷ []))))

      there : Either IfLine OtherLine ts a → Either (G.PlainLine i) (G.LineIfLine i) ts a
      there (inr x) = inl ((with_if ts a).0 (inr x))
      there (inl x) = go ((two_ifs ts a).0 x)
        where
          go : Either (G.BlockIf i >>= λ x. G.Separator >> Pure (x ∷ [])) (G.LineIfLine i) ts a → Either (G.PlainLine i) (G.LineIfLine i) ts a
          go (inl y) = inl ((with_if ts a).0 (inl y))
          go (inr y) = inr y

      back : Either (G.PlainLine i) (G.LineIfLine i) ts a → Either IfLine OtherLine ts a
      back (inr x) = inl ((two_ifs ts a).1 (inr x))
      back (inl x) = go ((with_if ts a).1 x)
        where
          go : Either (G.BlockIf i >>= λ x. G.Separator >> Pure (x ∷ [])) OtherLine ts a → Either IfLine OtherLine ts a
          go (inl y) = inl ((two_ifs ts a).1 (inl y))
          go (inr y) = inr y
