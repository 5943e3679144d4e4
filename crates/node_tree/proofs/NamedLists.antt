-- The nodes that values name, one value after another.
use Rattle.std.proofs.Common.{◌≡◌, ℕ, List, [], ◌∷◌, ◌++◌, refl, sym, ap, ◌∙◌, append_assoc}
use Rattle.chan_values.specs.Tree.{Tree, trees}
use Rattle.field_types.specs.NamedNodes.{nodes_in, nodes_in_all}

pub at_end : {A : Type 0} (xs : List A) → xs ++ [] ≡ xs
at_end [] = refl
at_end (x ∷ xs) = ap (λ l. x ∷ l) (at_end xs)

one_more : (ts : List Tree) (t : Tree) → nodes_in_all (trees (ts ++ t ∷ [])) ≡ nodes_in_all (trees ts) ++ nodes_in t
one_more [] t = at_end (nodes_in t)
one_more (u ∷ ts) t = ap (λ l. nodes_in u ++ l) (one_more ts t) ∙ sym (append_assoc (nodes_in u) (nodes_in_all (trees ts)) (nodes_in t))

pub named_more : (start so_far new : List ℕ) (ts next : List Tree) (t : Tree) → next ≡ ts ++ t ∷ [] → so_far ≡ start ++ nodes_in_all (trees ts) → new ≡ so_far ++ nodes_in t → new ≡ start ++ nodes_in_all (trees next)
named_more start so_far new ts next t more is grown =
    grown
    ∙ ap (λ l. l ++ nodes_in t) is
    ∙ append_assoc start (nodes_in_all (trees ts)) (nodes_in t)
    ∙ ap (λ l. start ++ l) (sym (one_more ts t) ∙ ap (λ us. nodes_in_all (trees us)) (sym more))
