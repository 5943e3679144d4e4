-- A stack from which the last is taken.
use Rattle.std.proofs.Common.{◌≡◌, ◌∙◌, suc, List, [], ◌∷◌, ◌++◌, ap, map, reverse, length, arith, length-append}
use Rattle.std.proofs.lemmas.List.{map-append, reverse-append}
use Rattle.kind_order.specs.declared.walk.Visit.{Visit}
use Rattle.kind_order.specs.Walk.{begun}

module _ (stack rest : List Visit) (visit : Visit) (popped : stack ≡ rest ++ visit ∷ []) where
  seen : map begun stack ≡ map begun rest ++ begun visit ∷ []
  seen = ap (map begun) popped ∙ map-append begun rest (visit ∷ [])

  pub popped_last : reverse (map begun stack) ≡ begun visit ∷ reverse (map begun rest)
  popped_last = ap reverse seen ∙ reverse-append (map begun rest) (begun visit ∷ [])

  pub popped_count : length (map begun stack) ≡ suc (length (map begun rest))
  popped_count = let one = length-append (map begun rest) (begun visit ∷ []) in ap length seen ∙ omega (arith, one)
