-- Source texts of one path, and one more.
use Rattle.std.proofs.Common.{◌≡◌, ℕ, Bool, true, false, cond, List, [], ◌∷◌, ◌++◌, refl, ap, ◌∙◌}
use Rattle.std.specs.Str.{bytes_eq}
use Rattle.std.proofs.lemmas.Cmp.{nat_list_eq_equiv}
use Rattle.std.proofs.lemmas.List.{map-append}
use Rattle.script_faults.specs.declared.source.NumberedSource.{NumberedSource}
use Rattle.script_faults.specs.Sources.{source_of, sources_of}

pub grouped : (xs : List NumberedSource) (s : NumberedSource) (q p : List ℕ) → p ≡ s.text.now.path
    → sources_of (xs ++ cond (bytes_eq q p) (s ∷ []) []) ≡ sources_of xs ++ cond (bytes_eq s.text.now.path q) (source_of s ∷ []) []
grouped xs s q p e =
    map-append source_of xs (cond (bytes_eq q p) (s ∷ []) [])
    ∙ ap (λ l. sources_of xs ++ l) (go (bytes_eq q p) ∙ ap (λ b. cond b (source_of s ∷ []) []) (nat_list_eq_equiv.symm q p ∙ ap (λ x. bytes_eq x q) e))
  where
    go : (b : Bool) → sources_of (cond b (s ∷ []) []) ≡ cond b (source_of s ∷ []) []
    go true = refl
    go false = refl
