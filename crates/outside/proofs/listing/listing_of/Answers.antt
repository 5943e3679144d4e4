use Rattle.std.proofs.Common.{rules, ◌≡◌, [], ◌∷◌, ◌++◌, ap, ◌∙◌}
use Rattle.std.specs.String.{string_bytes}
use Rattle.outside.proofs.Below.{listing_grown}
use Rattle.outside.proofs.Names.{names_more}
use Rattle.outside.proofs.listing.listing_of.Goals as goal

pub loop-path-preserved : goal.loop-path-preserved
loop-path-preserved c =
    let name = string_bytes c.path-item.result in
    let grown : c.add.new.paths.items ≡ c.loop-path.paths.items ++ name ∷ [] = search rules in
    record {
      so_far = grown ∙ ap (λ paths. paths ++ name ∷ []) c.loop-path.invariant.so_far ∙ names_more c.args.found.now c.loop-path.path-index c.path-item.result (search rules) (search rules);
      listing = listing_grown _ _ _ grown c.loop-path.invariant.listing (search rules);
    }
