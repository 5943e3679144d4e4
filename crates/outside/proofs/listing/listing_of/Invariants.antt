use Rattle.std.proofs.Common.{◌≡◌, map, take}
use Rattle.std.specs.String.{string_bytes}
use Rattle.outside.specs.Folder.{IsListing}
use Rattle.outside.proofs.listing.listing_of.Given as goal

abbrev pub invariant-loop-path : goal.invariant-loop-path
invariant-loop-path l =
    record {
      so_far : l.paths.items ≡ map string_bytes (take l.path-index l.found);
      listing : IsListing l.paths.items;
    }
