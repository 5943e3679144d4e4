use Rattle.std.proofs.Common.{◌≡◌, ◌≤◌, take}
use Rattle.std.specs.Option.{ForSome}
use Rattle.folder_files.specs.Gathered.{paths_of, IsGathered, IsWhole}
use Rattle.folder_files.proofs.Reading.{first_files}
use Rattle.folder_files.proofs.read.read_each.Given as goal

abbrev pub invariant-loop-path : goal.invariant-loop-path
invariant-loop-path g l = record {
  map : g.F.Files.map l.files ≡ g.F.Files.map l.initial.files;
  roots : g.F.Files.roots l.files ≡ g.F.Files.roots l.initial.files;
  faults : g.F.Files.faults l.files ≡ g.F.Files.faults l.initial.files;
  few : l.gathered.counted ≤ 16777216;
  paths : paths_of l.gathered.files ≡ take l.path-index l.paths;
  told : ForSome (g.F.Files.map l.initial.files) (λ m. IsGathered (first_files l.root l.paths l.path-index m) l.gathered);
  whole : IsWhole l.gathered;
}
