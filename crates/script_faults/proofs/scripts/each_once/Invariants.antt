use Rattle.std.proofs.Common.{◌≡◌, ℕ, List, [], ◌++◌, drop}
use Rattle.folder_rules.specs.Names.{is_among, is_known}
use Rattle.folder_rules.specs.Scripts.{each_once}
use Rattle.script_faults.specs.Sources.{sources_of}
use Rattle.script_faults.proofs.scripts.each_once.Given as goal

abbrev pub invariant-loop-source : goal.invariant-loop-source
invariant-loop-source l = record {
  names : List (List ℕ);
  known : (path : List ℕ) → is_known l.named path ≡ is_among names path;
  left : sources_of l.found.items ++ each_once names (sources_of (drop l.source-index l.sources)) ≡ each_once [] (sources_of l.sources);
}
