use Rattle.std.proofs.Common.{◌∙◌, [], ap, string_bytes}
use Rattle.std.specs.BTreeMap.{get_by_text}
use Rattle.std.specs.Option.{option_map_or}
use Rattle.script_faults.specs.Sources.{sources_of}
use Rattle.script_faults.proofs.Grouped.{grouped}
use Rattle.script_faults.proofs.groups.SourceGroups.add.Goals as goal

pub returns-in-Ok : goal.returns-in-Ok
returns-in-Ok c = λ q. ap sources_of (c.in-Ok.ensures q) ∙ grouped (option_map_or (λ group. group.items) (get_by_text c.args.self.now.groups q) []) c.args.source q (string_bytes c.into_string.result) (c.into_string.ensures ∙ c.in_ok-path.ensures)
