-- Faults that ask which names are kinds, by a table or by the list of all names.
use Rattle.std.proofs.Common.{◌≡◌, ℕ, Bool, List, ap}
use Rattle.std.specs.Prelude.{not}
use Rattle.std.specs.List.{flat_map}
use Rattle.chan_values.specs.Folded.{folded}
use Rattle.folder_rules.specs.declared.component.PathedComponent.{PathedComponent}
use Rattle.folder_rules.specs.Children.{child_tags}
use Rattle.folder_rules.specs.Faults.{fault_on, fault_where}
use Rattle.folder_rules.specs.KindFaults.{unknown_base, unknown_child, unknown_children_in}
use Rattle.folder_rules.specs.Kinds.{base_name}
use Rattle.folder_rules.proofs.Lists.{flat_map_same}

pub bases_same : (p q : List ℕ → Bool) → ((name : List ℕ) → p name ≡ q name) → (cs : List PathedComponent) → flat_map (unknown_base p) cs ≡ flat_map (unknown_base q) cs
bases_same p q same cs = flat_map_same (unknown_base p) (unknown_base q) (λ c. ap (λ b. fault_where (not b) (fault_on 10 c.path c.file.line (base_name c))) (same (base_name c))) cs

pub children_same : (p q : List ℕ → Bool) → ((name : List ℕ) → p name ≡ q name) → (cs : List PathedComponent) → flat_map (unknown_children_in p) cs ≡ flat_map (unknown_children_in q) cs
children_same p q same cs =
    flat_map_same (unknown_children_in p) (unknown_children_in q)
    (λ c. flat_map_same (unknown_child p c.path) (unknown_child q c.path) (λ tag. ap (λ b. fault_where (not b) (fault_on 18 c.path tag.line (folded tag.kind))) (same (folded tag.kind))) (child_tags c.file.children))
    cs
