use Rattle.channel_folder.proofs.OneFault.{one_first_fault}
use Rattle.channel_folder.proofs.laws.one_first_fault.Goals as goal

pub returns : goal.returns
returns c = λ files.
    one_first_fault
    (record {
      one_tree = c.one_tree.ensures;
      one_fault = c.one_fault.ensures;
      never_both = c.never_both.ensures;
      one_component = c.one_component.ensures;
      one_component_fault = c.one_component_fault.ensures;
      never_both_of_components = c.never_both_of_components.ensures;
    })
    files
