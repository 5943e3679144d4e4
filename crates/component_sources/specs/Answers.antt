-- What reading a component file answers.
use Rattle.std.specs.Prelude.{◌≡◌, Result, Ok, Err}
use Rattle.component_sources.specs.declared.component.CheckedComponent.{CheckedComponent}
use Rattle.component_sources.specs.declared.component.ComponentFault.{ComponentFault}
use Rattle.component_sources.specs.declared.component.ComponentFileAnswer.{ComponentFileAnswer}
use Rattle.component_sources.specs.declared.component.ComponentFileAnswer.TheVariants as c

-- this component with these trees, unless memory ran out
abbrev pub IsChecked : CheckedComponent → Result CheckedComponent ComponentFileAnswer → Type 0
IsChecked checked (Ok found) = found ≡ checked
IsChecked checked (Err (c.Fault fault)) = ⊥
IsChecked checked (Err c.NoMemory) = Unit {0}

-- this fault, unless memory ran out
abbrev pub IsRefusedComponent : ComponentFault → Result CheckedComponent ComponentFileAnswer → Type 0
IsRefusedComponent fault (Ok checked) = ⊥
IsRefusedComponent fault (Err (c.Fault found)) = found ≡ fault
IsRefusedComponent fault (Err c.NoMemory) = Unit {0}
