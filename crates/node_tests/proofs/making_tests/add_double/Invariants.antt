use Rattle.node_tests.specs.Fits.{Fits}
use Rattle.node_tests.proofs.making_tests.add_double.Given as goal

abbrev pub invariant-loop : goal.invariant-loop
invariant-loop l = Fits l.plans l.list.list l.list.nodes
