-- What it means that an answer was given which needs no arguments.
use Rattle.heap_meaning.specs.Store.{Store}
use Rattle.heap_meaning.specs.Stands.{Naming, Outside, Stands}
use Rattle.heap_meaning.specs.Heap.{Heap}
use Rattle.object_operations.specs.Answer.{Answer}
use Rattle.object_operations.specs.Applies.{Answers}
use Rattle.object_operations.specs.declared.applied.Applied.{Applied}

-- whatever the store that the heap stands for, the answer is this one
pub record Delivers (old new : Heap) (r : Applied) (answer : Store → Answer) : Type 0 where
  pub answers : (name : Naming) (store : Store) (before : Outside) → Stands name old.cells store before → Answers name new store before r (answer store)
