-- What it means that an access comes to a value, an error or a request.
use Rattle.std.specs.Prelude.{List, map}
use Rattle.heap_meaning.specs.Values.{Value, StoreValue}
use Rattle.heap_meaning.specs.Store.{Store}
use Rattle.heap_meaning.specs.Stands.{Naming, Outside, meaning, Stands}
use Rattle.heap_meaning.specs.Heap.{Heap}
use Rattle.object_operations.specs.Applies.{Gave, Refused, AreOut}
use Rattle.object_operations.specs.declared.applied.Applied.TheVariants as a
use Rattle.brs_meaning.specs.Request as q
use Rattle.brs_meaning.specs.Given.{Given, Gives, Wants, Fails}
use Rattle.actor_meaning.specs.Showing.{AccessIs}
use Rattle.member_accesses.specs.declared.reached.Reached.{Reached}
use Rattle.member_accesses.specs.declared.reached.Reached.TheVariants as r

-- what is reached is what was given; where a node is asked, nothing has changed
abbrev pub Comes : Naming → Heap → Store → Outside → Reached → Given → Type 0
Comes name new old before (r.Done (a.Value v)) (Gives w store) = Gave name new store before v w
Comes name new old before (r.Done (a.Raised error)) (Fails wanted) = Refused name new old before error wanted
Comes name new old before (r.Asks access) (Wants (q.Asks x)) = AccessIs access x × Stands name new.cells old before
Comes name new old before _ _ = ⊥

-- whatever the store that the heap stands for, what is reached is what the row gives; the operands stay out
pub record Reaches (old new : Heap) (operands : List Value) (reached : Reached) (row : List StoreValue → Store → Given) : Type 0 where
  pub comes : (name : Naming) (store : Store) (before : Outside) → Stands name old.cells store before → AreOut operands before
      → Comes name new store before reached (row (map (meaning name) operands) store)
