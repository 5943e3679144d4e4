-- The ways in which an operation answers.
use Rattle.std.proofs.Common.{◌≡◌, ℕ, ◌+◌, Result, Ok, Err, IfOk, List, [], ◌∷◌, ◌++◌, length, refl, arith}
use Rattle.chan_values.specs.declared.error_code.ErrorCode.{ErrorCode}
use Rattle.heap_meaning.specs.declared.plain.Plain.{Plain}
use Rattle.heap_meaning.specs.Values.{Value, Direct, StoreValue, Scalar, Words, Reference}
use Rattle.heap_meaning.specs.Store.{Object, Store}
use Rattle.heap_meaning.specs.Cells.{occurrence}
use Rattle.heap_meaning.specs.Stands.{Naming, Outside, meaning, Stands}
use Rattle.heap_meaning.specs.Heap.{Heap, Moves, MakesText, MakesObject, no_references, references_of}
use Rattle.heap_meaning.proofs.Steps.{stands_same}
use Rattle.object_operations.specs.Applies.{Gave, Refused}

-- a plain value is given
pub gave_plain : (name : Naming) (new : Heap) (store : Store) (before : Outside) (plain : Plain) → Stands name new.cells store before → Gave name new store before (Direct plain) (Scalar plain)
gave_plain name new store before plain s = record {
  naming = name;
  agrees = λ k p. refl;
  shows = refl;
  stands = stands_same name new.cells store before (λ k. occurrence k (Direct plain) + before k) s (λ k. omega arith);
}

-- a value that is out is given
pub gave_out : (name : Naming) (new : Heap) (store : Store) (before : Outside) (v : Value) (w : StoreValue) → meaning name v ≡ w → Stands name new.cells store (λ k. occurrence k v + before k) → Gave name new store before v w
gave_out name new store before v w e s = record { naming = name; agrees = λ k p. refl; shows = e; stands = s }

-- a value that was shared is given
pub gave_shared : (name : Naming) (old new : Heap) (store : Store) (before : Outside) (v : Value) (w : StoreValue) → Stands name old.cells store before → Moves old new no_references (references_of v) → meaning name v ≡ w → Gave name new store before v w
gave_shared name old new store before v w s m e = gave_out name new store before v w e (m name store before (λ k. occurrence k v + before k) s (λ k. omega arith))

-- a new text is given
pub gave_text : (name : Naming) (old new : Heap) (store : Store) (before : Outside) (v : Value) (bytes : List ℕ) → Stands name old.cells store before → MakesText old new v bytes → Gave name new store before v (Words bytes)
gave_text name old new store before v bytes s m =
    let r = m name store before (λ k. occurrence k v + before k) s (λ k. refl) in
    record { naming = r.naming; agrees = r.agrees; shows = r.shows; stands = r.stands }

-- a new object is given
pub gave_object : (name : Naming) (old new : Heap) (store : Store) (before : Outside) (v : Value) (object : Object) → Stands name old.cells store before → MakesObject old new v object → Gave name new (store ++ object ∷ []) before v (Reference (length store))
gave_object name old new store before v object s m =
    let r = m name store before (λ k. occurrence k v + before k) s (λ k. refl) in
    record { naming = r.naming; agrees = r.agrees; shows = r.shows; stands = r.stands }

-- an error is raised where the heap stands for the store as before
pub refusal : (name : Naming) (new : Heap) (store : Store) (before : Outside) (error : ErrorCode) → Stands name new.cells store before → Refused name new store before error error
refusal name new store before error s = record { same = refl; stands = s }

-- what follows from what holds of a value that was answered
pub through : {A E : Type 0} {P Q : A → Type 0} (r : Result A E) → ((v : A) → P v → Q v) → IfOk r P → IfOk r Q
through (Ok v) f p = f v p
through (Err e) f p = p
