-- The name of a value's type.
use Rattle.std.proofs.Common.{◌≡◌, ℕ, List, [], ◌∷◌, Option, refl, sym, ap, ◌∙◌, subst}
use Rattle.heap_meaning.specs.Values.{Value, StoreValue, Words}
use Rattle.heap_meaning.specs.Store.{Store}
use Rattle.heap_meaning.specs.Cells.{Content}
use Rattle.heap_meaning.specs.Stands.{Naming, Outside, meaning, Stands}
use Rattle.heap_meaning.specs.Heap.{Heap, Belongs, MakesText, content_at}
use Rattle.heap_meaning.specs.Reading.{plain_of, shape_in}
use Rattle.heap_meaning.proofs.Showing.{Seen, sees_plain, sees_text, sees_array, sees_pairs, sees_message, sees}
use Rattle.object_operations.specs.Answer.{Gives}
use Rattle.object_operations.specs.Types.{type_name, type_in, object_type, type_row}
use Rattle.object_operations.specs.Applies.{Answers, Applies}
use Rattle.object_operations.specs.declared.applied.Applied.TheVariants as a
use Rattle.object_operations.proofs.Seeing.{first_belongs}
use Rattle.object_operations.proofs.Answering.{gave_text}

pub type_seen : (h : Heap) (name : Naming) (store : Store) (before : Outside) (v : Value) → Stands name h.cells store before → Belongs h v → type_name (meaning name v) store ≡ type_in (plain_of v) (shape_in (content_at h v))
type_seen h name store before v s b = go v (meaning name v) (content_at h v) (sees h name store before v s b)
  where
    go : (u : Value) (w : StoreValue) (o : Option Content) → Seen name store u w o → type_name w store ≡ type_in (plain_of u) (shape_in o)
    go _ _ _ sees_plain = refl
    go _ _ _ sees_text = refl
    go _ _ _ (sees_array g) = ap object_type g
    go _ _ _ (sees_pairs g) = ap object_type g
    go _ _ _ (sees_message g) = ap object_type g

pub names_type : (h h1 : Heap) (v result : Value) (bytes : List ℕ) → bytes ≡ type_in (plain_of v) (shape_in (content_at h v)) → MakesText h h1 result bytes → Applies h h1 (v ∷ []) (a.Value result) type_row
names_type h h1 v result bytes e makes = record {
  answers = λ name store before s o.
      let f = type_seen h name store before v s (first_belongs h name store before v [] s o) in
      subst (λ t. Answers name h1 store before (a.Value result) (Gives (Words t) store)) (e ∙ sym f) (gave_text name h h1 store before result bytes s makes);
}
