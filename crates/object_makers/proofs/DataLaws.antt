-- What a message carries is laid down anew.
use Rattle.std.proofs.Common.{◌≡◌, ◌+◌, List, [], ◌∷◌, Some, None, refl, ap, ◌∙◌, subst}
use Rattle.std.specs.Prelude.{option_map}
use Rattle.chan_values.specs.View.{tree_of}
use Rattle.chan_values.specs.Tree.{Tree}
use Rattle.chan_values.specs.declared.error_code.ErrorCode.{ErrorCode}
use Rattle.chan_values.specs.declared.error_code.ErrorCode.TheVariants.{E6}
use Rattle.chan_values.specs.declared.message.Message as m
use Rattle.chan_values.specs.declared.portable.Portable.{Portable}
use Rattle.heap_meaning.specs.Values.{Value}
use Rattle.heap_meaning.specs.Store.{Store}
use Rattle.heap_meaning.specs.Cells.{occurrence}
use Rattle.heap_meaning.specs.Stands.{Naming, Outside, Stands}
use Rattle.heap_meaning.specs.Heap.{Heap, content_at}
use Rattle.heap_meaning.specs.Reading.{message_in}
use Rattle.copy_meaning.specs.Laying.{with_tree, value_of_tree, LaysDown}
use Rattle.object_operations.specs.Answer.{Gives}
use Rattle.object_operations.specs.Applies.{Gave, Answers}
use Rattle.object_operations.specs.declared.applied.Applied.TheVariants as a
use Rattle.object_operations.proofs.Seeing.{first_belongs}
use Rattle.object_makers.specs.MessageAnswers.{AppliesToMessage}
use Rattle.object_makers.specs.MessageData.{data_row}
use Rattle.object_makers.proofs.MessageLaws.{message_held}
use Rattle.object_operations.proofs.Answering.{refusal}

-- a tree that was laid down is given
gave_tree : (name : Naming) (old new : Heap) (store : Store) (before : Outside) (v : Value) (t : Tree) → Stands name old.cells store before → LaysDown old new v t → Gave name new (with_tree store t) before v (value_of_tree store t)
gave_tree name old new store before v t s m =
    let r = m name store before (λ k. occurrence k v + before k) s (λ k. refl) in
    record { naming = r.naming; agrees = r.agrees; shows = r.shows; stands = r.stands }

pub gives_data : (h h1 : Heap) (x v : Value) (p : Portable) → Some p ≡ option_map (λ (y : m.Message). y.payload) (message_in (content_at h x)) → LaysDown h h1 v (tree_of p) → AppliesToMessage h h1 x [] (a.Value v) data_row
gives_data h h1 x v p e laid = record {
  answers = λ name store before n message s o names row.
      let f = message_held h name store before x n message s (first_belongs h name store before x [] s o) names row in
      let g : Some p ≡ Some message.payload = e ∙ ap (option_map (λ (y : m.Message). y.payload)) f in
      let same : p ≡ message.payload = cc in
      subst (λ q. Answers name h1 store before (a.Value v) (Gives (value_of_tree store (tree_of q)) (with_tree store (tree_of q)))) same (gave_tree name h h1 store before v (tree_of p) s laid);
}

pub gives_no_data : (h : Heap) (x : Value) (error : ErrorCode) → None ≡ option_map (λ (y : m.Message). y.payload) (message_in (content_at h x)) → AppliesToMessage h h x [] (a.Raised error) data_row
gives_no_data h x error e = record {
  answers = λ name store before n message s o names row.
      let f = message_held h name store before x n message s (first_belongs h name store before x [] s o) names row in
      let g : None ≡ Some message.payload = e ∙ ap (option_map (λ (y : m.Message). y.payload)) f in
      absurd cc;
}

pub no_data_arguments : (h : Heap) (x : Value) (arguments : List Value) → (arguments ≡ [] → ⊥) → AppliesToMessage h h x arguments (a.Raised E6) data_row
no_data_arguments h x [] d = absurd (d refl)
no_data_arguments h x (v ∷ vs) d = record { answers = λ name store before n message s o names row. refusal name h store before E6 s }
