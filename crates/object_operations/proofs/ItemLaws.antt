-- Reads and writes of an array at a number.
use Rattle.std.proofs.Common.{◌≡◌, ℕ, ◌+◌, ◌^◌, ◌<◌, ◌≤◌, [], ◌∷◌, Some, None, refl, sym, ap, ◌∙◌, subst, arith}
use Rattle.std.specs.Prelude.{slice_set, option_map, ℤ, pos}
use Rattle.chan_values.specs.declared.error_code.ErrorCode.TheVariants.{E2, E12}
use Rattle.heap_meaning.specs.declared.plain.Plain.TheVariants.{Invalid}
use Rattle.heap_meaning.specs.Values.{Value, Direct, filler_meant}
use Rattle.heap_meaning.specs.Keys.{placed}
use Rattle.heap_meaning.specs.Store.{ArrayObject}
use Rattle.heap_meaning.specs.Cells.{occurrence}
use Rattle.heap_meaning.specs.Stands.{Outside, meaning, Stands}
use Rattle.heap_meaning.specs.Heap.{Heap, Belongs, Moves, SetsItem, no_references, references_of, content_at}
use Rattle.heap_meaning.specs.Reading.{item_in, plain_of}
use Rattle.object_operations.specs.Answer.{Gives, or_invalid, number_in}
use Rattle.object_operations.specs.Members.{item_read, item_written, read_item, write_item}
use Rattle.object_operations.specs.Numbers.{number_of, place_at}
use Rattle.object_operations.specs.Applies.{Answers, AppliesToArray}
use Rattle.object_operations.specs.declared.applied.Applied.TheVariants as a
use Rattle.object_operations.proofs.Seeing.{first_belongs, second_belongs, array_held, held_item}
use Rattle.object_operations.proofs.ArrayLoops.{number_seen, below, within}
use Rattle.object_operations.proofs.ArrayLaws.{room, no_room}
use Rattle.object_operations.proofs.Answering.{gave_plain, gave_shared, refusal}

pub reads_no_number : (h : Heap) (array i : Value) → number_of (plain_of i) ≡ None → AppliesToArray h h array (i ∷ []) (a.Raised E2) read_item
reads_no_number h array i e = record {
  answers = λ name store before n items s o names row.
      let f = number_seen h name store before i s (second_belongs h name store before array i [] s o) ∙ e in
      subst (λ x. Answers name h store before (a.Raised E2) (item_read items x store)) (sym f) (refusal name h store before E2 s);
}

pub reads_below : (h : Heap) (array i : Value) (j : ℤ) → number_of (plain_of i) ≡ Some j → place_at j ≡ None → AppliesToArray h h array (i ∷ []) (a.Value (Direct Invalid)) read_item
reads_below h array i j e none = record {
  answers = λ name store before n items s o names row.
      let z = below j none in
      let f = number_seen h name store before i s (second_belongs h name store before array i [] s o) ∙ e ∙ ap Some z.1 in
      subst (λ x. Answers name h store before (a.Value (Direct Invalid)) (item_read items x store)) (sym f) (gave_plain name h store before Invalid s);
}

pub reads_none : (h : Heap) (array i : Value) (j : ℤ) (at : ℕ) → number_of (plain_of i) ≡ Some j → place_at j ≡ Some at → item_in (content_at h array) at ≡ None → AppliesToArray h h array (i ∷ []) (a.Value (Direct Invalid)) read_item
reads_none h array i j at e some none = record {
  answers = λ name store before n items s o names row.
      let f : number_in (meaning name i) ≡ Some (pos at) = number_seen h name store before i s (second_belongs h name store before array i [] s o) ∙ e ∙ ap Some (within j at some) in
      let g = held_item h name array items at (array_held h name store before array n items s (first_belongs h name store before array (i ∷ []) s o) names row) ∙ ap (option_map (meaning name)) none in
      subst (λ x. Answers name h store before (a.Value (Direct Invalid)) (item_read items x store)) (sym f) (subst (λ x. Answers name h store before (a.Value (Direct Invalid)) (Gives (or_invalid x) store)) (sym g) (gave_plain name h store before Invalid s));
}

pub reads_some : (h h1 : Heap) (array i item : Value) (j : ℤ) (at : ℕ) → number_of (plain_of i) ≡ Some j → place_at j ≡ Some at → item_in (content_at h array) at ≡ Some item → Moves h h1 no_references (references_of item) → AppliesToArray h h1 array (i ∷ []) (a.Value item) read_item
reads_some h h1 array i item j at e some there moves = record {
  answers = λ name store before n items s o names row.
      let f : number_in (meaning name i) ≡ Some (pos at) = number_seen h name store before i s (second_belongs h name store before array i [] s o) ∙ e ∙ ap Some (within j at some) in
      let g = held_item h name array items at (array_held h name store before array n items s (first_belongs h name store before array (i ∷ []) s o) names row) ∙ ap (option_map (meaning name)) there in
      subst (λ x. Answers name h1 store before (a.Value item) (item_read items x store)) (sym f) (subst (λ x. Answers name h1 store before (a.Value item) (Gives (or_invalid x) store)) (sym g) (gave_shared name h h1 store before item (meaning name item) s moves refl));
}

pub writes_no_number : (h : Heap) (array i v : Value) → number_of (plain_of i) ≡ None → AppliesToArray h h array (i ∷ v ∷ []) (a.Raised E2) write_item
writes_no_number h array i v e = record {
  answers = λ name store before n items s o names row.
      let f = number_seen h name store before i s (second_belongs h name store before array i (v ∷ []) s o) ∙ e in
      subst (λ x. Answers name h store before (a.Raised E2) (item_written n items x (meaning name v) store)) (sym f) (refusal name h store before E2 s);
}

pub writes_below : (h : Heap) (array i v : Value) (j : ℤ) → number_of (plain_of i) ≡ Some j → place_at j ≡ None → AppliesToArray h h array (i ∷ v ∷ []) (a.Raised E2) write_item
writes_below h array i v j e none = record {
  answers = λ name store before n items s o names row.
      let z = below j none in
      let f = number_seen h name store before i s (second_belongs h name store before array i (v ∷ []) s o) ∙ e ∙ ap Some z.1 in
      subst (λ x. Answers name h store before (a.Raised E2) (item_written n items x (meaning name v) store)) (sym f) (refusal name h store before E2 s);
}

pub writes_far : (h : Heap) (array i v : Value) (j : ℤ) (at : ℕ) → number_of (plain_of i) ≡ Some j → place_at j ≡ Some at → 2 ^ 20 ≤ at → AppliesToArray h h array (i ∷ v ∷ []) (a.Raised E12) write_item
writes_far h array i v j at e some far = record {
  answers = λ name store before n items s o names row.
      let f : number_in (meaning name i) ≡ Some (pos at) = number_seen h name store before i s (second_belongs h name store before array i (v ∷ []) s o) ∙ e ∙ ap Some (within j at some) in
      subst (λ x. Answers name h store before (a.Raised E12) (item_written n items x (meaning name v) store)) (sym f) (subst (Answers name h store before (a.Raised E12)) (sym (no_room at _ far)) (refusal name h store before E12 s));
}

pub writes_at : (h h1 h2 : Heap) (array i v shared : Value) (j : ℤ) (at : ℕ) → number_of (plain_of i) ≡ Some j → place_at j ≡ Some at → at < 2 ^ 20 → shared ≡ v → (Belongs h v → Moves h h1 no_references (references_of shared)) → SetsItem h1 h2 array at shared
    → AppliesToArray h h2 array (i ∷ v ∷ []) (a.Value (Direct Invalid)) write_item
writes_at h h1 h2 array i v shared j at e some near same moves sets = record {
  answers = λ name store before n items s o names row.
      let f : number_in (meaning name i) ≡ Some (pos at) = number_seen h name store before i s (second_belongs h name store before array i (v ∷ []) s o) ∙ e ∙ ap Some (within j at some) in
      let mid : Outside = λ k. occurrence k shared + before k in
      let t = moves (second_belongs h name store before i v [] s (λ k. let x = o k in omega arith)) name store before mid s (λ k. omega arith) in
      let b1 = first_belongs h1 name store mid array [] t (λ k. let x = o k in omega arith) in
      let u = sets name store mid before n items t b1 names row (λ k. omega arith) in
      let w = subst (λ y. Stands name h2.cells (slice_set store n (ArrayObject (placed filler_meant items at (meaning name y)))) before) same u in
      subst (λ x. Answers name h2 store before (a.Value (Direct Invalid)) (item_written n items x (meaning name v) store)) (sym f) (subst (Answers name h2 store before (a.Value (Direct Invalid))) (sym (room at _ near)) (gave_plain name h2 _ before Invalid w));
}
