-- What accesses by a name of the code do to an associative array of the store.
use Rattle.std.proofs.Common.{◌≡◌, ◌≢◌, ℕ, ◌+◌, ◌^◌, ◌≤◌, List, [], ◌∷◌, length, Option, Some, None, refl, sym, ap, ◌∙◌, subst, arith, inl, inr}
use Rattle.std.specs.Prelude.{slice_set, option_map}
use Rattle.chan_values.specs.Folded.{folded}
use Rattle.chan_values.specs.declared.error_code.ErrorCode.{ErrorCode}
use Rattle.chan_values.specs.declared.error_code.ErrorCode.TheVariants.{E4, E12}
use Rattle.heap_meaning.specs.declared.plain.Plain.TheVariants.{Invalid}
use Rattle.heap_meaning.specs.Values.{Value, Direct, StoreValue, Words, Entry}
use Rattle.heap_meaning.specs.Keys.{value_at_key, with_key}
use Rattle.heap_meaning.specs.Store.{MapObject, Store}
use Rattle.heap_meaning.specs.Cells.{occurrence}
use Rattle.heap_meaning.specs.Stands.{Naming, Outside, meaning, Stands}
use Rattle.heap_meaning.specs.Heap.{Heap, Belongs, Moves, SetsKey, no_references, references_of, content_at}
use Rattle.heap_meaning.specs.Reading.{plain_of, length_in, value_in, IsFull}
use Rattle.heap_meaning.proofs.Lists.{lt_or}
use Rattle.brs_grammar.specs.Form.{Text}
use Rattle.object_operations.specs.Answer.{Raises, Gives, invalid, with_entries, or_invalid}
use Rattle.object_operations.specs.Maps.{put_at}
use Rattle.object_operations.specs.Members.{member_read, member_written}
use Rattle.object_operations.specs.Receivers.{receiver_in, refusal_of}
use Rattle.object_operations.specs.Applies.{Gave, Answers, Applies, AppliesToMap}
use Rattle.object_operations.specs.declared.applied.Applied.{Applied}
use Rattle.object_operations.specs.declared.applied.Applied.TheVariants as a
use Rattle.object_operations.specs.declared.receiver.Receiver.{Receiver}
use Rattle.object_operations.specs.declared.receiver.Receiver.TheVariants as r
use Rattle.object_operations.proofs.Seeing.{first_belongs, second_belongs, map_held}
use Rattle.object_operations.proofs.Entries.{held_value, held_entries}
use Rattle.object_operations.proofs.Answering.{gave_plain, gave_shared, refusal}
use Rattle.object_operations.proofs.ArrayLaws.{room, no_room}
use Rattle.object_operations.proofs.Told.{refused, on_a_map_with, read_member_error, write_member_error}
use Rattle.member_accesses.specs.Named.{named_lookup, named_put, named_read, named_write}

-- ---- the value at a name is shared

pub looks_up_none : (h : Heap) (pairs : Value) (k : Text) → value_in (content_at h pairs) (folded k) ≡ None → AppliesToMap h h pairs [] (a.Value (Direct Invalid)) (named_lookup k)
looks_up_none h pairs k none = record {
  answers = λ name store before n entries s o names row.
      let held = map_held h name store before pairs n entries s (first_belongs h name store before pairs [] s o) names row in
      let e = held_value h name pairs entries (folded k) held ∙ ap (option_map (meaning name)) none in
      subst (λ x. Answers name h store before (a.Value (Direct Invalid)) (Gives (or_invalid x) store)) (sym e) (gave_plain name h store before Invalid s);
}

pub looks_up : (h h1 : Heap) (pairs item : Value) (k : Text) → value_in (content_at h pairs) (folded k) ≡ Some item → Moves h h1 no_references (references_of item) → AppliesToMap h h1 pairs [] (a.Value item) (named_lookup k)
looks_up h h1 pairs item k some moves = record {
  answers = λ name store before n entries s o names row.
      let held = map_held h name store before pairs n entries s (first_belongs h name store before pairs [] s o) names row in
      let e = held_value h name pairs entries (folded k) held ∙ ap (option_map (meaning name)) some in
      subst (λ x. Answers name h1 store before (a.Value item) (Gives (or_invalid x) store)) (sym e) (gave_shared name h h1 store before item (meaning name item) s moves refl);
}

-- ---- a value was put at a name for which there was room

pub puts : (h h1 h2 : Heap) (pairs item shared : Value) (k : Text) → shared ≡ item → (Belongs h item → Moves h h1 no_references (references_of shared)) → ((w : Value) → content_at h1 w ≡ content_at h w) → (IsFull (content_at h1 pairs) (folded k) → ⊥) → SetsKey h1 h2 pairs k shared
    → AppliesToMap h h2 pairs (item ∷ []) (a.Value (Direct Invalid)) (named_put k)
puts h h1 h2 pairs item shared k same moves contents free sets = record {
  answers = λ name store before n entries s o names row.
      let b = first_belongs h name store before pairs (item ∷ []) s o in
      let held = map_held h name store before pairs n entries s b names row in
      let mid : Outside = λ j. occurrence j shared + before j in
      let bi = second_belongs h name store before pairs item [] s o in
      let t = moves bi name store before mid s (λ j. omega arith) in
      let b1 = first_belongs h1 name store mid pairs [] t (λ j. let x = o j in omega arith) in
      let u = sets name store mid before n entries t b1 names row (λ j. omega arith) in
      let w = subst (λ v. Stands name h2.cells (slice_set store n (MapObject (with_key entries (folded k) (meaning name v)))) before) same u in
      let gave = gave_plain name h2 _ before Invalid w in
      go name store before n entries (meaning name item) gave (held_value h name pairs entries (folded k) held) (held_entries h name pairs entries held) (value_at_key entries (folded k)) (value_in (content_at h pairs) (folded k)) refl refl;
}
  where
    go : (name : Naming) (store : Store) (before : Outside) (n : ℕ) (entries : List (Entry StoreValue)) (w : StoreValue) → Gave name h2 (with_entries n (with_key entries (folded k) w) store) before (Direct Invalid) invalid
        → value_at_key entries (folded k) ≡ option_map (meaning name) (value_in (content_at h pairs) (folded k)) → length_in (content_at h pairs) ≡ length entries
        → (x : Option StoreValue) (y : Option Value) → value_at_key entries (folded k) ≡ x → value_in (content_at h pairs) (folded k) ≡ y
        → Answers name h2 store before (a.Value (Direct Invalid)) (put_at n entries (folded k) x w store)
    go name store before n entries w gave p q (Some v) y e f = gave
    go name store before n entries w gave p q None (Some v) e f = absurd (let g : None ≡ Some (meaning name v) = sym e ∙ p ∙ ap (option_map (meaning name)) f in cc)
    go name store before n entries w gave p q None None e f = elim (lt_or (length entries) (2 ^ 20)) [
      | inl l ↦ subst (Answers name h2 store before (a.Value (Direct Invalid))) (sym (room (length entries) _ l)) gave
      | inr l ↦ absurd (free (record { new = ap (λ o. value_in o (folded k)) (contents pairs) ∙ f; long = let g = ap length_in (contents pairs) in omega arith }))
    ]

-- a new name for which there is no room
pub put_full : (h h1 h2 : Heap) (pairs item shared : Value) (k : Text) → (Belongs h item → Moves h h1 no_references (references_of shared)) → ((w : Value) → content_at h1 w ≡ content_at h w) → IsFull (content_at h1 pairs) (folded k) → Moves h1 h2 (references_of shared) no_references
    → AppliesToMap h h2 pairs (item ∷ []) (a.Raised E12) (named_put k)
put_full h h1 h2 pairs item shared k moves contents full back = record {
  answers = λ name store before n entries s o names row.
      let b = first_belongs h name store before pairs (item ∷ []) s o in
      let held = map_held h name store before pairs n entries s b names row in
      let e : value_at_key entries (folded k) ≡ None = held_value h name pairs entries (folded k) held ∙ ap (option_map (meaning name)) (sym (ap (λ o. value_in o (folded k)) (contents pairs)) ∙ full.new) in
      let l : 2 ^ 20 ≤ length entries = let x = held_entries h name pairs entries held in let y = ap length_in (contents pairs) in let z = full.long in omega arith in
      let mid : Outside = λ j. occurrence j shared + before j in
      let bi = second_belongs h name store before pairs item [] s o in
      let t = moves bi name store before mid s (λ j. omega arith) in
      let u = back name store mid before t (λ j. omega arith) in
      subst (λ x. Answers name h2 store before (a.Raised E12) (put_at n entries (folded k) x (meaning name item) store)) (sym e) (subst (Answers name h2 store before (a.Raised E12)) (sym (no_room (length entries) _ l)) (refusal name h2 store before E12 u));
}

-- ---- by what has the member

pub reads_named : (h h1 : Heap) (x : Value) (k : Text) (result : Applied) → r.Pairs ≡ receiver_in (plain_of x) (content_at h x) → AppliesToMap h h1 x [] result (named_lookup k) → Applies h h1 (x ∷ []) result (named_read k)
reads_named h h1 x k result e given = on_a_map_with h h1 x [] result (named_lookup k) (named_read k) e (λ name n entries store there. ap (λ o. member_read o (Words k) store) there) given

pub refuses_read : (h : Heap) (x : Value) (k : Text) (kind : Receiver) (error : ErrorCode) → kind ≡ receiver_in (plain_of x) (content_at h x) → error ≡ refusal_of kind E4 → kind ≢ r.Pairs → Applies h h (x ∷ []) (a.Raised error) (named_read k)
refuses_read h x k kind error e f d = refused h x [] (named_read k) kind error e (λ name store w q. read_member_error kind w (Words k) store d q ∙ ap Raises (sym f))

pub writes_named : (h h1 : Heap) (x v : Value) (k : Text) (result : Applied) → r.Pairs ≡ receiver_in (plain_of x) (content_at h x) → AppliesToMap h h1 x (v ∷ []) result (named_put k) → Applies h h1 (x ∷ v ∷ []) result (named_write k)
writes_named h h1 x v k result e given = on_a_map_with h h1 x (v ∷ []) result (named_put k) (named_write k) e (λ name n entries store there. ap (λ o. member_written n o (Words k) (meaning name v) store) there) given

pub refuses_write : (h : Heap) (x v : Value) (k : Text) (kind : Receiver) (error : ErrorCode) → kind ≡ receiver_in (plain_of x) (content_at h x) → error ≡ refusal_of kind E4 → kind ≢ r.Pairs → Applies h h (x ∷ v ∷ []) (a.Raised error) (named_write k)
refuses_write h x v k kind error e f d = refused h x (v ∷ []) (named_write k) kind error e (λ name store w q. write_member_error kind w (Words k) (meaning name v) store d q ∙ ap Raises (sym f))
