-- Calls of methods of messages.
use Rattle.std.proofs.Common.{◌≡◌, ℕ, List, [], ◌∷◌, map, Option, Some, None, refl, sym, ap, ◌∙◌, subst, ◌⊎◌, inl, inr}
use Rattle.std.specs.Prelude.{slice_get, option_map}
use Rattle.chan_values.specs.declared.error_code.ErrorCode.{ErrorCode}
use Rattle.chan_values.specs.declared.error_code.ErrorCode.TheVariants.{E6}
use Rattle.chan_values.specs.declared.message.Message as m
use Rattle.heap_meaning.specs.declared.plain.Plain.{Plain}
use Rattle.heap_meaning.specs.declared.plain.Plain.TheVariants as p
use Rattle.heap_meaning.specs.Values.{Value, Direct, StoreValue, Scalar, Words, Reference}
use Rattle.heap_meaning.specs.Store.{ArrayObject, MapObject, MessageObject, Store}
use Rattle.heap_meaning.specs.Cells.{Content}
use Rattle.heap_meaning.specs.Stands.{Naming, Outside, meaning, entry_meaning, Stands}
use Rattle.heap_meaning.specs.Heap.{Heap, Belongs, MakesText, content_at}
use Rattle.heap_meaning.specs.Reading.{plain_of, message_in}
use Rattle.heap_meaning.proofs.Showing.{Seen, sees_plain, sees_text, sees_array, sees_pairs, sees_message, sees}
use Rattle.object_operations.specs.Answer.{Gives}
use Rattle.object_operations.specs.Receivers.{MessageRow, on_message, on_message_object, receiver_of_plain, receiver_in}
use Rattle.object_operations.specs.Messages.{told, method_of_message}
use Rattle.object_operations.specs.Applies.{Answers, AreOut, Applies}
use Rattle.object_operations.specs.declared.message_method.MessageMethod.{MessageMethod}
use Rattle.object_operations.specs.declared.receiver.Receiver.{Receiver}
use Rattle.object_operations.specs.declared.receiver.Receiver.TheVariants as r
use Rattle.object_operations.specs.declared.applied.Applied.{Applied}
use Rattle.object_operations.specs.declared.applied.Applied.TheVariants as a
use Rattle.object_operations.proofs.Seeing.{first_belongs}
use Rattle.object_operations.proofs.Answering.{gave_plain, gave_text, refusal}
use Rattle.object_operations.proofs.Told.{KindOf, of_plain, of_text, of_array, of_pairs, of_message, kind_seen}
use Rattle.object_makers.specs.MessageAnswers.{AppliesToMessage}
use Rattle.object_makers.specs.Told.{told_of}
use Rattle.object_makers.specs.declared.messages.Told as td
use Rattle.object_makers.specs.declared.messages.Told.TheVariants as tv

plain_kind : (plain : Plain) → (receiver_of_plain plain ≡ r.Invalid) ⊎ (receiver_of_plain plain ≡ r.Other)
plain_kind p.Invalid = inl refl
plain_kind (p.Truth b) = inr refl
plain_kind (p.Small n) = inr refl
plain_kind (p.Big n) = inr refl
plain_kind (p.Function n) = inr refl
plain_kind (p.Node n) = inr refl
plain_kind (p.Port n) = inr refl
plain_kind p.Screen = inr refl

-- what is decided for a message
pub calls_message : (h h1 : Heap) (x : Value) (arguments : List Value) (result : Applied) (method : MessageRow) → r.Message ≡ receiver_in (plain_of x) (content_at h x) → AppliesToMessage h h1 x arguments result method → Applies h h1 (x ∷ arguments) result (on_message method)
calls_message h h1 x arguments result method e given = record {
  answers = λ name store before s o.
      let k = subst (λ y. KindOf store y (meaning name x)) (sym e) (kind_seen h name store before x s (first_belongs h name store before x arguments s o)) in
      go name store before s o (meaning name x) refl r.Message refl k;
}
  where
    go : (name : Naming) (store : Store) (before : Outside) → Stands name h.cells store before → AreOut (x ∷ arguments) before → (w : StoreValue) → meaning name x ≡ w → (kind : Receiver) → kind ≡ r.Message → KindOf store kind w → Answers name h1 store before result (on_message method (w ∷ map (meaning name) arguments) store)
    go name store before s o _ f _ q (of_message n message there) =
        subst (Answers name h1 store before result) (sym (ap (λ x. on_message_object method x (map (meaning name) arguments) store) there)) (given.answers name store before n message s o f there)
    go name store before s o _ f _ q (of_array n items there) = absurd cc
    go name store before s o _ f _ q (of_pairs n entries there) = absurd cc
    go name store before s o _ f _ q (of_text bytes) = absurd cc
    go name store before s o _ f _ q (of_plain plain) = elim (plain_kind plain) [ inl e ↦ absurd cc | inr e ↦ absurd cc ]

-- the cell of a message holds that of the store
pub message_held : (h : Heap) (name : Naming) (store : Store) (before : Outside) (v : Value) (n : ℕ) (message : m.Message) → Stands name h.cells store before → Belongs h v
    → meaning name v ≡ Reference n → slice_get store n ≡ Some (MessageObject message) → message_in (content_at h v) ≡ Some message
message_held h name store before v n message s b names row = go v (meaning name v) (content_at h v) (sees h name store before v s b) names
  where
    go : (u : Value) (w : StoreValue) (o : Option Content) → Seen name store u w o → w ≡ Reference n → message_in o ≡ Some message
    go _ _ _ sees_plain f = absurd cc
    go _ _ _ sees_text f = absurd cc
    go _ _ _ (sees_message {n = i} {m = x} g) f =
        let same : i ≡ n = cc in
        let q : slice_get store n ≡ Some (MessageObject x) = subst (λ j. slice_get store j ≡ Some (MessageObject x)) same g in
        let z : x ≡ message = cc in
        ap Some z
    go _ _ _ (sees_array {n = i} {vs = vs} g) f =
        let same : i ≡ n = cc in
        let q : slice_get store n ≡ Some (ArrayObject (map (meaning name) vs)) = subst (λ j. slice_get store j ≡ Some (ArrayObject (map (meaning name) vs))) same g in
        absurd cc
    go _ _ _ (sees_pairs {n = i} {es = es} g) f =
        let same : i ≡ n = cc in
        let q : slice_get store n ≡ Some (MapObject (map (entry_meaning name) es)) = subst (λ j. slice_get store j ≡ Some (MapObject (map (entry_meaning name) es))) same g in
        absurd cc

-- what was told of it, by the value that it becomes
pub told_words : (o : Option td.Told) (bytes : List ℕ) (x : Option StoreValue) → o ≡ Some (tv.Words bytes) → option_map told_of o ≡ x → Some (Words bytes) ≡ x
told_words o bytes x e f = sym (ap (option_map told_of) e) ∙ f

pub told_node : (o : Option td.Told) (n : ℕ) (x : Option StoreValue) → o ≡ Some (tv.Node n) → option_map told_of o ≡ x → Some (Scalar (p.Node n)) ≡ x
told_node o n x e f = sym (ap (option_map told_of) e) ∙ f

-- what was read of the value's cell is what the message of the store tells
told_value : (method : MessageMethod) (message : m.Message) (o : Option m.Message) (w : StoreValue) → o ≡ Some message → Some w ≡ option_map (told method) o → told method message ≡ w
told_value method message o w e f = let g : Some w ≡ Some (told method message) = f ∙ ap (option_map (told method)) e in cc

pub tells_text : (h h1 : Heap) (x v : Value) (method : MessageMethod) (bytes : List ℕ) → Some (Words bytes) ≡ option_map (told method) (message_in (content_at h x)) → MakesText h h1 v bytes → AppliesToMessage h h1 x [] (a.Value v) (method_of_message method)
tells_text h h1 x v method bytes e made = record {
  answers = λ name store before n message s o names row.
      let f = message_held h name store before x n message s (first_belongs h name store before x [] s o) names row in
      subst (λ w. Answers name h1 store before (a.Value v) (Gives w store)) (sym (told_value method message (message_in (content_at h x)) (Words bytes) f e)) (gave_text name h h1 store before v bytes s made);
}

pub tells_plain : (h : Heap) (x v : Value) (method : MessageMethod) (plain : Plain) → v ≡ Direct plain → Some (Scalar plain) ≡ option_map (told method) (message_in (content_at h x)) → AppliesToMessage h h x [] (a.Value v) (method_of_message method)
tells_plain h x v method plain is e = record {
  answers = λ name store before n message s o names row.
      let f = message_held h name store before x n message s (first_belongs h name store before x [] s o) names row in
      subst (λ w. Answers name h store before (a.Value v) (Gives w store)) (sym (told_value method message (message_in (content_at h x)) (Scalar plain) f e))
      (subst (λ u. Answers name h store before (a.Value u) (Gives (Scalar plain) store)) (sym is) (gave_plain name h store before plain s));
}

-- nothing is told of what is no message
pub tells_nothing : (h : Heap) (x : Value) (method : MessageMethod) (error : ErrorCode) → None ≡ option_map (told method) (message_in (content_at h x)) → AppliesToMessage h h x [] (a.Raised error) (method_of_message method)
tells_nothing h x method error e = record {
  answers = λ name store before n message s o names row.
      let f = message_held h name store before x n message s (first_belongs h name store before x [] s o) names row in
      let g : None ≡ Some (told method message) = e ∙ ap (option_map (told method)) f in
      absurd cc;
}

-- a method of messages takes no argument
pub no_message_arguments : (h : Heap) (x : Value) (arguments : List Value) (method : MessageMethod) → (arguments ≡ [] → ⊥) → AppliesToMessage h h x arguments (a.Raised E6) (method_of_message method)
no_message_arguments h x [] method d = absurd (d refl)
no_message_arguments h x (v ∷ vs) method d = record { answers = λ name store before n message s o names row. refusal name h store before E6 s }
