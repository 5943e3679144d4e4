-- What a value stands for, by the kind that was told.
use Rattle.std.proofs.Common.{◌≡◌, ◌≢◌, ℕ, List, [], ◌∷◌, map, Option, Some, None, refl, sym, ap, ◌∙◌, subst, ◌⊎◌, inl, inr}
use Rattle.std.specs.Prelude.{slice_get}
use Rattle.chan_values.specs.declared.error_code.ErrorCode.{ErrorCode}
use Rattle.chan_values.specs.declared.error_code.ErrorCode.TheVariants.{E2, E4, E6}
use Rattle.chan_values.specs.declared.message.Message as m
use Rattle.heap_meaning.specs.declared.plain.Plain.{Plain}
use Rattle.heap_meaning.specs.declared.plain.Plain.TheVariants as p
use Rattle.heap_meaning.specs.Values.{Value, StoreValue, Scalar, Words, Reference, Entry}
use Rattle.heap_meaning.specs.Store.{ArrayObject, MapObject, MessageObject, Store}
use Rattle.heap_meaning.specs.Cells.{Content}
use Rattle.heap_meaning.specs.Cells as c
use Rattle.heap_meaning.specs.Stands.{Naming, Outside, meaning, entry_meaning, Stands}
use Rattle.heap_meaning.specs.Heap.{Heap, Belongs, content_at}
use Rattle.heap_meaning.specs.Reading.{plain_of, HoldsArray, HoldsPairs}
use Rattle.heap_meaning.proofs.Showing.{Seen, sees_plain, sees_text, sees_array, sees_pairs, sees_message, sees}
use Rattle.object_operations.specs.Answer.{Answer, Raises}
use Rattle.object_operations.specs.Receivers.{ArrayRow, MapRow, MessageRow, no_member, on_array, on_array_object, on_map, on_map_object, on_message, on_message_object, receiver_of_plain, receiver_in, refusal_of}
use Rattle.object_operations.specs.Members.{read_member_row, write_member_row, read_index_row, write_index_row, member_read, member_written, index_read, index_written, read_item, write_item}
use Rattle.object_operations.specs.Maps.{method_of_map}
use Rattle.object_operations.specs.declared.map_method.MapMethod.TheVariants.{AddReplace, Lookup}
use Rattle.object_operations.specs.Applies.{Answers, AreOut, Applies, AppliesToArray, AppliesToMap}
use Rattle.object_operations.specs.declared.receiver.Receiver.{Receiver}
use Rattle.object_operations.specs.declared.receiver.Receiver.TheVariants as r
use Rattle.object_operations.specs.declared.applied.Applied.{Applied}
use Rattle.object_operations.specs.declared.applied.Applied.TheVariants as a
use Rattle.object_operations.proofs.Seeing.{first_belongs}
use Rattle.object_operations.proofs.Answering.{refusal}

pub data KindOf (store : Store) : Receiver → StoreValue → Type 0 where
  of_plain : (plain : Plain) → KindOf store (receiver_of_plain plain) (Scalar plain)
  of_text : (bytes : List ℕ) → KindOf store r.Other (Words bytes)
  of_array : (n : ℕ) (items : List StoreValue) → slice_get store n ≡ Some (ArrayObject items) → KindOf store r.Array (Reference n)
  of_pairs : (n : ℕ) (entries : List (Entry StoreValue)) → slice_get store n ≡ Some (MapObject entries) → KindOf store r.Pairs (Reference n)
  of_message : (n : ℕ) (message : m.Message) → slice_get store n ≡ Some (MessageObject message) → KindOf store r.Message (Reference n)

pub kind_seen : (h : Heap) (name : Naming) (store : Store) (before : Outside) (v : Value) → Stands name h.cells store before → Belongs h v → KindOf store (receiver_in (plain_of v) (content_at h v)) (meaning name v)
kind_seen h name store before v s b = go v (meaning name v) (content_at h v) (sees h name store before v s b)
  where
    go : (u : Value) (w : StoreValue) (o : Option Content) → Seen name store u w o → KindOf store (receiver_in (plain_of u) o) w
    go _ _ _ (sees_plain {p = plain}) = of_plain plain
    go _ _ _ (sees_text {bytes = bytes}) = of_text bytes
    go _ _ _ (sees_array {n = n} {vs = vs} g) = of_array n (map (meaning name) vs) g
    go _ _ _ (sees_pairs {n = n} {es = es} g) = of_pairs n (map (entry_meaning name) es) g
    go _ _ _ (sees_message {n = n} {m = message} g) = of_message n message g

plain_kind : (plain : Plain) → (receiver_of_plain plain ≡ r.Invalid) ⊎ (receiver_of_plain plain ≡ r.Other)
plain_kind p.Invalid = inl refl
plain_kind (p.Truth b) = inr refl
plain_kind (p.Small n) = inr refl
plain_kind (p.Big n) = inr refl
plain_kind (p.Function n) = inr refl
plain_kind (p.Node n) = inr refl
plain_kind (p.Port n) = inr refl
plain_kind p.Screen = inr refl

plain_error : (plain : Plain) (other : ErrorCode) → no_member plain other ≡ Raises (refusal_of (receiver_of_plain plain) other)
plain_error p.Invalid other = refl
plain_error (p.Truth b) other = refl
plain_error (p.Small n) other = refl
plain_error (p.Big n) other = refl
plain_error (p.Function n) other = refl
plain_error (p.Node n) other = refl
plain_error (p.Port n) other = refl
plain_error p.Screen other = refl

-- another kind is refused
pub refused : (h : Heap) (x : Value) (arguments : List Value) (row : List StoreValue → Store → Answer) (kind : Receiver) (error : ErrorCode) → kind ≡ receiver_in (plain_of x) (content_at h x)
    → ((name : Naming) (store : Store) (w : StoreValue) → KindOf store kind w → row (w ∷ map (meaning name) arguments) store ≡ Raises error) → Applies h h (x ∷ arguments) (a.Raised error) row
refused h x arguments row kind error e same = record {
  answers = λ name store before s o.
      let k = subst (λ y. KindOf store y (meaning name x)) (sym e) (kind_seen h name store before x s (first_belongs h name store before x arguments s o)) in
      subst (Answers name h store before (a.Raised error)) (sym (same name store (meaning name x) k)) (refusal name h store before error s);
}

-- what is decided for an array
pub on_an_array_with : (h h1 : Heap) (x : Value) (arguments : List Value) (result : Applied) (method : ArrayRow) (row : List StoreValue → Store → Answer) → r.Array ≡ receiver_in (plain_of x) (content_at h x)
    → ((name : Naming) (n : ℕ) (items : List StoreValue) (store : Store) → slice_get store n ≡ Some (ArrayObject items) → row (Reference n ∷ map (meaning name) arguments) store ≡ method n items (map (meaning name) arguments) store)
    → AppliesToArray h h1 x arguments result method → Applies h h1 (x ∷ arguments) result row
on_an_array_with h h1 x arguments result method row e same given = record {
  answers = λ name store before s o.
      let k = subst (λ y. KindOf store y (meaning name x)) (sym e) (kind_seen h name store before x s (first_belongs h name store before x arguments s o)) in
      go name store before s o (meaning name x) refl r.Array refl k;
}
  where
    go : (name : Naming) (store : Store) (before : Outside) → Stands name h.cells store before → AreOut (x ∷ arguments) before → (w : StoreValue) → meaning name x ≡ w → (kind : Receiver) → kind ≡ r.Array → KindOf store kind w → Answers name h1 store before result (row (w ∷ map (meaning name) arguments) store)
    go name store before s o _ f _ q (of_array n items there) = subst (Answers name h1 store before result) (sym (same name n items store there)) (given.answers name store before n items s o f there)
    go name store before s o _ f _ q (of_pairs n entries there) = absurd cc
    go name store before s o _ f _ q (of_message n message there) = absurd cc
    go name store before s o _ f _ q (of_text bytes) = absurd cc
    go name store before s o _ f _ q (of_plain plain) = elim (plain_kind plain) [ inl e ↦ absurd cc | inr e ↦ absurd cc ]

-- what is decided for an associative array
pub on_a_map_with : (h h1 : Heap) (x : Value) (arguments : List Value) (result : Applied) (method : MapRow) (row : List StoreValue → Store → Answer) → r.Pairs ≡ receiver_in (plain_of x) (content_at h x)
    → ((name : Naming) (n : ℕ) (entries : List (Entry StoreValue)) (store : Store) → slice_get store n ≡ Some (MapObject entries) → row (Reference n ∷ map (meaning name) arguments) store ≡ method n entries (map (meaning name) arguments) store)
    → AppliesToMap h h1 x arguments result method → Applies h h1 (x ∷ arguments) result row
on_a_map_with h h1 x arguments result method row e same given = record {
  answers = λ name store before s o.
      let k = subst (λ y. KindOf store y (meaning name x)) (sym e) (kind_seen h name store before x s (first_belongs h name store before x arguments s o)) in
      go name store before s o (meaning name x) refl r.Pairs refl k;
}
  where
    go : (name : Naming) (store : Store) (before : Outside) → Stands name h.cells store before → AreOut (x ∷ arguments) before → (w : StoreValue) → meaning name x ≡ w → (kind : Receiver) → kind ≡ r.Pairs → KindOf store kind w → Answers name h1 store before result (row (w ∷ map (meaning name) arguments) store)
    go name store before s o _ f _ q (of_pairs n entries there) = subst (Answers name h1 store before result) (sym (same name n entries store there)) (given.answers name store before n entries s o f there)
    go name store before s o _ f _ q (of_array n items there) = absurd cc
    go name store before s o _ f _ q (of_message n message there) = absurd cc
    go name store before s o _ f _ q (of_text bytes) = absurd cc
    go name store before s o _ f _ q (of_plain plain) = elim (plain_kind plain) [ inl e ↦ absurd cc | inr e ↦ absurd cc ]

-- the cell of what was told to be an array holds one
pub array_told : (o : Option Plain) (content : Option Content) → receiver_in o content ≡ r.Array → HoldsArray content
array_told (Some plain) content e = elim (plain_kind plain) [ inl f ↦ absurd cc | inr f ↦ absurd cc ]
array_told None (Some (c.Array items)) e = tt
array_told None (Some (c.Text bytes)) e = absurd cc
array_told None (Some (c.Pairs entries)) e = absurd cc
array_told None (Some (c.Message message)) e = absurd cc
array_told None None e = absurd cc

pub pairs_told : (o : Option Plain) (content : Option Content) → receiver_in o content ≡ r.Pairs → HoldsPairs content
pairs_told (Some plain) content e = elim (plain_kind plain) [ inl f ↦ absurd cc | inr f ↦ absurd cc ]
pairs_told None (Some (c.Pairs entries)) e = tt
pairs_told None (Some (c.Text bytes)) e = absurd cc
pairs_told None (Some (c.Array items)) e = absurd cc
pairs_told None (Some (c.Message message)) e = absurd cc
pairs_told None None e = absurd cc

-- what each row gives for another kind
pub array_error : (method : ArrayRow) (kind : Receiver) (w : StoreValue) (ws : List StoreValue) (store : Store) → kind ≢ r.Array → KindOf store kind w → on_array method (w ∷ ws) store ≡ Raises (refusal_of kind E4)
array_error method _ _ ws store d (of_plain plain) = plain_error plain E4
array_error method _ _ ws store d (of_text bytes) = refl
array_error method _ _ ws store d (of_array n items e) = absurd (d refl)
array_error method _ _ ws store d (of_pairs n entries e) = ap (λ o. on_array_object method n o ws store) e
array_error method _ _ ws store d (of_message n message e) = ap (λ o. on_array_object method n o ws store) e

pub map_error : (method : MapRow) (kind : Receiver) (w : StoreValue) (ws : List StoreValue) (store : Store) → kind ≢ r.Pairs → KindOf store kind w → on_map method (w ∷ ws) store ≡ Raises (refusal_of kind E4)
map_error method _ _ ws store d (of_plain plain) = plain_error plain E4
map_error method _ _ ws store d (of_text bytes) = refl
map_error method _ _ ws store d (of_pairs n entries e) = absurd (d refl)
map_error method _ _ ws store d (of_array n items e) = ap (λ o. on_map_object method n o ws store) e
map_error method _ _ ws store d (of_message n message e) = ap (λ o. on_map_object method n o ws store) e

pub message_error : (method : MessageRow) (kind : Receiver) (w : StoreValue) (ws : List StoreValue) (store : Store) → kind ≢ r.Message → KindOf store kind w → on_message method (w ∷ ws) store ≡ Raises (refusal_of kind E4)
message_error method _ _ ws store d (of_plain plain) = plain_error plain E4
message_error method _ _ ws store d (of_text bytes) = refl
message_error method _ _ ws store d (of_message n message e) = absurd (d refl)
message_error method _ _ ws store d (of_array n items e) = ap (λ o. on_message_object method o ws store) e
message_error method _ _ ws store d (of_pairs n entries e) = ap (λ o. on_message_object method o ws store) e

pub read_member_error : (kind : Receiver) (w k : StoreValue) (store : Store) → kind ≢ r.Pairs → KindOf store kind w → read_member_row (w ∷ k ∷ []) store ≡ Raises (refusal_of kind E4)
read_member_error _ _ k store d (of_plain plain) = plain_error plain E4
read_member_error _ _ k store d (of_text bytes) = refl
read_member_error _ _ k store d (of_pairs n entries e) = absurd (d refl)
read_member_error _ _ k store d (of_array n items e) = ap (λ o. member_read o k store) e
read_member_error _ _ k store d (of_message n message e) = ap (λ o. member_read o k store) e

pub write_member_error : (kind : Receiver) (w k v : StoreValue) (store : Store) → kind ≢ r.Pairs → KindOf store kind w → write_member_row (w ∷ k ∷ v ∷ []) store ≡ Raises (refusal_of kind E4)
write_member_error _ _ k v store d (of_plain plain) = plain_error plain E4
write_member_error _ _ k v store d (of_text bytes) = refl
write_member_error _ _ k v store d (of_pairs n entries e) = absurd (d refl)
write_member_error _ _ k v store d (of_array n items e) = ap (λ o. member_written n o k v store) e
write_member_error _ _ k v store d (of_message n message e) = ap (λ o. member_written n o k v store) e

pub read_index_error : (kind : Receiver) (w i : StoreValue) (store : Store) → kind ≢ r.Array → kind ≢ r.Pairs → KindOf store kind w → read_index_row (w ∷ i ∷ []) store ≡ Raises (refusal_of kind E2)
read_index_error _ _ i store d d' (of_plain plain) = plain_error plain E2
read_index_error _ _ i store d d' (of_text bytes) = refl
read_index_error _ _ i store d d' (of_array n items e) = absurd (d refl)
read_index_error _ _ i store d d' (of_pairs n entries e) = absurd (d' refl)
read_index_error _ _ i store d d' (of_message n message e) = ap (λ o. index_read o i store) e

pub write_index_error : (kind : Receiver) (w i v : StoreValue) (store : Store) → kind ≢ r.Array → kind ≢ r.Pairs → KindOf store kind w → write_index_row (w ∷ i ∷ v ∷ []) store ≡ Raises (refusal_of kind E2)
write_index_error _ _ i v store d d' (of_plain plain) = plain_error plain E2
write_index_error _ _ i v store d d' (of_text bytes) = refl
write_index_error _ _ i v store d d' (of_array n items e) = absurd (d refl)
write_index_error _ _ i v store d d' (of_pairs n entries e) = absurd (d' refl)
write_index_error _ _ i v store d d' (of_message n message e) = ap (λ o. index_written n o i v store) e

-- the same of arguments that are these
pub with_arguments : {h h1 : Heap} {arguments : List Value} {result : Applied} {row : List StoreValue → Store → Answer} (others : List Value) → arguments ≡ others → Applies h h1 others result row → Applies h h1 arguments result row
with_arguments {h = h} {h1 = h1} {result = result} {row = row} others e x = subst (λ l. Applies h h1 l result row) (sym e) x

-- each row at the kind that is wanted
pub reads_member : (h h1 : Heap) (x k : Value) (result : Applied) → r.Pairs ≡ receiver_in (plain_of x) (content_at h x) → AppliesToMap h h1 x (k ∷ []) result (method_of_map Lookup) → Applies h h1 (x ∷ k ∷ []) result read_member_row
reads_member h h1 x k result e given = on_a_map_with h h1 x (k ∷ []) result (method_of_map Lookup) read_member_row e (λ name n entries store there. ap (λ o. member_read o (meaning name k) store) there) given

pub writes_member : (h h1 : Heap) (x k v : Value) (result : Applied) → r.Pairs ≡ receiver_in (plain_of x) (content_at h x) → AppliesToMap h h1 x (k ∷ v ∷ []) result (method_of_map AddReplace) → Applies h h1 (x ∷ k ∷ v ∷ []) result write_member_row
writes_member h h1 x k v result e given = on_a_map_with h h1 x (k ∷ v ∷ []) result (method_of_map AddReplace) write_member_row e (λ name n entries store there. ap (λ o. member_written n o (meaning name k) (meaning name v) store) there) given

pub reads_key : (h h1 : Heap) (x k : Value) (result : Applied) → r.Pairs ≡ receiver_in (plain_of x) (content_at h x) → AppliesToMap h h1 x (k ∷ []) result (method_of_map Lookup) → Applies h h1 (x ∷ k ∷ []) result read_index_row
reads_key h h1 x k result e given = on_a_map_with h h1 x (k ∷ []) result (method_of_map Lookup) read_index_row e (λ name n entries store there. ap (λ o. index_read o (meaning name k) store) there) given

pub writes_key : (h h1 : Heap) (x k v : Value) (result : Applied) → r.Pairs ≡ receiver_in (plain_of x) (content_at h x) → AppliesToMap h h1 x (k ∷ v ∷ []) result (method_of_map AddReplace) → Applies h h1 (x ∷ k ∷ v ∷ []) result write_index_row
writes_key h h1 x k v result e given = on_a_map_with h h1 x (k ∷ v ∷ []) result (method_of_map AddReplace) write_index_row e (λ name n entries store there. ap (λ o. index_written n o (meaning name k) (meaning name v) store) there) given

pub reads_item : (h h1 : Heap) (x i : Value) (result : Applied) → r.Array ≡ receiver_in (plain_of x) (content_at h x) → AppliesToArray h h1 x (i ∷ []) result read_item → Applies h h1 (x ∷ i ∷ []) result read_index_row
reads_item h h1 x i result e given = on_an_array_with h h1 x (i ∷ []) result read_item read_index_row e (λ name n items store there. ap (λ o. index_read o (meaning name i) store) there) given

pub writes_item : (h h1 : Heap) (x i v : Value) (result : Applied) → r.Array ≡ receiver_in (plain_of x) (content_at h x) → AppliesToArray h h1 x (i ∷ v ∷ []) result write_item → Applies h h1 (x ∷ i ∷ v ∷ []) result write_index_row
writes_item h h1 x i v result e given = on_an_array_with h h1 x (i ∷ v ∷ []) result write_item write_index_row e (λ name n items store there. ap (λ o. index_written n o (meaning name i) (meaning name v) store) there) given

pub calls_array : (h h1 : Heap) (x : Value) (arguments : List Value) (result : Applied) (method : ArrayRow) → r.Array ≡ receiver_in (plain_of x) (content_at h x) → AppliesToArray h h1 x arguments result method → Applies h h1 (x ∷ arguments) result (on_array method)
calls_array h h1 x arguments result method e given = on_an_array_with h h1 x arguments result method (on_array method) e (λ name n items store there. ap (λ o. on_array_object method n o (map (meaning name) arguments) store) there) given

pub calls_map : (h h1 : Heap) (x : Value) (arguments : List Value) (result : Applied) (method : MapRow) → r.Pairs ≡ receiver_in (plain_of x) (content_at h x) → AppliesToMap h h1 x arguments result method → Applies h h1 (x ∷ arguments) result (on_map method)
calls_map h h1 x arguments result method e given = on_a_map_with h h1 x arguments result method (on_map method) e (λ name n entries store there. ap (λ o. on_map_object method n o (map (meaning name) arguments) store) there) given

-- each row at another kind
pub refuses_read_member : (h : Heap) (x k : Value) (kind : Receiver) (error : ErrorCode) → kind ≡ receiver_in (plain_of x) (content_at h x) → error ≡ refusal_of kind E4 → kind ≢ r.Pairs → Applies h h (x ∷ k ∷ []) (a.Raised error) read_member_row
refuses_read_member h x k kind error e f d = refused h x (k ∷ []) read_member_row kind error e (λ name store w q. read_member_error kind w (meaning name k) store d q ∙ ap Raises (sym f))

pub refuses_write_member : (h : Heap) (x k v : Value) (kind : Receiver) (error : ErrorCode) → kind ≡ receiver_in (plain_of x) (content_at h x) → error ≡ refusal_of kind E4 → kind ≢ r.Pairs → Applies h h (x ∷ k ∷ v ∷ []) (a.Raised error) write_member_row
refuses_write_member h x k v kind error e f d = refused h x (k ∷ v ∷ []) write_member_row kind error e (λ name store w q. write_member_error kind w (meaning name k) (meaning name v) store d q ∙ ap Raises (sym f))

pub refuses_read_index : (h : Heap) (x i : Value) (kind : Receiver) (error : ErrorCode) → kind ≡ receiver_in (plain_of x) (content_at h x) → error ≡ refusal_of kind E2 → kind ≢ r.Array → kind ≢ r.Pairs → Applies h h (x ∷ i ∷ []) (a.Raised error) read_index_row
refuses_read_index h x i kind error e f d d' = refused h x (i ∷ []) read_index_row kind error e (λ name store w q. read_index_error kind w (meaning name i) store d d' q ∙ ap Raises (sym f))

pub refuses_write_index : (h : Heap) (x i v : Value) (kind : Receiver) (error : ErrorCode) → kind ≡ receiver_in (plain_of x) (content_at h x) → error ≡ refusal_of kind E2 → kind ≢ r.Array → kind ≢ r.Pairs → Applies h h (x ∷ i ∷ v ∷ []) (a.Raised error) write_index_row
refuses_write_index h x i v kind error e f d d' = refused h x (i ∷ v ∷ []) write_index_row kind error e (λ name store w q. write_index_error kind w (meaning name i) (meaning name v) store d d' q ∙ ap Raises (sym f))

pub refuses_array : (h : Heap) (x : Value) (arguments : List Value) (method : ArrayRow) (kind : Receiver) (error : ErrorCode) → kind ≡ receiver_in (plain_of x) (content_at h x) → error ≡ refusal_of kind E4 → kind ≢ r.Array → Applies h h (x ∷ arguments) (a.Raised error) (on_array method)
refuses_array h x arguments method kind error e f d = refused h x arguments (on_array method) kind error e (λ name store w q. array_error method kind w (map (meaning name) arguments) store d q ∙ ap Raises (sym f))

pub refuses_map : (h : Heap) (x : Value) (arguments : List Value) (method : MapRow) (kind : Receiver) (error : ErrorCode) → kind ≡ receiver_in (plain_of x) (content_at h x) → error ≡ refusal_of kind E4 → kind ≢ r.Pairs → Applies h h (x ∷ arguments) (a.Raised error) (on_map method)
refuses_map h x arguments method kind error e f d = refused h x arguments (on_map method) kind error e (λ name store w q. map_error method kind w (map (meaning name) arguments) store d q ∙ ap Raises (sym f))

pub refuses_message : (h : Heap) (x : Value) (arguments : List Value) (method : MessageRow) (kind : Receiver) (error : ErrorCode) → kind ≡ receiver_in (plain_of x) (content_at h x) → error ≡ refusal_of kind E4 → kind ≢ r.Message → Applies h h (x ∷ arguments) (a.Raised error) (on_message method)
refuses_message h x arguments method kind error e f d = refused h x arguments (on_message method) kind error e (λ name store w q. message_error method kind w (map (meaning name) arguments) store d q ∙ ap Raises (sym f))

-- a number of arguments that no method of this name takes
pub wrong_number : (h : Heap) (array : Value) (arguments : List Value) (row : ArrayRow) → ((n : ℕ) (items ws : List StoreValue) (store : Store) (name : Naming) → row n items (map (meaning name) arguments) store ≡ Raises E6) → AppliesToArray h h array arguments (a.Raised E6) row
wrong_number h array arguments row same = record { answers = λ name store before n items s o names there. subst (Answers name h store before (a.Raised E6)) (sym (same n items [] store name)) (refusal name h store before E6 s) }

pub wrong_map_number : (h : Heap) (pairs : Value) (arguments : List Value) (row : MapRow) → ((n : ℕ) (entries : List (Entry StoreValue)) (store : Store) (name : Naming) → row n entries (map (meaning name) arguments) store ≡ Raises E6) → AppliesToMap h h pairs arguments (a.Raised E6) row
wrong_map_number h pairs arguments row same = record { answers = λ name store before n entries s o names there. subst (Answers name h store before (a.Raised E6)) (sym (same n entries store name)) (refusal name h store before E6 s) }
