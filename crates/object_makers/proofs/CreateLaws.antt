-- Objects that are made by name.
use Rattle.std.proofs.Common.{◌≡◌, ℕ, List, [], ◌∷◌, ◌++◌, map, length, Option, Some, None, refl, sym, ap, ◌∙◌, subst, arith, true, false, cond}
use Rattle.std.specs.Prelude.{option_map, codes}
use Rattle.std.specs.Str.{bytes_eq}
use Rattle.chan_values.specs.Folded.{folded}
use Rattle.chan_values.specs.declared.error_code.ErrorCode.TheVariants.{E2}
use Rattle.heap_meaning.specs.declared.plain.Plain.TheVariants.{Invalid}
use Rattle.heap_meaning.specs.Values.{Value, Direct, StoreValue, Scalar, Words, Reference}
use Rattle.heap_meaning.specs.Store.{ArrayObject, MapObject, Store}
use Rattle.heap_meaning.specs.Stands.{Naming, Outside, meaning}
use Rattle.heap_meaning.specs.Heap.{Heap, MakesObject, content_at}
use Rattle.heap_meaning.specs.Reading.{text_in}
use Rattle.object_operations.specs.Answer.{Answer, Gives, Raises, invalid, text_of}
use Rattle.object_operations.specs.Types.{map_made, made, create_row}
use Rattle.object_operations.specs.Applies.{Answers, Applies}
use Rattle.object_operations.specs.declared.applied.Applied.{Applied}
use Rattle.object_operations.specs.declared.applied.Applied.TheVariants as a
use Rattle.object_operations.proofs.Seeing.{first_belongs}
use Rattle.object_operations.proofs.Entries.{text_seen}
use Rattle.object_operations.proofs.Answering.{gave_plain, gave_object, refusal}

-- what a name makes, by the two tests of it
abbrev new_array : Store → Answer
new_array store = Gives (Reference (length store)) (store ++ ArrayObject [] ∷ [])

first_made : (name : List ℕ) (ws : List StoreValue) (store : Store) → bytes_eq name (codes "roarray") ≡ true → made name ws store ≡ new_array store
first_made name ws store e = ap (λ b. cond b (new_array store) (cond (bytes_eq name (codes "roassociativearray")) (map_made ws store) (Gives invalid store))) e

second_made : (name : List ℕ) (ws : List StoreValue) (store : Store) → bytes_eq name (codes "roarray") ≡ false → bytes_eq name (codes "roassociativearray") ≡ true → made name ws store ≡ map_made ws store
second_made name ws store e f =
    ap (λ b. cond b (new_array store) (cond (bytes_eq name (codes "roassociativearray")) (map_made ws store) (Gives invalid store))) e
    ∙ ap (λ b. cond b (map_made ws store) (Gives invalid store)) f

third_made : (name : List ℕ) (ws : List StoreValue) (store : Store) → bytes_eq name (codes "roarray") ≡ false → bytes_eq name (codes "roassociativearray") ≡ false → made name ws store ≡ Gives invalid store
third_made name ws store e f =
    ap (λ b. cond b (new_array store) (cond (bytes_eq name (codes "roassociativearray")) (map_made ws store) (Gives invalid store))) e
    ∙ ap (λ b. cond b (map_made ws store) (Gives invalid store)) f

pub makes_array : (h h1 : Heap) (name : List ℕ) (arguments : List Value) (v : Value) → bytes_eq name (codes "roarray") ≡ true → MakesObject h h1 v (ArrayObject []) → Applies h h1 arguments (a.Value v) (made name)
makes_array h h1 name arguments v e m = record {
  answers = λ naming store before s o.
      subst (Answers naming h1 store before (a.Value v)) (sym (first_made name (map (meaning naming) arguments) store e)) (gave_object naming h h1 store before v (ArrayObject []) s m);
}

-- an empty associative array, which takes no further arguments
pub makes_pairs : (h h1 : Heap) (v : Value) → MakesObject h h1 v (MapObject []) → Applies h h1 [] (a.Value v) map_made
makes_pairs h h1 v m = record { answers = λ naming store before s o. gave_object naming h h1 store before v (MapObject []) s m }

pub makes_map : (h h1 : Heap) (name : List ℕ) (arguments : List Value) (r : Applied) → bytes_eq name (codes "roarray") ≡ false → bytes_eq name (codes "roassociativearray") ≡ true → Applies h h1 arguments r map_made → Applies h h1 arguments r (made name)
makes_map h h1 name arguments r e f given = record {
  answers = λ naming store before s o. subst (Answers naming h1 store before r) (sym (second_made name (map (meaning naming) arguments) store e f)) (given.answers naming store before s o);
}

pub makes_invalid : (h : Heap) (name : List ℕ) (arguments : List Value) (v : Value) → v ≡ Direct Invalid → bytes_eq name (codes "roarray") ≡ false → bytes_eq name (codes "roassociativearray") ≡ false → Applies h h arguments (a.Value v) (made name)
makes_invalid h name arguments v is e f = record {
  answers = λ naming store before s o.
      subst (Answers naming h store before (a.Value v)) (sym (third_made name (map (meaning naming) arguments) store e f))
      (subst (λ u. Answers naming h store before (a.Value u) (Gives invalid store)) (sym is) (gave_plain naming h store before Invalid s));
}

create_other : (w : StoreValue) (ws : List StoreValue) (store : Store) → text_of w ≡ None → create_row (w ∷ ws) store ≡ Raises E2
create_other (Scalar plain) ws store e = refl
create_other (Words bytes) ws store e = absurd cc
create_other (Reference n) ws store e = refl

create_text : (w : StoreValue) (bytes : List ℕ) (ws : List StoreValue) (store : Store) → text_of w ≡ Some bytes → create_row (w ∷ ws) store ≡ made (folded bytes) ws store
create_text (Scalar plain) bytes ws store e = absurd cc
create_text (Words other) bytes ws store e = let f : other ≡ bytes = cc in ap (λ b. made (folded b) ws store) f
create_text (Reference n) bytes ws store e = absurd cc

-- the first argument is no text
pub creates_nothing : (h : Heap) (x : Value) (arguments : List Value) → None ≡ option_map folded (text_in (content_at h x)) → Applies h h (x ∷ arguments) (a.Raised E2) create_row
creates_nothing h x arguments e = record {
  answers = λ name store before s o.
      let f : text_of (meaning name x) ≡ None = text_seen h name store before x s (first_belongs h name store before x arguments s o) ∙ none_mapped (text_in (content_at h x)) e in
      subst (Answers name h store before (a.Raised E2)) (sym (create_other (meaning name x) (map (meaning name) arguments) store f)) (refusal name h store before E2 s);
}
  where
    none_mapped : (o : Option (List ℕ)) → None ≡ option_map folded o → o ≡ None
    none_mapped None e = refl
    none_mapped (Some b) e = absurd cc

-- the bytes of a name that was read
pub named_bytes : (o x : Option (List ℕ)) (name bytes : List ℕ) → bytes ≡ name → o ≡ Some name → o ≡ x → Some bytes ≡ x
named_bytes o x name bytes b e f = ap Some b ∙ sym e ∙ f

-- the first argument is a text
pub creates : (h h1 : Heap) (x : Value) (arguments : List Value) (name : List ℕ) (r : Applied) → Some name ≡ option_map folded (text_in (content_at h x)) → Applies h h1 arguments r (made name) → Applies h h1 (x ∷ arguments) r create_row
creates h h1 x arguments name r e given = record {
  answers = λ naming store before s o.
      let t = text_seen h naming store before x s (first_belongs h naming store before x arguments s o) in
      go naming store before (given.answers naming store before s (λ k. let y = o k in omega arith)) (text_in (content_at h x)) t e;
}
  where
    go : (naming : Naming) (store : Store) (before : Outside) → Answers naming h1 store before r (made name (map (meaning naming) arguments) store) → (o : Option (List ℕ)) → text_of (meaning naming x) ≡ o → Some name ≡ option_map folded o
        → Answers naming h1 store before r (create_row (meaning naming x ∷ map (meaning naming) arguments) store)
    go naming store before y None t e = absurd cc
    go naming store before y (Some bytes) t e =
        let f : name ≡ folded bytes = cc in
        subst (Answers naming h1 store before r) (ap (λ b. made b (map (meaning naming) arguments) store) f ∙ sym (create_text (meaning naming x) bytes (map (meaning naming) arguments) store t)) y
