-- What calls that write an array item by item do to that of the store.
use Rattle.std.proofs.Common.{◌≡◌, ◌≢◌, ℕ, suc, ◌+◌, ◌-◌, ◌^◌, ◌<◌, ◌≤◌, List, [], ◌∷◌, ◌++◌, map, length, take, Option, Some, None, refl, sym, ap, ◌∙◌, subst, arith, add-one, append_assoc, ◌⊎◌, inl, inr, Bool, true, false}
use Rattle.std.specs.Prelude.{slice_get, slice_set, option_map, cond, nat_le, ℤ, pos, negsuc}
use Rattle.std.specs.List.{insert, remove}
use Rattle.std.proofs.lemmas.Grind.{common_steps}
use Rattle.std.proofs.lemmas.List.Edits.{insert_end}
use Rattle.std.proofs.lemmas.Option.{slice_get_within}
use Rattle.chan_values.specs.declared.error_code.ErrorCode.TheVariants.{E2, E12}
use Rattle.heap_meaning.specs.declared.plain.Plain.TheVariants.{Invalid, Truth}
use Rattle.heap_meaning.specs.Values.{Value, Direct, StoreValue, Reference}
use Rattle.heap_meaning.specs.Store.{ArrayObject, Store}
use Rattle.heap_meaning.specs.Cells.{Content, Array, occurrence}
use Rattle.heap_meaning.specs.Stands.{Naming, Outside, meaning, Stands}
use Rattle.heap_meaning.specs.Heap.{Heap, Belongs, Moves, InsertsItem, TakesItem, no_references, references_of, content_at}
use Rattle.heap_meaning.specs.Framing.{Rewritten, ItemsChange}
use Rattle.heap_meaning.specs.Reading.{item_in, length_in, plain_of, HoldsArray}
use Rattle.heap_meaning.proofs.Counts.{same_or}
use Rattle.heap_meaning.proofs.Writes.{get_front, get_set_same, get_set_other}
use Rattle.heap_meaning.proofs.Showing.{Seen, sees_plain, sees_text, sees_array, sees_pairs, sees_message, sees}
use Rattle.object_operations.specs.Answer.{Answer, Raises, number_in, items_of, items_of_object}
use Rattle.object_operations.specs.Arrays.{removed, deleted, appended, item_list, method_of_array}
use Rattle.std.specs.Option.{is_some}
use Rattle.object_operations.specs.Numbers.{number_of, place_at}
use Rattle.object_operations.specs.Applies.{Answers, AppliesToArray, ArrayBecomes, Appends}
use Rattle.object_operations.specs.declared.array_method.ArrayMethod.TheVariants.{Delete, Clear, Append}
use Rattle.object_operations.specs.declared.applied.Applied.TheVariants as a
use Rattle.object_operations.proofs.Lists.{set_same, set_set, remove_past, remove_last, take_whole, take_more, append_none}
use Rattle.object_operations.proofs.Seeing.{first_belongs, second_belongs, array_held, held_length, held_item}
use Rattle.object_operations.proofs.Answering.{gave_plain, refusal}

module _ (name : Naming) (new : Heap) (store : Store) (before : Outside) (n : ℕ) (items : List StoreValue) (row : slice_get store n ≡ Some (ArrayObject items)) where
  -- an array whose items are as they were
  pub stands_unchanged : (items' : List StoreValue) → items' ≡ items → Stands name new.cells store before → Stands name new.cells (slice_set store n (ArrayObject items')) before
  stands_unchanged items' e s = subst (λ x. Stands name new.cells x before) (sym (ap (λ l. slice_set store n (ArrayObject l)) e ∙ set_same store n (ArrayObject items) row)) s

  pub stands_before : (items' : List StoreValue) → items' ≡ items → Stands name new.cells (slice_set store n (ArrayObject items')) before → Stands name new.cells store before
  stands_before items' e s = subst (λ x. Stands name new.cells x before) (ap (λ l. slice_set store n (ArrayObject l)) e ∙ set_same store n (ArrayObject items) row) s

  row_set : (items' : List StoreValue) → slice_get (slice_set store n (ArrayObject items')) n ≡ Some (ArrayObject items')
  row_set items' = get_set_same store n (ArrayObject items') (slice_get_within store n (ArrayObject items) row)

  -- a second write of the same array
  pub stands_again : (items' items'' last : List StoreValue) → items'' ≡ last → Stands name new.cells (slice_set (slice_set store n (ArrayObject items')) n (ArrayObject items'')) before → Stands name new.cells (slice_set store n (ArrayObject last)) before
  stands_again items' items'' last e s = subst (λ x. Stands name new.cells x before) (set_set store n (ArrayObject items') (ArrayObject items'') ∙ ap (λ l. slice_set store n (ArrayObject l)) e) s

-- no item stands at the place
pub drops_none : (h : Heap) (array : Value) (i : ℕ) → item_in (content_at h array) i ≡ None → ArrayBecomes h h array (λ items. remove items i)
drops_none h array i e = record {
  stands = λ name store before n items s o names row.
      let held = array_held h name store before array n items s (first_belongs h name store before array [] s o) names row in
      let f : slice_get items i ≡ None = held_item h name array items i held ∙ ap (option_map (meaning name)) e in
      stands_unchanged name h store before n items row (remove items i) (remove_past items i f) s;
}

-- an item is taken out and released
pub drops_item : (h h1 h2 : Heap) (array item : Value) (i : ℕ) → TakesItem h h1 array i item → Moves h1 h2 (references_of item) no_references → ArrayBecomes h h2 array (λ items. remove items i)
drops_item h h1 h2 array item i takes moves = record {
  stands = λ name store before n items s o names row.
      let mid : Outside = λ k. before k + occurrence k item in
      let t = takes name store before mid n items s (first_belongs h name store before array [] s o) names row (λ k. omega arith) in
      moves name _ mid before t (λ k. omega arith);
}

pub becomes_unmoved : {h h1 h2 : Heap} {array : Value} {change : List StoreValue → List StoreValue} → h2 ≡ h1 → ArrayBecomes h h1 array change → ArrayBecomes h h2 array change
becomes_unmoved {h = h} {array = array} {change = change} e x = subst (λ (y : Heap). ArrayBecomes h y array change) (sym e) x

-- the number that a value of the heap stands for
pub number_seen : (h : Heap) (name : Naming) (store : Store) (before : Outside) (v : Value) → Stands name h.cells store before → Belongs h v → number_in (meaning name v) ≡ number_of (plain_of v)
number_seen h name store before v s b = go v (meaning name v) (content_at h v) (sees h name store before v s b)
  where
    go : (u : Value) (w : StoreValue) (o : Option Content) → Seen name store u w o → number_in w ≡ number_of (plain_of u)
    go _ _ _ sees_plain = refl
    go _ _ _ sees_text = refl
    go _ _ _ (sees_array g) = refl
    go _ _ _ (sees_pairs g) = refl
    go _ _ _ (sees_message g) = refl

pub deletes_no_number : (h : Heap) (array i : Value) → number_of (plain_of i) ≡ None → AppliesToArray h h array (i ∷ []) (a.Raised E2) (method_of_array Delete)
deletes_no_number h array i e = record {
  answers = λ name store before n items s o names row.
      let f = number_seen h name store before i s (second_belongs h name store before array i [] s o) ∙ e in
      subst (λ x. Answers name h store before (a.Raised E2) (deleted n items x store)) (sym f) (refusal name h store before E2 s);
}

pub below : (n : ℤ) → place_at n ≡ None → (i : ℕ) × (n ≡ negsuc i)
below (pos i) e = absurd cc
below (negsuc i) e = (i, refl)

pub within : (n : ℤ) (i : ℕ) → place_at n ≡ Some i → n ≡ pos i
within (pos j) i e = cc
within (negsuc j) i e = absurd cc

pub deletes_below : (h : Heap) (array i : Value) (j : ℤ) → number_of (plain_of i) ≡ Some j → place_at j ≡ None → AppliesToArray h h array (i ∷ []) (a.Value (Direct (Truth false))) (method_of_array Delete)
deletes_below h array i j e none = record {
  answers = λ name store before n items s o names row.
      let z = below j none in
      let f = number_seen h name store before i s (second_belongs h name store before array i [] s o) ∙ e ∙ ap Some z.1 in
      subst (λ x. Answers name h store before (a.Value (Direct (Truth false))) (deleted n items x store)) (sym f) (gave_plain name h store before (Truth false) s);
}

pub deletes_at : (h h1 : Heap) (array i : Value) (j : ℤ) (at : ℕ) (there : Bool) → number_of (plain_of i) ≡ Some j → place_at j ≡ Some at → there ≡ is_some (item_in (content_at h array) at)
    → ArrayBecomes h h1 array (λ items. remove items at) → AppliesToArray h h1 array (i ∷ []) (a.Value (Direct (Truth there))) (method_of_array Delete)
deletes_at h h1 array i j at there e some is becomes = record {
  answers = λ name store before n items s o names row.
      let b = first_belongs h name store before array (i ∷ []) s o in
      let f : number_in (meaning name i) ≡ Some (pos at) = number_seen h name store before i s (second_belongs h name store before array i [] s o) ∙ e ∙ ap Some (within j at some) in
      let g = held_item h name array items at (array_held h name store before array n items s b names row) in
      let t = becomes.stands name store before n items s (λ k. let x = o k in omega arith) names row in
      subst (λ x. Answers name h1 store before (a.Value (Direct (Truth there))) (deleted n items x store)) (sym f)
      (go name store before n items row t (slice_get items at) (item_in (content_at h array) at) refl g is);
}
  where
    go : (name : Naming) (store : Store) (before : Outside) (n : ℕ) (items : List StoreValue) → slice_get store n ≡ Some (ArrayObject items) → Stands name h1.cells (slice_set store n (ArrayObject (remove items at))) before
        → (x : Option StoreValue) (y : Option Value) → slice_get items at ≡ x → x ≡ option_map (meaning name) y → there ≡ is_some y → Answers name h1 store before (a.Value (Direct (Truth there))) (removed n items at x store)
    go name store before n items row t (Some w) (Some v) p q is = subst (λ z. Answers name h1 store before (a.Value (Direct (Truth z))) (removed n items at (Some w) store)) (sym is) (gave_plain name h1 _ before (Truth true) t)
    go name store before n items row t None None p q is = subst (λ z. Answers name h1 store before (a.Value (Direct (Truth z))) (removed n items at None store)) (sym is) (gave_plain name h1 store before (Truth false) (stands_before name h1 store before n items row (remove items at) (remove_past items at p) t))
    go name store before n items row t (Some w) None p q is = absurd cc
    go name store before n items row t None (Some v) p q is = absurd cc

-- clearing, from the last item down
pub clear_start : (h : Heap) (array : Value) (k : ℕ) → k ≡ length_in (content_at h array) → ArrayBecomes h h array (take k)
clear_start h array k e = record {
  stands = λ name store before n items s o names row.
      let f = held_length h name array items (array_held h name store before array n items s (first_belongs h name store before array [] s o) names row) in
      stands_unchanged name h store before n items row (take k items) (ap (λ j. take j items) (e ∙ f) ∙ take_whole items) s;
}

pub clear_step : (h h1 h2 : Heap) (array : Value) (left k : ℕ) → left ≡ suc k → ArrayBecomes h h1 array (take left) → ArrayBecomes h1 h2 array (λ items. remove items k) → ArrayBecomes h h2 array (take k)
clear_step h h1 h2 array left k e x y = record {
  stands = λ name store before n items s o names row.
      let t = subst (λ j. Stands name h1.cells (slice_set store n (ArrayObject (take j items))) before) e (x.stands name store before n items s o names row) in
      let u = y.stands name _ before n (take (suc k) items) t o names (row_set name h store before n items row (take (suc k) items)) in
      stands_again name h2 store before n items row (take (suc k) items) (remove (take (suc k) items) k) (take k items) (remove_last items k) u;
}

pub clears : (h h1 : Heap) (array : Value) (left : ℕ) → left ≡ 0 → ArrayBecomes h h1 array (take left) → AppliesToArray h h1 array [] (a.Value (Direct Invalid)) (method_of_array Clear)
clears h h1 array left e x = record {
  answers = λ name store before n items s o names row.
      gave_plain name h1 _ before Invalid (subst (λ j. Stands name h1.cells (slice_set store n (ArrayObject (take j items))) before) e (x.stands name store before n items s o names row));
}

-- the array for which an array of the heap stands
pub record ArrayShown (name : Naming) (store : Store) (v : Value) : Type 0 where
  pub object : ℕ
  pub items : List StoreValue
  pub names : meaning name v ≡ Reference object
  pub there : slice_get store object ≡ Some (ArrayObject items)

pub array_shown : (h : Heap) (name : Naming) (store : Store) (before : Outside) (v : Value) → Stands name h.cells store before → Belongs h v → HoldsArray (content_at h v) → ArrayShown name store v
array_shown h name store before v s b holds = go v (meaning name v) (content_at h v) (sees h name store before v s b) refl holds
  where
    go : (u : Value) (w : StoreValue) (o : Option Content) → Seen name store u w o → meaning name v ≡ w → HoldsArray o → ArrayShown name store v
    go _ _ _ sees_plain e x = absurd x
    go _ _ _ sees_text e x = absurd x
    go _ _ _ (sees_array {n = n} {vs = vs} g) e x = record { object = n; items = map (meaning name) vs; names = e; there = g }
    go _ _ _ (sees_pairs g) e x = absurd x
    go _ _ _ (sees_message g) e x = absurd x

pub no_array : (h : Heap) (name : Naming) (store : Store) (before : Outside) (v : Value) → Stands name h.cells store before → Belongs h v → (HoldsArray (content_at h v) → ⊥) → items_of (meaning name v) store ≡ None
no_array h name store before v s b other = go v (meaning name v) (content_at h v) (sees h name store before v s b) other
  where
    go : (u : Value) (w : StoreValue) (o : Option Content) → Seen name store u w o → (HoldsArray o → ⊥) → items_of w store ≡ None
    go _ _ _ sees_plain x = refl
    go _ _ _ sees_text x = refl
    go _ _ _ (sees_array g) x = absurd (x tt)
    go _ _ _ (sees_pairs g) x = ap items_of_object g
    go _ _ _ (sees_message g) x = ap items_of_object g

pub appends_no_array : (h : Heap) (array from : Value) → (HoldsArray (content_at h from) → ⊥) → AppliesToArray h h array (from ∷ []) (a.Raised E2) (method_of_array Append)
appends_no_array h array from other = record {
  answers = λ name store before n items s o names row.
      let f = no_array h name store before from s (second_belongs h name store before array from [] s o) other in
      subst (λ x. Answers name h store before (a.Raised E2) (appended n items x store)) (sym f) (refusal name h store before E2 s);
}

too_long : (m : ℕ) (x : Answer) → 2 ^ 20 < m → cond (nat_le m (2 ^ 20)) x (Raises E12) ≡ Raises E12
too_long m x l = grind (arith, common_steps)

long_enough : (m : ℕ) (x : Answer) → m ≤ 2 ^ 20 → cond (nat_le m (2 ^ 20)) x (Raises E12) ≡ x
long_enough m x l = grind (arith, common_steps)

pub appends_too_long : (h : Heap) (array from : Value) → HoldsArray (content_at h from) → 2 ^ 20 < length_in (content_at h array) + length_in (content_at h from) → AppliesToArray h h array (from ∷ []) (a.Raised E12) (method_of_array Append)
appends_too_long h array from holds long = record {
  answers = λ name store before n items s o names row.
      let b = second_belongs h name store before array from [] s o in
      let x = array_shown h name store before from s b holds in
      let p = held_length h name array items (array_held h name store before array n items s (first_belongs h name store before array (from ∷ []) s o) names row) in
      let q = held_length h name from x.items (array_held h name store before from x.object x.items s b x.names x.there) in
      let f : items_of (meaning name from) store ≡ Some x.items = ap (λ w. items_of w store) x.names ∙ ap items_of_object x.there in
      subst (λ y. Answers name h store before (a.Raised E12) (appended n items y store)) (sym f) (subst (Answers name h store before (a.Raised E12)) (sym (too_long (length items + length x.items) _ (omega arith))) (refusal name h store before E12 s));
}

pub append_start : (h : Heap) (array from : Value) → Appends h h array from (take 0)
append_start h array from = record { stands = λ name store before n m items more s o names row names' row'. stands_unchanged name h store before n items row (items ++ []) (append_none items) s }

-- one item more of the other array, which may be the array itself
pub append_step : (h h1 h2 : Heap) (array from : Value) (k : ℕ) → k < length_in (content_at h from) → Appends h h1 array from (take k) → Appends h1 h2 array from (λ more. item_list (slice_get more k)) → Appends h h2 array from (take (k + 1))
append_step h h1 h2 array from k l x y = subst (λ j. Appends h h2 array from (take j)) (sym (add-one k)) (record {
  stands = λ name store before n m items more s o names row names' row'.
      let q = held_length h name from more (array_held h name store before from m more s (second_belongs h name store before array from [] s o) names' row') in
      let t = x.stands name store before n m items more s o names row names' row' in
      let longer = items ++ take k more in
      let r = row_set name h store before n items row longer in
      let z = other_row store n m items more longer row row' (omega arith) (get_front items (take k more) k) (same_or m n) in
      let u = y.stands name _ before n m longer z.0 t o names r names' z.1 in
      stands_again name h2 store before n items row longer (longer ++ item_list (slice_get z.0 k)) (items ++ take (suc k) more)
      (ap (λ g. longer ++ item_list g) z.2 ∙ append_assoc items (take k more) (item_list (slice_get more k)) ∙ ap (λ g. items ++ g) (sym (take_more more k))) u;
})
  where
    other_row : (store : Store) (n m : ℕ) (items more longer : List StoreValue) → slice_get store n ≡ Some (ArrayObject items) → slice_get store m ≡ Some (ArrayObject more) → k < length more
        → (k < length items → slice_get longer k ≡ slice_get items k) → (m ≡ n) ⊎ (m ≢ n)
        → (now : List StoreValue) × (slice_get (slice_set store n (ArrayObject longer)) m ≡ Some (ArrayObject now)) × (slice_get now k ≡ slice_get more k)
    other_row store n m items more longer row row' l front (inl e) =
        let f : items ≡ more = let g : slice_get store n ≡ Some (ArrayObject more) = subst (λ i. slice_get store i ≡ Some (ArrayObject more)) e row' in cc in
        (longer, ap (slice_get (slice_set store n (ArrayObject longer))) e ∙ get_set_same store n (ArrayObject longer) (slice_get_within store n (ArrayObject items) row), front (let g = ap length f in omega arith) ∙ ap (λ z. slice_get z k) f)
    other_row store n m items more longer row row' l front (inr d) = (more, get_set_other store n m (ArrayObject longer) d ∙ row', refl)

pub appends : (h h1 : Heap) (array from : Value) (k : ℕ) → HoldsArray (content_at h from) → k ≡ length_in (content_at h from) → length_in (content_at h array) + k ≤ 2 ^ 20 → Appends h h1 array from (take k)
    → AppliesToArray h h1 array (from ∷ []) (a.Value (Direct Invalid)) (method_of_array Append)
appends h h1 array from k holds e room y = record {
  answers = λ name store before n items s o names row.
      let b = second_belongs h name store before array from [] s o in
      let x = array_shown h name store before from s b holds in
      let p = held_length h name array items (array_held h name store before array n items s (first_belongs h name store before array (from ∷ []) s o) names row) in
      let q = held_length h name from x.items (array_held h name store before from x.object x.items s b x.names x.there) in
      let f : items_of (meaning name from) store ≡ Some x.items = ap (λ w. items_of w store) x.names ∙ ap items_of_object x.there in
      let t = y.stands name store before n x.object items x.items s o names row x.names x.there in
      let u = subst (λ l. Stands name h1.cells (slice_set store n (ArrayObject (items ++ l))) before) (ap (λ j. take j x.items) (e ∙ q) ∙ take_whole x.items) t in
      subst (λ y. Answers name h1 store before (a.Value (Direct Invalid)) (appended n items y store)) (sym f)
      (subst (Answers name h1 store before (a.Value (Direct Invalid))) (sym (long_enough (length items + length x.items) _ (omega arith))) (gave_plain name h1 _ before Invalid u));
}

-- no item is there to be put at the end
pub append_item_none : (h h1 : Heap) (array from : Value) (k : ℕ) → item_in (content_at h from) k ≡ None → h1 ≡ h → Appends h h1 array from (λ more. item_list (slice_get more k))
append_item_none h h1 array from k none e = record {
  stands = λ name store before n m items more s o names row names' row'.
      let f : slice_get more k ≡ None = held_item h name from more k (array_held h name store before from m more s (second_belongs h name store before array from [] s o) names' row') ∙ ap (option_map (meaning name)) none in
      stands_unchanged name h1 store before n items row (items ++ item_list (slice_get more k)) (ap (λ g. items ++ item_list g) f ∙ append_none items) (subst (λ (y : Heap). Stands name y.cells store before) (sym e) s);
}

-- an item is shared and put at the end
pub append_item_some : (h h1 h2 : Heap) (array from item : Value) (k end : ℕ) → item_in (content_at h from) k ≡ Some item → Moves h h1 no_references (references_of item) → end ≡ length_in (content_at h1 array) → InsertsItem h1 h2 array end item
    → Appends h h2 array from (λ more. item_list (slice_get more k))
append_item_some h h1 h2 array from item k end some moves e puts = record {
  stands = λ name store before n m items more s o names row names' row'.
      let f : slice_get more k ≡ Some (meaning name item) = held_item h name from more k (array_held h name store before from m more s (second_belongs h name store before array from [] s o) names' row') ∙ ap (option_map (meaning name)) some in
      let mid : Outside = λ k. occurrence k item + before k in
      let t = moves name store before mid s (λ k. omega arith) in
      let b1 = first_belongs h1 name store mid array [] t (λ k. let x = o k in omega arith) in
      let l = held_length h1 name array items (array_held h1 name store mid array n items t b1 names row) in
      let u = puts name store mid before n items t b1 names row (λ k. omega arith) in
      let g : insert items end (meaning name item) ≡ items ++ item_list (slice_get more k) = ap (λ j. insert items j (meaning name item)) (e ∙ l) ∙ insert_end items (meaning name item) ∙ ap (λ x. items ++ item_list x) (sym f) in
      subst (λ x. Stands name h2.cells (slice_set store n (ArrayObject x)) before) g u;
}

-- the cell of a value whose items were rewritten holds an array
pub still_array : (old new : Heap) (v : Value) (change : List Value → List Value) → Rewritten old new v (ItemsChange change) → HoldsArray (content_at new v)
still_array old new v change r =
    let e : content_at new v ≡ Some (Array (change r.changes.items)) = ap (content_at new) r.is ∙ ap (option_map (λ c. c.content)) r.holds ∙ ap Some r.changes.is in
    subst HoldsArray (sym e) tt

-- what was answered and is no `Some`
pub none_of : {A : Type 0} {x : Option A} (y : Option A) → y ≡ x → ((v : A) → y ≡ Some v → ⊥) → x ≡ None
none_of {x = x} None e d = sym e
none_of (Some v) e d = absurd (d v refl)
