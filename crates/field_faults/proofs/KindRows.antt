-- Rows that stand for kinds: what is looked for along them is looked for along the kinds.
use Rattle.std.proofs.Common.{◌≡◌, ℕ, zero, suc, Bool, true, false, cond, ◌||◌, List, [], ◌∷◌, ◌++◌, Option, Some, None, length, map, refl, sym, ap, ◌∙◌, subst, append_assoc}
use Rattle.std.specs.Prelude.{is_some, if◌then◌else◌}
use Rattle.std.specs.Option.{option_map, option_or}
use Rattle.std.specs.Str.{bytes_eq}
use Rattle.std.proofs.lemmas.List.{append-nil, map-append}
use Rattle.chan_values.specs.Folded.{folded}
use Rattle.component_files.specs.declared.element.FieldElement.{FieldElement}
use Rattle.field_types.specs.declared.types.FieldType.{FieldType}
use Rattle.folder_rules.specs.declared.component.PathedComponent.{PathedComponent}
use Rattle.folder_rules.specs.declared.names.NameTable.{NameTable}
use Rattle.folder_rules.specs.FieldFaults.{repeated_ids}
use Rattle.folder_rules.specs.Faults.{fault_on, fault_where}
use Rattle.folder_rules.specs.Kinds as K
use Rattle.folder_rules.specs.Kinds.{Kind, Field, declared_field, component_kind, base_name, kind_named, ancestors, fields_of, field_named}
use Rattle.folder_rules.specs.Names.{either, is_among, place_of, number_in, HasPlaces}
use Rattle.folder_rules.proofs.Tables.{places_more}
use Rattle.field_faults.specs.declared.rows.KindFields.{KindFields}
use Rattle.field_faults.specs.Rows.{item_at, own_field, from_row, field_along, base_place, HasFields, IsRow, Each, AreRows, HasOneMore, IsOf, IsOfWords, HasFieldsMore}
use Rattle.field_faults.proofs.Lookups.{each_more, Stand, stand_at}

-- ---- one more

pub one_more : {B : Type 0} (R : KindFields → B → Type 0) (before after : List KindFields) (ys : List B) (y : B) (Is : KindFields → Type 0) → Each R before ys → HasOneMore before after Is → ((r : KindFields) → Is r → R r y) → Each R after (ys ++ y ∷ [])
one_more R before after ys y Is e more h = subst (λ l. Each R l (ys ++ y ∷ [])) (sym more.rows) (each_more R before ys more.row y e (h more.row more.is))

pub no_fields_more : (row : KindFields) → HasFieldsMore row row []
no_fields_more row = record { own = λ fields h. subst (HasFields row) (sym (append-nil fields)) h; base = refl }

pub more_fields : (a b c : KindFields) (xs ys : List Field) → HasFieldsMore a b xs → HasFieldsMore b c ys → HasFieldsMore a c (xs ++ ys)
more_fields a b c xs ys first second = record {
  own = λ fields h. subst (HasFields c) (append_assoc fields xs ys) (second.own (fields ++ xs) (first.own fields h));
  base = second.base ∙ first.base;
}

pub all_fields : (empty row : KindFields) (base : Option ℕ) (fields : List Field) → IsOf base [] empty → HasFieldsMore empty row fields → IsOf base fields row
all_fields empty row base fields is more = record { own = more.own [] is.own; base_is = more.base ∙ is.base_is }

same_length : {A B C : Type 0} (f : A → B) (g : A → C) (xs : List A) → length (map f xs) ≡ length (map g xs)
same_length f g [] = refl
same_length f g (x ∷ xs) = ap suc (same_length f g xs)

pub field_more : (before after : KindFields) (id : List ℕ) (holds : Option FieldType) (number : ℕ) → number ≡ length before.types.items
    → ((name : List ℕ) → number_in after.ids name ≡ either (number_in before.ids name) (if bytes_eq id name then Some number else None)) → after.types.items ≡ before.types.items ++ holds ∷ [] → after.base ≡ before.base
    → HasFieldsMore before after (record { id = id; holds = holds } ∷ [])
field_more before after id holds number is added types base = record {
  own = λ fields h. record {
    ids = λ name.
        places_more before.ids after.ids (map (λ f. f.id) fields) id number (is ∙ ap length h.types ∙ same_length (λ f. f.holds) (λ f. f.id) fields) h.ids added name
        ∙ ap (λ l. place_of l name) (sym (map-append (λ f. f.id) fields (record { id = id; holds = holds } ∷ [])));
    types = types ∙ ap (λ l. l ++ holds ∷ []) h.types ∙ sym (map-append (λ f. f.holds) fields (record { id = id; holds = holds } ∷ []));
  };
  base = base;
}

-- ---- a field of a row

stand_for : (fields : List Field) → Each (λ (t : Option FieldType) (f : Field). t ≡ f.holds) (map (λ f. f.holds) fields) fields
stand_for [] = tt
stand_for (f ∷ fs) = (refl, stand_for fs)

held : (o : Option (Option FieldType)) (p : Option Field) → Stand (λ t f. t ≡ f.holds) o p → o ≡ option_map (λ f. f.holds) p
held None None s = refl
held None (Some f) s = absurd s
held (Some t) None s = absurd s
held (Some t) (Some f) s = ap Some s

pub own_is : (row : KindFields) (fields : List Field) → HasFields row fields → (id : List ℕ) → own_field row id ≡ option_map (λ f. f.holds) (field_named fields id)
own_is row fields has id =
    ap (λ l. item_at l (number_in row.ids id)) has.types ∙ ap (item_at (map (λ f. f.holds) fields)) (has.ids id)
    ∙ held (item_at (map (λ f. f.holds) fields) (place_of (map (λ f. f.id) fields) id)) (field_named fields id)
    (stand_at (λ (t : Option FieldType) (f : Field). t ≡ f.holds) (λ f. f.id) field_named (λ name. refl) (λ f fs name. refl) (map (λ f. f.holds) fields) fields (stand_for fields) (map (λ f. f.id) fields) refl id)

-- ---- fields along bases

named_both : (xs ys : List Field) (id : List ℕ) → field_named (xs ++ ys) id ≡ option_or (field_named xs id) (field_named ys id)
named_both [] ys id = refl
named_both (x ∷ xs) ys id = go (bytes_eq x.id id) (named_both xs ys id)
  where
    go : (b : Bool) → field_named (xs ++ ys) id ≡ option_or (field_named xs id) (field_named ys id) → cond b (Some x) (field_named (xs ++ ys) id) ≡ option_or (cond b (Some x) (field_named xs id)) (field_named ys id)
    go true e = refl
    go false e = e

map_or : {A B : Type 0} (f : A → B) (a b : Option A) → option_map f (option_or a b) ≡ option_or (option_map f a) (option_map f b)
map_or f None b = refl
map_or f (Some x) b = refl

module _ (names : List (List ℕ)) (rows : List KindFields) (kinds : List Kind) (is : names ≡ map (λ k. k.name) kinds) (are : AreRows names rows kinds) (id : List ℕ) where
  step : (n : ℕ) → ((name : Option (List ℕ)) → field_along n rows (base_place names name) id ≡ option_map (λ f. f.holds) (field_named (fields_of (ancestors n kinds name)) id)) → (row : Option KindFields) (kind : Option Kind) → Stand (IsRow names) row kind
      → from_row row (λ row. option_or (field_along n rows row.base id) (own_field row id)) ≡ option_map (λ f. f.holds) (field_named (fields_of (K.where_there kind (λ k. k ∷ ancestors n kinds k.base))) id)
  step n h None None s = refl
  step n h None (Some k) s = absurd s
  step n h (Some r) None s = absurd s
  step n h (Some r) (Some k) s =
      ap (λ o. option_or (field_along n rows o id) (own_field r id)) s.base
      ∙ ap (λ o. option_or o (own_field r id)) (h k.base)
      ∙ ap (option_or (option_map (λ f. f.holds) (field_named (fields_of (ancestors n kinds k.base)) id))) (own_is r k.fields s.own id)
      ∙ sym (map_or (λ f. f.holds) (field_named (fields_of (ancestors n kinds k.base)) id) (field_named k.fields id))
      ∙ ap (option_map (λ f. f.holds)) (sym (named_both (fields_of (ancestors n kinds k.base)) k.fields id))

  pub walk_is : (n : ℕ) (name : Option (List ℕ)) → field_along n rows (base_place names name) id ≡ option_map (λ f. f.holds) (field_named (fields_of (ancestors n kinds name)) id)
  walk_is zero name = refl
  walk_is (suc n) None = refl
  walk_is (suc n) (Some name) = step n (walk_is n) (item_at rows (place_of names name)) (kind_named kinds name) (stand_at (IsRow names) (λ k. k.name) kind_named (λ name. refl) (λ k ks name. refl) rows kinds are names is name)

-- ---- rows of built-in kinds and of components

pub component_is_row : (table : NameTable) (names : List (List ℕ)) → HasPlaces table names → (c : PathedComponent) (r : KindFields) → IsOf (number_in table (base_name c)) (map declared_field c.file.fields) r → IsRow names r (component_kind c)
component_is_row table names has c r is = record { own = is.own; base = is.base_is ∙ has (base_name c) }

-- words say what the kinds say
abbrev pub SayKinds : List (List ℕ) → List (Option ℕ × List Field) → List Kind → Type 0
SayKinds names words kinds = Each (λ (w : Option ℕ × List Field) (k : Kind). (w.0 ≡ base_place names k.base) × (w.1 ≡ k.fields)) words kinds

pub words_are_rows : (names : List (List ℕ)) (rows : List KindFields) (words : List (Option ℕ × List Field)) (kinds : List Kind) → Each IsOfWords rows words → SayKinds names words kinds → AreRows names rows kinds
words_are_rows names [] [] [] e s = tt
words_are_rows names [] [] (k ∷ ks) e s = absurd s
words_are_rows names [] (w ∷ ws) ks e s = absurd e
words_are_rows names (r ∷ rs) [] ks e s = absurd e
words_are_rows names (r ∷ rs) (w ∷ ws) [] e s = absurd s
words_are_rows names (r ∷ rs) (w ∷ ws) (k ∷ ks) e s = (record { own = subst (HasFields r) s.0.1 e.0.own; base = e.0.base_is ∙ s.0.0 }, words_are_rows names rs ws ks e.1 s.1)

-- ---- faults by another test of what is inherited

pub named_is_among : (fields : List Field) (id : List ℕ) → is_some (option_map (λ f. f.holds) (field_named fields id)) ≡ is_among (map (λ f. f.id) fields) id
named_is_among [] id = refl
named_is_among (f ∷ fs) id = go (bytes_eq f.id id) (named_is_among fs id)
  where
    go : (b : Bool) → is_some (option_map (λ f. f.holds) (field_named fs id)) ≡ is_among (map (λ f. f.id) fs) id → is_some (option_map (λ f. f.holds) (cond b (Some f) (field_named fs id))) ≡ (b || is_among (map (λ f. f.id) fs) id)
    go true e = refl
    go false e = e

pub repeated_same : (p q : List ℕ → Bool) → ((id : List ℕ) → p id ≡ q id) → (path : List ℕ) (before : List (List ℕ)) (es : List FieldElement) → repeated_ids p path before es ≡ repeated_ids q path before es
repeated_same p q same path before [] = refl
repeated_same p q same path before (e ∷ es) =
    ap (λ b. fault_where (b || is_among before (folded e.id)) (fault_on 14 path e.line (folded e.id)) ++ repeated_ids p path (before ++ folded e.id ∷ []) es) (same (folded e.id))
    ∙ ap (λ l. fault_where (q (folded e.id) || is_among before (folded e.id)) (fault_on 14 path e.line (folded e.id)) ++ l) (repeated_same p q same path (before ++ folded e.id ∷ []) es)
