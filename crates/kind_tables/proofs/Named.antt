-- Lists of names with values, one after another.
use Rattle.std.proofs.Common.{◌≡◌, ℕ, ◌+◌, ◌<◌, Bool, true, false, cond, List, [], ◌∷◌, ◌++◌, Option, Some, None, length, map, take, get_or, refl, sym, ap, ◌∙◌, arith}
use Rattle.std.specs.Prelude.{if◌then◌else◌}
use Rattle.std.specs.Option.{option_map, option_or}
use Rattle.std.specs.Str.{bytes_eq}
use Rattle.std.proofs.lemmas.List.{map-append}
use Rattle.chan_values.specs.Folded.{folded}
use Rattle.component_files.specs.declared.element.FieldElement.{FieldElement}
use Rattle.folder_rules.specs.Names.{either, place_of}
use Rattle.folder_rules.proofs.Lists.{map_more}
use Rattle.folder_rules.proofs.Tables.{place_behind}
use Rattle.folder_rules.specs.Scripts.{Function, function_named}
use Rattle.ordered_names.specs.Values.{value_in, value_of}
use Rattle.ordered_names.specs.declared.draft.NameDraft.{NameDraft}
use Rattle.script_faults.specs.Functions.{functions_of}
use Rattle.script_faults.specs.declared.functions.PlacedFunction.{PlacedFunction}
use Rattle.kind_tables.specs.Rows.{handler, named_handler, named_number, placed_number}
use Rattle.kind_tables.specs.Scopes.{field_element}

pub value_of_both : {V : Type 0} (xs ys : List (List ℕ × V)) (name : List ℕ) → value_of (xs ++ ys) name ≡ option_or (value_of xs name) (value_of ys name)
value_of_both [] ys name = refl
value_of_both (x ∷ xs) ys name = go (bytes_eq x.0 name) (value_of_both xs ys name)
  where
    go : (b : Bool) → value_of (xs ++ ys) name ≡ option_or (value_of xs name) (value_of ys name) → cond b (Some x.1) (value_of (xs ++ ys) name) ≡ option_or (cond b (Some x.1) (value_of xs name)) (value_of ys name)
    go true h = refl
    go false h = h

-- the values of mapped lists that are put together
pub values_of_both : {A V : Type 0} (f : A → List ℕ × V) (xs ys : List A) (name : List ℕ) → value_of (map f (xs ++ ys)) name ≡ option_or (value_of (map f xs) name) (value_of (map f ys) name)
values_of_both f xs ys name = ap (λ l. value_of l name) (map-append f xs ys) ∙ value_of_both (map f xs) (map f ys) name

pub or_is_either : {A : Type 0} (a b : Option A) → option_or a b ≡ either a b
or_is_either None b = refl
or_is_either (Some a) b = refl

-- ---- functions and fields by name

pub function_value : (fs : List Function) (name : List ℕ) → value_of (map named_number fs) name ≡ option_map (λ f. f.number) (function_named fs name)
function_value [] name = refl
function_value (f ∷ fs) name = go (bytes_eq f.name name) (function_value fs name)
  where
    go : (b : Bool) → value_of (map named_number fs) name ≡ option_map (λ f. f.number) (function_named fs name) → cond b (Some f.number) (value_of (map named_number fs) name) ≡ option_map (λ f. f.number) (cond b (Some f) (function_named fs name))
    go true h = refl
    go false h = h

pub handler_value : (es : List FieldElement) (id : List ℕ) → value_of (map named_handler es) id ≡ option_map handler (field_element es id)
handler_value [] id = refl
handler_value (e ∷ es) id = go (bytes_eq (folded e.id) id) (handler_value es id)
  where
    go : (b : Bool) → value_of (map named_handler es) id ≡ option_map handler (field_element es id) → cond b (Some (handler e)) (value_of (map named_handler es) id) ≡ option_map handler (cond b (Some e) (field_element es id))
    go true h = refl
    go false h = h

pub placed_is : (fs : List PlacedFunction) → map placed_number fs ≡ map named_number (functions_of fs)
placed_is [] = refl
placed_is (f ∷ fs) = ap (λ l. placed_number f ∷ l) (placed_is fs)

-- ---- drafts, one name more

abbrev pub one : {V : Type 0} → List ℕ → V → List ℕ → Option V
one last value name = if bytes_eq last name then Some value else None

pub added : {A V : Type 0} (f : A → List ℕ × V) (xs : List A) (i : ℕ) (x : A) → i < length xs → x ≡ get_or xs i x → (before after : NameDraft V) (last : List ℕ) (value : V) → last ≡ (f x).0 → value ≡ (f x).1
    → ((name : List ℕ) → value_in before name ≡ value_of (map f (take i xs)) name) → ((name : List ℕ) → value_in after name ≡ option_or (value_in before name) (one last value name))
    → (name : List ℕ) → value_in after name ≡ value_of (map f (take (i + 1) xs)) name
added f xs i x h e before after last value is_name is_value so_far more name =
    more name
    ∙ ap (λ o. option_or o (one last value name)) (so_far name)
    ∙ ap (λ l. option_or (value_of (map f (take i xs)) name) (one l value name)) is_name
    ∙ ap (λ v. option_or (value_of (map f (take i xs)) name) (one (f x).0 v name)) is_value
    ∙ sym (ap (λ l. value_of l name) (map_more f xs i x h e) ∙ value_of_both (map f (take i xs)) (f x ∷ []) name)

pub place_added : (before after : NameDraft ℕ) (names : List (List ℕ)) (last : List ℕ) (place : ℕ) → place ≡ length names → ((name : List ℕ) → value_in before name ≡ place_of names name)
    → ((name : List ℕ) → value_in after name ≡ option_or (value_in before name) (one last place name)) → (name : List ℕ) → value_in after name ≡ place_of (names ++ last ∷ []) name
place_added before after names last place is so_far more name =
    let plain : 0 + length names ≡ length names = omega arith in
    more name
    ∙ ap (λ o. option_or o (one last place name)) (so_far name)
    ∙ or_is_either (place_of names name) (one last place name)
    ∙ ap (λ k. either (place_of names name) (one last k name)) (is ∙ sym plain)
    ∙ sym (place_behind 0 names last name)
