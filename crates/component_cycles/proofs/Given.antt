-- The places of kinds, one kind after another.
use Rattle.std.proofs.Common.{◌≡◌, ℕ, ◌+◌, ◌<◌, List, [], ◌∷◌, ◌++◌, Option, Some, None, length, get_or, map, take, refl, sym, ap, ◌∙◌, Bor}
use Rattle.std.specs.List.{filter_map, cons_option}
use Rattle.std.specs.Option.{option_to_list}
use Rattle.std.proofs.lemmas.List.Elements.{filter_map-append}
use Rattle.chan_values.specs.Folded.{folded}
use Rattle.component_files.specs.declared.element.ChildElement.{ChildElement}
use Rattle.folder_rules.specs.declared.component.PathedComponent.{PathedComponent}
use Rattle.folder_rules.specs.Children.{own_tag, own_tags, child_tags}
use Rattle.folder_rules.specs.KindFaults.{named_kinds}
use Rattle.folder_rules.specs.Kinds.{base_name}
use Rattle.folder_rules.proofs.Lists.{map_more}

one_given : {A : Type 0} (o : Option A) → cons_option o [] ≡ option_to_list o
one_given None = refl
one_given (Some x) = refl

pub given_more : {A B C : Type 0} (f : B → Option C) (g : A → B) (xs : List A) (i : ℕ) (x : A) → i < length xs → x ≡ get_or xs i x → filter_map f (map g (take (i + 1) xs)) ≡ filter_map f (map g (take i xs)) ++ option_to_list (f (g x))
given_more f g xs i x h at = ap (filter_map f) (map_more g xs i x h at) ∙ filter_map-append f (map g (take i xs)) (g x ∷ []) ∙ ap (λ l. filter_map f (map g (take i xs)) ++ l) (one_given (f (g x)))

given_front : {A : Type 0} (o : Option A) (xs : List A) → option_to_list o ++ xs ≡ cons_option o xs
given_front None xs = refl
given_front (Some x) xs = refl

kinds_of_tags : (elements : List (Bor ChildElement)) → map (λ child. folded (own_tag child.now).kind) elements ≡ map (λ tag. folded tag.kind) (own_tags elements)
kinds_of_tags [] = refl
kinds_of_tags (e ∷ es) = ap (λ l. folded (own_tag e.now).kind ∷ l) (kinds_of_tags es)

-- the base, and then the kinds of the child elements
pub given_kinds : (f : List ℕ → Option ℕ) (c : PathedComponent) (elements : List (Bor ChildElement)) → own_tags elements ≡ child_tags c.file.children
    → option_to_list (f (base_name c)) ++ filter_map f (map (λ child. folded (own_tag child.now).kind) elements) ≡ filter_map f (named_kinds c)
given_kinds f c elements tags =
    ap (λ l. option_to_list (f (base_name c)) ++ filter_map f l) (kinds_of_tags elements ∙ ap (map (λ tag. folded tag.kind)) tags)
    ∙ given_front (f (base_name c)) (filter_map f (map (λ tag. folded tag.kind) (child_tags c.file.children)))
