-- The tags of an element and of those in it.
use Rattle.std.proofs.Common.{◌≡◌, List, [], ◌∷◌, ◌++◌, refl, sym, ap, ◌∙◌, append_assoc}
use Rattle.std.specs.Borrow.{Bor}
use Rattle.std.proofs.lemmas.List.{map-append}
use Rattle.component_files.specs.declared.element.ChildElement.{ChildElement, out-ChildElement}
use Rattle.component_files.specs.declared.element.ChildElement.TheFolds as f
use Rattle.folder_rules.specs.Children.{ChildTag, tag_and_inside, tags_of, child_tags, own_tag, own_tags}
use Rattle.folder_rules.proofs.Lists.{flat_map_map}

pub tags_are : (c : ChildElement) → tags_of c ≡ own_tag c ∷ child_tags (out-ChildElement c).children
unfolding tags_of
tags_are c = f.fold_out-ChildElement (List ChildTag) tag_and_inside c ∙ ap (λ l. own_tag c ∷ l) (flat_map_map (λ tags. tags) (f.fold-ChildElement (List ChildTag) tag_and_inside) (out-ChildElement c).children)

-- an element, and then those in it
pub element_more : (before : List (Bor ChildElement)) (c : Bor ChildElement) (after : List ChildTag) → after ≡ own_tags (before ++ c ∷ []) ++ child_tags (out-ChildElement c.now).children → after ≡ own_tags before ++ tags_of c.now
element_more before c after e =
    e ∙ ap (λ l. l ++ child_tags (out-ChildElement c.now).children) (map-append (λ x. own_tag x.now) before (c ∷ []))
    ∙ append_assoc (own_tags before) (own_tag c.now ∷ []) (child_tags (out-ChildElement c.now).children)
    ∙ ap (λ l. own_tags before ++ l) (sym (tags_are c.now))
