-- The child elements of a component file, one after another.
use Rattle.std.specs.Prelude.{ℕ, List, ◌∷◌, map}
use Rattle.std.specs.Borrow.{Bor}
use Rattle.std.specs.List.{flat_map}
use Rattle.xml_pieces.specs.declared.piece.AttributeText.{AttributeText}
use Rattle.component_files.specs.declared.element.ChildElement.{ChildElement, ChildElement-F, out-ChildElement}
use Rattle.component_files.specs.declared.element.ChildElement.TheFolds as f

-- what the tag of a child element says
pub record ChildTag : Type 0 where
  pub kind : List ℕ
  pub attributes : List AttributeText
  pub line : ℕ
  pub column : ℕ

abbrev pub tag_and_inside : ChildElement-F (List ChildTag) → List ChildTag
tag_and_inside x = record { kind = x.kind; attributes = x.attributes; line = x.line; column = x.column } ∷ flat_map (λ tags. tags) x.children

-- its own tag and those of all elements in it, in the order in which they begin
unfoldable pub tags_of : ChildElement → List ChildTag
tags_of = f.fold-ChildElement (List ChildTag) tag_and_inside

-- the tags of all child elements, in the order in which they begin
abbrev pub child_tags : List ChildElement → List ChildTag
child_tags children = flat_map tags_of children

-- the tag of an element by itself
abbrev pub own_tag : ChildElement → ChildTag
own_tag c = record { kind = (out-ChildElement c).kind; attributes = (out-ChildElement c).attributes; line = (out-ChildElement c).line; column = (out-ChildElement c).column }

-- the tags of elements by themselves
abbrev pub own_tags : List (Bor ChildElement) → List ChildTag
own_tags elements = map (λ c. own_tag c.now) elements
