-- The grammar of component files: a relation between the marks of a text and a component file.
use Rattle.std.specs.Prelude.{◌≡◌, ℕ, zero, suc, Bool, true, if◌then◌else◌, List, [], ◌∷◌, ◌++◌, codes, Some, None, Option}
use Rattle.std.specs.List.{flat_map}
use Rattle.xml_pieces.specs.declared.piece.Tag.{Tag}
use Rattle.xml_pieces.specs.declared.piece.Piece.{Piece}
use Rattle.xml_pieces.specs.declared.piece.Piece.TheVariants as piece
use Rattle.xml_pieces.specs.Written.{Written, spelled, piece_of, strip, Cut}
use Rattle.component_files.specs.declared.place.Place.{Place}
use Rattle.component_files.specs.declared.element.ComponentFile.{ComponentFile}
use Rattle.component_files.specs.declared.element.FieldElement.{FieldElement}
use Rattle.component_files.specs.declared.element.FunctionElement.{FunctionElement}
use Rattle.component_files.specs.declared.element.InlineScript.{InlineScript}
use Rattle.component_files.specs.declared.element.ScriptElement.{ScriptElement}
use Rattle.component_files.specs.declared.element.ChildElement.{ChildElement}
use Rattle.component_files.specs.Elements.{same, alike, header, field, function, script, is_whole, are_unlike, child, opening_child}
use Rattle.component_files.specs.Places.{place_after}
use Rattle.component_files.specs.Steps.{is_declaration}

-- ---- marks

-- An empty tag opens an element and closes it, whatever its name. Comments and white space leave no mark.
pub data Mark : Type 0 where
  Open : Tag → Place → Mark
  Close : Option (List ℕ) → Mark
  Data : InlineScript → Mark
  Wrong : Mark

-- the marks of a piece that begins at a place
abbrev pub marks_of : Piece → Place → List Mark
marks_of piece.Declaration place = Wrong ∷ []
marks_of piece.Comment place = []
marks_of piece.Blank place = []
marks_of piece.Stray place = Wrong ∷ []
marks_of (piece.Data text) place = Data (record { text = text; first_line = place.line }) ∷ []
marks_of (piece.Start t) place = Open t place ∷ []
marks_of (piece.Empty t) place = Open t place ∷ (Close None ∷ [])
marks_of (piece.End n) place = Close (Some n) ∷ []

-- the marks of pieces, of which the first begins at a place
abbrev pub marks : Place → List Written → List Mark
marks place [] = []
marks place (w ∷ more) = marks_of (piece_of w) place ++ marks (place_after place (spelled w)) more

-- a <?xml piece leaves no mark where it is the first piece of all
abbrev pub first_marks : Piece → Place → List Mark
first_marks p place = if is_declaration p then [] else marks_of p place

-- the marks of all pieces of a text
abbrev pub text_marks : Place → List Written → List Mark
text_marks place [] = []
text_marks place (w ∷ more) = first_marks (piece_of w) place ++ marks (place_after place (spelled w)) more

-- an end tag has a name that passes, and an empty tag needs none
abbrev pub fits : (List ℕ → Bool) → Option (List ℕ) → Bool
fits test None = true
fits test (Some n) = test n

-- ---- elements

-- one after another
abbrev pub Each : {A : Type 0} → (List Mark → A → Type 0) → List Mark → List A → Type 0
Each r ms [] = ms ≡ []
Each r ms (x ∷ xs) = (front : List Mark) × (back : List Mark) × (ms ≡ front ++ back) × r front x × Each r back xs

-- an element of a name that holds nothing
pub record IsEmpty (A : Type 0) (name : List ℕ) (said : Tag → Place → Option A) (ms : List Mark) (x : A) : Type 0 where
  pub tag : Tag
  pub place : Place
  pub close : Option (List ℕ)
  pub cut : ms ≡ Open tag place ∷ (Close close ∷ [])
  pub begins : same tag.name name ≡ true
  pub named : fits (same name) close ≡ true
  pub says : said tag place ≡ Some x

pub data Member : Type 0 where
  Field : FieldElement → Member
  Function : FunctionElement → Member

-- a member of an interface
abbrev pub Members : List Mark → Member → Type 0
Members ms (Field e) = IsEmpty FieldElement (codes "field") field ms e
Members ms (Function e) = IsEmpty FunctionElement (codes "function") function ms e

abbrev pub with_member : ComponentFile → Member → ComponentFile
with_member f (Field e) = record f { fields = f.fields ++ e ∷ [] }
with_member f (Function e) = record f { functions = f.functions ++ e ∷ [] }

abbrev pub with_members : ComponentFile → List Member → ComponentFile
with_members f [] = f
with_members f (m ∷ more) = with_members (with_member f m) more

abbrev pub data_marks : Option InlineScript → List Mark
data_marks None = []
data_marks (Some text) = Data text ∷ []

-- a script has a uri, a CDATA section or both
pub record IsScript (ms : List Mark) (s : ScriptElement) : Type 0 where
  pub tag : Tag
  pub place : Place
  pub inline : Option InlineScript
  pub close : Option (List ℕ)
  pub cut : ms ≡ Open tag place ∷ (data_marks inline ++ Close close ∷ [])
  pub begins : same tag.name (codes "script") ≡ true
  pub named : fits (same (codes "script")) close ≡ true
  pub says : s ≡ record (script tag place) { inline = inline }
  pub whole : is_whole s ≡ true

-- a child element, with elements inside
pub record IsChild (inner : List Mark → ChildElement → Type 0) (ms : List Mark) (c : ChildElement) : Type 0 where
  pub tag : Tag
  pub place : Place
  pub body : List Mark
  pub children : List ChildElement
  pub close : Option (List ℕ)
  pub cut : ms ≡ Open tag place ∷ (body ++ Close close ∷ [])
  pub distinct : are_unlike tag.attributes ≡ true
  pub named : fits (alike tag.name) close ≡ true
  pub inside : Each inner body children
  pub says : c ≡ child (opening_child tag place) children

-- a child element with at most n levels
unfoldable pub Child : ℕ → List Mark → ChildElement → Type 0
Child zero ms c = ⊥
Child (suc n) ms c = IsChild (Child n) ms c

-- an element of a name, with elements inside
pub record IsPart (A : Type 0) (name : List ℕ) (inner : List Mark → A → Type 0) (ms : List Mark) (xs : List A) : Type 0 where
  pub tag : Tag
  pub place : Place
  pub body : List Mark
  pub close : Option (List ℕ)
  pub cut : ms ≡ Open tag place ∷ (body ++ Close close ∷ [])
  pub begins : same tag.name name ≡ true
  pub named : fits (same name) close ≡ true
  pub inside : Each inner body xs

pub data Part : Type 0 where
  Interface : List Member → Part
  Script : ScriptElement → Part
  Children : List ChildElement → Part

-- a part of a component
abbrev pub Parts : List Mark → Part → Type 0
Parts ms (Interface members) = IsPart _ (codes "interface") Members ms members
Parts ms (Script s) = IsScript ms s
Parts ms (Children cs) = IsPart _ (codes "children") (Child 64) ms cs

abbrev pub with_part : ComponentFile → Part → ComponentFile
with_part f (Interface members) = with_members f members
with_part f (Script s) = record f { scripts = f.scripts ++ s ∷ [] }
with_part f (Children cs) = record f { children = f.children ++ cs }

abbrev pub with_parts : ComponentFile → List Part → ComponentFile
with_parts f [] = f
with_parts f (p ∷ ps) = with_parts (with_part f p) ps

-- one component element, with its parts in any order and number
pub record IsFile (ms : List Mark) (f : ComponentFile) : Type 0 where
  pub tag : Tag
  pub place : Place
  pub body : List Mark
  pub parts : List Part
  pub close : Option (List ℕ)
  pub head : ComponentFile
  pub cut : ms ≡ Open tag place ∷ (body ++ Close close ∷ [])
  pub begins : same tag.name (codes "component") ≡ true
  pub heads : header tag place ≡ Some head
  pub named : fits (same (codes "component")) close ≡ true
  pub inside : Each Parts body parts
  pub says : f ≡ with_parts head parts

-- ---- texts

-- from a place on, a text is cut into pieces, and their marks are those of a component file
pub record IsText (place : Place) (text : List ℕ) (f : ComponentFile) : Type 0 where
  pub pieces : List Written
  pub cut : Cut text pieces []
  pub file : IsFile (text_marks place pieces) f

-- some text, from a place on, is a component file that begins with these pieces
pub record Begins (place : Place) (pieces : List Written) : Type 0 where
  pub text : List ℕ
  pub rest : List ℕ
  pub file : ComponentFile
  pub cut : Cut text pieces rest
  pub good : IsText place text file

-- The line on which the first piece begins such that no component file begins with the pieces up to it. A piece that is not well formed is such
-- a piece, and the end counts as one.
pub record IsFirstFaultOf (place : Place) (text : List ℕ) (line : ℕ) : Type 0 where
  pub pieces : List Written
  pub rest : List ℕ
  pub cut : Cut text pieces rest
  pub is_line : line ≡ (place_after place (flat_map spelled pieces)).line
  pub before : Begins place pieces
  pub here : (w : Written) (behind : List ℕ) → Cut rest (w ∷ []) behind → Begins place (pieces ++ w ∷ []) → ⊥
  pub at_end : rest ≡ [] → (f : ComponentFile) → IsText place text f → ⊥

-- ---- files

-- the byte order mark
abbrev pub order_mark : List ℕ
order_mark = 239 ∷ 187 ∷ 191 ∷ []

abbrev pub otherwise : {A : Type 0} → Option A → A → A
otherwise (Some a) other = a
otherwise None other = other

-- the text behind a byte order mark, if one stands at the start
abbrev pub text_of_file : List ℕ → List ℕ
text_of_file bytes = otherwise (strip order_mark bytes) bytes

-- where it begins: the mark's bytes count in their line
abbrev pub start_after : Option (List ℕ) → Place
start_after (Some text) = record { line = 1; column = 4 }
start_after None = record { line = 1; column = 1 }

abbrev pub start_of_file : List ℕ → Place
start_of_file bytes = start_after (strip order_mark bytes)

-- the bytes are those of a component file
abbrev pub IsComponent : List ℕ → ComponentFile → Type 0
IsComponent bytes f = IsText (start_of_file bytes) (text_of_file bytes) f

-- the line of the bytes' first fault
abbrev pub IsFirstFault : List ℕ → ℕ → Type 0
IsFirstFault bytes line = IsFirstFaultOf (start_of_file bytes) (text_of_file bytes) line
