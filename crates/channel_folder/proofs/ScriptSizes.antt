-- The inline scripts of a component file have no more bytes than the file.
use Rattle.std.proofs.Common.{◌≡◌, ℕ, ◌+◌, ◌≤◌, Bool, true, false, List, [], ◌∷◌, ◌++◌, length, length-append, Option, Some, None, refl, sym, ap, ◌∙◌, subst, arith}
use Rattle.std.specs.Prelude.{◌==◌, if◌then◌else◌, codes}
use Rattle.std.specs.List.{flat_map, list_all}
use Rattle.xml_pieces.specs.Reading.{bind}
use Rattle.xml_pieces.specs.declared.piece.Tag.{Tag}
use Rattle.xml_pieces.specs.Written.{Written, Declaration, Comment, Section, Opening, Closing, Between, spelled, piece_of, strip, Cut, tag_of, opening_of, text_of, is_space}
use Rattle.component_files.specs.declared.place.Place.{Place}
use Rattle.component_files.specs.declared.element.ComponentFile.{ComponentFile}
use Rattle.component_files.specs.declared.element.InlineScript.{InlineScript}
use Rattle.component_files.specs.declared.element.ScriptElement.{ScriptElement}
use Rattle.component_files.specs.Elements.{header, needed}
use Rattle.component_files.specs.Places.{place_after}
use Rattle.component_files.specs.Steps.{is_declaration}
use Rattle.component_files.specs.ComponentGrammar.{Mark, Open, Close, Data, Wrong, marks_of, marks, first_marks, text_marks, Each, Member, Field, Function, with_member, with_members, data_marks, IsScript, Part, Interface, Script, Children, Parts, with_part, with_parts, IsFile, IsComponent, order_mark, otherwise, text_of_file, start_of_file}

-- ---- marks

-- how many bytes of scripts a mark has
abbrev mark_size : Mark → ℕ
mark_size (Data s) = length s.text
mark_size (Open t p) = 0
mark_size (Close c) = 0
mark_size Wrong = 0

abbrev marks_size : List Mark → ℕ
marks_size [] = 0
marks_size (m ∷ ms) = mark_size m + marks_size ms

joined : (a b : List Mark) → marks_size (a ++ b) ≡ marks_size a + marks_size b
joined [] b = omega arith
joined (m ∷ a) b = omega (arith, joined a b)

cut_marks : (ms a b : List Mark) → ms ≡ a ++ b → marks_size ms ≡ marks_size a + marks_size b
cut_marks ms a b e = ap marks_size e ∙ joined a b

around : (ms : List Mark) (t : Tag) (p : Place) (body : List Mark) (close : Option (List ℕ)) → ms ≡ Open t p ∷ (body ++ Close close ∷ []) → marks_size ms ≡ marks_size body
around ms t p body close e = omega (arith, ap marks_size e, joined body (Close close ∷ []))

-- ---- pieces

section_size : (inside : List ℕ) → length inside ≤ length (spelled (Section inside))
section_size inside = omega (arith, length-append inside (93 ∷ 93 ∷ 62 ∷ []))

opening_size : (p : Place) (t : Tag) (empty : Bool) → marks_size (marks_of (opening_of empty t) p) ≡ 0
opening_size p t true = refl
opening_size p t false = refl

text_size_of : (p : Place) (blank : Bool) → marks_size (marks_of (text_of blank) p) ≡ 0
text_size_of p true = refl
text_size_of p false = refl

piece_size : (p : Place) (w : Written) → marks_size (marks_of (piece_of w) p) ≤ length (spelled w)
piece_size p (Declaration inside) = omega arith
piece_size p (Comment inside) = omega arith
piece_size p (Section inside) = omega (arith, section_size inside)
piece_size p (Opening t) = omega (arith, opening_size p (tag_of t) t.empty)
piece_size p (Closing name space) = omega arith
piece_size p (Between text) = omega (arith, text_size_of p (list_all is_space text))

pieces_size : (w : Written) (ws : List Written) → length (flat_map spelled (w ∷ ws)) ≡ length (spelled w) + length (flat_map spelled ws)
pieces_size w ws = length-append (spelled w) (flat_map spelled ws)

all_size : (p : Place) (ws : List Written) → marks_size (marks p ws) ≤ length (flat_map spelled ws)
all_size p [] = omega arith
all_size p (w ∷ ws) =
    omega (arith, pieces_size w ws, joined (marks_of (piece_of w) p) (marks (place_after p (spelled w)) ws), piece_size p w, all_size (place_after p (spelled w)) ws)

first_size : (p : Place) (w : Written) → marks_size (first_marks (piece_of w) p) ≤ length (spelled w)
first_size p w = go (is_declaration (piece_of w))
  where
    go : (t : Bool) → marks_size (if t then [] else marks_of (piece_of w) p) ≤ length (spelled w)
    go true = omega arith
    go false = piece_size p w

text_marks_size : (p : Place) (ws : List Written) → marks_size (text_marks p ws) ≤ length (flat_map spelled ws)
text_marks_size p [] = omega arith
text_marks_size p (w ∷ ws) =
    omega (arith, pieces_size w ws, joined (first_marks (piece_of w) p) (marks (place_after p (spelled w)) ws), first_size p w, all_size (place_after p (spelled w)) ws)

cut_size : (text : List ℕ) (ws : List Written) (rest : List ℕ) → Cut text ws rest → length (flat_map spelled ws) ≤ length text
cut_size text [] rest c = omega arith
cut_size text (w ∷ ws) rest c =
    let whole = ap length c.1 ∙ length-append (spelled w) c.0 in
    omega (arith, whole, pieces_size w ws, cut_size c.0 ws rest c.4)

-- ---- elements

abbrev pub inline_size : Option InlineScript → ℕ
inline_size None = 0
inline_size (Some s) = length s.text

-- how many bytes the inline scripts have together
abbrev pub scripts_size : List ScriptElement → ℕ
scripts_size [] = 0
scripts_size (s ∷ ss) = inline_size s.inline + scripts_size ss

appended : (a : List ScriptElement) (s : ScriptElement) → scripts_size (a ++ s ∷ []) ≡ scripts_size a + inline_size s.inline
appended [] s = omega arith
appended (b ∷ a) s = omega (arith, appended a s)

data_size : (inline : Option InlineScript) → marks_size (data_marks inline) ≡ inline_size inline
data_size None = refl
data_size (Some s) = omega arith

same_inline : (s e : ScriptElement) → s ≡ e → inline_size s.inline ≡ inline_size e.inline
same_inline s e same = ap (λ (x : ScriptElement). inline_size x.inline) same

script_size : (ms : List Mark) (s : ScriptElement) → IsScript ms s → inline_size s.inline ≤ marks_size ms
script_size ms s is =
    omega (arith, around ms is.tag is.place (data_marks is.inline) is.close is.cut, data_size is.inline, same_inline s _ is.says)

member_keeps : (f : ComponentFile) (m : Member) → (with_member f m).scripts ≡ f.scripts
member_keeps f (Field e) = refl
member_keeps f (Function e) = refl

members_keep : (f : ComponentFile) (ms : List Member) → (with_members f ms).scripts ≡ f.scripts
members_keep f [] = refl
members_keep f (m ∷ ms) = members_keep (with_member f m) ms ∙ member_keeps f m

part_size : (f : ComponentFile) (ms : List Mark) (p : Part) → Parts ms p → scripts_size (with_part f p).scripts ≤ scripts_size f.scripts + marks_size ms
part_size f ms (Interface members) is = omega (arith, ap scripts_size (members_keep f members))
part_size f ms (Script s) is = omega (arith, appended f.scripts s, script_size ms s is)
part_size f ms (Children cs) is = omega arith

parts_size : (f : ComponentFile) (ms : List Mark) (ps : List Part) → Each Parts ms ps → scripts_size (with_parts f ps).scripts ≤ scripts_size f.scripts + marks_size ms
parts_size f ms [] is = omega arith
parts_size f ms (p ∷ ps) is =
    omega (arith, cut_marks ms is.0 is.1 is.2, part_size f is.0 p is.3, parts_size (with_part f p) is.1 ps is.4)

no_scripts_of : (f : ComponentFile) (name : Option (List ℕ)) (head : List ℕ → ComponentFile) → ((m : List ℕ) → (head m).scripts ≡ []) → bind name (λ m. Some (head m)) ≡ Some f → scripts_size f.scripts ≡ 0
no_scripts_of f None head none e = absurd (cc)
no_scripts_of f (Some m) head none e =
    let same : head m ≡ f = cc in
    sym (ap (λ (g : ComponentFile). scripts_size g.scripts) same) ∙ ap scripts_size (none m)

no_scripts : (t : Tag) (p : Place) (f : ComponentFile) → header t p ≡ Some f → scripts_size f.scripts ≡ 0
unfolding header
no_scripts t p f e = no_scripts_of f (needed t.attributes (codes "name")) _ (λ m. refl) e

file_size : (ms : List Mark) (f : ComponentFile) → IsFile ms f → scripts_size f.scripts ≤ marks_size ms
file_size ms f is =
    omega (
      arith,
      around ms is.tag is.place is.body is.close is.cut,
      no_scripts is.tag is.place is.head is.heads,
      parts_size is.head is.body is.parts is.inside,
      ap (λ (g : ComponentFile). scripts_size g.scripts) is.says,
    )

-- ---- files

strip_more : (t : Bool) (o : Option (List ℕ)) (text : List ℕ) (n : ℕ) → ((u : List ℕ) → o ≡ Some u → length u ≤ n) → (if t then o else None) ≡ Some text → length text ≤ n + 1
strip_more true o text n less e = omega (arith, less text e)
strip_more false o text n less e = absurd (cc)

strip_size : (cs bs text : List ℕ) → strip cs bs ≡ Some text → length text ≤ length bs
unfolding strip
strip_size [] bs text e = let same : bs ≡ text = cc in omega (arith, ap length same)
strip_size (c ∷ cs) [] text e = absurd (cc)
strip_size (c ∷ cs) (b ∷ bs) text e = omega (arith, strip_more (b == c) (strip cs bs) text (length bs) (λ u h. strip_size cs bs u h) e)

text_size : (bytes : List ℕ) → length (text_of_file bytes) ≤ length bytes
text_size bytes = go (strip order_mark bytes) refl
  where
    go : (o : Option (List ℕ)) → strip order_mark bytes ≡ o → length (otherwise o bytes) ≤ length bytes
    go None e = omega arith
    go (Some text) e = strip_size order_mark bytes text e

pub component_size : (bytes : List ℕ) (f : ComponentFile) → IsComponent bytes f → scripts_size f.scripts ≤ length bytes
component_size bytes f is =
    omega (
      arith,
      file_size (text_marks (start_of_file bytes) is.pieces) f is.file,
      text_marks_size (start_of_file bytes) is.pieces,
      cut_size (text_of_file bytes) is.pieces [] is.cut,
      text_size bytes,
    )
