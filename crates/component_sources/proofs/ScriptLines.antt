-- The lines of an inline script are lines of its component file, so their numbers are small.
use Rattle.std.proofs.Common.{◌≡◌, ℕ, ◌+◌, ◌^◌, ◌<◌, ◌≤◌, Bool, true, false, cond, List, [], ◌∷◌, ◌++◌, length, length-append, Option, Some, None, refl, sym, ap, ◌∙◌, subst, arith}
use Rattle.std.specs.Prelude.{◌==◌, if◌then◌else◌, codes}
use Rattle.std.specs.List.{flat_map, list_all}
use Rattle.xml_pieces.specs.declared.piece.Piece.{Piece}
use Rattle.xml_pieces.specs.declared.piece.Tag.{Tag}
use Rattle.xml_pieces.specs.Written.{Written, Declaration, Comment, Section, Opening, Closing, Between, spelled, piece_of, strip, Cut, tag_of, opening_of, text_of, is_space}
use Rattle.component_files.specs.declared.place.Place.{Place}
use Rattle.component_files.specs.declared.element.ComponentFile.{ComponentFile}
use Rattle.component_files.specs.declared.element.InlineScript.{InlineScript}
use Rattle.component_files.specs.declared.element.ScriptElement.{ScriptElement}
use Rattle.component_files.specs.Elements.{header, script, needed}
use Rattle.xml_pieces.specs.Reading.{bind}
use Rattle.component_files.specs.Places.{after_byte, place_after}
use Rattle.component_files.specs.Steps.{is_declaration}
use Rattle.component_files.specs.ComponentGrammar.{Mark, Open, Close, Data, Wrong, marks_of, marks, first_marks, text_marks, Each, Member, Field, Function, with_member, with_members, data_marks, IsScript, Part, Interface, Script, Children, Parts, with_part, with_parts, IsFile, IsText, IsComponent, order_mark, text_of_file, start_of_file}
use Rattle.component_sources.specs.ComponentFaults.{Fits, InlineFits, ScriptsFit}

-- ---- marks

abbrev MarkFits : ℕ → Mark → Type 0
MarkFits n (Data s) = Fits n s
MarkFits n (Open t p) = Unit {0}
MarkFits n (Close c) = Unit {0}
MarkFits n Wrong = Unit {0}

abbrev MarksFit : ℕ → List Mark → Type 0
MarksFit n [] = Unit {0}
MarksFit n (m ∷ ms) = MarkFits n m × MarksFit n ms

joined : (n : ℕ) (a b : List Mark) → MarksFit n a → MarksFit n b → MarksFit n (a ++ b)
joined n [] b x y = y
joined n (m ∷ a) b x y = (x.0, joined n a b x.1 y)

front : (n : ℕ) (a b : List Mark) → MarksFit n (a ++ b) → MarksFit n a
front n [] b x = tt
front n (m ∷ a) b x = (x.0, front n a b x.1)

back : (n : ℕ) (a b : List Mark) → MarksFit n (a ++ b) → MarksFit n b
back n [] b x = x
back n (m ∷ a) b x = back n a b x.1

-- ---- places

-- how far a line moves
record Moved (p q : Place) (n : ℕ) : Type 0 where
  least : p.line ≤ q.line
  most : q.line ≤ p.line + n

step : (p : Place) (b : ℕ) → Moved p (after_byte p b) 1
step p b = go (b == 10)
  where
    go : (t : Bool) → Moved p (if t then record { line = p.line + 1; column = 1 } else record { line = p.line; column = p.column + 1 }) 1
    go true = record { least = omega arith; most = omega arith }
    go false = record { least = omega arith; most = omega arith }

moved : (p : Place) (bs : List ℕ) → Moved p (place_after p bs) (length bs)
moved p [] = record { least = omega arith; most = omega arith }
moved p (b ∷ bs) =
    let one = step p b in
    let more = moved (after_byte p b) bs in
    record { least = omega (arith, one.least, more.least); most = omega (arith, one.most, more.most) }

-- ---- pieces

section_size : (inside : List ℕ) → length inside ≤ length (spelled (Section inside))
section_size inside = omega (arith, length-append inside (93 ∷ 93 ∷ 62 ∷ []))

opening_fits : (n : ℕ) (p : Place) (t : Tag) (empty : Bool) → MarksFit n (marks_of (opening_of empty t) p)
opening_fits n p t true = (tt, (tt, tt))
opening_fits n p t false = (tt, tt)

text_fits : (n : ℕ) (p : Place) (blank : Bool) → MarksFit n (marks_of (text_of blank) p)
text_fits n p true = tt
text_fits n p false = (tt, tt)

piece_fits : (n : ℕ) (p : Place) (w : Written) → 1 ≤ p.line → p.line + length (spelled w) ≤ n → MarksFit n (marks_of (piece_of w) p)
piece_fits n p (Declaration inside) line size = (tt, tt)
piece_fits n p (Comment inside) line size = tt
piece_fits n p (Section inside) line size = (record { line = line; size = omega (arith, size, section_size inside) }, tt)
piece_fits n p (Opening t) line size = opening_fits n p (tag_of t) t.empty
piece_fits n p (Closing name space) line size = (tt, tt)
piece_fits n p (Between text) line size = text_fits n p (list_all is_space text)

pieces_size : (w : Written) (ws : List Written) → length (flat_map spelled (w ∷ ws)) ≡ length (spelled w) + length (flat_map spelled ws)
pieces_size w ws = length-append (spelled w) (flat_map spelled ws)

all_fit : (n : ℕ) (p : Place) (ws : List Written) → 1 ≤ p.line → p.line + length (flat_map spelled ws) ≤ n → MarksFit n (marks p ws)
all_fit n p [] line size = tt
all_fit n p (w ∷ ws) line size =
    let sizes = pieces_size w ws in
    let m = moved p (spelled w) in
    joined n (marks_of (piece_of w) p) (marks (place_after p (spelled w)) ws)
    (piece_fits n p w line (omega (arith, size, sizes)))
    (all_fit n (place_after p (spelled w)) ws (omega (arith, line, m.least)) (omega (arith, size, sizes, m.most)))

first_fit : (n : ℕ) (p : Place) (w : Written) → 1 ≤ p.line → p.line + length (spelled w) ≤ n → MarksFit n (first_marks (piece_of w) p)
first_fit n p w line size = go (is_declaration (piece_of w))
  where
    go : (t : Bool) → MarksFit n (if t then [] else marks_of (piece_of w) p)
    go true = tt
    go false = piece_fits n p w line size

text_marks_fit : (n : ℕ) (p : Place) (ws : List Written) → 1 ≤ p.line → p.line + length (flat_map spelled ws) ≤ n → MarksFit n (text_marks p ws)
text_marks_fit n p [] line size = tt
text_marks_fit n p (w ∷ ws) line size =
    let sizes = pieces_size w ws in
    let m = moved p (spelled w) in
    joined n (first_marks (piece_of w) p) (marks (place_after p (spelled w)) ws)
    (first_fit n p w line (omega (arith, size, sizes)))
    (all_fit n (place_after p (spelled w)) ws (omega (arith, line, m.least)) (omega (arith, size, sizes, m.most)))

cut_size : (text : List ℕ) (ws : List Written) (rest : List ℕ) → Cut text ws rest → length (flat_map spelled ws) ≤ length text
cut_size text [] rest c = omega arith
cut_size text (w ∷ ws) rest c =
    let whole = ap length c.1 ∙ length-append (spelled w) c.0 in
    omega (arith, whole, pieces_size w ws, cut_size c.0 ws rest c.4)

-- ---- elements

appended : (n : ℕ) (a : List ScriptElement) (s : ScriptElement) → ScriptsFit n a → InlineFits n s.inline → ScriptsFit n (a ++ s ∷ [])
appended n [] s x y = (y, tt)
appended n (b ∷ a) s x y = (x.0, appended n a s x.1 y)

data_fits : (n : ℕ) (inline : Option InlineScript) (more : List Mark) → MarksFit n (data_marks inline ++ more) → InlineFits n inline
data_fits n None more x = tt
data_fits n (Some s) more x = x.0

script_fits : (n : ℕ) (ms : List Mark) (s : ScriptElement) → IsScript ms s → MarksFit n ms → InlineFits n s.inline
script_fits n ms s is x =
    let all = subst (MarksFit n) is.cut x in
    subst (λ (e : ScriptElement). InlineFits n e.inline) (sym is.says) (data_fits n is.inline (Close is.close ∷ []) all.1)

member_keeps : (f : ComponentFile) (m : Member) → (with_member f m).scripts ≡ f.scripts
member_keeps f (Field e) = refl
member_keeps f (Function e) = refl

members_keep : (f : ComponentFile) (ms : List Member) → (with_members f ms).scripts ≡ f.scripts
members_keep f [] = refl
members_keep f (m ∷ ms) = members_keep (with_member f m) ms ∙ member_keeps f m

part_fits : (n : ℕ) (f : ComponentFile) (ms : List Mark) (p : Part) → ScriptsFit n f.scripts → MarksFit n ms → Parts ms p → ScriptsFit n (with_part f p).scripts
part_fits n f ms (Interface members) x y is = subst (ScriptsFit n) (sym (members_keep f members)) x
part_fits n f ms (Script s) x y is = appended n f.scripts s x (script_fits n ms s is y)
part_fits n f ms (Children cs) x y is = x

parts_fit : (n : ℕ) (f : ComponentFile) (ms : List Mark) (ps : List Part) → ScriptsFit n f.scripts → MarksFit n ms → Each Parts ms ps → ScriptsFit n (with_parts f ps).scripts
parts_fit n f ms [] x y is = x
parts_fit n f ms (p ∷ ps) x y is =
    let all = subst (MarksFit n) is.2 y in
    parts_fit n (with_part f p) is.1 ps (part_fits n f is.0 p x (front n is.0 is.1 all) is.3) (back n is.0 is.1 all) is.4

no_scripts_of : (n : ℕ) (f : ComponentFile) (name : Option (List ℕ)) (head : List ℕ → ComponentFile) → ((m : List ℕ) → (head m).scripts ≡ []) → bind name (λ m. Some (head m)) ≡ Some f → ScriptsFit n f.scripts
no_scripts_of n f None head none e = absurd (cc)
no_scripts_of n f (Some m) head none e =
    let same : head m ≡ f = cc in
    subst (λ (g : ComponentFile). ScriptsFit n g.scripts) same (subst (ScriptsFit n) (sym (none m)) tt)

no_scripts : (n : ℕ) (t : Tag) (p : Place) (f : ComponentFile) → header t p ≡ Some f → ScriptsFit n f.scripts
unfolding header
no_scripts n t p f e = no_scripts_of n f (needed t.attributes (codes "name")) _ (λ m. refl) e

file_fits : (n : ℕ) (ms : List Mark) (f : ComponentFile) → IsFile ms f → MarksFit n ms → ScriptsFit n f.scripts
file_fits n ms f is x =
    let all = subst (MarksFit n) is.cut x in
    subst (λ (g : ComponentFile). ScriptsFit n g.scripts) (sym is.says)
    (parts_fit n is.head is.body is.parts (no_scripts n is.tag is.place is.head is.heads) (front n is.body (Close is.close ∷ []) all.1) is.inside)

-- ---- files

strip_more : (t : Bool) (o : Option (List ℕ)) (text : List ℕ) (n : ℕ) → ((u : List ℕ) → o ≡ Some u → length u ≤ n) → (if t then o else None) ≡ Some text → length text ≤ n + 1
strip_more true o text n less e = omega (arith, less text e)
strip_more false o text n less e = absurd (cc)

strip_size : (cs bs text : List ℕ) → strip cs bs ≡ Some text → length text ≤ length bs
unfolding strip
strip_size [] bs text e = let same : bs ≡ text = cc in omega (arith, ap length same)
strip_size (c ∷ cs) [] text e = absurd (cc)
strip_size (c ∷ cs) (b ∷ bs) text e = omega (arith, strip_more (b == c) (strip cs bs) text (length bs) (λ u h. strip_size cs bs u h) e)

start_line : (bytes : List ℕ) → (start_of_file bytes).line ≡ 1
start_line bytes = go (strip order_mark bytes)
  where
    go : (o : Option (List ℕ)) → (Rattle.component_files.specs.ComponentGrammar.start_after o).line ≡ 1
    go None = refl
    go (Some text) = refl

text_size : (bytes : List ℕ) → length (text_of_file bytes) ≤ length bytes
text_size bytes = go (strip order_mark bytes) refl
  where
    go : (o : Option (List ℕ)) → strip order_mark bytes ≡ o → length (Rattle.component_files.specs.ComponentGrammar.otherwise o bytes) ≤ length bytes
    go None e = omega arith
    go (Some text) e = strip_size order_mark bytes text e

pub scripts_fit : (bytes : List ℕ) (f : ComponentFile) → length bytes < 2 ^ 31 → IsComponent bytes f → ScriptsFit 0xffff_ffff f.scripts
scripts_fit bytes f small is =
    let line = start_line bytes in
    let size = cut_size (text_of_file bytes) is.pieces [] is.cut in
    let whole = text_size bytes in
    file_fits 0xffff_ffff (text_marks (start_of_file bytes) is.pieces) f is.file
    (text_marks_fit 0xffff_ffff (start_of_file bytes) is.pieces (omega (arith, line)) (omega (arith, line, size, whole, small)))
