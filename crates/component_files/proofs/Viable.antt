-- From each state that is reached some pieces lead to the end.
use Rattle.std.proofs.Common.{◌≡◌, ℕ, Bool, true, false, inl, inr, List, [], ◌∷◌, ◌++◌, length, codes, Some, None, Option, cond, refl, ap, sym, ◌∙◌, subst, append_assoc, append-nil, arith}
use Rattle.std.specs.Prelude.{nat_eq, ◌<◌, ◌||◌, is_some}
use Rattle.std.specs.List.{flat_map, list_all}
use Rattle.std.specs.Str.{bytes_eq, is_utf8, str_to_ascii_lowercase}
use Rattle.std.proofs.lemmas.Bool.{eq-eqb}
use Rattle.xml_pieces.specs.declared.piece.Tag.{Tag}
use Rattle.xml_pieces.specs.Reading.{bind}
use Rattle.xml_pieces.specs.Written.{is_space, is_name_byte, is_attribute_byte, is_quote, differs, Plain, WrittenTag, IsTag, tag_of, opening_of, text_of, Written, Declaration, Comment, Section, Opening, Closing, Between, spelled, piece_of, IsWritten, MayStop, MayPrecede, Cut}
use Rattle.xml_pieces.proofs.Basics.{bind_some, chosen, and_both, name_utf8}
use Rattle.component_files.specs.declared.place.Place.{Place}
use Rattle.component_files.specs.declared.element.ComponentFile.{ComponentFile}
use Rattle.component_files.specs.declared.element.InlineScript.{InlineScript}
use Rattle.component_files.specs.declared.element.ChildElement.{ChildElement}
use Rattle.component_files.specs.declared.element.ScriptElement.{ScriptElement}
use Rattle.component_files.specs.declared.stack.OpenChild.{OpenChild}
use Rattle.component_files.specs.declared.state.MemberKind.TheVariants as kind
use Rattle.component_files.specs.declared.state.State.{State}
use Rattle.component_files.specs.declared.state.State.TheVariants as state
use Rattle.component_files.specs.declared.state.Progress.{Progress}
use Rattle.component_files.specs.declared.state.Progress.TheVariants.{Start}
use Rattle.component_files.specs.Places.{place_after}
use Rattle.component_files.specs.Elements.{same, alike, header, needed, field, function, script, is_whole, child, opening_child}
use Rattle.component_files.specs.Steps.{with_child, opened_part, opened_member, member_name, opened, shut, closes, added, with_data, is_declaration}
use Rattle.component_files.specs.ComponentGrammar.{Mark, Open, Close, Data, Wrong, marks_of, marks, text_marks, Begins}
use Rattle.component_files.proofs.Machine.{move, run, same_moves, runs_on}
use Rattle.component_files.proofs.Sound.{runs_file}
use Rattle.component_files.proofs.Leads.{text_append, leads, led_marks}
use Rattle.xml_pieces.proofs.Pieces.{some_spelled}

-- ---- names that were read are names that can be written

abbrev pub IsName : List ℕ → Type 0
IsName n = (list_all is_name_byte n ≡ true) × (n ≡ [] → ⊥)

abbrev pub NamedStack : List OpenChild → Type 0
NamedStack [] = Unit {0}
NamedStack (o ∷ os) = IsName o.kind × NamedStack os

abbrev pub Named : State → Type 0
Named state.Before = Unit {0}
Named (state.Component f) = Unit {0}
Named (state.Interface f) = Unit {0}
Named (state.Member f k) = Unit {0}
Named (state.Script f s) = Unit {0}
Named (state.Children f os) = NamedStack os
Named (state.After f) = Unit {0}

abbrev pub NamedMark : Mark → Type 0
NamedMark (Open t place) = IsName t.name
NamedMark (Close close) = Unit {0}
NamedMark (Data text) = Unit {0}
NamedMark Wrong = Unit {0}

abbrev pub NamedMarks : List Mark → Type 0
NamedMarks [] = Unit {0}
NamedMarks (m ∷ ms) = NamedMark m × NamedMarks ms

is_next : (s next : State) → Some s ≡ Some next → s ≡ next
is_next s next e = cc

moved : (s next : State) → Named s → Some s ≡ Some next → Named next
moved s next h e = subst Named (is_next s next e) h

part_named : (f : ComponentFile) (t : Tag) (place : Place) (next : State) → opened_part f t place ≡ Some next → Named next
unfolding opened_part
part_named f t place next e = elim (chosen (same t.name (codes "interface")) (Some (state.Interface f)) _ (Some next) e) [
  | inl x ↦ moved (state.Interface f) next tt x.1
  | inr x ↦ elim (chosen (same t.name (codes "script")) (Some (state.Script f (script t place))) _ (Some next) x.1) [
    | inl y ↦ moved (state.Script f (script t place)) next tt y.1
    | inr y ↦ elim (chosen (same t.name (codes "children")) (Some (state.Children f [])) None (Some next) y.1) [
      | inl z ↦ moved (state.Children f []) next tt z.1
      | inr z ↦ absurd (cc)
    ]
  ]
]

member_named : (f : ComponentFile) (t : Tag) (place : Place) (next : State) → opened_member f t place ≡ Some next → Named next
unfolding opened_member
member_named f t place next e = elim (chosen (same t.name (codes "field")) (bind (field t place) (λ x. Some (state.Member (record f { fields = f.fields ++ x ∷ [] }) kind.Field))) _ (Some next) e) [
  | inl x ↦
      let b = bind_some (field t place) (λ x. Some (state.Member (record f { fields = f.fields ++ x ∷ [] }) kind.Field)) next x.1 in
      moved (state.Member (record f { fields = f.fields ++ b.0 ∷ [] }) kind.Field) next tt b.2
  | inr x ↦ elim (chosen (same t.name (codes "function")) (bind (function t place) (λ x. Some (state.Member (record f { functions = f.functions ++ x ∷ [] }) kind.Function))) None (Some next) x.1) [
    | inl y ↦
        let b = bind_some (function t place) (λ x. Some (state.Member (record f { functions = f.functions ++ x ∷ [] }) kind.Function)) next y.1 in
        moved (state.Member (record f { functions = f.functions ++ b.0 ∷ [] }) kind.Function) next tt b.2
    | inr y ↦ absurd (cc)
  ]
]

open_named : (s next : State) (t : Tag) (place : Place) → opened s t place ≡ Some next → IsName t.name → Named s → Named next
open_named state.Before next t place e name h = elim (chosen (same t.name (codes "component")) (bind (header t place) (λ f. Some (state.Component f))) None (Some next) e) [
  | inl x ↦ let b = bind_some (header t place) (λ f. Some (state.Component f)) next x.1 in moved (state.Component b.0) next tt b.2
  | inr x ↦ absurd (cc)
]
open_named (state.Component f) next t place e name h = part_named f t place next e
open_named (state.Interface f) next t place e name h = member_named f t place next e
open_named (state.Member f k) next t place e name h = absurd (cc)
open_named (state.Script f s) next t place e name h = absurd (cc)
open_named (state.Children f os) next t place e name h = elim (chosen _ (Some (state.Children f (opening_child t place ∷ os))) None (Some next) e) [
  | inl x ↦ moved (state.Children f (opening_child t place ∷ os)) next (name, h) x.1
  | inr x ↦ absurd (cc)
]
open_named (state.After f) next t place e name h = absurd (cc)

child_named : (f : ComponentFile) (os : List OpenChild) (c : ChildElement) → NamedStack os → Named (with_child f os c)
child_named f [] c h = tt
child_named f (o ∷ os) c h = h

shut_named : (s next : State) → shut s ≡ Some next → Named s → Named next
shut_named state.Before next e h = absurd (cc)
shut_named (state.Component f) next e h = moved (state.After f) next tt e
shut_named (state.Interface f) next e h = moved (state.Component f) next tt e
shut_named (state.Member f k) next e h = moved (state.Interface f) next tt e
shut_named (state.Script f s) next e h = elim (chosen (is_whole s) (Some (state.Component (record f { scripts = f.scripts ++ s ∷ [] }))) None (Some next) e) [
  | inl x ↦ moved (state.Component (record f { scripts = f.scripts ++ s ∷ [] })) next tt x.1
  | inr x ↦ absurd (cc)
]
shut_named (state.Children f []) next e h = moved (state.Component f) next tt e
shut_named (state.Children f (o ∷ os)) next e h = moved (with_child f os (child o o.children)) next (child_named f os (child o o.children) h.1) e
shut_named (state.After f) next e h = absurd (cc)

data_named : (s next : State) (text : InlineScript) → with_data s text.text text.first_line ≡ Some next → Named next
data_named state.Before next text e = absurd (cc)
data_named (state.Component f) next text e = absurd (cc)
data_named (state.Interface f) next text e = absurd (cc)
data_named (state.Member f k) next text e = absurd (cc)
data_named (state.Script f s) next text e = at s.inline e
  where
    at : (o : Option InlineScript) → added o f s text.text text.first_line ≡ Some next → Named next
    at None e = moved (state.Script f (record s { inline = Some text })) next tt e
    at (Some x) e = absurd (cc)
data_named (state.Children f os) next text e = absurd (cc)
data_named (state.After f) next text e = absurd (cc)

move_named : (s next : State) (m : Mark) → move s m ≡ Some next → NamedMark m → Named s → Named next
move_named s next (Open t place) e name h = open_named s next t place e name h
move_named s next (Close None) e name h = shut_named s next e h
move_named s next (Close (Some n)) e name h = elim (chosen (closes s n) (shut s) None (Some next) e) [
  | inl x ↦ shut_named s next x.1 h
  | inr x ↦ absurd (cc)
]
move_named s next (Data text) e name h = data_named s next text e
move_named s next Wrong e name h = absurd (cc)

pub run_named : (s next : State) (ms : List Mark) → run s ms ≡ Some next → NamedMarks ms → Named s → Named next
run_named s next [] e names h = moved s next h e
run_named s next (m ∷ ms) e names h =
    let b = bind_some (move s m) (λ z. run z ms) next e in
    run_named b.0 next ms b.2 names.1 (move_named s b.0 m b.1 names.0 h)

tag_named : (e : Bool) (t : Tag) (place : Place) (more : List Mark) → IsName t.name → NamedMarks more → NamedMarks (marks_of (opening_of e t) place ++ more)
tag_named true t place more name h = (name, (tt, h))
tag_named false t place more name h = (name, h)

text_named : (b : Bool) (place : Place) (more : List Mark) → NamedMarks more → NamedMarks (marks_of (text_of b) place ++ more)
text_named true place more h = h
text_named false place more h = (tt, h)

-- the marks of a piece, and more
piece_named : (w : Written) (place : Place) (more : List Mark) → IsWritten w → NamedMarks more → NamedMarks (marks_of (piece_of w) place ++ more)
piece_named (Declaration inside) place more good h = (tt, h)
piece_named (Comment inside) place more good h = h
piece_named (Section inside) place more good h = (tt, h)
piece_named (Opening t) place more good h = tag_named t.empty (tag_of t) place more (good.name, good.some_name) h
piece_named (Closing name space) place more good h = (tt, h)
piece_named (Between u) place more good h = text_named (list_all is_space u) place more h

marks_named : (text : List ℕ) (ws : List Written) (rest : List ℕ) (place : Place) → Cut text ws rest → NamedMarks (marks place ws)
marks_named text [] rest place cut = tt
marks_named text (w ∷ ws) rest place cut = piece_named w place _ cut.2 (marks_named cut.0 ws rest _ cut.4)

first_named : (v : Bool) (ms more : List Mark) → NamedMarks more → NamedMarks (ms ++ more) → NamedMarks (cond v [] ms ++ more)
first_named true ms more h g = h
first_named false ms more h g = g

text_marks_named : (text : List ℕ) (ws : List Written) (rest : List ℕ) (place : Place) → Cut text ws rest → NamedMarks (text_marks place ws)
text_marks_named text [] rest place cut = tt
text_marks_named text (w ∷ ws) rest place cut =
    let more = marks_named cut.0 ws rest (place_after place (spelled w)) cut.4 in
    first_named (is_declaration (piece_of w)) (marks_of (piece_of w) place) (marks (place_after place (spelled w)) ws) more (piece_named w place _ cut.2 more)

-- ---- the pieces that end what is open

abbrev name_end : List ℕ → Written
name_end n = Closing n []

abbrev child_ends : List OpenChild → List Written
child_ends [] = name_end (codes "children") ∷ (name_end (codes "component") ∷ [])
child_ends (o ∷ os) = name_end o.kind ∷ child_ends os

abbrev script_ends : Bool → List Written
script_ends true = name_end (codes "script") ∷ (name_end (codes "component") ∷ [])
script_ends false = Section [] ∷ (name_end (codes "script") ∷ (name_end (codes "component") ∷ []))

abbrev smallest : WrittenTag
smallest = record {
  name = codes "component";
  attributes = record { gap = codes " "; name = codes "name"; before = []; after = []; quote = 34; value = Plain 120 ∷ [] } ∷ [];
  space = [];
  empty = true;
}

abbrev pub ends : State → List Written
ends state.Before = Opening smallest ∷ []
ends (state.Component f) = name_end (codes "component") ∷ []
ends (state.Interface f) = name_end (codes "interface") ∷ (name_end (codes "component") ∷ [])
ends (state.Member f k) = name_end (member_name k) ∷ (name_end (codes "interface") ∷ (name_end (codes "component") ∷ []))
ends (state.Script f s) = script_ends (is_whole s)
ends (state.Children f os) = child_ends os
ends (state.After f) = []

-- a state from which the pieces lead to the end of a component file
pub record Ending (s : State) (ws : List Written) (place : Place) : Type 0 where
  pub file : ComponentFile
  pub leads : run s (marks place ws) ≡ Some (state.After file)

bytes_same : (a : List ℕ) → bytes_eq a a ≡ true
bytes_same [] = refl
bytes_same (x ∷ a) = and_both (nat_eq x x) (bytes_eq a a) (eq-eqb x x refl) (bytes_same a)

alike_itself : (a : List ℕ) → alike a a ≡ true
alike_itself a = bytes_same (str_to_ascii_lowercase a)

whole_inline : (s : ScriptElement) (d : InlineScript) → is_whole (record s { inline = Some d }) ≡ true
whole_inline s d = at s.uri
  where
    at : (o : Option (List ℕ)) → (is_some o || true) ≡ true
    at (Some x) = refl
    at None = refl

whole_true : (f : ComponentFile) (s : ScriptElement) (place : Place) → is_whole s ≡ true → Ending (state.Script f s) (script_ends true) place
whole_true f s place h =
    let next = state.Component (record f { scripts = f.scripts ++ s ∷ [] }) in
    record {
      file = record f { scripts = f.scripts ++ s ∷ [] };
      leads = same_moves (state.Script f s) next (Close (Some (codes "script"))) (marks (place_after place (spelled (name_end (codes "script")))) (name_end (codes "component") ∷ [])) _ (ap (λ z. cond z (Some next) None) h) refl;
    }

whole_ending : (f : ComponentFile) (s : ScriptElement) (place : Place) → is_whole s ≡ true → Ending (state.Script f s) (script_ends (is_whole s)) place
whole_ending f s place h = subst (λ z. Ending (state.Script f s) (script_ends z) place) (sym h) (whole_true f s place h)

empty_ending : (f : ComponentFile) (s : ScriptElement) (place : Place) → s.inline ≡ None → Ending (state.Script f s) (script_ends false) place
empty_ending f s place none =
    let d : InlineScript = record { text = []; first_line = place.line } in
    let filled = record s { inline = Some d } in
    let behind_ = place_after place (spelled (Section [])) in
    let more = whole_true f filled behind_ (whole_inline s d) in
    record {
      file = more.file;
      leads = same_moves (state.Script f s) (state.Script f filled) (Data d) (marks behind_ (script_ends true)) (Some (state.After more.file)) (ap (λ o. added o f s d.text d.first_line) none) more.leads;
    }

script_ending : (f : ComponentFile) (s : ScriptElement) (u : Option (List ℕ)) (i : Option InlineScript) (place : Place) → s.uri ≡ u → s.inline ≡ i → Ending (state.Script f s) (script_ends (is_whole s)) place
script_ending f s (Some x) i place e g = let h : is_whole s ≡ true = ap (λ z. is_some z || is_some s.inline) e in whole_ending f s place h
script_ending f s None (Some x) place e g = let h : is_whole s ≡ true = ap (λ z. is_some z || is_some s.inline) e ∙ ap (λ z. is_some z) g in whole_ending f s place h
script_ending f s None None place e g =
    let h : is_whole s ≡ false = ap (λ z. is_some z || is_some s.inline) e ∙ ap (λ z. is_some z) g in
    subst (λ z. Ending (state.Script f s) (script_ends z) place) (sym h) (empty_ending f s place g)

child_ending : (f : ComponentFile) (c : ChildElement) (os : List OpenChild) (place : Place) → Ending (with_child f os c) (child_ends os) place
child_ending f c [] place = record { file = _; leads = refl }
child_ending f c (o ∷ os) place =
    let p = record o { children = o.children ++ c ∷ [] } in
    let next = with_child f os (child p p.children) in
    let more = child_ending f (child p p.children) os (place_after place (spelled (name_end o.kind))) in
    record {
      file = more.file;
      leads = same_moves (state.Children f (p ∷ os)) next (Close (Some o.kind)) _ _ (ap (λ z. cond z (Some next) None) (alike_itself o.kind)) more.leads;
    }

pub ending : (s : State) (place : Place) → Ending s (ends s) place
unfolding header needed
ending state.Before place = record { file = _; leads = refl }
ending (state.Component f) place = record { file = _; leads = refl }
ending (state.Interface f) place = record { file = _; leads = refl }
ending (state.Member f kind.Field) place = record { file = _; leads = refl }
ending (state.Member f kind.Function) place = record { file = _; leads = refl }
ending (state.Script f s) place = script_ending f s s.uri s.inline place refl refl
ending (state.Children f []) place = record { file = _; leads = refl }
ending (state.Children f (o ∷ os)) place =
    let next = with_child f os (child o o.children) in
    let more = child_ending f (child o o.children) os (place_after place (spelled (name_end o.kind))) in
    record {
      file = more.file;
      leads = same_moves (state.Children f (o ∷ os)) next (Close (Some o.kind)) _ _ (ap (λ z. cond z (Some next) None) (alike_itself o.kind)) more.leads;
    }
ending (state.After f) place = record { file = _; leads = refl }

-- ---- they can be written

-- pieces that may stand before anything
abbrev Tags : List Written → Type 0
Tags [] = Unit {0}
Tags (w ∷ ws) = IsWritten w × ((rest : List ℕ) → MayPrecede w rest) × (MayStop (spelled w)) × Tags ws

end_written : (n : List ℕ) (more : List Written) → IsName n → Tags more → Tags (name_end n ∷ more)
unfolding differs
end_written n more name rest = ((name.0, name.1, refl), (λ r. tt), refl, rest)

fixed : (n : List ℕ) → list_all is_name_byte n ≡ true → (n ≡ [] → ⊥) → IsName n
fixed n a b = (a, b)

some : (b : ℕ) (bs : List ℕ) → b ∷ bs ≡ [] → ⊥
some b bs e = absurd (cc)

component_name : IsName (codes "component")
unfolding is_name_byte
component_name = (refl, some _ _)

interface_name : IsName (codes "interface")
unfolding is_name_byte
interface_name = (refl, some _ _)

field_name : IsName (codes "field")
unfolding is_name_byte
field_name = (refl, some _ _)

function_name : IsName (codes "function")
unfolding is_name_byte
function_name = (refl, some _ _)

script_name : IsName (codes "script")
unfolding is_name_byte
script_name = (refl, some _ _)

children_name : IsName (codes "children")
unfolding is_name_byte
children_name = (refl, some _ _)

last_written : Tags (name_end (codes "component") ∷ [])
last_written = end_written (codes "component") [] component_name tt

child_written : (os : List OpenChild) → NamedStack os → Tags (child_ends os)
child_written [] h = end_written (codes "children") (name_end (codes "component") ∷ []) children_name last_written
child_written (o ∷ os) h = end_written o.kind (child_ends os) h.0 (child_written os h.1)

utf8_nil : is_utf8 [] ≡ true
utf8_nil = name_utf8 [] refl

script_written : (b : Bool) → Tags (script_ends b)
unfolding differs
script_written true = end_written (codes "script") (name_end (codes "component") ∷ []) script_name last_written
script_written false = ((tt, utf8_nil), (λ r. tt), refl, end_written (codes "script") (name_end (codes "component") ∷ []) script_name last_written)

name_x : list_all is_name_byte (120 ∷ []) ≡ true
unfolding is_name_byte
name_x = refl

utf8_x : is_utf8 (120 ∷ []) ≡ true
utf8_x = name_utf8 (120 ∷ []) name_x

smallest_written : IsTag smallest
unfolding is_name_byte is_attribute_byte is_space is_quote differs
smallest_written = record {
  name = refl;
  some_name = some _ _;
  attributes = (record { gap = refl; some_gap = some _ _; name = refl; some_name = some _ _; before = refl; after = refl; quote = refl; value = refl; allowed = refl; utf8 = utf8_x }, tt);
  distinct = refl;
  space = refl;
}

ends_written : (s : State) → Named s → Tags (ends s)
unfolding differs
ends_written state.Before h = (smallest_written, (λ r. tt), refl, tt)
ends_written (state.Component f) h = last_written
ends_written (state.Interface f) h = end_written (codes "interface") (name_end (codes "component") ∷ []) interface_name last_written
ends_written (state.Member f kind.Field) h = end_written (codes "field") (name_end (codes "interface") ∷ (name_end (codes "component") ∷ [])) field_name (end_written (codes "interface") (name_end (codes "component") ∷ []) interface_name last_written)
ends_written (state.Member f kind.Function) h = end_written (codes "function") (name_end (codes "interface") ∷ (name_end (codes "component") ∷ [])) function_name (end_written (codes "interface") (name_end (codes "component") ∷ []) interface_name last_written)
ends_written (state.Script f s) h = script_written (is_whole s)
ends_written (state.Children f os) h = child_written os h
ends_written (state.After f) h = tt

tags_cut : (ws : List Written) → Tags ws → Cut (flat_map spelled ws) ws []
tags_cut [] h = refl
tags_cut (w ∷ ws) h = (flat_map spelled ws, refl, h.0, h.1 (flat_map spelled ws), tags_cut ws h.3)

stop_first : (u x y : List ℕ) → 0 < length u → MayStop (u ++ x) → MayStop (u ++ y)
stop_first [] x y some_ h = absurd (omega arith)
stop_first (b ∷ u) x y some_ h = h

tags_stop : (ws : List Written) → Tags ws → MayStop (flat_map spelled ws)
tags_stop [] h = tt
tags_stop (w ∷ ws) h = let e = append-nil (spelled w) in stop_first (spelled w) [] (flat_map spelled ws) (some_spelled w h.0) (subst MayStop (sym e) h.2)

precede_first : (w : Written) (u x y : List ℕ) → 0 < length u → MayPrecede w (u ++ x) → MayPrecede w (u ++ y)
precede_first (Declaration inside) u x y some_ h = tt
precede_first (Comment inside) u x y some_ h = tt
precede_first (Section inside) u x y some_ h = tt
precede_first (Opening t) u x y some_ h = tt
precede_first (Closing name space) u x y some_ h = tt
precede_first (Between text) u x y some_ h = stop_first u x y some_ h

precede_stop : (w : Written) (tail : List ℕ) → MayStop tail → MayPrecede w tail
precede_stop (Declaration inside) tail h = tt
precede_stop (Comment inside) tail h = tt
precede_stop (Section inside) tail h = tt
precede_stop (Opening t) tail h = tt
precede_stop (Closing name space) tail h = tt
precede_stop (Between text) tail h = h

-- pieces may be followed by others in place of what follows them
pub recut : (text : List ℕ) (ws : List Written) (rest tail : List ℕ) → Cut text ws rest → MayStop tail → Cut (flat_map spelled ws ++ tail) ws tail
recut text [] rest tail cut stop = refl
recut text (w ∷ []) rest tail cut stop = (tail, ap (λ z. z ++ tail) (append-nil (spelled w)), cut.2, precede_stop w tail stop, refl)
recut text (w ∷ v ∷ ws) rest tail cut stop =
    let more = recut cut.0 (v ∷ ws) rest tail cut.4 stop in
    let next = cut.4 in
    let shape = append_assoc (spelled v) (flat_map spelled ws) tail in
    let here = precede_first w (spelled v) next.0 (flat_map spelled ws ++ tail) (some_spelled v next.2) (subst (λ z. MayPrecede w z) next.1 cut.3) in
    (flat_map spelled (v ∷ ws) ++ tail, append_assoc (spelled w) (flat_map spelled (v ∷ ws)) tail, cut.2, subst (λ z. MayPrecede w z) (sym shape) here, more)

pub cut_append : (text : List ℕ) (a b : List Written) (mid rest : List ℕ) → Cut text a mid → Cut mid b rest → Cut text (a ++ b) rest
cut_append text [] b mid rest cut more = subst (λ z. Cut z b rest) (sym cut) more
cut_append text (w ∷ a) b mid rest cut more = (cut.0, cut.1, cut.2, cut.3, cut_append cut.0 a b mid rest cut.4 more)

-- a state to which the marks of pieces lead is on the way to a component file
marks_begin : (place : Place) (text : List ℕ) (w : Written) (ws : List Written) (rest : List ℕ) (s : State) → Cut text (w ∷ ws) rest → run state.Before (text_marks place (w ∷ ws)) ≡ Some s → Begins place (w ∷ ws)
marks_begin place text w ws rest s cut leads_ =
    let all_ = w ∷ ws in
    let more = ends s in
    let tail = flat_map spelled more in
    let tags = ends_written s (run_named state.Before s (text_marks place all_) leads_ (text_marks_named text all_ rest place cut) tt) in
    let whole = recut text all_ rest tail cut (tags_stop more tags) in
    let behind_ = place_after place (flat_map spelled all_) in
    let last = ending s behind_ in
    let ran = ap (run state.Before) (text_append place w ws more) ∙ runs_on state.Before s (state.After last.file) (text_marks place all_) (marks behind_ more) leads_ last.leads in
    record {
      text = flat_map spelled all_ ++ tail;
      rest = tail;
      file = last.file;
      cut = whole;
      good = record { pieces = all_ ++ more; cut = cut_append (flat_map spelled all_ ++ tail) all_ more tail [] whole (tags_cut more tags); file = runs_file (text_marks place (all_ ++ more)) last.file ran };
    }

-- pieces that lead anywhere begin a component file
pub begins : (place : Place) (text : List ℕ) (ws : List Written) (rest : List ℕ) (next : Progress) → Cut text ws rest → leads Start place ws ≡ Some next → Begins place ws
begins place text [] rest next cut e =
    let tags = ends_written state.Before tt in
    let last = ending state.Before place in
    let whole = flat_map spelled (ends state.Before) in
    record {
      text = whole;
      rest = whole;
      file = last.file;
      cut = refl;
      good = record { pieces = ends state.Before; cut = tags_cut (ends state.Before) tags; file = runs_file (text_marks place (ends state.Before)) last.file last.leads };
    }
begins place text (w ∷ ws) rest next cut e =
    let b = led_marks place w ws next e in
    marks_begin place text w ws rest b.0 cut b.1
