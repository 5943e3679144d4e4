-- What was read can be written.
use Rattle.std.proofs.Common.{◌≡◌, ℕ, zero, suc, Bool, true, false, not, cond, ◌||◌, inl, inr, List, [], ◌∷◌, ◌++◌, map, codes, Option, Some, None, refl, ap, sym, ◌∙◌, subst}
use Rattle.std.specs.List.{list_all}
use Rattle.xml_pieces.specs.declared.piece.AttributeText.{AttributeText}
use Rattle.xml_pieces.specs.declared.piece.Tag.{Tag}
use Rattle.xml_pieces.specs.Written.{is_space, has_name, is_empty, EndsFirst, AreAttributes, attribute_of, tag_of, opening_of, text_of, Written, Declaration, Comment, Section, Opening, Closing, Between, spelled, piece_of, IsWritten, Cut}
use Rattle.xml_pieces.proofs.Basics.{bind_some, chosen, and_parts, and_both, not_true, not_false}
use Rattle.component_files.specs.declared.place.Place.{Place}
use Rattle.component_files.specs.declared.element.ComponentFile.{ComponentFile}
use Rattle.component_files.specs.declared.element.FieldElement.{FieldElement}
use Rattle.component_files.specs.declared.element.FunctionElement.{FunctionElement}
use Rattle.component_files.specs.declared.element.InlineScript.{InlineScript}
use Rattle.component_files.specs.declared.element.ScriptElement.{ScriptElement}
use Rattle.component_files.specs.declared.element.ChildElement.{ChildElement, ChildElement-F}
use Rattle.component_files.specs.declared.element.ChildElement.TheViews.{out-roll-ChildElement}
use Rattle.component_files.specs.Places.{place_after}
use Rattle.component_files.specs.Elements.{same, alike, value_of, filled, needed, or_else, group, header, truth, field, function, has_alike, are_unlike, has_colon, without_colons}
use Rattle.component_files.specs.Steps.{is_declaration}
use Rattle.component_files.specs.ComponentGrammar.{Mark, Open, Close, Data, Wrong, marks_of, marks, text_marks, Each, Member, Field, Function, Members, with_member, with_members, data_marks, IsScript, Child, Part, Interface, Script, Children, Parts, with_part, with_parts, IsFile, IsText, IsComponent}
use Rattle.component_writer.proofs.Every.{Every, every_append, every_front, every_back}
use Rattle.component_writer.proofs.TagsLemmas.{IsName, IsValue, GoodAttribute, group_value}
use Rattle.component_writer.proofs.Good.{IsOptional, GoodField, GoodFunction, IsInline, GoodScript, IsGoodChild, GoodChild, GoodFile}

-- ---- marks of pieces that are written

abbrev GoodMark : Mark → Type 0
GoodMark (Open t place) = IsName t.name × Every GoodAttribute t.attributes
GoodMark (Close close) = Unit {0}
GoodMark (Data d) = EndsFirst (codes "]]>") d.text × IsValue d.text
GoodMark Wrong = Unit {0}

attributes_good : (as_ : List _) → AreAttributes as_ → Every GoodAttribute (map attribute_of as_)
attributes_good [] h = tt
attributes_good (a ∷ more) h = (record { name = h.0.name; some_name = h.0.some_name; value = h.0.utf8 }, attributes_good more h.1)

tag_good : (e : Bool) (t : Tag) (place : Place) (more : List Mark) → IsName t.name × Every GoodAttribute t.attributes → Every GoodMark more → Every GoodMark (marks_of (opening_of e t) place ++ more)
tag_good true t place more good h = (good, (tt, h))
tag_good false t place more good h = (good, h)

text_good : (b : Bool) (place : Place) (more : List Mark) → Every GoodMark more → Every GoodMark (marks_of (text_of b) place ++ more)
text_good true place more h = h
text_good false place more h = (tt, h)

piece_good : (w : Written) (place : Place) (more : List Mark) → IsWritten w → Every GoodMark more → Every GoodMark (marks_of (piece_of w) place ++ more)
piece_good (Declaration inside) place more good h = (tt, h)
piece_good (Comment inside) place more good h = h
piece_good (Section inside) place more good h = ((good.0, good.1), h)
piece_good (Opening t) place more good h = tag_good t.empty (tag_of t) place more ((good.name, good.some_name), attributes_good t.attributes good.attributes) h
piece_good (Closing name space) place more good h = (tt, h)
piece_good (Between u) place more good h = text_good (list_all is_space u) place more h

marks_good : (text : List ℕ) (ws : List Written) (rest : List ℕ) (place : Place) → Cut text ws rest → Every GoodMark (marks place ws)
marks_good text [] rest place cut = tt
marks_good text (w ∷ ws) rest place cut = piece_good w place _ cut.2 (marks_good cut.0 ws rest _ cut.4)

first_good : (v : Bool) (ms more : List Mark) → Every GoodMark more → Every GoodMark (ms ++ more) → Every GoodMark (cond v [] ms ++ more)
first_good true ms more h g = h
first_good false ms more h g = g

text_marks_good : (text : List ℕ) (ws : List Written) (rest : List ℕ) (place : Place) → Cut text ws rest → Every GoodMark (text_marks place ws)
text_marks_good text [] rest place cut = tt
text_marks_good text (w ∷ ws) rest place cut =
    let more = marks_good cut.0 ws rest (place_after place (spelled w)) cut.4 in
    first_good (is_declaration (piece_of w)) (marks_of (piece_of w) place) (marks (place_after place (spelled w)) ws) more (piece_good w place _ cut.2 more)

-- ---- what tags say

value_good : (all : List AttributeText) → Every GoodAttribute all → (name : List ℕ) → IsOptional (value_of all name)
value_good [] h name = tt
value_good (a ∷ more) h name = at (same a.name name) (value_good more h.1 name)
  where
    at : (b : Bool) → IsOptional (value_of more name) → IsOptional (cond b (Some a.value) (value_of more name))
    at true rest = h.0.value
    at false rest = rest

is_some : {A : Type 0} (x y : A) → Some x ≡ Some y → x ≡ y
is_some x y e = cc

filled_good : (o : Option (List ℕ)) (v : List ℕ) → IsOptional o → filled o ≡ Some v → (is_empty v ≡ false) × IsValue v
filled_good None v h e = absurd (cc)
filled_good (Some w) v h e = elim (chosen (is_empty w) None (Some w) (Some v) e) [
  | inl x ↦ absurd (cc)
  | inr x ↦
      let is = is_some w v x.1 in
      (ap is_empty (sym is) ∙ x.0, subst IsValue is h)
]

needed_good : (all : List AttributeText) (name v : List ℕ) → Every GoodAttribute all → needed all name ≡ Some v → (is_empty v ≡ false) × IsValue v
unfolding needed
needed_good all name v h e = filled_good (value_of all name) v (value_good all h name) e

field_good : (t : Tag) (place : Place) (e : FieldElement) → Every GoodAttribute t.attributes → field t place ≡ Some e → GoodField e
unfolding field
field_good t place e good says =
    let a = bind_some (needed t.attributes (codes "id")) _ e says in
    let b = bind_some (needed t.attributes (codes "type")) _ e a.2 in
    let c = bind_some (truth (value_of t.attributes (codes "alwaysNotify"))) _ e b.2 in
    let id = needed_good t.attributes (codes "id") a.0 good a.1 in
    let word = needed_good t.attributes (codes "type") b.0 good b.1 in
    elim (chosen (has_name t.attributes (codes "alias")) None _ (Some e) c.2) [
      | inl x ↦ absurd (cc)
      | inr x ↦ subst GoodField (is_some _ e x.1) (record {
        id = id.0;
        id_value = id.1;
        word = word.0;
        word_value = word.1;
        value = value_good t.attributes good (codes "value");
        on_change = value_good t.attributes good (codes "onChange");
      })
    ]

function_good : (t : Tag) (place : Place) (e : FunctionElement) → Every GoodAttribute t.attributes → function t place ≡ Some e → GoodFunction e
unfolding function
function_good t place e good says =
    let a = bind_some (needed t.attributes (codes "name")) _ e says in
    let name = needed_good t.attributes (codes "name") a.0 good a.1 in
    subst GoodFunction (is_some _ e a.2) (record { name = name.0; value = name.1 })

or_good : (o : Option (List ℕ)) → IsOptional o → IsValue (or_else o group)
or_good None h = group_value
or_good (Some v) h = h

header_good : (t : Tag) (place : Place) (f : ComponentFile) → Every GoodAttribute t.attributes → header t place ≡ Some f → GoodFile f
unfolding header
header_good t place f good says =
    let a = bind_some (needed t.attributes (codes "name")) _ f says in
    let name = needed_good t.attributes (codes "name") a.0 good a.1 in
    subst GoodFile (is_some _ f a.2) (record {
      name = name.0;
      name_value = name.1;
      extends_value = or_good (value_of t.attributes (codes "extends")) (value_good t.attributes good (codes "extends"));
      fields = tt;
      functions = tt;
      scripts = tt;
      children = tt;
    })

-- ---- elements

each_good : {A : Type 0} (r : List Mark → A → Type 0) (P : A → Type 0) → ((ms : List Mark) (x : A) → Every GoodMark ms → r ms x → P x)
    → (xs : List A) (ms : List Mark) → Every GoodMark ms → Each r ms xs → Every P xs
each_good r P one [] ms good h = tt
each_good r P one (x ∷ xs) ms good h =
    let split = subst (Every GoodMark) h.2 good in
    (one h.0 x (every_front GoodMark h.0 h.1 split) h.3, each_good r P one xs h.1 (every_back GoodMark h.0 h.1 split) h.4)

abbrev GoodMember : Member → Type 0
GoodMember (Field e) = GoodField e
GoodMember (Function e) = GoodFunction e

member_good : (ms : List Mark) (m : Member) → Every GoodMark ms → Members ms m → GoodMember m
member_good ms (Field e) good h = field_good h.tag h.place e (subst (Every GoodMark) h.cut good).0.1 h.says
member_good ms (Function e) good h = function_good h.tag h.place e (subst (Every GoodMark) h.cut good).0.1 h.says

inline_good : (o : Option InlineScript) (more : List Mark) → Every GoodMark (data_marks o ++ more) → IsInline o
inline_good None more h = tt
inline_good (Some d) more h = h.0

script_good : (ms : List Mark) (s : ScriptElement) → Every GoodMark ms → IsScript ms s → GoodScript s
script_good ms s good h =
    let marks_ = subst (Every GoodMark) h.cut good in
    record {
      uri = subst (λ z. IsOptional z.uri) (sym h.says) (value_good h.tag.attributes marks_.0.1 (codes "uri"));
      inline = subst (λ z. IsInline z.inline) (sym h.says) (inline_good h.inline (Close h.close ∷ []) marks_.1);
      whole = h.whole;
    }

-- ---- children

plain_attributes : (all : List AttributeText) → without_colons (without_colons all) ≡ without_colons all
plain_attributes [] = refl
plain_attributes (a ∷ more) = at (has_colon a.name) refl (plain_attributes more)
  where
    at : (b : Bool) → has_colon a.name ≡ b → without_colons (without_colons more) ≡ without_colons more
        → without_colons (cond b (without_colons more) (a ∷ without_colons more)) ≡ cond b (without_colons more) (a ∷ without_colons more)
    at true e rest = rest
    at false e rest = ap (λ b. cond b (without_colons (without_colons more)) (a ∷ without_colons (without_colons more))) e ∙ ap (λ z. a ∷ z) rest

kept_good : (all : List AttributeText) → Every GoodAttribute all → Every GoodAttribute (without_colons all)
kept_good [] h = tt
kept_good (a ∷ more) h = at (has_colon a.name) (kept_good more h.1)
  where
    at : (b : Bool) → Every GoodAttribute (without_colons more) → Every GoodAttribute (cond b (without_colons more) (a ∷ without_colons more))
    at true rest = rest
    at false rest = (h.0, rest)

fewer_alike : (all : List AttributeText) (name : List ℕ) → has_alike all name ≡ false → has_alike (without_colons all) name ≡ false
fewer_alike [] name h = refl
fewer_alike (a ∷ more) name h =
    let both = neither (alike a.name name) (has_alike more name) h in
    at (has_colon a.name) both.0 (fewer_alike more name both.1)
  where
    neither : (x y : Bool) → (x || y) ≡ false → (x ≡ false) × (y ≡ false)
    neither true y e = absurd (cc)
    neither false y e = (refl, e)

    at : (b : Bool) → alike a.name name ≡ false → has_alike (without_colons more) name ≡ false
        → has_alike (cond b (without_colons more) (a ∷ without_colons more)) name ≡ false
    at true e rest = rest
    at false e rest = ap (λ z. z || has_alike (without_colons more) name) e ∙ rest

still_unlike : (all : List AttributeText) → are_unlike all ≡ true → are_unlike (without_colons all) ≡ true
still_unlike [] h = refl
still_unlike (a ∷ more) h =
    let both = and_parts (not (has_alike more a.name)) (are_unlike more) h in
    at (has_colon a.name) (fewer_alike more a.name (not_true (has_alike more a.name) both.0)) (still_unlike more both.1)
  where
    at : (b : Bool) → has_alike (without_colons more) a.name ≡ false → are_unlike (without_colons more) ≡ true
        → are_unlike (cond b (without_colons more) (a ∷ without_colons more)) ≡ true
    at true e rest = rest
    at false e rest = and_both (not (has_alike (without_colons more) a.name)) (are_unlike (without_colons more)) (not_false (has_alike (without_colons more) a.name) e) rest

child_good : (n : ℕ) (ms : List Mark) (c : ChildElement) → Every GoodMark ms → Child n ms c → GoodChild n c
unfolding Child GoodChild
child_good zero ms c good h = h
child_good (suc n) ms c good h =
    let marks_ = subst (Every GoodMark) h.cut good in
    let r : ChildElement-F ChildElement = record { kind = h.tag.name; attributes = without_colons h.tag.attributes; children = h.children; line = h.place.line; column = h.place.column } in
    subst (GoodChild (suc n)) (sym h.says) (subst (IsGoodChild (GoodChild n)) (sym (out-roll-ChildElement r)) (record {
      kind = marks_.0.0;
      attributes = kept_good h.tag.attributes marks_.0.1;
      plain = plain_attributes h.tag.attributes;
      unlike = still_unlike h.tag.attributes h.distinct;
      children = each_good (Child n) (GoodChild n) (child_good n) h.children h.body (every_front GoodMark h.body (Close h.close ∷ []) marks_.1) h.inside;
    }))

-- ---- parts

abbrev GoodPart : Part → Type 0
GoodPart (Interface members) = Every GoodMember members
GoodPart (Script s) = GoodScript s
GoodPart (Children cs) = Every (GoodChild 64) cs

part_good : (ms : List Mark) (p : Part) → Every GoodMark ms → Parts ms p → GoodPart p
part_good ms (Interface members) good h =
    each_good Members GoodMember member_good members h.body (every_front GoodMark h.body (Close h.close ∷ []) (subst (Every GoodMark) h.cut good).1) h.inside
part_good ms (Script s) good h = script_good ms s good h
part_good ms (Children cs) good h =
    each_good (Child 64) (GoodChild 64) (child_good 64) cs h.body (every_front GoodMark h.body (Close h.close ∷ []) (subst (Every GoodMark) h.cut good).1) h.inside

with_member_good : (f : ComponentFile) (m : Member) → GoodFile f → GoodMember m → GoodFile (with_member f m)
with_member_good f (Field e) h k = record {
  name = h.name;
  name_value = h.name_value;
  extends_value = h.extends_value;
  fields = every_append GoodField f.fields (e ∷ []) h.fields (k, tt);
  functions = h.functions;
  scripts = h.scripts;
  children = h.children;
}
with_member_good f (Function e) h k = record {
  name = h.name;
  name_value = h.name_value;
  extends_value = h.extends_value;
  fields = h.fields;
  functions = every_append GoodFunction f.functions (e ∷ []) h.functions (k, tt);
  scripts = h.scripts;
  children = h.children;
}

with_members_good : (ms : List Member) (f : ComponentFile) → GoodFile f → Every GoodMember ms → GoodFile (with_members f ms)
with_members_good [] f h k = h
with_members_good (m ∷ more) f h k = with_members_good more (with_member f m) (with_member_good f m h k.0) k.1

with_part_good : (f : ComponentFile) (p : Part) → GoodFile f → GoodPart p → GoodFile (with_part f p)
with_part_good f (Interface members) h k = with_members_good members f h k
with_part_good f (Script s) h k = record {
  name = h.name;
  name_value = h.name_value;
  extends_value = h.extends_value;
  fields = h.fields;
  functions = h.functions;
  scripts = every_append GoodScript f.scripts (s ∷ []) h.scripts (k, tt);
  children = h.children;
}
with_part_good f (Children cs) h k = record {
  name = h.name;
  name_value = h.name_value;
  extends_value = h.extends_value;
  fields = h.fields;
  functions = h.functions;
  scripts = h.scripts;
  children = every_append (GoodChild 64) f.children cs h.children k;
}

with_parts_good : (ps : List Part) (f : ComponentFile) → GoodFile f → Every GoodPart ps → GoodFile (with_parts f ps)
with_parts_good [] f h k = h
with_parts_good (p ∷ more) f h k = with_parts_good more (with_part f p) (with_part_good f p h k.0) k.1

file_good : (ms : List Mark) (f : ComponentFile) → Every GoodMark ms → IsFile ms f → GoodFile f
file_good ms f good h =
    let marks_ = subst (Every GoodMark) h.cut good in
    let parts = each_good Parts GoodPart part_good h.parts h.body (every_front GoodMark h.body (Close h.close ∷ []) marks_.1) h.inside in
    subst GoodFile (sym h.says) (with_parts_good h.parts h.head (header_good h.tag h.place h.head marks_.0.1 h.heads) parts)

text_good_file : (place : Place) (text : List ℕ) (f : ComponentFile) → IsText place text f → GoodFile f
text_good_file place text f h = file_good (text_marks place h.pieces) f (text_marks_good text h.pieces [] place h.cut) h.file

-- each file that was read can be written
pub component_good : (bytes : List ℕ) (f : ComponentFile) → IsComponent bytes f → GoodFile f
component_good bytes f h = text_good_file _ _ f h
