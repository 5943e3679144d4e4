-- What is written is read as the same file.
use Rattle.std.proofs.Common.{◌≡◌, ℕ, zero, suc, Bool, true, false, cond, ◌||◌, List, [], ◌∷◌, ◌++◌, map, codes, Option, Some, None, refl, ap, sym, ◌∙◌, subst, append_assoc, append-nil}
use Rattle.std.specs.List.{flat_map}
use Rattle.std.specs.Option.{option_map}
use Rattle.std.specs.Prelude.{not}
use Rattle.std.specs.Str.{str_to_ascii_lowercase}
use Rattle.std.proofs.lemmas.Slice.Eq.{bytes_eq-Decides}
use Rattle.xml_pieces.specs.declared.piece.AttributeText.{AttributeText}
use Rattle.xml_pieces.specs.declared.piece.Tag.{Tag}
use Rattle.xml_pieces.specs.Written.{has_name, is_empty, are_distinct, Written, spelled, tag_of, strip}
use Rattle.xml_pieces.proofs.Basics.{and_parts, and_both, not_true, not_false}
use Rattle.component_files.specs.declared.place.Place.{Place}
use Rattle.component_files.specs.declared.element.ComponentFile.{ComponentFile}
use Rattle.component_files.specs.declared.element.FieldElement.{FieldElement}
use Rattle.component_files.specs.declared.element.FunctionElement.{FunctionElement}
use Rattle.component_files.specs.declared.element.InlineScript.{InlineScript}
use Rattle.component_files.specs.declared.element.ScriptElement.{ScriptElement}
use Rattle.component_files.specs.declared.element.ChildElement.{ChildElement, out-ChildElement, roll-ChildElement}
use Rattle.component_files.specs.Places.{place_after}
use Rattle.component_files.specs.Elements.{same, alike, value_of, needed, header, truth, field, function, script, is_whole, has_alike, are_unlike, without_colons, child, opening_child}
use Rattle.component_files.specs.ComponentGrammar.{Mark, Open, Close, marks, Each, IsEmpty, Member, Field, Function, Members, with_members, data_marks, IsScript, Child, IsPart, Part, Interface, Script, Children, Parts, with_parts, IsFile}
use Rattle.component_files.proofs.Leads.{marks_append}
use Rattle.component_files.proofs.Said.{field_said}
use Rattle.component_writer.specs.Aside.{aside, aside_field, aside_function, aside_inline, aside_script, aside_child, ReadsAs}
use Rattle.component_writer.specs.Spelling.{attribute_text, optional, written_tag, start, empty, end, truth_word, field_attributes, field_pieces, function_attributes, function_pieces, member_pieces, around, interface_pieces, inline_pieces, script_pieces, start_piece, end_piece, child_pieces, children_pieces, children_part, header_attributes, body_pieces, file_pieces}
use Rattle.component_writer.proofs.Every.{Every, every_append}
use Rattle.component_writer.proofs.TagsLemmas
use Rattle.component_writer.proofs.TagsLemmas.{IsName, IsValue, GoodAttribute, written_tag_is, said, same_tag, same_attributes, AreTags, tags_cut, tags_append, tags_each}
use Rattle.component_writer.proofs.Good.{IsOptional, GoodField, GoodFunction, IsInline, GoodScript, GoodChild, GoodFile}
use Rattle.component_writer.proofs.AsideLemmas.{aside_of, aside_made}

-- ---- names

same_itself : (a : List ℕ) → same a a ≡ true
same_itself a = (bytes_eq-Decides a a).1 refl

alike_itself : (a : List ℕ) → alike a a ≡ true
alike_itself a = same_itself (str_to_ascii_lowercase a)

are_alike : (a b : List ℕ) → same a b ≡ true → alike a b ≡ true
are_alike a b e = ap (λ z. alike z b) ((bytes_eq-Decides a b).0 e) ∙ alike_itself b

no_name : (all : List AttributeText) (name : List ℕ) → has_alike all name ≡ false → has_name all name ≡ false
no_name [] name h = refl
no_name (a ∷ more) name h = at (same a.name name) refl (alike a.name name) refl h (no_name more name)
  where
    at : (x : Bool) → same a.name name ≡ x → (y : Bool) → alike a.name name ≡ y → (y || has_alike more name) ≡ false
        → (has_alike more name ≡ false → has_name more name ≡ false) → (x || has_name more name) ≡ false
    at true e true f h rest = absurd (cc)
    at true e false f h rest = let g = are_alike a.name name e in absurd (cc)
    at false e true f h rest = absurd (cc)
    at false e false f h rest = rest h

unlike_distinct : (all : List AttributeText) → are_unlike all ≡ true → are_distinct all ≡ true
unlike_distinct [] h = refl
unlike_distinct (a ∷ more) h =
    let both = and_parts (not (has_alike more a.name)) (are_unlike more) h in
    and_both (not (has_name more a.name)) (are_distinct more)
    (not_false (has_name more a.name) (no_name more a.name (not_true (has_alike more a.name) both.0))) (unlike_distinct more both.1)

-- ---- elements with others inside

behind_start : Place → List ℕ → List AttributeText → Place
behind_start place name all = place_after place (spelled (start name all))

around_marks : (place : Place) (name : List ℕ) (all : List AttributeText) (inside : List Written)
    → marks place (around name all inside) ≡ Open (tag_of (written_tag name all false)) place ∷ (marks (behind_start place name all) inside ++ Close (Some name) ∷ [])
unfolding behind_start
around_marks place name all inside =
    ap (λ ms. Open (tag_of (written_tag name all false)) place ∷ ms) (marks_append (place_after place (spelled (start name all))) inside (end name ∷ []))

part_again : (A : Type 0) (name : List ℕ) (inner : List Mark → A → Type 0) (place : Place) (ws : List Written) (xs : List A)
    → Each inner (marks (behind_start place name []) ws) xs → IsPart A name inner (marks place (around name [] ws)) xs
part_again A name inner place ws xs inside = record {
  tag = tag_of (written_tag name [] false);
  place = place;
  body = marks (behind_start place name []) ws;
  close = Some name;
  cut = around_marks place name [] ws;
  begins = same_itself name;
  named = same_itself name;
  inside = inside;
}

-- ---- one after another

each_append : {A : Type 0} (r : List Mark → A → Type 0) (a b : List Mark) (xs ys : List A) → Each r a xs → Each r b ys → Each r (a ++ b) (xs ++ ys)
each_append r a b [] ys h k = subst (λ z. Each r (z ++ b) ys) (sym h) k
each_append r a b (x ∷ xs) ys h k =
    (h.0, h.1 ++ b, ap (λ z. z ++ b) h.2 ∙ append_assoc h.0 h.1 b, h.3, each_append r h.1 b xs ys h.4 k)

each_again : {A : Type 0} (r : List Mark → A → Type 0) {B : Type 0} (flat : A → B) (f : A → List Written) (P : A → Type 0)
    → ((place : Place) (x : A) → P x → (y : A) × r (marks place (f x)) y × (flat y ≡ flat x))
    → (xs : List A) (place : Place) → Every P xs → (ys : List A) × Each r (marks place (flat_map f xs)) ys × (map flat ys ≡ map flat xs)
each_again r flat f P one [] place h = ([], refl, refl)
each_again r flat f P one (x ∷ xs) place h =
    let first = one place x h.0 in
    let behind = place_after place (flat_map spelled (f x)) in
    let rest = each_again r flat f P one xs behind h.1 in (
      first.0 ∷ rest.0,
      (marks place (f x), marks behind (flat_map f xs), marks_append place (f x) (flat_map f xs), first.1, rest.1),
      ap (λ z. z ∷ map flat rest.0) first.2 ∙ ap (λ z. flat x ∷ z) rest.2,
    )

each_map : {A B : Type 0} (r : List Mark → B → Type 0) (to : A → B) (xs : List A) (ms : List Mark) → Each (λ ns x. r ns (to x)) ms xs → Each r ms (map to xs)
each_map r to [] ms h = h
each_map r to (x ∷ xs) ms h = (h.0, h.1, h.2, h.3, each_map r to xs h.1 h.4)

-- ---- members

optional_good : (name : List ℕ) → ((v : List ℕ) → IsValue v → GoodAttribute (attribute_text name v)) → (o : Option (List ℕ)) → IsOptional o → Every GoodAttribute (optional name o)
optional_good name one None h = tt
optional_good name one (Some v) h = (one v h, tt)

word_value : (b : Bool) → IsValue (truth_word b)
word_value true = TagsLemmas.true_value
word_value false = TagsLemmas.false_value

field_good : (e : FieldElement) → GoodField e → Every GoodAttribute (field_attributes e)
field_good e h = (
  TagsLemmas.id_good e.id h.id_value,
  (
    TagsLemmas.type_good e.word h.word_value,
    (
      TagsLemmas.always_good (truth_word e.always) (word_value e.always),
      every_append GoodAttribute (optional (codes "value") e.value) (optional (codes "onChange") e.on_change)
          (optional_good (codes "value") TagsLemmas.value_good e.value h.value) (optional_good (codes "onChange") TagsLemmas.on_change_good e.on_change h.on_change),
    ),
  ),
)

abbrev field_of : List ℕ → List ℕ → Bool → Option (List ℕ) → Option (List ℕ) → List AttributeText
field_of id word always value on_change =
    attribute_text (codes "id") id ∷ attribute_text (codes "type") word ∷ attribute_text (codes "alwaysNotify") (truth_word always)
    ∷ (optional (codes "value") value ++ optional (codes "onChange") on_change)

field_distinct : (id word : List ℕ) (always : Bool) (value on_change : Option (List ℕ)) → are_distinct (field_of id word always value on_change) ≡ true
field_distinct id word always None None = refl
field_distinct id word always None (Some c) = refl
field_distinct id word always (Some v) None = refl
field_distinct id word always (Some v) (Some c) = refl

no_alias : (id word : List ℕ) (always : Bool) (value on_change : Option (List ℕ)) → has_name (field_of id word always value on_change) (codes "alias") ≡ false
no_alias id word always None None = refl
no_alias id word always None (Some c) = refl
no_alias id word always (Some v) None = refl
no_alias id word always (Some v) (Some c) = refl

value_is : (id word : List ℕ) (always : Bool) (value on_change : Option (List ℕ)) → value ≡ value_of (field_of id word always value on_change) (codes "value")
value_is id word always None None = refl
value_is id word always None (Some c) = refl
value_is id word always (Some v) None = refl
value_is id word always (Some v) (Some c) = refl

on_change_is : (id word : List ℕ) (always : Bool) (value on_change : Option (List ℕ)) → on_change ≡ value_of (field_of id word always value on_change) (codes "onChange")
on_change_is id word always None None = refl
on_change_is id word always None (Some c) = refl
on_change_is id word always (Some v) None = refl
on_change_is id word always (Some v) (Some c) = refl

truth_is : (b : Bool) → truth (Some (truth_word b)) ≡ Some b
truth_is true = refl
truth_is false = refl

needed_first : (v : List ℕ) → is_empty v ≡ false → cond (is_empty v) None (Some v) ≡ Some v
needed_first v h = ap (λ b. cond b None (Some v)) h

needed_id : (id : List ℕ) (more : List AttributeText) → is_empty id ≡ false → needed (attribute_text (codes "id") id ∷ more) (codes "id") ≡ Some id
unfolding needed
needed_id id more h = needed_first id h

needed_type : (id word : List ℕ) (more : List AttributeText) → is_empty word ≡ false → needed (attribute_text (codes "id") id ∷ attribute_text (codes "type") word ∷ more) (codes "type") ≡ Some word
unfolding needed
needed_type id word more h = needed_first word h

needed_name : (name : List ℕ) (more : List AttributeText) → is_empty name ≡ false → needed (attribute_text (codes "name") name ∷ more) (codes "name") ≡ Some name
unfolding needed
needed_name name more h = needed_first name h

field_says : (place : Place) (e : FieldElement) → GoodField e → field (said (codes "field") (field_attributes e)) place ≡ Some (record e { line = place.line; column = place.column })
field_says place e h =
    field_said (said (codes "field") (field_attributes e)) place (field_attributes e) e.id e.word (Some (truth_word e.always)) e.value e.on_change e.always refl
    (needed_id e.id _ h.id) (needed_type e.id e.word _ h.word) refl (truth_is e.always)
    (no_alias e.id e.word e.always e.value e.on_change) (value_is e.id e.word e.always e.value e.on_change) (on_change_is e.id e.word e.always e.value e.on_change)

empty_again : (A : Type 0) (name : List ℕ) (says : Tag → Place → Option A) (place : Place) (all : List AttributeText) (x : A)
    → says (said name all) place ≡ Some x → IsEmpty A name says (marks place (empty name all ∷ [])) x
empty_again A name says place all x h = record {
  tag = tag_of (written_tag name all true);
  place = place;
  close = None;
  cut = refl;
  begins = same_itself name;
  named = refl;
  says = ap (λ t. says t place) (same_tag name all true) ∙ h;
}

field_again : (place : Place) (e : FieldElement) → GoodField e → (x : FieldElement) × Members (marks place (field_pieces e)) (Field x) × (aside_field x ≡ aside_field e)
unfolding field_pieces
field_again place e h = (
  record e { line = place.line; column = place.column },
  empty_again FieldElement (codes "field") field place (field_attributes e) (record e { line = place.line; column = place.column }) (field_says place e h),
  refl,
)

function_says : (place : Place) (e : FunctionElement) → GoodFunction e → function (said (codes "function") (function_attributes e)) place ≡ Some (record e { line = place.line; column = place.column })
unfolding function
function_says place e h = rw (needed_name e.name [] h.name) refl

function_again : (place : Place) (e : FunctionElement) → GoodFunction e → (x : FunctionElement) × Members (marks place (function_pieces e)) (Function x) × (aside_function x ≡ aside_function e)
unfolding function_pieces
function_again place e h = (
  record e { line = place.line; column = place.column },
  empty_again FunctionElement (codes "function") function place (function_attributes e) (record e { line = place.line; column = place.column }) (function_says place e h),
  refl,
)

-- ---- scripts

written_inline : Place → Option InlineScript → Option InlineScript
written_inline place None = None
written_inline place (Some d) = Some (record { text = d.text; first_line = place.line })

inline_marks : (place : Place) (o : Option InlineScript) → marks place (inline_pieces o) ≡ data_marks (written_inline place o)
unfolding written_inline
inline_marks place None = refl
inline_marks place (Some d) = refl

inline_aside : (place : Place) (o : Option InlineScript) → option_map aside_inline (written_inline place o) ≡ option_map aside_inline o
unfolding written_inline
inline_aside place None = refl
inline_aside place (Some d) = refl

whole_inline : (place : Place) (u : Option (List ℕ)) (o : Option InlineScript) (line column : ℕ)
    → is_whole (record { uri = u; inline = o; line = line; column = column }) ≡ true
    → (at : Place) → is_whole (record { uri = u; inline = written_inline place o; line = at.line; column = at.column }) ≡ true
unfolding written_inline
whole_inline place u None line column h at = h
whole_inline place (Some v) (Some d) line column h at = refl
whole_inline place None (Some d) line column h at = refl

uri_said : (u : Option (List ℕ)) → value_of (optional (codes "uri") u) (codes "uri") ≡ u
uri_said None = refl
uri_said (Some v) = refl

script_again : (place : Place) (s : ScriptElement) → GoodScript s → (x : ScriptElement) × IsScript (marks place (script_pieces s)) x × (aside_script x ≡ aside_script s)
unfolding script_pieces
script_again place s h =
    let all : List AttributeText = optional (codes "uri") s.uri in
    let behind : Place = behind_start place (codes "script") all in
    let inline : Option InlineScript = written_inline behind s.inline in
    let tag : Tag = tag_of (written_tag (codes "script") all false) in (
      record { uri = s.uri; inline = inline; line = place.line; column = place.column },
      record {
        tag = tag;
        place = place;
        inline = inline;
        close = Some (codes "script");
        cut = around_marks place (codes "script") all (inline_pieces s.inline) ∙ ap (λ z. Open tag place ∷ (z ++ Close (Some (codes "script")) ∷ [])) (inline_marks behind s.inline);
        begins = same_itself (codes "script");
        named = same_itself (codes "script");
        says = ap (λ u. record { uri = u; inline = inline; line = place.line; column = place.column }) (sym (uri_said s.uri))
            ∙ ap (λ t. record (script t place) { inline = inline }) (sym (same_tag (codes "script") all false));
        whole = whole_inline behind s.uri s.inline s.line s.column h.whole place;
      },
      ap (λ z. record { uri = s.uri; inline = z; line = 0; column = 0 }) (inline_aside behind s.inline),
    )

-- ---- children

child_again : (n : ℕ) → ((cs : List ChildElement) (place : Place) → Every (GoodChild n) cs → (ys : List ChildElement) × Each (Child n) (marks place (children_pieces n cs)) ys × (map aside_child ys ≡ map aside_child cs))
    → (place : Place) (c : ChildElement) → GoodChild (suc n) c → (y : ChildElement) × Child (suc n) (marks place (child_pieces (children_pieces n) c)) y × (aside_child y ≡ aside_child c)
unfolding Child GoodChild start_piece end_piece
child_again n inner place c h =
    let kind : List ℕ = (out-ChildElement c).kind in
    let all : List AttributeText = (out-ChildElement c).attributes in
    let tag : Tag = tag_of (written_tag kind all false) in
    let ys = inner (out-ChildElement c).children (behind_start place kind all) h.children in
    let y : ChildElement = child (opening_child tag place) ys.0 in (
      y,
      record {
        tag = tag;
        place = place;
        body = marks (behind_start place kind all) (children_pieces n (out-ChildElement c).children);
        children = ys.0;
        close = Some kind;
        cut = around_marks place kind all (children_pieces n (out-ChildElement c).children);
        distinct = subst (λ z. are_unlike z ≡ true) (sym (same_attributes all)) h.unlike;
        named = alike_itself kind;
        inside = ys.1;
        says = refl;
      },
      aside_made (record { kind = kind; attributes = without_colons (tag.attributes); children = ys.0; line = place.line; column = place.column })
          ∙ ap (λ z. roll-ChildElement (record { kind = kind; attributes = without_colons z; children = map aside_child ys.0; line = 0; column = 0 })) (same_attributes all)
          ∙ ap (λ z. roll-ChildElement (record { kind = kind; attributes = z; children = map aside_child ys.0; line = 0; column = 0 })) h.plain
          ∙ ap (λ z. roll-ChildElement (record { kind = kind; attributes = all; children = z; line = 0; column = 0 })) ys.2
          ∙ sym (aside_of c),
    )

children_again : (n : ℕ) (cs : List ChildElement) (place : Place) → Every (GoodChild n) cs
    → (ys : List ChildElement) × Each (Child n) (marks place (children_pieces n cs)) ys × (map aside_child ys ≡ map aside_child cs)
unfolding children_pieces GoodChild
children_again zero [] place h = ([], refl, refl)
children_again zero (c ∷ cs) place h = absurd h.0
children_again (suc n) cs place h = each_again (Child (suc n)) aside_child (child_pieces (children_pieces n)) (GoodChild (suc n)) (child_again n (children_again n)) cs place h

-- ---- pieces that can be written

around_tags : (name : List ℕ) (all : List AttributeText) (inside : List Written) → IsName name → Every GoodAttribute all → are_distinct all ≡ true → AreTags inside → AreTags (around name all inside)
around_tags name all inside named good distinct tags =
    (written_tag_is name all false named good distinct, (λ r. tt), tags_append inside (end name ∷ []) tags ((named.0, named.1, refl), (λ r. tt), tt))

field_tags : (e : FieldElement) → GoodField e → AreTags (field_pieces e)
unfolding field_pieces
field_tags e h =
    (written_tag_is (codes "field") (field_attributes e) true TagsLemmas.field_name (field_good e h) (field_distinct e.id e.word e.always e.value e.on_change), (λ r. tt), tt)

function_tags : (e : FunctionElement) → GoodFunction e → AreTags (function_pieces e)
unfolding function_pieces
function_tags e h = (written_tag_is (codes "function") (function_attributes e) true TagsLemmas.function_name (TagsLemmas.name_good e.name h.value, tt) refl, (λ r. tt), tt)

uri_distinct : (u : Option (List ℕ)) → are_distinct (optional (codes "uri") u) ≡ true
uri_distinct None = refl
uri_distinct (Some v) = refl

inline_tags : (o : Option InlineScript) → IsInline o → AreTags (inline_pieces o)
inline_tags None h = tt
inline_tags (Some d) h = (h, (λ r. tt), tt)

script_tags : (s : ScriptElement) → GoodScript s → AreTags (script_pieces s)
unfolding script_pieces
script_tags s h =
    around_tags (codes "script") (optional (codes "uri") s.uri) (inline_pieces s.inline) TagsLemmas.script_name
    (optional_good (codes "uri") TagsLemmas.uri_good s.uri h.uri) (uri_distinct s.uri) (inline_tags s.inline h.inline)

children_tags : (n : ℕ) (cs : List ChildElement) → Every (GoodChild n) cs → AreTags (children_pieces n cs)
unfolding children_pieces GoodChild start_piece end_piece
children_tags zero cs h = tt
children_tags (suc n) cs h =
    tags_each (GoodChild (suc n)) (child_pieces (children_pieces n))
    (λ c k. around_tags (out-ChildElement c).kind (out-ChildElement c).attributes (children_pieces n (out-ChildElement c).children)
    k.kind k.attributes (unlike_distinct (out-ChildElement c).attributes k.unlike) (children_tags n (out-ChildElement c).children k.children)) cs h

file_tags : (f : ComponentFile) → GoodFile f → AreTags (file_pieces f)
unfolding file_pieces interface_pieces children_part
file_tags f h =
    around_tags (codes "component") (header_attributes f) (body_pieces f) TagsLemmas.component_name
    (TagsLemmas.name_good f.name h.name_value, (TagsLemmas.extends_good f.extends h.extends_value, tt)) refl
    (tags_append (interface_pieces f) (flat_map script_pieces f.scripts ++ children_part f.children)
    (around_tags (codes "interface") [] (member_pieces f) TagsLemmas.interface_name tt refl
    (tags_append (flat_map field_pieces f.fields) (flat_map function_pieces f.functions)
    (tags_each GoodField field_pieces field_tags f.fields h.fields) (tags_each GoodFunction function_pieces function_tags f.functions h.functions)))
    (tags_append (flat_map script_pieces f.scripts) (children_part f.children)
    (tags_each GoodScript script_pieces script_tags f.scripts h.scripts)
    (around_tags (codes "children") [] (children_pieces 64 f.children) TagsLemmas.children_name tt refl (children_tags 64 f.children h.children))))

-- ---- the file

fields_are : (fs : List FieldElement) (rest : List Member) (g : ComponentFile) → with_members g (map Field fs ++ rest) ≡ with_members (record g { fields = g.fields ++ fs }) rest
fields_are [] rest g = ap (λ z. with_members (record g { fields = z }) rest) (sym (append-nil g.fields))
fields_are (x ∷ fs) rest g = fields_are fs rest (record g { fields = g.fields ++ x ∷ [] }) ∙ ap (λ z. with_members (record g { fields = z }) rest) (append_assoc g.fields (x ∷ []) fs)

functions_are : (gs : List FunctionElement) (g : ComponentFile) → with_members g (map Function gs) ≡ record g { functions = g.functions ++ gs }
functions_are [] g = ap (λ z. record g { functions = z }) (sym (append-nil g.functions))
functions_are (x ∷ gs) g = functions_are gs (record g { functions = g.functions ++ x ∷ [] }) ∙ ap (λ z. record g { functions = z }) (append_assoc g.functions (x ∷ []) gs)

scripts_are : (ss : List ScriptElement) (rest : List Part) (g : ComponentFile) → with_parts g (map Script ss ++ rest) ≡ with_parts (record g { scripts = g.scripts ++ ss }) rest
scripts_are [] rest g = ap (λ z. with_parts (record g { scripts = z }) rest) (sym (append-nil g.scripts))
scripts_are (x ∷ ss) rest g = scripts_are ss rest (record g { scripts = g.scripts ++ x ∷ [] }) ∙ ap (λ z. with_parts (record g { scripts = z }) rest) (append_assoc g.scripts (x ∷ []) ss)

abbrev head_of : Place → ComponentFile → ComponentFile
head_of place f = record { name = f.name; extends = f.extends; fields = []; functions = []; scripts = []; children = []; line = place.line; column = place.column }

header_says : (place : Place) (f : ComponentFile) → GoodFile f → header (said (codes "component") (header_attributes f)) place ≡ Some (head_of place f)
unfolding header
header_says place f h = rw (needed_name f.name _ h.name) refl

abbrev all_parts : List FieldElement → List FunctionElement → List ScriptElement → List ChildElement → List Part
all_parts fs gs ss cs = Interface (map Field fs ++ map Function gs) ∷ (map Script ss ++ Children cs ∷ [])

file_is : (head : ComponentFile) (fs : List FieldElement) (gs : List FunctionElement) (ss : List ScriptElement) (cs : List ChildElement)
    → with_parts head (all_parts fs gs ss cs)
    ≡ record head { fields = head.fields ++ fs; functions = head.functions ++ gs; scripts = head.scripts ++ ss; children = head.children ++ cs }
file_is head fs gs ss cs =
    scripts_are ss (Children cs ∷ []) (with_members head (map Field fs ++ map Function gs))
    ∙ ap (λ g. with_parts (record g { scripts = g.scripts ++ ss }) (Children cs ∷ []))
    (fields_are fs (map Function gs) head ∙ functions_are gs (record head { fields = head.fields ++ fs }))

record Again (place : Place) (f : ComponentFile) : Type 0 where
  pub read : ComponentFile
  pub file : IsFile (marks place (file_pieces f)) read
  pub same : aside read ≡ aside f

file_again : (place : Place) (f : ComponentFile) → GoodFile f → Again place f
unfolding file_pieces interface_pieces children_part
file_again place f h =
    let inside : Place = behind_start place (codes "component") (header_attributes f) in
    let members_at : Place = behind_start inside (codes "interface") [] in
    let functions_at : Place = place_after members_at (flat_map spelled (flat_map field_pieces f.fields)) in
    let scripts_at : Place = place_after inside (flat_map spelled (interface_pieces f)) in
    let children_at : Place = place_after scripts_at (flat_map spelled (flat_map script_pieces f.scripts)) in
    let fs = each_again (λ ms x. Members ms (Field x)) aside_field field_pieces GoodField field_again f.fields members_at h.fields in
    let gs = each_again (λ ms x. Members ms (Function x)) aside_function function_pieces GoodFunction function_again f.functions functions_at h.functions in
    let ss = each_again IsScript aside_script script_pieces GoodScript script_again f.scripts scripts_at h.scripts in
    let cs = children_again 64 f.children (behind_start children_at (codes "children") []) h.children in
    let members = each_append Members (marks members_at (flat_map field_pieces f.fields)) (marks functions_at (flat_map function_pieces f.functions)) (map Field fs.0) (map Function gs.0)
    (each_map Members Field fs.0 _ fs.1) (each_map Members Function gs.0 _ gs.1) in
    let interface_ = part_again Member (codes "interface") Members inside (member_pieces f) (map Field fs.0 ++ map Function gs.0)
    (subst (λ z. Each Members z (map Field fs.0 ++ map Function gs.0)) (sym (marks_append members_at (flat_map field_pieces f.fields) (flat_map function_pieces f.functions))) members) in
    let children_ = part_again ChildElement (codes "children") (Child 64) children_at (children_pieces 64 f.children) cs.0 cs.1 in
    let last : Each Parts (marks children_at (children_part f.children)) (Children cs.0 ∷ []) =
    (marks children_at (children_part f.children), [], sym (append-nil (marks children_at (children_part f.children))), children_, refl) in
    let rest = subst (λ z. Each Parts z (map Script ss.0 ++ Children cs.0 ∷ [])) (sym (marks_append scripts_at (flat_map script_pieces f.scripts) (children_part f.children)))
    (each_append Parts (marks scripts_at (flat_map script_pieces f.scripts)) (marks children_at (children_part f.children)) (map Script ss.0) (Children cs.0 ∷ [])
    (each_map Parts Script ss.0 _ ss.1) last) in
    record {
      read = with_parts (head_of place f) (all_parts fs.0 gs.0 ss.0 cs.0);
      file = record {
        tag = tag_of (written_tag (codes "component") (header_attributes f) false);
        place = place;
        body = marks inside (body_pieces f);
        parts = all_parts fs.0 gs.0 ss.0 cs.0;
        close = Some (codes "component");
        head = head_of place f;
        cut = around_marks place (codes "component") (header_attributes f) (body_pieces f);
        begins = same_itself (codes "component");
        heads = ap (λ t. header t place) (same_tag (codes "component") (header_attributes f) false) ∙ header_says place f h;
        named = same_itself (codes "component");
        inside = (
          marks inside (interface_pieces f),
          marks scripts_at (flat_map script_pieces f.scripts ++ children_part f.children),
          marks_append inside (interface_pieces f) (flat_map script_pieces f.scripts ++ children_part f.children),
          interface_,
          rest,
        );
        says = refl;
      };
      same = ap aside (file_is (head_of place f) fs.0 gs.0 ss.0 cs.0)
          ∙ ap (λ z. whole z (map aside_function gs.0) (map aside_script ss.0) (map aside_child cs.0)) fs.2
          ∙ ap (λ z. whole (map aside_field f.fields) z (map aside_script ss.0) (map aside_child cs.0)) gs.2
          ∙ ap (λ z. whole (map aside_field f.fields) (map aside_function f.functions) z (map aside_child cs.0)) ss.2
          ∙ ap (λ z. whole (map aside_field f.fields) (map aside_function f.functions) (map aside_script f.scripts) z) cs.2;
    }
  where
    whole : List FieldElement → List FunctionElement → List ScriptElement → List ChildElement → ComponentFile
    whole fields functions scripts children = record { name = f.name; extends = f.extends; fields = fields; functions = functions; scripts = scripts; children = children; line = 0; column = 0 }

-- what is written of a file that can be written is read as that file
pub reads_again : (f : ComponentFile) → GoodFile f → ReadsAs (flat_map spelled (file_pieces f)) f
unfolding strip file_pieces
reads_again f h =
    let again = file_again (record { line = 1; column = 1 }) f h in
    record {
      read = again.read;
      component = record { pieces = file_pieces f; cut = tags_cut (file_pieces f) (file_tags f h); file = again.file };
      same = again.same;
    }
