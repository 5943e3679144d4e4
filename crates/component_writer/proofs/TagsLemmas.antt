-- Tags as they are written, and pieces that may stand anywhere.
use Rattle.std.proofs.Common.{◌≡◌, ℕ, Bool, true, false, not, ◌==◌, List, [], ◌∷◌, ◌++◌, map, cond, codes, refl, ap, sym, ◌∙◌, subst}
use Rattle.std.specs.List.{flat_map, list_all}
use Rattle.std.specs.Str.{is_utf8}
use Rattle.std.proofs.lemmas.Bool.{eqb-true}
use Rattle.std.proofs.lemmas.List.Folds.{list_all-append}
use Rattle.xml_pieces.specs.declared.piece.AttributeText.{AttributeText}
use Rattle.xml_pieces.specs.declared.piece.Tag.{Tag}
use Rattle.xml_pieces.specs.Written.{is_space, is_quote, is_name_byte, is_attribute_byte, differs, Stretch, Plain, Less, Ampersand, Quote, stretch, meant, is_allowed, AreAttributes, attribute_of, IsTag, tag_of, are_distinct, Written, spelled, IsWritten, MayPrecede, Cut}
use Rattle.xml_pieces.proofs.Basics.{and_both, not_false, name_utf8}
use Rattle.component_writer.specs.Spelling.{stretch_of, written_attribute, written_tag, attribute_text}
use Rattle.component_writer.proofs.Every.{Every}

-- ---- names and values

abbrev pub IsName : List ℕ → Type 0
IsName n = (list_all is_name_byte n ≡ true) × (n ≡ [] → ⊥)

abbrev pub IsValue : List ℕ → Type 0
IsValue v = is_utf8 v ≡ true

-- an attribute that can be written
pub record GoodAttribute (a : AttributeText) : Type 0 where
  pub name : list_all is_attribute_byte a.name ≡ true
  pub some_name : a.name ≡ [] → ⊥
  pub value : IsValue a.value

-- ---- escaped bytes

record Escaped (b : ℕ) (s : Stretch) : Type 0 where
  pub same : meant s ≡ b ∷ []
  pub allowed : is_allowed s ≡ true
  pub unquoted : list_all (differs 34) (stretch s) ≡ true

escaped : (b : ℕ) → Escaped b (stretch_of b)
unfolding differs
escaped b = at (b == 60) (b == 38) (b == 34) refl refl refl
  where
    at : (x y z : Bool) → (b == 60) ≡ x → (b == 38) ≡ y → (b == 34) ≡ z → Escaped b (cond x Less (cond y Ampersand (cond z Quote (Plain b))))
    at true y z e f g = record { same = ap (λ n. n ∷ []) (sym (eqb-true b 60 e)); allowed = refl; unquoted = refl }
    at false true z e f g = record { same = ap (λ n. n ∷ []) (sym (eqb-true b 38 f)); allowed = refl; unquoted = refl }
    at false false true e f g = record { same = ap (λ n. n ∷ []) (sym (eqb-true b 34 g)); allowed = refl; unquoted = refl }
    at false false false e f g = record {
      same = refl;
      allowed = and_both (not (b == 60)) (not (b == 38)) (not_false (b == 60) e) (not_false (b == 38) f);
      unquoted = and_both (not (b == 34)) true (not_false (b == 34) g) refl;
    }

all_append : (p : ℕ → Bool) (u v : List ℕ) → list_all p u ≡ true → list_all p v ≡ true → list_all p (u ++ v) ≡ true
all_append p u v e f = rw list_all-append (and_both (list_all p u) (list_all p v) e f)

record EscapedValue (v : List ℕ) : Type 0 where
  pub same : flat_map meant (map stretch_of v) ≡ v
  pub allowed : list_all is_allowed (map stretch_of v) ≡ true
  pub unquoted : list_all (differs 34) (flat_map stretch (map stretch_of v)) ≡ true

escaped_value : (v : List ℕ) → EscapedValue v
escaped_value [] = record { same = refl; allowed = refl; unquoted = refl }
escaped_value (b ∷ v) =
    let one = escaped b in
    let more = escaped_value v in
    record {
      same = ap (λ z. z ++ flat_map meant (map stretch_of v)) one.same ∙ ap (λ z. b ∷ z) more.same;
      allowed = and_both (is_allowed (stretch_of b)) (list_all is_allowed (map stretch_of v)) one.allowed more.allowed;
      unquoted = all_append (differs 34) (stretch (stretch_of b)) (flat_map stretch (map stretch_of v)) one.unquoted more.unquoted;
    }

-- ---- tags

pub same_attributes : (all : List AttributeText) → map attribute_of (map written_attribute all) ≡ all
same_attributes [] = refl
same_attributes (a ∷ more) =
    let v = escaped_value a.value in
    let one : attribute_of (written_attribute a) ≡ a = ap (λ z. record { name = a.name; value = z }) v.same in
    ap (λ z. z ∷ map attribute_of (map written_attribute more)) one ∙ ap (λ z. a ∷ z) (same_attributes more)

some : (b : ℕ) (bs : List ℕ) → b ∷ bs ≡ [] → ⊥
some b bs e = absurd (cc)

written_attributes : (all : List AttributeText) → Every GoodAttribute all → AreAttributes (map written_attribute all)
unfolding is_space is_quote
written_attributes [] h = tt
written_attributes (a ∷ more) h =
    let v = escaped_value a.value in (
      record { gap = refl; some_gap = some _ _; name = h.0.name; some_name = h.0.some_name; before = refl; after = refl; quote = refl; value = v.unquoted; allowed = v.allowed; utf8 = subst (λ z. is_utf8 z ≡ true) (sym v.same) h.0.value },
      written_attributes more h.1,
    )

pub written_tag_is : (name : List ℕ) (all : List AttributeText) (empty : Bool) → IsName name → Every GoodAttribute all → are_distinct all ≡ true → IsTag (written_tag name all empty)
written_tag_is name all empty named good distinct = record {
  name = named.0;
  some_name = named.1;
  attributes = written_attributes all good;
  distinct = subst (λ z. are_distinct z ≡ true) (sym (same_attributes all)) distinct;
  space = refl;
}

abbrev pub said : List ℕ → List AttributeText → Tag
said name all = record { name = name; attributes = all }

pub same_tag : (name : List ℕ) (all : List AttributeText) (empty : Bool) → tag_of (written_tag name all empty) ≡ said name all
same_tag name all empty = ap (λ z. record { name = name; attributes = z }) (same_attributes all)

-- ---- pieces that may stand before anything

abbrev pub AreTags : List Written → Type 0
AreTags [] = Unit {0}
AreTags (w ∷ ws) = IsWritten w × ((rest : List ℕ) → MayPrecede w rest) × AreTags ws

pub tags_cut : (ws : List Written) → AreTags ws → Cut (flat_map spelled ws) ws []
tags_cut [] h = refl
tags_cut (w ∷ ws) h = (flat_map spelled ws, refl, h.0, h.1 (flat_map spelled ws), tags_cut ws h.2)

pub tags_append : (a b : List Written) → AreTags a → AreTags b → AreTags (a ++ b)
tags_append [] b h k = k
tags_append (w ∷ a) b h k = (h.0, h.1, tags_append a b h.2 k)

pub tags_each : {A : Type 0} (P : A → Type 0) (f : A → List Written) → ((x : A) → P x → AreTags (f x)) → (xs : List A) → Every P xs → AreTags (flat_map f xs)
tags_each P f one [] h = tt
tags_each P f one (x ∷ xs) h = tags_append (f x) (flat_map f xs) (one x h.0) (tags_each P f one xs h.1)

-- ---- fixed names

pub component_name : IsName (codes "component")
unfolding is_name_byte
component_name = (refl, some _ _)

pub interface_name : IsName (codes "interface")
unfolding is_name_byte
interface_name = (refl, some _ _)

pub field_name : IsName (codes "field")
unfolding is_name_byte
field_name = (refl, some _ _)

pub function_name : IsName (codes "function")
unfolding is_name_byte
function_name = (refl, some _ _)

pub script_name : IsName (codes "script")
unfolding is_name_byte
script_name = (refl, some _ _)

pub children_name : IsName (codes "children")
unfolding is_name_byte
children_name = (refl, some _ _)

pub group_value : IsValue (codes "Group")
unfolding is_name_byte
group_value = name_utf8 (codes "Group") refl

pub true_value : IsValue (codes "true")
unfolding is_name_byte
true_value = name_utf8 (codes "true") refl

pub false_value : IsValue (codes "false")
unfolding is_name_byte
false_value = name_utf8 (codes "false") refl

-- an attribute of a fixed name
pub name_good : (v : List ℕ) → IsValue v → GoodAttribute (attribute_text (codes "name") v)
unfolding is_attribute_byte is_name_byte
name_good v h = record { name = refl; some_name = some _ _; value = h }

pub extends_good : (v : List ℕ) → IsValue v → GoodAttribute (attribute_text (codes "extends") v)
unfolding is_attribute_byte is_name_byte
extends_good v h = record { name = refl; some_name = some _ _; value = h }

pub id_good : (v : List ℕ) → IsValue v → GoodAttribute (attribute_text (codes "id") v)
unfolding is_attribute_byte is_name_byte
id_good v h = record { name = refl; some_name = some _ _; value = h }

pub type_good : (v : List ℕ) → IsValue v → GoodAttribute (attribute_text (codes "type") v)
unfolding is_attribute_byte is_name_byte
type_good v h = record { name = refl; some_name = some _ _; value = h }

pub always_good : (v : List ℕ) → IsValue v → GoodAttribute (attribute_text (codes "alwaysNotify") v)
unfolding is_attribute_byte is_name_byte
always_good v h = record { name = refl; some_name = some _ _; value = h }

pub value_good : (v : List ℕ) → IsValue v → GoodAttribute (attribute_text (codes "value") v)
unfolding is_attribute_byte is_name_byte
value_good v h = record { name = refl; some_name = some _ _; value = h }

pub on_change_good : (v : List ℕ) → IsValue v → GoodAttribute (attribute_text (codes "onChange") v)
unfolding is_attribute_byte is_name_byte
on_change_good v h = record { name = refl; some_name = some _ _; value = h }

pub uri_good : (v : List ℕ) → IsValue v → GoodAttribute (attribute_text (codes "uri") v)
unfolding is_attribute_byte is_name_byte
uri_good v h = record { name = refl; some_name = some _ _; value = h }
