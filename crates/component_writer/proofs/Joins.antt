-- What is written piece after piece is the spelling of the pieces together.
use Rattle.std.proofs.Common.{◌≡◌, ℕ, zero, suc, ◌-◌, ◌<◌, ◌≤◌, length, get_or, take, drop, List, [], ◌∷◌, ◌++◌, map, codes, refl, ap, sym, ◌∙◌, append_assoc, append-nil, arith}
use Rattle.std.specs.List.{flat_map}
use Rattle.std.proofs.lemmas.Grind.{flat_map-append}
use Rattle.std.proofs.lemmas.List.{map-append}
use Rattle.std.proofs.lemmas.Slice.{first_rest}
use Rattle.xml_pieces.specs.declared.piece.AttributeText.{AttributeText}
use Rattle.xml_pieces.specs.Written.{Written, attribute, spelled}
use Rattle.component_files.specs.declared.element.ComponentFile.{ComponentFile}
use Rattle.component_files.specs.declared.element.FieldElement.{FieldElement}
use Rattle.component_files.specs.declared.element.ChildElement.{ChildElement, out-ChildElement}
use Rattle.component_writer.specs.Spelling.{written_attribute, attribute_text, truth_word, start, empty, end, around, field_options, field_attributes, field_pieces, function_pieces, interface_pieces, member_pieces, script_pieces, start_piece, end_piece, child_pieces, children_pieces, children_part, header_attributes, header_pieces, body_pieces, file_pieces}

abbrev text : List Written → List ℕ
text = flat_map spelled

abbrev attributes_text : List AttributeText → List ℕ
attributes_text all = flat_map attribute (map written_attribute all)

pub join : (out : List ℕ) (a b : List Written) → (out ++ flat_map spelled a) ++ flat_map spelled b ≡ out ++ flat_map spelled (a ++ b)
join out a b = append_assoc out (text a) (text b) ∙ ap (λ z. out ++ z) (sym (flat_map-append spelled a b))

pub join_attributes : (out : List ℕ) (a b : List AttributeText)
    → (out ++ flat_map attribute (map written_attribute a)) ++ flat_map attribute (map written_attribute b) ≡ out ++ flat_map attribute (map written_attribute (a ++ b))
join_attributes out a b =
    append_assoc out (attributes_text a) (attributes_text b)
    ∙ ap (λ z. out ++ z) (sym (flat_map-append attribute (map written_attribute a) (map written_attribute b)) ∙ ap (flat_map attribute) (sym (map-append written_attribute a b)))

-- an element with others inside
around_text : (name : List ℕ) (all : List AttributeText) (inside : List Written) → text (around name all inside) ≡ spelled (start name all) ++ (text inside ++ spelled (end name))
around_text name all inside =
    ap (λ z. spelled (start name all) ++ z) (flat_map-append spelled inside (end name ∷ []) ∙ ap (λ z. text inside ++ z) (append-nil (spelled (end name))))

four : (a b c d : List ℕ) → ((a ++ b) ++ c) ++ d ≡ a ++ (b ++ (c ++ d))
four a b c d = append_assoc (a ++ b) c d ∙ append_assoc a b (c ++ d)

-- ---- one after another

-- bytes behind bytes that are known
pub onto : (a b y z : List ℕ) → b ≡ a ++ y → a ≡ z → b ≡ z ++ y
onto a b y z e f = e ∙ ap (λ w. w ++ y) f

-- ---- children

pub no_level : (out : List ℕ) (levels : ℕ) (cs : List ChildElement) → levels ≡ 0 → out ++ flat_map spelled (children_pieces levels cs) ≡ out
unfolding children_pieces
no_level out zero cs h = append-nil out
no_level out (suc n) cs h = absurd (cc)

pub no_child : (out : List ℕ) (levels : ℕ) → out ++ flat_map spelled (children_pieces levels []) ≡ out
unfolding children_pieces
no_child out zero = append-nil out
no_child out (suc n) = append-nil out

one_less : (levels : ℕ) → 1 ≤ levels → levels ≡ suc (levels - 1)
one_less levels h = omega arith

one_level : (n : ℕ) (c : ChildElement) (cs : List ChildElement)
    → children_pieces (suc n) (c ∷ cs) ≡ child_pieces (children_pieces n) c ++ children_pieces (suc n) cs
unfolding children_pieces
one_level n c cs = refl

child_text : (inner : List ChildElement → List Written) (c : ChildElement)
    → text (child_pieces inner c) ≡ spelled (start_piece c) ++ (text (inner (out-ChildElement c).children) ++ spelled (end_piece c))
unfolding start_piece end_piece
child_text inner c = around_text (out-ChildElement c).kind (out-ChildElement c).attributes (inner (out-ChildElement c).children)

pub join_child : (out : List ℕ) (levels : ℕ) (c : ChildElement) (cs : List ChildElement) → 1 ≤ levels
    → (((out ++ spelled (start_piece c)) ++ flat_map spelled (children_pieces (levels - 1) (out-ChildElement c).children)) ++ spelled (end_piece c)) ++ flat_map spelled (children_pieces levels cs)
    ≡ out ++ flat_map spelled (children_pieces levels (c ∷ cs))
join_child out levels c cs h =
    let inner : List ChildElement → List Written = children_pieces (levels - 1) in
    let level : children_pieces levels ≡ children_pieces (suc (levels - 1)) = ap children_pieces (one_less levels h) in
    ap (λ z. z ++ text (children_pieces levels cs))
    (four out (spelled (start_piece c)) (text (inner (out-ChildElement c).children)) (spelled (end_piece c)) ∙ ap (λ z. out ++ z) (sym (child_text inner c)))
    ∙ join out (child_pieces inner c) (children_pieces levels cs)
    ∙ ap (λ f. out ++ text (child_pieces inner c ++ f cs)) level
    ∙ ap (λ z. out ++ text z) (sym (one_level (levels - 1) c cs))
    ∙ ap (λ f. out ++ text (f (c ∷ cs))) (sym level)

-- no child is left
pub none_left : (out : List ℕ) (levels : ℕ) (cs : List ChildElement) (all : List ℕ) → length cs < 1 → out ++ flat_map spelled (children_pieces levels cs) ≡ all → out ≡ all
none_left out levels [] all h e = sym (no_child out levels) ∙ e
none_left out levels (c ∷ cs) all h e = absurd (omega arith)

pub first_left : (cs : List ChildElement) (c : ChildElement) → 1 ≤ length cs → c ≡ get_or cs 0 c → cs ≡ c ∷ take (length cs - 1) (drop 1 cs)
first_left cs c h is = first_rest cs c (omega arith) ∙ ap (λ z. z ∷ take (length cs - 1) (drop 1 cs)) (sym is)

-- a child more is written
pub one_more : (out a b e : List ℕ) (levels : ℕ) (c : ChildElement) (cs left : List ChildElement) (all : List ℕ) → 1 ≤ levels → cs ≡ c ∷ left
    → a ≡ out ++ spelled (start_piece c) → b ≡ a ++ flat_map spelled (children_pieces (levels - 1) (out-ChildElement c).children) → e ≡ b ++ spelled (end_piece c)
    → out ++ flat_map spelled (children_pieces levels cs) ≡ all → e ++ flat_map spelled (children_pieces levels left) ≡ all
one_more out a b e levels c cs left all h is first second third so_far =
    ap (λ z. z ++ text (children_pieces levels left)) (onto _ _ _ _ third (onto _ _ _ _ second first))
    ∙ join_child out levels c left h ∙ ap (λ z. out ++ text (children_pieces levels z)) (sym is) ∙ so_far

pub join_children : (out : List ℕ) (cs : List ChildElement)
    → ((out ++ codes "<children>") ++ flat_map spelled (children_pieces 64 cs)) ++ codes "</children>" ≡ out ++ flat_map spelled (children_part cs)
unfolding children_part
join_children out cs =
    four out (codes "<children>") (text (children_pieces 64 cs)) (codes "</children>") ∙ ap (λ z. out ++ z) (sym (around_text (codes "children") [] (children_pieces 64 cs)))

-- ---- the file

grouped : (a b c d w : List ℕ) → (a ++ (b ++ (c ++ d))) ++ w ≡ a ++ (b ++ (c ++ (d ++ w)))
grouped a b c d w = simp append_assoc

seven : (o a b c d e : List ℕ) (w : List ℕ) → (((((o ++ a) ++ b) ++ c) ++ d) ++ e) ++ w ≡ o ++ (a ++ (b ++ (c ++ (d ++ (e ++ w)))))
seven o a b c d e w = simp append_assoc

pub join_field : (out : List ℕ) (e : FieldElement)
    → (((((out ++ codes "<field") ++ attribute (written_attribute (attribute_text (codes "id") e.id))) ++ attribute (written_attribute (attribute_text (codes "type") e.word)))
    ++ attribute (written_attribute (attribute_text (codes "alwaysNotify") (truth_word e.always)))) ++ flat_map attribute (map written_attribute (field_options e))) ++ codes "/>"
    ≡ out ++ flat_map spelled (field_pieces e)
unfolding field_pieces
join_field out e =
    let id : List ℕ = attribute (written_attribute (attribute_text (codes "id") e.id)) in
    let type : List ℕ = attribute (written_attribute (attribute_text (codes "type") e.word)) in
    let always : List ℕ = attribute (written_attribute (attribute_text (codes "alwaysNotify") (truth_word e.always))) in
    let options : List ℕ = attributes_text (field_options e) in
    seven out (codes "<field") id type always options (codes "/>")
    ∙ ap (λ z. out ++ (codes "<field" ++ z)) (sym (grouped id type always options (codes "/>")))
    ∙ ap (λ z. out ++ z) (sym (append-nil (spelled (empty (codes "field") (field_attributes e)))))

pub join_interface : (out : List ℕ) (file : ComponentFile)
    → (((out ++ codes "<interface>") ++ flat_map spelled (flat_map field_pieces file.fields)) ++ flat_map spelled (flat_map function_pieces file.functions)) ++ codes "</interface>"
    ≡ out ++ flat_map spelled (interface_pieces file)
unfolding interface_pieces
join_interface out file =
    ap (λ z. z ++ codes "</interface>") (join (out ++ codes "<interface>") (flat_map field_pieces file.fields) (flat_map function_pieces file.functions))
    ∙ four out (codes "<interface>") (text (member_pieces file)) (codes "</interface>") ∙ ap (λ z. out ++ z) (sym (around_text (codes "interface") [] (member_pieces file)))

pub join_file : (out : List ℕ) (file : ComponentFile)
    → ((((out ++ flat_map spelled (header_pieces file)) ++ flat_map spelled (interface_pieces file)) ++ flat_map spelled (flat_map script_pieces file.scripts))
    ++ flat_map spelled (children_part file.children)) ++ codes "</component>" ≡ out ++ flat_map spelled (file_pieces file)
unfolding header_pieces file_pieces
join_file out file =
    let head : List ℕ = spelled (start (codes "component") (header_attributes file)) in
    let scripts : List Written = flat_map script_pieces file.scripts in
    let behind : List ℕ = out ++ (head ++ []) in
    ap (λ z. z ++ codes "</component>")
    (ap (λ z. z ++ text (children_part file.children)) (join behind (interface_pieces file) scripts)
    ∙ join behind (interface_pieces file ++ scripts) (children_part file.children)
    ∙ ap (λ z. behind ++ text z) (append_assoc (interface_pieces file) scripts (children_part file.children))
    ∙ ap (λ z. (out ++ z) ++ text (body_pieces file)) (append-nil head))
    ∙ four out head (text (body_pieces file)) (codes "</component>") ∙ ap (λ z. out ++ z) (sym (around_text (codes "component") (header_attributes file) (body_pieces file)))
