-- What is written of a file is written of it with its lines and columns aside.
use Rattle.std.proofs.Common.{◌≡◌, ℕ, zero, suc, List, [], ◌∷◌, ◌++◌, map, codes, Option, Some, None, refl, ap, sym, ◌∙◌}
use Rattle.std.specs.List.{flat_map}
use Rattle.std.specs.Option.{option_map}
use Rattle.xml_pieces.specs.Written.{Written}
use Rattle.component_files.specs.declared.element.ComponentFile.{ComponentFile}
use Rattle.component_files.specs.declared.element.FieldElement.{FieldElement}
use Rattle.component_files.specs.declared.element.FunctionElement.{FunctionElement}
use Rattle.component_files.specs.declared.element.InlineScript.{InlineScript}
use Rattle.component_files.specs.declared.element.ScriptElement.{ScriptElement}
use Rattle.component_files.specs.declared.element.ChildElement.{ChildElement, ChildElement-F, out-ChildElement, roll-ChildElement}
use Rattle.component_files.specs.declared.element.ChildElement.TheViews.{out-roll-ChildElement}
use Rattle.component_files.specs.declared.element.ChildElement.TheFolds as f
use Rattle.component_writer.specs.Aside.{aside, aside_child, aside_step, aside_field, aside_function, aside_script, aside_inline}
use Rattle.component_writer.specs.Spelling.{around, optional, header_attributes, field_pieces, function_pieces, script_pieces, inline_pieces, start, end, start_piece, end_piece, child_pieces, children_pieces, interface_pieces, children_part, file_pieces}
use Rattle.component_writer.proofs.Every.{flat_map_same}

pub aside_of : (c : ChildElement) → aside_child c ≡ roll-ChildElement (record { kind = (out-ChildElement c).kind; attributes = (out-ChildElement c).attributes; children = map aside_child (out-ChildElement c).children; line = 0; column = 0 })
unfolding aside_child
aside_of c = f.fold_out-ChildElement ChildElement aside_step c

-- a child element that is made of a layer
pub aside_made : (r : ChildElement-F ChildElement) → aside_child (roll-ChildElement r) ≡ roll-ChildElement (record { kind = r.kind; attributes = r.attributes; children = map aside_child r.children; line = 0; column = 0 })
unfolding aside_child
aside_made r = f.fold-roll-ChildElement ChildElement aside_step r

abbrev layer_pieces : (List ChildElement → List Written) → ChildElement-F ChildElement → List Written
layer_pieces inner r = start r.kind r.attributes ∷ (inner r.children ++ end r.kind ∷ [])

child_same : (inner : List ChildElement → List Written) → ((cs : List ChildElement) → inner (map aside_child cs) ≡ inner cs) → (c : ChildElement) → child_pieces inner (aside_child c) ≡ child_pieces inner c
unfolding start_piece end_piece
child_same inner same c =
    let r : ChildElement-F ChildElement = record { kind = (out-ChildElement c).kind; attributes = (out-ChildElement c).attributes; children = map aside_child (out-ChildElement c).children; line = 0; column = 0 } in
    ap (λ z. layer_pieces inner (out-ChildElement z)) (aside_of c)
    ∙ ap (layer_pieces inner) (out-roll-ChildElement r)
    ∙ ap (λ z. start_piece c ∷ (z ++ end_piece c ∷ [])) (same (out-ChildElement c).children)

field_same : (e : FieldElement) → field_pieces (aside_field e) ≡ field_pieces e
unfolding field_pieces
field_same e = refl

function_same : (e : FunctionElement) → function_pieces (aside_function e) ≡ function_pieces e
unfolding function_pieces
function_same e = refl

inline_same : (o : Option InlineScript) → inline_pieces (option_map aside_inline o) ≡ inline_pieces o
inline_same None = refl
inline_same (Some d) = refl

script_same : (s : ScriptElement) → script_pieces (aside_script s) ≡ script_pieces s
unfolding script_pieces
script_same s = ap (λ z. around (codes "script") (optional (codes "uri") s.uri) z) (inline_same s.inline)

children_same : (n : ℕ) (cs : List ChildElement) → children_pieces n (map aside_child cs) ≡ children_pieces n cs
unfolding children_pieces
children_same zero cs = refl
children_same (suc n) cs =
    flat_map_same (child_pieces (children_pieces n)) aside_child (child_same (children_pieces n) (children_same n)) cs

aside_same : (file : ComponentFile) → file_pieces (aside file) ≡ file_pieces file
unfolding file_pieces interface_pieces children_part
aside_same file =
    ap (λ z. whole z (flat_map function_pieces (map aside_function file.functions)) (flat_map script_pieces (map aside_script file.scripts)) (children_pieces 64 (map aside_child file.children)))
    (flat_map_same field_pieces aside_field field_same file.fields)
    ∙ ap (λ z. whole (flat_map field_pieces file.fields) z (flat_map script_pieces (map aside_script file.scripts)) (children_pieces 64 (map aside_child file.children)))
    (flat_map_same function_pieces aside_function function_same file.functions)
    ∙ ap (λ z. whole (flat_map field_pieces file.fields) (flat_map function_pieces file.functions) z (children_pieces 64 (map aside_child file.children)))
    (flat_map_same script_pieces aside_script script_same file.scripts)
    ∙ ap (λ z. whole (flat_map field_pieces file.fields) (flat_map function_pieces file.functions) (flat_map script_pieces file.scripts) z)
    (children_same 64 file.children)
  where
    whole : List Written → List Written → List Written → List Written → List Written
    whole fields functions scripts children =
        around (codes "component") (header_attributes file) (around (codes "interface") [] (fields ++ functions) ++ (scripts ++ around (codes "children") [] children))

pub one_spelling : (a b : ComponentFile) → aside a ≡ aside b → file_pieces a ≡ file_pieces b
one_spelling a b e = sym (aside_same a) ∙ ap file_pieces e ∙ aside_same b
