-- Component files, their lines and columns aside.
use Rattle.std.specs.Prelude.{◌≡◌, ℕ, List, map, option_map}
use Rattle.component_files.specs.declared.element.ComponentFile.{ComponentFile}
use Rattle.component_files.specs.declared.element.FieldElement.{FieldElement}
use Rattle.component_files.specs.declared.element.FunctionElement.{FunctionElement}
use Rattle.component_files.specs.declared.element.InlineScript.{InlineScript}
use Rattle.component_files.specs.declared.element.ScriptElement.{ScriptElement}
use Rattle.component_files.specs.declared.element.ChildElement.{ChildElement, ChildElement-F, roll-ChildElement}
use Rattle.component_files.specs.declared.element.ChildElement.TheFolds as f
use Rattle.component_files.specs.ComponentGrammar.{IsComponent}

abbrev pub aside_field : FieldElement → FieldElement
aside_field e = record e { line = 0; column = 0 }

abbrev pub aside_function : FunctionElement → FunctionElement
aside_function e = record e { line = 0; column = 0 }

abbrev pub aside_inline : InlineScript → InlineScript
aside_inline d = record d { first_line = 0 }

abbrev pub aside_script : ScriptElement → ScriptElement
aside_script s = record { uri = s.uri; inline = option_map aside_inline s.inline; line = 0; column = 0 }

abbrev pub aside_step : ChildElement-F ChildElement → ChildElement
aside_step r = roll-ChildElement (record { kind = r.kind; attributes = r.attributes; children = r.children; line = 0; column = 0 })

-- a child element with all its own
unfoldable pub aside_child : ChildElement → ChildElement
aside_child = f.fold-ChildElement ChildElement aside_step

-- the file with each line and column 0
abbrev pub aside : ComponentFile → ComponentFile
aside file = record {
  name = file.name;
  extends = file.extends;
  fields = map aside_field file.fields;
  functions = map aside_function file.functions;
  scripts = map aside_script file.scripts;
  children = map aside_child file.children;
  line = 0;
  column = 0;
}

-- the bytes are those of this file, lines and columns aside
pub record ReadsAs (bytes : List ℕ) (file : ComponentFile) : Type 0 where
  pub read : ComponentFile
  pub component : IsComponent bytes read
  pub same : aside read ≡ aside file

-- some bytes are
pub record CanBeRead (file : ComponentFile) : Type 0 where
  pub bytes : List ℕ
  pub reads : ReadsAs bytes file
