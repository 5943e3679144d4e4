-- The fault of a component file with its inline scripts: that of the component file; else that of its first inline script which has one.
use Rattle.std.specs.Prelude.{◌⊎◌, ℕ, ◌+◌, ◌≤◌, List, [], ◌∷◌, length, filter_map, Option, Some, None}
use Rattle.brs_grammar.specs.declared.tree.NamedFunction.{NamedFunction}
use Rattle.component_files.specs.ComponentGrammar.{IsComponent, IsFirstFault}
use Rattle.component_files.specs.declared.element.ComponentFile.{ComponentFile}
use Rattle.component_files.specs.declared.element.InlineScript.{InlineScript}
use Rattle.component_files.specs.declared.element.ScriptElement.{ScriptElement}
use Rattle.file_faults.specs.SourceFaults.{IsGoodSource, IsSourceFault}
use Rattle.component_sources.specs.declared.component.CheckedComponent.{CheckedComponent}
use Rattle.component_sources.specs.declared.component.ComponentFault.{ComponentFault}
use Rattle.component_sources.specs.declared.component.ComponentFault.TheVariants.{Element, Script}
use Rattle.file_faults.specs.declared.source.SourceFault.{SourceFault}

-- the scripts that stand in the component file itself, in their order
abbrev pub inline_scripts : List ScriptElement → List InlineScript
inline_scripts scripts = filter_map (λ s. s.inline) scripts

-- each script is a source of these functions, and has no fault
abbrev pub AreGoodScripts : List InlineScript → List (List NamedFunction) → Type 0
AreGoodScripts [] [] = Unit {0}
AreGoodScripts (s ∷ ss) (functions ∷ others) = IsGoodSource s.text s.first_line functions × AreGoodScripts ss others
AreGoodScripts _ _ = ⊥

-- the first of the scripts that has a fault has this one
abbrev pub IsScriptFault : List InlineScript → SourceFault → Type 0
IsScriptFault [] fault = ⊥
IsScriptFault (s ∷ ss) fault =
    IsSourceFault s.text s.first_line fault ⊎ ((functions : List NamedFunction) × IsGoodSource s.text s.first_line functions × IsScriptFault ss fault)

-- the bytes are this component file, and its inline scripts have these trees
pub record IsGoodComponent (bytes : List ℕ) (c : CheckedComponent) : Type 0 where
  pub file : IsComponent bytes c.file
  pub scripts : AreGoodScripts (inline_scripts c.file.scripts) c.scripts

pub record HasScriptFault (bytes : List ℕ) (fault : SourceFault) : Type 0 where
  pub file : ComponentFile
  pub is : IsComponent bytes file
  pub first : IsScriptFault (inline_scripts file.scripts) fault

-- this is the fault of the bytes
abbrev pub IsComponentFault : List ℕ → ComponentFault → Type 0
IsComponentFault bytes (Element syntax) = IsFirstFault bytes syntax.line
IsComponentFault bytes (Script fault) = HasScriptFault bytes fault

-- the lines of an inline script have numbers from 1 up to n
pub record Fits (n : ℕ) (s : InlineScript) : Type 0 where
  pub line : 1 ≤ s.first_line
  pub size : s.first_line + length s.text ≤ n

abbrev pub InlineFits : ℕ → Option InlineScript → Type 0
InlineFits n None = Unit {0}
InlineFits n (Some s) = Fits n s

abbrev pub ScriptsFit : ℕ → List ScriptElement → Type 0
ScriptsFit n [] = Unit {0}
ScriptsFit n (s ∷ ss) = InlineFits n s.inline × ScriptsFit n ss
