-- What of a component file can be written.
use Rattle.std.proofs.Common.{◌≡◌, ℕ, zero, suc, true, false, List, codes, Option, Some, None}
use Rattle.xml_pieces.specs.Written.{is_empty, EndsFirst}
use Rattle.component_files.specs.declared.element.ComponentFile.{ComponentFile}
use Rattle.component_files.specs.declared.element.FieldElement.{FieldElement}
use Rattle.component_files.specs.declared.element.FunctionElement.{FunctionElement}
use Rattle.component_files.specs.declared.element.InlineScript.{InlineScript}
use Rattle.component_files.specs.declared.element.ScriptElement.{ScriptElement}
use Rattle.component_files.specs.declared.element.ChildElement.{ChildElement, ChildElement-F, out-ChildElement}
use Rattle.component_files.specs.Elements.{is_whole, are_unlike, without_colons}
use Rattle.component_writer.proofs.Every.{Every}
use Rattle.component_writer.proofs.TagsLemmas.{IsName, IsValue, GoodAttribute}

abbrev pub IsOptional : Option (List ℕ) → Type 0
IsOptional None = Unit {0}
IsOptional (Some v) = IsValue v

pub record GoodField (e : FieldElement) : Type 0 where
  pub id : is_empty e.id ≡ false
  pub id_value : IsValue e.id
  pub word : is_empty e.word ≡ false
  pub word_value : IsValue e.word
  pub value : IsOptional e.value
  pub on_change : IsOptional e.on_change

pub record GoodFunction (e : FunctionElement) : Type 0 where
  pub name : is_empty e.name ≡ false
  pub value : IsValue e.name

abbrev pub IsInline : Option InlineScript → Type 0
IsInline None = Unit {0}
IsInline (Some d) = EndsFirst (codes "]]>") d.text × IsValue d.text

pub record GoodScript (s : ScriptElement) : Type 0 where
  pub uri : IsOptional s.uri
  pub inline : IsInline s.inline
  pub whole : is_whole s ≡ true

pub record IsGoodChild (inner : ChildElement → Type 0) (c : ChildElement-F ChildElement) : Type 0 where
  pub kind : IsName c.kind
  pub attributes : Every GoodAttribute c.attributes
  pub plain : without_colons c.attributes ≡ c.attributes
  pub unlike : are_unlike c.attributes ≡ true
  pub children : Every inner c.children

-- with so many levels at most
unfoldable pub GoodChild : ℕ → ChildElement → Type 0
GoodChild zero c = ⊥
GoodChild (suc n) c = IsGoodChild (GoodChild n) (out-ChildElement c)

pub record GoodFile (f : ComponentFile) : Type 0 where
  pub name : is_empty f.name ≡ false
  pub name_value : IsValue f.name
  pub extends_value : IsValue f.extends
  pub fields : Every GoodField f.fields
  pub functions : Every GoodFunction f.functions
  pub scripts : Every GoodScript f.scripts
  pub children : Every (GoodChild 64) f.children
