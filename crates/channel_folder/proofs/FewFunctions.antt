-- A folder whose sizes have no fault has no more functions than its files have bytes, so few that 32 bits number them.
use Rattle.std.proofs.Common.{◌≡◌, ℕ, ◌+◌, ◌≤◌, ◌<◌, Bool, true, false, cond, List, [], ◌∷◌, ◌++◌, length, Option, Some, None, Result, Ok, Err, map, refl, sym, ap, ◌∙◌, arith}
use Rattle.std.specs.Prelude.{filter, sum_by, IfOk}
use Rattle.std.specs.List.{filter_map, cons_option}
use Rattle.std.proofs.lemmas.List.{length-map}
use Rattle.std.proofs.lemmas.List.Sums.{sum_by-append, sum_by-cons}
use Rattle.chan_values.specs.declared.folder_fault.FolderFault.{FolderFault}
use Rattle.outside.specs.declared.files.FileBytes.{FileBytes}
use Rattle.folder_files.specs.SizeFaults.{fault_of, counted_bytes, has_too_many_bytes, is_too_long, too_long, first_size_fault}
use Rattle.folder_files.proofs.BadLines.{none_long}
use Rattle.folder_files.proofs.Sizes.{lt_tells, many_bytes}
use Rattle.brs_grammar.specs.declared.tree.NamedFunction.{NamedFunction}
use Rattle.component_files.specs.declared.element.InlineScript.{InlineScript}
use Rattle.component_files.specs.declared.element.ScriptElement.{ScriptElement}
use Rattle.component_sources.specs.ComponentFaults.{AreGoodScripts, inline_scripts, IsGoodComponent}
use Rattle.component_sources.specs.declared.component.CheckedComponent.{CheckedComponent}
use Rattle.folder_rules.specs.declared.source.SourceFunctions.{SourceFunctions}
use Rattle.script_faults.specs.Sources.{function_count}
use Rattle.channel_folder.specs.Contents.{Hold}
use Rattle.channel_folder.specs.DeclaredFunctions.{declared, source_of}
use Rattle.channel_folder.specs.FileFaults.{HoldsAs, of_source, of_component, kind_of}
use Rattle.channel_folder.specs.declared.answer.CheckAnswer.{CheckAnswer}
use Rattle.channel_folder.specs.declared.contents.Contents.{Contents}
use Rattle.channel_folder.specs.declared.kind.FileKind.{FileKind}
use Rattle.channel_folder.specs.declared.kind.FileKind.TheVariants.{Source, Component, Other}
use Rattle.channel_folder.proofs.SourceSizes.{TokenLaws, source_size}
use Rattle.channel_folder.proofs.ScriptSizes.{inline_size, scripts_size, component_size}

-- ---- the functions of one file

abbrev tree_count : List NamedFunction → ℕ
tree_count fs = length fs

abbrev text_size : InlineScript → ℕ
text_size s = length s.text

one_inline : (o : Option InlineScript) (rest : List InlineScript) → sum_by text_size (cons_option o rest) ≡ inline_size o + sum_by text_size rest
one_inline None rest = omega arith
one_inline (Some s) rest = sum_by-cons text_size s rest

inline_total : (scripts : List ScriptElement) → sum_by text_size (inline_scripts scripts) ≡ scripts_size scripts
inline_total [] = refl
inline_total (s ∷ ss) = one_inline s.inline (inline_scripts ss) ∙ ap (λ n. inline_size s.inline + n) (inline_total ss)

counted : (path : List ℕ) (inline : Bool) (trees : List (List NamedFunction)) → function_count (map (source_of path inline) trees) ≡ sum_by tree_count trees
counted path inline [] = refl
counted path inline (t ∷ ts) =
    let one : function_count (map (source_of path inline) (t ∷ ts)) ≡ length (map declared t) + function_count (map (source_of path inline) ts) = sum_by-cons (λ (s : SourceFunctions). length s.functions) (source_of path inline t) (map (source_of path inline) ts) in
    omega (arith, one, length-map t declared, counted path inline ts, sum_by-cons tree_count t ts)

one_source : (path : List ℕ) (fs : List NamedFunction) → function_count (of_source path fs).sources ≡ length fs
one_source path fs = omega (arith, sum_by-cons (λ (s : SourceFunctions). length s.functions) (source_of path false fs) [], length-map fs declared)

held_same : (a b : Contents) → a ≡ b → function_count a.sources ≡ function_count b.sources
held_same a b e = ap (λ (c : Contents). function_count c.sources) e

abbrev byte_count : FileBytes → ℕ
byte_count file = length file.bytes

module _ (laws : TokenLaws) where
  script_functions : (ss : List InlineScript) (trees : List (List NamedFunction)) → AreGoodScripts ss trees → sum_by tree_count trees ≤ sum_by text_size ss
  script_functions [] [] good = omega arith
  script_functions [] (t ∷ ts) good = absurd good
  script_functions (s ∷ ss) [] good = absurd good
  script_functions (s ∷ ss) (t ∷ ts) good =
      omega (arith, sum_by-cons tree_count t ts, sum_by-cons text_size s ss, source_size laws s.text s.first_line t good.0, script_functions ss ts good.1)

  holds_size : (kind : FileKind) (file : FileBytes) (held : Contents) → HoldsAs kind file held → function_count held.sources ≤ byte_count file
  holds_size Source file held (f, is, e) =
      omega (arith, held_same held (of_source file.path f) e, one_source file.path f, source_size laws file.bytes 1 f is)
  holds_size Component file held (c, is, e) =
      omega (
        arith,
        held_same held (of_component file.path c) e,
        counted file.path true c.scripts,
        script_functions (inline_scripts c.file.scripts) c.scripts is.scripts,
        inline_total c.file.scripts,
        component_size file.bytes c.file is.file,
      )
  holds_size Other file held e = omega (arith, held_same held _ e)

  hold_size : (files : List FileBytes) (held : Contents) → Hold files held → function_count held.sources ≤ sum_by byte_count files
  hold_size [] held e = omega (arith, held_same held _ e)
  hold_size (file ∷ files) held (here, more, (is, are, e)) =
      omega (
        arith,
        held_same held _ e,
        sum_by-append (λ (s : SourceFunctions). length s.functions) here.sources more.sources,
        sum_by-cons byte_count file files,
        holds_size (kind_of file.path) file here is,
        hold_size files more are,
      )

-- ---- the bytes of the files

short_count : (t : Bool) (file : FileBytes) → is_too_long file ≡ t → t ≡ false → counted_bytes file ≡ byte_count file
short_count true file e d = absurd (cc)
short_count false file e d = omega (arith, lt_tells 1048576 (length file.bytes) e)

head_short : (t : Bool) (file : FileBytes) (rest : List FileBytes) → map (λ (f : FileBytes). fault_of 2 f.path) (cond t (file ∷ rest) rest) ≡ [] → (t ≡ false) × (map (λ (f : FileBytes). fault_of 2 f.path) rest ≡ [])
head_short true file rest e = absurd (cc)
head_short false file rest e = (refl, e)

whole_count : (files : List FileBytes) → too_long files ≡ [] → sum_by counted_bytes files ≡ sum_by byte_count files
whole_count [] none = refl
whole_count (file ∷ files) none =
    let first = head_short (is_too_long file) file (filter is_too_long files) none in
    omega (arith, sum_by-cons counted_bytes file files, sum_by-cons byte_count file files, short_count (is_too_long file) file refl first.0, whole_count files first.1)

some_or_none : (f : FolderFault) (o : Option FolderFault) → o ≡ Some f → o ≡ None → ⊥
some_or_none f o e d = absurd (cc)

few_bytes : (files : List FileBytes) → first_size_fault files ≡ None → sum_by counted_bytes files ≤ 16777216
few_bytes files none = go (has_too_many_bytes files) refl
  where
    go : (t : Bool) → has_too_many_bytes files ≡ t → sum_by counted_bytes files ≤ 16777216
    go true e = absurd (some_or_none (fault_of 1 []) (first_size_fault files) (many_bytes files e) none)
    go false e = lt_tells 16777216 (sum_by counted_bytes files) e

pub few_functions : TokenLaws → (files : List FileBytes) (held : Contents) → first_size_fault files ≡ None → Hold files held → function_count held.sources ≤ 16777216
few_functions laws files held none hold =
    omega (arith, hold_size laws files held hold, whole_count files (none_long files none), few_bytes files none)

-- what is answered has so few
pub few_in : (files : List FileBytes) (r : Result Contents CheckAnswer) → ((held : Contents) → first_size_fault files ≡ None → Hold files held → function_count held.sources ≤ 16777216)
    → first_size_fault files ≡ None → IfOk r (Hold files) → IfOk r (λ (held : Contents). function_count held.sources ≤ 16777216)
few_in files (Ok held) law none hold = law held none hold
few_in files (Err e) law none hold = tt
