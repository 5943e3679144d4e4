-- A component file with its inline scripts is good or has a first fault, one of the two and only one.
use Rattle.std.proofs.Common.{◌≡◌, ℕ, ◌⊎◌, inl, inr, List, Result, Ok, Err, refl, sym, ap, ◌∙◌, subst}
use Rattle.std.specs.Prelude.{IfOk}
use Rattle.brs_grammar.specs.declared.tree.NamedFunction.{NamedFunction}
use Rattle.component_files.specs.ComponentGrammar.{IsComponent, IsFirstFault}
use Rattle.component_files.specs.declared.element.ComponentFile.{ComponentFile}
use Rattle.component_files.specs.declared.read.ComponentSyntax.{ComponentSyntax}
use Rattle.component_files.specs.declared.element.ScriptElement.{ScriptElement}
use Rattle.component_sources.specs.Answers.{IsChecked, IsRefusedComponent}
use Rattle.component_sources.specs.declared.component.ComponentFileAnswer.{ComponentFileAnswer}
use Rattle.component_sources.specs.declared.component.ComponentFileAnswer.TheVariants as answer
use Rattle.component_sources.specs.ComponentFaults.{AreGoodScripts, IsScriptFault, inline_scripts, IsGoodComponent, HasScriptFault, IsComponentFault}
use Rattle.component_sources.specs.declared.component.CheckedComponent.{CheckedComponent}
use Rattle.component_sources.specs.declared.component.ComponentFault.{ComponentFault}
use Rattle.component_sources.specs.declared.component.ComponentFault.TheVariants.{Element, Script}
use Rattle.file_faults.specs.declared.source.SourceFault.{SourceFault}
use Rattle.component_sources.proofs.Scripts.{OneTree, OneFault, NeverBoth, TreeOrFault, same_trees, same_fault, not_both, trees_or_fault}

abbrev OneFile : Type 0
OneFile = (bytes : List ℕ) (f g : ComponentFile) → IsComponent bytes f → IsComponent bytes g → f ≡ g

abbrev OneSyntax : Type 0
OneSyntax = (bytes : List ℕ) (m n : ℕ) → IsFirstFault bytes m → IsFirstFault bytes n → m ≡ n

abbrev FileOrFault : Type 0
FileOrFault = (bytes : List ℕ) → ((f : ComponentFile) × IsComponent bytes f) ⊎ ((n : ℕ) × IsFirstFault bytes n)

abbrev NeverBothOfFiles : Type 0
NeverBothOfFiles = (bytes : List ℕ) (f : ComponentFile) (n : ℕ) → IsComponent bytes f → IsFirstFault bytes n → ⊥

abbrev with_parts : ComponentFile → List (List NamedFunction) → CheckedComponent
with_parts file scripts = record { file = file; scripts = scripts }

same_parts : (a b : CheckedComponent) → a.file ≡ b.file → a.scripts ≡ b.scripts → with_parts a.file a.scripts ≡ with_parts b.file b.scripts
same_parts a b e d = ap (λ f. with_parts f a.scripts) e ∙ ap (with_parts b.file) d

pub one_component : OneTree → OneFile → (bytes : List ℕ) (a b : CheckedComponent) → IsGoodComponent bytes a → IsGoodComponent bytes b → a ≡ b
one_component tree file bytes a b x y =
    let same = file bytes a.file b.file x.file y.file in
    same_parts a b same (same_trees tree (inline_scripts b.file.scripts) a.scripts b.scripts (subst (λ (f : ComponentFile). AreGoodScripts (inline_scripts f.scripts) a.scripts) same x.scripts) y.scripts)

abbrev on_line : ℕ → ComponentSyntax
on_line n = record { line = n }

same_syntax : (a b : ComponentSyntax) → a.line ≡ b.line → on_line a.line ≡ on_line b.line
same_syntax a b e = ap on_line e

pub one_fault : OneFault → NeverBoth → OneFile → OneSyntax → NeverBothOfFiles → (bytes : List ℕ) (a b : ComponentFault) → IsComponentFault bytes a → IsComponentFault bytes b → a ≡ b
one_fault fault never file syntax both bytes (Element a) (Element b) x y = ap Element (same_syntax a b (syntax bytes a.line b.line x y))
one_fault fault never file syntax both bytes (Element a) (Script b) x y = absurd (both bytes y.file a.line y.is x)
one_fault fault never file syntax both bytes (Script a) (Element b) x y = absurd (both bytes x.file b.line x.is y)
one_fault fault never file syntax both bytes (Script a) (Script b) x y =
    let same = file bytes x.file y.file x.is y.is in
    ap Script (same_fault fault never (inline_scripts y.file.scripts) a b (subst (λ (f : ComponentFile). IsScriptFault (inline_scripts f.scripts) a) same x.first) y.first)

pub never_both : NeverBoth → OneFile → NeverBothOfFiles → (bytes : List ℕ) (c : CheckedComponent) (f : ComponentFault) → IsGoodComponent bytes c → IsComponentFault bytes f → ⊥
never_both never file both bytes c (Element s) x y = both bytes c.file s.line x.file y
never_both never file both bytes c (Script f) x y =
    let same = file bytes c.file y.file x.file y.is in
    not_both never (inline_scripts y.file.scripts) c.scripts f (subst (λ (g : ComponentFile). AreGoodScripts (inline_scripts g.scripts) c.scripts) same x.scripts) y.first

abbrev Either_ : List ℕ → Type 0
Either_ bytes = ((c : CheckedComponent) × IsGoodComponent bytes c) ⊎ ((f : ComponentFault) × IsComponentFault bytes f)

pub component_or_fault : TreeOrFault → FileOrFault → (bytes : List ℕ) → Either_ bytes
component_or_fault tree file bytes = go (file bytes)
  where
    of_scripts : (f : ComponentFile) → IsComponent bytes f → ((ts : List (List NamedFunction)) × AreGoodScripts (inline_scripts f.scripts) ts) ⊎ ((g : SourceFault) × IsScriptFault (inline_scripts f.scripts) g) → Either_ bytes
    of_scripts f is (inl (ts, good)) = inl (record { file = f; scripts = ts }, record { file = is; scripts = good })
    of_scripts f is (inr (g, first)) = inr (Script g, record { file = f; is = is; first = first })

    go : ((f : ComponentFile) × IsComponent bytes f) ⊎ ((n : ℕ) × IsFirstFault bytes n) → Either_ bytes
    go (inl (f, is)) = of_scripts f is (trees_or_fault tree (inline_scripts f.scripts))
    go (inr (n, is)) = inr (Element (record { line = n }), is)

-- ---- reading

pub good_is : (bytes : List ℕ) (file : ComponentFile) (r : Result CheckedComponent ComponentFileAnswer)
    → IfOk r (λ (c : CheckedComponent). (c.file ≡ file) × AreGoodScripts (inline_scripts file.scripts) c.scripts) → IsComponent bytes file → IfOk r (IsGoodComponent bytes)
good_is bytes file (Ok c) good is =
    record {
      file = subst (IsComponent bytes) (sym good.0) is;
      scripts = subst (λ (f : ComponentFile). AreGoodScripts (inline_scripts f.scripts) c.scripts) (sym good.0) good.1;
    }
good_is bytes file (Err e) good is = tt

pub script_fault : (bytes : List ℕ) (file : ComponentFile) (scripts : List ScriptElement) (fault : SourceFault) (found : ComponentFault) → scripts ≡ file.scripts
    → IsScriptFault (inline_scripts scripts) fault → Script fault ≡ found → IsComponent bytes file → IsComponentFault bytes found
script_fault bytes file scripts fault found are first same is =
    subst (IsComponentFault bytes) same (record { file = file; is = is; first = subst (λ ss. IsScriptFault (inline_scripts ss) fault) are first })

pub element_fault : (bytes : List ℕ) (fault : ComponentSyntax) (found : ComponentFault) → IsFirstFault bytes fault.line → Element fault ≡ found → IsComponentFault bytes found
element_fault bytes fault found first same = subst (IsComponentFault bytes) same first

-- what is answered is right, so what is right is answered
pub all_checked : (bytes : List ℕ) (r : Result CheckedComponent ComponentFileAnswer)
    → ((a b : CheckedComponent) → IsGoodComponent bytes a → IsGoodComponent bytes b → a ≡ b)
    → ((c : CheckedComponent) (f : ComponentFault) → IsGoodComponent bytes c → IsComponentFault bytes f → ⊥)
    → IfOk r (IsGoodComponent bytes) → ((f : ComponentFault) → r ≡ Err (answer.Fault f) → IsComponentFault bytes f)
    → (c : CheckedComponent) → IsGoodComponent bytes c → IsChecked c r
all_checked bytes (Ok found) one never file fault c good = one found c file good
all_checked bytes (Err (answer.Fault f)) one never file fault c good = never c f good (fault f refl)
all_checked bytes (Err answer.NoMemory) one never file fault c good = tt

pub all_refused : (bytes : List ℕ) (r : Result CheckedComponent ComponentFileAnswer)
    → ((a b : ComponentFault) → IsComponentFault bytes a → IsComponentFault bytes b → a ≡ b)
    → ((c : CheckedComponent) (f : ComponentFault) → IsGoodComponent bytes c → IsComponentFault bytes f → ⊥)
    → IfOk r (IsGoodComponent bytes) → ((f : ComponentFault) → r ≡ Err (answer.Fault f) → IsComponentFault bytes f)
    → (f : ComponentFault) → IsComponentFault bytes f → IsRefusedComponent f r
all_refused bytes (Ok found) one never file fault f is = never found f file is
all_refused bytes (Err (answer.Fault g)) one never file fault f is = one g f (fault g refl) is
all_refused bytes (Err answer.NoMemory) one never file fault f is = tt
