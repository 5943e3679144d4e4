-- The numbers of functions are below 2^32.
use Rattle.std.proofs.Common.{◌≡◌, ℕ, zero, suc, ◌+◌, ◌<◌, ◌≤◌, Bool, true, false, cond, List, [], ◌∷◌, ◌++◌, Option, Some, None, length, get_or, sym, arith, subst}
use Rattle.std.specs.Prelude.{filter}
use Rattle.std.specs.List.{AllByRecursion, flat_map}
use Rattle.std.proofs.lemmas.List.Sums.{sum_by-cons}
use Rattle.component_files.specs.declared.element.InlineScript.{InlineScript}
use Rattle.component_files.specs.declared.element.ScriptElement.{ScriptElement}
use Rattle.folder_rules.specs.declared.component.PathedComponent.{PathedComponent}
use Rattle.folder_rules.specs.declared.source.DeclaredFunction.{DeclaredFunction}
use Rattle.folder_rules.specs.declared.source.SourceFunctions.{SourceFunctions}
use Rattle.folder_rules.specs.Names.{is_among}
use Rattle.folder_rules.specs.Scripts.{Source, each_once, functions_from, functions_in, inline_left, inline_source, is_file, is_in_source, is_inline_in, numbered, own_functions, path_of_uri, script_sources, source_functions, uri_source}
use Rattle.script_faults.specs.Functions.{functions_of}
use Rattle.script_faults.specs.Sources.{function_count}
use Rattle.script_faults.specs.declared.functions.PlacedFunction.{PlacedFunction}
use Rattle.kind_tables.specs.Rows.{AreFew, AreSmall, IsSmall}

both : {A : Type 0} (P : A → Type 0) (xs ys : List A) → AllByRecursion P xs → AllByRecursion P ys → AllByRecursion P (xs ++ ys)
both P [] ys a b = b
both P (x ∷ xs) ys a b = (a.0, both P xs ys a.1 b)

kept : {A : Type 0} (P : A → Type 0) (test : A → Bool) (xs : List A) → AllByRecursion P xs → AllByRecursion P (filter test xs)
kept P test [] a = tt
kept P test (x ∷ xs) a = go (test x) (kept P test xs a.1)
  where
    go : (b : Bool) → AllByRecursion P (filter test xs) → AllByRecursion P (cond b (x ∷ filter test xs) (filter test xs))
    go true h = (a.0, h)
    go false h = h

-- ---- source texts

numbered_few : (n : ℕ) (ss : List SourceFunctions) → n + function_count ss ≤ 4294967296 → AreFew (numbered n ss)
numbered_few n [] h = tt
numbered_few n (s ∷ ss) h =
    let count = sum_by-cons (λ (s : SourceFunctions). length s.functions) s ss in
    (omega (arith, count), numbered_few (n + length s.functions) ss (omega (arith, count)))

pub few : (ss : List SourceFunctions) → function_count ss < 4294967296 → AreFew (numbered 0 ss)
few ss h = numbered_few 0 ss (omega arith)

uri_few : (all : List Source) (path : List ℕ) (uri : Option (List ℕ)) → AreFew all → AreFew (uri_source all path uri)
uri_few all path None a = tt
uri_few all path (Some uri) a = kept (λ s. s.number + length s.text.functions ≤ 4294967296) (is_file (path_of_uri path uri)) all a

inline_few : (script : Option InlineScript) (inline : List Source) → AreFew inline → AreFew (inline_source script inline)
inline_few None inline a = tt
inline_few (Some script) [] a = tt
inline_few (Some script) (s ∷ inline) a = (a.0, tt)

left_few : (script : Option InlineScript) (inline : List Source) → AreFew inline → AreFew (inline_left script inline)
left_few None inline a = a
left_few (Some script) [] a = tt
left_few (Some script) (s ∷ inline) a = a.1

abbrev Few : Source → Type 0
Few s = s.number + length s.text.functions ≤ 4294967296

scripts_few : (all : List Source) (path : List ℕ) (inline : List Source) (scripts : List ScriptElement) → AreFew all → AreFew inline → AreFew (script_sources all path inline scripts)
scripts_few all path inline [] a b = tt
scripts_few all path inline (s ∷ ss) a b =
    both Few (uri_source all path s.uri) (inline_source s.inline inline ++ script_sources all path (inline_left s.inline inline) ss) (uri_few all path s.uri a)
    (both Few (inline_source s.inline inline) (script_sources all path (inline_left s.inline inline) ss) (inline_few s.inline inline b) (scripts_few all path (inline_left s.inline inline) ss a (left_few s.inline inline b)))

once_few : (named : List (List ℕ)) (ss : List Source) → AreFew ss → AreFew (each_once named ss)
once_few named [] a = tt
once_few named (s ∷ ss) a = go (λ other. once_few other ss a.1) s.text.inline (is_among named s.text.path)
  where
    go : ((other : List (List ℕ)) → AreFew (each_once other ss)) → (inline known : Bool) → AreFew (cond inline (s ∷ each_once named ss) (cond known (each_once named ss) (s ∷ each_once (named ++ s.text.path ∷ []) ss)))
    go rest true known = (a.0, rest named)
    go rest false true = rest named
    go rest false false = (a.0, rest (named ++ s.text.path ∷ []))

-- ---- functions

from_small : (n : ℕ) (path : List ℕ) (fs : List DeclaredFunction) → n + length fs ≤ 4294967296 → AreSmall (functions_from n path fs)
from_small n path [] h = tt
from_small n path (f ∷ fs) h = (omega arith, from_small (n + 1) path fs (omega arith))

all_small : (ss : List Source) → AreFew ss → AreSmall (flat_map functions_in ss)
all_small [] a = tt
all_small (s ∷ ss) a = both (λ f. f.number < 4294967296) (functions_in s) (flat_map functions_in ss) (from_small s.number s.text.path s.text.functions a.0) (all_small ss a.1)

pub own_small : (all : List Source) (c : PathedComponent) → AreFew all → AreSmall (own_functions all c)
own_small all c a =
    let scripts = script_sources all c.path (filter (is_inline_in c.path) all) c.file.scripts in
    all_small (each_once [] scripts) (once_few [] scripts (scripts_few all c.path (filter (is_inline_in c.path) all) c.file.scripts a (kept Few (is_inline_in c.path) all a)))

pub source_small : (all : List Source) → AreFew all → AreSmall (source_functions all)
source_small all a = all_small (filter (λ s. is_in_source s.text) all) (kept Few (λ s. is_in_source s.text) all a)

pub small_at : (fs : List PlacedFunction) → AreSmall (functions_of fs) → (i : ℕ) (f : PlacedFunction) → i < length fs → f ≡ get_or fs i f → IsSmall f
small_at [] a i f h e = absurd (omega arith)
small_at (g ∷ fs) a zero f h e = subst IsSmall (sym e) a.0
small_at (g ∷ fs) a (suc i) f h e = small_at fs a.1 i f (omega arith) e
