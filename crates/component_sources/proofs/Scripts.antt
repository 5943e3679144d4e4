-- Inline scripts one after another.
use Rattle.std.proofs.Common.{◌≡◌, ℕ, ◌⊎◌, inl, inr, zero, suc, ◌+◌, ◌<◌, List, [], ◌∷◌, ◌++◌, length, take, drop, get_or, Option, Some, None, Result, Ok, Err, arith, refl, sym, ap, ◌∙◌, subst}
use Rattle.std.specs.Prelude.{filter_map, OnOk}
use Rattle.std.specs.List.{cons_option}
use Rattle.std.proofs.Math.Seq.{drop-cons}
use Rattle.std.proofs.lemmas.List.{take_more, take-append-drop}
use Rattle.std.proofs.lemmas.List.Elements.{filter_map-append}
use Rattle.std.specs.Option.{option_to_list}
use Rattle.brs_grammar.specs.declared.tree.NamedFunction.{NamedFunction}
use Rattle.component_files.specs.declared.element.InlineScript.{InlineScript}
use Rattle.component_files.specs.declared.element.ScriptElement.{ScriptElement}
use Rattle.file_faults.specs.SourceFaults.{IsGoodSource, IsSourceFault}
use Rattle.component_sources.specs.ComponentFaults.{AreGoodScripts, IsScriptFault, InlineFits, ScriptsFit, inline_scripts}
use Rattle.file_faults.specs.declared.source.SourceFault.{SourceFault}

-- ---- in a loop

pub good_more : (before : List InlineScript) (s : InlineScript) (ts : List (List NamedFunction)) (t : List NamedFunction)
    → AreGoodScripts before ts → IsGoodSource s.text s.first_line t → AreGoodScripts (before ++ s ∷ []) (ts ++ t ∷ [])
good_more [] s [] t x y = (y, tt)
good_more [] s (u ∷ ts) t x y = absurd x
good_more (b ∷ before) s [] t x y = absurd x
good_more (b ∷ before) s (u ∷ ts) t x y = (x.0, good_more before s ts t x.1 y)

pub fault_here : (before after : List InlineScript) (s : InlineScript) (ts : List (List NamedFunction)) (f : SourceFault)
    → AreGoodScripts before ts → IsSourceFault s.text s.first_line f → IsScriptFault (before ++ s ∷ after) f
fault_here [] after s ts f x y = inl y
fault_here (b ∷ before) after s [] f x y = absurd x
fault_here (b ∷ before) after s (u ∷ ts) f x y = inr (u, x.0, fault_here before after s ts f x.1 y)

-- where the tree was added
pub good_told : {T E : Type 0} (r : Result T E) (s : InlineScript) (old new : List (List NamedFunction)) (t : List NamedFunction)
    → OnOk r (new ≡ old ++ t ∷ []) → IsGoodSource s.text s.first_line t → OnOk r ((before : List InlineScript) → AreGoodScripts before old → AreGoodScripts (before ++ s ∷ []) new)
good_told (Ok x) s old new t e is = λ before are. subst (AreGoodScripts (before ++ s ∷ [])) (sym e) (good_more before s old t are is)
good_told (Err x) s old new t e is = tt

-- ---- the scripts of a component

cons_is : (o : Option InlineScript) (l : List InlineScript) → cons_option o l ≡ option_to_list o ++ l
cons_is None l = refl
cons_is (Some s) l = refl

alone : (o : Option InlineScript) → cons_option o [] ≡ option_to_list o
alone None = refl
alone (Some s) = refl

abbrev inline_of : ScriptElement → Option InlineScript
inline_of s = s.inline

pub inline_more : (scripts : List ScriptElement) (i : ℕ) (s : ScriptElement) → i < length scripts → get_or scripts i s ≡ s
    → inline_scripts (take i scripts) ++ option_to_list s.inline ≡ inline_scripts (take (i + 1) scripts)
inline_more scripts i s h at =
    sym (ap inline_scripts (take_more scripts i s h ∙ ap (λ x. take i scripts ++ x ∷ []) at)
    ∙ filter_map-append inline_of (take i scripts) (s ∷ [])
    ∙ ap (λ l. inline_scripts (take i scripts) ++ l) (alone s.inline))

inline_split : (scripts : List ScriptElement) (i : ℕ) (s : ScriptElement) → i < length scripts → get_or scripts i s ≡ s
    → inline_scripts (take i scripts) ++ (option_to_list s.inline ++ inline_scripts (drop (suc i) scripts)) ≡ inline_scripts scripts
inline_split scripts i s h at =
    sym (ap inline_scripts (sym (take-append-drop i scripts))
    ∙ filter_map-append inline_of (take i scripts) (drop i scripts)
    ∙ ap (λ l. inline_scripts (take i scripts) ++ inline_scripts l) (drop-cons scripts i s h ∙ ap (λ x. x ∷ drop (suc i) scripts) at)
    ∙ ap (λ l. inline_scripts (take i scripts) ++ l) (cons_is s.inline (inline_scripts (drop (suc i) scripts))))

pub fault_at : (scripts : List ScriptElement) (i : ℕ) (s : ScriptElement) (fault : SourceFault) → i < length scripts → get_or scripts i s ≡ s
    → IsScriptFault (inline_scripts (take i scripts) ++ (option_to_list s.inline ++ inline_scripts (drop (suc i) scripts))) fault → IsScriptFault (inline_scripts scripts) fault
fault_at scripts i s fault h at is = subst (λ ss. IsScriptFault ss fault) (inline_split scripts i s h at) is

pub fits_at : (n : ℕ) (scripts : List ScriptElement) (i : ℕ) (s : ScriptElement) → ScriptsFit n scripts → i < length scripts → get_or scripts i s ≡ s → InlineFits n s.inline
fits_at n [] i s fit h at = absurd (omega arith)
fits_at n (x ∷ xs) zero s fit h at = subst (λ (y : ScriptElement). InlineFits n y.inline) at fit.0
fits_at n (x ∷ xs) (suc i) s fit h at = fits_at n xs i s fit.1 (omega arith) at

-- ---- laws

abbrev pub OneTree : Type 0
OneTree = (src : List ℕ) (n : ℕ) (a b : List NamedFunction) → IsGoodSource src n a → IsGoodSource src n b → a ≡ b

abbrev pub OneFault : Type 0
OneFault = (src : List ℕ) (n : ℕ) (a b : SourceFault) → IsSourceFault src n a → IsSourceFault src n b → a ≡ b

abbrev pub NeverBoth : Type 0
NeverBoth = (src : List ℕ) (n : ℕ) (functions : List NamedFunction) (fault : SourceFault) → IsGoodSource src n functions → IsSourceFault src n fault → ⊥

abbrev pub TreeOrFault : Type 0
TreeOrFault = (src : List ℕ) (n : ℕ) → ((functions : List NamedFunction) × IsGoodSource src n functions) ⊎ ((fault : SourceFault) × IsSourceFault src n fault)

pub same_trees : OneTree → (ss : List InlineScript) (a b : List (List NamedFunction)) → AreGoodScripts ss a → AreGoodScripts ss b → a ≡ b
same_trees law [] [] [] x y = refl
same_trees law [] [] (u ∷ b) x y = absurd y
same_trees law [] (t ∷ a) b x y = absurd x
same_trees law (s ∷ ss) [] b x y = absurd x
same_trees law (s ∷ ss) (t ∷ a) [] x y = absurd y
same_trees law (s ∷ ss) (t ∷ a) (u ∷ b) x y =
    let one = law s.text s.first_line t u x.0 y.0 in
    let more = same_trees law ss a b x.1 y.1 in
    cc

pub same_fault : OneFault → NeverBoth → (ss : List InlineScript) (f g : SourceFault) → IsScriptFault ss f → IsScriptFault ss g → f ≡ g
same_fault one never [] f g x y = absurd x
same_fault one never (s ∷ ss) f g (inl x) (inl y) = one s.text s.first_line f g x y
same_fault one never (s ∷ ss) f g (inl x) (inr (t, good, y)) = absurd (never s.text s.first_line t f good x)
same_fault one never (s ∷ ss) f g (inr (t, good, x)) (inl y) = absurd (never s.text s.first_line t g good y)
same_fault one never (s ∷ ss) f g (inr (t, good, x)) (inr (u, good', y)) = same_fault one never ss f g x y

pub not_both : NeverBoth → (ss : List InlineScript) (ts : List (List NamedFunction)) (f : SourceFault) → AreGoodScripts ss ts → IsScriptFault ss f → ⊥
not_both never [] ts f x y = y
not_both never (s ∷ ss) [] f x y = x
not_both never (s ∷ ss) (t ∷ ts) f x (inl y) = never s.text s.first_line t f x.0 y
not_both never (s ∷ ss) (t ∷ ts) f x (inr (u, good, y)) = not_both never ss ts f x.1 y

abbrev Either_ : List InlineScript → Type 0
Either_ ss = ((ts : List (List NamedFunction)) × AreGoodScripts ss ts) ⊎ ((f : SourceFault) × IsScriptFault ss f)

pub trees_or_fault : TreeOrFault → (ss : List InlineScript) → Either_ ss
trees_or_fault law [] = inl ([], tt)
trees_or_fault law (s ∷ ss) = go (law s.text s.first_line) (trees_or_fault law ss)
  where
    go : ((functions : List NamedFunction) × IsGoodSource s.text s.first_line functions) ⊎ ((fault : SourceFault) × IsSourceFault s.text s.first_line fault) → Either_ ss → Either_ (s ∷ ss)
    go (inr (f, x)) more = inr (f, inl x)
    go (inl (t, x)) (inl (ts, y)) = inl (t ∷ ts, (x, y))
    go (inl (t, x)) (inr (f, y)) = inr (f, inr (t, x, y))
