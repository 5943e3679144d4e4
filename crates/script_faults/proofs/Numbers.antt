-- Source texts and functions that are numbered in order, and one more.
use Rattle.std.proofs.Common.{◌≡◌, ℕ, zero, suc, ◌+◌, ◌<◌, List, [], ◌∷◌, ◌++◌, length, take, get_or, refl, sym, ap, ◌∙◌, arith}
use Rattle.std.proofs.lemmas.List.{take_more}
use Rattle.std.proofs.lemmas.List.Sums.{sum_by-cons}
use Rattle.folder_rules.specs.declared.source.DeclaredFunction.{DeclaredFunction}
use Rattle.folder_rules.specs.declared.source.SourceFunctions.{SourceFunctions}
use Rattle.folder_rules.specs.Scripts.{Source, numbered, Function, functions_from}
use Rattle.script_faults.specs.Sources.{function_count}

abbrev pub source_at : ℕ → SourceFunctions → Source
source_at number text = record { number = number; text = text }

numbered_behind : (n : ℕ) (xs : List SourceFunctions) (x : SourceFunctions) → numbered n (xs ++ x ∷ []) ≡ numbered n xs ++ source_at (n + function_count xs) x ∷ []
numbered_behind n [] x = ap (λ k. source_at k x ∷ []) (omega arith)
numbered_behind n (y ∷ ys) x =
    let count = sum_by-cons (λ (s : SourceFunctions). length s.functions) y ys in
    let here = length y.functions in
    let same : n + here + function_count ys ≡ n + function_count (y ∷ ys) = omega (arith, count) in
    ap (λ l. source_at n y ∷ l) (numbered_behind (n + here) ys x ∙ ap (λ k. numbered (n + here) ys ++ source_at k x ∷ []) same)

pub numbered_more : (xs : List SourceFunctions) (i : ℕ) (x : SourceFunctions) → i < length xs → x ≡ get_or xs i x → numbered 0 (take (i + 1) xs) ≡ numbered 0 (take i xs) ++ source_at (function_count (take i xs)) x ∷ []
numbered_more xs i x h e =
    let plain : 0 + function_count (take i xs) ≡ function_count (take i xs) = omega arith in
    ap (numbered 0) (take_more xs i x h)
    ∙ numbered_behind 0 (take i xs) (get_or xs i x)
    ∙ ap (λ y. numbered 0 (take i xs) ++ source_at (0 + function_count (take i xs)) y ∷ []) (sym e)
    ∙ ap (λ k. numbered 0 (take i xs) ++ source_at k x ∷ []) plain

abbrev pub placed : ℕ → List ℕ → DeclaredFunction → Function
placed number path f = record { number = number; path = path; name = f.name; line = f.line; column = f.column }

functions_behind : (n : ℕ) (path : List ℕ) (fs : List DeclaredFunction) (f : DeclaredFunction) → functions_from n path (fs ++ f ∷ []) ≡ functions_from n path fs ++ placed (n + length fs) path f ∷ []
functions_behind n path [] f = ap (λ k. placed k path f ∷ []) (omega arith)
functions_behind n path (g ∷ gs) f =
    let same : n + 1 + length gs ≡ n + length (g ∷ gs) = omega arith in
    ap (λ l. placed n path g ∷ l) (functions_behind (n + 1) path gs f ∙ ap (λ k. functions_from (n + 1) path gs ++ placed k path f ∷ []) same)

pub functions_more : (n : ℕ) (path : List ℕ) (fs : List DeclaredFunction) (i : ℕ) (f : DeclaredFunction) → i < length fs → f ≡ get_or fs i f
    → functions_from n path (take (i + 1) fs) ≡ functions_from n path (take i fs) ++ placed (n + i) path f ∷ []
functions_more n path fs i f h e =
    let count : length (take i fs) ≡ i = taken fs i h in
    ap (functions_from n path) (take_more fs i f h)
    ∙ functions_behind n path (take i fs) (get_or fs i f)
    ∙ ap (λ g. functions_from n path (take i fs) ++ placed (n + length (take i fs)) path g ∷ []) (sym e)
    ∙ ap (λ k. functions_from n path (take i fs) ++ placed (n + k) path f ∷ []) count
  where
    taken : (xs : List DeclaredFunction) (j : ℕ) → j < length xs → length (take j xs) ≡ j
    taken [] j l = absurd (omega arith)
    taken (x ∷ xs) zero l = refl
    taken (x ∷ xs) (suc j) l = ap suc (taken xs j (omega arith))
