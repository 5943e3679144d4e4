-- The turns of a loop that looks for the first that is wrong, where each turn looks at a list.
use Rattle.std.proofs.Common.{◌≡◌, ℕ, ◌+◌, ◌<◌, ◌≤◌, inl, inr, List, [], ◌∷◌, ◌++◌, Option, Some, None, Err, length, drop, get_or, refl, sym, ap, subst}
use Rattle.std.specs.List.{flat_map}
use Rattle.chan_values.specs.declared.folder_fault.FolderFault.{FolderFault}
use Rattle.folder_rules.specs.declared.answer.TablesAnswer.{TablesAnswer}
use Rattle.folder_rules.specs.Answers.{Finds}
use Rattle.folder_rules.specs.FirstFault.{IsFirstWrong}
use Rattle.folder_rules.proofs.Found.{err_weaker}
use Rattle.folder_rules.proofs.Lists.{drop_here, drop_end}

-- what is left of a list has the first wrong one of the whole
abbrev pub LeftOf : {A B : Type 0} → (B → Type 0) → (B → FolderFault) → (A → List B) → List A → ℕ → Type 0
LeftOf wrong fault g xs i = (found : Option FolderFault) → IsFirstWrong wrong fault (flat_map g (drop i xs)) found → IsFirstWrong wrong fault (flat_map g xs) found

module _ {B : Type 0} (wrong : B → Type 0) (fault : B → FolderFault) where
  behind : (xs ys : List B) (found : Option FolderFault) → IsFirstWrong wrong fault xs None → IsFirstWrong wrong fault ys found → IsFirstWrong wrong fault (xs ++ ys) found
  behind [] ys found none f = f
  behind (x ∷ xs) ys found (inl n) f = absurd cc
  behind (x ∷ xs) ys found (inr n) f = inr (n.0, behind xs ys found n.1 f)

  in_front : (xs ys : List B) (f : FolderFault) → IsFirstWrong wrong fault xs (Some f) → IsFirstWrong wrong fault (xs ++ ys) (Some f)
  in_front [] ys f e = absurd cc
  in_front (x ∷ xs) ys f (inl w) = inl w
  in_front (x ∷ xs) ys f (inr n) = inr (n.0, in_front xs ys f n.1)

  module _ {A : Type 0} (g : A → List B) (xs : List A) (i : ℕ) where
    here : (x : A) → i < length xs → x ≡ get_or xs i x → g x ++ flat_map g (drop (i + 1) xs) ≡ flat_map g (drop i xs)
    here x h at = ap (flat_map g) (sym (drop_here xs i x h at))

    pub lists_next : (x : A) → i < length xs → x ≡ get_or xs i x → LeftOf wrong fault g xs i → IsFirstWrong wrong fault (g x) None → LeftOf wrong fault g xs (i + 1)
    lists_next x h at left none = λ found f. left found (subst (λ l. IsFirstWrong wrong fault l found) (here x h at) (behind (g x) (flat_map g (drop (i + 1) xs)) found none f))

    pub lists_refused : (T U : Type 0) (x : A) → i < length xs → x ≡ get_or xs i x → LeftOf wrong fault g xs i → (e : TablesAnswer) → Finds {T = T} (IsFirstWrong wrong fault (g x)) (Err e) → Finds {T = U} (IsFirstWrong wrong fault (flat_map g xs)) (Err e)
    lists_refused T U x h at left e found =
        err_weaker T U (IsFirstWrong wrong fault (g x)) (IsFirstWrong wrong fault (flat_map g xs)) (λ f j. left (Some f) (subst (λ l. IsFirstWrong wrong fault l (Some f)) (here x h at) (in_front (g x) (flat_map g (drop (i + 1) xs)) f j))) e found

    pub lists_end : length xs ≤ i → LeftOf wrong fault g xs i → IsFirstWrong wrong fault (flat_map g xs) None
    lists_end h left = left None (subst (λ l. IsFirstWrong wrong fault (flat_map g l) None) (sym (drop_end xs i h)) refl)
