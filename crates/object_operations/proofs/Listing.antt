-- Lists of two and three arguments, item by item.
use Rattle.std.proofs.Common.{◌≡◌, ◌<◌, ◌≤◌, List, [], ◌∷◌, length, take, drop, ◌-◌, sym, ap, ◌∙◌, arith, get_or}
use Rattle.object_operations.proofs.Lists.{take_whole}

pub two : {A : Type 0} (vs : List A) (x k : A) → 2 ≤ length vs → length vs < 3 → x ≡ get_or vs 0 x → k ≡ get_or vs 1 k → vs ≡ x ∷ k ∷ []
two [] x k l m e f = absurd (omega arith)
two (a ∷ []) x k l m e f = absurd (omega arith)
two (a ∷ b ∷ []) x k l m e f = let e' : x ≡ a = e in let f' : k ≡ b = f in cc
two (a ∷ b ∷ c ∷ vs) x k l m e f = absurd (omega arith)

pub three : {A : Type 0} (vs : List A) (x k v : A) → 3 ≤ length vs → length vs < 4 → x ≡ get_or vs 0 x → k ≡ get_or vs 1 k → v ≡ get_or vs 2 v → vs ≡ x ∷ k ∷ v ∷ []
three [] x k v l m e f g = absurd (omega arith)
three (a ∷ []) x k v l m e f g = absurd (omega arith)
three (a ∷ b ∷ []) x k v l m e f g = absurd (omega arith)
three (a ∷ b ∷ c ∷ []) x k v l m e f g = let e' : x ≡ a = e in let f' : k ≡ b = f in let g' : v ≡ c = g in cc
three (a ∷ b ∷ c ∷ d ∷ vs) x k v l m e f g = absurd (omega arith)

pub first : {A : Type 0} (vs : List A) (x : A) → 1 ≤ length vs → x ≡ get_or vs 0 x → vs ≡ x ∷ take (length vs - 1) (drop 1 vs)
first [] x l e = absurd (omega arith)
first (a ∷ vs) x l e =
    let n : length (a ∷ vs) - 1 ≡ length vs = omega arith in
    let rest : take (length (a ∷ vs) - 1) vs ≡ vs = ap (λ j. take j vs) n ∙ take_whole vs in
    ap (λ y. y ∷ vs) (sym e) ∙ ap (λ r. x ∷ r) (sym rest)

pub only_one : {A : Type 0} (vs : List A) (x : A) → 1 ≤ length vs → length vs < 2 → x ≡ get_or vs 0 x → vs ≡ x ∷ []
only_one [] x l m e = absurd (omega arith)
only_one (a ∷ []) x l m e = ap (λ y. y ∷ []) (sym e)
only_one (a ∷ b ∷ vs) x l m e = absurd (omega arith)
