-- The first item that passes a test: its place, and a change there.
use Rattle.std.proofs.Common.{◌≡◌, ℕ, suc, ◌+◌, ◌<◌, ◌≤◌, Bool, true, false, not, cond, List, [], ◌∷◌, Option, Some, None, length, set, get_or, refl, sym, ap, ◌∙◌, arith}
use Rattle.std.specs.Prelude.{◌==◌, ◌||◌, nat_lt, position, remove, find, slice_get, if◌then◌else◌}
use Rattle.std.specs.List.{position_or_len}
use Rattle.std.proofs.lemmas.Bool.{ltb-true, ltb-false}
use Rattle.std.proofs.lemmas.Option.{cond_some, slice_get_read}
use Rattle.node_tree.specs.Nodes.{change_first}
use Rattle.node_tree.specs.Family.{has, without}

-- ---- where it stands

cut_step : {A : Type 0} (b : Bool) (x : A) (xs : List A) (n : ℕ) (rest : List A) → (n < length xs → remove xs n ≡ rest) → cond (not b) (1 + n) 0 < suc (length xs) → remove (x ∷ xs) (cond (not b) (1 + n) 0) ≡ (if b then xs else (x ∷ rest))
cut_step true x xs n rest ih h = refl
cut_step false x xs n rest ih h =
    let next : 1 + n ≡ suc n = omega arith in
    let within : n < length xs = omega arith in
    ap (remove (x ∷ xs)) next ∙ ap (λ r. x ∷ r) (ih within)

pub without_at : (c : ℕ) (ks : List ℕ) → position_or_len (λ k. k == c) ks < length ks → remove ks (position_or_len (λ k. k == c) ks) ≡ without c ks
without_at c [] h = absurd (omega arith)
without_at c (k ∷ ks) h = cut_step (k == c) k ks (position_or_len (λ i. i == c) ks) (without c ks) (without_at c ks) h

keep_step : {A : Type 0} (b : Bool) (x : A) (xs : List A) (n : ℕ) (other rest : List A) → (length xs ≤ n → rest ≡ xs) → suc (length xs) ≤ cond (not b) (1 + n) 0 → (if b then other else (x ∷ rest)) ≡ x ∷ xs
keep_step true x xs n other rest ih h = absurd (omega arith)
keep_step false x xs n other rest ih h = let past : length xs ≤ n = omega arith in ap (λ r. x ∷ r) (ih past)

pub without_none : (c : ℕ) (ks : List ℕ) → length ks ≤ position_or_len (λ k. k == c) ks → without c ks ≡ ks
without_none c [] h = refl
without_none c (k ∷ ks) h = keep_step (k == c) k ks (position_or_len (λ i. i == c) ks) ks (without c ks) (without_none c ks) h

any_step : (b : Bool) (n m : ℕ) (r : Bool) → (m ≤ n → r ≡ false) → suc m ≤ cond (not b) (1 + n) 0 → (b || r) ≡ false
any_step true n m r ih h = absurd (omega arith)
any_step false n m r ih h = let past : m ≤ n = omega arith in ih past

pub has_none : (c : ℕ) (ks : List ℕ) → length ks ≤ position_or_len (λ k. k == c) ks → has c ks ≡ false
has_none c [] h = refl
has_none c (k ∷ ks) h = any_step (k == c) (position_or_len (λ i. i == c) ks) (length ks) (has c ks) (has_none c ks) h

-- ---- by the answer of a search

pub within_by : {A : Type 0} (p : A → Bool) (xs : List A) (at : ℕ) → position p xs ≡ Some at → (position_or_len p xs ≡ at) × (position_or_len p xs < length xs)
within_by p xs at e = let h = cond_some _ _ _ e in (h.1, ltb-true _ _ h.0)

pub past_by : {A : Type 0} (p : A → Bool) (xs : List A) → position p xs ≡ None → length xs ≤ position_or_len p xs
past_by p xs e = go _ refl e
  where
    go : (b : Bool) → nat_lt (position_or_len p xs) (length xs) ≡ b → cond b (Some (position_or_len p xs)) None ≡ None → length xs ≤ position_or_len p xs
    go true f g = absurd cc
    go false f g = ltb-false _ _ f

pub removed_at : (c : ℕ) (ks : List ℕ) (at : ℕ) → position (λ k. k == c) ks ≡ Some at → remove ks at ≡ without c ks
removed_at c ks at e =
    let h = within_by (λ k. k == c) ks at e in
    ap (remove ks) (sym h.0) ∙ without_at c ks h.1

pub removed_none : (c : ℕ) (ks : List ℕ) → position (λ k. k == c) ks ≡ None → ks ≡ without c ks
removed_none c ks e = sym (without_none c ks (past_by _ ks e))

pub absent : (c : ℕ) (ks : List ℕ) → position (λ k. k == c) ks ≡ None → has c ks ≡ true → ⊥
absent c ks e f = let g = has_none c ks (past_by _ ks e) in cc

-- ---- a change there

change_step : {A : Type 0} (f : A → A) (b : Bool) (x y : A) (xs : List A) (n : ℕ) (rest : List A) → (n < length xs → slice_get xs n ≡ Some x → set xs n (f x) ≡ rest) → cond (not b) (1 + n) 0 < suc (length xs) → slice_get (y ∷ xs) (cond (not b) (1 + n) 0) ≡ Some x → set (y ∷ xs) (cond (not b) (1 + n) 0) (f x) ≡ (if b then f y ∷ xs else (y ∷ rest))
change_step f true x y xs n rest ih h e = let same : x ≡ y = cc in ap (λ z. f z ∷ xs) same
change_step f false x y xs n rest ih h e =
    let next : 1 + n ≡ suc n = omega arith in
    let within : n < length xs = omega arith in
    ap (λ i. set (y ∷ xs) i (f x)) next ∙ ap (λ r. y ∷ r) (ih within (ap (slice_get (y ∷ xs)) (sym next) ∙ e))

change_place : {A : Type 0} (p : A → Bool) (f : A → A) (xs : List A) (x : A) → position_or_len p xs < length xs → slice_get xs (position_or_len p xs) ≡ Some x → set xs (position_or_len p xs) (f x) ≡ change_first p f xs
change_place p f [] x h e = absurd (omega arith)
change_place p f (y ∷ xs) x h e = change_step f (p y) x y xs (position_or_len p xs) (change_first p f xs) (change_place p f xs x) h e

change_past : {A : Type 0} (p : A → Bool) (f : A → A) (xs : List A) → length xs ≤ position_or_len p xs → change_first p f xs ≡ xs
change_past p f [] h = refl
change_past p f (y ∷ xs) h = keep_step (p y) y xs (position_or_len p xs) (f y ∷ xs) (change_first p f xs) (change_past p f xs) h

pub changed_at : {A : Type 0} (p : A → Bool) (f : A → A) (xs : List A) (at : ℕ) (x : A) → position p xs ≡ Some at → x ≡ get_or xs at x → set xs at (f x) ≡ change_first p f xs
changed_at p f xs at x e r =
    let h = within_by p xs at e in
    let read : slice_get xs (position_or_len p xs) ≡ Some x = slice_get_read xs (length xs) (position_or_len p xs) x refl h.1 (r ∙ ap (λ i. get_or xs i x) (sym h.0)) in
    ap (λ i. set xs i (f x)) (sym h.0) ∙ change_place p f xs x h.1 read

pub changed_none : {A : Type 0} (p : A → Bool) (f : A → A) (xs : List A) → position p xs ≡ None → xs ≡ change_first p f xs
changed_none p f xs e = sym (change_past p f xs (past_by p xs e))

-- a change that leaves the first such item as it is changes nothing
same_step : {A : Type 0} (f : A → A) (b : Bool) (x y : A) (xs : List A) (o : Option A) (rest : List A) → (o ≡ Some x → rest ≡ xs) → cond b (Some y) o ≡ Some x → f x ≡ x → (if b then f y ∷ xs else (y ∷ rest)) ≡ y ∷ xs
same_step f true x y xs o rest ih e s = let same : y ≡ x = cc in ap (λ z. f z ∷ xs) same ∙ ap (λ z. z ∷ xs) (s ∙ sym same)
same_step f false x y xs o rest ih e s = ap (λ r. y ∷ r) (ih e)

pub same_first : {A : Type 0} (p : A → Bool) (f : A → A) (xs : List A) (x : A) → find p xs ≡ Some x → f x ≡ x → change_first p f xs ≡ xs
same_first p f [] x e s = refl
same_first p f (y ∷ xs) x e s = same_step f (p y) x y xs (find p xs) (change_first p f xs) (λ k. same_first p f xs x k s) e s
