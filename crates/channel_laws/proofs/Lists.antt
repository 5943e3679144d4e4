-- Lists, lines and names.
use Rattle.std.proofs.Common.{◌≡◌, ℕ, zero, suc, Bool, true, false, List, [], ◌∷◌, ◌++◌, Option, Some, None, refl, sym, ap, ◌∙◌, inl, inr, ◌⊎◌}
use Rattle.std.specs.Prelude.{◌&&◌, slice_get, nat_eq, if◌then◌else◌}
use Rattle.std.proofs.lemmas.Bool.{eqb-true, eq-eqb, ne_eqb}
use Rattle.std.proofs.lemmas.List.{map-append}
use Rattle.node_tree.specs.Nodes.{changed}
use Rattle.trace_report.specs.declared.entry.EntryName.{EntryName}
use Rattle.trace_report.specs.declared.entry.EntryName.TheVariants.{Post, Key}
use Rattle.world_meaning.specs.Core.{Entry, name_of, names, is_post_of, number_of, only, without_posts}
use Rattle.channel_meaning.specs.History.{Line, Began, Dropped, Notified}
use Rattle.channel_laws.specs.Laws.{and_then, scan, begins, dropped, delivery, notified, among, without, same_name}

pub same_or : (a b : ℕ) → (a ≡ b) ⊎ (nat_eq a b ≡ false)
same_or a b = go (nat_eq a b) refl
  where
    go : (t : Bool) → nat_eq a b ≡ t → (a ≡ b) ⊎ (nat_eq a b ≡ false)
    go true e = inl (eqb-true a b e)
    go false e = inr e

pub self : (a : ℕ) → nat_eq a a ≡ true
self a = eq-eqb a a refl

-- automata
thens : {S : Type 0} (f : Line → S → Option S) (o : Option S) (x : Line) (xs : List Line) (t : S) → ((s : S) → scan f xs s ≡ Some t → scan f (xs ++ x ∷ []) s ≡ f x t) → and_then o (scan f xs) ≡ Some t → and_then o (scan f (xs ++ x ∷ [])) ≡ f x t
thens f None x xs t h e = cc
thens f (Some s) x xs t h e = h s e

last_one : {S : Type 0} (o : Option S) → and_then o (λ s. Some s) ≡ o
last_one None = refl
last_one (Some s) = refl

pub scan_more : {S : Type 0} (f : Line → S → Option S) (x : Line) (xs : List Line) (s t : S) → scan f xs s ≡ Some t → scan f (xs ++ x ∷ []) s ≡ f x t
scan_more f x [] s t e = last_one (f x s) ∙ ap (f x) (some_same e)
  where
    some_same : Some s ≡ Some t → s ≡ t
    some_same e = cc
scan_more f x (y ∷ xs) s t e = thens f (f y s) x xs t (λ u. scan_more f x xs u t) e

-- a place of a list that was changed
pub at_changed : {A : Type 0} (P : Option A → Type 0) (f : A → A) (xs : List A) (i j : ℕ) → (i ≡ j → (x : A) → slice_get xs j ≡ Some x → P (Some x) → P (Some (f x))) → P (slice_get xs j) → P (slice_get (changed f xs i) j)
at_changed P f [] i j h p = p
at_changed P f (x ∷ xs) zero zero h p = h refl x refl p
at_changed P f (x ∷ xs) zero (suc j) h p = p
at_changed P f (x ∷ xs) (suc i) zero h p = p
at_changed P f (x ∷ xs) (suc i) (suc j) h p = at_changed P f xs i j (λ e. h (ap suc e)) p

-- what lines name
pub begins_append : (xs ys : List Line) → begins (xs ++ ys) ≡ begins xs ++ begins ys
begins_append [] ys = refl
begins_append (Began n ∷ xs) ys = ap (λ l. n ∷ l) (begins_append xs ys)
begins_append (_ ∷ xs) ys = begins_append xs ys

pub dropped_append : (xs ys : List Line) → dropped (xs ++ ys) ≡ dropped xs ++ dropped ys
dropped_append [] ys = refl
dropped_append (Dropped a i ∷ xs) ys = ap (λ l. Post a i ∷ l) (dropped_append xs ys)
dropped_append (_ ∷ xs) ys = dropped_append xs ys

pub notified_append : (xs ys : List Line) → notified (xs ++ ys) ≡ notified xs ++ notified ys
notified_append [] ys = refl
notified_append (Notified n f r ∷ xs) ys = ap (λ l. delivery n f r ∷ l) (notified_append xs ys)
notified_append (_ ∷ xs) ys = notified_append xs ys

pub get_changed : {A : Type 0} (f : A → A) (xs : List A) (i : ℕ) (x : A) → slice_get xs i ≡ Some x → slice_get (changed f xs i) i ≡ Some (f x)
get_changed f [] i x e = cc
get_changed f (y ∷ xs) zero x e = let k : y ≡ x = cc in ap (λ z. Some (f z)) k
get_changed f (y ∷ xs) (suc i) x e = get_changed f xs i x e

-- names
pub names_append : (xs ys : List Entry) → names (xs ++ ys) ≡ names xs ++ names ys
names_append xs ys = map-append name_of xs ys

if_more : (t : Bool) (n : ℕ) (l xs ys : List ℕ) → l ≡ xs ++ ys → (if t then n ∷ l else l) ≡ (if t then n ∷ xs else xs) ++ ys
if_more true n l xs ys e = ap (λ l. n ∷ l) e
if_more false n l xs ys e = e

pub only_append : (a : ℕ) (xs ys : List EntryName) → only a (xs ++ ys) ≡ only a xs ++ only a ys
only_append a [] ys = refl
only_append a (x ∷ xs) ys = if_more (is_post_of a x) (number_of x) _ _ _ (only_append a xs ys)

or_else : (t u : Bool) → (if t then true else u) ≡ false → (t ≡ false) × (u ≡ false)
or_else true u e = (e, cc)
or_else false u e = (refl, e)

pub among_append : (n : EntryName) (xs ys : List EntryName) → among n xs ≡ false → among n (xs ++ ys) ≡ among n ys
among_append n [] ys e = refl
among_append n (x ∷ xs) ys e =
    let both = or_else (same_name n x) (among n xs) e in
    ap (λ t. if t then true else among n (xs ++ ys)) both.0 ∙ among_append n xs ys both.1

if_names : (t : Bool) (n : EntryName) (l xs ys : List EntryName) → l ≡ xs ++ ys → (if t then l else n ∷ l) ≡ (if t then xs else n ∷ xs) ++ ys
if_names true n l xs ys e = e
if_names false n l xs ys e = ap (λ l. n ∷ l) e

pub without_append : (ds xs ys : List EntryName) → without ds (xs ++ ys) ≡ without ds xs ++ without ds ys
without_append ds [] ys = refl
without_append ds (x ∷ xs) ys = if_names (among x ds) x _ _ _ (without_append ds xs ys)

-- names of one actor taken away
abbrev pub others : ℕ → List EntryName → List EntryName
others a [] = []
others a (n ∷ ns) = if is_post_of a n then others a ns else n ∷ others a ns

if_entry : (t : Bool) (e : Entry) (es : List Entry) (ns : List EntryName) → names es ≡ ns → names (if t then es else e ∷ es) ≡ (if t then ns else name_of e ∷ ns)
if_entry true e es ns q = q
if_entry false e es ns q = ap (λ l. name_of e ∷ l) q

pub names_without_posts : (a : ℕ) (es : List Entry) → names (without_posts a es) ≡ others a (names es)
names_without_posts a [] = refl
names_without_posts a (e ∷ es) = if_entry (is_post_of a (name_of e)) e (without_posts a es) (others a (names es)) (names_without_posts a es)

pub only_none : (a : ℕ) (ns : List EntryName) → only a (others a ns) ≡ []
only_none a [] = refl
only_none a (n ∷ ns) = go (only_none a ns) (is_post_of a n) refl
  where
    go : only a (others a ns) ≡ [] → (t : Bool) → is_post_of a n ≡ t → only a (if t then others a ns else n ∷ others a ns) ≡ []
    go ih true e = ih
    go ih false e = ap (λ t. if t then number_of n ∷ only a (others a ns) else only a (others a ns)) e ∙ ih

of_one : (a b : ℕ) (n : EntryName) → nat_eq a b ≡ false → is_post_of a n ≡ true → is_post_of b n ≡ false
of_one a b (Post c i) ne e = ap (λ x. nat_eq x b) (eqb-true c a e) ∙ ne
of_one a b (Key i) ne e = cc

pub only_others : (a b : ℕ) → nat_eq a b ≡ false → (ns : List EntryName) → only b (others a ns) ≡ only b ns
only_others a b ne [] = refl
only_others a b ne (n ∷ ns) = go (only_others a b ne ns) (is_post_of a n) refl
  where
    go : only b (others a ns) ≡ only b ns → (t : Bool) → is_post_of a n ≡ t → only b (if t then others a ns else n ∷ others a ns) ≡ (if is_post_of b n then number_of n ∷ only b ns else only b ns)
    go ih true e = ih ∙ sym (ap (λ t. if t then number_of n ∷ only b ns else only b ns) (of_one a b n ne e))
    go ih false e = ap (λ l. if is_post_of b n then number_of n ∷ l else l) (ih)

pub none_others : (a : ℕ) (ns : List EntryName) → only a ns ≡ [] → others a ns ≡ ns
none_others a [] e = refl
none_others a (n ∷ ns) e = go (none_others a ns) (is_post_of a n) e
  where
    go : (only a ns ≡ [] → others a ns ≡ ns) → (t : Bool) → (if t then number_of n ∷ only a ns else only a ns) ≡ [] → (if t then others a ns else n ∷ others a ns) ≡ n ∷ ns
    go ih true q = cc
    go ih false q = ap (λ l. n ∷ l) (ih q)

eq_sym : (a b : ℕ) → nat_eq a b ≡ nat_eq b a
eq_sym a b = go (same_or a b)
  where
    go : (a ≡ b) ⊎ (nat_eq a b ≡ false) → nat_eq a b ≡ nat_eq b a
    go (inl e) = ap (λ c. nat_eq a c) (sym e) ∙ ap (λ c. nat_eq c a) e
    go (inr e) = e ∙ sym (ne_eqb b a (λ q. no (sym e ∙ ap (nat_eq a) q ∙ self a)))
      where
        no : false ≡ true → ⊥
        no e = cc

pub same_sym : (n m : EntryName) → same_name n m ≡ same_name m n
same_sym (Post a i) (Post b j) = ap (λ t. t && nat_eq i j) (eq_sym a b) ∙ ap (λ t. nat_eq b a && t) (eq_sym i j)
same_sym (Post a i) (Key j) = refl
same_sym (Key i) (Post b j) = refl
same_sym (Key i) (Key j) = eq_sym i j

pub same_self : (n : EntryName) → same_name n n ≡ true
same_self (Post a i) = ap (λ t. t && nat_eq i i) (self a) ∙ self i
same_self (Key i) = self i

same_of_one : (a i : ℕ) (n : EntryName) → is_post_of a n ≡ true → number_of n ≡ i → same_name n (Post a i) ≡ true
same_of_one a i (Post b j) e q = ap (λ t. t && nat_eq j i) e ∙ eq-eqb j i q
same_of_one a i (Key j) e q = cc

not_of_one : (a i : ℕ) (n : EntryName) → is_post_of a n ≡ false → same_name n (Post a i) ≡ false
not_of_one a i (Post b j) e = ap (λ t. t && nat_eq j i) e
not_of_one a i (Key j) e = refl

pub without_none : (x : EntryName) (ns : List EntryName) → among x ns ≡ false → without (x ∷ []) ns ≡ ns
without_none x [] e = refl
without_none x (n ∷ ns) e =
    let both = or_else (same_name x n) (among x ns) e in
    ap (λ t. if (if t then true else false) then without (x ∷ []) ns else n ∷ without (x ∷ []) ns) (same_sym n x ∙ both.0) ∙ ap (λ l. n ∷ l) (without_none x ns both.1)

among_none : (a i : ℕ) (ns : List EntryName) → only a ns ≡ [] → among (Post a i) ns ≡ false
among_none a i [] e = refl
among_none a i (n ∷ ns) e = go (among_none a i ns) (is_post_of a n) refl e
  where
    go : (only a ns ≡ [] → among (Post a i) ns ≡ false) → (t : Bool) → is_post_of a n ≡ t → (if t then number_of n ∷ only a ns else only a ns) ≡ [] → (if same_name (Post a i) n then true else among (Post a i) ns) ≡ false
    go ih true q e = cc
    go ih false q e = ap (λ t. if t then true else among (Post a i) ns) (same_sym (Post a i) n ∙ not_of_one a i n q) ∙ ih e

pub one_others : (a i : ℕ) (ns : List EntryName) → only a ns ≡ i ∷ [] → without (Post a i ∷ []) ns ≡ others a ns
one_others a i [] e = cc
one_others a i (n ∷ ns) e = go (one_others a i ns) (is_post_of a n) refl e
  where
    go : (only a ns ≡ i ∷ [] → without (Post a i ∷ []) ns ≡ others a ns) → (t : Bool) → is_post_of a n ≡ t → (if t then number_of n ∷ only a ns else only a ns) ≡ i ∷ [] → (if (if same_name n (Post a i) then true else false) then without (Post a i ∷ []) ns else n ∷ without (Post a i ∷ []) ns) ≡ (if t then others a ns else n ∷ others a ns)
    go ih true q e =
        let number : number_of n ≡ i = cc in
        let rest : only a ns ≡ [] = cc in
        ap (λ t. if (if t then true else false) then without (Post a i ∷ []) ns else n ∷ without (Post a i ∷ []) ns) (same_of_one a i n q number) ∙ without_none (Post a i) ns (among_none a i ns rest) ∙ sym (none_others a ns rest)
    go ih false q e =
        ap (λ t. if (if t then true else false) then without (Post a i ∷ []) ns else n ∷ without (Post a i ∷ []) ns) (not_of_one a i n q) ∙ ap (λ l. n ∷ l) (ih e)

among_front : (n : EntryName) (xs ys : List EntryName) → among n xs ≡ true → among n (xs ++ ys) ≡ true
among_front n [] ys e = cc
among_front n (x ∷ xs) ys e = go (among_front n xs ys) (same_name n x) e
  where
    go : (among n xs ≡ true → among n (xs ++ ys) ≡ true) → (t : Bool) → (if t then true else among n xs) ≡ true → (if t then true else among n (xs ++ ys)) ≡ true
    go ih true e = refl
    go ih false e = ih e

pub without_both : (ds es ns : List EntryName) → without (ds ++ es) ns ≡ without es (without ds ns)
without_both ds es [] = refl
without_both ds es (n ∷ ns) = go (without_both ds es ns) (among n ds) refl
  where
    go : without (ds ++ es) ns ≡ without es (without ds ns) → (t : Bool) → among n ds ≡ t → (if among n (ds ++ es) then without (ds ++ es) ns else n ∷ without (ds ++ es) ns) ≡ without es (if t then without ds ns else n ∷ without ds ns)
    go ih true e = ap (λ t. if t then without (ds ++ es) ns else n ∷ without (ds ++ es) ns) (among_front n ds es e) ∙ ih
    go ih false e = ap (λ t. if t then without (ds ++ es) ns else n ∷ without (ds ++ es) ns) (among_append n ds es e) ∙ ap (λ l. if among n es then l else n ∷ l) (ih)
