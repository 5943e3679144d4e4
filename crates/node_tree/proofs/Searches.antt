-- A search over links, step by step.
use Rattle.std.proofs.Common.{◌≡◌, ℕ, zero, suc, ◌<◌, ◌≤◌, ◌+◌, Bool, true, false, List, [], ◌∷◌, ◌++◌, Option, Some, None, set, get_or, refl, sym, ap, ◌∙◌, subst, inl, inr, ◌⊎◌, length, length-append, append_assoc, arith}
use Rattle.std.specs.Prelude.{◌==◌, ◌||◌, slice_get, nat_eq, if◌then◌else◌}
use Rattle.std.specs.Cmp.{nat_eq_equiv}
use Rattle.std.specs.List.{IsDistinct, list_any}
use Rattle.std.proofs.lemmas.Bool.{eqb-true, eq-eqb}
use Rattle.std.proofs.lemmas.Map.Steps.{length-le_from_distinct_below}
use Rattle.std.proofs.lemmas.Option.{slice_get_within, slice_get_read}
use Rattle.indexmap.specs.IndexSet.{insert_key}
use Rattle.field_types.specs.NamedNodes.{nodes_in}
use Rattle.node_tree.specs.declared.field.Field.{Field}
use Rattle.node_tree.specs.declared.node.Node.{Node}
use Rattle.node_tree.specs.Nodes.{changed, with_node}
use Rattle.node_tree.specs.Family.{has}
use Rattle.node_tree.specs.Reach.{parent_and, named_by, Reaches, root, link, changed_where, render_owned}
use Rattle.node_tree.specs.Visited.{open_in, is_open, linked_from, IsVisited, IsReach}
use Rattle.node_tree.proofs.Places.{set_changed}
use Rattle.node_tree.proofs.NamedLists.{at_end}
use Rattle.node_tree.proofs.Reached.{or_left, or_right, either}
use Rattle.node_tree.proofs.Gifts.{is_link}

some_same : {A : Type 0} {x y : A} → Some x ≡ Some y → x ≡ y
some_same e = cc

has_append : (n : ℕ) (xs ys : List ℕ) → has n (xs ++ ys) ≡ (has n xs || has n ys)
has_append n [] ys = refl
has_append n (x ∷ xs) ys = ap (λ b. (x == n) || b) (has_append n xs ys) ∙ or_assoc (x == n) (has n xs) (has n ys)
  where
    or_assoc : (a b c : Bool) → (a || (b || c)) ≡ ((a || b) || c)
    or_assoc true b c = refl
    or_assoc false b c = refl

pub has_left : (n : ℕ) (xs ys : List ℕ) → has n xs ≡ true → has n (xs ++ ys) ≡ true
has_left n xs ys e = has_append n xs ys ∙ or_left (has n xs) (has n ys) e

pub has_right : (n : ℕ) (xs ys : List ℕ) → has n ys ≡ true → has n (xs ++ ys) ≡ true
has_right n xs ys e = has_append n xs ys ∙ or_right (has n xs) (has n ys) e

pub has_either : (n : ℕ) (xs ys : List ℕ) → has n (xs ++ ys) ≡ true → (has n xs ≡ true) ⊎ (has n ys ≡ true)
has_either n xs ys e = either (has n xs) (has n ys) (sym (has_append n xs ys) ∙ e)

only_one : (n k : ℕ) → has n (k ∷ []) ≡ true → k ≡ n
only_one n k e = go (k == n) refl e
  where
    go : (b : Bool) → (k == n) ≡ b → (b || false) ≡ true → k ≡ n
    go true f g = eqb-true k n f
    go false f g = absurd cc

one_only : (n : ℕ) → has n (n ∷ []) ≡ true
one_only n = or_left (n == n) false (eq-eqb n n refl)

pub turned : (n : ℕ) (ks : List ℕ) → list_any (nat_eq n) ks ≡ has n ks
turned n [] = refl
turned n (k ∷ ks) = ap (λ b. b || list_any (nat_eq n) ks) (nat_eq_equiv.symm n k) ∙ ap (λ b. (k == n) || b) (turned n ks)

-- ---- visits

pub visited_none : (goes : ℕ → Bool) (ks : List ℕ) → IsVisited goes ks ks []
visited_none goes ks = record { more = []; is = sym (at_end ks); each = λ n h g. absurd (no h); only = λ n h. absurd (no h); once = λ d. d }
  where
    no : false ≡ true → ⊥
    no e = cc

pub visited_shut : (goes : ℕ → Bool) (ks : List ℕ) (k : ℕ) → goes k ≡ false → IsVisited goes ks ks (k ∷ [])
visited_shut goes ks k shut = record { more = []; is = sym (at_end ks); each = λ n h g. absurd (no (sym shut ∙ ap goes (only_one n k h) ∙ g)); only = λ n h. absurd (no h); once = λ d. d }
  where
    no : false ≡ true → ⊥
    no e = cc

pub visited_one : (goes : ℕ → Bool) (before after : List ℕ) (k : ℕ) → goes k ≡ true → after ≡ insert_key nat_eq before k → IsDistinct nat_eq after → IsVisited goes before after (k ∷ [])
visited_one goes before after k goes_there is distinct = go (list_any (nat_eq k) before) refl
  where
    there : has k before ≡ true → after ≡ before → IsVisited goes before after (k ∷ [])
    there h e = record { more = []; is = e ∙ sym (at_end before); each = λ n g o. ap (has n) e ∙ subst (λ i. has i before ≡ true) (only_one n k g) h; only = λ n g. absurd (no g); once = λ d. distinct }
      where
        no : false ≡ true → ⊥
        no e = cc

    new : after ≡ before ++ k ∷ [] → IsVisited goes before after (k ∷ [])
    new e = record { more = k ∷ []; is = e; each = λ n g o. ap (has n) e ∙ has_right n before (k ∷ []) g; only = λ n g. (g, subst (λ i. goes i ≡ true) (only_one n k g) goes_there); once = λ d. distinct }

    go : (b : Bool) → list_any (nat_eq k) before ≡ b → IsVisited goes before after (k ∷ [])
    go true e = there (sym (turned k before) ∙ e) (is ∙ ap (λ b. if b then before else before ++ k ∷ []) e)
    go false e = new (is ∙ ap (λ b. if b then before else before ++ k ∷ []) e)

pub visited_more : (goes : ℕ → Bool) (before between after : List ℕ) (xs ys : List ℕ) → IsVisited goes before between xs → IsVisited goes between after ys → IsVisited goes before after (xs ++ ys)
visited_more goes before between after xs ys a b = record {
  more = a.more ++ b.more;
  is = b.is ∙ ap (λ l. l ++ b.more) a.is ∙ append_assoc before a.more b.more;
  each = λ n h o. each n o (has_either n xs ys h);
  only = λ n h. only n (has_either n a.more b.more h);
  once = λ d. b.once (a.once d);
}
  where
    each : (n : ℕ) → goes n ≡ true → (has n xs ≡ true) ⊎ (has n ys ≡ true) → has n after ≡ true
    each n o (inl h) = ap (has n) b.is ∙ has_left n between b.more (a.each n h o)
    each n o (inr h) = b.each n h o

    only : (n : ℕ) → (has n a.more ≡ true) ⊎ (has n b.more ≡ true) → (has n (xs ++ ys) ≡ true) × (goes n ≡ true)
    only n (inl h) = let k = a.only n h in (has_left n xs ys k.0, k.1)
    only n (inr h) = let k = b.only n h in (has_right n xs ys k.0, k.1)

pub visited_parent : (goes : ℕ → Bool) (before between after : List ℕ) (o : Option ℕ) (ks : List ℕ) → IsVisited goes before between (parent_and o []) → IsVisited goes between after ks → IsVisited goes before after (parent_and o ks)
visited_parent goes before between after None ks a b = visited_more goes before between after [] ks a b
visited_parent goes before between after (Some p) ks a b = visited_more goes before between after (p ∷ []) ks a b

named_step : (fs : List Field) (f : Field) → named_by (fs ++ f ∷ []) ≡ named_by fs ++ nodes_in f.value
named_step [] f = at_end (nodes_in f.value)
named_step (g ∷ fs) f = ap (λ l. nodes_in g.value ++ l) (named_step fs f) ∙ sym (append_assoc (nodes_in g.value) (named_by fs) (nodes_in f.value))

-- the fields of one place more
pub visited_field : (goes : ℕ → Bool) (before between after : List ℕ) (fs next : List Field) (f : Field) (named : List ℕ) → next ≡ fs ++ f ∷ [] → named ≡ nodes_in f.value → IsVisited goes before between (named_by fs) → IsVisited goes between after named → IsVisited goes before after (named_by next)
visited_field goes before between after fs next f named e is a b = subst (IsVisited goes before after) (ap (λ l. named_by fs ++ l) is ∙ sym (named_step fs f) ∙ ap named_by (sym e)) (visited_more goes before between after (named_by fs) named a b)

pub visited_next : (goes : ℕ → Bool) (before between after : List ℕ) (ks next : List ℕ) (k : ℕ) → next ≡ ks ++ k ∷ [] → IsVisited goes before between ks → IsVisited goes between after (k ∷ []) → IsVisited goes before after next
visited_next goes before between after ks next k e a b = subst (IsVisited goes before after) (sym e) (visited_more goes before between after ks (k ∷ []) a b)

-- ---- the whole search

-- a search has gone on from the first nodes that it has found, so many
pub record IsReaching (nodes : List Node) (closed : Bool) (from : ℕ) (found : List ℕ) (at : ℕ) : Type 0 where
  pub start : is_open nodes closed from ≡ true → has from found ≡ true
  pub goes_on : (i m n : ℕ) → i < at → slice_get found i ≡ Some m → has n (linked_from nodes m) ≡ true → is_open nodes closed n ≡ true → has n found ≡ true
  pub only : (n : ℕ) → has n found ≡ true → Reaches nodes (from ∷ []) n
  pub open_only : (n : ℕ) → has n found ≡ true → is_open nodes closed n ≡ true
  pub within : at ≤ length found
  pub distinct : IsDistinct nat_eq found

pub reaching_begins : (nodes : List Node) (closed : Bool) (from : ℕ) (empty found : List ℕ) → empty ≡ [] → IsDistinct nat_eq empty → IsVisited (is_open nodes closed) empty found (from ∷ []) → IsReaching nodes closed from found 0
reaching_begins nodes closed from empty found none unique v = record {
  start = λ o. v.each from (one_only from) o;
  goes_on = λ i m n l. absurd (omega (arith, l));
  only = λ n h. root (only_from n h);
  open_only = λ n h. (v.only n (more_is n h)).1;
  within = omega arith;
  distinct = v.once unique;
}
  where
    more_is : (n : ℕ) → has n found ≡ true → has n v.more ≡ true
    more_is n h = ap (λ l. has n (l ++ v.more)) (sym none) ∙ ap (has n) (sym v.is) ∙ h

    only_from : (n : ℕ) → has n found ≡ true → has n (from ∷ []) ≡ true
    only_from n h = (v.only n (more_is n h)).0

get_front : {A : Type 0} (xs ys : List A) (i : ℕ) → i < length xs → slice_get (xs ++ ys) i ≡ slice_get xs i
get_front [] ys i h = absurd (omega arith)
get_front (x ∷ xs) ys zero h = refl
get_front (x ∷ xs) ys (suc i) h = get_front xs ys i (omega arith)

has_at : (ks : List ℕ) (i k : ℕ) → slice_get ks i ≡ Some k → has k ks ≡ true
has_at [] i k e = absurd cc
has_at (x ∷ ks) zero k e = or_left (x == k) (has k ks) (eq-eqb x k (some_same e))
has_at (x ∷ ks) (suc i) k e = or_right (x == k) (has k ks) (has_at ks i k e)

pub at_of : (ks : List ℕ) (k : ℕ) → has k ks ≡ true → (i : ℕ) × (slice_get ks i ≡ Some k)
at_of [] k h = absurd cc
at_of (x ∷ ks) k h = go (x == k) refl h (at_of ks k)
  where
    go : (b : Bool) → (x == k) ≡ b → (b || has k ks) ≡ true → (has k ks ≡ true → (i : ℕ) × (slice_get ks i ≡ Some k)) → (i : ℕ) × (slice_get (x ∷ ks) i ≡ Some k)
    go true f g ih = (zero, ap Some (eqb-true x k f))
    go false f g ih = let r = ih g in (suc r.0, r.1)

pub reaching_on : (nodes : List Node) (closed : Bool) (from : ℕ) (found after : List ℕ) (at m : ℕ) → slice_get found at ≡ Some m → IsVisited (is_open nodes closed) found after (linked_from nodes m) → IsReaching nodes closed from found at → IsReaching nodes closed from after (at + 1)
reaching_on nodes closed from found after at m here v r = record {
  start = λ o. stays from (r.start o);
  goes_on = λ i k n l e h o. on i k n (less i l) e h o;
  only = λ n h. reached n (has_either n found v.more (ap (has n) (sym v.is) ∙ h));
  open_only = λ n h. opens n (has_either n found v.more (ap (has n) (sym v.is) ∙ h));
  within = let size = ap length v.is in let parts = length-append found v.more in omega (arith, size, parts, inside);
  distinct = v.once r.distinct;
}
  where
    inside : at < length found
    inside = slice_get_within found at m here

    stays : (n : ℕ) → has n found ≡ true → has n after ≡ true
    stays n h = ap (has n) v.is ∙ has_left n found v.more h

    less : (i : ℕ) → i < at + 1 → (i ≡ at) ⊎ (i < at)
    less i l = go (i == at) refl
      where
        go : (b : Bool) → (i == at) ≡ b → (i ≡ at) ⊎ (i < at)
        go true f = inl (eqb-true i at f)
        go false f = inr (let ne : (i ≡ at → ⊥) = (λ q. differ (sym f ∙ eq-eqb i at q)) in omega (arith, l))
          where
            differ : false ≡ true → ⊥
            differ q = cc

    on : (i k n : ℕ) → (i ≡ at) ⊎ (i < at) → slice_get after i ≡ Some k → has n (linked_from nodes k) ≡ true → is_open nodes closed n ≡ true → has n after ≡ true
    on i k n (inl same) e h o =
        let is : m ≡ k = some_same (sym here ∙ ap (slice_get found) (sym same) ∙ sym (get_front found v.more i (omega (arith, inside, same))) ∙ ap (λ l. slice_get l i) (sym v.is) ∙ e) in
        v.each n (ap (λ j. has n (linked_from nodes j)) is ∙ h) o
    on i k n (inr l) e h o = stays n (r.goes_on i k n l (sym (get_front found v.more i (omega (arith, inside, l))) ∙ ap (λ j. slice_get j i) (sym v.is) ∙ e) h o)

    reached : (n : ℕ) → (has n found ≡ true) ⊎ (has n v.more ≡ true) → Reaches nodes (from ∷ []) n
    reached n (inl h) = r.only n h
    reached n (inr h) = link (r.only m (has_at found at m here)) (is_link nodes m n (v.only n h).0)

    opens : (n : ℕ) → (has n found ≡ true) ⊎ (has n v.more ≡ true) → is_open nodes closed n ≡ true
    opens n (inl h) = r.open_only n h
    opens n (inr h) = (v.only n h).1

pub reaching_ends : (nodes : List Node) (closed : Bool) (from : ℕ) (found : List ℕ) (at : ℕ) → slice_get found at ≡ None → IsReaching nodes closed from found at → IsReach nodes closed from found
reaching_ends nodes closed from found at none r = record {
  start = r.start;
  goes_on = λ m n h. let k = at_of found m h in r.goes_on k.0 m n (before k.0 m k.1) k.1;
  only = r.only;
}
  where
    past : {A : Type 0} (xs : List A) (i j : ℕ) (x : A) → slice_get xs i ≡ Some x → slice_get xs j ≡ None → i < j
    past [] i j x e f = absurd cc
    past (y ∷ xs) i zero x e f = absurd cc
    past (y ∷ xs) zero (suc j) x e f = omega arith
    past (y ∷ xs) (suc i) (suc j) x e f = let ih = past xs i j x e f in omega (arith, ih)

    before : (i m : ℕ) → slice_get found i ≡ Some m → i < at
    before i m e = past found i at m e none

-- no more is found than there are nodes
open_node : (nodes : List Node) (closed : Bool) (n : ℕ) → is_open nodes closed n ≡ true → n < suc (length nodes)
open_node nodes closed zero e = omega arith
open_node nodes closed (suc i) e = go (slice_get nodes i) refl e
  where
    go : (o : Option Node) → slice_get nodes i ≡ o → open_in closed o ≡ true → suc i < suc (length nodes)
    go None f g = absurd cc
    go (Some x) f g = let h = slice_get_within nodes i x f in omega arith

pub few_found : (nodes : List Node) (closed : Bool) (from : ℕ) (found : List ℕ) (at m : ℕ) → IsReaching nodes closed from found at → slice_get found at ≡ Some m → at < suc (length nodes)
few_found nodes closed from found at m r here =
    let inside = slice_get_within found at m here in
    let few = length-le_from_distinct_below found (suc (length nodes)) r.distinct (λ q h. open_node nodes closed q (r.open_only q (sym (turned q found) ∙ h))) in
    omega (arith, inside, few)

-- ---- gifts, node by node

none_changed : (p : ℕ → Bool) (first : ℕ) (xs : List Node) → ((n : ℕ) → first ≤ n → p n ≡ false) → changed_where p render_owned first xs ≡ xs
none_changed p first [] h = refl
none_changed p first (x ∷ xs) h = ap (λ b. (if b then render_owned x else x) ∷ changed_where p render_owned (suc first) xs) (h first (omega arith)) ∙ ap (λ l. x ∷ l) (none_changed p (suc first) xs (λ n le. h n (omega (arith, le))))

differs : (a b : ℕ) → (a ≡ b → ⊥) → (a == b) ≡ false
differs a b ne = go (a == b) refl
  where
    go : (t : Bool) → (a == b) ≡ t → (a == b) ≡ false
    go true e = absurd (ne (eqb-true a b e))
    go false e = e

one_changed_from : (first : ℕ) (xs : List Node) (i : ℕ) → changed render_owned xs i ≡ changed_where (λ k. (i + first) == k) render_owned first xs
one_changed_from first [] i = refl
one_changed_from first (x ∷ xs) zero =
    let here : ((0 + first) == first) ≡ true = eq-eqb (0 + first) first (omega arith) in
    ap (λ l. render_owned x ∷ l) (sym (none_changed (λ k. (0 + first) == k) (suc first) xs (λ n le. differs (0 + first) n (λ q. absurd (omega (arith, le, q))))))
    ∙ ap (λ b. (if b then render_owned x else x) ∷ changed_where (λ k. (0 + first) == k) render_owned (suc first) xs) (sym here)
one_changed_from first (x ∷ xs) (suc i) =
    let apart : ((suc i + first) == first) ≡ false = differs (suc i + first) first (λ q. absurd (omega (arith, q))) in
    let same : i + suc first ≡ suc i + first = omega arith in
    ap (λ l. x ∷ l) (one_changed_from (suc first) xs i ∙ ap (λ j. changed_where (λ k. j == k) render_owned (suc first) xs) same)
    ∙ ap (λ b. (if b then render_owned x else x) ∷ changed_where (λ k. (suc i + first) == k) render_owned (suc first) xs) (sym apart)

one_given : (nodes : List Node) (n : ℕ) → with_node render_owned nodes n ≡ changed_where (λ k. n == k) render_owned 1 nodes
one_given nodes zero = sym (none_changed (λ k. 0 == k) 1 nodes (λ n le. differs 0 n (λ q. absurd (omega (arith, le, q)))))
one_given nodes (suc i) = let same : i + 1 ≡ suc i = omega arith in one_changed_from 1 nodes i ∙ ap (λ j. changed_where (λ k. j == k) render_owned 1 nodes) same

twice : (s t : Bool) (x : Node) → (if t then render_owned (if s then render_owned x else x) else (if s then render_owned x else x)) ≡ (if s || t then render_owned x else x)
twice true true x = refl
twice true false x = refl
twice false t x = refl

pub changed_twice : (p q : ℕ → Bool) (first : ℕ) (xs : List Node) → changed_where q render_owned first (changed_where p render_owned first xs) ≡ changed_where (λ n. p n || q n) render_owned first xs
changed_twice p q first [] = refl
changed_twice p q first (x ∷ xs) = ap (λ y. y ∷ changed_where q render_owned (suc first) (changed_where p render_owned (suc first) xs)) (twice (p first) (q first) x) ∙ ap (λ l. (if p first || q first then render_owned x else x) ∷ l) (changed_twice p q (suc first) xs)

pub same_test : (p q : ℕ → Bool) (first : ℕ) (xs : List Node) → ((n : ℕ) → p n ≡ q n) → changed_where p render_owned first xs ≡ changed_where q render_owned first xs
same_test p q first [] h = refl
same_test p q first (x ∷ xs) h = ap (λ b. (if b then render_owned x else x) ∷ changed_where p render_owned (suc first) xs) (h first) ∙ ap (λ l. (if q first then render_owned x else x) ∷ l) (same_test p q (suc first) xs h)

pub given_next : (start nodes new : List Node) (ks next : List ℕ) (k : ℕ) → next ≡ ks ++ k ∷ [] → nodes ≡ changed_where (λ n. has n ks) render_owned 1 start → new ≡ with_node render_owned nodes k → new ≡ changed_where (λ n. has n next) render_owned 1 start
given_next start nodes new ks next k e so_far is =
    is
    ∙ ap (λ l. with_node render_owned l k) so_far
    ∙ one_given (changed_where (λ n. has n ks) render_owned 1 start) k
    ∙ changed_twice (λ n. has n ks) (λ n. k == n) 1 start
    ∙ same_test (λ n. has n ks || (k == n)) (λ n. has n next) 1 start (λ n. last n ∙ sym (has_append n ks (k ∷ [])) ∙ ap (has n) (sym e))
  where
    last : (n : ℕ) → (has n ks || (k == n)) ≡ (has n ks || has n (k ∷ []))
    last n = ap (λ b. has n ks || b) (or_false (k == n))
      where
        or_false : (b : Bool) → b ≡ (b || false)
        or_false true = refl
        or_false false = refl

pub none_given : (nodes : List Node) → nodes ≡ changed_where (λ n. has n []) render_owned 1 nodes
none_given nodes = sym (none_changed (λ n. has n []) 1 nodes (λ n le. refl))

-- ---- a node that is given

pub give_written : (nodes : List Node) (node place : ℕ) (x : Node) → node ≡ suc place → place < length nodes → x ≡ get_or nodes place x → set nodes place (render_owned x) ≡ with_node render_owned nodes node
give_written nodes node place x is l e = set_changed render_owned nodes place x (slice_get_read nodes (length nodes) place x refl l e) ∙ ap (with_node render_owned nodes) (sym is)

changed_past : (xs : List Node) (i : ℕ) → length xs ≤ i → changed render_owned xs i ≡ xs
changed_past [] i h = refl
changed_past (x ∷ xs) zero h = absurd (omega arith)
changed_past (x ∷ xs) (suc i) h = ap (λ l. x ∷ l) (changed_past xs i (omega arith))

pub give_past : (nodes : List Node) (node place : ℕ) → node ≡ suc place → length nodes ≤ place → nodes ≡ with_node render_owned nodes node
give_past nodes node place is h = sym (changed_past nodes place h) ∙ ap (with_node render_owned nodes) (sym is)
