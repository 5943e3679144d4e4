-- What keeps the rule of key walks: how a walk begins, goes on and is over.
use Rattle.std.proofs.Common.{◌≡◌, ℕ, Bool, true, false, List, [], ◌∷◌, ◌++◌, Option, Some, None, refl, sym, ap, ◌∙◌, subst, inl, inr, map}
use Rattle.std.proofs.lemmas.List.{append_assoc, append-nil, map-append}
use Rattle.trace_report.specs.declared.entry.EntryName.{EntryName}
use Rattle.trace_report.specs.declared.entry.EntryName.TheVariants.{Key}
use Rattle.chan_values.specs.declared.key.Key.{Key as OneKey}
use Rattle.world_meaning.specs.Core as k
use Rattle.world_meaning.specs.Core.{Agenda, Deliveries, Inits, Called}
use Rattle.channel_meaning.specs.History.{Visit, Walk, change_newest, with_visit, change_last, with_taken}
use Rattle.channel_laws.specs.Laws.{AllRefused, visited_nodes, IsWalk, AllWalked}
use Rattle.channel_laws.specs.Rule.{IsAt, AllDone, Walked}

-- where no entry has begun, nothing is left of a walk
pub begun_walked : (G : List Agenda) (E : Option EntryName) (ws : List Walk) → Walked G None ws → Walked G E ws
begun_walked [] E ws h = h
begun_walked (Deliveries busy message left next ∷ later) E ws h = begun_walked later E ws h
begun_walked (Inits busy left reply ∷ later) E ws h = begun_walked later E ws h
begun_walked (Called ∷ later) E ws h = begun_walked later E ws h
begun_walked (k.Visits key press at left ∷ later) E [] h = absurd h
begun_walked (k.Visits key press at left ∷ later) E (w ∷ ws) h = absurd (no h.1)
  where
    no : None ≡ Some (Key w.number) → ⊥
    no e = cc

-- ---- lists of visits

last_changed : (f : Visit → Visit) (vs : List Visit) (v : Visit) → change_last f (vs ++ v ∷ []) ≡ vs ++ f v ∷ []
last_changed f [] v = refl
last_changed f (x ∷ []) v = refl
last_changed f (x ∷ y ∷ vs) v = ap (λ l. x ∷ l) (last_changed f (y ∷ vs) v)

refused_more : (vs : List Visit) (v : Visit) → AllRefused vs → v.taken ≡ Some false → AllRefused (vs ++ v ∷ [])
refused_more [] v h e = (e, tt)
refused_more (x ∷ vs) v h e = (h.0, refused_more vs v h.1 e)

refused_front : (vs : List Visit) (v : Visit) → AllRefused (vs ++ v ∷ []) → AllRefused vs
refused_front [] v h = tt
refused_front (x ∷ vs) v h = (h.0, refused_front vs v h.1)

abbrev tail_of : List Visit → List Visit
tail_of [] = []
tail_of (x ∷ xs) = xs

abbrev head_or : Visit → List Visit → Visit
head_or v [] = v
head_or v (x ∷ xs) = x

-- a list is a front and a last one in one way
one_front : (xs ys : List Visit) (x y : Visit) → xs ++ x ∷ [] ≡ ys ++ y ∷ [] → xs ≡ ys
one_front [] [] x y e = refl
one_front [] (b ∷ []) x y e = absurd (no (ap tail_of e))
  where
    no : [] ≡ y ∷ [] → ⊥
    no q = cc
one_front [] (b ∷ c ∷ ys) x y e = absurd (no (ap tail_of e))
  where
    no : [] ≡ c ∷ (ys ++ y ∷ []) → ⊥
    no q = cc
one_front (a ∷ []) [] x y e = absurd (no (ap tail_of e))
  where
    no : x ∷ [] ≡ [] → ⊥
    no q = cc
one_front (a ∷ b ∷ xs) [] x y e = absurd (no (ap tail_of e))
  where
    no : b ∷ (xs ++ x ∷ []) ≡ [] → ⊥
    no q = cc
one_front (a ∷ xs) (b ∷ ys) x y e = ap (λ c. c ∷ xs) (ap (head_or x) e) ∙ ap (λ l. b ∷ l) (one_front xs ys x y (ap tail_of e))

-- ---- walks

-- a walk of which all visits but the last are refused
walk_of : (w : Walk) (vs : List Visit) (v : Visit) (left : List ℕ) → w.visits ≡ vs ++ v ∷ [] → AllRefused vs → visited_nodes w ++ left ≡ w.handlers → IsWalk w
walk_of w vs v left e refused nodes = record {
  rest = left;
  in_order = nodes;
  before_last = λ ws u q. subst AllRefused (one_front vs ws v u (sym e ∙ q)) refused;
}

walk_refused : (w : Walk) (left : List ℕ) → AllRefused w.visits → visited_nodes w ++ left ≡ w.handlers → IsWalk w
walk_refused w left refused nodes = record {
  rest = left;
  in_order = nodes;
  before_last = λ ws u q. refused_front ws u (subst AllRefused q refused);
}

pub walk_at : (at : Option ℕ) (left : List ℕ) (w : Walk) → IsAt at left w → IsWalk w
walk_at None left w h = walk_refused w left h.0 h.1
walk_at (Some n) left w h = walk_of w h.0 (record { node = n; taken = None }) left h.1 h.2 h.3

-- ---- labels

-- a walk begins
pub begun_walk : (key : OneKey) (press : Bool) (number : ℕ) (handlers : List ℕ) (ws : List Walk) → AllDone ws → Walked (k.Visits key press None handlers ∷ []) (Some (Key number)) (record { number = number; handlers = handlers; visits = [] } ∷ ws)
begun_walk key press number handlers ws h = ((tt, refl), refl, refl, h)

-- a visit begins
pub visited_walk : (key : OneKey) (press : Bool) (n : ℕ) (left : List ℕ) (later : List Agenda) (E : Option EntryName) (ws : List Walk) → Walked (k.Visits key press None (n ∷ left) ∷ later) E ws → Walked (k.Visits key press (Some n) left ∷ later) E (change_newest (with_visit n) ws)
visited_walk key press n left later E [] h = absurd h
visited_walk key press n left later E (w ∷ ws) h = (
  (
    w.visits,
    refl,
    h.0.0,
    ap (λ l. l ++ left) (map-append (λ v. v.node) w.visits (record { node = n; taken = None } ∷ [])) ∙ append_assoc (visited_nodes w) (n ∷ []) left ∙ h.0.1,
  ),
  h.1,
  h.2,
  h.3,
)

same_nodes : (vs : List Visit) (n : ℕ) (b : Bool) → map (λ v. v.node) (vs ++ record { node = n; taken = Some b } ∷ []) ≡ map (λ v. v.node) (vs ++ record { node = n; taken = None } ∷ [])
same_nodes [] n b = refl
same_nodes (v ∷ vs) n b = ap (λ l. v.node ∷ l) (same_nodes vs n b)

-- the visits once the last handler has answered
taken_last : (w : Walk) (vs : List Visit) (n : ℕ) (b : Bool) → w.visits ≡ vs ++ record { node = n; taken = None } ∷ [] → (with_taken b w).visits ≡ vs ++ record { node = n; taken = Some b } ∷ []
taken_last w vs n b e = ap (change_last (λ v. record v { taken = Some b })) e ∙ last_changed (λ v. record v { taken = Some b }) vs (record { node = n; taken = None })

taken_nodes : (w : Walk) (vs : List Visit) (n : ℕ) (b : Bool) → w.visits ≡ vs ++ record { node = n; taken = None } ∷ [] → visited_nodes (with_taken b w) ≡ visited_nodes w
taken_nodes w vs n b e = ap (map (λ v. v.node)) (taken_last w vs n b e) ∙ same_nodes vs n b ∙ sym (ap (map (λ v. v.node)) e)

-- a handler takes the key
pub taken_walk : (key : OneKey) (press : Bool) (n : ℕ) (left : List ℕ) (later : List Agenda) (E : Option EntryName) (ws : List Walk) → Walked (k.Visits key press (Some n) left ∷ later) E ws → Walked later E (change_newest (with_taken true) ws)
taken_walk key press n left later E [] h = absurd h
taken_walk key press n left later E (w ∷ ws) h = subst (λ g. Walked g E (with_taken true w ∷ ws)) (sym h.2) (
  record {
    walk = walk_of (with_taken true w) h.0.0 (record { node = n; taken = Some true }) left (taken_last w h.0.0 n true h.0.1) h.0.2 (ap (λ l. l ++ left) (taken_nodes w h.0.0 n true h.0.1) ∙ h.0.3);
    over = inr (h.0.0, record { node = n; taken = Some true }, taken_last w h.0.0 n true h.0.1, refl);
  },
  h.3,
)

-- a handler doesn't
pub refused_walk : (key : OneKey) (press : Bool) (n : ℕ) (left : List ℕ) (later : List Agenda) (E : Option EntryName) (ws : List Walk) → Walked (k.Visits key press (Some n) left ∷ later) E ws → Walked (k.Visits key press None left ∷ later) E (change_newest (with_taken false) ws)
refused_walk key press n left later E [] h = absurd h
refused_walk key press n left later E (w ∷ ws) h = (
  (
    subst AllRefused (sym (taken_last w h.0.0 n false h.0.1)) (refused_more h.0.0 (record { node = n; taken = Some false }) h.0.2 refl),
    ap (λ l. l ++ left) (taken_nodes w h.0.0 n false h.0.1) ∙ h.0.3,
  ),
  h.1,
  h.2,
  h.3,
)

-- nobody took it
pub untaken_walk : (key : OneKey) (press : Bool) (later : List Agenda) (E : Option EntryName) (ws : List Walk) → Walked (k.Visits key press None [] ∷ later) E ws → Walked later E ws
untaken_walk key press later E [] h = absurd h
untaken_walk key press later E (w ∷ ws) h = subst (λ g. Walked g E (w ∷ ws)) (sym h.2) (
  record {
    walk = walk_refused w [] h.0.0 h.0.1;
    over = inl (h.0.0, sym (append-nil (visited_nodes w)) ∙ h.0.1);
  },
  h.3,
)

-- ---- the law

pub done_walked : (E : Option EntryName) (ws : List Walk) → AllDone ws → AllWalked E ws
done_walked E [] h = tt
done_walked E (w ∷ ws) h = ((h.0.walk, inl h.0.over), done_walked E ws h.1)

pub all_walked : (G : List Agenda) (E : Option EntryName) (ws : List Walk) → Walked G E ws → AllWalked E ws
all_walked [] E ws h = done_walked E ws h
all_walked (Deliveries busy message left next ∷ later) E ws h = all_walked later E ws h
all_walked (Inits busy left reply ∷ later) E ws h = all_walked later E ws h
all_walked (Called ∷ later) E ws h = all_walked later E ws h
all_walked (k.Visits key press at left ∷ later) E [] h = absurd h
all_walked (k.Visits key press at left ∷ later) E (w ∷ ws) h = ((walk_at at left w h.0, inr h.1), done_walked E ws h.3)
