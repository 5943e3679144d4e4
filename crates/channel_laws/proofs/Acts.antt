-- What keeps the rule: one lemma for each kind of line of posts and entries.
use Rattle.std.proofs.Common.{◌≡◌, ℕ, suc, ◌+◌, ◌≤◌, Bool, true, false, List, [], ◌∷◌, ◌++◌, Option, Some, None, refl, sym, ap, ◌∙◌, subst, inl, inr, ◌⊎◌, arith, map}
use Rattle.std.specs.Prelude.{◌&&◌, slice_get, nat_eq, if◌then◌else◌}
use Rattle.std.proofs.lemmas.List.{append_assoc, append-nil}
use Rattle.std.proofs.lemmas.Bool.{eq-eqb, ne_eqb}
use Rattle.chan_values.specs.declared.message.Message.{Message}
use Rattle.field_observers.specs.declared.target.Registration.{Registration}
use Rattle.node_tree.specs.Nodes.{changed}
use Rattle.trace_report.specs.declared.entry.EntryName.{EntryName}
use Rattle.trace_report.specs.declared.entry.EntryName.TheVariants.{Post, Key}
use Rattle.brs_grammar.specs.Form.{Text}
use Rattle.world_meaning.specs.Labels.{Drops}
use Rattle.world_meaning.specs.Core.{Next, Agenda, Deliveries, Actor, only, is_post_of, number_of, posts_of}
use Rattle.channel_meaning.specs.History.{Line, Posted, Began, Ended, Dropped, Notified, History, said, arrived, answer_all, delivered, record_all}
use Rattle.channel_laws.specs.Laws.{scan, Phase, Free, Waiting, Open, Gone, when_free, when_waiting, when_open, talks, follows_stop, DropsFollowStops, takes_turns, begins, dropped, notified, among, without, same_name}
use Rattle.channel_laws.specs.Rule.{queued_in, open_in, count_in, fresh, IsFree, working, ActorIs, open_of, Talks, Entries, Holds}
use Rattle.channel_laws.proofs.Lists.{same_or, self, scan_more, at_changed, get_changed, begins_append, dropped_append, only_append, among_append, without_append, same_self, without_both, without_none, others, only_none, only_others, none_others, one_others}
use Rattle.channel_laws.proofs.Walks.{begun_walked}
use Rattle.channel_laws.proofs.Changes.{said_deliveries, ended_deliveries, deliver_one}

-- a line that is not about actor a
pub record Aside (a : ℕ) (x : Line) : Type 0 where
  pub talk : (p : Phase) → talks a x p ≡ Some p
  pub begin : (i : ℕ) → among (Post a i) (begins (x ∷ [])) ≡ false
  pub drop : (i : ℕ) → among (Post a i) (dropped (x ∷ [])) ≡ false

-- a line that no law speaks of
pub record IsQuiet (x : Line) : Type 0 where
  pub aside : (a : ℕ) → Aside a x
  pub turn : (s : Option EntryName) → takes_turns x s ≡ Some s
  pub begin : begins (x ∷ []) ≡ []
  pub drop : dropped (x ∷ []) ≡ []
  pub notify : notified (x ∷ []) ≡ []
  pub follow : (s : Option ℕ) → (r : Option ℕ) × (follows_stop x s ≡ Some r)

pub aside : (a : ℕ) (x : Line) (A A' : List Actor) (I I' : List EntryName) (E E' : Option EntryName) (t : List Line) → Aside a x → only a I' ≡ only a I → open_of a E' ≡ open_of a E → ((p : Phase) → scan (talks a) t (Free 0) ≡ Some p → ActorIs p (slice_get A a) → ActorIs p (slice_get A' a)) → Talks a A I E t → Talks a A' I' E' (t ++ x ∷ [])
aside a x A A' I I' E E' t q qi qe qa h = record {
  phase = h.phase;
  told = scan_more (talks a) x t (Free 0) h.phase h.told ∙ q.talk h.phase;
  queue = qi ∙ h.queue;
  open_number = qe ∙ h.open_number;
  is = qa h.phase h.told h.is;
  new_begin = λ i le. ap (among (Post a i)) (begins_append t (x ∷ [])) ∙ among_append (Post a i) (begins t) (begins (x ∷ [])) (h.new_begin i le) ∙ q.begin i;
  new_drop = λ i le. ap (among (Post a i)) (dropped_append t (x ∷ [])) ∙ among_append (Post a i) (dropped t) (dropped (x ∷ [])) (h.new_drop i le) ∙ q.drop i;
}

pub begins_same : (t : List Line) (x : Line) → begins (x ∷ []) ≡ [] → begins (t ++ x ∷ []) ≡ begins t
begins_same t x e = begins_append t (x ∷ []) ∙ ap (λ l. begins t ++ l) e ∙ append-nil (begins t)

pub dropped_same : (t : List Line) (x : Line) → dropped (x ∷ []) ≡ [] → dropped (t ++ x ∷ []) ≡ dropped t
dropped_same t x e = dropped_append t (x ∷ []) ∙ ap (λ l. dropped t ++ l) e ∙ append-nil (dropped t)

-- what a line leaves that is no drop
pub more_drops : (x : Line) (t : List Line) → ((s : Option ℕ) → (r : Option ℕ) × (follows_stop x s ≡ Some r)) → DropsFollowStops t → DropsFollowStops (t ++ x ∷ [])
more_drops x t f d = let g = f d.0 in (g.0, scan_more follows_stop x t None d.0 d.1 ∙ g.1)

pub quiet_entries : (x : Line) (I : List EntryName) (E : Option EntryName) (t : List Line) (R : List EntryName) → IsQuiet x → Entries I E t R → Entries I E (t ++ x ∷ []) R
quiet_entries x I E t R q h = record {
  order = ap (λ d. without d R) (dropped_same t x q.drop) ∙ h.order ∙ ap (λ l. l ++ I) (sym (begins_same t x q.begin));
  one = scan_more takes_turns x t None E h.one ∙ q.turn E;
  no_key = λ i. ap (among (Key i)) (dropped_same t x q.drop) ∙ h.no_key i;
  drops = more_drops x t q.follow h.drops;
}

-- actors change, and a quiet line is said
pub quiet : (x : Line) (A A' : List Actor) (I : List EntryName) (E : Option EntryName) (G : List Agenda) (h : History) → IsQuiet x → ((b : ℕ) (p : Phase) → scan (talks (suc b)) h.trace (Free 0) ≡ Some p → ActorIs p (slice_get A (suc b)) → ActorIs p (slice_get A' (suc b))) → Holds A I E G h → Holds A' I E G (said x h)
quiet x A A' I E G h q qa r = record {
  actor = λ b. aside (suc b) x A A' I I E E h.trace (q.aside (suc b)) refl refl (qa b) (r.actor b);
  entries = quiet_entries x I E h.trace h.arrivals q r.entries;
  deliveries = said_deliveries x G h.answered h.unanswered h.trace q.notify r.deliveries;
  walks = r.walks;
}

pub actors_change : (A A' : List Actor) (I : List EntryName) (E : Option EntryName) (G : List Agenda) (h : History) → ((b : ℕ) (p : Phase) → scan (talks (suc b)) h.trace (Free 0) ≡ Some p → ActorIs p (slice_get A (suc b)) → ActorIs p (slice_get A' (suc b))) → Holds A I E G h → Holds A' I E G h
actors_change A A' I E G h qa r = record {
  actor = λ b. let k = r.actor b in record { phase = k.phase; told = k.told; queue = k.queue; open_number = k.open_number; is = qa b k.phase k.told k.is; new_begin = k.new_begin; new_drop = k.new_drop };
  entries = r.entries;
  deliveries = r.deliveries;
  walks = r.walks;
}

-- how actors may change: actor 0 in any way; another that keeps its number of posts, where it was at work or works no longer
pub first_changes : (f : Actor → Actor) (A : List Actor) (b : ℕ) (p : Phase) → ActorIs p (slice_get A (suc b)) → ActorIs p (slice_get (changed f A 0) (suc b))
first_changes f A b p h = at_changed (ActorIs p) f A 0 (suc b) (λ e. absurd (omega arith)) h

-- this actor has no post that waits or is open
abbrev pub FreeNow : ℕ → List Line → Type 0
FreeNow a t = (n : ℕ) × (scan (talks a) t (Free 0) ≡ Some (Free n))

free_phase : (a : ℕ) (t : List Line) (p : Phase) → scan (talks a) t (Free 0) ≡ Some p → FreeNow a t → IsFree p
free_phase a t p e f = let k : Free f.0 ≡ p = cc (f.1, e) in subst IsFree k tt

pub own_changes : (f : Actor → Actor) (A : List Actor) (a : ℕ) (t : List Line) → ((y : Actor) → (f y).posts ≡ y.posts) → FreeNow a t → (b : ℕ) (p : Phase) → scan (talks (suc b)) t (Free 0) ≡ Some p → ActorIs p (slice_get A (suc b)) → ActorIs p (slice_get (changed f A a) (suc b))
own_changes f A a t same free b p told h = at_changed (ActorIs p) f A a (suc b) (λ i y ey k. record { posts = same y ∙ k.posts; works = λ _. free_phase (suc b) t p told (subst (λ c. FreeNow c t) i free) }) h

pub over_changes : (f : Actor → Actor) (A : List Actor) (a : ℕ) → ((y : Actor) → (f y).posts ≡ y.posts) → ((y : Actor) → working (Some (f y)) ≡ false) → (b : ℕ) (p : Phase) → ActorIs p (slice_get A (suc b)) → ActorIs p (slice_get (changed f A a) (suc b))
over_changes f A a same idle b p h = at_changed (ActorIs p) f A a (suc b) (λ i y ey k. record { posts = same y ∙ k.posts; works = λ w. absurd (no (sym (idle y) ∙ w)) }) h
  where
    no : false ≡ true → ⊥
    no e = cc

-- posts
talk_post : (a i n : ℕ) → i ≡ n + 1 → talks a (Posted a i) (Free n) ≡ Some (Waiting i)
talk_post a i n e = ap (λ t. if t then (if nat_eq i (n + 1) then Some (Waiting i) else None) else Some (Free n)) (self a) ∙ ap (λ t. if t then Some (Waiting i) else None) (eq-eqb i (n + 1) e)

only_one : (a i : ℕ) → only a (Post a i ∷ []) ≡ i ∷ []
only_one a i = ap (λ t. if t then i ∷ [] else []) (self a)

pub post_own : (a : ℕ) (f : Actor → Actor) (A : List Actor) (I : List EntryName) (E : Option EntryName) (t : List Line) (x : Actor) (p : Phase) → slice_get A a ≡ Some x → (f x).posts ≡ x.posts + 1 → working (Some (f x)) ≡ false → IsFree p → x.posts ≡ count_in p → scan (talks a) t (Free 0) ≡ Some p → only a I ≡ queued_in p → open_of a E ≡ open_in p → ((i : ℕ) → fresh p ≤ i → among (Post a i) (begins t) ≡ false) → ((i : ℕ) → fresh p ≤ i → among (Post a i) (dropped t) ≡ false) → Talks a (changed f A a) (I ++ Post a (x.posts + 1) ∷ []) E (t ++ Posted a (x.posts + 1) ∷ [])
post_own a f A I E t x (Free n) ex fp idle free posts told queue open_number nb nd = record {
  phase = Waiting (x.posts + 1);
  told = scan_more (talks a) (Posted a (x.posts + 1)) t (Free 0) (Free n) told ∙ talk_post a (x.posts + 1) n (ap (λ k. k + 1) posts);
  queue = only_append a I (Post a (x.posts + 1) ∷ []) ∙ ap (λ l. l ++ only a (Post a (x.posts + 1) ∷ [])) queue ∙ only_one a (x.posts + 1);
  open_number = open_number;
  is = subst (ActorIs (Waiting (x.posts + 1))) (sym (get_changed f A a x ex)) (record { posts = fp; works = λ w. absurd (no (sym idle ∙ w)) });
  new_begin = λ i le. ap (among (Post a i)) (begins_same t (Posted a (x.posts + 1)) refl) ∙ nb i (omega arith);
  new_drop = λ i le. ap (among (Post a i)) (dropped_same t (Posted a (x.posts + 1)) refl) ∙ nd i (omega arith);
}
  where
    no : false ≡ true → ⊥
    no e = cc
post_own a f A I E t x (Waiting n) ex fp idle free posts told queue open_number nb nd = absurd free
post_own a f A I E t x (Open n) ex fp idle free posts told queue open_number nb nd = absurd free
post_own a f A I E t x (Gone n) ex fp idle free posts told queue open_number nb nd = absurd free

post_aside : (a b i : ℕ) → nat_eq a b ≡ false → Aside b (Posted a i)
post_aside a b i e = record { talk = λ p. ap (λ t. if t then when_free i p else Some p) e; begin = λ i. refl; drop = λ i. refl }

only_other : (a b i : ℕ) → nat_eq a b ≡ false → (I : List EntryName) → only b (I ++ Post a i ∷ []) ≡ only b I
only_other a b i e I = only_append b I (Post a i ∷ []) ∙ ap (λ t. only b I ++ (if t then i ∷ [] else [])) e ∙ append-nil (only b I)

pub other_changes : (f : Actor → Actor) (A : List Actor) (a b : ℕ) (p : Phase) → nat_eq a b ≡ false → ActorIs p (slice_get A b) → ActorIs p (slice_get (changed f A a) b)
other_changes f A a b p e h = at_changed (ActorIs p) f A a b (λ i. absurd (no (sym e ∙ ap (nat_eq a) (sym i) ∙ self a))) h
  where
    no : false ≡ true → ⊥
    no e = cc

post_entries : (a i : ℕ) (I : List EntryName) (E : Option EntryName) (t : List Line) (R : List EntryName) → among (Post a i) (dropped t) ≡ false → Entries I E t R → Entries (I ++ Post a i ∷ []) E (t ++ Posted a i ∷ []) (R ++ Post a i ∷ [])
post_entries a i I E t R new h = record {
  order = ap (λ d. without d (R ++ Post a i ∷ [])) (dropped_same t (Posted a i) refl) ∙ without_append (dropped t) R (Post a i ∷ []) ∙ ap (λ l. without (dropped t) R ++ l) (ap (λ t. if t then [] else Post a i ∷ []) new) ∙ ap (λ l. l ++ Post a i ∷ []) h.order ∙ append_assoc (begins t) I (Post a i ∷ []) ∙ ap (λ l. l ++ (I ++ Post a i ∷ [])) (sym (begins_same t (Posted a i) refl));
  one = scan_more takes_turns (Posted a i) t None E h.one;
  no_key = λ k. ap (among (Key k)) (dropped_same t (Posted a i) refl) ∙ h.no_key k;
  drops = more_drops (Posted a i) t (λ s. (None, refl)) h.drops;
}

free_fresh : (p : Phase) (n : ℕ) → IsFree p → n ≡ count_in p → fresh p ≤ n + 1
free_fresh (Free n) m f e = omega arith
free_fresh (Waiting n) m f e = absurd f
free_fresh (Open n) m f e = absurd f
free_fresh (Gone n) m f e = absurd f

pub post_act : (a : ℕ) (f : Actor → Actor) (A : List Actor) (I : List EntryName) (E : Option EntryName) (G : List Agenda) (h : History) (x : Actor) → slice_get A (suc a) ≡ Some x → (f x).posts ≡ x.posts + 1 → working (Some (f x)) ≡ false → FreeNow (suc a) h.trace → Holds A I E G h → Holds (changed f A (suc a)) (I ++ Post (suc a) (x.posts + 1) ∷ []) E G (said (Posted (suc a) (x.posts + 1)) (arrived (Post (suc a) (x.posts + 1)) h))
post_act a f A I E G h x ex fp idle fr r = record {
  actor = λ b. each b (same_or (suc a) (suc b));
  entries = post_entries (suc a) (x.posts + 1) I E h.trace h.arrivals (k.new_drop (x.posts + 1) (free_fresh k.phase x.posts free is.posts)) r.entries;
  deliveries = said_deliveries (Posted (suc a) (x.posts + 1)) G h.answered h.unanswered h.trace refl r.deliveries;
  walks = r.walks;
}
  where
    k : Talks (suc a) A I E h.trace
    k = r.actor a

    is : ActorIs k.phase (Some x)
    is = subst (ActorIs k.phase) ex k.is

    free : IsFree k.phase
    free = free_phase (suc a) h.trace k.phase k.told fr

    own : Talks (suc a) (changed f A (suc a)) (I ++ Post (suc a) (x.posts + 1) ∷ []) E (h.trace ++ Posted (suc a) (x.posts + 1) ∷ [])
    own = post_own (suc a) f A I E h.trace x k.phase ex fp idle free is.posts k.told k.queue k.open_number k.new_begin k.new_drop

    each : (b : ℕ) → (suc a ≡ suc b) ⊎ (nat_eq (suc a) (suc b) ≡ false) → Talks (suc b) (changed f A (suc a)) (I ++ Post (suc a) (x.posts + 1) ∷ []) E (h.trace ++ Posted (suc a) (x.posts + 1) ∷ [])
    each b (inl e) = subst (λ c. Talks c (changed f A (suc a)) (I ++ Post (suc a) (x.posts + 1) ∷ []) E (h.trace ++ Posted (suc a) (x.posts + 1) ∷ [])) e own
    each b (inr e) = aside (suc b) (Posted (suc a) (x.posts + 1)) A (changed f A (suc a)) I (I ++ Post (suc a) (x.posts + 1) ∷ []) E E h.trace (post_aside (suc a) (suc b) (x.posts + 1) e) (only_other (suc a) (suc b) (x.posts + 1) e I) refl (λ p _. other_changes f A (suc a) (suc b) p e) (r.actor b)

-- keys
pub key_act : (i : ℕ) (A : List Actor) (I : List EntryName) (E : Option EntryName) (G : List Agenda) (h : History) → Holds A I E G h → Holds A (I ++ Key i ∷ []) E G (arrived (Key i) h)
key_act i A I E G h r = record {
  actor = λ b. let k = r.actor b in record { phase = k.phase; told = k.told; queue = only_append (suc b) I (Key i ∷ []) ∙ append-nil (only (suc b) I) ∙ k.queue; open_number = k.open_number; is = k.is; new_begin = k.new_begin; new_drop = k.new_drop };
  entries = record {
    order = without_append (dropped h.trace) h.arrivals (Key i ∷ []) ∙ ap (λ l. without (dropped h.trace) h.arrivals ++ l) (ap (λ t. if t then [] else Key i ∷ []) (r.entries.no_key i)) ∙ ap (λ l. l ++ Key i ∷ []) r.entries.order ∙ append_assoc (begins h.trace) I (Key i ∷ []);
    one = r.entries.one;
    no_key = r.entries.no_key;
    drops = r.entries.drops;
  };
  deliveries = r.deliveries;
  walks = r.walks;
}

-- begins
talk_begin : (a : ℕ) (n : EntryName) (i : ℕ) → is_post_of a n ≡ true → number_of n ≡ i → talks a (Began n) (Waiting i) ≡ Some (Open i)
talk_begin a n i e q = ap (λ t. if t then (if nat_eq (number_of n) i then Some (Open i) else None) else Some (Waiting i)) e ∙ ap (λ t. if t then Some (Open i) else None) (eq-eqb (number_of n) i q)

-- the first of the inbox is of this actor: so it waits for it
same_number : (a : ℕ) (n : EntryName) (I : List EntryName) (p : Phase) → is_post_of a n ≡ true → only a (n ∷ I) ≡ queued_in p → (number_of n ∷ only a I) ≡ queued_in p
same_number a n I p e q = sym (ap (λ t. if t then number_of n ∷ only a I else only a I) e) ∙ q

same_of : (a i : ℕ) (n : EntryName) → (number_of n ≡ i → ⊥) → same_name (Post a i) n ≡ false
same_of a i (Post b j) ne = both (nat_eq a b) (ne_eqb i j (λ e. ne (sym e)))
  where
    both : (t : Bool) → nat_eq i j ≡ false → (t && nat_eq i j) ≡ false
    both true e = e
    both false e = refl
same_of a i (Key j) ne = refl

among_one : (a i : ℕ) (n : EntryName) → (number_of n ≡ i → ⊥) → among (Post a i) (n ∷ []) ≡ false
among_one a i n ne = ap (λ t. if t then true else false) (same_of a i n ne)

begin_own : (a : ℕ) (n : EntryName) (A : List Actor) (I : List EntryName) (E : Option EntryName) (t : List Line) (p : Phase) → is_post_of a n ≡ true → ActorIs p (slice_get A a) → scan (talks a) t (Free 0) ≡ Some p → (number_of n ∷ only a I) ≡ queued_in p → ((i : ℕ) → fresh p ≤ i → among (Post a i) (begins t) ≡ false) → ((i : ℕ) → fresh p ≤ i → among (Post a i) (dropped t) ≡ false) → Talks a A I (Some n) (t ++ Began n ∷ [])
begin_own a n A I E t (Waiting i) e is told q nb nd =
    let number : number_of n ≡ i = cc in
    record {
      phase = Open i;
      told = scan_more (talks a) (Began n) t (Free 0) (Waiting i) told ∙ talk_begin a n i e number;
      queue = cc;
      open_number = ap (λ t. if t then number_of n ∷ [] else []) e ∙ ap (λ j. j ∷ []) number;
      is = record { posts = is.posts; works = is.works };
      new_begin = λ j le. ap (among (Post a j)) (begins_append t (Began n ∷ [])) ∙ among_append (Post a j) (begins t) (n ∷ []) (nb j (omega arith)) ∙ among_one a j n (λ e. omega arith);
      new_drop = λ j le. ap (among (Post a j)) (dropped_same t (Began n) refl) ∙ nd j (omega arith);
    }
begin_own a n A I E t (Free i) e is told q nb nd = cc
begin_own a n A I E t (Open i) e is told q nb nd = cc
begin_own a n A I E t (Gone i) e is told q nb nd = cc

same_not : (a i : ℕ) (n : EntryName) → is_post_of a n ≡ false → same_name (Post a i) n ≡ false
same_not a i (Post b j) e = ap (λ t. t && nat_eq i j) (turned a b e)
  where
    turned : (a b : ℕ) → nat_eq b a ≡ false → nat_eq a b ≡ false
    turned a b e = ne_eqb a b (λ q. no (sym e ∙ ap (λ c. nat_eq c a) (sym q) ∙ self a))
      where
        no : false ≡ true → ⊥
        no e = cc
same_not a i (Key j) e = refl

begin_aside : (a : ℕ) (n : EntryName) → is_post_of a n ≡ false → Aside a (Began n)
begin_aside a n e = record { talk = λ p. ap (λ t. if t then when_waiting (number_of n) Open p else Some p) e; begin = λ i. ap (λ t. if t then true else false) (same_not a i n e); drop = λ i. refl }

pub begin_act : (n : EntryName) (A : List Actor) (I : List EntryName) (G : List Agenda) (h : History) → Holds A (n ∷ I) None G h → Holds A I (Some n) G (said (Began n) h)
begin_act n A I G h r = record {
  actor = λ b. each b (is_post_of (suc b) n) refl (r.actor b);
  entries = record {
    order = ap (λ d. without d h.arrivals) (dropped_same h.trace (Began n) refl) ∙ r.entries.order ∙ sym (append_assoc (begins h.trace) (n ∷ []) I) ∙ ap (λ l. l ++ I) (sym (begins_append h.trace (Began n ∷ [])));
    one = scan_more takes_turns (Began n) h.trace None None r.entries.one;
    no_key = λ i. ap (among (Key i)) (dropped_same h.trace (Began n) refl) ∙ r.entries.no_key i;
    drops = more_drops (Began n) h.trace (λ s. (None, refl)) r.entries.drops;
  };
  deliveries = said_deliveries (Began n) G h.answered h.unanswered h.trace refl r.deliveries;
  walks = begun_walked G (Some n) h.walks r.walks;
}
  where
    each : (b : ℕ) (t : Bool) → is_post_of (suc b) n ≡ t → Talks (suc b) A (n ∷ I) None h.trace → Talks (suc b) A I (Some n) (h.trace ++ Began n ∷ [])
    each b true e k = begin_own (suc b) n A I None h.trace k.phase e k.is k.told (same_number (suc b) n I k.phase e k.queue) k.new_begin k.new_drop
    each b false e k = aside (suc b) (Began n) A A (n ∷ I) I None (Some n) h.trace (begin_aside (suc b) n e) (sym (ap (λ t. if t then number_of n ∷ only (suc b) I else only (suc b) I) e)) (ap (λ t. if t then number_of n ∷ [] else []) e) (λ p _ k. k) k

-- ends
talk_end : (a : ℕ) (n : EntryName) (i : ℕ) → is_post_of a n ≡ true → number_of n ≡ i → talks a (Ended n) (Open i) ≡ Some (Free i)
talk_end a n i e q = ap (λ t. if t then (if nat_eq (number_of n) i then Some (Free i) else None) else Some (Open i)) e ∙ ap (λ t. if t then Some (Free i) else None) (eq-eqb (number_of n) i q)

end_own : (a : ℕ) (n : EntryName) (A' : List Actor) (I : List EntryName) (t : List Line) (p : Phase) → is_post_of a n ≡ true → posts_of (slice_get A' a) ≡ count_in p → scan (talks a) t (Free 0) ≡ Some p → only a I ≡ queued_in p → (number_of n ∷ []) ≡ open_in p → ((i : ℕ) → fresh p ≤ i → among (Post a i) (begins t) ≡ false) → ((i : ℕ) → fresh p ≤ i → among (Post a i) (dropped t) ≡ false) → Talks a A' I None (t ++ Ended n ∷ [])
end_own a n A' I t (Open i) e posts told queue q nb nd = record {
  phase = Free i;
  told = scan_more (talks a) (Ended n) t (Free 0) (Open i) told ∙ talk_end a n i e cc;
  queue = queue;
  open_number = refl;
  is = record { posts = posts; works = λ _. tt };
  new_begin = λ j le. ap (among (Post a j)) (begins_same t (Ended n) refl) ∙ nb j le;
  new_drop = λ j le. ap (among (Post a j)) (dropped_same t (Ended n) refl) ∙ nd j le;
}
end_own a n A' I t (Free i) e posts told queue q nb nd = cc
end_own a n A' I t (Waiting i) e posts told queue q nb nd = cc
end_own a n A' I t (Gone i) e posts told queue q nb nd = cc

end_aside : (a : ℕ) (n : EntryName) → is_post_of a n ≡ false → Aside a (Ended n)
end_aside a n e = record { talk = λ p. ap (λ t. if t then when_open (number_of n) p else Some p) e; begin = λ i. refl; drop = λ i. refl }

pub end_act : (n : EntryName) (A A' : List Actor) (I : List EntryName) (h : History) → ((b : ℕ) → posts_of (slice_get A' b) ≡ posts_of (slice_get A b)) → ((b : ℕ) (p : Phase) → is_post_of b n ≡ false → ActorIs p (slice_get A b) → ActorIs p (slice_get A' b)) → Holds A I (Some n) [] h → Holds A' I None [] (said (Ended n) (answer_all h))
end_act n A A' I h posts keep r = record {
  actor = λ b. each b (is_post_of (suc b) n) refl (r.actor b);
  entries = record {
    order = ap (λ d. without d h.arrivals) (dropped_same h.trace (Ended n) refl) ∙ r.entries.order ∙ ap (λ l. l ++ I) (sym (begins_same h.trace (Ended n) refl));
    one = scan_more takes_turns (Ended n) h.trace None (Some n) r.entries.one ∙ ap (λ t. if t then Some None else None) (same_self n);
    no_key = λ i. ap (among (Key i)) (dropped_same h.trace (Ended n) refl) ∙ r.entries.no_key i;
    drops = more_drops (Ended n) h.trace (λ s. (None, refl)) r.entries.drops;
  };
  deliveries = ended_deliveries n h.answered h.unanswered h.trace r.deliveries;
  walks = r.walks;
}
  where
    each : (b : ℕ) (t : Bool) → is_post_of (suc b) n ≡ t → Talks (suc b) A I (Some n) h.trace → Talks (suc b) A' I None (h.trace ++ Ended n ∷ [])
    each b true e k = end_own (suc b) n A' I h.trace k.phase e (posts (suc b) ∙ k.is.posts) k.told k.queue (sym (ap (λ t. if t then number_of n ∷ [] else []) e) ∙ k.open_number) k.new_begin k.new_drop
    each b false e k = aside (suc b) (Ended n) A A' I I (Some n) None h.trace (end_aside (suc b) n e) refl (sym (ap (λ t. if t then number_of n ∷ [] else []) e)) (λ p _. keep (suc b) p e) k

-- drops
talk_drop : (a i : ℕ) → talks a (Dropped a i) (Waiting i) ≡ Some (Gone i)
talk_drop a i = ap (λ t. if t then (if nat_eq i i then Some (Gone i) else None) else Some (Waiting i)) (self a) ∙ ap (λ t. if t then Some (Gone i) else None) (self i)

drop_aside : (a b i : ℕ) → nat_eq a b ≡ false → Aside b (Dropped a i)
drop_aside a b i e = record { talk = λ p. ap (λ t. if t then when_waiting i Gone p else Some p) e; begin = λ k. refl; drop = λ k. ap (λ t. if t && nat_eq k i then true else false) (turned e) }
  where
    turned : nat_eq a b ≡ false → nat_eq b a ≡ false
    turned e = ne_eqb b a (λ q. no (sym e ∙ ap (nat_eq a) q ∙ self a))
      where
        no : false ≡ true → ⊥
        no e = cc

drop_own : (a i : ℕ) (A : List Actor) (I : List EntryName) (E : Option EntryName) (t : List Line) → ActorIs (Waiting i) (slice_get A a) → working (slice_get A a) ≡ false → scan (talks a) t (Free 0) ≡ Some (Waiting i) → open_of a E ≡ [] → ((k : ℕ) → i ≤ k → among (Post a k) (begins t) ≡ false) → ((k : ℕ) → i ≤ k → among (Post a k) (dropped t) ≡ false) → Talks a A (others a I) E (t ++ Dropped a i ∷ [])
drop_own a i A I E t is idle told open_number nb nd = record {
  phase = Gone i;
  told = scan_more (talks a) (Dropped a i) t (Free 0) (Waiting i) told ∙ talk_drop a i;
  queue = only_none a I;
  open_number = open_number;
  is = record { posts = is.posts; works = λ w. is.works w };
  new_begin = λ k le. ap (among (Post a k)) (begins_same t (Dropped a i) refl) ∙ nb k (omega arith);
  new_drop = λ k le. ap (among (Post a k)) (dropped_append t (Dropped a i ∷ [])) ∙ among_append (Post a k) (dropped t) (Post a i ∷ []) (nd k (omega arith)) ∙ among_one a k (Post a i) (λ e. omega arith);
}

-- the entries of an actor that doesn't work any more are dropped
drop_one : (a i : ℕ) (A : List Actor) (I : List EntryName) (E : Option EntryName) (G : List Agenda) (h : History) → scan follows_stop h.trace None ≡ Some (Some (suc a)) → working (slice_get A (suc a)) ≡ false → only (suc a) I ≡ i ∷ [] → (k : Talks (suc a) A I E h.trace) → k.phase ≡ Waiting i → Holds A I E G h → Holds A (others (suc a) I) E G (said (Dropped (suc a) i) h)
drop_one a i A I E G h stopped idle one k pe r = record {
  actor = λ b. each b (same_or (suc a) (suc b));
  entries = record {
    order = ap (λ d. without d h.arrivals) (dropped_append h.trace (Dropped (suc a) i ∷ [])) ∙ without_both (dropped h.trace) (Post (suc a) i ∷ []) h.arrivals ∙ ap (without (Post (suc a) i ∷ [])) r.entries.order ∙ without_append (Post (suc a) i ∷ []) (begins h.trace) I ∙ ap (λ l. l ++ without (Post (suc a) i ∷ []) I) (without_none (Post (suc a) i) (begins h.trace) (nb i (omega arith))) ∙ ap (λ l. begins h.trace ++ l) (one_others (suc a) i I one) ∙ ap (λ l. l ++ others (suc a) I) (sym (begins_same h.trace (Dropped (suc a) i) refl));
    one = scan_more takes_turns (Dropped (suc a) i) h.trace None E r.entries.one;
    no_key = λ j. ap (among (Key j)) (dropped_append h.trace (Dropped (suc a) i ∷ [])) ∙ among_append (Key j) (dropped h.trace) (Post (suc a) i ∷ []) (r.entries.no_key j);
    drops = (None, scan_more follows_stop (Dropped (suc a) i) h.trace None (Some (suc a)) stopped ∙ ap (λ t. if t then Some None else None) (self (suc a)));
  };
  deliveries = said_deliveries (Dropped (suc a) i) G h.answered h.unanswered h.trace refl r.deliveries;
  walks = r.walks;
}
  where
    nb : (j : ℕ) → i ≤ j → among (Post (suc a) j) (begins h.trace) ≡ false
    nb j le = k.new_begin j (subst (λ p. fresh p ≤ j) (sym pe) le)

    nd : (j : ℕ) → i ≤ j → among (Post (suc a) j) (dropped h.trace) ≡ false
    nd j le = k.new_drop j (subst (λ p. fresh p ≤ j) (sym pe) le)

    own : Talks (suc a) A (others (suc a) I) E (h.trace ++ Dropped (suc a) i ∷ [])
    own = drop_own (suc a) i A I E h.trace (subst (λ p. ActorIs p (slice_get A (suc a))) pe k.is) idle (k.told ∙ ap (λ p. Some p) pe) (k.open_number ∙ ap open_in pe) nb nd

    each : (b : ℕ) → (suc a ≡ suc b) ⊎ (nat_eq (suc a) (suc b) ≡ false) → Talks (suc b) A (others (suc a) I) E (h.trace ++ Dropped (suc a) i ∷ [])
    each b (inl e) = subst (λ c. Talks c A (others (suc a) I) E (h.trace ++ Dropped (suc a) i ∷ [])) e own
    each b (inr e) = aside (suc b) (Dropped (suc a) i) A A I (others (suc a) I) E E h.trace (drop_aside (suc a) (suc b) i e) (only_others (suc a) (suc b) e I) refl (λ p _ k. k) (r.actor b)

pub drop_act : (a : ℕ) (A : List Actor) (I : List EntryName) (E : Option EntryName) (G : List Agenda) (h : History) → scan follows_stop h.trace None ≡ Some (Some (suc a)) → working (slice_get A (suc a)) ≡ false → Holds A I E G h → Holds A (others (suc a) I) E G (record_all (map (Drops (suc a)) (only (suc a) I)) h)
drop_act a A I E G h stopped idle r = go k.phase refl
  where
    k : Talks (suc a) A I E h.trace
    k = r.actor a

    none : only (suc a) I ≡ [] → Holds A (others (suc a) I) E G (record_all (map (Drops (suc a)) (only (suc a) I)) h)
    none e = subst (λ l. Holds A (others (suc a) I) E G (record_all (map (Drops (suc a)) l) h)) (sym e) (subst (λ l. Holds A l E G h) (sym (none_others (suc a) I e)) r)

    go : (p : Phase) → k.phase ≡ p → Holds A (others (suc a) I) E G (record_all (map (Drops (suc a)) (only (suc a) I)) h)
    go (Waiting i) e =
        let one = k.queue ∙ ap queued_in e in
        subst (λ l. Holds A (others (suc a) I) E G (record_all (map (Drops (suc a)) l) h)) (sym one) (drop_one a i A I E G h stopped idle one k e r)
    go (Free i) e = none (k.queue ∙ ap queued_in e)
    go (Open i) e = none (k.queue ∙ ap queued_in e)
    go (Gone i) e = none (k.queue ∙ ap queued_in e)

-- deliveries
notify_aside : (a : ℕ) (n : ℕ) (f : Text) (r : Registration) → Aside a (Notified n f r)
notify_aside a n f r = record { talk = λ p. refl; begin = λ i. refl; drop = λ i. refl }

pub deliver_act : (message : Message) (x : Registration) (left : List Registration) (next : Next) (later : List Agenda) (A : List Actor) (I : List EntryName) (E : Option EntryName) (h : History) → Holds A I E (Deliveries false message (x ∷ left) next ∷ later) h → Holds A I E (Deliveries true message left next ∷ later) (said (Notified message.node message.field x) (record h { unanswered = delivered x h.unanswered }))
deliver_act message x left next later A I E h k = record {
  actor = λ b. aside (suc b) (Notified message.node message.field x) A A I I E E h.trace (notify_aside (suc b) message.node message.field x) refl refl (λ p _ i. i) (k.actor b);
  entries = record {
    order = ap (λ d. without d h.arrivals) (dropped_same h.trace (Notified message.node message.field x) refl) ∙ k.entries.order ∙ ap (λ l. l ++ I) (sym (begins_same h.trace (Notified message.node message.field x) refl));
    one = scan_more takes_turns (Notified message.node message.field x) h.trace None E k.entries.one;
    no_key = λ i. ap (among (Key i)) (dropped_same h.trace (Notified message.node message.field x) refl) ∙ k.entries.no_key i;
    drops = more_drops (Notified message.node message.field x) h.trace (λ s. (None, refl)) k.entries.drops;
  };
  deliveries = deliver_one x left false true message next later h.answered h.unanswered h.trace k.deliveries;
  walks = k.walks;
}
