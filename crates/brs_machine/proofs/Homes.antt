-- A home that is added, homes that are taken back, and the end of an actor.
use Rattle.std.proofs.Common.{◌≡◌, ℕ, ◌+◌, List, [], ◌∷◌, ◌++◌, length, map, append_assoc, append-nil, refl, sym, ap, ◌∙◌, subst, arith}
use Rattle.chan_values.specs.Tree.{Tree}
use Rattle.copy_meaning.specs.Laying.{LaysDown, with_tree, value_of_tree}
use Rattle.heap_meaning.specs.Values.{Value}
use Rattle.heap_meaning.specs.Stands.{Naming}
use Rattle.heap_meaning.specs.Cells.{occurrence}
use Rattle.heap_meaning.specs.Heap.{Heap, Moves, no_references, references_of}
use Rattle.call_release.specs.References.{call_references}
use Rattle.call_release.proofs.Chains.{none_taken, both_taken, taken_as}
use Rattle.heap_meaning.proofs.Steps.{stands_same}
use Rattle.actor_meaning.specs.View.{Home, Actor, held, home_references, home_meaning}
use Rattle.actor_meaning.proofs.Naming.{homes_agree, machine_same}
use Rattle.brs_machine.specs.Actors.{with_home, AddsHome}

-- these last homes were taken back
pub record Released (h0 h : Heap) (old new : List Home) : Type 0 where
  pub gone : List Home
  pub moves : Moves h0 h (λ k. home_references k gone) no_references
  pub homes : old ≡ new ++ gone
  pub shares : h.shares ≡ h0.shares

pub released_none : (h : Heap) (homes : List Home) → Released h h homes homes
released_none h homes = record { gone = []; moves = none_taken h (λ k. 0) (λ k. refl); homes = sym (append-nil homes); shares = refl }

pub released_more : (h0 h h' : Heap) (old new new' : List Home) (x : Home) → Released h0 h old new → new ≡ new' ++ x ∷ [] → Moves h h' (references_of x.m) no_references → h'.shares ≡ h.shares → Released h0 h' old new'
released_more h0 h h' old new new' x d rest moves shares = record {
  gone = x ∷ d.gone;
  moves = both_taken h0 h h' (λ k. home_references k d.gone) (references_of x.m) (λ k. home_references k (x ∷ d.gone)) d.moves moves (λ k. omega arith);
  homes = d.homes ∙ ap (λ l. l ++ d.gone) rest ∙ append_assoc new' (x ∷ []) d.gone;
  shares = shares ∙ d.shares;
}

pub released_all : (h0 h : Heap) (old new : List Home) → Released h0 h old new → new ≡ [] → Moves h0 h (λ k. home_references k old) no_references
released_all h0 h old new d none = taken_as h0 h (λ k. home_references k d.gone) (λ k. home_references k old) d.moves (λ k. ap (home_references k) (d.homes ∙ ap (λ l. l ++ d.gone) none))

pub empty_list : (homes : List Home) → length homes ≡ 0 → homes ≡ []
empty_list [] e = refl
empty_list (x ∷ homes) e = absurd (omega arith)

pub both_released : (h0 h1 h2 : Heap) (a : Actor) → Moves h0 h1 (λ k. call_references k a.frames) no_references → Moves h1 h2 (λ k. home_references k a.homes) no_references → Moves h0 h2 (held a) no_references
both_released h0 h1 h2 a calls homes = both_taken h0 h1 h2 (λ k. call_references k a.frames) (λ k. home_references k a.homes) (held a) calls homes (λ k. omega arith)

-- ---- a home more

homes_more : (k : ℕ) (homes : List Home) (x : Home) → home_references k (homes ++ x ∷ []) ≡ occurrence k x.m + home_references k homes
homes_more k [] x = omega arith
homes_more k (h ∷ homes) x = let e = homes_more k homes x in omega arith

meant_more : (name : Naming) (homes : List Home) (x : Home) → map (home_meaning name) (homes ++ x ∷ []) ≡ map (home_meaning name) homes ++ home_meaning name x ∷ []
meant_more name [] x = refl
meant_more name (h ∷ homes) x = ap (λ l. home_meaning name h ∷ l) (meant_more name homes x)

pub home_added : (old_heap new_heap : Heap) (old : Actor) (v : Value) (t : Tree) → LaysDown old_heap new_heap v t → AddsHome old_heap old new_heap (with_home v old) t
home_added old_heap new_heap old v t lays = record {
  m = v;
  is = refl;
  seen = λ image name homes machine store is.
      let made = lays name store (held old) (λ k. occurrence k v + held old k) is.stands (λ k. refl) in
      record {
        naming = made.naming;
        is = record {
          stands = stands_same made.naming new_heap.cells (with_tree store t) (λ k. occurrence k v + held old k) (held (with_home v old)) made.stands (λ k. let e = homes_more k old.homes (record { scope = 0; m = v }) in omega arith);
          homes_are =
              ap (λ l. l ++ record { scope = 0; m = value_of_tree store t } ∷ []) (is.homes_are ∙ sym (homes_agree name made.naming (held old) made.agrees old.homes (λ k. omega arith)))
              ∙ ap (λ w. map (home_meaning made.naming) old.homes ++ record { scope = 0; m = w } ∷ []) (sym made.shows)
              ∙ sym (meant_more made.naming old.homes (record { scope = 0; m = v }));
          machine_is = machine_same name made.naming (held old) made.agrees image old.phase old.frames machine (λ k. omega arith) is.machine_is;
        };
      };
}

pub added_as : (old_heap new_heap : Heap) (old : Actor) (homes : List Home) (v : Value) (t : Tree) → LaysDown old_heap new_heap v t → homes ≡ old.homes ++ record { scope = 0; m = v } ∷ [] → AddsHome old_heap old new_heap (record old { homes = homes }) t
added_as old_heap new_heap old homes v t lays e = subst (λ l. AddsHome old_heap old new_heap (record old { homes = l }) t) (sym e) (home_added old_heap new_heap old v t lays)
