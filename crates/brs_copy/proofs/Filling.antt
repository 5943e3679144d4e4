-- What holds while the items of a value that keeps the bounds are copied.
use Rattle.std.proofs.Common.{◌≡◌, ℕ, zero, suc, ◌+◌, ◌-◌, ◌<◌, ◌≤◌, max, List, [], ◌∷◌, ◌++◌, take, Option, Some, None, Result, Ok, Err, refl, sym, ap, ◌∙◌, subst, arith}
use Rattle.std.specs.Prelude.{slice_get, option_map, IfOk}
use Rattle.std.proofs.lemmas.List.{map-append}
use Rattle.std.specs.List.{AllByRecursion}
use Rattle.std.specs.List.Sorted.{IsStrictlySortedBy}
use Rattle.std.specs.Ordering.{nat_cmp}
use Rattle.std.specs.Cmp.Lexicographic.{slice_cmp}
use Rattle.std.specs.declared.cmp.Ordering.TheVariants.{Less}
use Rattle.chan_values.specs.Folded.{folded}
use Rattle.chan_values.specs.Tree.{Kind, Tree, Branch, Trees, trees, parts, all_parts, depth, deepest, array_of, TreePair, values_of, pairs_of}
use Rattle.chan_values.specs.declared.portable.Portable.{Portable}
use Rattle.chan_values.specs.declared.NoMemory.{NoMemory}
use Rattle.chan_values.specs.View.{tree_of}
use Rattle.chan_values.specs.Portable.{IsBounded, IsKeyList}
use Rattle.chan_values.proofs.Walk.{deepest_more, parts_more}
use Rattle.heap_meaning.specs.Values.{Value}
use Rattle.heap_meaning.specs.Heap.{Heap, content_at}
use Rattle.heap_meaning.specs.Reading.{children_in}
use Rattle.copy_meaning.specs.Unfolding.{Holds}
use Rattle.copy_meaning.specs.Bounded.{each, closed, tree_within}
use Rattle.copy_meaning.specs.Forms.{form_at}
use Rattle.copy_meaning.proofs.Numbers.{trees_snoc}
use Rattle.brs_copy.specs.Fits.{Fits, FitsAll}
use Rattle.brs_copy.proofs.Trees.{each_more, amid}
use Rattle.brs_copy.proofs.Forming.{within_none, within_holds, IsHolding}

-- the first items have these trees
pub record Filling {A : Type 0} (one : A → Option Tree) (items : List A) (at : ℕ) (ts : List Tree) : Type 0 where
  pub are : each one (take at items) ≡ Some (trees ts)

pub fill_more : {A : Type 0} (one : A → Option Tree) (items : List A) (at : ℕ) (ts : List Tree) (a : A) (t : Tree) → Filling one items at ts → slice_get items at ≡ Some a → one a ≡ Some t → Filling one items (at + 1) (ts ++ t ∷ [])
fill_more one items at ts a t f g e = record { are = each_more one items at a (trees ts) t f.are g e ∙ ap Some (sym (trees_snoc ts t)) }

-- an item of what fits
pub item_fits : {A : Type 0} (one : A → Option Tree) (items : List A) (at : ℕ) (ts : List Tree) (a : A) → Filling one items at ts → FitsAll (each one items) → slice_get items at ≡ Some a → Fits (one a)
item_fits one items at ts a f all g =
    let m = amid one items at a (trees ts) all.trees all.are f.are g in
    let d = all.bounded.depth in let p = all.bounded.parts in let l = m.less in let s = m.shallower in
    record { tree = m.tree; is = m.its; bounded = record { depth = omega arith; parts = omega arith } }

-- there is room for its copy behind those before it
pub item_has_room : {A : Type 0} (one : A → Option Tree) (items : List A) (at : ℕ) (ts : List Tree) (a : A) (t : Tree) → Filling one items at ts → FitsAll (each one items) → slice_get items at ≡ Some a → one a ≡ Some t → IsBounded (array_of (ts ++ t ∷ []))
item_has_room one items at ts a t f all g e =
    let m = amid one items at a (trees ts) all.trees all.are f.are g in
    let q : m.tree ≡ t = (let r : Some m.tree ≡ Some t = sym m.its ∙ e in cc) in
    let d = all.bounded.depth in let p = all.bounded.parts in
    let l : all_parts (trees ts) + parts t ≤ all_parts all.trees = subst (λ u. all_parts (trees ts) + parts u ≤ all_parts all.trees) q m.less in
    let s : max (deepest (trees ts)) (depth t) ≤ deepest all.trees = subst (λ u. max (deepest (trees ts)) (depth u) ≤ deepest all.trees) q m.shallower in
    let x = deepest_more ts t in let y = parts_more ts t in
    record { depth = omega arith; parts = omega arith }

-- an array or associative array that fits is not at depth 0, and its items fit
pub bound_above : (h : Heap) (v : Value) (bound : ℕ) → IsHolding h v → Fits (tree_within (form_at h) bound v) → 0 < bound
bound_above h v zero k f = absurd (let r : Some f.tree ≡ None = sym f.is ∙ within_none h v 0 refl ∙ ap closed k.is in cc)
bound_above h v (suc n) k f = omega arith

pub items_fit : (h : Heap) (v : Value) (bound : ℕ) → IsHolding h v → Fits (tree_within (form_at h) bound v) → FitsAll (each (tree_within (form_at h) (bound - 1)) (children_in (content_at h v)))
items_fit h v bound k f = go (each (tree_within (form_at h) (bound - 1)) (children_in (content_at h v))) (sym (within_holds h v bound k.kind (children_in (content_at h v)) (bound_above h v bound k f) k.is) ∙ f.is)
  where
    go : (os : Option Trees) → option_map (Branch k.kind) os ≡ Some f.tree → FitsAll os
    go None q = absurd cc
    go (Some ts) q =
        let r : Branch k.kind ts ≡ f.tree = cc in
        let x = ap parts r in let y = ap depth r in let p = f.bounded.parts in let d = f.bounded.depth in
        record { trees = ts; are = refl; bounded = record { depth = omega arith; parts = omega arith } }

-- the copy of an array or associative array, from those of its items
pub items_filled : (h : Heap) (v : Value) (bound : ℕ) (k : Kind) (ts : Trees) → 0 < bound → (items : List Value) → form_at h v ≡ Holds k items → each (tree_within (form_at h) (bound - 1)) items ≡ Some ts → tree_within (form_at h) bound v ≡ Some (Branch k ts)
items_filled h v bound k ts l items e g = within_holds h v bound k items l e ∙ ap (option_map (Branch k)) g

-- the first keys are in order
all_front : (P : List ℕ → Type 0) (keys : List (List ℕ)) (n : ℕ) → AllByRecursion P keys → AllByRecursion P (take n keys)
all_front P [] zero h = tt
all_front P [] (suc n) h = tt
all_front P (k ∷ keys) zero h = tt
all_front P (k ∷ keys) (suc n) h = (h.0, all_front P keys n h.1)

ascending_front : (keys : List (List ℕ)) (n : ℕ) → IsStrictlySortedBy (slice_cmp nat_cmp) keys → IsStrictlySortedBy (slice_cmp nat_cmp) (take n keys)
unfolding IsStrictlySortedBy
ascending_front [] zero h = tt
ascending_front [] (suc n) h = tt
ascending_front (k ∷ keys) zero h = tt
ascending_front (k ∷ keys) (suc n) h = (all_front (λ l. slice_cmp nat_cmp k l ≡ Less) keys n h.0, ascending_front keys n h.1)

pub keys_front : (keys : List (List ℕ)) (n : ℕ) → IsKeyList keys → IsKeyList (take n keys)
keys_front keys n h = record { folded = all_front (λ k. folded k ≡ k) keys n h.folded; ascending = ascending_front keys n h.ascending }

-- a text is whole at any depth
pub words_filled : (h : Heap) (v : Value) (bound : ℕ) (r : Result Portable NoMemory) → IfOk r (λ p. (n : ℕ) → tree_within (form_at h) n v ≡ Some (tree_of p)) → IfOk r (λ p. tree_within (form_at h) bound v ≡ Some (tree_of p))
words_filled h v bound (Ok p) e = e bound
words_filled h v bound (Err fault) e = tt

-- pairs keep the bounds where their values do as the items of an array
pub pairs_bounded : (ps : List TreePair) (p : TreePair) → IsBounded (array_of (values_of ps ++ p.tree ∷ [])) → IsBounded (pairs_of (ps ++ p ∷ []))
pairs_bounded ps p b =
    let e : values_of (ps ++ p ∷ []) ≡ values_of ps ++ p.tree ∷ [] = map-append (λ q. q.tree) ps (p ∷ []) in
    let k = subst (λ ts. IsBounded (array_of ts)) (sym e) b in
    record { depth = k.depth; parts = k.parts }
