-- What holds while the parts of items are counted.
use Rattle.std.proofs.Common.{◌≡◌, ℕ, ◌+◌, ◌-◌, ◌<◌, List, take, length, Option, Some, None, Result, Ok, Err, refl, sym, ap, ◌∙◌, arith}
use Rattle.std.specs.Prelude.{slice_get, option_map}
use Rattle.chan_values.specs.Tree.{Tree, Leaf, Branch, Trees, none, parts, all_parts}
use Rattle.heap_meaning.specs.Values.{Value}
use Rattle.heap_meaning.specs.Heap.{Heap, content_at}
use Rattle.heap_meaning.specs.Reading.{children_in}
use Rattle.copy_meaning.specs.Bounded.{each, tree_within}
use Rattle.copy_meaning.specs.Forms.{form_at}
use Rattle.copy_meaning.proofs.Unfolding.{none_of}
use Rattle.copy_meaning.proofs.Numbers.{snoc}
use Rattle.brs_copy.specs.declared.count.Excess.{Excess}
use Rattle.brs_copy.specs.declared.count.Excess.TheVariants.{TooDeep, TooLarge}
use Rattle.brs_copy.specs.Counts.{Counted, CountedAll, Counts, CountsAll}
use Rattle.brs_copy.proofs.Trees.{parts_snoc, each_more, each_whole, amid}
use Rattle.brs_copy.proofs.Forming.{within_single, within_holds, IsSingle, IsHolding}

-- the first items are counted
pub record Counting {A : Type 0} (one : A → Option Tree) (items : List A) (at before left : ℕ) : Type 0 where
  pub trees : Trees
  pub are : each one (take at items) ≡ Some trees
  pub taken : left + all_parts trees ≡ before

pub count_start : {A : Type 0} (one : A → Option Tree) (items : List A) (left : ℕ) → Counting one items 0 left left
count_start one items left = record { trees = none; are = refl; taken = omega arith }

pub count_more : {A : Type 0} (one : A → Option Tree) (items : List A) (at before left left' : ℕ) (a : A) → Counting one items at before left → slice_get items at ≡ Some a → Counted (one a) left left' → Counting one items (at + 1) before left'
count_more one items at before left left' a f g c = record {
  trees = snoc f.trees c.tree;
  are = each_more one items at a f.trees c.tree f.are g c.is;
  taken = (let q = parts_snoc f.trees c.tree in let k = f.taken in let l = c.taken in omega arith);
}

pub count_whole : {A : Type 0} (one : A → Option Tree) (items : List A) (at before left : ℕ) → Counting one items at before left → at ≡ length items → CountedAll (each one items) before left
count_whole one items at before left f e = record { trees = f.trees; are = each_whole one items at (Some f.trees) f.are e; taken = f.taken }

-- the count of an item stopped
pub count_stops : {A : Type 0} (one : A → Option Tree) (items : List A) (at before left left' : ℕ) (a : A) (fault : Excess) → Counting one items at before left → slice_get items at ≡ Some a → Counts (one a) left left' (Err fault) → CountsAll (each one items) before left' (Err fault)
count_stops one items at before left left' a TooDeep f g e = none_of one items at a g e
count_stops one items at before left left' a TooLarge f g e =
    λ ws p. let m = amid one items at a f.trees ws p f.are g in let l = e m.tree m.its in let n = m.less in let c = f.taken in omega arith

pub single_counted : (h : Heap) (v : Value) (bound before left : ℕ) → IsSingle h v → left + 1 ≡ before → Counted (tree_within (form_at h) bound v) before left
single_counted h v bound before left s l = record { tree = Leaf s.plain; is = within_single h v bound s.plain s.is; taken = l }

-- the items of a value are counted, or their count stopped
pub items_counted : (h : Heap) (v : Value) (bound before inner after : ℕ) (r : Result (Unit {0}) Excess) → 0 < bound → inner + 1 ≡ before → IsHolding h v → CountsAll (each (tree_within (form_at h) (bound - 1)) (children_in (content_at h v))) inner after r → Counts (tree_within (form_at h) bound v) before after r
items_counted h v bound before inner after (Ok done) l m k c = record {
  tree = Branch k.kind c.trees;
  is = within_holds h v bound k.kind (children_in (content_at h v)) l k.is ∙ ap (option_map (Branch k.kind)) c.are;
  taken = (let t = c.taken in omega arith);
}
items_counted h v bound before inner after (Err TooDeep) l m k c = within_holds h v bound k.kind (children_in (content_at h v)) l k.is ∙ ap (option_map (Branch k.kind)) c
items_counted h v bound before inner after (Err TooLarge) l m k c =
    λ t q. go t (each (tree_within (form_at h) (bound - 1)) (children_in (content_at h v))) c (sym (within_holds h v bound k.kind (children_in (content_at h v)) l k.is) ∙ q)
  where
    go : (t : Tree) (os : Option Trees) → ((ts : Trees) → os ≡ Some ts → inner < all_parts ts) → option_map (Branch k.kind) os ≡ Some t → before < parts t
    go t None f q = absurd cc
    go t (Some ts) f q = let r : Branch k.kind ts ≡ t = cc in let n = f ts refl in let x = ap parts r in omega arith
