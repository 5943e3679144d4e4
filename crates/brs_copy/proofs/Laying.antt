-- What holds while items are laid down.
use Rattle.std.proofs.Common.{◌≡◌, ℕ, ◌+◌, ◌<◌, ◌≤◌, List, [], ◌∷◌, ◌++◌, take, length, length-append, append-nil, Some, None, refl, sym, ap, ◌∙◌, subst, arith}
use Rattle.std.specs.Prelude.{slice_get, slice_set, option_map}
use Rattle.std.proofs.lemmas.List.{map-append, length-map, length-take-le}
use Rattle.chan_values.specs.declared.portable.Portable.{Portable}
use Rattle.chan_values.specs.View.{tree_of}
use Rattle.chan_values.specs.Tree as t
use Rattle.chan_values.specs.Tree.{Kind, Array, Keyed, Tree, Leaf, Branch, trees, all_parts, TreePair, keys_of, values_of, array_of, pairs_of}
use Rattle.chan_values.specs.Folded.{folded}
use Rattle.chan_values.specs.Portable.{IsBounded, IsKeyList}
use Rattle.chan_values.proofs.Fronts.{keys_front}
use Rattle.chan_values.proofs.Order.{last_key}
use Rattle.heap_meaning.specs.declared.plain.Plain.{Plain}
use Rattle.heap_meaning.specs.Values.{Value, Direct, Cell, Scalar, Words, Reference}
use Rattle.heap_meaning.specs.Cells as c
use Rattle.heap_meaning.specs.Cells.{HeldCell, cell_at, count_at, count_of, occurrence}
use Rattle.heap_meaning.specs.Stands.{Outside, Stands, meaning}
use Rattle.heap_meaning.specs.Heap.{Heap, Made, MakesText, MakesObject, SetsItem, SetsKey, Belongs, content_at}
use Rattle.heap_meaning.specs.Reading.{length_in}
use Rattle.heap_meaning.specs.Framing.{Fresh, Grows, GrowsByKey, Keeps}
use Rattle.heap_meaning.proofs.Counts.{occurrence_self}
use Rattle.heap_meaning.proofs.Steps.{stands_same}
use Rattle.copy_meaning.specs.Laying.{arriving, all_containers, laid, all_laid, object_of, objects, all_objects, LaysDown, with_tree}
use Rattle.copy_meaning.proofs.Numbers.{all_objects_length, laid_more, objects_more, laid_length}
use Rattle.brs_copy.proofs.Growing.{Filled, Puts, item_puts, value_puts}
use Rattle.brs_copy.proofs.Forming.{one_part}

set_amid : {A : Type 0} (xs : List A) (x y : A) (ys zs : List A) → slice_set ((xs ++ x ∷ ys) ++ zs) (length xs) y ≡ xs ++ y ∷ (ys ++ zs)
set_amid [] x y ys zs = refl
set_amid (w ∷ xs) x y ys zs = ap (λ r. w ∷ r) (set_amid xs x y ys zs)

get_amid : {A : Type 0} (xs : List A) (x : A) (ys zs : List A) → slice_get ((xs ++ x ∷ ys) ++ zs) (length xs) ≡ Some x
get_amid [] x ys zs = refl
get_amid (w ∷ xs) x ys zs = get_amid xs x ys zs

-- so many items are in the array or associative array, which is new
pub record Laying (old new : Heap) (v : Value) (k : Kind) (ts : List Tree) : Type 0 where
  pub place : ℕ
  pub is : v ≡ Cell place
  pub vacant : cell_at old.cells place ≡ None
  pub cell : HeldCell
  pub holds : cell_at new.cells place ≡ Some cell
  pub live : 0 < cell.count
  pub content : Filled k cell.content (length ts)
  pub keeps : Keeps old new
  pub lays : LaysDown old new v (Branch k (trees ts))

fresh_keeps : (old new : Heap) (v : Value) (x : c.Content) → Fresh old new v x → Keeps old new
fresh_keeps old new v x f k cell e = f.others k (λ q. let r : Some cell ≡ None = sym e ∙ ap (cell_at old.cells) q ∙ f.vacant in absurd cc) ∙ e

pub lay_start : (old new : Heap) (v : Value) (k : Kind) (x : c.Content) → MakesObject old new v (object_of k []) → Fresh old new v x → Filled k x 0 → Laying old new v k []
lay_start old new v k x m f e = record {
  place = f.place;
  is = f.is;
  vacant = f.vacant;
  cell = record { count = 1; content = x };
  holds = f.holds;
  live = omega arith;
  content = e;
  keeps = fresh_keeps old new v x f;
  lays = λ name store before after s out. m name store before after s out;
}

lays_more : (old one two new : Heap) (v : Value) (k k' : Kind) (ts : List Tree) (w : Value) (t : Tree) → LaysDown old one v (Branch k (trees ts)) → LaysDown one two w t → Belongs two v → (place : ℕ) → v ≡ Cell place → Puts two new v k k' (length ts) w → LaysDown old new v (Branch k' (trees (ts ++ t ∷ [])))
lays_more old one two new v k k' ts w t lays item_lays belongs place is puts name store before after s out =
    let n = length store in
    let x = object_of k (all_laid (n + 1) (trees ts)) in
    let os = all_objects (n + 1) (trees ts) in
    let a = lays name store before after s out in
    let size : length (store ++ x ∷ os) ≡ n + 1 + all_containers (trees ts) = let p = length-append store (x ∷ os) in let q = all_objects_length (n + 1) (trees ts) in omega arith in
    let out2 : Outside = λ i. occurrence i w + after i in
    let b = item_lays a.naming (store ++ x ∷ os) after out2 a.stands (λ i. refl) in
    let m = length (store ++ x ∷ os) in
    let ps = objects m t in
    let shows : meaning b.naming v ≡ Reference n =
    ap (meaning b.naming) is ∙ b.agrees place (let p = out place in let q : occurrence place v ≡ 1 = ap (occurrence place) is ∙ occurrence_self place in omega arith) ∙ sym (ap (meaning a.naming) is) ∙ a.shows in
    let d = puts.stands b.naming ((store ++ x ∷ os) ++ ps) out2 after n (all_laid (n + 1) (trees ts)) b.stands belongs shows (get_amid store x os ps) (laid_length (n + 1) ts) (λ i. omega arith) in
    let item : meaning b.naming w ≡ laid (n + 1 + all_containers (trees ts)) t = b.shows ∙ ap (λ j. laid j t) size in
    let y : object_of k' (all_laid (n + 1) (trees ts) ++ meaning b.naming w ∷ []) ≡ object_of k' (all_laid (n + 1) (trees (ts ++ t ∷ []))) =
    ap (λ z. object_of k' (all_laid (n + 1) (trees ts) ++ z ∷ [])) item ∙ sym (ap (object_of k') (laid_more (n + 1) ts t)) in
    let rest : os ++ ps ≡ all_objects (n + 1) (trees (ts ++ t ∷ [])) =
    ap (λ j. os ++ objects j t) size ∙ sym (objects_more (n + 1) ts t) in
    let whole : slice_set ((store ++ x ∷ os) ++ ps) n (object_of k' (all_laid (n + 1) (trees ts) ++ meaning b.naming w ∷ [])) ≡ with_tree store (Branch k' (trees (ts ++ t ∷ []))) =
    set_amid store x _ os ps ∙ ap (λ z. store ++ z ∷ (os ++ ps)) y ∙ ap (λ z. store ++ object_of k' (all_laid (n + 1) (trees (ts ++ t ∷ []))) ∷ z) rest in
    record {
      naming = b.naming;
      agrees = λ i p. b.agrees i (let q = out i in omega arith) ∙ a.agrees i p;
      shows = shows;
      stands = subst (λ z. Stands b.naming new.cells z after) whole d;
    }

-- the array or associative array is of the heap
pub laying_belongs : (old one two : Heap) (v : Value) (k : Kind) (ts : List Tree) → Laying old one v k ts → Keeps one two → Belongs two v
laying_belongs old one two v k ts l keeps =
    let there = keeps l.place l.cell l.holds in
    subst (Belongs two) (sym l.is) (let q : count_at two.cells l.place ≡ l.cell.count = ap count_of there in let p = l.live in let r : 0 < count_at two.cells l.place = omega arith in r)

pub lay_more : (old one two new : Heap) (v : Value) (k k' : Kind) (ts : List Tree) (w : Value) (t : Tree) → Laying old one v k ts → LaysDown one two w t → Keeps one two → Puts two new v k k' (length ts) w → Laying old new v k' (ts ++ t ∷ [])
lay_more old one two new v k k' ts w t l item_lays keeps puts =
    let there = keeps l.place l.cell l.holds in
    let f = puts.frame l.place l.cell l.is there l.content in
    record {
      place = l.place;
      is = l.is;
      vacant = l.vacant;
      cell = f.now;
      holds = f.holds;
      live = (let q = f.same in let p = l.live in omega arith);
      content = subst (Filled k' f.now.content) (sym (length-append ts (t ∷ []))) f.content;
      keeps = λ i cell e. f.others i (λ q. let r : Some cell ≡ None = sym e ∙ ap (cell_at old.cells) q ∙ l.vacant in absurd cc) ∙ keeps i cell (l.keeps i cell e);
      lays = lays_more old one two new v k k' ts w t l.lays item_lays (laying_belongs old one two v k ts l keeps) l.place l.is puts;
    }

-- one item more is in the array
pub item_laid : (old one two new : Heap) (v : Value) (ts : List Tree) (i : ℕ) (w : Value) (t : Tree) → Laying old one v Array (take i ts) → i ≤ length ts → LaysDown one two w t → Keeps one two → SetsItem two new v i w → Grows two new v i w → take (i + 1) ts ≡ take i ts ++ t ∷ [] → Laying old new v Array (take (i + 1) ts)
item_laid old one two new v ts i w t l le lays keeps sets grows e =
    let n : i ≡ length (take i ts) = sym (length-take-le i ts le) in
    let puts : Puts two new v Array Array (length (take i ts)) w = subst (λ m. Puts two new v Array Array m w) n (item_puts two new v i w sets grows) in
    subst (Laying old new v Array) (sym e) (lay_more old one two new v Array Array (take i ts) w t l lays keeps puts)

-- one pair more is in the associative array
pub pair_laid : (old one two new : Heap) (v : Value) (ps : List TreePair) (i : ℕ) (w : Value) (p : TreePair) → Laying old one v (Keyed (keys_of (take i ps))) (values_of (take i ps)) → LaysDown one two w p.tree → Keeps one two → IsKeyList (keys_of ps) → SetsKey two new v p.key w → GrowsByKey two new v (folded p.key) w → take (i + 1) ps ≡ take i ps ++ p ∷ [] → Laying old new v (Keyed (keys_of (take (i + 1) ps))) (values_of (take (i + 1) ps))
pair_laid old one two new v ps i w p l lays keeps ordered sets grows e =
    let keys : keys_of (take (i + 1) ps) ≡ keys_of (take i ps) ++ p.key ∷ [] = ap keys_of e ∙ map-append (λ q. q.key) (take i ps) (p ∷ []) in
    let values : values_of (take (i + 1) ps) ≡ values_of (take i ps) ++ p.tree ∷ [] = ap values_of e ∙ map-append (λ q. q.tree) (take i ps) (p ∷ []) in
    let follows : IsKeyList (keys_of (take i ps) ++ p.key ∷ []) = subst IsKeyList keys (keys_front ps (i + 1) ordered) in
    let long : length (keys_of (take i ps)) ≡ length (values_of (take i ps)) = length-map (take i ps) (λ q. q.key) ∙ sym (length-map (take i ps) (λ q. q.tree)) in
    let puts = value_puts two new v (keys_of (take i ps)) p.key (length (values_of (take i ps))) w (last_key (keys_of (take i ps)) p.key follows).0 follows long sets grows in
    subst (λ ks. Laying old new v (Keyed ks) (values_of (take (i + 1) ps))) (sym keys)
    (subst (Laying old new v (Keyed (keys_of (take i ps) ++ p.key ∷ []))) (sym values) (lay_more old one two new v (Keyed (keys_of (take i ps))) (Keyed (keys_of (take i ps) ++ p.key ∷ [])) (values_of (take i ps)) w p.tree l lays keeps puts))

-- as many keys as items are in the associative array
pub pairs_there : (old one two : Heap) (v : Value) (ks : List (List ℕ)) (ts : List Tree) → Laying old one v (Keyed ks) ts → Keeps one two → length_in (content_at two v) ≡ length ts
pairs_there old one two v ks ts l keeps = ap length_in there ∙ go l.cell.content l.content
  where
    there : content_at two v ≡ Some l.cell.content
    there = ap (content_at two) l.is ∙ ap (option_map (λ (c : HeldCell). c.content)) (keeps l.place l.cell l.holds)

    go : (x : c.Content) → Filled (Keyed ks) x (length ts) → length_in (Some x) ≡ length ts
    go (c.Text b) f = absurd f
    go (c.Message m) f = absurd f
    go (c.Array vs) f = absurd f
    go (c.Pairs es) f = f.1

-- a list that keeps the bounds is short
few : (ts : List Tree) → length ts ≤ all_parts (trees ts)
few [] = omega arith
few (t ∷ ts) = let r = few ts in let p = one_part t in omega arith

pub few_items : (ts : List Tree) → IsBounded (array_of ts) → length ts < 65536
few_items ts b = let f = few ts in let p = b.parts in omega arith

pub few_pairs : (ps : List TreePair) → IsBounded (pairs_of ps) → length ps < 65536
few_pairs ps b = let f = few (values_of ps) in let p = b.parts in let n = length-map ps (λ q. q.tree) in omega arith

-- a plain value needs no object
pub plain_lays : (h : Heap) (plain : Plain) (p : t.Plain) → Scalar plain ≡ arriving p → LaysDown h h (Direct plain) (Leaf p)
plain_lays h plain p e name store before after s out = record {
  naming = name;
  agrees = λ i l. refl;
  shows = e;
  stands = subst (λ z. Stands name h.cells z after) (sym (append-nil store)) (stands_same name h.cells store before after s (λ i. let a = out i in omega arith));
}

pub text_lays : (old new : Heap) (v : Value) (bytes : List ℕ) → MakesText old new v bytes → LaysDown old new v (Leaf (t.Words bytes))
text_lays old new v bytes m name store before after s out =
    let a = m name store before after s out in
    subst (λ z. Made name new z before after v (Words bytes)) (sym (append-nil store)) a

pub text_keeps : (old new : Heap) (v : Value) (bytes : List ℕ) → Fresh old new v (c.Text bytes) → Keeps old new
text_keeps old new v bytes f = fresh_keeps old new v (c.Text bytes) f

-- a portable value that is plain, laid down as this value
pub plain_lays_as : (h : Heap) (v : Value) (plain : Plain) (p : t.Plain) (given : Portable) → v ≡ Direct plain → Scalar plain ≡ arriving p → (one : Portable) → given ≡ one → tree_of one ≡ Leaf p → LaysDown h h v (tree_of given)
plain_lays_as h v plain p given e f one g k =
    subst (λ w. LaysDown h h w (tree_of given)) (sym e) (subst (LaysDown h h (Direct plain)) (sym (ap tree_of g ∙ k)) (plain_lays h plain p f))
