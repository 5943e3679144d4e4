-- Values that leave an actor, and values that are laid down in a store, name no more than they named.
use Rattle.std.proofs.Common.{ℕ, zero, suc, ◌+◌, Bool, true, false, List, [], ◌∷◌, Option, Some, None}
use Rattle.std.specs.Prelude.{length, cond, nat_lt, slice_get, option_map, map}
use Rattle.chan_values.specs.Tree as t
use Rattle.chan_values.specs.Tree.{Kind, Array, Keyed, Tree, Leaf, Branch, Trees, none, more, parts}
use Rattle.copy_meaning.specs.Unfolding.{Form, Single, Holds}
use Rattle.copy_meaning.specs.Bounded.{joined, each, closed, opened, tree_within}
use Rattle.copy_meaning.specs.Forms.{leaving, form_of_object, form_in}
use Rattle.copy_meaning.specs.Answers.{Copy, TooLarge, answer_of, unfolded}
use Rattle.copy_meaning.specs.Laying.{containers, arriving, laid, all_laid, entries_with, object_of, objects, all_objects, with_tree, value_of_tree}
use Rattle.heap_meaning.specs.declared.plain.Plain as pl
use Rattle.heap_meaning.specs.declared.plain.Plain.TheVariants.{Invalid, Truth, Small, Big, Function, Node, Port, Screen}
use Rattle.heap_meaning.specs.Values.{StoreValue, Scalar, Words, Reference, Entry}
use Rattle.heap_meaning.specs.Store.{Object, ArrayObject, MapObject, MessageObject, Store}
use Rattle.brs_meaning.specs.Leaving as l
use Rattle.brs_meaning.specs.Nodes.{Each, IfSome, LeafNames, TreeNames, TreesName, PlainNames, ValueNames, EntriesName, ObjectNames, StoreNames}
use Rattle.owner_laws.proofs.Naming.{each_append, each_get}

each_of : {A B : Type 0} (P : B → Type 0) (f : A → B) (xs : List A) → Each (λ x. P (f x)) xs → Each P (map f xs)
each_of P f [] h = tt
each_of P f (x ∷ xs) h = (h.0, each_of P f xs h.1)

module _ (S : ℕ → Type 0) where
  -- ---- leaving

  FormNames : Form StoreValue → Type 0
  FormNames (Single plain) = LeafNames S plain
  FormNames (Holds kind items) = Each (ValueNames S) items

  leaving_names : (plain : pl.Plain) → PlainNames S plain → LeafNames S (leaving plain)
  leaving_names Invalid h = tt
  leaving_names (Truth b) h = tt
  leaving_names (Small n) h = tt
  leaving_names (Big n) h = tt
  leaving_names (Function n) h = tt
  leaving_names (Node n) h = h
  leaving_names (Port n) h = tt
  leaving_names Screen h = tt

  form_names : (store : Store) (v : StoreValue) → StoreNames S store → ValueNames S v → FormNames (form_in store v)
  unfolding FormNames
  form_names store (Scalar plain) s h = leaving_names plain h
  form_names store (Words bytes) s h = tt
  form_names store (Reference n) s h = of_object (slice_get store n) (each_get (ObjectNames S) store n s)
    where
      of_object : (o : Option Object) → IfSome (ObjectNames S) o → FormNames (form_of_object o)
      of_object None h = tt
      of_object (Some (ArrayObject items)) h = h
      of_object (Some (MapObject entries)) h = each_of (ValueNames S) (λ e. e.value) entries h
      of_object (Some (MessageObject message)) h = tt

  joined_names : (o : Option Tree) (os : Option Trees) → IfSome (TreeNames S) o → IfSome (TreesName S) os → IfSome (TreesName S) (joined o os)
  joined_names None os h k = tt
  joined_names (Some t) None h k = tt
  joined_names (Some t) (Some ts) h k = (h, k)

  each_names : (one : StoreValue → Option Tree) → ((v : StoreValue) → ValueNames S v → IfSome (TreeNames S) (one v)) → (items : List StoreValue) → Each (ValueNames S) items → IfSome (TreesName S) (each one items)
  each_names one f [] h = tt
  each_names one f (v ∷ vs) (p, h) = joined_names (one v) (each one vs) (f v p) (each_names one f vs h)

  branch_names : (kind : Kind) (o : Option Trees) → IfSome (TreesName S) o → IfSome (TreeNames S) (option_map (Branch kind) o)
  branch_names kind None h = tt
  branch_names kind (Some ts) h = h

  opened_names : (one : StoreValue → Option Tree) → ((v : StoreValue) → ValueNames S v → IfSome (TreeNames S) (one v)) → (form : Form StoreValue) → FormNames form → IfSome (TreeNames S) (opened one form)
  unfolding FormNames
  opened_names one f (Single plain) h = h
  opened_names one f (Holds kind items) h = branch_names kind (each one items) (each_names one f items h)

  closed_names : (form : Form StoreValue) → FormNames form → IfSome (TreeNames S) (closed form)
  unfolding FormNames
  closed_names (Single plain) h = h
  closed_names (Holds kind items) h = tt

  tree_names : (store : Store) → StoreNames S store → (bound : ℕ) (v : StoreValue) → ValueNames S v → IfSome (TreeNames S) (tree_within (form_in store) bound v)
  tree_names store s zero v h = closed_names (form_in store v) (form_names store v s h)
  tree_names store s (suc bound) v h = opened_names (tree_within (form_in store) bound) (tree_names store s bound) (form_in store v) (form_names store v s h)

  pub left_names : (store : Store) (v : StoreValue) → StoreNames S store → ValueNames S v → IfSome (TreeNames S) (l.leaving store v)
  unfolding unfolded
  left_names store v s h = answered (tree_within (form_in store) 64 v) (tree_names store s 64 v h)
    where
      judged : (b : Bool) (x : Tree) → TreeNames S x → IfSome (TreeNames S) (l.copy_of (cond b TooLarge (Copy x)))
      judged true x h = tt
      judged false x h = h

      answered : (o : Option Tree) → IfSome (TreeNames S) o → IfSome (TreeNames S) (l.copy_of (answer_of 65536 o))
      answered None h = tt
      answered (Some x) h = judged (nat_lt 65536 (parts x)) x h

  -- ---- laying down

  arriving_names : (plain : t.Plain) → LeafNames S plain → ValueNames S (arriving plain)
  arriving_names t.Invalid h = tt
  arriving_names (t.Boolean b) h = tt
  arriving_names (t.Integer n) h = tt
  arriving_names (t.LongInteger n) h = tt
  arriving_names (t.Words bytes) h = tt
  arriving_names (t.NodeNumber n) h = h
  arriving_names (t.PortNumber n) h = tt

  laid_names : (n : ℕ) (x : Tree) → TreeNames S x → ValueNames S (laid n x)
  laid_names n (Leaf plain) h = arriving_names plain h
  laid_names n (Branch kind ts) h = tt

  all_laid_names : (n : ℕ) (ts : Trees) → TreesName S ts → Each (ValueNames S) (all_laid n ts)
  all_laid_names n none h = tt
  all_laid_names n (more x xs) h = (laid_names n x h.0, all_laid_names (n + containers x) xs h.1)

  entries_names : (ks : List (List ℕ)) (vs : List StoreValue) → Each (ValueNames S) vs → EntriesName S (entries_with ks vs)
  entries_names [] vs h = tt
  entries_names (k ∷ ks) [] h = tt
  entries_names (k ∷ ks) (v ∷ vs) h = (h.0, entries_names ks vs h.1)

  object_names : (kind : Kind) (vs : List StoreValue) → Each (ValueNames S) vs → ObjectNames S (object_of kind vs)
  object_names Array vs h = h
  object_names (Keyed ks) vs h = entries_names ks vs h

  mutual
    objects_name : (n : ℕ) (x : Tree) → TreeNames S x → StoreNames S (objects n x)
    objects_name n (Leaf plain) h = tt
    objects_name n (Branch kind ts) h = (object_names kind (all_laid (n + 1) ts) (all_laid_names (n + 1) ts h), all_objects_name (n + 1) ts h)

    all_objects_name : (n : ℕ) (ts : Trees) → TreesName S ts → StoreNames S (all_objects n ts)
    all_objects_name n none h = tt
    all_objects_name n (more x xs) h = each_append (ObjectNames S) (objects n x) (all_objects (n + containers x) xs) (objects_name n x h.0) (all_objects_name (n + containers x) xs h.1)

  pub with_tree_names : (store : Store) (x : Tree) → StoreNames S store → TreeNames S x → StoreNames S (with_tree store x)
  with_tree_names store x s h = each_append (ObjectNames S) store (objects (length store) x) s (objects_name (length store) x h)

  pub value_of_tree_names : (store : Store) (x : Tree) → TreeNames S x → ValueNames S (value_of_tree store x)
  value_of_tree_names store x h = laid_names (length store) x h
