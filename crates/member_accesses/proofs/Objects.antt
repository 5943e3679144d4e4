-- What isn't a node is read and written as the tables of operations say.
use Rattle.std.proofs.Common.{◌≡◌, ℕ, List, [], ◌∷◌, map, Option, Some, None, refl, sym, ap, ◌∙◌, subst}
use Rattle.heap_meaning.specs.declared.plain.Plain.{Plain}
use Rattle.heap_meaning.specs.declared.plain.Plain.TheVariants as p
use Rattle.heap_meaning.specs.Values.{Value, StoreValue, Scalar, Words, Reference}
use Rattle.heap_meaning.specs.Store.{Store}
use Rattle.heap_meaning.specs.Cells.{Content}
use Rattle.heap_meaning.specs.Stands.{Naming, Outside, meaning, Stands}
use Rattle.heap_meaning.specs.Heap.{Heap, Belongs, content_at}
use Rattle.heap_meaning.specs.Reading.{plain_of}
use Rattle.heap_meaning.proofs.Showing.{Seen, sees_plain, sees_text, sees_array, sees_pairs, sees_message, sees}
use Rattle.object_operations.specs.Answer as n
use Rattle.object_operations.specs.Answer.{Answer}
use Rattle.object_operations.specs.Applies.{Answers, Applies}
use Rattle.object_operations.specs.Members.{read_member_row, write_member_row, read_index_row, write_index_row}
use Rattle.object_operations.specs.declared.applied.Applied.{Applied}
use Rattle.object_operations.specs.declared.applied.Applied.TheVariants as a
use Rattle.object_operations.proofs.Seeing.{first_belongs}
use Rattle.brs_grammar.specs.Form.{Text}
use Rattle.brs_meaning.specs.Given.{Given, answered}
use Rattle.brs_meaning.specs.Members.{member_read, index_read, member_written, index_written}
use Rattle.member_accesses.specs.declared.reached.Reached.{Reached}
use Rattle.member_accesses.specs.declared.reached.Reached.TheVariants as r
use Rattle.member_accesses.specs.Reaching.{Comes, Reaches}
use Rattle.member_accesses.specs.Rows.{member_read_row, index_read_row, member_write_row, index_write_row}
use Rattle.member_accesses.specs.Fields.{node_in}
use Rattle.member_accesses.specs.Named.{named_read, named_write}

-- ---- a value that is no node

abbrev NoNode : StoreValue → Type 0
NoNode w = (n : ℕ) → w ≡ Scalar (p.Node n) → ⊥

no_plain_node : (plain : Plain) (n : ℕ) → node_in (Some plain) ≡ None → plain ≡ p.Node n → ⊥
no_plain_node plain n e f = let g : Some n ≡ None = ap (λ x. node_in (Some x)) (sym f) ∙ e in cc

no_node : (h : Heap) (name : Naming) (store : Store) (before : Outside) (v : Value) → Stands name h.cells store before → Belongs h v → node_in (plain_of v) ≡ None → NoNode (meaning name v)
no_node h name store before v s b e = go v (meaning name v) (content_at h v) (sees h name store before v s b) e
  where
    go : (u : Value) (w : StoreValue) (o : Option Content) → Seen name store u w o → node_in (plain_of u) ≡ None → NoNode w
    go _ _ _ (sees_plain {p = plain}) e = λ n f. no_plain_node plain n e (let g : plain ≡ p.Node n = cc in g)
    go _ _ _ sees_text e = λ n f. cc
    go _ _ _ (sees_array g) e = λ n f. cc
    go _ _ _ (sees_pairs g) e = λ n f. cc
    go _ _ _ (sees_message g) e = λ n f. cc

member_read_as : (w : StoreValue) (k : Text) (store : Store) → NoNode w → member_read w k store ≡ answered (read_member_row (w ∷ Words k ∷ []) store)
member_read_as (Scalar (p.Node n)) k store d = absurd (d n refl)
member_read_as (Scalar p.Invalid) k store d = refl
member_read_as (Scalar (p.Truth b)) k store d = refl
member_read_as (Scalar (p.Small n)) k store d = refl
member_read_as (Scalar (p.Big n)) k store d = refl
member_read_as (Scalar (p.Function n)) k store d = refl
member_read_as (Scalar (p.Port n)) k store d = refl
member_read_as (Scalar p.Screen) k store d = refl
member_read_as (Words bytes) k store d = refl
member_read_as (Reference n) k store d = refl

index_read_as : (w i : StoreValue) (store : Store) → NoNode w → index_read w i store ≡ answered (read_index_row (w ∷ i ∷ []) store)
index_read_as (Scalar (p.Node n)) i store d = absurd (d n refl)
index_read_as (Scalar p.Invalid) i store d = refl
index_read_as (Scalar (p.Truth b)) i store d = refl
index_read_as (Scalar (p.Small n)) i store d = refl
index_read_as (Scalar (p.Big n)) i store d = refl
index_read_as (Scalar (p.Function n)) i store d = refl
index_read_as (Scalar (p.Port n)) i store d = refl
index_read_as (Scalar p.Screen) i store d = refl
index_read_as (Words bytes) i store d = refl
index_read_as (Reference n) i store d = refl

member_written_as : (w : StoreValue) (k : Text) (v : StoreValue) (store : Store) → NoNode w → member_written w k v store ≡ answered (write_member_row (w ∷ Words k ∷ v ∷ []) store)
member_written_as (Scalar (p.Node n)) k v store d = absurd (d n refl)
member_written_as (Scalar p.Invalid) k v store d = refl
member_written_as (Scalar (p.Truth b)) k v store d = refl
member_written_as (Scalar (p.Small n)) k v store d = refl
member_written_as (Scalar (p.Big n)) k v store d = refl
member_written_as (Scalar (p.Function n)) k v store d = refl
member_written_as (Scalar (p.Port n)) k v store d = refl
member_written_as (Scalar p.Screen) k v store d = refl
member_written_as (Words bytes) k v store d = refl
member_written_as (Reference n) k v store d = refl

index_written_as : (w i v : StoreValue) (store : Store) → NoNode w → index_written w i v store ≡ answered (write_index_row (w ∷ i ∷ v ∷ []) store)
index_written_as (Scalar (p.Node n)) i v store d = absurd (d n refl)
index_written_as (Scalar p.Invalid) i v store d = refl
index_written_as (Scalar (p.Truth b)) i v store d = refl
index_written_as (Scalar (p.Small n)) i v store d = refl
index_written_as (Scalar (p.Big n)) i v store d = refl
index_written_as (Scalar (p.Function n)) i v store d = refl
index_written_as (Scalar (p.Port n)) i v store d = refl
index_written_as (Scalar p.Screen) i v store d = refl
index_written_as (Words bytes) i v store d = refl
index_written_as (Reference n) i v store d = refl

-- ---- what was answered is what the row gives

done_as : (name : Naming) (new : Heap) (store : Store) (before : Outside) (applied : Applied) (answer : Answer) → Answers name new store before applied answer → Comes name new store before (r.Done applied) (answered answer)
done_as name new store before (a.Value v) (n.Gives w after) h = h
done_as name new store before (a.Value v) (n.Raises wanted) h = absurd h
done_as name new store before (a.Raised error) (n.Gives w after) h = absurd h
done_as name new store before (a.Raised error) (n.Raises wanted) h = h

reaches_done : (old new : Heap) (x : Value) (rest : List Value) (applied : Applied) (table : List StoreValue → Store → Answer) (row : List StoreValue → Store → Given) → node_in (plain_of x) ≡ None
    → ((name : Naming) (store : Store) → NoNode (meaning name x) → row (map (meaning name) (x ∷ rest)) store ≡ answered (table (map (meaning name) (x ∷ rest)) store)) → Applies old new (x ∷ rest) applied table
    → Reaches old new (x ∷ rest) (r.Done applied) row
reaches_done old new x rest applied table row e same applies = record {
  comes = λ name store before s o.
      subst (Comes name new store before (r.Done applied)) (sym (same name store (no_node old name store before x s (first_belongs old name store before x rest s o) e)))
      (done_as name new store before applied (table (map (meaning name) (x ∷ rest)) store) (applies.answers name store before s o));
}

pub with_operands : {old new : Heap} {operands : List Value} {reached : Reached} {row : List StoreValue → Store → Given} (others : List Value) → operands ≡ others → Reaches old new others reached row → Reaches old new operands reached row
with_operands {old = old} {new = new} {reached = reached} {row = row} others e x = subst (λ l. Reaches old new l reached row) (sym e) x

pub member_is_read : (old new : Heap) (x : Value) (k : Text) (applied : Applied) → node_in (plain_of x) ≡ None → Applies old new (x ∷ []) applied (named_read k) → Reaches old new (x ∷ []) (r.Done applied) (member_read_row k)
member_is_read old new x k applied e applies = reaches_done old new x [] applied (named_read k) (member_read_row k) e (λ name store d. member_read_as (meaning name x) k store d) applies

pub index_is_read : (old new : Heap) (x i : Value) (applied : Applied) → node_in (plain_of x) ≡ None → Applies old new (x ∷ i ∷ []) applied read_index_row → Reaches old new (x ∷ i ∷ []) (r.Done applied) index_read_row
index_is_read old new x i applied e applies = reaches_done old new x (i ∷ []) applied read_index_row index_read_row e (λ name store d. index_read_as (meaning name x) (meaning name i) store d) applies

pub member_is_written : (old new : Heap) (x v : Value) (k : Text) (applied : Applied) → node_in (plain_of x) ≡ None → Applies old new (x ∷ v ∷ []) applied (named_write k) → Reaches old new (x ∷ v ∷ []) (r.Done applied) (member_write_row k)
member_is_written old new x v k applied e applies = reaches_done old new x (v ∷ []) applied (named_write k) (member_write_row k) e (λ name store d. member_written_as (meaning name x) k (meaning name v) store d) applies

pub index_is_written : (old new : Heap) (x i v : Value) (applied : Applied) → node_in (plain_of x) ≡ None → Applies old new (x ∷ i ∷ v ∷ []) applied write_index_row → Reaches old new (x ∷ i ∷ v ∷ []) (r.Done applied) index_write_row
index_is_written old new x i v applied e applies = reaches_done old new x (i ∷ v ∷ []) applied write_index_row index_write_row e (λ name store d. index_written_as (meaning name x) (meaning name i) (meaning name v) store d) applies
