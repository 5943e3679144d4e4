-- A node is asked for its fields.
use Rattle.std.proofs.Common.{◌≡◌, ℕ, List, [], ◌∷◌, Some, None, Result, Ok, Err, refl, sym, ap, ◌∙◌, subst, arith}
use Rattle.chan_values.specs.declared.access.Access.TheVariants as c
use Rattle.chan_values.specs.declared.portable.Portable.{Portable}
use Rattle.chan_values.specs.declared.error_code.ErrorCode.TheVariants.{E2, E9}
use Rattle.chan_values.specs.View.{tree_of}
use Rattle.heap_meaning.specs.declared.plain.Plain.{Plain}
use Rattle.heap_meaning.specs.declared.plain.Plain.TheVariants as p
use Rattle.heap_meaning.specs.Values.{Value, Direct, Cell, StoreValue, Scalar, Words, Reference}
use Rattle.heap_meaning.specs.Store.{Store}
use Rattle.heap_meaning.specs.Stands.{Naming, Outside, meaning, Stands}
use Rattle.heap_meaning.specs.Heap.{Heap, Belongs, content_at}
use Rattle.heap_meaning.specs.Reading.{plain_of, text_in}
use Rattle.copy_meaning.specs.Answers as f
use Rattle.copy_meaning.specs.Answers.{Answers, unfolded}
use Rattle.copy_meaning.specs.Forms.{form_in}
use Rattle.copy_meaning.proofs.Answering.{one_answer, unfolded_leaves}
use Rattle.brs_copy.specs.Copies.{Copies}
use Rattle.brs_copy.specs.declared.leave.CopyFault.{CopyFault}
use Rattle.brs_copy.specs.declared.leave.CopyFault.TheVariants as u
use Rattle.object_operations.specs.Answer.{text_of}
use Rattle.object_operations.specs.Applies.{AreOut}
use Rattle.object_operations.specs.declared.applied.Applied.TheVariants as a
use Rattle.object_operations.proofs.Seeing.{first_belongs}
use Rattle.object_operations.proofs.Entries.{text_seen}
use Rattle.object_operations.proofs.Answering.{refusal}
use Rattle.brs_grammar.specs.Form.{Text}
use Rattle.brs_meaning.specs.Given.{Fails}
use Rattle.brs_meaning.specs.Leaving.{copy_of, leaving}
use Rattle.brs_meaning.specs.Members.{node_index_read, node_index_written, field_set}
use Rattle.member_accesses.specs.declared.reached.Reached.{Reached}
use Rattle.member_accesses.specs.declared.reached.Reached.TheVariants as r
use Rattle.member_accesses.specs.Reaching.{Comes, Reaches}
use Rattle.member_accesses.specs.Rows.{member_read_row, index_read_row, member_write_row, index_write_row}
use Rattle.member_accesses.specs.Fields.{node_in, field_read, field_write, field_write_at}

-- ---- a value that is a node

plain_node : (plain : Plain) (n : ℕ) → node_in (Some plain) ≡ Some n → plain ≡ p.Node n
plain_node (p.Node m) n e =
    let s : Some m ≡ Some n = e in
    let t : m ≡ n = cc in
    ap p.Node t
plain_node p.Invalid n e = absurd cc
plain_node (p.Truth b) n e = absurd cc
plain_node (p.Small m) n e = absurd cc
plain_node (p.Big m) n e = absurd cc
plain_node (p.Function m) n e = absurd cc
plain_node (p.Port m) n e = absurd cc
plain_node p.Screen n e = absurd cc

node_meant : (name : Naming) (v : Value) (n : ℕ) → node_in (plain_of v) ≡ Some n → meaning name v ≡ Scalar (p.Node n)
node_meant name (Direct plain) n e = ap Scalar (plain_node plain n e)
node_meant name (Cell k) n e = absurd cc

-- ---- reads

pub member_is_got : (h : Heap) (x : Value) (node : ℕ) (k : Text) (reached : Reached) → node_in (plain_of x) ≡ Some node → reached ≡ r.Asks (c.Get node k) → Reaches h h (x ∷ []) reached (member_read_row k)
member_is_got h x node k reached e is = record {
  comes = λ name store before s o.
      subst (λ y. Comes name h store before y (member_read_row k (meaning name x ∷ []) store)) (sym is)
      (subst (λ w. Comes name h store before (r.Asks (c.Get node k)) (member_read_row k (w ∷ []) store)) (sym (node_meant name x node e)) (refl, s));
}

field_got : (h : Heap) (name : Naming) (store : Store) (before : Outside) (node : ℕ) (w : StoreValue) → Stands name h.cells store before → Comes name h store before (field_read node (text_of w)) (node_index_read node w)
field_got h name store before node (Words field) s = (refl, s)
field_got h name store before node (Scalar plain) s = refusal name h store before E2 s
field_got h name store before node (Reference n) s = refusal name h store before E2 s

second_out : (x i : Value) (rest : List Value) (before : Outside) → AreOut (x ∷ i ∷ rest) before → AreOut (i ∷ rest) before
second_out x i rest before o = λ k. let y = o k in omega arith

pub index_is_got : (h : Heap) (x i : Value) (node : ℕ) (reached : Reached) → node_in (plain_of x) ≡ Some node → reached ≡ field_read node (text_in (content_at h i)) → Reaches h h (x ∷ i ∷ []) reached index_read_row
index_is_got h x i node reached e is = record {
  comes = λ name store before s o.
      let t = text_seen h name store before i s (first_belongs h name store before i [] s (second_out x i [] before o)) in
      subst (λ y. Comes name h store before y (index_read_row (meaning name x ∷ meaning name i ∷ []) store)) (sym (is ∙ ap (field_read node) (sym t)))
      (subst (λ w. Comes name h store before (field_read node (text_of (meaning name i))) (index_read_row (w ∷ meaning name i ∷ []) store)) (sym (node_meant name x node e)) (field_got h name store before node (meaning name i) s));
}

-- ---- writes

-- what a value unfolds to is the one answer
leaves_as : (store : Store) (w : StoreValue) (answer : f.Answer) → Answers (form_in store) 64 65536 w answer → leaving store w ≡ copy_of answer
leaves_as store w answer x = ap copy_of (one_answer (form_in store) 64 65536 w (unfolded store w) answer (unfolded_leaves store w) x)

-- what copying a value out tells of what it means
abbrev pub Copied : Heap → Value → Result Portable CopyFault → Type 0
Copied h v result = (name : Naming) (store : Store) (outside : Outside) → Stands name h.cells store outside → Belongs h v → Copies (form_in store) 64 65536 (meaning name v) result

pub field_is_set : (h : Heap) (v : Value) (node : ℕ) (field : Text) (value : Portable) → Copied h v (Ok value) → Reaches h h (v ∷ []) (r.Asks (c.Set node field value)) (field_write node field)
field_is_set h v node field value copied = record {
  comes = λ name store before s o.
      let x = copied name store before s (first_belongs h name store before v [] s o) in
      subst (λ t. Comes name h store before (r.Asks (c.Set node field value)) (field_set node field t)) (sym (leaves_as store (meaning name v) (f.Copy (tree_of value)) x)) (refl, s);
}

stays_here : (h : Heap) (v : Value) (node : ℕ) (field : Text) → ((name : Naming) (store : Store) (before : Outside) → Stands name h.cells store before → Belongs h v → leaving store (meaning name v) ≡ None) → Reaches h h (v ∷ []) (r.Done (a.Raised E9)) (field_write node field)
stays_here h v node field none = record {
  comes = λ name store before s o.
      subst (λ t. Comes name h store before (r.Done (a.Raised E9)) (field_set node field t)) (sym (none name store before s (first_belongs h name store before v [] s o))) (refusal name h store before E9 s);
}

pub too_deep : (h : Heap) (v : Value) (node : ℕ) (field : Text) (fault : CopyFault) (reached : Reached) → Copied h v (Err fault) → fault ≡ u.TooDeep → reached ≡ r.Done (a.Raised E9) → Reaches h h (v ∷ []) reached (field_write node field)
too_deep h v node field fault reached copied e is =
    let deep : Copied h v (Err u.TooDeep) = subst (λ x. Copied h v (Err x)) e copied in
    subst (λ y. Reaches h h (v ∷ []) y (field_write node field)) (sym is) (stays_here h v node field (λ name store before s b. leaves_as store (meaning name v) f.TooDeep (deep name store before s b)))

pub too_large : (h : Heap) (v : Value) (node : ℕ) (field : Text) (fault : CopyFault) (reached : Reached) → Copied h v (Err fault) → fault ≡ u.TooLarge → reached ≡ r.Done (a.Raised E9) → Reaches h h (v ∷ []) reached (field_write node field)
too_large h v node field fault reached copied e is =
    let large : Copied h v (Err u.TooLarge) = subst (λ x. Copied h v (Err x)) e copied in
    subst (λ y. Reaches h h (v ∷ []) y (field_write node field)) (sym is) (stays_here h v node field (λ name store before s b. leaves_as store (meaning name v) f.TooLarge (large name store before s b)))

-- ---- writes to a field that a value names

written_at : (node : ℕ) (w v : StoreValue) (store : Store) (field : Text) → text_of w ≡ Some field → node_index_written node w v store ≡ field_write node field (v ∷ []) store
written_at node (Words k) v store field e =
    let s : Some k ≡ Some field = e in
    let t : k ≡ field = cc in
    ap (λ x. field_write node x (v ∷ []) store) t
written_at node (Scalar plain) v store field e = absurd cc
written_at node (Reference n) v store field e = absurd cc

not_written : (node : ℕ) (w v : StoreValue) (store : Store) → text_of w ≡ None → node_index_written node w v store ≡ Fails E2
not_written node (Words k) v store e = absurd cc
not_written node (Scalar plain) v store e = refl
not_written node (Reference n) v store e = refl

pub field_is_named : (h : Heap) (i v : Value) (node : ℕ) (field : Text) (reached : Reached) → text_in (content_at h i) ≡ Some field → Reaches h h (v ∷ []) reached (field_write node field) → Reaches h h (i ∷ v ∷ []) reached (field_write_at node)
field_is_named h i v node field reached text given = record {
  comes = λ name store before s o.
      let t = text_seen h name store before i s (first_belongs h name store before i (v ∷ []) s o) ∙ text in
      subst (Comes name h store before reached) (sym (written_at node (meaning name i) (meaning name v) store field t)) (given.comes name store before s (second_out i v [] before o));
}

pub no_field_named : (h : Heap) (i v : Value) (node : ℕ) → text_in (content_at h i) ≡ None → Reaches h h (i ∷ v ∷ []) (r.Done (a.Raised E2)) (field_write_at node)
no_field_named h i v node none = record {
  comes = λ name store before s o.
      let t = text_seen h name store before i s (first_belongs h name store before i (v ∷ []) s o) ∙ none in
      subst (Comes name h store before (r.Done (a.Raised E2))) (sym (not_written node (meaning name i) (meaning name v) store t)) (refusal name h store before E2 s);
}

-- ---- writes to a node

pub member_is_set : (h : Heap) (x v : Value) (node : ℕ) (k : Text) (reached : Reached) → node_in (plain_of x) ≡ Some node → Reaches h h (v ∷ []) reached (field_write node k) → Reaches h h (x ∷ v ∷ []) reached (member_write_row k)
member_is_set h x v node k reached e given = record {
  comes = λ name store before s o.
      subst (λ w. Comes name h store before reached (member_write_row k (w ∷ meaning name v ∷ []) store)) (sym (node_meant name x node e)) (given.comes name store before s (second_out x v [] before o));
}

pub index_is_set : (h : Heap) (x i v : Value) (node : ℕ) (reached : Reached) → node_in (plain_of x) ≡ Some node → Reaches h h (i ∷ v ∷ []) reached (field_write_at node) → Reaches h h (x ∷ i ∷ v ∷ []) reached index_write_row
index_is_set h x i v node reached e given = record {
  comes = λ name store before s o.
      subst (λ w. Comes name h store before reached (index_write_row (w ∷ meaning name i ∷ meaning name v ∷ []) store)) (sym (node_meant name x node e)) (given.comes name store before s (second_out x i (v ∷ []) before o));
}
