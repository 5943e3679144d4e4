-- The portable value of a value of a heap is that of what it stands for.
use Rattle.std.proofs.Common.{◌≡◌, ap}
use Rattle.heap_meaning.specs.Values.{Value}
use Rattle.heap_meaning.specs.Store.{Store}
use Rattle.heap_meaning.specs.Stands.{Naming, Outside, meaning, Stands}
use Rattle.heap_meaning.specs.Heap.{Heap, Belongs}
use Rattle.copy_meaning.specs.Answers.{Answer, Answers, answer_of, unfolded}
use Rattle.copy_meaning.specs.Bounded.{tree_within}
use Rattle.copy_meaning.specs.Forms.{form_at, form_in}
use Rattle.copy_meaning.proofs.Answering.{answer_within, one_answer, unfolded_leaves}
use Rattle.copy_meaning.proofs.Standing.{answers_meaning}
use Rattle.brs_meaning.specs.Leaving.{copy_of, leaving}
use Rattle.printed_text.specs.Items.{copied}

pub copied_as : (h : Heap) (v : Value) (x : Answer) → Answers (form_at h) 64 65536 v x → copied h v ≡ copy_of x
unfolding copied
copied_as h v x a = ap copy_of (one_answer (form_at h) 64 65536 v (answer_of 65536 (tree_within (form_at h) 64 v)) x (answer_within (form_at h) 64 65536 v) a)

pub copied_leaves : (h : Heap) (name : Naming) (store : Store) (outside : Outside) (v : Value) → Stands name h.cells store outside → Belongs h v → copied h v ≡ leaving store (meaning name v)
unfolding copied
copied_leaves h name store outside v s b =
    let x : Answer = answer_of 65536 (tree_within (form_at h) 64 v) in
    ap copy_of (one_answer (form_in store) 64 65536 (meaning name v) x (unfolded store (meaning name v)) (answers_meaning h name store outside 64 65536 v x s b (answer_within (form_at h) 64 65536 v)) (unfolded_leaves store (meaning name v)))
