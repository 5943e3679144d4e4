-- References that are taken back one after another.
use Rattle.std.proofs.Common.{◌≡◌, ℕ, ◌+◌, arith}
use Rattle.heap_meaning.specs.Stands.{Outside}
use Rattle.heap_meaning.specs.Heap.{Heap, Moves, no_references}
use Rattle.heap_meaning.proofs.Steps.{stands_same}

-- nothing is taken back
pub none_taken : (h : Heap) (taken : Outside) → ((k : ℕ) → taken k ≡ 0) → Moves h h taken no_references
none_taken h taken z = λ name store before after s e. stands_same name h.cells store before after s (λ k. let x = e k in let y = z k in omega arith)

-- first these, and then those
pub both_taken : (h0 h1 h2 : Heap) (first second all : Outside) → Moves h0 h1 first no_references → Moves h1 h2 second no_references → ((k : ℕ) → all k ≡ first k + second k) → Moves h0 h2 all no_references
both_taken h0 h1 h2 first second all m n sum = λ name store before after s e.
    let mid : Outside = λ k. after k + second k in
    n name store mid after (m name store before mid s (λ k. let x = e k in let y = sum k in omega arith)) (λ k. omega arith)

-- the same references, told in another way
pub taken_as : (h0 h1 : Heap) (one other : Outside) → Moves h0 h1 one no_references → ((k : ℕ) → other k ≡ one k) → Moves h0 h1 other no_references
taken_as h0 h1 one other m same = λ name store before after s e. m name store before after s (λ k. let x = e k in let y = same k in omega arith)
