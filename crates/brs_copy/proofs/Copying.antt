-- The answers of a copy.
use Rattle.std.proofs.Common.{◌≡◌, ℕ, ◌+◌, ◌<◌, ◌≤◌, Option, Some, None, Result, Ok, Err, refl, sym, ap, ◌∙◌, arith}
use Rattle.chan_values.specs.declared.portable.Portable.{Portable}
use Rattle.chan_values.specs.Tree.{Tree, parts}
use Rattle.chan_values.specs.View.{tree_of}
use Rattle.heap_meaning.specs.Values.{Value}
use Rattle.heap_meaning.specs.Store.{Store}
use Rattle.heap_meaning.specs.Stands.{Naming, Outside, Stands, meaning}
use Rattle.heap_meaning.specs.Heap.{Heap, Belongs}
use Rattle.copy_meaning.specs.Unfolding.{Form, Chain}
use Rattle.copy_meaning.specs.Bounded.{tree_within}
use Rattle.copy_meaning.specs.Answers as a
use Rattle.copy_meaning.specs.Answers.{Answers, too_deep, too_large, whole}
use Rattle.copy_meaning.specs.Forms.{form_at, form_in}
use Rattle.copy_meaning.proofs.Unfolding.{has_tree}
use Rattle.copy_meaning.proofs.Answering.{no_chain, deep_answer}
use Rattle.copy_meaning.proofs.Standing.{answers_meaning}
use Rattle.brs_copy.specs.declared.leave.CopyFault.{CopyFault}
use Rattle.brs_copy.specs.declared.leave.CopyFault.TheVariants.{TooDeep, TooLarge, NoMemory}
use Rattle.brs_copy.specs.Counts.{Counted}
use Rattle.brs_copy.specs.Copies.{Copies}
use Rattle.brs_copy.specs.Fits.{Fits}

-- what was counted within both bounds fits
pub counted_fits : {A : Type 0} (form : A → Form A) (bound most left : ℕ) (v : A) → bound ≤ 64 → most ≤ 65536 → Counted (tree_within form bound v) most left → Fits (tree_within form bound v)
counted_fits form bound most left v b m c = record {
  tree = c.tree;
  is = c.is;
  bounded = record { depth = (let d = (has_tree form bound v c.tree c.is).within in omega arith); parts = (let t = c.taken in omega arith) };
}

pub copy_whole : {A : Type 0} (form : A → Form A) (bound most left : ℕ) (v : A) (p : Portable) → Counted (tree_within form bound v) most left → tree_within form bound v ≡ Some (tree_of p) → Answers form bound most v (a.Copy (tree_of p))
copy_whole form bound most left v p c e =
    let q : c.tree ≡ tree_of p = (let r : Some c.tree ≡ Some (tree_of p) = sym c.is ∙ e in cc) in
    whole (no_chain form bound v (tree_of p) e) (has_tree form bound v (tree_of p) e).unfolds (let t = c.taken in let n = ap parts q in omega arith)

pub copy_deep : {A : Type 0} (form : A → Form A) (bound most : ℕ) (v : A) → tree_within form bound v ≡ None → Answers form bound most v a.TooDeep
copy_deep form bound most v e = too_deep (deep_answer form bound v e)

pub copy_large : {A : Type 0} (form : A → Form A) (bound most : ℕ) (v : A) → (Chain form (bound + 1) v → ⊥) → ((t : Tree) → tree_within form bound v ≡ Some t → most < parts t) → Answers form bound most v a.TooLarge
copy_large form bound most v n f = go (tree_within form bound v) refl
  where
    go : (o : Option Tree) → tree_within form bound v ≡ o → Answers form bound most v a.TooLarge
    go None e = absurd (n (deep_answer form bound v e))
    go (Some t) e = too_large n (has_tree form bound v t e).unfolds (f t e)

pub copies_meaning : (h : Heap) (v : Value) (bound most : ℕ) (r : Result Portable CopyFault) → Copies (form_at h) bound most v r → (name : Naming) (store : Store) (outside : Outside) → Stands name h.cells store outside → Belongs h v → Copies (form_in store) bound most (meaning name v) r
copies_meaning h v bound most (Ok p) c name store outside s b = answers_meaning h name store outside bound most v (a.Copy (tree_of p)) s b c
copies_meaning h v bound most (Err TooDeep) c name store outside s b = answers_meaning h name store outside bound most v a.TooDeep s b c
copies_meaning h v bound most (Err TooLarge) c name store outside s b = answers_meaning h name store outside bound most v a.TooLarge s b c
copies_meaning h v bound most (Err NoMemory) c name store outside s b = tt
