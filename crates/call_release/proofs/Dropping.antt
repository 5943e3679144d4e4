-- What holds while operands, slots and calls are taken back.
use Rattle.std.proofs.Common.{◌≡◌, ℕ, zero, suc, ◌+◌, ◌<◌, ◌≤◌, List, [], ◌∷◌, ◌++◌, length, take, drop, Option, Some, None, append_assoc, append-nil, refl, sym, ap, ◌∙◌, subst, arith}
use Rattle.std.specs.Prelude.{IfSome}
use Rattle.std.proofs.lemmas.List.{drop-drop, length-drop, length-append, take_all}
use Rattle.heap_meaning.specs.Cells.{occurrence}
use Rattle.heap_meaning.specs.Values.{Value}
use Rattle.heap_meaning.specs.Stands.{Outside}
use Rattle.heap_meaning.specs.Heap.{Heap, Moves, no_references, references_of}
use Rattle.frame_stack.specs.Operand.{Operand}
use Rattle.frame_stack.specs.Frame.{Slots, Frame, operands_of, slots_of, calls_below, changed, without_operands, with_last_slot, innermost}
use Rattle.call_release.specs.References.{operand_references, all_operand_references, slot_references, frame_references, call_references}
use Rattle.call_release.specs.Taken.{slot_reference, without_slots, innermost_references}
use Rattle.call_release.proofs.Chains.{none_taken, both_taken, taken_as}

-- ---- operands

-- so many of the last operands were taken back
pub record Dropped (h0 h : Heap) (old new : List Frame) (n : ℕ) : Type 0 where
  pub moves : Moves h0 h (λ k. all_operand_references k (take n (operands_of old))) no_references
  pub frames : new ≡ changed (without_operands n) old
  pub shares : h.shares ≡ h0.shares

none_dropped : (frames : List Frame) → frames ≡ changed (without_operands 0) frames
none_dropped [] = refl
none_dropped (frame ∷ below) = refl

pub dropped_none : (h : Heap) (frames : List Frame) → Dropped h h frames frames 0
dropped_none h frames = record { moves = none_taken h (λ k. 0) (λ k. refl); frames = none_dropped frames; shares = refl }

one_more : (k n : ℕ) (ops rest : List Operand) (o : Operand) → drop n ops ≡ o ∷ rest → all_operand_references k (take (suc n) ops) ≡ all_operand_references k (take n ops) + operand_references k o
one_more k n [] rest o e = absurd (nothing n e)
  where
    nothing : (n : ℕ) → drop n [] ≡ o ∷ rest → ⊥
    nothing zero e = cc
    nothing (suc n) e = cc
one_more k zero (x ∷ ops) rest o e =
    let x_is : x ≡ o = cc in
    let y : operand_references k x ≡ operand_references k o = ap (operand_references k) x_is in omega arith
one_more k (suc n) (x ∷ ops) rest o e = let y = one_more k n ops rest o e in omega arith

operands_left : (n : ℕ) (frames : List Frame) → operands_of (changed (without_operands n) frames) ≡ drop n (operands_of frames)
operands_left zero [] = refl
operands_left (suc n) [] = refl
operands_left n (frame ∷ below) = refl

one_fewer : (n : ℕ) (frames : List Frame) → changed (without_operands 1) (changed (without_operands n) frames) ≡ changed (without_operands (n + 1)) frames
one_fewer n [] = refl
one_fewer n (frame ∷ below) = ap (λ ops. record frame { operands = ops } ∷ below) (drop-drop 1 n frame.operands)

pub dropped_more : (h0 h h' : Heap) (old new new' : List Frame) (n : ℕ) (o : Operand) → Dropped h0 h old new n → operands_of new ≡ o ∷ operands_of new' → new' ≡ changed (without_operands 1) new
    → Moves h h' (λ k. operand_references k o) no_references → h'.shares ≡ h.shares → Dropped h0 h' old new' (n + 1)
dropped_more h0 h h' old new new' n o d taken rest moves shares =
    let left : drop n (operands_of old) ≡ o ∷ operands_of new' = sym (operands_left n old) ∙ ap operands_of (sym d.frames) ∙ taken in
    let more : n + 1 ≡ suc n = omega arith in
    record {
      moves = both_taken h0 h h' (λ k. all_operand_references k (take n (operands_of old))) (λ k. operand_references k o) (λ k. all_operand_references k (take (n + 1) (operands_of old))) d.moves moves
          (λ k. ap (λ j. all_operand_references k (take j (operands_of old))) more ∙ one_more k n (operands_of old) (operands_of new') o left);
      frames = rest ∙ ap (changed (without_operands 1)) d.frames ∙ one_fewer n old;
      shares = shares ∙ d.shares;
    }

pub dropped_count : (h0 h : Heap) (old new : List Frame) (n m : ℕ) → Dropped h0 h old new n → n < m → m ≤ length (operands_of old) → 0 < length (operands_of new)
dropped_count h0 h old new n m d a b =
    let e = length-drop n (operands_of old) in
    let f : length (operands_of new) ≡ length (drop n (operands_of old)) = ap length (ap operands_of d.frames ∙ operands_left n old) in
    omega arith

-- ---- slots

-- these slots behind those of the call
abbrev with_slots : Slots → Frame → Frame
with_slots slots frame = record frame { slots = frame.slots ++ slots }

-- these last slots were taken back
pub record Cleared (h0 h : Heap) (old new : List Frame) (n : ℕ) : Type 0 where
  pub gone : Slots
  pub count : length gone ≡ n
  pub moves : Moves h0 h (λ k. slot_references k gone) no_references
  pub frames : old ≡ changed (with_slots gone) new
  pub shares : h.shares ≡ h0.shares

none_cleared : (frames : List Frame) → frames ≡ changed (with_slots []) frames
none_cleared [] = refl
none_cleared (frame ∷ below) = ap (λ s. record frame { slots = s } ∷ below) (sym (append-nil frame.slots))

pub cleared_none : (h : Heap) (frames : List Frame) → Cleared h h frames frames 0
cleared_none h frames = record { gone = []; count = refl; moves = none_taken h (λ k. 0) (λ k. refl); frames = none_cleared frames; shares = refl }

slot_first : (k : ℕ) (x : Option Value) (slots : Slots) → slot_references k (x ∷ slots) ≡ slot_references k slots + slot_reference k x
slot_first k None slots = omega arith
slot_first k (Some v) slots = omega arith

both_slots : (x : Option Value) (slots : Slots) (frames : List Frame) → changed (with_slots slots) (changed (with_last_slot x) frames) ≡ changed (with_slots (x ∷ slots)) frames
both_slots x slots [] = refl
both_slots x slots (frame ∷ below) = ap (λ s. record frame { slots = s } ∷ below) (append_assoc frame.slots (x ∷ []) slots)

pub cleared_more : (h0 h h' : Heap) (old new new' : List Frame) (n : ℕ) (x : Option Value) → Cleared h0 h old new n → new ≡ changed (with_last_slot x) new'
    → Moves h h' (λ k. slot_reference k x) no_references → h'.shares ≡ h.shares → Cleared h0 h' old new' (n + 1)
cleared_more h0 h h' old new new' n x d rest moves shares = record {
  gone = x ∷ d.gone;
  count = let c = d.count in omega arith;
  moves = both_taken h0 h h' (λ k. slot_references k d.gone) (λ k. slot_reference k x) (λ k. slot_references k (x ∷ d.gone)) d.moves moves (λ k. slot_first k x d.gone);
  frames = d.frames ∙ ap (changed (with_slots d.gone)) rest ∙ both_slots x d.gone new';
  shares = shares ∙ d.shares;
}

slots_there : (slots : Slots) (frames : List Frame) → length (slots_of (changed (with_slots slots) frames)) ≤ length (slots_of frames) + length slots
slots_there slots [] = omega arith
slots_there slots (frame ∷ below) = let e = length-append frame.slots slots in omega arith

pub cleared_count : (h0 h : Heap) (old new : List Frame) (n m : ℕ) → Cleared h0 h old new n → n < m → m ≡ length (slots_of old) → 0 < length (slots_of new)
cleared_count h0 h old new n m d a b =
    let c = d.count in
    let e = slots_there d.gone new in
    let f : length (slots_of old) ≡ length (slots_of (changed (with_slots d.gone) new)) = ap (λ l. length (slots_of l)) d.frames in
    omega arith

bare : (gone : Slots) (frames : List Frame) → length (slots_of (changed (with_slots gone) frames)) ≡ length gone
    → (frames ≡ changed without_slots (changed (with_slots gone) frames)) × ((k : ℕ) → slot_references k (slots_of (changed (with_slots gone) frames)) ≡ slot_references k gone)
bare gone [] e = (refl, let z : gone ≡ [] = no_length gone (sym e) in λ k. sym (ap (slot_references k) z))
  where
    no_length : (l : Slots) → length l ≡ 0 → l ≡ []
    no_length [] e = refl
    no_length (x ∷ l) e = absurd (omega arith)
bare gone (frame ∷ below) e =
    let l = length-append frame.slots gone in
    let z : frame.slots ≡ [] = no_slots frame.slots (omega arith) in
    (ap (λ s. record frame { slots = s } ∷ below) z, λ k. ap (λ s. slot_references k (s ++ gone)) z)
  where
    no_slots : (l : Slots) → length l ≡ 0 → l ≡ []
    no_slots [] e = refl
    no_slots (x ∷ l) e = absurd (omega arith)

pub record AllCleared (h0 h : Heap) (old new : List Frame) : Type 0 where
  pub moves : Moves h0 h (λ k. slot_references k (slots_of old)) no_references
  pub frames : new ≡ changed without_slots old

pub cleared_all : (h0 h : Heap) (old new : List Frame) (n : ℕ) → n ≡ length (slots_of old) → Cleared h0 h old new n → AllCleared h0 h old new
cleared_all h0 h old new n b d =
    let e : length (slots_of (changed (with_slots d.gone) new)) ≡ length d.gone = ap (λ l. length (slots_of l)) (sym d.frames) ∙ sym b ∙ sym d.count in
    let p = bare d.gone new e in
    record {
      moves = taken_as h0 h (λ k. slot_references k d.gone) (λ k. slot_references k (slots_of old)) d.moves (λ k. ap (λ l. slot_references k (slots_of l)) d.frames ∙ p.1 k);
      frames = p.0 ∙ ap (changed without_slots) (sym d.frames);
    }

-- ---- calls

pub record Ended (h0 h : Heap) (old new : List Frame) : Type 0 where
  pub moves : Moves h0 h (λ k. innermost_references k old) no_references
  pub frames : new ≡ calls_below old

-- the call has nothing left but its `m`
pub record Bare (frames : List Frame) : Type 0 where
  pub there : 0 < length frames
  pub operands : length (operands_of frames) ≡ 0
  pub slots : length (slots_of frames) ≡ 0

abbrev bare_call : ℕ → Frame → Frame
bare_call n frame = without_slots (without_operands n frame)

left_bare : (x : Frame) (below f1 f2 : List Frame) (n : ℕ) → f1 ≡ changed (without_operands n) (x ∷ below) → f2 ≡ changed without_slots f1 → f2 ≡ bare_call n x ∷ below
left_bare x below f1 f2 n a b = b ∙ ap (changed without_slots) a

pub is_bare : (f0 f1 f2 : List Frame) (n : ℕ) → 0 < length f0 → n ≡ length (operands_of f0) → f1 ≡ changed (without_operands n) f0 → f2 ≡ changed without_slots f1 → Bare f2
is_bare [] f1 f2 n p e a b = absurd (omega arith)
is_bare (x ∷ below) f1 f2 n p e a b =
    let d = length-drop n x.operands in
    subst (λ f. Bare f) (sym (left_bare x below f1 f2 n a b)) (record { there = omega arith; operands = omega arith; slots = refl })

call_taken : (x : Frame) (h0 h1 h2 h3 : Heap) (n : ℕ) (m : Value) → n ≡ length x.operands → m ≡ x.m → Moves h0 h1 (λ k. all_operand_references k (take n x.operands)) no_references
    → Moves h1 h2 (λ k. slot_references k x.slots) no_references → Moves h2 h3 (references_of m) no_references → Moves h0 h3 (λ k. frame_references k x) no_references
call_taken x h0 h1 h2 h3 n m e is a b c =
    let all : take n x.operands ≡ x.operands = take_all n x.operands (omega arith) in
    let two : Moves h0 h2 (λ k. all_operand_references k x.operands + slot_references k x.slots) no_references =
    both_taken h0 h1 h2 (λ k. all_operand_references k (take n x.operands)) (λ k. slot_references k x.slots) (λ k. all_operand_references k x.operands + slot_references k x.slots) a b
    (λ k. ap (λ l. all_operand_references k l + slot_references k x.slots) (sym all)) in
    both_taken h0 h2 h3 (λ k. all_operand_references k x.operands + slot_references k x.slots) (references_of m) (λ k. frame_references k x) two c
    (λ k. let y : occurrence k m ≡ occurrence k x.m = ap (occurrence k) is in omega arith)

pub ended : (h0 h1 h2 h3 : Heap) (f0 f1 f2 f3 : List Frame) (n : ℕ) (m : Value) → 0 < length f0 → n ≡ length (operands_of f0)
    → Moves h0 h1 (λ k. all_operand_references k (take n (operands_of f0))) no_references → f1 ≡ changed (without_operands n) f0
    → Moves h1 h2 (λ k. slot_references k (slots_of f1)) no_references → f2 ≡ changed without_slots f1
    → IfSome (innermost f2) (λ frame. m ≡ frame.m) → f3 ≡ calls_below f2 → Moves h2 h3 (references_of m) no_references → Ended h0 h3 f0 f3
ended h0 h1 h2 h3 [] f1 f2 f3 n m p e a fa b fb i fc c = absurd (omega arith)
ended h0 h1 h2 h3 (x ∷ below) f1 f2 f3 n m p e a fa b fb i fc c =
    let left = left_bare x below f1 f2 n fa fb in
    let is : m ≡ x.m = subst (λ f. IfSome (innermost f) (λ frame. m ≡ frame.m)) left i in
    let slots : Moves h1 h2 (λ k. slot_references k x.slots) no_references = taken_as h1 h2 (λ k. slot_references k (slots_of f1)) (λ k. slot_references k x.slots) b (λ k. ap (λ f. slot_references k (slots_of f)) (sym fa)) in
    record { moves = call_taken x h0 h1 h2 h3 n m e is a slots c; frames = fc ∙ ap calls_below left }

-- so many calls were ended, and these references were taken back
pub record Freed (h0 h : Heap) (old new : List Frame) (n : ℕ) : Type 0 where
  pub taken : Outside
  pub moves : Moves h0 h taken no_references
  pub sum : (k : ℕ) → call_references k old ≡ taken k + call_references k new
  pub count : length new + n ≡ length old
  pub shares : h.shares ≡ h0.shares

pub freed_none : (h : Heap) (frames : List Frame) → Freed h h frames frames 0
freed_none h frames = record { taken = λ k. 0; moves = none_taken h (λ k. 0) (λ k. refl); sum = λ k. omega arith; count = omega arith; shares = refl }

first_call : (k : ℕ) (frames : List Frame) → call_references k frames ≡ innermost_references k frames + call_references k (calls_below frames)
first_call k [] = refl
first_call k (x ∷ below) = refl

one_call : (frames : List Frame) → 0 < length frames → length (calls_below frames) + 1 ≡ length frames
one_call [] p = absurd (omega arith)
one_call (x ∷ below) p = omega arith

pub freed_more : (h0 h h' : Heap) (old new new' : List Frame) (n : ℕ) → Freed h0 h old new n → 0 < length new → Moves h h' (λ k. innermost_references k new) no_references → new' ≡ calls_below new → h'.shares ≡ h.shares
    → Freed h0 h' old new' (n + 1)
freed_more h0 h h' old new new' n d p moves rest shares = record {
  taken = λ k. d.taken k + innermost_references k new;
  moves = both_taken h0 h h' d.taken (λ k. innermost_references k new) (λ k. d.taken k + innermost_references k new) d.moves moves (λ k. refl);
  sum = λ k. let a = d.sum k in let b = first_call k new in let c : call_references k new' ≡ call_references k (calls_below new) = ap (call_references k) rest in omega arith;
  count = let a = d.count in let b = one_call new p in let c : length new' ≡ length (calls_below new) = ap length rest in omega arith;
  shares = shares ∙ d.shares;
}

pub freed_count : (h0 h : Heap) (old new : List Frame) (n m : ℕ) → Freed h0 h old new n → n < m → m ≡ length old → 0 < length new
freed_count h0 h old new n m d a b = let c = d.count in omega arith

no_calls : (frames : List Frame) → length frames ≡ 0 → frames ≡ []
no_calls [] e = refl
no_calls (x ∷ below) e = absurd (omega arith)

pub record AllFreed (h0 h : Heap) (old new : List Frame) : Type 0 where
  pub moves : Moves h0 h (λ k. call_references k old) no_references
  pub frames : new ≡ []

pub freed_all : (h0 h : Heap) (old new : List Frame) (n : ℕ) → n ≡ length old → Freed h0 h old new n → AllFreed h0 h old new
freed_all h0 h old new n e d =
    let z : new ≡ [] = no_calls new (let c = d.count in omega arith) in
    record {
      moves = taken_as h0 h d.taken (λ k. call_references k old) d.moves (λ k. let a = d.sum k in let b : call_references k new ≡ 0 = ap (call_references k) z in omega arith);
      frames = z;
    }
