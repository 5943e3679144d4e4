-- What the calls in progress are when the stacks of operands and of slots change.
use Rattle.std.proofs.Common.{◌≡◌, ℕ, suc, ◌+◌, ◌-◌, ◌<◌, ◌≤◌, List, [], ◌∷◌, ◌++◌, length, take, drop, replicate, set, Option, Some, None, refl, sym, ap, ◌∙◌, subst, arith}
use Rattle.std.specs.Prelude.{reverse}
use Rattle.std.proofs.lemmas.List.{length-take, length-drop, take-take, drop-take, drop-drop, drop-set-add, take-set-le, take-map, length-reverse}
use Rattle.std.proofs.Math.Seq.{drop-append_seam, take-append_seam}
use Rattle.heap_meaning.specs.Values.{Value}
use Rattle.frame_stack.specs.declared.header.CallHead.{CallHead}
use Rattle.frame_stack.specs.declared.header.Header.{Header}
use Rattle.frame_stack.specs.Operand.{Operand, value_of, values}
use Rattle.frame_stack.specs.Frame.{Slots, Frame, with_operand, without_operands, with_slot, operands_of, operands_below, changed, changed_below, begun, entered}
use Rattle.frame_stack.specs.Cutting.{frames_of, headers_of, Begin}

-- the calls where the innermost one has the last k operands
abbrev cut_at : Header → List Header → ℕ → List Operand → Slots → List Frame
cut_at h headers k ops slots = record { head = h.head; m = h.m; operands = take k ops; slots = drop h.slots slots } ∷ frames_of headers (drop k ops) (take h.slots slots)

-- ---- how many calls there are

pub calls_are : (headers : List Header) (ops : List Operand) (slots : Slots) → length (frames_of headers ops slots) ≡ length headers
calls_are [] ops slots = refl
calls_are (h ∷ headers) ops slots = ap suc (calls_are headers (drop (length ops - h.operands) ops) (take h.slots slots))

-- ---- an operand more, and one less

pub begin_more : (headers : List Header) (n m s : ℕ) → n ≤ m → Begin headers n s → Begin headers m s
begin_more [] n m s l b = tt
begin_more (h ∷ headers) n m s l b = let x : h.operands ≤ n = b.0 in (omega arith, b.1, b.2)

pub pushed : (headers : List Header) (o : Operand) (ops : List Operand) (slots : Slots) (s : ℕ) → Begin headers (length ops) s → frames_of headers (o ∷ ops) slots ≡ changed (with_operand o) (frames_of headers ops slots)
pushed [] o ops slots s b = refl
pushed (h ∷ headers) o ops slots s b =
    let x : h.operands ≤ length ops = b.0 in
    let e : suc (length ops) - h.operands ≡ suc (length ops - h.operands) = omega arith in
    ap (λ k. cut_at h headers k (o ∷ ops) slots) e

begin_less : (headers : List Header) (o : Operand) (ops : List Operand) (slots : Slots) (s : ℕ) → Begin headers (suc (length ops)) s → 0 < length (operands_of (frames_of headers (o ∷ ops) slots)) → Begin headers (length ops) s
begin_less [] o ops slots s b p = tt
begin_less (h ∷ headers) o ops slots s b p =
    let x : h.operands ≤ suc (length ops) = b.0 in
    let e = length-take (suc (length ops) - h.operands) (o ∷ ops) in
    (omega arith, b.1, b.2)

back : (o : Operand) (frames : List Frame) → frames ≡ changed (without_operands 1) (changed (with_operand o) frames)
back o [] = refl
back o (frame ∷ below) = refl

first_is : (o : Operand) (frames : List Frame) → 0 < length (operands_of (changed (with_operand o) frames)) → operands_of (changed (with_operand o) frames) ≡ o ∷ operands_of frames
first_is o [] p = absurd (omega arith)
first_is o (frame ∷ below) p = refl

-- the calls lose the operand
pub record Loses (o : Operand) (old new : List Frame) (headers : List Header) (n s : ℕ) : Type 0 where
  pub taken : operands_of old ≡ o ∷ operands_of new
  pub rest : new ≡ changed (without_operands 1) old
  pub begin : Begin headers n s

loses : (headers : List Header) (o : Operand) (ops : List Operand) (slots : Slots) (s : ℕ) → Begin headers (suc (length ops)) s → 0 < length (operands_of (frames_of headers (o ∷ ops) slots))
    → Loses o (frames_of headers (o ∷ ops) slots) (frames_of headers ops slots) headers (length ops) s
loses headers o ops slots s b p =
    let less = begin_less headers o ops slots s b p in
    let e = pushed headers o ops slots s less in
    record {
      taken = ap operands_of e ∙ first_is o (frames_of headers ops slots) (subst (λ l. 0 < length (operands_of l)) e p);
      rest = back o (frames_of headers ops slots) ∙ ap (changed (without_operands 1)) (sym e);
      begin = less;
    }

pub popped : (headers : List Header) (o : Operand) (old ops : List Operand) (slots : Slots) (s : ℕ) → old ≡ o ∷ ops → Begin headers (length old) s → 0 < length (operands_of (frames_of headers old slots))
    → Loses o (frames_of headers old slots) (frames_of headers ops slots) headers (length ops) s
popped headers o old ops slots s is =
    subst (λ l. Begin headers (length l) s → 0 < length (operands_of (frames_of headers l slots)) → Loses o (frames_of headers l slots) (frames_of headers ops slots) headers (length ops) s) (sym is) (loses headers o ops slots s)

-- what there is to take from is within the stack
pub operands_within : (headers : List Header) (ops : List Operand) (slots : Slots) → length (operands_of (frames_of headers ops slots)) ≤ length ops
operands_within [] ops slots = omega arith
operands_within (h ∷ headers) ops slots = let e = length-take (length ops - h.operands) ops in omega arith

pub front_same : (headers : List Header) (ops : List Operand) (slots : Slots) (n : ℕ) → n ≤ length (operands_of (frames_of headers ops slots)) → take n ops ≡ take n (operands_of (frames_of headers ops slots))
front_same [] ops slots n h = let z : 0 ≡ n = omega arith in subst (λ k. take k ops ≡ take k []) z refl
front_same (x ∷ headers) ops slots n h =
    let e = length-take (length ops - x.operands) ops in
    sym (take-take n (length ops - x.operands) ops (omega arith))

-- ---- slots

pub slot_set : (h : Header) (headers : List Header) (ops : List Operand) (slots : Slots) (n : ℕ) (v : Value) → frames_of (h ∷ headers) ops (set slots (h.slots + n) (Some v)) ≡ changed (with_slot n v) (frames_of (h ∷ headers) ops slots)
slot_set h headers ops slots n v =
    ap (λ l. record { head = h.head; m = h.m; operands = take (length ops - h.operands) ops; slots = l } ∷ frames_of headers (drop (length ops - h.operands) ops) (take h.slots (set slots (h.slots + n) (Some v)))) (drop-set-add h.slots slots n (Some v))
    ∙ ap (λ l. record { head = h.head; m = h.m; operands = take (length ops - h.operands) ops; slots = set (drop h.slots slots) n (Some v) } ∷ frames_of headers (drop (length ops - h.operands) ops) l) (take-set-le h.slots slots (h.slots + n) (Some v) (omega arith))

-- ---- a call begins

-- the calls where the innermost one has these operands, and those below it have the others
abbrev made : Header → List Header → Slots → List Operand → List Operand → List Frame
made h headers slots xs ys = record { head = h.head; m = h.m; operands = xs; slots = drop h.slots slots } ∷ frames_of headers ys (take h.slots slots)

fewer : (headers : List Header) (ops : List Operand) (slots : Slots) (n s : ℕ) → Begin headers (length ops) s → n ≤ length (operands_of (frames_of headers ops slots)) → frames_of headers (drop n ops) slots ≡ changed (without_operands n) (frames_of headers ops slots)
fewer [] ops slots n s b p = refl
fewer (h ∷ headers) ops slots n s b p =
    let x : h.operands ≤ length ops = b.0 in
    let t = length-take (length ops - h.operands) ops in
    let d = length-drop n ops in
    let m : ℕ = length ops - n - h.operands in
    let i : length (drop n ops) - h.operands ≡ m = omega arith in
    let q : n + m ≡ length ops - h.operands = omega arith in
    ap (λ j. cut_at h headers j (drop n ops) slots) i
    ∙ ap (λ xs. made h headers slots xs (drop m (drop n ops))) (sym (drop-take n m ops))
    ∙ ap (λ ys. made h headers slots (drop n (take (n + m) ops)) ys) (drop-drop m n ops)
    ∙ ap (λ j. made h headers slots (drop n (take j ops)) (drop j ops)) q

pub enters : (headers : List Header) (ops : List Operand) (slots : Slots) (head : CallHead) (m : Value) (count n : ℕ) → Begin headers (length ops) (length slots) → n ≤ length (operands_of (frames_of headers ops slots))
    → frames_of (record { head = head; m = m; operands = length ops - n; slots = length slots } ∷ headers) ops (slots ++ replicate count None) ≡ entered head m count n (frames_of headers ops slots)
enters headers ops slots head m count n b p =
    let w = operands_within headers ops slots in
    let k : length ops - (length ops - n) ≡ n = omega arith in
    let all : Slots = slots ++ replicate count None in
    ap (λ j. record { head = head; m = m; operands = take j ops; slots = drop (length slots) all } ∷ frames_of headers (drop j ops) (take (length slots) all)) k
    ∙ ap (λ s. record { head = head; m = m; operands = take n ops; slots = s } ∷ frames_of headers (drop n ops) (take (length slots) all)) (drop-append_seam slots (replicate count None))
    ∙ ap (λ s. begun head m count (take n ops) ∷ frames_of headers (drop n ops) s) (take-append_seam slots (replicate count None))
    ∙ ap (λ l. begun head m count l ∷ frames_of headers (drop n ops) slots) (front_same headers ops slots n p)
    ∙ ap (λ l. begun head m count (take n (operands_of (frames_of headers ops slots))) ∷ l) (fewer headers ops slots n (length slots) b p)

-- ---- an operand less of the call below

abbrev lower : Header → Header
lower h = record h { operands = h.operands - 1 }

pub record LosesBelow (o : Operand) (old new : List Frame) (h : Header) (headers : List Header) (n s : ℕ) : Type 0 where
  pub taken : operands_below old ≡ o ∷ operands_below new
  pub rest : new ≡ changed_below (without_operands 1) old
  pub begin : Begin (lower h ∷ headers) n s

abbrev bare_over : (h : Header) (frames : List Frame) (slots : Slots) → List Frame
bare_over h frames slots = record { head = h.head; m = h.m; operands = []; slots = drop h.slots slots } ∷ frames

loses_below : (h : Header) (headers : List Header) (o : Operand) (ops : List Operand) (slots : Slots) (s : ℕ) → Begin (h ∷ headers) (suc (length ops)) s
    → length (operands_of (frames_of (h ∷ headers) (o ∷ ops) slots)) ≡ 0 → 0 < length (operands_below (frames_of (h ∷ headers) (o ∷ ops) slots))
    → LosesBelow o (frames_of (h ∷ headers) (o ∷ ops) slots) (frames_of (lower h ∷ headers) ops slots) h headers (length ops) s
loses_below h headers o ops slots s b i p =
    let x : h.operands ≤ suc (length ops) = b.0 in
    let t = length-take (suc (length ops) - h.operands) (o ∷ ops) in
    let i2 : length (take (suc (length ops) - h.operands) (o ∷ ops)) ≡ 0 = i in
    let z : suc (length ops) - h.operands ≡ 0 = omega arith in
    let w : length ops - (h.operands - 1) ≡ 0 = omega arith in
    let n : h.operands ≡ suc (length ops) = omega arith in
    let old : frames_of (h ∷ headers) (o ∷ ops) slots ≡ bare_over h (frames_of headers (o ∷ ops) (take h.slots slots)) slots = ap (λ k. cut_at h headers k (o ∷ ops) slots) z in
    let new : frames_of (lower h ∷ headers) ops slots ≡ bare_over h (frames_of headers ops (take h.slots slots)) slots = ap (λ k. cut_at (lower h) headers k ops slots) w in
    let l = loses headers o ops (take h.slots slots) h.slots (subst (λ c. Begin headers c h.slots) n b.2) (subst (λ c. 0 < length (operands_below c)) old p) in
    record {
      taken = ap operands_below old ∙ l.taken ∙ ap (λ c. o ∷ operands_below c) (sym new);
      rest = new ∙ ap (λ c. bare_over h c slots) l.rest ∙ ap (changed_below (without_operands 1)) (sym old);
      begin = (omega arith, b.1, subst (λ c. Begin headers c h.slots) (let e : length ops ≡ h.operands - 1 = omega arith in e) l.begin);
    }

pub popped_below : (h : Header) (headers : List Header) (o : Operand) (old ops : List Operand) (slots : Slots) (s : ℕ) → old ≡ o ∷ ops → Begin (h ∷ headers) (length old) s
    → length (operands_of (frames_of (h ∷ headers) old slots)) ≡ 0 → 0 < length (operands_below (frames_of (h ∷ headers) old slots))
    → LosesBelow o (frames_of (h ∷ headers) old slots) (frames_of (lower h ∷ headers) ops slots) h headers (length ops) s
popped_below h headers o old ops slots s is =
    subst (λ l. Begin (h ∷ headers) (length l) s → length (operands_of (frames_of (h ∷ headers) l slots)) ≡ 0 → 0 < length (operands_below (frames_of (h ∷ headers) l slots)) → LosesBelow o (frames_of (h ∷ headers) l slots) (frames_of (lower h ∷ headers) ops slots) h headers (length ops) s) (sym is) (loses_below h headers o ops slots s)

-- ---- as the program has them: the header of the innermost call by itself

pub count_is : (top : Option Header) (h : Header) (below : List Header) (ops : List Operand) (slots : Slots) (shown : List Frame) (n : ℕ) → top ≡ Some h → n ≡ length below → frames_of (headers_of top (reverse below)) ops slots ≡ shown → n + 1 ≡ length shown
count_is top h below ops slots shown n t l v =
    let e = calls_are (headers_of top (reverse below)) ops slots in
    let r = length-reverse below in
    let x : length (headers_of top (reverse below)) ≡ suc (length (reverse below)) = ap (λ o. length (headers_of o (reverse below))) t in
    let y : length (frames_of (headers_of top (reverse below)) ops slots) ≡ length shown = ap length v in
    omega arith

pub last_of : (headers : List Header) (ops : List Operand) (slots : Slots) (shown : List Frame) (n : ℕ) → frames_of headers ops slots ≡ shown → n ≤ length (operands_of shown) → take n (values ops) ≡ take n (values (operands_of shown))
last_of headers ops slots shown n v b =
    let c : n ≤ length (operands_of (frames_of headers ops slots)) = subst (λ f. n ≤ length (operands_of f)) (sym v) b in
    take-map value_of n ops
    ∙ ap values (front_same headers ops slots n c)
    ∙ sym (take-map value_of n (operands_of (frames_of headers ops slots)))
    ∙ ap (λ f. take n (values (operands_of f))) v

pub pushed_view : (headers : List Header) (o : Operand) (old ops : List Operand) (slots : Slots) (s : ℕ) (shown : List Frame) → ops ≡ o ∷ old → Begin headers (length old) s → frames_of headers old slots ≡ shown → frames_of headers ops slots ≡ changed (with_operand o) shown
pushed_view headers o old ops slots s shown e b v = ap (λ l. frames_of headers l slots) e ∙ pushed headers o old slots s b ∙ ap (changed (with_operand o)) v

pub slot_view : (top : Option Header) (h : Header) (headers : List Header) (ops : List Operand) (slots : Slots) (n : ℕ) (v : Value) (d : Option Value) (shown : List Frame) → top ≡ Some h → d ≡ Some v
    → frames_of (headers_of top headers) ops slots ≡ shown → frames_of (headers_of top headers) ops (set slots (h.slots + n) d) ≡ changed (with_slot n v) shown
slot_view top h headers ops slots n v d shown t q e =
    ap (λ o. frames_of (headers_of o headers) ops (set slots (h.slots + n) d)) t
    ∙ ap (λ x. frames_of (h ∷ headers) ops (set slots (h.slots + n) x)) q
    ∙ slot_set h headers ops slots n v
    ∙ ap (λ o. changed (with_slot n v) (frames_of (headers_of o headers) ops slots)) (sym t)
    ∙ ap (changed (with_slot n v)) e

pub entered_view : (headers below : List Header) (ops : List Operand) (slots all : Slots) (head : CallHead) (m : Value) (len first count n : ℕ) (shown : List Frame)
    → below ≡ headers → len ≡ length ops → first ≡ length slots → all ≡ slots ++ replicate count None → Begin headers (length ops) (length slots) → frames_of headers ops slots ≡ shown → n ≤ length (operands_of shown)
    → frames_of (record { head = head; m = m; operands = len - n; slots = first } ∷ below) ops all ≡ entered head m count n shown
entered_view headers below ops slots all head m len first count n shown a l f s b v p =
    ap (λ hs. frames_of (record { head = head; m = m; operands = len - n; slots = first } ∷ hs) ops all) a
    ∙ ap (λ k. frames_of (record { head = head; m = m; operands = k - n; slots = first } ∷ headers) ops all) l
    ∙ ap (λ k. frames_of (record { head = head; m = m; operands = length ops - n; slots = k } ∷ headers) ops all) f
    ∙ ap (λ k. frames_of (record { head = head; m = m; operands = length ops - n; slots = length slots } ∷ headers) ops k) s
    ∙ enters headers ops slots head m count n b (subst (λ x. n ≤ length (operands_of x)) (sym v) p)
    ∙ ap (entered head m count n) v

pub below_there : (top : Option Header) (h : Header) (headers : List Header) (ops : List Operand) (slots : Slots) (s : ℕ) (shown : List Frame) → top ≡ Some h → Begin (headers_of top headers) (length ops) s
    → frames_of (headers_of top headers) ops slots ≡ shown → 0 < length (operands_below shown) → 1 ≤ h.operands
below_there top h headers ops slots s shown t b v p =
    let c : Begin (h ∷ headers) (length ops) s = subst (λ o. Begin (headers_of o headers) (length ops) s) t b in
    let q : 0 < length (operands_below (frames_of (headers_of top headers) ops slots)) = subst (λ f. 0 < length (operands_below f)) (sym v) p in
    let r : 0 < length (operands_below (frames_of (h ∷ headers) ops slots)) = subst (λ o. 0 < length (operands_below (frames_of (headers_of o headers) ops slots))) t q in
    let x : h.operands ≤ length ops = c.0 in
    let w = operands_within headers (drop (length ops - h.operands) ops) (take h.slots slots) in
    let d = length-drop (length ops - h.operands) ops in
    omega arith

pub below_within : (top : Option Header) (h : Header) (headers : List Header) (ops : List Operand) (s : ℕ) → top ≡ Some h → Begin (headers_of top headers) (length ops) s → 1 ≤ h.operands → 0 < length ops
below_within top h headers ops s t b p =
    let c : Begin (h ∷ headers) (length ops) s = subst (λ o. Begin (headers_of o headers) (length ops) s) t b in
    let x : h.operands ≤ length ops = c.0 in
    omega arith

pub below_view : (top : Option Header) (h : Header) (headers : List Header) (o : Operand) (old ops : List Operand) (slots : Slots) (s : ℕ) (shown : List Frame) → top ≡ Some h → old ≡ o ∷ ops → Begin (headers_of top headers) (length old) s
    → frames_of (headers_of top headers) old slots ≡ shown → length (operands_of shown) ≡ 0 → 0 < length (operands_below shown) → LosesBelow o shown (frames_of (lower h ∷ headers) ops slots) h headers (length ops) s
below_view top h headers o old ops slots s shown t e b v bare p =
    let c : Begin (h ∷ headers) (length old) s = subst (λ x. Begin (headers_of x headers) (length old) s) t b in
    let w : frames_of (h ∷ headers) old slots ≡ shown = ap (λ x. frames_of (headers_of x headers) old slots) (sym t) ∙ v in
    subst (λ f. LosesBelow o f (frames_of (lower h ∷ headers) ops slots) h headers (length ops) s) w
    (popped_below h headers o old ops slots s e c (subst (λ f. length (operands_of f) ≡ 0) (sym w) bare) (subst (λ f. 0 < length (operands_below f)) (sym w) p))
