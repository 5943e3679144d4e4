-- The code of drafts, part by part.
use Rattle.std.proofs.Common.{◌≡◌, ℕ, zero, suc, ◌+◌, ◌≤◌, List, [], ◌∷◌, ◌++◌, length, take, drop, Some, refl, sym, ap, ◌∙◌, arith, subst}
use Rattle.std.specs.Prelude.{slice_get}
use Rattle.brs_code.specs.declared.function.Function.{Function}
use Rattle.brs_code.specs.declared.function.Mark.{Mark}
use Rattle.brs_code.specs.declared.function.ValueType.{ValueType}
use Rattle.brs_code.specs.declared.instr.Instr.{Instr}
use Rattle.brs_code.specs.declared.instr.Instr.TheVariants as i
use Rattle.code_drafts.specs.declared.draft.Draft.{Draft, out-Draft}
use Rattle.code_drafts.specs.declared.draft.Draft.TheOpen as opened
use Rattle.code_drafts.specs.declared.draft.Draft.TheOpen.{Draft-F}
use Rattle.code_drafts.specs.declared.draft.Draft.TheVariants as draft
use Rattle.code_drafts.specs.declared.draft.Draft.TheViews.{out-roll-Draft}
use Rattle.code_drafts.specs.declared.draft.DraftParameter.{DraftParameter}
use Rattle.code_relation.specs.Standing.{Has}
use Rattle.lowering_parts.specs.Places.{at_place, with_index}
use Rattle.code_lowering.specs.Lowered.{Stands, OneAt, plain, slot, word, words, marks, function, CodeOf, end, next, FunctionOf}

-- ---- one part behind another

pub record Parts (all : List Function) (f : Function) (p n o : ℕ) (xs ys : List Draft) (q m r : ℕ) : Type 0 where
  pub at : ℕ
  pub number : ℕ
  pub operands : ℕ
  pub front : CodeOf all f p n o xs at number operands
  pub back : CodeOf all f at number operands ys q m r

pub parts : (all : List Function) (f : Function) (p n o : ℕ) (xs ys : List Draft) (q m r : ℕ) → CodeOf all f p n o (xs ++ ys) q m r → Parts all f p n o xs ys q m r
parts all f p n o [] ys q m r c = record { at = p; number = n; operands = o; front = end; back = c }
parts all f p n o (x ∷ xs) ys q m r (next k j one rest) =
    let s = parts all f (p + 1) k j xs ys q m r rest in
    record { at = s.at; number = s.number; operands = s.operands; front = next k j one s.front; back = s.back }

pub record First (all : List Function) (f : Function) (p n o : ℕ) (d : Draft) (ds : List Draft) (q m r : ℕ) : Type 0 where
  pub number : ℕ
  pub operands : ℕ
  pub one : OneAt all f p n o (out-Draft d) number operands
  pub rest : CodeOf all f (p + 1) number operands ds q m r

pub first_of : (all : List Function) (f : Function) (p n o : ℕ) (d : Draft) (ds : List Draft) (q m r : ℕ) → CodeOf all f p n o (d ∷ ds) q m r → First all f p n o d ds q m r
first_of all f p n o d ds q m r (next k j one rest) = record { number = k; operands = j; one = one; rest = rest }

pub record Nothing (p n o q m r : ℕ) : Type 0 where
  pub place : p ≡ q
  pub number : n ≡ m
  pub operands : o ≡ r

pub nothing : (all : List Function) (f : Function) (p n o q m r : ℕ) → CodeOf all f p n o [] q m r → Nothing p n o q m r
nothing all f p n o q m r end = record { place = refl; number = refl; operands = refl }

-- where code ends
pub code_ends : (all : List Function) (f : Function) (p n o : ℕ) (ds : List Draft) (q m r : ℕ) → CodeOf all f p n o ds q m r → q ≡ p + length ds
code_ends all f p n o [] q m r c = omega (arith, (nothing all f p n o q m r c).place)
code_ends all f p n o (d ∷ ds) q m r (next k j one rest) = omega (arith, code_ends all f (p + 1) k j ds q m r rest)

-- ---- one instruction

pub record Plainly (f : Function) (p n o : ℕ) (x : Instr) (line m r : ℕ) : Type 0 where
  pub has : Has f p (at_place p x) line
  pub stands : Stands f p o (at_place p x) line r
  pub number : n ≡ m

pub opens_plain : (x : Instr) (line : ℕ) → out-Draft (draft.Plain x line) ≡ opened.Plain x line
opens_plain x line = ap out-Draft (sym (draft.rolls-Plain x line)) ∙ out-roll-Draft (opened.Plain x line)

opened_plain : (all : List Function) (f : Function) (p n o : ℕ) (x : Instr) (line : ℕ) (m r : ℕ) → OneAt all f p n o (opened.Plain x line) m r → Plainly f p n o x line m r
opened_plain all f p n o x line m r (plain s) = record { has = (o, s.has); stands = s; number = refl }

pub plain_one : (all : List Function) (f : Function) (p n o : ℕ) (x : Instr) (line : ℕ) (m r : ℕ) → OneAt all f p n o (out-Draft (draft.Plain x line)) m r → Plainly f p n o x line m r
plain_one all f p n o x line m r one = opened_plain all f p n o x line m r (subst (λ d. OneAt all f p n o d m r) (opens_plain x line) one)

pub record Slotted (f : Function) (p n o : ℕ) (x : Instr) (line : ℕ) (name : List ℕ) (m r : ℕ) : Type 0 where
  pub index : ℕ
  pub names : slice_get f.names index ≡ Some name
  pub has : Has f p (with_index index (at_place p x)) line
  pub stands : Stands f p o (with_index index (at_place p x)) line r
  pub number : n ≡ m

pub opens_slot : (x : Instr) (line : ℕ) (name : List ℕ) → out-Draft (draft.Slot x line name) ≡ opened.Slot x line name
opens_slot x line name = ap out-Draft (sym (draft.rolls-Slot x line name)) ∙ out-roll-Draft (opened.Slot x line name)

opened_slot : (all : List Function) (f : Function) (p n o : ℕ) (x : Instr) (line : ℕ) (name : List ℕ) (m r : ℕ) → OneAt all f p n o (opened.Slot x line name) m r → Slotted f p n o x line name m r
opened_slot all f p n o x line name m r (slot k e s) = record { index = k; names = e; has = (o, s.has); stands = s; number = refl }

pub slot_one : (all : List Function) (f : Function) (p n o : ℕ) (x : Instr) (line : ℕ) (name : List ℕ) (m r : ℕ) → OneAt all f p n o (out-Draft (draft.Slot x line name)) m r → Slotted f p n o x line name m r
slot_one all f p n o x line name m r one = opened_slot all f p n o x line name m r (subst (λ d. OneAt all f p n o d m r) (opens_slot x line name) one)

pub record Worded (f : Function) (p n o : ℕ) (x : Instr) (line : ℕ) (text : List ℕ) (m r : ℕ) : Type 0 where
  pub index : ℕ
  pub names : slice_get f.texts index ≡ Some text
  pub has : Has f p (with_index index (at_place p x)) line
  pub stands : Stands f p o (with_index index (at_place p x)) line r
  pub number : n ≡ m

pub opens_word : (x : Instr) (line : ℕ) (text : List ℕ) → out-Draft (draft.Word x line text) ≡ opened.Word x line text
opens_word x line text = ap out-Draft (sym (draft.rolls-Word x line text)) ∙ out-roll-Draft (opened.Word x line text)

opened_word : (all : List Function) (f : Function) (p n o : ℕ) (x : Instr) (line : ℕ) (text : List ℕ) (m r : ℕ) → OneAt all f p n o (opened.Word x line text) m r → Worded f p n o x line text m r
opened_word all f p n o x line text m r (word k e s) = record { index = k; names = e; has = (o, s.has); stands = s; number = refl }

pub word_one : (all : List Function) (f : Function) (p n o : ℕ) (x : Instr) (line : ℕ) (text : List ℕ) (m r : ℕ) → OneAt all f p n o (out-Draft (draft.Word x line text)) m r → Worded f p n o x line text m r
word_one all f p n o x line text m r one = opened_word all f p n o x line text m r (subst (λ d. OneAt all f p n o d m r) (opens_word x line text) one)

pub record Keyed (f : Function) (p n o : ℕ) (x : Instr) (line : ℕ) (texts : List (List ℕ)) (m r : ℕ) : Type 0 where
  pub index : ℕ
  pub names : take (length texts) (drop index f.texts) ≡ texts
  pub within : index + length texts ≤ length f.texts
  pub has : Has f p (with_index index (at_place p x)) line
  pub stands : Stands f p o (with_index index (at_place p x)) line r
  pub number : n ≡ m

pub opens_words : (x : Instr) (line : ℕ) (texts : List (List ℕ)) → out-Draft (draft.Words x line texts) ≡ opened.Words x line texts
opens_words x line texts = ap out-Draft (sym (draft.rolls-Words x line texts)) ∙ out-roll-Draft (opened.Words x line texts)

opened_words : (all : List Function) (f : Function) (p n o : ℕ) (x : Instr) (line : ℕ) (texts : List (List ℕ)) (m r : ℕ) → OneAt all f p n o (opened.Words x line texts) m r → Keyed f p n o x line texts m r
opened_words all f p n o x line texts m r (words k e b s) = record { index = k; names = e; within = b; has = (o, s.has); stands = s; number = refl }

pub words_one : (all : List Function) (f : Function) (p n o : ℕ) (x : Instr) (line : ℕ) (texts : List (List ℕ)) (m r : ℕ) → OneAt all f p n o (out-Draft (draft.Words x line texts)) m r → Keyed f p n o x line texts m r
words_one all f p n o x line texts m r one = opened_words all f p n o x line texts m r (subst (λ d. OneAt all f p n o d m r) (opens_words x line texts) one)

pub record Marked (f : Function) (p n o : ℕ) (x : Instr) (line : ℕ) (ms : List Mark) (m r : ℕ) : Type 0 where
  pub index : ℕ
  pub names : take (length ms) (drop index f.marks) ≡ ms
  pub within : index + length ms ≤ length f.marks
  pub has : Has f p (with_index index (at_place p x)) line
  pub stands : Stands f p o (with_index index (at_place p x)) line r
  pub number : n ≡ m

pub opens_marks : (x : Instr) (line : ℕ) (ms : List Mark) → out-Draft (draft.Marks x line ms) ≡ opened.Marks x line ms
opens_marks x line ms = ap out-Draft (sym (draft.rolls-Marks x line ms)) ∙ out-roll-Draft (opened.Marks x line ms)

opened_marks : (all : List Function) (f : Function) (p n o : ℕ) (x : Instr) (line : ℕ) (ms : List Mark) (m r : ℕ) → OneAt all f p n o (opened.Marks x line ms) m r → Marked f p n o x line ms m r
opened_marks all f p n o x line ms m r (marks k e b s) = record { index = k; names = e; within = b; has = (o, s.has); stands = s; number = refl }

pub marks_one : (all : List Function) (f : Function) (p n o : ℕ) (x : Instr) (line : ℕ) (ms : List Mark) (m r : ℕ) → OneAt all f p n o (out-Draft (draft.Marks x line ms)) m r → Marked f p n o x line ms m r
marks_one all f p n o x line ms m r one = opened_marks all f p n o x line ms m r (subst (λ d. OneAt all f p n o d m r) (opens_marks x line ms) one)

pub record Numbered (all : List Function) (f : Function) (p n o : ℕ) (line : ℕ) (ps : List DraftParameter) (needed : ℕ) (value : ValueType) (size : ℕ) (code : List Draft) (m r : ℕ) : Type 0 where
  pub number : ℕ
  pub made : Function
  pub function : FunctionOf all n line ps needed value size code made number
  pub stands : slice_get all number ≡ Some made
  pub next_number : number + 1 ≡ m
  pub has : Has f p (i.Function number) line
  pub stands_at : Stands f p o (i.Function number) line r

pub opens_function : (line : ℕ) (ps : List DraftParameter) (needed : ℕ) (value : ValueType) (size : ℕ) (code : List Draft) → out-Draft (draft.Function line ps needed value size code) ≡ opened.Function line ps needed value size code
opens_function line ps needed value size code = ap out-Draft (sym (draft.rolls-Function line ps needed value size code)) ∙ out-roll-Draft (opened.Function line ps needed value size code)

opened_function : (all : List Function) (f : Function) (p n o : ℕ) (line : ℕ) (ps : List DraftParameter) (needed : ℕ) (value : ValueType) (size : ℕ) (code : List Draft) (m r : ℕ) → OneAt all f p n o (opened.Function line ps needed value size code) m r → Numbered all f p n o line ps needed value size code m r
opened_function all f p n o line ps needed value size code m r (function g k j a e z s) = record { number = k; made = g; function = a; stands = e; next_number = z; has = (o, s.has); stands_at = s }

pub function_one : (all : List Function) (f : Function) (p n o : ℕ) (line : ℕ) (ps : List DraftParameter) (needed : ℕ) (value : ValueType) (size : ℕ) (code : List Draft) (m r : ℕ) → OneAt all f p n o (out-Draft (draft.Function line ps needed value size code)) m r → Numbered all f p n o line ps needed value size code m r
function_one all f p n o line ps needed value size code m r one = opened_function all f p n o line ps needed value size code m r (subst (λ d. OneAt all f p n o d m r) (opens_function line ps needed value size code) one)
