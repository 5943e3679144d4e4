-- Code that keeps the rule, part by part.
use Rattle.std.proofs.Common.{◌≡◌, ℕ, suc, ◌+◌, ◌-◌, ◌<◌, ◌≤◌, true, List, [], ◌∷◌, length, Option, None, Some, refl, sym, ap, ◌∙◌, arith, subst, inl, inr}
use Rattle.std.specs.Prelude.{slice_get, IfSome, IsSomeAnd, All}
use Rattle.std.proofs.lemmas.Bool.{cases_lt}
use Rattle.std.proofs.lemmas.List.Elements.{All-nil, All-cons}
use Rattle.std.proofs.lemmas.Option.{slice_get_past}
use Rattle.brs_code.specs.declared.effect.Turn.{Turn}
use Rattle.brs_code.specs.declared.function.Function.{Function}
use Rattle.brs_code.specs.declared.instr.Instr.{Instr}
use Rattle.brs_code.specs.declared.instr.Instr.TheVariants as i
use Rattle.brs_code.specs.declared.instr.Placed.{Placed}
use Rattle.brs_code.specs.Instruction.{pops, goes_on, turn, is_free_turn}
use Rattle.brs_code.specs.Rule.{LeadsTo, NamesExist, InstructionRule, FunctionRule}
use Rattle.code_drafts.specs.declared.draft.Draft.{Draft, out-Draft}
use Rattle.code_drafts.specs.declared.draft.Draft.TheOpen as opened
use Rattle.code_drafts.specs.declared.draft.Draft.TheOpen.{Draft-F}
use Rattle.lowering_parts.specs.Operands.{after_leaving}
use Rattle.lowering_parts.specs.Places.{at_place, with_index}
use Rattle.code_lowering.specs.Lowered.{Stands, OneAt, plain, slot, word, words, marks, function, CodeOf, next}
use Rattle.code_lowering.proofs.Split.{nothing}

-- ---- lists

-- what holds of each entry
pub each_of : {A : Type 0} (P : A → Type 0) (xs : List A) → ((k : ℕ) (x : A) → slice_get xs k ≡ Some x → P x) → All P xs
each_of P [] h = All-nil P
each_of P (x ∷ xs) h = All-cons P x xs (h 0 x refl) (each_of P xs (λ k y e. h (suc k) y e))

-- ---- instructions

-- those from p to q keep the rule
abbrev pub Keeps : Function → (a p q : ℕ) → Type 0
Keeps f a p q = (at : ℕ) → p ≤ at → at < q → IfSome (slice_get f.code at) (InstructionRule f a at)

pub keeps_none : (f : Function) (a p q : ℕ) → q ≤ p → Keeps f a p q
keeps_none f a p q h at l u = absurd (omega (arith, h, l, u))

pub keeps_both : (f : Function) (a p s q : ℕ) → Keeps f a p s → Keeps f a s q → Keeps f a p q
keeps_both f a p s q x y at l u = elim (cases_lt at s) [
  | inl h ↦ x at l h
  | inr h ↦ y at h u
]

-- behind the last instruction there is none
pub keeps_all : (f : Function) (a q : ℕ) → length f.code ≤ q → Keeps f a 0 q → (at : ℕ) → IfSome (slice_get f.code at) (InstructionRule f a at)
keeps_all f a q h k at = elim (cases_lt at q) [
  | inl below ↦ k at (omega arith) below
  | inr past ↦ subst (λ (w : Option Placed). IfSome w (InstructionRule f a at)) (sym (slice_get_past f.code at (omega (arith, h, past)))) tt
]

keeps_one : (f : Function) (a p q : ℕ) (x : Placed) → p + 1 ≡ q → slice_get f.code p ≡ Some x → InstructionRule f a p x → Keeps f a p q
keeps_one f a p q x e h r at l u =
    let here : p ≡ at = omega (arith, e, l, u) in
    subst (λ k. IfSome (slice_get f.code k) (InstructionRule f a k)) here (subst (λ (w : Option Placed). IfSome w (InstructionRule f a p)) (sym h) r)

-- the instruction at p keeps the rule
pub keeps_at : (f : Function) (a p o : ℕ) (x : Instr) (line r q : ℕ) → Stands f p o x line r → p + 1 ≡ q → pops x ≤ o → IfSome (goes_on x) (λ l. LeadsTo f.code q (o - pops x + l))
    → IfSome (turn x) (λ t. LeadsTo f.code t.to (o - pops x + t.leaves)) → (is_free_turn x ≡ true → IfSome (turn x) (λ t. p < t.to)) → NamesExist f a x → Keeps f a p q
keeps_at f a p o x line r q s e takes goes turns forward names =
    keeps_one f a p q (record { instr = x; line = line; operands = o }) e s.has (record {
      takes = takes;
      next = subst (λ k. IfSome (goes_on x) (λ l. LeadsTo f.code k (o - pops x + l))) (sym e) goes;
      turns = turns;
      forward = forward;
      names = names;
    })

-- ---- where code begins

pub leads_here : (f : Function) (p o : ℕ) (x : Instr) (line r : ℕ) → Stands f p o x line r → LeadsTo f.code p o
leads_here f p o x line r s = subst (λ (w : Option Placed). IsSomeAnd w (λ z. z.operands ≡ o)) (sym s.has) refl

pub leads_one : (all : List Function) (f : Function) (p n o : ℕ) (d : Draft-F Draft) (m r : ℕ) → OneAt all f p n o d m r → LeadsTo f.code p o
leads_one all f p n o (opened.Plain x line) m r (plain s) = leads_here f p o (at_place p x) line r s
leads_one all f p n o (opened.Slot x line name) m r (slot k e s) = leads_here f p o (with_index k (at_place p x)) line r s
leads_one all f p n o (opened.Word x line text) m r (word k e s) = leads_here f p o (with_index k (at_place p x)) line r s
leads_one all f p n o (opened.Words x line texts) m r (words k e b s) = leads_here f p o (with_index k (at_place p x)) line r s
leads_one all f p n o (opened.Marks x line ms) m r (marks k e b s) = leads_here f p o (with_index k (at_place p x)) line r s
leads_one all f p n o (opened.Function line ps needed value size code) m r (function g k j a e z s) = leads_here f p o (i.Function k) line r s

pub leads_front : (all : List Function) (f : Function) (p n o : ℕ) (ds : List Draft) (q m r : ℕ) → CodeOf all f p n o ds q m r → LeadsTo f.code q r → LeadsTo f.code p o
leads_front all f p n o [] q m r c l =
    let z = nothing all f p n o q m r c in
    subst (λ k. LeadsTo f.code k o) (sym z.place) (subst (λ k. LeadsTo f.code q k) (sym z.operands) l)
leads_front all f p n o (d ∷ ds) q m r (next k j one rest) l = leads_one all f p n o (out-Draft d) k j one

pub leads_as : (f : Function) (p q o r : ℕ) → p ≡ q → o ≡ r → LeadsTo f.code p o → LeadsTo f.code q r
leads_as f p q o r e z l = subst (λ k. LeadsTo f.code k r) e (subst (λ k. LeadsTo f.code p k) z l)

-- ---- functions

-- those of these numbers keep the rule
abbrev pub Functions : List Function → (n m : ℕ) → Type 0
Functions all n m = (k : ℕ) → n ≤ k → k < m → (g : Function) × (slice_get all k ≡ Some g) × FunctionRule (length all) g

pub functions_none : (all : List Function) (n m : ℕ) → m ≤ n → Functions all n m
functions_none all n m h k l u = absurd (omega (arith, h, l, u))

pub functions_both : (all : List Function) (n k m : ℕ) → Functions all n k → Functions all k m → Functions all n m
functions_both all n k m x y at l u = elim (cases_lt at k) [
  | inl h ↦ x at l h
  | inr h ↦ y at h u
]

pub functions_one : (all : List Function) (n m : ℕ) (g : Function) → n + 1 ≡ m → slice_get all n ≡ Some g → FunctionRule (length all) g → Functions all n m
functions_one all n m g e h r k l u =
    let here : n ≡ k = omega (arith, e, l, u) in
    (g, ap (slice_get all) (sym here) ∙ h, r)

-- ---- code

-- The code from p to q leaves e operands, and keeps the rule where W holds and an instruction with them stands at q. Its anonymous functions,
-- which are numbered from n to m, keep the rule.
pub record Ruled (all : List Function) (f : Function) (W : Type 0) (p n q m r e : ℕ) : Type 0 where
  pub order : n ≤ m
  pub functions : Functions all n m
  pub leaves : r ≡ e
  pub keeps : LeadsTo f.code q r → W → Keeps f (length all) p q

pub ruled_as : (all : List Function) (f : Function) (W : Type 0) (p n q m r e e' : ℕ) → e ≡ e' → Ruled all f W p n q m r e → Ruled all f W p n q m r e'
ruled_as all f W p n q m r e e' z a = record { order = a.order; functions = a.functions; leaves = a.leaves ∙ z; keeps = a.keeps }

-- code that keeps the rule whatever else holds
pub ruled_any : (all : List Function) (f : Function) (W : Type 0) (p n q m r e : ℕ) → Ruled all f (Unit {0}) p n q m r e → Ruled all f W p n q m r e
ruled_any all f W p n q m r e a = record { order = a.order; functions = a.functions; leaves = a.leaves; keeps = λ l w. a.keeps l tt }

pub ruled_none : (all : List Function) (f : Function) (W : Type 0) (p n q m r e : ℕ) → p ≡ q → n ≡ m → r ≡ e → Ruled all f W p n q m r e
ruled_none all f W p n q m r e z y x = record {
  order = omega (arith, y);
  functions = functions_none all n m (omega (arith, y));
  leaves = x;
  keeps = λ l w. keeps_none f (length all) p q (omega (arith, z));
}

pub ruled_both : (all : List Function) (f : Function) (W : Type 0) (p n s k j q m r d e : ℕ) (ds : List Draft) → Ruled all f W p n s k j d → CodeOf all f s k j ds q m r → Ruled all f W s k q m r e → Ruled all f W p n q m r e
ruled_both all f W p n s k j q m r d e ds a c b = record {
  order = omega (arith, a.order, b.order);
  functions = functions_both all n k m a.functions b.functions;
  leaves = b.leaves;
  keeps = λ l w. keeps_both f (length all) p s q (a.keeps (leads_front all f s k j ds q m r c l) w) (b.keeps l w);
}

-- an instruction that goes on to the next one alone
pub ruled_one : (all : List Function) (f : Function) (W : Type 0) (p n o : ℕ) (x : Instr) (line q m r k leaves : ℕ) → goes_on x ≡ Some leaves → turn x ≡ None → pops x ≡ k → k ≤ o → NamesExist f (length all) x
    → Stands f p o x line r → p + 1 ≡ q → n ≡ m → Ruled all f W p n q m r (o - k + leaves)
ruled_one all f W p n o x line q m r k leaves goes turns takes most names s z y =
    let left : r ≡ o - pops x + leaves = s.leaves ∙ ap (λ (w : Option ℕ). elim w [ Some j ↦ o - pops x + j | None ↦ after_leaving x o ]) goes in
    record {
      order = omega (arith, y);
      functions = functions_none all n m (omega (arith, y));
      leaves = left ∙ ap (λ j. o - j + leaves) takes;
      keeps = λ l w. keeps_at f (length all) p o x line r q s z (omega (arith, takes, most))
          (subst (λ (v : Option ℕ). IfSome v (λ j. LeadsTo f.code q (o - pops x + j))) (sym goes) (subst (λ j. LeadsTo f.code q j) left l))
          (subst (λ (v : Option Turn). IfSome v (λ t. LeadsTo f.code t.to (o - pops x + t.leaves))) (sym turns) tt)
          (λ h. subst (λ (v : Option Turn). IfSome v (λ t. p < t.to)) (sym turns) tt) names;
    }
