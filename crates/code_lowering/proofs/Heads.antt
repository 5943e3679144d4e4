-- The instructions of forms, one at a time.
use Rattle.std.proofs.Common.{◌≡◌, ℕ, zero, suc, ◌+◌, Bool, true, false, true≢false, List, [], ◌∷◌, ◌++◌, length, map, take, drop, Some, refl, sym, ap, ◌∙◌, arith, subst, if◌then◌else◌}
use Rattle.std.specs.Prelude.{slice_get}
use Rattle.std.proofs.lemmas.List.{length-map}
use Rattle.brs_tokens.specs.declared.number.NumberValue.{NumberValue}
use Rattle.brs_tokens.specs.declared.number.NumberValue.TheVariants as value
use Rattle.brs_grammar.specs.Form as g
use Rattle.brs_grammar.specs.Form.{Text, Head}
use Rattle.brs_forms.specs.Words.{is_m, readable, text_of, key_of, number_of}
use Rattle.brs_code.specs.declared.function.Function.{Function}
use Rattle.brs_code.specs.declared.instr.Instr.{Instr}
use Rattle.brs_code.specs.declared.instr.Instr.TheVariants as i
use Rattle.brs_code.specs.Instruction.{pops}
use Rattle.code_drafts.specs.declared.draft.Draft.{Draft, out-Draft}
use Rattle.code_drafts.specs.declared.draft.Draft.TheVariants as draft
use Rattle.code_drafts.specs.DraftCode.{name_draft, keep_draft, set_draft}
use Rattle.code_relation.specs.Heads.{head_instr, name_instr, keep_instr, set_instr, others, number_instr}
use Rattle.code_relation.specs.Standing.{FunctionForm, Has, InstrAt, Names, HeadAt, Aims, SetAt, KeepAt}
use Rattle.lowering_parts.specs.Places.{at_place, with_index}
use Rattle.code_lowering.specs.Lowered.{OneAt, CodeOf, end, next}
use Rattle.code_lowering.proofs.Numbers.{Law, law_none}
use Rattle.code_lowering.proofs.Split.{First, first_of, nothing, plain_one, slot_one, word_one, words_one}

pub has_as : (f : Function) (p line : ℕ) (x y : Instr) → x ≡ y → Has f p x line → Has f p y line
has_as f p line x y e h = subst (λ z. Has f p z line) e h

-- ---- one instruction alone

pub record Alone (all : List Function) (f : Function) (p n o : ℕ) (d : Draft) (q m r : ℕ) : Type 0 where
  pub one : OneAt all f p n o (out-Draft d) m r
  pub next_place : p + 1 ≡ q

pub alone : (all : List Function) (f : Function) (p n o : ℕ) (d : Draft) (q m r : ℕ) → CodeOf all f p n o (d ∷ []) q m r → Alone all f p n o d q m r
alone all f p n o d q m r c =
    let s = first_of all f p n o d [] q m r c in
    let z = nothing all f (p + 1) s.number s.operands q m r s.rest in
    record {
      one = subst (λ k. OneAt all f p n o (out-Draft d) m k) z.operands (subst (λ j. OneAt all f p n o (out-Draft d) j s.operands) z.number s.one);
      next_place = z.place;
    }

-- an instruction with nothing behind it
pub first_alone : (all : List Function) (f : Function) (p n o : ℕ) (d : Draft) (m r : ℕ) → OneAt all f p n o (out-Draft d) m r → CodeOf all f p n o (d ∷ []) (p + 1) m r
first_alone all f p n o d m r one = next m r one end

-- ---- heads

module _ (all : List Function) (f : Function) (fs : List FunctionForm) (p n o line k q m r : ℕ) where
  -- an instruction that names nothing
  pub plain_head : (h : Head) (x : Instr) → at_place p x ≡ head_instr h 0 k → Names f fs h line 0 → pops (head_instr h 0 k) ≡ k → CodeOf all f p n o (draft.Plain x line ∷ []) q m r
      → Law all fs n [] m (HeadAt f fs p h line k q)
  plain_head h x stays names takes c =
      let a = alone all f p n o (draft.Plain x line) q m r c in
      let w = plain_one all f p n o x line m r a.one in
      law_none all fs n m (HeadAt f fs p h line k q) w.number (record {
        index = 0;
        names = names;
        instr = record { has = has_as f p line (at_place p x) (head_instr h 0 k) stays w.has; takes = takes; next = a.next_place };
      })

  number_stays : (v : NumberValue) → at_place p (number_instr v) ≡ number_instr v
  number_stays (value.Integer x) = refl
  number_stays (value.LongInteger x) = refl

  pub number_head : (t : Text) → pops (head_instr (g.Number t) 0 k) ≡ k → CodeOf all f p n o (draft.Plain (number_instr (number_of t)) line ∷ []) q m r
      → Law all fs n [] m (HeadAt f fs p (g.Number t) line k q)
  number_head t takes c = plain_head (g.Number t) (number_instr (number_of t)) (number_stays (number_of t)) tt takes c

  -- an instruction that names a text
  pub word_head : (h : Head) (x : Instr) (text : List ℕ) → ((j : ℕ) → with_index j (at_place p x) ≡ head_instr h j k) → ((j : ℕ) → slice_get f.texts j ≡ Some text → Names f fs h line j) → ((j : ℕ) → pops (head_instr h j k) ≡ k)
      → CodeOf all f p n o (draft.Word x line text ∷ []) q m r → Law all fs n [] m (HeadAt f fs p h line k q)
  word_head h x text stays names takes c =
      let a = alone all f p n o (draft.Word x line text) q m r c in
      let w = word_one all f p n o x line text m r a.one in
      law_none all fs n m (HeadAt f fs p h line k q) w.number (record {
        index = w.index;
        names = names w.index w.names;
        instr = record { has = has_as f p line (with_index w.index (at_place p x)) (head_instr h w.index k) (stays w.index) w.has; takes = takes w.index; next = a.next_place };
      })

  pub pairs_head : (keys : List g.Key) → ((j : ℕ) → pops (head_instr (g.Pairs keys) j k) ≡ k) → CodeOf all f p n o (draft.Words (i.MakePairs 0 k) line (map key_of keys) ∷ []) q m r
      → Law all fs n [] m (HeadAt f fs p (g.Pairs keys) line k q)
  pairs_head keys takes c =
      let a = alone all f p n o (draft.Words (i.MakePairs 0 k) line (map key_of keys)) q m r c in
      let w = words_one all f p n o (i.MakePairs 0 k) line (map key_of keys) m r a.one in
      law_none all fs n m (HeadAt f fs p (g.Pairs keys) line k q) w.number (record {
        index = w.index;
        names = ap (λ l. take l (drop w.index f.texts)) (sym (length-map keys key_of)) ∙ w.names;
        instr = record { has = w.has; takes = takes w.index; next = a.next_place };
      })

-- ---- names

-- what reads a variable, or `m` where b is true
pub record Named (f : Function) (p n : ℕ) (x : Text) (b : Bool) (line q m : ℕ) : Type 0 where
  pub index : ℕ
  pub names : b ≡ false → slice_get f.names index ≡ Some x
  pub has : Has f p (if b then i.LoadM else i.Load index) line
  pub next_place : p + 1 ≡ q
  pub number : n ≡ m

pub named : (all : List Function) (f : Function) (p n o : ℕ) (x : Text) (line q m r : ℕ) (b : Bool) → CodeOf all f p n o ((if b then draft.Plain i.LoadM line else draft.Slot (i.Load 0) line x) ∷ []) q m r → Named f p n x b line q m
named all f p n o x line q m r true c =
    let a = alone all f p n o (draft.Plain i.LoadM line) q m r c in
    let w = plain_one all f p n o i.LoadM line m r a.one in
    record { index = 0; names = λ e. absurd (true≢false e); has = w.has; next_place = a.next_place; number = w.number }
named all f p n o x line q m r false c =
    let a = alone all f p n o (draft.Slot (i.Load 0) line x) q m r c in
    let w = slot_one all f p n o (i.Load 0) line x m r a.one in
    record { index = w.index; names = λ e. w.names; has = w.has; next_place = a.next_place; number = w.number }

pub name_head : (all : List Function) (f : Function) (fs : List FunctionForm) (p n o line k q m r : ℕ) (x : Text) → ((j : ℕ) → pops (head_instr (g.Name x) j k) ≡ k) → CodeOf all f p n o (name_draft x line ∷ []) q m r
    → Law all fs n [] m (HeadAt f fs p (g.Name x) line k q)
name_head all f fs p n o line k q m r x takes c =
    let w = named all f p n o x line q m r (is_m x) c in
    law_none all fs n m (HeadAt f fs p (g.Name x) line k q) w.number (record {
      index = w.index;
      names = w.names;
      instr = record { has = w.has; takes = takes w.index; next = w.next_place };
    })

-- ---- targets

pub record Set (f : Function) (p n : ℕ) (aim : g.Aim) (line k q m : ℕ) : Type 0 where
  pub stands : SetAt f p aim line k q
  pub number : n ≡ m

pub set : (all : List Function) (f : Function) (p n o : ℕ) (aim : g.Aim) (line k q m r : ℕ) → ((j : ℕ) → pops (set_instr aim j) ≡ k) → CodeOf all f p n o (set_draft aim line ∷ []) q m r → Set f p n aim line k q m
set all f p n o (g.ToName x) line k q m r takes c =
    let a = alone all f p n o (draft.Slot (i.Store 0) line x) q m r c in
    let w = slot_one all f p n o (i.Store 0) line x m r a.one in
    record { stands = record { index = w.index; aims = w.names; instr = record { has = w.has; takes = takes w.index; next = a.next_place } }; number = w.number }
set all f p n o (g.ToMember x) line k q m r takes c =
    let a = alone all f p n o (draft.Word (i.StoreMember 0) line (readable x)) q m r c in
    let w = word_one all f p n o (i.StoreMember 0) line (readable x) m r a.one in
    record { stands = record { index = w.index; aims = w.names; instr = record { has = w.has; takes = takes w.index; next = a.next_place } }; number = w.number }
set all f p n o g.ToIndex line k q m r takes c =
    let a = alone all f p n o (draft.Plain i.StoreIndex line) q m r c in
    let w = plain_one all f p n o i.StoreIndex line m r a.one in
    record { stands = record { index = 0; aims = tt; instr = record { has = w.has; takes = takes 0; next = a.next_place } }; number = w.number }

-- What reads a target before it is set. The slot of a variable is that of the instruction which sets it, where the read names none.
pub record Keep (f : Function) (p n : ℕ) (aim : g.Aim) (line k q m : ℕ) : Type 0 where
  pub stands : (j : ℕ) → Aims f aim j → KeepAt f p aim line k q
  pub number : n ≡ m

kept_name : (f : Function) (p n line k q m : ℕ) (x : Text) (b : Bool) → Named f p n x b line q m → ((j : ℕ) → pops (if b then i.LoadM else i.Load j) ≡ k) → (j : ℕ) → slice_get f.names j ≡ Some x
    → (l : ℕ) × (slice_get f.names l ≡ Some x) × InstrAt f p (if b then i.LoadM else i.Load l) line k q
kept_name f p n line k q m x true w takes j at = (j, at, record { has = w.has; takes = takes j; next = w.next_place })
kept_name f p n line k q m x false w takes j at = (w.index, w.names refl, record { has = w.has; takes = takes w.index; next = w.next_place })

pub keep : (all : List Function) (f : Function) (p n o : ℕ) (aim : g.Aim) (line k q m r : ℕ) → ((j : ℕ) → pops (keep_instr aim j) ≡ k) → CodeOf all f p n o (keep_draft aim line ∷ []) q m r → Keep f p n aim line k q m
keep all f p n o (g.ToName x) line k q m r takes c =
    let w = named all f p n o x line q m r (is_m x) c in
    record {
      stands = λ j at. let s = kept_name f p n line k q m x (is_m x) w takes j at in record { index = s.0; aims = s.1; instr = s.2 };
      number = w.number;
    }
keep all f p n o (g.ToMember x) line k q m r takes c =
    let a = alone all f p n o (draft.Word (i.KeepMember 0) line (readable x)) q m r c in
    let w = word_one all f p n o (i.KeepMember 0) line (readable x) m r a.one in
    record { stands = λ j at. record { index = w.index; aims = w.names; instr = record { has = w.has; takes = takes w.index; next = a.next_place } }; number = w.number }
keep all f p n o g.ToIndex line k q m r takes c =
    let a = alone all f p n o (draft.Plain i.KeepIndex line) q m r c in
    let w = plain_one all f p n o i.KeepIndex line m r a.one in
    record { stands = λ j at. record { index = 0; aims = tt; instr = record { has = w.has; takes = takes 0; next = a.next_place } }; number = w.number }
