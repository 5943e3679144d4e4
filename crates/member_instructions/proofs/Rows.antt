-- Which access each instruction makes, and what it does with what is given.
use Rattle.std.proofs.Common.{◌≡◌, ℕ, List, [], ◌∷◌, ◌++◌, length, reverse, take, drop, Some, refl, sym, subst, arith}
use Rattle.std.specs.Prelude.{slice_get}
use Rattle.std.proofs.lemmas.List.{take-append-drop}
use Rattle.heap_meaning.specs.Values.{StoreValue}
use Rattle.heap_meaning.specs.Store.{Store}
use Rattle.brs_grammar.specs.Form.{Text}
use Rattle.brs_code.specs.declared.function.Function.{Function}
use Rattle.brs_code.specs.declared.instr.Instr.{Instr}
use Rattle.brs_code.specs.declared.instr.Instr.TheVariants as i
use Rattle.brs_code.specs.Instruction.{pops}
use Rattle.brs_meaning.specs.Given as g
use Rattle.brs_meaning.specs.Given.{Given}
use Rattle.brs_meaning.specs.Heads.{member_of}
use Rattle.brs_meaning.specs.Members.{member_read, index_read, member_written, index_written}
use Rattle.machine_meaning.specs.Frame.{Operand, Holds, values, value_of}
use Rattle.machine_meaning.specs.Acted.{Acted, Asks, Faults}
use Rattle.machine_meaning.specs.Setting.{Setting, passes, gives, writes, keeps, with_text}
use Rattle.machine_meaning.specs.Statements.{set_member, keep_member}
use Rattle.machine_meaning.specs.Instructions.{acted}
use Rattle.frame_stack.specs.declared.header.Landing.{Landing}
use Rattle.frame_stack.specs.declared.header.Landing.TheVariants as d
use Rattle.actor_meaning.specs.View.{landing_meaning}
use Rattle.member_accesses.specs.Rows.{member_read_row, index_read_row, member_write_row, index_write_row}

-- ---- what is done with what is given

-- the operands with a value, where it lands on them
abbrev pub put : Landing → StoreValue → List Operand → List Operand
put d.Operands v back = Holds v ∷ back
put d.Nowhere v back = back

-- a value lands above the operands that stay; a request is asked above them
abbrev pub Delivers : Setting → Landing → (back : List Operand) → Acted → Given → Type 0
Delivers s landing back act (g.Gives v store) = act ≡ passes s s.frame.slots store (put landing v back)
Delivers s landing back act (g.Wants request) = act ≡ Asks request back (landing_meaning landing)
Delivers s landing back act (g.Fails e) = act ≡ Faults e
Delivers s landing back act (g.Calls f m vs) = Unit {0}

gives_delivers : (s : Setting) (given : Given) → Delivers s d.Operands [] (gives s given) given
gives_delivers s (g.Gives v store) = refl
gives_delivers s (g.Wants request) = refl
gives_delivers s (g.Fails e) = refl
gives_delivers s (g.Calls f m vs) = tt

keeps_delivers : (s : Setting) (back : List Operand) (given : Given) → Delivers s d.Operands back (keeps s back given) given
keeps_delivers s back (g.Gives v store) = refl
keeps_delivers s back (g.Wants request) = refl
keeps_delivers s back (g.Fails e) = refl
keeps_delivers s back (g.Calls f m vs) = tt

writes_delivers : (s : Setting) (given : Given) → Delivers s d.Nowhere [] (writes s given) given
writes_delivers s (g.Gives v store) = refl
writes_delivers s (g.Wants request) = refl
writes_delivers s (g.Fails e) = refl
writes_delivers s (g.Calls f m vs) = tt

-- ---- an instruction that makes an access

-- in a function of which this holds, it takes so many operands, and delivers what the row gives of them; with what it puts back, so many are gone
pub record IsAccess (Of : Function → Type 0) (instr : Instr) (n taken : ℕ) (landing : Landing) (row : List StoreValue → Store → Given) : Type 0 where
  pub takes : pops instr ≡ n
  pub back : List Operand → List Operand
  pub left : (operands : List Operand) → back (take n operands) ++ drop n operands ≡ drop taken operands
  pub acts : (s : Setting) (operands : List Operand) (store : Store) → Of s.frame.function → length operands ≡ n → Delivers s landing (back operands) (acted s instr operands store) (row (reverse (values operands)) store)

-- the function has this text
abbrev pub HasText : ℕ → Text → Function → Type 0
HasText n k f = slice_get f.texts n ≡ Some k

abbrev pub Any : Function → Type 0
Any f = Unit {0}

abbrev none : List Operand → List Operand
none operands = []

abbrev all : List Operand → List Operand
all operands = operands

none_left : (n : ℕ) (operands : List Operand) → none (take n operands) ++ drop n operands ≡ drop n operands
none_left n operands = refl

all_left : (n : ℕ) (operands : List Operand) → all (take n operands) ++ drop n operands ≡ drop 0 operands
all_left n operands = take-append-drop n operands

-- ---- members

member_acts : (n : ℕ) (k : Text) (s : Setting) (operands : List Operand) (store : Store) → HasText n k s.frame.function → length operands ≡ 1 → Delivers s d.Operands (none operands) (acted s (i.Member n) operands store) (member_read_row k (reverse (values operands)) store)
member_acts n k s [] store has e = absurd (omega arith)
member_acts n k s (x ∷ []) store has e =
    subst (λ o. Delivers s d.Operands [] (with_text o (λ t. gives s (member_of t (value_of x ∷ []) store))) (member_read (value_of x) k store)) (sym has) (gives_delivers s (member_read (value_of x) k store))
member_acts n k s (x ∷ y ∷ others) store has e = absurd (omega arith)

pub member_is : (n : ℕ) (k : Text) → IsAccess (HasText n k) (i.Member n) 1 1 d.Operands (member_read_row k)
member_is n k = record { takes = refl; back = none; left = none_left 1; acts = member_acts n k }

keep_member_acts : (n : ℕ) (k : Text) (s : Setting) (operands : List Operand) (store : Store) → HasText n k s.frame.function → length operands ≡ 1 → Delivers s d.Operands (all operands) (acted s (i.KeepMember n) operands store) (member_read_row k (reverse (values operands)) store)
keep_member_acts n k s [] store has e = absurd (omega arith)
keep_member_acts n k s (x ∷ []) store has e =
    subst (λ o. Delivers s d.Operands (x ∷ []) (with_text o (λ t. keep_member s t (x ∷ []) (value_of x ∷ []) store)) (member_read (value_of x) k store)) (sym has) (keeps_delivers s (x ∷ []) (member_read (value_of x) k store))
keep_member_acts n k s (x ∷ y ∷ others) store has e = absurd (omega arith)

pub keep_member_is : (n : ℕ) (k : Text) → IsAccess (HasText n k) (i.KeepMember n) 1 0 d.Operands (member_read_row k)
keep_member_is n k = record { takes = refl; back = all; left = all_left 1; acts = keep_member_acts n k }

store_member_acts : (n : ℕ) (k : Text) (s : Setting) (operands : List Operand) (store : Store) → HasText n k s.frame.function → length operands ≡ 2 → Delivers s d.Nowhere (none operands) (acted s (i.StoreMember n) operands store) (member_write_row k (reverse (values operands)) store)
store_member_acts n k s [] store has e = absurd (omega arith)
store_member_acts n k s (v ∷ []) store has e = absurd (omega arith)
store_member_acts n k s (v ∷ x ∷ []) store has e =
    subst (λ o. Delivers s d.Nowhere [] (with_text o (λ t. set_member s t (value_of v ∷ value_of x ∷ []) store)) (member_written (value_of x) k (value_of v) store)) (sym has) (writes_delivers s (member_written (value_of x) k (value_of v) store))
store_member_acts n k s (v ∷ x ∷ y ∷ others) store has e = absurd (omega arith)

pub store_member_is : (n : ℕ) (k : Text) → IsAccess (HasText n k) (i.StoreMember n) 2 2 d.Nowhere (member_write_row k)
store_member_is n k = record { takes = refl; back = none; left = none_left 2; acts = store_member_acts n k }

-- ---- indexes

index_acts : (s : Setting) (operands : List Operand) (store : Store) → Any s.frame.function → length operands ≡ 2 → Delivers s d.Operands (none operands) (acted s i.Index operands store) (index_read_row (reverse (values operands)) store)
index_acts s [] store has e = absurd (omega arith)
index_acts s (j ∷ []) store has e = absurd (omega arith)
index_acts s (j ∷ x ∷ []) store has e = gives_delivers s (index_read (value_of x) (value_of j) store)
index_acts s (j ∷ x ∷ y ∷ others) store has e = absurd (omega arith)

pub index_is : IsAccess Any i.Index 2 2 d.Operands index_read_row
index_is = record { takes = refl; back = none; left = none_left 2; acts = index_acts }

keep_index_acts : (s : Setting) (operands : List Operand) (store : Store) → Any s.frame.function → length operands ≡ 2 → Delivers s d.Operands (all operands) (acted s i.KeepIndex operands store) (index_read_row (reverse (values operands)) store)
keep_index_acts s [] store has e = absurd (omega arith)
keep_index_acts s (j ∷ []) store has e = absurd (omega arith)
keep_index_acts s (j ∷ x ∷ []) store has e = keeps_delivers s (j ∷ x ∷ []) (index_read (value_of x) (value_of j) store)
keep_index_acts s (j ∷ x ∷ y ∷ others) store has e = absurd (omega arith)

pub keep_index_is : IsAccess Any i.KeepIndex 2 0 d.Operands index_read_row
keep_index_is = record { takes = refl; back = all; left = all_left 2; acts = keep_index_acts }

store_index_acts : (s : Setting) (operands : List Operand) (store : Store) → Any s.frame.function → length operands ≡ 3 → Delivers s d.Nowhere (none operands) (acted s i.StoreIndex operands store) (index_write_row (reverse (values operands)) store)
store_index_acts s [] store has e = absurd (omega arith)
store_index_acts s (v ∷ []) store has e = absurd (omega arith)
store_index_acts s (v ∷ j ∷ []) store has e = absurd (omega arith)
store_index_acts s (v ∷ j ∷ x ∷ []) store has e = writes_delivers s (index_written (value_of x) (value_of j) (value_of v) store)
store_index_acts s (v ∷ j ∷ x ∷ y ∷ others) store has e = absurd (omega arith)

pub store_index_is : IsAccess Any i.StoreIndex 3 3 d.Nowhere index_write_row
store_index_is = record { takes = refl; back = none; left = none_left 3; acts = store_index_acts }
