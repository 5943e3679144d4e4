-- How the code of functions stands to drafts: instruction by instruction, each at its place, with its names in tables and with how many
-- operands it begins with. The anonymous functions of a file are numbered in the order in which their code ends, so those inside a
-- function come directly before it.
use Rattle.std.specs.Prelude.{◌≡◌, ℕ, ◌+◌, ◌-◌, ◌≤◌, List, [], ◌∷◌, ◌++◌, length, take, drop, reverse, slice_get, Some}
use Rattle.brs_code.specs.declared.function.Function.{Function}
use Rattle.brs_code.specs.declared.function.Mark.{Mark}
use Rattle.brs_code.specs.declared.function.Parameter.{Parameter}
use Rattle.brs_code.specs.declared.function.ValueType.{ValueType}
use Rattle.brs_code.specs.declared.instr.Instr.{Instr}
use Rattle.brs_code.specs.declared.instr.Instr.TheVariants as i
use Rattle.brs_code.specs.declared.instr.Placed.{Placed}
use Rattle.code_drafts.specs.declared.draft.Draft.{Draft, out-Draft}
use Rattle.code_drafts.specs.declared.draft.Draft.TheOpen as opened
use Rattle.code_drafts.specs.declared.draft.Draft.TheOpen.{Draft-F}
use Rattle.code_drafts.specs.declared.draft.DraftParameter.{DraftParameter}
use Rattle.lowering_parts.specs.declared.tables.Tables.{Tables}
use Rattle.lowering_parts.specs.Names.{AreDistinct}
use Rattle.lowering_parts.specs.Operands.{after}
use Rattle.lowering_parts.specs.Places.{at_place, with_index}

-- ---- lists that grow at their end

pub record Begins (A : Type 0) (xs ys : List A) : Type 0 where
  pub more : List A
  pub is : ys ≡ xs ++ more

pub record Grows (t u : Tables) : Type 0 where
  pub slots : Begins (List ℕ) t.slots u.slots
  pub texts : Begins (List ℕ) t.texts u.texts
  pub marks : Begins Mark t.marks u.marks

-- the tables of a function begin with these
pub record Reads (t : Tables) (f : Function) : Type 0 where
  pub names : Begins (List ℕ) t.slots f.names
  pub texts : Begins (List ℕ) t.texts f.texts
  pub marks : Begins Mark t.marks f.marks

-- ---- parameters

-- a parameter of a function whose slots have these names and whose code has so many instructions
pub record ParameterOf (names : List (List ℕ)) (size : ℕ) (d : DraftParameter) (x : Parameter) : Type 0 where
  pub slot : slice_get names x.slot ≡ Some d.name
  pub kind : x.kind ≡ d.kind
  pub entry : x.entry ≡ size - d.after

abbrev pub ParametersOf : List (List ℕ) → ℕ → List DraftParameter → List Parameter → Type 0
ParametersOf names size [] [] = Unit {0}
ParametersOf names size (d ∷ ds) (x ∷ xs) = ParameterOf names size d x × ParametersOf names size ds xs
ParametersOf names size _ _ = ⊥

-- ---- instructions

-- At p stands this instruction, which begins with o operands and leaves r.
pub record Stands (f : Function) (p o : ℕ) (x : Instr) (line r : ℕ) : Type 0 where
  pub has : slice_get f.code p ≡ Some (record { instr = x; line = line; operands = o })
  pub leaves : r ≡ after x o

-- what a function says beside its code, which has so many instructions
pub record FunctionHead (line : ℕ) (ps : List DraftParameter) (needed : ℕ) (value : ValueType) (size count : ℕ) (f : Function) : Type 0 where
  pub line_is : f.line ≡ line
  pub needs : f.needed ≡ needed
  pub value_is : f.value ≡ value
  pub start_is : f.start ≡ count - size
  pub first_is : f.first ≡ 0
  pub ends : length f.code ≡ count
  pub distinct : AreDistinct f.names
  pub parameters_are : ParametersOf f.names count (reverse ps) f.parameters

mutual
  -- The instruction at p is this draft. It begins with o operands and leaves r, and the anonymous functions up to it are numbered from n to
  -- m among all.
  pub data OneAt (all : List Function) : Function → (p n o : ℕ) → Draft-F Draft → (m r : ℕ) → Type 0 where
    plain : {f : Function} {p n o r line : ℕ} {x : Instr}
        → Stands f p o (at_place p x) line r → OneAt all f p n o (opened.Plain x line) n r
    slot : {f : Function} {p n o r line : ℕ} {x : Instr} {name : List ℕ} (k : ℕ)
        → slice_get f.names k ≡ Some name → Stands f p o (with_index k (at_place p x)) line r → OneAt all f p n o (opened.Slot x line name) n r
    word : {f : Function} {p n o r line : ℕ} {x : Instr} {text : List ℕ} (k : ℕ)
        → slice_get f.texts k ≡ Some text → Stands f p o (with_index k (at_place p x)) line r → OneAt all f p n o (opened.Word x line text) n r
    words : {f : Function} {p n o r line : ℕ} {x : Instr} {texts : List (List ℕ)} (k : ℕ)
        → take (length texts) (drop k f.texts) ≡ texts → k + length texts ≤ length f.texts → Stands f p o (with_index k (at_place p x)) line r → OneAt all f p n o (opened.Words x line texts) n r
    marks : {f : Function} {p n o r line : ℕ} {x : Instr} {ms : List Mark} (k : ℕ)
        → take (length ms) (drop k f.marks) ≡ ms → k + length ms ≤ length f.marks → Stands f p o (with_index k (at_place p x)) line r → OneAt all f p n o (opened.Marks x line ms) n r
    function : {f : Function} {p n o r line needed size : ℕ} {ps : List DraftParameter} {value : ValueType} {code : List Draft} (g : Function) (k m : ℕ)
        → FunctionOf all n line ps needed value size code g k → slice_get all k ≡ Some g → k + 1 ≡ m → Stands f p o (i.Function k) line r → OneAt all f p n o (opened.Function line ps needed value size code) m r

  -- From p to q the code is these drafts.
  pub data CodeOf (all : List Function) : Function → (p n o : ℕ) → List Draft → (q m r : ℕ) → Type 0 where
    end : {f : Function} {p n o : ℕ} → CodeOf all f p n o [] p n o
    next : {f : Function} {p n o q m r : ℕ} {d : Draft} {ds : List Draft} (k s : ℕ)
        → OneAt all f p n o (out-Draft d) k s → CodeOf all f (p + 1) k s ds q m r → CodeOf all f p n o (d ∷ ds) q m r

  -- The function of a draft with these parts: its parameters from the last to the first, and its code from the last instruction to the
  -- first. The anonymous functions inside it are numbered from n to m.
  pub data FunctionOf (all : List Function) : (n line : ℕ) → List DraftParameter → (needed : ℕ) → ValueType → (size : ℕ) → List Draft → Function → (m : ℕ) → Type 0 where
    function_of : {f : Function} {n m line needed size : ℕ} {ps : List DraftParameter} {value : ValueType} {code : List Draft} (r : ℕ)
        → CodeOf all f 0 n 0 (reverse code) (length code) m r → FunctionHead line ps needed value size (length code) f → FunctionOf all n line ps needed value size code f m

-- the code of a function from its first place on, which begins with no operands
pub record Codes (all : List Function) (f : Function) (n : ℕ) (ds : List Draft) (q m : ℕ) : Type 0 where
  pub leaves : ℕ
  pub code : CodeOf all f 0 n 0 ds q m leaves

-- ---- files

-- a draft is that of a function
pub record IsFunction (d : Draft) : Type 0 where
  pub line : ℕ
  pub parameters : List DraftParameter
  pub needed : ℕ
  pub value : ValueType
  pub size : ℕ
  pub code : List Draft
  pub is : out-Draft d ≡ opened.Function line parameters needed value size code

-- the function of a draft, whose anonymous functions are numbered from n to m
pub data NamedOf (all : List Function) : (n : ℕ) → Draft-F Draft → Function → (m : ℕ) → Type 0 where
  named_of : {n line needed size m : ℕ} {ps : List DraftParameter} {value : ValueType} {code : List Draft} {f : Function}
      → FunctionOf all n line ps needed value size code f m → NamedOf all n (opened.Function line ps needed value size code) f m

-- the functions of drafts in their order
pub data FileOf (all : List Function) : (n : ℕ) → List Draft → List Function → (m : ℕ) → Type 0 where
  none : {n : ℕ} → FileOf all n [] [] n
  next_function : {n m : ℕ} {d : Draft} {ds : List Draft} {f : Function} {fs : List Function} (k : ℕ)
      → NamedOf all n (out-Draft d) f k → FileOf all k ds fs m → FileOf all n (d ∷ ds) (f ∷ fs) m
