-- The forms of the language without the ways to write them: what static faults, code and steps are said of.
-- Names, members and words before a colon are folded. Numbers and texts are as written.
use Rattle.std.specs.Prelude.{ℕ, Bool, List, Option}
use Rattle.brs_tokens.specs.declared.place.Place.{Place}
use Rattle.brs_grammar.specs.declared.tree.ComparisonSign.{ComparisonSign}
use Rattle.brs_grammar.specs.declared.tree.LoopKind.{LoopKind}
use Rattle.brs_grammar.specs.declared.tree.ProductSign.{ProductSign}
use Rattle.brs_grammar.specs.declared.tree.ShiftSign.{ShiftSign}
use Rattle.brs_grammar.specs.declared.tree.SumSign.{SumSign}
use Rattle.brs_grammar.specs.declared.tree.TypeWord.{TypeWord}
use Rattle.brs_grammar.specs.declared.tree.UpdateSign.{UpdateSign}

abbrev pub Text : Type 0
Text = List ℕ

-- the key of a pair: a word, or a text with its quotes
pub data Key : Type 0 where
  WordKey : Text → Key
  QuotedKey : Text → Key

-- the two kinds of function
pub data Kind : Type 0 where
  FunctionKind : Kind
  SubKind : Kind

-- what stands where in a `print`: the values are its operands, in order
pub data Mark : Type 0 where
  Semicolon : Mark
  Comma : Mark
  Shown : Mark

-- what is set: a variable, a member of the operand, or the first operand at the second
pub data Aim : Type 0 where
  ToName : Text → Aim
  ToMember : Text → Aim
  ToIndex : Aim

mutual
  -- what an expression does with the values of its operands
  pub data Head : Type 0 where
    Number : Text → Head
    Quoted : Text → Head
    Truth : Bool → Head
    Invalid : Head
    Name : Text → Head
    Array : Head
    Pairs : List Key → Head
    Negate : Head
    Not : Head
    And : Head
    Or : Head
    Compare : ComparisonSign → Head
    Shift : ShiftSign → Head
    Add : SumSign → Head
    Multiply : ProductSign → Head
    Member : Text → Head
    Index : Head
    -- the value is the first operand, the arguments are the others
    CallMember : Text → Head
    Call : Head
    Anonymous : Kind → Params → Option TypeWord → Todo → Head

  -- with the place of its errors
  pub data Form : Type 0 where
    Node : Head → Place → Forms → Form

  pub data Forms : Type 0 where
    none : Forms
    more : Form → Forms → Forms

  -- each with its place, its name and its type
  pub data Params : Type 0 where
    unnamed : Params
    required : Place → Text → Option TypeWord → Params → Params
    optional : Place → Text → Option TypeWord → Form → Params → Params

  -- what a statement does with the values of its operands
  pub data Doing : Type 0 where
    -- the value is the last operand
    Set : Aim → Doing
    -- the sign, its place, and the other side, which comes after the read
    Update : Aim → UpdateSign → Place → Form → Doing
    Drop : Doing
    Print : List Mark → Doing
    -- with a value where there is an operand
    Return : Doing
    Exit : LoopKind → Doing
    If : Todo → Todo → Doing
    While : Form → Todo → Doing
    -- the place and the name of the variable; start, end and, where there is one, step are the operands
    For : Place → Text → Todo → Doing
    ForEach : Place → Text → Todo → Doing

  pub data Todo : Type 0 where
    finish : Todo
    first : Doing → Place → Forms → Todo → Todo
