-- The arguments of a function of numbers and texts.
use Rattle.std.specs.Prelude.{ℕ, ℤ, List, [], ◌∷◌}
use Rattle.plain_operations.specs.Operand.{Operand, Integer, LongInteger, Words}
use Rattle.plain_operations.specs.declared.shape.Argument as ra
use Rattle.plain_operations.specs.declared.shape.Argument.TheVariants as va
use Rattle.plain_operations.specs.declared.shape.Shape as r
use Rattle.plain_operations.specs.declared.shape.Shape.TheVariants as v

-- a number of either width, a text, or another value
pub data Argument : Type 0 where
  Numeral : ℤ → Argument
  Phrase : List ℕ → Argument
  Neither : Argument

abbrev pub argued : Operand → Argument
argued (Integer n) = Numeral n
argued (LongInteger n) = Numeral n
argued (Words s) = Phrase s
argued _ = Neither

-- one Integer, one LongInteger, one text, or more arguments, in which numbers of both widths are alike
pub data Shape : Type 0 where
  Narrow : ℤ → Shape
  Wide : ℤ → Shape
  Text : List ℕ → Shape
  TextNumber : List ℕ → ℤ → Shape
  TextNumbers : List ℕ → ℤ → ℤ → Shape
  NumberTexts : ℤ → List ℕ → List ℕ → Shape
  Mixed : Shape

abbrev pub one_shape : Operand → Shape
one_shape (Integer n) = Narrow n
one_shape (LongInteger n) = Wide n
one_shape (Words s) = Text s
one_shape _ = Mixed

abbrev pub two_shape : Argument → Argument → Shape
two_shape (Phrase s) (Numeral n) = TextNumber s n
two_shape _ _ = Mixed

abbrev pub three_shape : Argument → Argument → Argument → Shape
three_shape (Phrase s) (Numeral p) (Numeral n) = TextNumbers s p n
three_shape (Numeral p) (Phrase s) (Phrase t) = NumberTexts p s t
three_shape _ _ _ = Mixed

abbrev pub shape_in : List Operand → Shape
shape_in (a ∷ []) = one_shape a
shape_in (a ∷ b ∷ []) = two_shape (argued a) (argued b)
shape_in (a ∷ b ∷ c ∷ []) = three_shape (argued a) (argued b) (argued c)
shape_in _ = Mixed

abbrev pub argument_of : ra.Argument → Argument
argument_of (va.Numeral n) = Numeral n
argument_of (va.Phrase s) = Phrase s.now
argument_of va.Neither = Neither

abbrev pub shape_of : r.Shape → Shape
shape_of (v.Narrow n) = Narrow n
shape_of (v.Wide n) = Wide n
shape_of (v.Text s) = Text s.now
shape_of (v.TextNumber s n) = TextNumber s.now n
shape_of (v.TextNumbers s p n) = TextNumbers s.now p n
shape_of (v.NumberTexts p s t) = NumberTexts p s.now t.now
shape_of v.Mixed = Mixed
