-- What a text is worth.
-- Source: BrightScript Language Reference, "Literals (Constants)".
use Rattle.std.specs.Prelude.{ℕ, ◌==◌, if◌then◌else◌, List, [], ◌∷◌}
use Rattle.brs_tokens.specs.Classes.{quote}

-- the characters after the opening quote up to the closing one, where `""` stands for one quote
abbrev pub characters : List ℕ → List ℕ
characters [] = []
characters (b ∷ []) = if b == quote then [] else b ∷ []
characters (b ∷ c ∷ bs) = if b == quote then (if c == quote then quote ∷ characters bs else []) else b ∷ characters (c ∷ bs)

-- the characters between the quotes of a text
abbrev pub text_value : List ℕ → List ℕ
text_value [] = []
text_value (b ∷ bs) = if b == quote then characters bs else []
