-- What the words of a tree are worth.
-- Source: BrightScript Language Reference, "Literals (Constants)" and "Identifiers".
use Rattle.std.specs.Prelude.{ℕ, Bool, true, false, if◌then◌else◌, ◌==◌, List, [], ◌∷◌, Option, Some, None}
use Rattle.std.specs.Str.{is_utf8}
use Rattle.std.specs.Int.{w32, cast_signed}
use Rattle.chan_values.specs.Folded.{folded}
use Rattle.brs_tokens.specs.declared.number.NumberValue.{NumberValue}
use Rattle.brs_tokens.specs.declared.number.NumberValue.TheVariants.{Integer}
use Rattle.brs_tokens.specs.Numbers.{number_value}
use Rattle.brs_tokens.specs.Texts.{text_value}
use Rattle.brs_grammar.specs.Form.{Text, Key, WordKey, QuotedKey}

-- the bytes as a text: empty where they are no UTF-8, as in no tree of a source file
abbrev pub readable : List ℕ → Text
readable bytes = if is_utf8 bytes then bytes else []

-- a text that is written with its quotes
abbrev pub text_of : List ℕ → Text
text_of quoted = if is_utf8 quoted then text_value quoted else []

-- a number, 0 where it is too large, as in no tree of a source file
abbrev pub number_of : List ℕ → NumberValue
number_of number = elim (number_value number) [ Some value ↦ value | None ↦ Integer (cast_signed w32 0) ]

-- the key of a pair, folded
abbrev pub key_of : Key → Text
key_of (WordKey x) = readable x
key_of (QuotedKey t) = folded (text_of t)

-- the folded name is `m`, which reads as the `m` of the call and is no local
abbrev pub is_m : List ℕ → Bool
is_m [] = false
is_m (b ∷ []) = b == 109
is_m (b ∷ c ∷ bs) = false
