-- What is read off the front of a text: a value and the rest, or nothing.
use Rattle.std.specs.Prelude.{ℕ, zero, suc, Bool, true, false, ◌==◌, if◌then◌else◌, List, [], ◌∷◌, ◌++◌, length, codes, Some, None, Option}
use Rattle.std.specs.List.{list_all}
use Rattle.std.specs.Str.{is_utf8}
use lib.Utf8.{scalar}
use Rattle.xml_pieces.specs.declared.piece.AttributeText.{AttributeText}
use Rattle.xml_pieces.specs.declared.piece.Tag.{Tag}
use Rattle.xml_pieces.specs.declared.piece.Piece.{Piece}
use Rattle.xml_pieces.specs.declared.piece.Piece.TheVariants as piece
use Rattle.xml_pieces.specs.declared.part.Part.{Part}
use Rattle.xml_pieces.specs.declared.part.Part.TheVariants.{Byte, Char}
use Rattle.xml_pieces.specs.Written.{is_space, is_name_byte, is_attribute_byte, is_quote, differs, is_decimal, is_hexadecimal, numeral, is_empty, are_distinct, strip, opening_of, text_of}
use Rattle.xml_pieces.specs.Parts.{part_bytes}

abbrev pub Outcome : Type 0 → Type 0
Outcome A = Option (A × List ℕ)

abbrev pub Parser : Type 0 → Type 0
Parser A = List ℕ → Outcome A

abbrev pub and_then : {A B : Type 0} → Outcome A → (A → Parser B) → Outcome B
and_then (Some p) f = f p.0 p.1
and_then None f = None

infixl 10 ◌>>=◌
abbrev pub ◌>>=◌ : {A B : Type 0} → Parser A → (A → Parser B) → Parser B
p >>= f = λ bs. and_then (p bs) f

abbrev pub pure : {A : Type 0} → A → Parser A
pure a = λ bs. Some (a, bs)

abbrev pub refuse : {A : Type 0} → Parser A
refuse = λ bs. None

abbrev pub bind : {A B : Type 0} → Option A → (A → Option B) → Option B
bind (Some a) f = f a
bind None f = None

-- the bytes from the front on that pass
unfoldable pub run : (ℕ → Bool) → List ℕ → List ℕ
run test [] = []
run test (b ∷ bs) = if test b then b ∷ run test bs else []

-- what is left behind them
unfoldable pub after : (ℕ → Bool) → List ℕ → List ℕ
after test [] = []
after test (b ∷ bs) = if test b then after test bs else b ∷ bs

abbrev pub any_of : (ℕ → Bool) → Parser (List ℕ)
any_of test = λ bs. Some (run test bs, after test bs)

unfoldable pub some_of : (ℕ → Bool) → Parser (List ℕ)
some_of test = any_of test >>= λ bs. if is_empty bs then refuse else pure bs

-- the first where the mark stands, behind it, else the second
abbrev pub behind : {B : Type 0} → Option (List ℕ) → (List ℕ → B) → B → B
behind (Some rest) f d = f rest
behind None f d = d

unfoldable pub exactly : List ℕ → Parser (Unit {0})
exactly mark bs = behind (strip mark bs) (λ rest. Some (tt, rest)) None

unfoldable pub either_mark : {A : Type 0} → List ℕ → Parser A → Parser A → Parser A
either_mark mark p q = λ bs. behind (strip mark bs) p (q bs)

abbrev pub first : List ℕ → ℕ
first [] = 0
first (b ∷ bs) = b

unfoldable pub one : (ℕ → Bool) → Parser ℕ
one test [] = None
one test (b ∷ bs) = if test b then Some (b, bs) else None

-- bytes that are UTF-8
abbrev pub text_at : List ℕ → Option (List ℕ)
text_at bytes = if is_utf8 bytes then Some bytes else None

abbrev pub checked : {A : Type 0} → List ℕ → (List ℕ → A) → Parser A
checked bytes f rest = bind (text_at bytes) (λ text. Some (f text, rest))

-- ---- values

-- the character of this number
unfoldable pub char_of : ℕ → List ℕ → Option ℕ
char_of radix digits = if scalar (numeral radix 0 digits) then Some (numeral radix 0 digits) else None

abbrev pub digit_test : Bool → ℕ → Bool
digit_test true = is_hexadecimal
digit_test false = is_decimal

abbrev pub radix : Bool → ℕ
radix true = 16
radix false = 10

-- a reference by number, behind its # or #x
unfoldable pub number : Bool → Parser Part
number hex = some_of (digit_test hex) >>= λ digits. exactly (codes ";") >>= λ _ rest. bind (char_of (radix hex) digits) (λ c. Some (Char c, rest))

-- a reference, behind its &
unfoldable pub reference : Parser Part
reference =
    either_mark (codes "lt;") (pure (Byte 60))
    (either_mark (codes "gt;") (pure (Byte 62))
    (either_mark (codes "amp;") (pure (Byte 38))
    (either_mark (codes "quot;") (pure (Byte 34))
    (either_mark (codes "apos;") (pure (Byte 39))
    (either_mark (codes "#x") (number true)
    (either_mark (codes "#") (number false) refuse))))))

unfoldable pub value_part : Parser Part
value_part [] = None
value_part (b ∷ bs) = if b == 60 then None else if b == 38 then reference bs else Some (Byte b, bs)

-- the value that bytes stand for, all of them
unfoldable pub value_from : ℕ → List ℕ → List ℕ → Option (List ℕ)
value_from zero found bs = if is_empty bs then Some found else None
value_from (suc n) found bs = if is_empty bs then Some found else bind (value_part bs) (λ x. value_from n (found ++ part_bytes x.0) x.1)

-- a value between quotes
unfoldable pub quoted : Parser (List ℕ)
quoted =
    one is_quote >>= λ quote. any_of (differs quote) >>= λ raw. exactly (quote ∷ []) >>= λ _ rest.
    bind (value_from (length raw) [] raw) (λ v. bind (text_at v) (λ text. Some (text, rest)))

-- ---- tags

unfoldable pub attribute : Parser AttributeText
attribute = some_of is_attribute_byte >>= λ name. any_of is_space >>= λ _. exactly (codes "=") >>= λ _. any_of is_space >>= λ _. quoted >>= λ v. checked name (λ name. record { name = name; value = v })

-- attributes, each behind white space, and the white space behind them
unfoldable pub attributes_from : ℕ → List AttributeText → Parser (List AttributeText)
attributes_from zero found = pure found
attributes_from (suc n) found =
    any_of is_space >>= λ gap bs.
    if is_attribute_byte (first bs) then (if is_empty gap then None else and_then (attribute bs) (λ a. attributes_from n (found ++ a ∷ [])))
    else Some (found, bs)

unfoldable pub close : Tag → Parser Piece
close t = either_mark (codes "/>") (pure (opening_of true t)) (exactly (codes ">") >>= λ _. pure (opening_of false t))

-- a start tag or an empty tag, behind its <
unfoldable pub opening : Parser Piece
opening =
    some_of is_name_byte >>= λ name bs. and_then (attributes_from (length bs) [] bs)
    (λ all rest. if are_distinct all then bind (text_at name) (λ name. close (record { name = name; attributes = all }) rest) else None)

-- an end tag, behind its </
unfoldable pub closing : Parser Piece
closing = some_of is_name_byte >>= λ name. any_of is_space >>= λ _. exactly (codes ">") >>= λ _. checked name (λ name. piece.End name)

-- ---- pieces

-- the bytes before the first mark, and the rest behind it
unfoldable pub until : List ℕ → Parser (List ℕ)
until mark [] = None
until mark (b ∷ bs) = behind (strip mark (b ∷ bs)) (λ rest. Some ([], rest)) (and_then (until mark bs) (λ more rest. Some (b ∷ more, rest)))

abbrev pub text_until : List ℕ → Parser (List ℕ)
text_until mark = until mark >>= λ inside. checked inside (λ text. text)

unfoldable pub text : Parser Piece
text = some_of (differs 60) >>= λ bs. checked bs (λ text. text_of (list_all is_space text))

unfoldable pub a_piece : Parser Piece
a_piece =
    either_mark (codes "<!--") (text_until (codes "-->") >>= λ _. pure piece.Comment)
    (either_mark (codes "<![CDATA[") (until (codes "]]>") >>= λ inside. checked inside (λ text. piece.Data text))
    (either_mark (codes "<?xml") (text_until (codes "?>") >>= λ _. pure piece.Declaration)
    (either_mark (codes "</") closing
    (either_mark (codes "<") opening text))))
