-- How pieces are written. Each choice that a writer has is in a record, the bytes are a function of it, and a further definition says which
-- records count.
use Rattle.std.specs.Prelude.{◌≡◌, ◌≢◌, ℕ, ◌+◌, ◌-◌, ◌*◌, Bool, true, false, not, ◌&&◌, ◌||◌, ◌==◌, nat_le, List, [], ◌∷◌, ◌++◌, map, codes, Some, None, Option, if◌then◌else◌}
use Rattle.std.specs.List.{flat_map, list_all, list_any}
use Rattle.std.specs.Str.{bytes_eq, is_utf8}
use Rattle.std.specs.Char.{encode_utf8}
use lib.Utf8.{scalar}
use Rattle.xml_pieces.specs.declared.piece.AttributeText.{AttributeText}
use Rattle.xml_pieces.specs.declared.piece.Tag.{Tag}
use Rattle.xml_pieces.specs.declared.piece.Piece.{Piece}
use Rattle.xml_pieces.specs.declared.piece.Piece.TheVariants as piece

-- ---- classes of bytes

-- space, tab, carriage return and line feed
unfoldable pub is_space : ℕ → Bool
is_space b = b == 32 || b == 9 || b == 13 || b == 10

-- what a tag's name has: ASCII letters, digits, _ - and .
unfoldable pub is_name_byte : ℕ → Bool
is_name_byte b = (nat_le 97 b && nat_le b 122) || (nat_le 65 b && nat_le b 90) || (nat_le 48 b && nat_le b 57) || b == 95 || b == 45 || b == 46

-- an attribute's name may have colons too
unfoldable pub is_attribute_byte : ℕ → Bool
is_attribute_byte b = is_name_byte b || b == 58

unfoldable pub is_quote : ℕ → Bool
is_quote b = b == 34 || b == 39

-- any byte but this one
unfoldable pub differs : ℕ → ℕ → Bool
differs c b = not (b == c)

unfoldable pub is_decimal : ℕ → Bool
is_decimal b = nat_le 48 b && nat_le b 57

unfoldable pub is_hexadecimal : ℕ → Bool
is_hexadecimal b = (nat_le 48 b && nat_le b 57) || (nat_le 65 b && nat_le b 70) || (nat_le 97 b && nat_le b 102)

-- ---- attribute values

-- what a digit of a class above stands for
abbrev pub digit : ℕ → ℕ
digit b = if nat_le b 57 then b - 48 else if nat_le b 70 then b - 55 else b - 87

-- the number that digits go on to
abbrev pub numeral : ℕ → ℕ → List ℕ → ℕ
numeral radix n [] = n
numeral radix n (d ∷ ds) = numeral radix (n * radix + digit d) ds

-- a stretch of a value: a byte that stands for itself, one of the five entities, or a reference to a character by its number
pub data Stretch : Type 0 where
  Plain : ℕ → Stretch
  Less : Stretch
  Greater : Stretch
  Ampersand : Stretch
  Quote : Stretch
  Apostrophe : Stretch
  Decimal : List ℕ → Stretch
  Hexadecimal : List ℕ → Stretch

-- how a stretch is written
abbrev pub stretch : Stretch → List ℕ
stretch (Plain b) = b ∷ []
stretch Less = 38 ∷ codes "lt;"
stretch Greater = 38 ∷ codes "gt;"
stretch Ampersand = 38 ∷ codes "amp;"
stretch Quote = 38 ∷ codes "quot;"
stretch Apostrophe = 38 ∷ codes "apos;"
stretch (Decimal digits) = 38 ∷ 35 ∷ (digits ++ 59 ∷ [])
stretch (Hexadecimal digits) = 38 ∷ 35 ∷ 120 ∷ (digits ++ 59 ∷ [])

-- the bytes of the value that it stands for
abbrev pub meant : Stretch → List ℕ
meant (Plain b) = b ∷ []
meant Less = 60 ∷ []
meant Greater = 62 ∷ []
meant Ampersand = 38 ∷ []
meant Quote = 34 ∷ []
meant Apostrophe = 39 ∷ []
meant (Decimal digits) = encode_utf8 (numeral 10 0 digits)
meant (Hexadecimal digits) = encode_utf8 (numeral 16 0 digits)

abbrev pub is_empty : List ℕ → Bool
is_empty [] = true
is_empty (b ∷ bs) = false

-- < and & do not stand for themselves, and a number is that of a character
abbrev pub is_allowed : Stretch → Bool
is_allowed (Plain b) = not (b == 60) && not (b == 38)
is_allowed Less = true
is_allowed Greater = true
is_allowed Ampersand = true
is_allowed Quote = true
is_allowed Apostrophe = true
is_allowed (Decimal digits) = not (is_empty digits) && list_all is_decimal digits && scalar (numeral 10 0 digits)
is_allowed (Hexadecimal digits) = not (is_empty digits) && list_all is_hexadecimal digits && scalar (numeral 16 0 digits)

-- ---- tags

pub record WrittenAttribute : Type 0 where
  pub gap : List ℕ
  pub name : List ℕ
  pub before : List ℕ
  pub after : List ℕ
  pub quote : ℕ
  pub value : List Stretch

-- white space, the name, = with white space round it, and the value in quotes
abbrev pub attribute : WrittenAttribute → List ℕ
attribute a = a.gap ++ (a.name ++ (a.before ++ 61 ∷ (a.after ++ a.quote ∷ (flat_map stretch a.value ++ a.quote ∷ []))))

pub record IsAttribute (a : WrittenAttribute) : Type 0 where
  pub gap : list_all is_space a.gap ≡ true
  pub some_gap : a.gap ≢ []
  pub name : list_all is_attribute_byte a.name ≡ true
  pub some_name : a.name ≢ []
  pub before : list_all is_space a.before ≡ true
  pub after : list_all is_space a.after ≡ true
  pub quote : is_quote a.quote ≡ true
  pub value : list_all (differs a.quote) (flat_map stretch a.value) ≡ true
  pub allowed : list_all is_allowed a.value ≡ true
  pub utf8 : is_utf8 (flat_map meant a.value) ≡ true

abbrev pub attribute_of : WrittenAttribute → AttributeText
attribute_of a = record { name = a.name; value = flat_map meant a.value }

-- names as written
abbrev pub same : List ℕ → List ℕ → Bool
same = bytes_eq

abbrev pub has_name : List AttributeText → List ℕ → Bool
has_name all name = list_any (λ a. same a.name name) all

-- no two attributes have one name
abbrev pub are_distinct : List AttributeText → Bool
are_distinct [] = true
are_distinct (a ∷ more) = not (has_name more a.name) && are_distinct more

pub record WrittenTag : Type 0 where
  pub name : List ℕ
  pub attributes : List WrittenAttribute
  pub space : List ℕ
  pub empty : Bool

abbrev pub close_of : Bool → List ℕ
close_of true = codes "/>"
close_of false = codes ">"

-- a tag behind its <
abbrev pub tag : WrittenTag → List ℕ
tag t = t.name ++ (flat_map attribute t.attributes ++ (t.space ++ close_of t.empty))

abbrev pub AreAttributes : List WrittenAttribute → Type 0
AreAttributes [] = Unit {0}
AreAttributes (a ∷ more) = IsAttribute a × AreAttributes more

pub record IsTag (t : WrittenTag) : Type 0 where
  pub name : list_all is_name_byte t.name ≡ true
  pub some_name : t.name ≢ []
  pub attributes : AreAttributes t.attributes
  pub distinct : are_distinct (map attribute_of t.attributes) ≡ true
  pub space : list_all is_space t.space ≡ true

abbrev pub tag_of : WrittenTag → Tag
tag_of t = record { name = t.name; attributes = map attribute_of t.attributes }

-- ---- pieces

pub data Written : Type 0 where
  -- what a <?xml piece holds
  Declaration : List ℕ → Written
  Comment : List ℕ → Written
  Section : List ℕ → Written
  Opening : WrittenTag → Written
  -- the name, and the white space behind it
  Closing : List ℕ → List ℕ → Written
  -- the text between two tags
  Between : List ℕ → Written

abbrev pub spelled : Written → List ℕ
spelled (Declaration inside) = codes "<?xml" ++ (inside ++ codes "?>")
spelled (Comment inside) = codes "<!--" ++ (inside ++ codes "-->")
spelled (Section inside) = codes "<![CDATA[" ++ (inside ++ codes "]]>")
spelled (Opening t) = 60 ∷ tag t
spelled (Closing name space) = codes "</" ++ (name ++ (space ++ codes ">"))
spelled (Between text) = text

-- the rest behind a mark at the front
unfoldable pub strip : List ℕ → List ℕ → Option (List ℕ)
strip [] bs = Some bs
strip (c ∷ cs) [] = None
strip (c ∷ cs) (b ∷ bs) = if b == c then strip cs bs else None

-- the mark behind the bytes is the first one in them and it together
abbrev pub EndsFirst : List ℕ → List ℕ → Type 0
EndsFirst mark [] = Unit {0}
EndsFirst mark (b ∷ bs) = (strip mark (b ∷ (bs ++ mark)) ≡ None) × EndsFirst mark bs

-- which pieces count
abbrev pub IsWritten : Written → Type 0
IsWritten (Declaration inside) = EndsFirst (codes "?>") inside × (is_utf8 inside ≡ true)
IsWritten (Comment inside) = EndsFirst (codes "-->") inside × (is_utf8 inside ≡ true)
IsWritten (Section inside) = EndsFirst (codes "]]>") inside × (is_utf8 inside ≡ true)
IsWritten (Opening t) = IsTag t
IsWritten (Closing name space) = (list_all is_name_byte name ≡ true) × (name ≢ []) × (list_all is_space space ≡ true)
IsWritten (Between text) = (list_all (differs 60) text ≡ true) × (text ≢ []) × (is_utf8 text ≡ true)

abbrev pub MayStop : List ℕ → Type 0
MayStop [] = Unit {0}
MayStop (b ∷ bs) = differs 60 b ≡ false

-- what a piece may stand before: text ends at a < or at the end
abbrev pub MayPrecede : Written → List ℕ → Type 0
MayPrecede (Declaration inside) rest = Unit {0}
MayPrecede (Comment inside) rest = Unit {0}
MayPrecede (Section inside) rest = Unit {0}
MayPrecede (Opening t) rest = Unit {0}
MayPrecede (Closing name space) rest = Unit {0}
MayPrecede (Between text) rest = MayStop rest

abbrev pub opening_of : Bool → Tag → Piece
opening_of true t = piece.Empty t
opening_of false t = piece.Start t

abbrev pub text_of : Bool → Piece
text_of true = piece.Blank
text_of false = piece.Stray

-- what a written piece says
abbrev pub piece_of : Written → Piece
piece_of (Declaration inside) = piece.Declaration
piece_of (Comment inside) = piece.Comment
piece_of (Section inside) = piece.Data inside
piece_of (Opening t) = opening_of t.empty (tag_of t)
piece_of (Closing name space) = piece.End name
piece_of (Between text) = text_of (list_all is_space text)

-- a text is cut into pieces, up to a rest
abbrev pub Cut : List ℕ → List Written → List ℕ → Type 0
Cut text [] rest = text ≡ rest
Cut text (w ∷ more) rest = (behind : List ℕ) × (text ≡ spelled w ++ behind) × IsWritten w × MayPrecede w behind × Cut behind more rest

-- a piece stands at the front of a text, before a rest
pub record StandsFirst (text : List ℕ) (p : Piece) (rest : List ℕ) : Type 0 where
  pub written : Written
  pub whole : text ≡ spelled written ++ rest
  pub good : IsWritten written
  pub stops : MayPrecede written rest
  pub same : piece_of written ≡ p
