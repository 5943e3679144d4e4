-- The bytes that a part of a value stands for.
use Rattle.std.specs.Prelude.{ℕ, List, [], ◌∷◌}
use Rattle.std.specs.Char.{encode_utf8}
use Rattle.xml_pieces.specs.declared.part.Part.{Part}
use Rattle.xml_pieces.specs.declared.part.Part.TheVariants.{Byte, Char}

abbrev pub part_bytes : Part → List ℕ
part_bytes (Byte b) = b ∷ []
part_bytes (Char c) = encode_utf8 c
