-- The text of a refusal.
use Rattle.std.specs.Prelude.{ℕ, Bool, ◌&&◌, ◌||◌, List, [], ◌++◌, codes, decimal, nat_eq, nat_le, if◌then◌else◌, ◌∷◌}
use Rattle.chan_values.specs.declared.folder_fault.FolderFault.{FolderFault}

-- a text, with this before it where it is given
abbrev pub given_text : List ℕ → List ℕ → List ℕ
given_text mark [] = []
given_text mark (byte ∷ bytes) = mark ++ (byte ∷ bytes)

-- a number, with this before it where it is given
abbrev pub given_number : List ℕ → ℕ → List ℕ
given_number mark number = if nat_eq number 0 then [] else mark ++ decimal number

-- whether faults of this number have a last item: a kind of fault, a name, a uri or an id
abbrev pub has_item : ℕ → Bool
has_item number = nat_eq number 5 || nat_eq number 7 || (nat_le 9 number && nat_le number 18)

-- the last item, which may be empty, with a space before it
abbrev pub item_text : Bool → List ℕ → List ℕ
item_text has item = if has then codes " " ++ item else []

-- `refused F` and the number, then what is given of a space and the path, `:` and the line, `:` and the column, and a space and
-- the last item
abbrev pub refusal_text : FolderFault → List ℕ
refusal_text fault =
    codes "refused F" ++ (decimal fault.number
    ++ (given_text (codes " ") fault.path ++ (given_number (codes ":") fault.line
    ++ (given_number (codes ":") fault.column ++ item_text (has_item fault.number) fault.name))))
