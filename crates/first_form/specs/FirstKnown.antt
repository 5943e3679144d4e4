-- The condition on names, where a test tells which names are known.
use Rattle.std.specs.Prelude.{ℕ, Bool, true, ◌&&◌, ◌||◌, not, List, [], ◌∷◌, codes}
use Rattle.std.specs.List.{list_all}
use Rattle.std.specs.Str.{bytes_eq}
use Rattle.first_form.specs.declared.tree.Line.{Line}
use Rattle.first_form.specs.declared.tree.Line.TheVariants.{Assign, Print}
use Rattle.first_form.specs.declared.tree.PrintItem.{PrintItem}
use Rattle.first_form.specs.declared.tree.PrintItem.TheVariants as item
use Rattle.first_form.specs.declared.tree.Operand.{Operand}
use Rattle.first_form.specs.declared.tree.Operand.TheVariants.{Number, Name}
use Rattle.first_form.specs.declared.tree.Sum.{Sum}

abbrev pub operand_in : (List ℕ → Bool) → Operand → Bool
operand_in known (Number n) = true
operand_in known (Name name) = known name

abbrev pub sum_in : (List ℕ → Bool) → Sum → Bool
sum_in known sum = operand_in known sum.first && list_all (λ term. operand_in known term.operand) sum.more

abbrev pub item_in : (List ℕ → Bool) → PrintItem → Bool
item_in known (item.Words words) = true
item_in known (item.Sum sum) = sum_in known sum

abbrev pub line_in : (List ℕ → Bool) → Line → Bool
line_in known (Assign target sum) = not (bytes_eq target (codes "m")) && sum_in known sum
line_in known (Print items) = list_all (item_in known) items

-- what is known behind a line
abbrev pub known_after : (List ℕ → Bool) → Line → List ℕ → Bool
known_after known (Assign target sum) name = bytes_eq target name || known name
known_after known (Print items) name = known name

abbrev pub lines_in : (List ℕ → Bool) → List Line → Bool
lines_in known [] = true
lines_in known (line ∷ lines) = line_in known line && lines_in (known_after known line) lines
