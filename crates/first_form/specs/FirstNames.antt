-- Which locals a line may read.
use Rattle.std.specs.Prelude.{ℕ, Bool, true, ◌&&◌, List, [], ◌∷◌}
use Rattle.std.specs.List.{list_all, list_any}
use Rattle.std.specs.Str.{bytes_eq}
use Rattle.first_form.specs.declared.tree.Line.{Line}
use Rattle.first_form.specs.declared.tree.Line.TheVariants.{Assign, Print}
use Rattle.first_form.specs.declared.tree.PrintItem.{PrintItem}
use Rattle.first_form.specs.declared.tree.PrintItem.TheVariants as item
use Rattle.first_form.specs.declared.tree.Operand.{Operand}
use Rattle.first_form.specs.declared.tree.Operand.TheVariants.{Number, Name}
use Rattle.first_form.specs.declared.tree.Sum.{Sum}

-- the name is among these
abbrev pub is_known : List (List ℕ) → List ℕ → Bool
is_known known name = list_any (λ other. bytes_eq other name) known

abbrev pub operand_known : List (List ℕ) → Operand → Bool
operand_known known (Number n) = true
operand_known known (Name name) = is_known known name

abbrev pub sum_known : List (List ℕ) → Sum → Bool
sum_known known sum = operand_known known sum.first && list_all (λ term. operand_known known term.operand) sum.more

abbrev pub item_known : List (List ℕ) → PrintItem → Bool
item_known known (item.Words words) = true
item_known known (item.Sum sum) = sum_known known sum

-- each name that a line reads is known before it or is the target of an earlier line
abbrev pub names_set : List (List ℕ) → List Line → Bool
names_set known [] = true
names_set known (Assign name sum ∷ lines) = sum_known known sum && names_set (name ∷ known) lines
names_set known (Print items ∷ lines) = list_all (item_known known) items && names_set known lines
