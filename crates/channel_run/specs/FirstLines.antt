-- What the lines of one Main trace, line by line, where so many steps may be made.
use Rattle.std.specs.Prelude.{ℕ, ◌+◌, ◌-◌, ◌*◌, ℤ, Bool, ◌&&◌, ◌==◌, List, [], ◌∷◌, ◌++◌, length, fold, flat_map, codes, nat_le, nat_lt, if◌then◌else◌, sum_by, Option, Some, None}
use Rattle.std.specs.Str.{bytes_eq}
use Rattle.first_form.specs.declared.tree.Line.{Line}
use Rattle.first_form.specs.declared.tree.Line.TheVariants as line
use Rattle.first_form.specs.declared.tree.PrintItem.{PrintItem}
use Rattle.first_form.specs.declared.tree.PrintItem.TheVariants as item
use Rattle.first_form.specs.declared.tree.Operand.{Operand}
use Rattle.first_form.specs.declared.tree.Operand.TheVariants as operand
use Rattle.first_form.specs.declared.tree.Sum.{Sum}
use Rattle.chan_values.specs.declared.end_reason.EndReason.{EndReason}
use Rattle.chan_values.specs.declared.end_reason.EndReason.TheVariants as reason
use Rattle.chan_values.specs.declared.event.Event.{Event}
use Rattle.chan_values.specs.declared.event.Event.TheVariants.{Key, Turn, Round, Expire}
use Rattle.trace_report.specs.TraceText.{print_line, ended_line}
use Rattle.channel_run.specs.FirstMeaning.{Integer, signed_sum, shown}

-- the number of each local
abbrev pub Numbers : Type 0
Numbers = List ℕ → ℤ

abbrev pub operand_number : Numbers → Operand → ℤ
operand_number numbers (operand.Number n) = n
operand_number numbers (operand.Name name) = numbers name

abbrev pub sum_number : Numbers → Sum → ℤ
sum_number numbers sum =
    fold (λ n term. signed_sum term.sign n (operand_number numbers term.operand)) (operand_number numbers sum.first) sum.more

abbrev pub item_text : Numbers → PrintItem → List ℕ
item_text numbers (item.Words words) = words
item_text numbers (item.Sum sum) = shown (Integer (sum_number numbers sum))

abbrev pub items_text : Numbers → List PrintItem → List ℕ
items_text numbers items = flat_map (item_text numbers) items

abbrev pub line_text : Numbers → Line → List ℕ
line_text numbers (line.Assign name sum) = []
line_text numbers (line.Print items) = print_line 1 (items_text numbers items)

abbrev pub set_number : Numbers → List ℕ → ℤ → Numbers
set_number numbers name number other = if bytes_eq name other then number else numbers other

abbrev pub numbers_after : Numbers → Line → Numbers
numbers_after numbers (line.Assign name sum) = set_number numbers name (sum_number numbers sum)
numbers_after numbers (line.Print items) = numbers

-- an operand takes a step, and so does each sign
abbrev pub sum_steps : Sum → ℕ
sum_steps sum = 2 * length sum.more + 1

abbrev pub item_steps : PrintItem → ℕ
item_steps (item.Words words) = 1
item_steps (item.Sum sum) = sum_steps sum

abbrev pub line_steps : Line → ℕ
line_steps (line.Assign name sum) = sum_steps sum + 1
line_steps (line.Print items) = sum_by item_steps items + 1

-- what is traced where this many steps may be made
abbrev pub lines_text : ℕ → Numbers → List Line → List ℕ
lines_text left numbers [] = if nat_lt 0 left then ended_line 1 else []
lines_text left numbers (line ∷ lines) =
    if nat_le (line_steps line) left
    then line_text numbers line ++ lines_text (left - line_steps line) (numbers_after numbers line) lines
    else []

-- whether the body ends in so many steps
abbrev pub lines_end : ℕ → List Line → Bool
lines_end left [] = nat_lt 0 left
lines_end left (line ∷ lines) = nat_le (line_steps line) left && lines_end (left - line_steps line) lines

-- how a run ends by whether its body does, and by whether more steps are asked for than there may be
abbrev pub reason_of : Bool → Bool → Option EndReason
reason_of ends over = if ends then Some reason.Main else (if over then Some reason.Steps else None)

-- how many steps an event asks Main's actor for
abbrev pub asked_by : Event → ℕ
asked_by (Key key pressed) = 0
asked_by (Turn actor n) = if actor == 1 then n else 0
asked_by (Round n) = n
asked_by (Expire actor) = 0
