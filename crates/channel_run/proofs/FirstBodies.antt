-- The lines of a Main come to what they trace line by line, where each name that they read was set.
use Rattle.std.proofs.Common.{◌≡◌, ℕ, ◌+◌, ◌-◌, ◌*◌, sum, sum_by, Bool, true, false, ◌&&◌, ◌||◌, ℤ, List, [], ◌∷◌, ◌++◌, length, map, fold, flat_map, codes, Option, Some, IsTrue, nat_le, if◌then◌else◌, refl, ap, ◌∙◌, arith}
use Rattle.std.specs.Prelude.{option_and_then}
use Rattle.std.specs.Option.{option_map, option_map_or}
use Rattle.std.specs.List.{list_all}
use Rattle.std.specs.Str.{bytes_eq}
use Rattle.std.proofs.lemmas.List.Sums.{sum_by-cons}
use Rattle.first_form.specs.declared.tree.Line.{Line}
use Rattle.first_form.specs.declared.tree.Line.TheVariants as line
use Rattle.first_form.specs.declared.tree.PrintItem.{PrintItem}
use Rattle.first_form.specs.declared.tree.PrintItem.TheVariants as item
use Rattle.first_form.specs.declared.tree.Operand.{Operand}
use Rattle.first_form.specs.declared.tree.Operand.TheVariants as operand
use Rattle.first_form.specs.declared.tree.Sum.{Sum}
use Rattle.first_form.specs.declared.tree.Term.{Term}
use Rattle.first_form.specs.FirstNames.{is_known, operand_known, sum_known, item_known, names_set}
use Rattle.trace_report.specs.TraceText.{print_line}
use Rattle.channel_run.specs.FirstMeaning.{Value, Form, Operator, Integer, String, Locals, value_of, applied, signed_sum, shown, operand_form, sum_form, item_form, line_statement, printed}
use Rattle.channel_run.specs.FirstLines.{Numbers, operand_number, sum_number, item_text, line_text, numbers_after, sum_steps, item_steps, line_steps, lines_text, lines_end}
use Rattle.channel_run.proofs.FirstSteps.{form_steps, form_value, forms_steps, forms_values, statement_steps, statement_effect, Ready, body_text, body_ends}

and_first : (a b : Bool) → IsTrue (a && b) → IsTrue a
and_first true b h = refl
and_first false b h = h

and_second : (a b : Bool) → IsTrue (a && b) → IsTrue b
and_second true b h = h
and_second false b h = absurd (cc)

-- each known name has its number
abbrev pub Matches : Locals → List (List ℕ) → Numbers → Type 0
Matches locals known numbers = (name : List ℕ) → IsTrue (is_known known name) → value_of locals name ≡ Some (Integer (numbers name))

-- ---- sums

module _ (locals : Locals) (known : List (List ℕ)) (numbers : Numbers) (matches : Matches locals known numbers) where
  operand_value : (operand : Operand) → IsTrue (operand_known known operand) → form_value locals (operand_form operand) ≡ Some (Integer (operand_number numbers operand))
  operand_value (operand.Number n) h = refl
  operand_value (operand.Name name) h = matches name h

  terms_value : (terms : List Term) (form : Form) (n : ℤ) → form_value locals form ≡ Some (Integer n) → IsTrue (list_all (λ term. operand_known known term.operand) terms)
      → form_value locals (fold (λ left term. Operator term.sign left (operand_form term.operand)) form terms) ≡ Some (Integer (fold (λ n term. signed_sum term.sign n (operand_number numbers term.operand)) n terms))
  terms_value [] form n h all = h
  terms_value (term ∷ terms) form n h all =
      let here = operand_value term.operand (and_first _ _ all) in
      terms_value terms (Operator term.sign form (operand_form term.operand)) (signed_sum term.sign n (operand_number numbers term.operand))
      (ap (option_and_then (λ x. option_and_then (λ y. applied term.sign x y) (form_value locals (operand_form term.operand)))) h ∙ ap (option_and_then (applied term.sign (Integer n))) here)
      (and_second _ _ all)

  sum_value : (sum : Sum) → IsTrue (sum_known known sum) → form_value locals (sum_form sum) ≡ Some (Integer (sum_number numbers sum))
  sum_value sum h = terms_value sum.more (operand_form sum.first) (operand_number numbers sum.first) (operand_value sum.first (and_first _ _ h)) (and_second _ _ h)

  item_value : (item : PrintItem) → IsTrue (item_known known item) → (v : Value) × (form_value locals (item_form item) ≡ Some v) × (shown v ≡ item_text numbers item)
  item_value (item.Words words) h = (String words, refl, refl)
  item_value (item.Sum sum) h = (Integer (sum_number numbers sum), sum_value sum h, refl)

  items_values : (items : List PrintItem) → IsTrue (list_all (item_known known) items) → (values : List Value) × (forms_values locals (map item_form items) ≡ Some values) × (flat_map shown values ≡ flat_map (item_text numbers) items)
  items_values [] h = ([], refl, refl)
  items_values (item ∷ items) h =
      let head = item_value item (and_first _ _ h) in
      let tail = items_values items (and_second _ _ h) in (
        head.0 ∷ tail.0,
        ap (option_and_then (λ v. option_map (λ values. v ∷ values) (forms_values locals (map item_form items)))) head.1 ∙ ap (option_map (λ values. head.0 ∷ values)) tail.1,
        ap (λ t. t ++ flat_map shown tail.0) head.2 ∙ ap (λ t. item_text numbers item ++ t) tail.2,
      )

-- ---- the steps of sums

operand_one : (operand : Operand) → form_steps (operand_form operand) ≡ 1
operand_one (operand.Number n) = refl
operand_one (operand.Name name) = refl

terms_steps : (terms : List Term) (form : Form) → form_steps (fold (λ left term. Operator term.sign left (operand_form term.operand)) form terms) ≡ form_steps form + 2 * length terms
terms_steps [] form = omega arith
terms_steps (term ∷ terms) form = omega (arith, terms_steps terms (Operator term.sign form (operand_form term.operand)), operand_one term.operand)

sum_form_steps : (sum : Sum) → form_steps (sum_form sum) ≡ sum_steps sum
sum_form_steps sum = omega (arith, terms_steps sum.more (operand_form sum.first), operand_one sum.first)

item_form_steps : (item : PrintItem) → form_steps (item_form item) ≡ item_steps item
item_form_steps (item.Words words) = refl
item_form_steps (item.Sum sum) = sum_form_steps sum

items_form_steps : (items : List PrintItem) → forms_steps (map item_form items) ≡ sum_by item_steps items
items_form_steps [] = refl
items_form_steps (item ∷ items) = omega (arith, sum_by-cons item_steps item items, item_form_steps item, items_form_steps items)

line_statement_steps : (line : Line) → statement_steps (line_statement line) ≡ line_steps line
line_statement_steps (line.Assign name sum) = omega (arith, sum_form_steps sum)
line_statement_steps (line.Print items) = omega (arith, items_form_steps items)

-- ---- lines

-- what a statement of a line does, where its names are known
pub record LineComes (locals : Locals) (known : List (List ℕ)) (numbers : Numbers) (line : Line) : Type 0 where
  pub after : Locals
  pub effect : statement_effect locals (line_statement line) ≡ Some (after, line_text numbers line)
  pub matches : Matches after known (numbers_after numbers line)

set_cases : (b r : Bool) (o : Option Value) (n m : ℤ) → IsTrue (b || r) → (IsTrue r → o ≡ Some (Integer m)) → (if b then Some (Integer n) else o) ≡ Some (Integer (if b then n else m))
set_cases true r o n m known old = refl
set_cases false r o n m known old = old known

assign_comes : (locals : Locals) (known : List (List ℕ)) (numbers : Numbers) → Matches locals known numbers → (name : List ℕ) (sum : Sum) → IsTrue (sum_known known sum) → LineComes locals (name ∷ known) numbers (line.Assign name sum)
assign_comes locals known numbers matches name sum h = record {
  after = (name, Integer (sum_number numbers sum)) ∷ locals;
  effect = ap (option_map (λ v. ((name, v) ∷ locals, []))) (sum_value locals known numbers matches sum h);
  matches = λ other is. set_cases (bytes_eq name other) (is_known known other) (value_of locals other) (sum_number numbers sum) (numbers other) is (matches other);
}

print_comes : (locals : Locals) (known : List (List ℕ)) (numbers : Numbers) → Matches locals known numbers → (items : List PrintItem) → IsTrue (list_all (item_known known) items) → LineComes locals known numbers (line.Print items)
print_comes locals known numbers matches items h =
    let values = items_values locals known numbers matches items h in
    record {
      after = locals;
      effect = ap (option_map (λ values. (locals, printed values))) values.1 ∙ ap (λ t. Some (locals, print_line 1 t)) values.2;
      matches = matches;
    }

-- what the statements of the lines do
pub record LinesCome (locals : Locals) (numbers : Numbers) (lines : List Line) : Type 0 where
  pub ready : Ready locals (map line_statement lines)
  pub text : (k : ℕ) → body_text k locals (map line_statement lines) ≡ lines_text k numbers lines
  pub ends : (k : ℕ) → body_ends k locals (map line_statement lines) ≡ lines_end k lines

if_and : (a b : Bool) → (if a then b else false) ≡ (a && b)
if_and true b = refl
if_and false b = refl

one_more_line : (locals : Locals) (known : List (List ℕ)) (numbers : Numbers) (line : Line) (lines : List Line) (comes : LineComes locals known numbers line)
    → LinesCome comes.after (numbers_after numbers line) lines → LinesCome locals numbers (line ∷ lines)
one_more_line locals known numbers line lines comes rest =
    let steps = line_statement_steps line in
    record {
      ready = ((comes.after, line_text numbers line), comes.effect, rest.ready);
      text = λ k.
          ap (λ o. option_map_or (λ effect. if nat_le (statement_steps (line_statement line)) k then effect.1 ++ body_text (k - statement_steps (line_statement line)) effect.0 (map line_statement lines) else []) o []) comes.effect
          ∙ ap (λ c. if nat_le c k then line_text numbers line ++ body_text (k - c) comes.after (map line_statement lines) else []) steps
          ∙ ap (λ t. if nat_le (line_steps line) k then line_text numbers line ++ t else []) (rest.text (k - line_steps line));
      ends = λ k.
          ap (λ o. option_map_or (λ effect. if nat_le (statement_steps (line_statement line)) k then body_ends (k - statement_steps (line_statement line)) effect.0 (map line_statement lines) else false) o false) comes.effect
          ∙ ap (λ c. if nat_le c k then body_ends (k - c) comes.after (map line_statement lines) else false) steps
          ∙ ap (λ t. if nat_le (line_steps line) k then t else false) (rest.ends (k - line_steps line))
          ∙ if_and (nat_le (line_steps line) k) (lines_end (k - line_steps line) lines);
    }

lines_come : (locals : Locals) (known : List (List ℕ)) (numbers : Numbers) (lines : List Line) → Matches locals known numbers → IsTrue (names_set known lines) → LinesCome locals numbers lines
lines_come locals known numbers [] matches h = record { ready = tt; text = λ k. refl; ends = λ k. refl }
lines_come locals known numbers (line.Assign name sum ∷ lines) matches h =
    let comes = assign_comes locals known numbers matches name sum (and_first _ _ h) in
    one_more_line locals (name ∷ known) numbers (line.Assign name sum) lines comes
    (lines_come comes.after (name ∷ known) (numbers_after numbers (line.Assign name sum)) lines comes.matches (and_second _ _ h))
lines_come locals known numbers (line.Print items ∷ lines) matches h =
    let comes = print_comes locals known numbers matches items (and_first _ _ h) in
    one_more_line locals known numbers (line.Print items) lines comes
    (lines_come comes.after known numbers lines comes.matches (and_second _ _ h))

-- the lines of a Main, before any local is set
pub main_comes : (lines : List Line) (numbers : Numbers) → IsTrue (names_set [] lines) → LinesCome [] numbers lines
main_comes lines numbers h = lines_come [] [] numbers lines (λ name is. absurd (cc)) h
