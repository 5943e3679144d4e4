-- What the definitions give for a few files, computed.
use Rattle.std.proofs.Common.{◌≡◌, ℕ, true, false, Bool, Some, None, List, [], ◌∷◌, ◌++◌, pos, refl}
use Rattle.std.specs.Prelude.{codes, flat_map}
use Rattle.first_form.specs.declared.tree.FirstMain.{FirstMain}
use Rattle.first_form.specs.declared.tree.Line.TheVariants as line
use Rattle.first_form.specs.declared.tree.PrintItem.TheVariants as item
use Rattle.first_form.specs.declared.tree.Operand.TheVariants as operand
use Rattle.first_form.specs.declared.tree.Sum.{Sum}
use Rattle.first_form.specs.declared.tree.Sign.TheVariants.{Plus, Minus}
use Rattle.std.specs.Fmt.{digits}
use Rattle.chan_values.specs.declared.event.Event.{Event}
use Rattle.chan_values.specs.declared.event.Event.TheVariants.{Key, Turn, Round, Expire}
use Rattle.chan_values.specs.declared.key.Key.TheVariants.{Up}
use Rattle.outside.specs.declared.status.Status.TheVariants as status
use Rattle.channel_run.specs.declared.script.Script.{Script}
use Rattle.channel_run.specs.Answer.{first_text, answer_of}

abbrev empty_main : FirstMain
empty_main = record { lines = [] }

abbrev number : ℕ → Sum
number n = record { first = operand.Number (pos n); more = [] }

abbrev name_x : Sum
name_x = record { first = operand.Name (codes "x"); more = [] }

-- `x = 7` and `print "x="; x; " "; x + 2`
abbrev sums_main : FirstMain
sums_main = record {
  lines = line.Assign (codes "x") (number 7)
      ∷ line.Print (item.Words (codes "x=") ∷ item.Sum name_x ∷ item.Words (codes " ") ∷ item.Sum (record { first = operand.Name (codes "x"); more = (record { sign = Plus; operand = operand.Number (pos 2) }) ∷ [] }) ∷ [])
      ∷ [];
}

-- `print 2147483647 + 1`
abbrev wrapping_main : FirstMain
wrapping_main = record {
  lines = line.Print (item.Sum (record { first = operand.Number (pos 2147483647); more = (record { sign = Plus; operand = operand.Number (pos 1) }) ∷ [] }) ∷ []) ∷ [];
}

abbrev minus_main : FirstMain
minus_main = record {
  lines = line.Print (item.Sum (record { first = operand.Number (pos 0); more = (record { sign = Minus; operand = operand.Number (pos 1) }) ∷ (record { sign = Minus; operand = operand.Number (pos 2) }) ∷ [] }) ∷ []) ∷ [];
}

-- the texts are lines
abbrev lines_text : List (List ℕ) → List ℕ
lines_text lines = flat_map (λ words. words ++ 10 ∷ []) lines

abbrev node : List ℕ
node = codes "node 1 Node owner 0 parent none children none"

abbrev script : List Event → Script
script events = record { events = events; has_bad_line = false }

abbrev bad_after : List Event → Script
bad_after events = record { events = events; has_bad_line = true }

no_events : first_text empty_main (script []) 100 ≡ lines_text (codes "end script" ∷ node ∷ [])
unfolding digits
no_events = refl

one_step : first_text empty_main (script (Turn 1 1 ∷ [])) 100 ≡ lines_text (codes "1 ended" ∷ codes "end main" ∷ node ∷ [])
unfolding digits
one_step = refl

no_step_of_a_turn : first_text empty_main (script (Turn 1 0 ∷ [])) 100 ≡ lines_text (codes "end script" ∷ node ∷ [])
unfolding digits
no_step_of_a_turn = refl

bound_of_none : first_text empty_main (script (Turn 1 1 ∷ [])) 0 ≡ lines_text (codes "end steps" ∷ node ∷ [])
unfolding digits
bound_of_none = refl

bound_of_none_unasked : first_text empty_main (script (Turn 1 0 ∷ Round 0 ∷ Turn 0 1 ∷ [])) 0 ≡ lines_text (codes "end script" ∷ node ∷ [])
unfolding digits
bound_of_none_unasked = refl

eight_steps : first_text sums_main (script (Turn 1 100 ∷ [])) 8 ≡ lines_text (codes "end steps" ∷ node ∷ [])
unfolding digits
eight_steps = refl

nine_steps : first_text sums_main (script (Turn 1 100 ∷ [])) 9 ≡ lines_text (codes "1 print x= 7  9" ∷ codes "end steps" ∷ node ∷ [])
unfolding digits
nine_steps = refl

ten_steps : first_text sums_main (script (Round 100 ∷ [])) 10 ≡ lines_text (codes "1 print x= 7  9" ∷ codes "1 ended" ∷ codes "end main" ∷ node ∷ [])
unfolding digits
ten_steps = refl

-- the bound isn't met where the script asks for no more steps of Main's actor
nine_steps_in_turns : first_text sums_main (script (Turn 1 2 ∷ Round 6 ∷ Expire 1 ∷ Turn 2 9 ∷ Turn 1 1 ∷ Turn 0 3 ∷ [])) 9 ≡ lines_text (codes "1 print x= 7  9" ∷ codes "end script" ∷ node ∷ [])
unfolding digits
nine_steps_in_turns = refl

-- nor where the actor has none left
ten_steps_and_more : first_text sums_main (script (Turn 1 4 ∷ Turn 1 6 ∷ Turn 1 5 ∷ [])) 10 ≡ lines_text (codes "1 print x= 7  9" ∷ codes "1 ended" ∷ codes "end main" ∷ node ∷ [])
unfolding digits
ten_steps_and_more = refl

wrapped : first_text wrapping_main (script (Turn 1 5 ∷ [])) 100 ≡ lines_text (codes "1 print -2147483648" ∷ codes "1 ended" ∷ codes "end main" ∷ node ∷ [])
unfolding digits
wrapped = refl

-- `print 0 - 1 - 2`, from the left
to_the_left : first_text minus_main (script (Turn 1 7 ∷ [])) 100 ≡ lines_text (codes "1 print -3" ∷ codes "1 ended" ∷ codes "end main" ∷ node ∷ [])
unfolding digits
to_the_left = refl

-- before a bad line, and before a key
until_a_bad_line : first_text sums_main (bad_after (Turn 1 9 ∷ [])) 100 ≡ lines_text (codes "1 print x= 7  9" ∷ [])
unfolding digits
until_a_bad_line = refl

until_a_key : first_text sums_main (script (Turn 1 9 ∷ Key Up true ∷ Turn 1 1 ∷ [])) 100 ≡ lines_text (codes "1 print x= 7  9" ∷ [])
unfolding digits
until_a_key = refl

-- a bad line outranks a key and another folder
bad_line_first : answer_of None (bad_after (Turn 1 9 ∷ Key Up true ∷ [])) ≡ status.BadScript 3
bad_line_first = refl

key_not_built : answer_of (Some empty_main) (script (Key Up true ∷ [])) ≡ status.NotYet
key_not_built = refl

folder_not_built : answer_of None (script []) ≡ status.NotYet
folder_not_built = refl

all_built : answer_of (Some empty_main) (script (Expire 0 ∷ [])) ≡ status.Done
all_built = refl
