-- The code of each part of a statement.
use Rattle.std.specs.Prelude.{ℕ, ◌+◌, List, [], ◌∷◌, ◌++◌, length, map, reverse}
use Rattle.chan_values.specs.Folded.{folded}
use Rattle.brs_grammar.specs.declared.tree.Name.{Name}
use Rattle.brs_grammar.specs.declared.tree.Postfix.{Postfix}
use Rattle.brs_grammar.specs.declared.tree.PrintItem.{PrintItem}
use Rattle.brs_grammar.specs.View.{Aim, Choice, Formal, Tail, Printed, member, index, arguments, semicolon, comma, value, aimed, parameter, params, postfix_of, print_item_of}
use Rattle.brs_grammar.specs.Form.{Params, unnamed}
use Rattle.code_drafts.specs.declared.draft.Draft.{Draft}
use Rattle.code_drafts.specs.declared.draft.DraftParameter.{DraftParameter}
use Rattle.code_relation.specs.declared.exits.Exits.{Exits}
use Rattle.code_drafts.specs.DraftCode.{form_code, forms_code, todo_code, params_code, params_drafts, set_draft, keep_draft, if_code, farther}

-- ---- targets

-- a name with what stands behind it
abbrev pub aim_of : Name → List Postfix → Aim
aim_of x parts = record { place = x.place; name = folded x.text; tails = map postfix_of parts }

abbrev pub set_of : Name → List Postfix → Draft
set_of x parts = let a = aimed (aim_of x parts) in set_draft a.to a.place.line

abbrev pub keep_of : Name → List Postfix → Draft
keep_of x parts = let a = aimed (aim_of x parts) in keep_draft a.to a.place.line

abbrev pub operands_of : Name → List Postfix → List Draft
operands_of x parts = forms_code (aimed (aim_of x parts)).operands

-- what the last part behind a target's name adds to the operands
abbrev pub last_code : Tail → List Draft
last_code (member at x) = []
last_code (index at e) = form_code e
last_code (arguments at es) = forms_code es

-- ---- choices

-- an arm, and what follows where it isn't taken
abbrev pub choice_code : Exits → Choice → List Draft → List Draft
choice_code x c rest = form_code c.condition ++ if_code c.place.line (todo_code (farther (length rest + 1) x) c.body) rest

abbrev pub choices_code : Exits → List Choice → List Draft → List Draft
choices_code x [] rest = rest
choices_code x (c ∷ cs) rest = choice_code x c (choices_code x cs rest)

-- ---- prints

abbrev pub item_code : Printed → List Draft
item_code semicolon = []
item_code comma = []
item_code (value e) = form_code e

abbrev pub print_item_code : PrintItem → List Draft
print_item_code x = item_code (print_item_of x)

-- ---- parameters

-- a parameter of this number, in front of what follows
abbrev pub formal_code : ℕ → Formal → List Draft → List Draft
formal_code n x rest = params_code n (parameter x unnamed) rest

abbrev pub formal_draft : ℕ → Formal → List Draft → List DraftParameter
formal_draft n x rest = params_drafts n (parameter x unnamed) rest
