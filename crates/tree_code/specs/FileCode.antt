-- The code of each statement of a tree, and of a file.
use Rattle.std.specs.Prelude.{ℕ, List, map}
use Rattle.chan_values.specs.Folded.{folded}
use Rattle.brs_grammar.specs.declared.tree.BlockArm.{BlockArm}
use Rattle.brs_grammar.specs.declared.tree.FileTree.{FileTree}
use Rattle.brs_grammar.specs.declared.tree.LineArm.{LineArm}
use Rattle.brs_grammar.specs.declared.tree.NamedFunction.{NamedFunction}
use Rattle.brs_grammar.specs.declared.tree.Parameter.{Parameter, out-Parameter}
use Rattle.brs_grammar.specs.declared.tree.Simple.{Simple}
use Rattle.brs_grammar.specs.declared.tree.Statement.{Statement}
use Rattle.brs_grammar.specs.View.{todos, simple_of, statement_of, block_arm_of, line_arm_of, named_of}
use Rattle.code_relation.specs.Heads.{value_type}
use Rattle.code_relation.specs.declared.exits.Exits.{Exits}
use Rattle.code_drafts.specs.declared.draft.Draft.{Draft}
use Rattle.code_drafts.specs.declared.draft.DraftParameter.{DraftParameter}
use Rattle.code_drafts.specs.DraftCode.{step_code, todo_code, function_draft}
use Rattle.code_drafts.specs.StatementCode.{choice_code, choices_code}

-- ---- statements, where an `exit` from behind them leads as x says

abbrev pub simple_code : Exits → Simple → List Draft
simple_code x s = step_code x (simple_of s)

abbrev pub statement_code : Exits → Statement → List Draft
statement_code x s = step_code x (statement_of s)

abbrev pub run_code : Exits → List Simple → List Draft
run_code x ss = todo_code x (todos (map simple_of ss))

abbrev pub block_code : Exits → List Statement → List Draft
block_code x ss = todo_code x (todos (map statement_of ss))

-- ---- arms in front of what follows where none is taken

abbrev pub block_arm_code : Exits → BlockArm → List Draft → List Draft
block_arm_code x a rest = choice_code x (block_arm_of a) rest

abbrev pub block_arms_code : Exits → List BlockArm → List Draft → List Draft
block_arms_code x arms rest = choices_code x (map block_arm_of arms) rest

abbrev pub line_arm_code : Exits → LineArm → List Draft → List Draft
line_arm_code x a rest = choice_code x (line_arm_of a) rest

abbrev pub line_arms_code : Exits → List LineArm → List Draft → List Draft
line_arms_code x arms rest = choices_code x (map line_arm_of arms) rest

-- ---- functions

-- a parameter before so many instructions
abbrev pub parameter_draft : Parameter → (after : ℕ) → DraftParameter
parameter_draft x after = record { name = folded (out-Parameter x).name.text; kind = value_type (out-Parameter x).kind; after = after }

abbrev pub named_draft : NamedFunction → Draft
named_draft f = let n = named_of f in function_draft n.place.line n.callee

-- the named functions of a file in their order
abbrev pub file_drafts : FileTree → List Draft
file_drafts tree = map named_draft tree.functions
