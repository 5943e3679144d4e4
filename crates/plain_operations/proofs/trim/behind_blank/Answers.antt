use Rattle.std.proofs.Common.{None, lit<}
use Rattle.std.proofs.lemmas.Str.Pattern.{strip_prefix_char}
use Rattle.plain_operations.proofs.Blanks.{tab_first}
use Rattle.plain_operations.proofs.trim.behind_blank.Goals as goal

pub returns-in-None : goal.returns-in-None
returns-in-None c =
    tab_first c.args.s.now c.strip_prefix-in-None.result (strip_prefix_char 32 c.args.s.now None c.in-None.ensures.cases (lit< tt)) (strip_prefix_char 9 c.args.s.now c.strip_prefix-in-None.result c.strip_prefix-in-None.ensures.cases (lit< tt))
