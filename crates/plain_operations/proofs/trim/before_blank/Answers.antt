use Rattle.std.proofs.Common.{None, lit<}
use Rattle.std.proofs.lemmas.Str.Pattern.{strip_suffix_char}
use Rattle.plain_operations.proofs.Blanks.{tab_end}
use Rattle.plain_operations.proofs.trim.before_blank.Goals as goal

pub returns-in-None : goal.returns-in-None
returns-in-None c =
    tab_end c.args.s.now c.strip_suffix-in-None.result (strip_suffix_char 32 c.args.s.now None c.in-None.ensures.cases (lit< tt)) (strip_suffix_char 9 c.args.s.now c.strip_suffix-in-None.result c.strip_suffix-in-None.ensures.cases (lit< tt))
