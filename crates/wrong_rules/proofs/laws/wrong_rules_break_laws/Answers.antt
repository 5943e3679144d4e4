use Rattle.wrong_rules.proofs.Broken.{newest_breaks, at_post_breaks, after_stop_breaks, at_delivery_breaks, after_true_breaks, along_children_breaks, back_breaks}
use Rattle.wrong_rules.proofs.laws.wrong_rules_break_laws.Goals as goal

pub returns-clause-newest : goal.returns-clause-newest
returns-clause-newest c = newest_breaks

pub returns-clause-at_post : goal.returns-clause-at_post
returns-clause-at_post c = at_post_breaks

pub returns-clause-after_stop : goal.returns-clause-after_stop
returns-clause-after_stop c = after_stop_breaks

pub returns-clause-at_delivery : goal.returns-clause-at_delivery
returns-clause-at_delivery c = at_delivery_breaks

pub returns-clause-after_true : goal.returns-clause-after_true
returns-clause-after_true c = after_true_breaks

pub returns-clause-along_children : goal.returns-clause-along_children
returns-clause-along_children c = along_children_breaks

pub returns-clause-back : goal.returns-clause-back
returns-clause-back c = back_breaks
