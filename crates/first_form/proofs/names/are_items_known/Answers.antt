use Rattle.std.proofs.Common.{rules, tests}
use Rattle.std.specs.BTreeSet.{contains_text}
use Rattle.std.proofs.lemmas.Iterator.{YieldsList-from_slice}
use Rattle.std.proofs.lemmas.Iterator.Search.{all_from_yields_List}
use Rattle.first_form.specs.FirstKnown.{item_in}
use Rattle.first_form.proofs.names.are_items_known.Goals as goal

pub returns : goal.returns
returns c =
    all_from_yields_List (item_in (contains_text c.args.known.now)) _ _ _ c.all.ensures.ran (YieldsList-from_slice c.args.items.now cc) (λ x b q k. search (rules, tests))
