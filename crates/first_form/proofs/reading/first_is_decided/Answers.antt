use Rattle.first_form.proofs.FirstRules.{first_sound, first_complete}
use Rattle.first_form.proofs.reading.first_is_decided.Goals as goal

pub returns : goal.returns
returns c ts tree = (first_complete ts tree, first_sound ts tree)
