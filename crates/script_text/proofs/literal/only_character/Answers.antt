use Rattle.std.proofs.Common.{Some, IsUtf8, sym, ap, ◌∙◌, subst}
use Rattle.std.proofs.lemmas.Str.{IsUtf8-encode}
use Rattle.script_text.proofs.LiteralsLemmas.{only_one, not_empty, begins_full}
use Rattle.script_text.proofs.literal.only_character.Goals as goal

pub returns-in_default-clause-found : goal.returns-in_default-clause-found
returns-in_default-clause-found c c' scalar is =
    absurd (c.in_default.ensures.cases.0 (subst IsUtf8 (sym is) (IsUtf8-encode c' scalar)))

pub returns-in-Some-None-clause-found : goal.returns-in-Some-None-clause-found
returns-in-Some-None-clause-found c c' scalar is =
    let text = c.chars-characters.ensures.rest ∙ c.in-Ok.ensures.cases.0 ∙ is in
    ap Some (only_one _ _ c' _ text c.in-Some-None.ensures.steps.0).0

pub returns-in_default-2-clause-found : goal.returns-in_default-2-clause-found
returns-in_default-2-clause-found c c' scalar is =
    let text = c.chars-characters.ensures.rest ∙ c.in-Ok.ensures.cases.0 ∙ is in
    absurd (begins_full _ _ c.in_default-2.field-0-1 c.in_default-2.ensures'.steps.0 (only_one _ _ c' _ text c.in_default-2.ensures.steps.0).1)

pub returns-in_default-2-2-clause-found : goal.returns-in_default-2-2-clause-found
returns-in_default-2-2-clause-found c c' scalar is =
    let text = c.chars-characters.ensures.rest ∙ c.in-Ok.ensures.cases.0 ∙ is in
    let ended = rw c.in_default-2.is-0 at c.next.ensures.steps.0 in
    absurd (not_empty _ c' text ended.0)
