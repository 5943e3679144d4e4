use Rattle.std.proofs.Common.{◌≡◌, true, IsUtf8, sym, ◌∙◌, ap, subst}
use Rattle.std.proofs.lemmas.Bool.{both_ways}
use Rattle.script_text.specs.Numbers.{is_plain}
use Rattle.script_text.proofs.NumbersLemmas.{IsUtf8-decimal, decimal-plain, parsed_spelled, parsed_found}
use Rattle.script_text.proofs.number.read_number.Goals as goal

pub returns-then-not-is_plain-clause-found : goal.returns-then-not-is_plain-clause-found
returns-then-not-is_plain-clause-found c number small is =
    let plain : is_plain c.args.text.now ≡ true = ap is_plain is ∙ decimal-plain number small in
    absurd (both_ways _ c.if-not-is_plain.true (c.is_plain.ensures ∙ plain))

pub returns-in-Ok-clause-spelled : goal.returns-in-Ok-clause-spelled
returns-in-Ok-clause-spelled c =
    let plain : is_plain c.args.text.now ≡ true = cc in
    parsed_spelled _ _ c.parse.result c.ok.result plain c.in-Ok.ensures.cases.0 c.parse.ensures.value.0 c.ok.ensures.value

pub returns-in-Ok-clause-found : goal.returns-in-Ok-clause-found
returns-in-Ok-clause-found c number small is =
    parsed_found _ _ c.parse.result c.ok.result number c.in-Ok.ensures.cases.0 c.parse.ensures.value.0 c.ok.ensures.value small is

pub returns-in-Err-clause-found : goal.returns-in-Err-clause-found
returns-in-Err-clause-found c number small is =
    absurd (c.in-Err.ensures.cases.0 (subst IsUtf8 (sym is) (IsUtf8-decimal number small)))
