use Rattle.std.proofs.Common.{◌≡◌, ap, sym, ◌∙◌}
use Rattle.std.specs.Prelude.{encode_utf8}
use Rattle.std.proofs.lemmas.Bool.{false≢true}
use Rattle.percent_encoding.specs.Percent.{percent_decode}
use Rattle.script_text.specs.Literals.{escaped}
use Rattle.script_text.proofs.LiteralsLemmas.{decode-escaped}
use Rattle.script_text.proofs.literal.read_character.Goals as goal

pub returns-in-Some-clause-found : goal.returns-in-Some-clause-found
returns-in-Some-clause-found c c' scalar is =
    c.in-Some.ensures.found c' scalar (ap percent_decode is ∙ decode-escaped c' scalar)

pub returns-in_default-clause-found : goal.returns-in_default-clause-found
returns-in_default-clause-found c c' scalar is =
    let found = c.in-Some.ensures.found c' scalar (ap percent_decode is ∙ decode-escaped c' scalar) in
    let same : c.in-Some.c ≡ c' = cc in
    absurd (false≢true (c.if-is_escaped.ensures.1 (is ∙ ap (λ d. escaped (encode_utf8 d)) (sym same) ∙ ap escaped (sym (c.as_bytes.ensures.value ∙ c.encode_utf8.ensures.value)))))

pub returns-in_default-2-clause-found : goal.returns-in_default-2-clause-found
returns-in_default-2-clause-found c c' scalar is =
    c.in_default.ensures.found c' scalar (ap percent_decode is ∙ decode-escaped c' scalar)
