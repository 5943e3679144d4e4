use Rattle.std.proofs.Common.{◌∙◌}
use Rattle.first_form.proofs.AsciiBytes.{number_value-from_parse}
use Rattle.first_form.proofs.words.parsed.Goals as goal

pub returns : goal.returns
returns c = c.ok.ensures.value ∙ number_value-from_parse _ c.args.digits.now c.parse.result c.parse.ensures.value.0 c.requires
