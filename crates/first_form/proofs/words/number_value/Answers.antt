use Rattle.std.proofs.Common.{◌≡◌, true}
use Rattle.std.specs.Str.{all_ascii_digits}
use Rattle.first_form.proofs.AsciiBytes.{all_ascii-from_digits}
use Rattle.first_form.proofs.words.number_value.Goals as goal

pub returns-in-None : goal.returns-in-None
returns-in-None c =
    let digits : all_ascii_digits c.args.digits.now ≡ true = cc in
    let ascii = all_ascii-from_digits c.args.digits.now digits in
    absurd (cc (c.in-None.ensures))
