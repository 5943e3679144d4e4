use Rattle.std.proofs.lemmas.Str.{IsUtf8-from_ascii}
use Rattle.first_form.proofs.AsciiBytes.{all_ascii-from_IsAscii, all_ascii-from_IsNotAscii}
use Rattle.first_form.proofs.words.ascii_text.Goals as goal

pub unreachable-requires : goal.unreachable-requires
unreachable-requires c = c.in-Err.ensures.cases.0 (IsUtf8-from_ascii c.args.bytes.now c.if-not-is_ascii.ensures.cases)

pub returns : goal.returns
returns c = (c.in-Ok.ensures.cases.0, all_ascii-from_IsAscii c.args.bytes.now c.if-not-is_ascii.ensures.cases)

pub returns-then-not-is_ascii : goal.returns-then-not-is_ascii
returns-then-not-is_ascii c = all_ascii-from_IsNotAscii c.args.bytes.now c.if-not-is_ascii.ensures.cases
