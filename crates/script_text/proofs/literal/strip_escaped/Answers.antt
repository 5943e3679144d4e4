use Rattle.std.proofs.Common.{sym, ◌∙◌}
use Rattle.script_text.proofs.LiteralsLemmas.{strips, escaped_plain, escaped_other}
use Rattle.script_text.proofs.literal.strip_escaped.Goals as goal

pub returns-then-is_ascii_alphanumeric : goal.returns-then-is_ascii_alphanumeric
returns-then-is_ascii_alphanumeric c =
    strips c.args.text.now _ _ c.strip_prefix.result (escaped_plain c.args.byte (sym c.if-is_ascii_alphanumeric.ensures.value)) c.strip_prefix.ensures.cases

pub returns-else-is_ascii_alphanumeric : goal.returns-else-is_ascii_alphanumeric
returns-else-is_ascii_alphanumeric c =
    let is = c.as_bytes.ensures.value ∙ c.percent_encode_byte.ensures in
    strips c.args.text.now _ _ c.strip_prefix-else-is_ascii_alphanumeric.result (is ∙ escaped_other c.args.byte (sym c.if-is_ascii_alphanumeric.ensures.value)) c.strip_prefix-else-is_ascii_alphanumeric.ensures.cases
