use Rattle.std.proofs.Common.{sym}
use Rattle.xml_pieces.proofs.Characters.{is_text, no_text}
use Rattle.xml_pieces.proofs.texts.is_utf8.Goals as goal

pub returns-in-Ok : goal.returns-in-Ok
returns-in-Ok c = sym (is_text c.args.bytes.now c.in-Ok.ensures.cases.1)

pub returns-in-Err : goal.returns-in-Err
returns-in-Err c = sym (no_text c.args.bytes.now c.in-Err.ensures.cases.0)
