use Rattle.std.proofs.Common.{sym, ap, ◌∙◌, Some, ◌≡◌}
use Rattle.xml_pieces.proofs.Characters.{is_text, no_text, text_there, text_absent}
use Rattle.xml_pieces.proofs.texts.text_of.Goals as goal

pub returns-in_ok-push_str-in-Ok : goal.returns-in_ok-push_str-in-Ok
returns-in_ok-push_str-in-Ok c =
    let whole : c.push_str.new.self ≡ c.args.bytes.now = cc (c.in_ok-push_str-in-Ok.ensures.ok, c.new-text.ensures, c.in-Ok.ensures.cases.0) in
    text_there c.args.bytes.now (is_text c.args.bytes.now c.in-Ok.ensures.cases.1) ∙ ap Some (sym whole)

pub returns-in-Err : goal.returns-in-Err
returns-in-Err c = text_absent c.args.bytes.now (no_text c.args.bytes.now c.in-Err.ensures.cases.0)
