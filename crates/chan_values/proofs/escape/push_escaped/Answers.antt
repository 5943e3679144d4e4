use Rattle.std.proofs.Common.{◌≡◌, ◌∙◌, ◌++◌, sym, subst, arith}
use Rattle.std.specs.Prelude.{OnOk}
use Rattle.chan_values.proofs.Characters.{escaped_stays}
use Rattle.chan_values.proofs.escape.push_escaped.Goals as goal

pub returns : goal.returns
returns c =
    let stays = escaped_stays c.args.c (omega arith) (λ e. c.if-code-eq127.false (c.from-code.ensures ∙ e)) c.if-c-eq92.false in
    subst (λ x. OnOk c.push-2.result (c.push-2.new.self ≡ c.args.out.now ++ x)) (sym stays) c.push-2.ensures.ok
