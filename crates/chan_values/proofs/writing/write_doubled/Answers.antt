use Rattle.std.proofs.Common.{◌≡◌, ◌++◌, sym, subst}
use Rattle.std.specs.Prelude.{OnOk}
use Rattle.chan_values.proofs.Characters.{doubled_stays}
use Rattle.chan_values.proofs.writing.write_doubled.Goals as goal

pub returns : goal.returns
returns c = subst (λ x. OnOk c.push.result (c.push.new.self ≡ c.args.out.now ++ x)) (sym (doubled_stays c.args.c c.if-c-eq34.false)) c.push.ensures.ok
