use Rattle.std.proofs.Common.{refl}
use Rattle.channel_meaning.proofs.GoingOn.{text_front}
use Rattle.channel_meaning.proofs.laws.a_text_begins_with_each_trace_before.Goals as goal

pub returns-clause-text : goal.returns-clause-text
returns-clause-text c = λ ch script bound events says. record { events = events; says = says; is = refl }

pub returns-clause-front : goal.returns-clause-front
returns-clause-front c = text_front
