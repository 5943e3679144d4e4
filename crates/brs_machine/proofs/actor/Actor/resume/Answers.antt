use Rattle.std.proofs.Common.{sym, subst}
use Rattle.heap_meaning.specs.Heap.{MakesObject}
use Rattle.heap_meaning.specs.Store.{MessageObject}
use Rattle.machine_meaning.specs.Image.{Image}
use Rattle.actor_meaning.specs.Promises.{Resumes}
use Rattle.brs_machine.proofs.Answering.{value_answered, message_answered, failing, failure_answered}
use Rattle.brs_machine.proofs.actor.Actor.resume.Goals as goal

pub returns-in_ok-v-in-Value-clause-resumes : goal.returns-in_ok-v-in-Value-clause-resumes
returns-in_ok-v-in-Value-clause-resumes c =
    value_answered c.receive.result c.args.heap.now c.copy_in.new.heap c.receive.new.heap c.args.self.now c.receive.new.self c.in_ok-v-in-Value.v c.args.answer.now c.requires.waits c.requires.there _ c.in-Value.is
    c.in_ok-v-in-Value.ensures.lays c.receive.ensures.receives

pub returns-in_ok-v-in-Message-clause-resumes : goal.returns-in_ok-v-in-Message-clause-resumes
returns-in_ok-v-in-Message-clause-resumes c =
    message_answered c.receive-in-Message.result c.args.heap.now c.make_message.new.self c.receive-in-Message.new.heap c.args.self.now c.receive-in-Message.new.self c.in_ok-v-in-Message.v c.args.answer.now c.requires.waits c.requires.there
    _ c.in-Message.is (subst (λ m. MakesObject c.args.heap.now c.make_message.new.self c.in_ok-v-in-Message.v (MessageObject m)) c.in_ok-message-in-Message.ensures c.in_ok-v-in-Message.ensures.made)
    c.receive-in-Message.ensures.receives

pub returns-in-Failed-clause-resumes : goal.returns-in-Failed-clause-resumes
returns-in-Failed-clause-resumes c =
    subst (λ a. (image : Image) → Resumes image c.args.heap.now c.args.self.now c.args.heap.now (failing c.in-Failed.error a) c.args.answer.now) (sym c.self.view_is)
    (failure_answered c.args.heap.now c.args.self.now c.in-Failed.error c.args.answer.now c.in-Failed.is c.requires.waits c.requires.there)
