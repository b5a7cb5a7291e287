use Rattle.std.proofs.Common.{◌≡◌, List, ap, subst}
use Rattle.std.specs.Prelude.{IfOk, Result, Ok, Err}
use Rattle.flow_wire.specs.declared.ask.Ask.{Ask}
use Rattle.flow_wire.specs.declared.reply.Reply.{Reply}
use Rattle.kernel_core.specs.declared.accepted.Accepted.{Accepted}
use Rattle.kernel_core.specs.Answer.{Answer, answer_of}
use Rattle.kernel_core.specs.Clean.{KeepsClean}
use Rattle.kernel_core.specs.Kernel.{Held, running}
use Rattle.kernel_core.specs.State.{state_of}
use Rattle.kernel_core.proofs.kernel.Kernel.step.Goals as goal

keeps_answered : {E : Type 0} (answered : Result Reply E) (k new : Held) (a : Ask) → IfOk answered (λ reply. answer_of k a ≡ record { reply = reply; kernel = new })
    → KeepsClean (state_of k.log) (answer_of k a).reply → IfOk answered (λ reply. KeepsClean (state_of k.log) reply)
keeps_answered (Ok reply) k new a is keeps = subst (λ (answer : Answer). KeepsClean (state_of k.log) answer.reply) is keeps
keeps_answered (Err e) k new a is keeps = tt

pub returns-clause-clean : goal.returns-clause-clean
returns-clause-clean c =
    let k : Held = running c.self.inside.log c.self.inside.steps in
    let new : Held = running c.answer-answered.new.log c.self.inside.steps in
    subst (λ (log : List Accepted). IfOk c.answer-answered.result (λ reply. KeepsClean (state_of log) reply)) (ap (λ (h : Held). h.log) c.self.view_is)
    (keeps_answered c.answer-answered.result k new c.args.a.now c.answer-answered.ensures.answered (c.clean_reply_law.ensures k c.args.a.now))
