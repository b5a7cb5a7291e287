use Rattle.flow_io.proofs.Laws.{ready_again}
use Rattle.flow_io.proofs.tests.answers.Goals as goal

pub loop-preserved : goal.loop-preserved
loop-preserved g c = ready_again (c.next_line-answer.ensures.reads.1)
