use Rattle.dependence_graph.proofs.SetLaws.{AddsMarks-append}
use Rattle.dependence_graph.proofs.marks.mark_all.Goals as goal

pub returns : goal.returns
returns c = AddsMarks-append c.args.marks.now c.args.more c.append.new.self c.in_ok-append.ensures.inserts_all
