use Rattle.dependence_graph.proofs.SetLaws.{AddsMark-insert}
use Rattle.dependence_graph.proofs.marks.mark.Goals as goal

pub returns : goal.returns
returns c = AddsMark-insert c.args.marks.now c.insert.new.self c.args.run c.args.place c.in_ok-insert.ensures.updates
