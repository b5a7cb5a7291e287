use Rattle.py_line.proofs.NewNames.{distinct_from_none}
use Rattle.py_line.proofs.words.names_distinct.Goals as goal

pub loop-name-init : goal.loop-name-init
loop-name-init c = distinct_from_none c.new-seen.result c.args.names.now c.new-seen.ensures
