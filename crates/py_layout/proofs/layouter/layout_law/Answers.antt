use Rattle.py_layout.proofs.Laying.{one_list, one_stop, not_both}
use Rattle.py_layout.proofs.layouter.layout_law.Goals as goal

pub returns-clause-one : goal.returns-clause-one
returns-clause-one c = one_list

pub returns-clause-stops : goal.returns-clause-stops
returns-clause-stops c = one_stop

pub returns-clause-not_both : goal.returns-clause-not_both
returns-clause-not_both c = not_both
