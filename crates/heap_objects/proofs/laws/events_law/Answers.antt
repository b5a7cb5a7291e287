use Rattle.heap_objects.proofs.ToldLaws.{told_clear, told_dict, told_list, told_put, told_remove, told_splice}
use Rattle.heap_objects.proofs.laws.events_law.Goals as goal

pub returns-clause-splice : goal.returns-clause-splice
returns-clause-splice c = told_splice

pub returns-clause-put : goal.returns-clause-put
returns-clause-put c = told_put

pub returns-clause-remove : goal.returns-clause-remove
returns-clause-remove c = told_remove

pub returns-clause-clear : goal.returns-clause-clear
returns-clause-clear c = told_clear

pub returns-clause-list : goal.returns-clause-list
returns-clause-list c = told_list

pub returns-clause-dict : goal.returns-clause-dict
returns-clause-dict c = told_dict
