use Rattle.heap_objects.proofs.MadeLaws.{class_made, dict_made, frame_made, function_made, instance_made, list_made}
use Rattle.heap_objects.proofs.laws.makes_law.Goals as goal

pub returns-clause-frame : goal.returns-clause-frame
returns-clause-frame c = frame_made

pub returns-clause-list : goal.returns-clause-list
returns-clause-list c = list_made

pub returns-clause-dict : goal.returns-clause-dict
returns-clause-dict c = dict_made

pub returns-clause-instance : goal.returns-clause-instance
returns-clause-instance c = instance_made

pub returns-clause-class : goal.returns-clause-class
returns-clause-class c = class_made

pub returns-clause-function : goal.returns-clause-function
returns-clause-function c = function_made
