use Rattle.heap_objects.proofs.FormedLaws.{begun_formed, class_formed, clear_formed, dict_formed, event_formed, frame_formed, function_formed, instance_formed, item_formed, list_formed, put_formed, remove_formed, splice_formed, start_formed, store_formed}
use Rattle.heap_objects.proofs.laws.formed_law.Goals as goal

pub returns-clause-start : goal.returns-clause-start
returns-clause-start c = start_formed

pub returns-clause-event : goal.returns-clause-event
returns-clause-event c = event_formed

pub returns-clause-run : goal.returns-clause-run
returns-clause-run c = begun_formed

pub returns-clause-store : goal.returns-clause-store
returns-clause-store c = store_formed

pub returns-clause-item : goal.returns-clause-item
returns-clause-item c = item_formed

pub returns-clause-splice : goal.returns-clause-splice
returns-clause-splice c = splice_formed

pub returns-clause-put : goal.returns-clause-put
returns-clause-put c = put_formed

pub returns-clause-remove : goal.returns-clause-remove
returns-clause-remove c = remove_formed

pub returns-clause-clear : goal.returns-clause-clear
returns-clause-clear c = clear_formed

pub returns-clause-frame : goal.returns-clause-frame
returns-clause-frame c = frame_formed

pub returns-clause-list : goal.returns-clause-list
returns-clause-list c = list_formed

pub returns-clause-dict : goal.returns-clause-dict
returns-clause-dict c = dict_formed

pub returns-clause-instance : goal.returns-clause-instance
returns-clause-instance c = instance_formed

pub returns-clause-class : goal.returns-clause-class
returns-clause-class c = class_formed

pub returns-clause-function : goal.returns-clause-function
returns-clause-function c = function_formed
