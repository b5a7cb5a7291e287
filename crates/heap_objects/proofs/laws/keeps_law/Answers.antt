use Rattle.heap_objects.proofs.KeptLaws.{kept_clear, kept_event, kept_item, kept_put_at, kept_remove, kept_run, kept_splice, kept_store}
use Rattle.heap_objects.proofs.MadeLaws.{kept_class, kept_dict, kept_frame, kept_function, kept_instance, kept_list}
use Rattle.heap_objects.proofs.laws.keeps_law.Goals as goal

pub returns-clause-event : goal.returns-clause-event
returns-clause-event c = kept_event

pub returns-clause-run : goal.returns-clause-run
returns-clause-run c = kept_run

pub returns-clause-store : goal.returns-clause-store
returns-clause-store c = kept_store

pub returns-clause-item : goal.returns-clause-item
returns-clause-item c = kept_item

pub returns-clause-splice : goal.returns-clause-splice
returns-clause-splice c = kept_splice

pub returns-clause-put : goal.returns-clause-put
returns-clause-put c = kept_put_at

pub returns-clause-remove : goal.returns-clause-remove
returns-clause-remove c = kept_remove

pub returns-clause-clear : goal.returns-clause-clear
returns-clause-clear c = kept_clear

pub returns-clause-frame : goal.returns-clause-frame
returns-clause-frame c = kept_frame

pub returns-clause-list : goal.returns-clause-list
returns-clause-list c = kept_list

pub returns-clause-dict : goal.returns-clause-dict
returns-clause-dict c = kept_dict

pub returns-clause-instance : goal.returns-clause-instance
returns-clause-instance c = kept_instance

pub returns-clause-class : goal.returns-clause-class
returns-clause-class c = kept_class

pub returns-clause-function : goal.returns-clause-function
returns-clause-function c = kept_function
