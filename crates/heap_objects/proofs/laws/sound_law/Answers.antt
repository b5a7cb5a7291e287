use Rattle.heap_objects.proofs.SoundLaws.{begun_sound, class_sound, clear_sound, dict_sound, event_sound, frame_sound, function_sound, instance_sound, item_sound, list_sound, put_sound, refers_within, remove_sound, sound_keys, splice_sound, start_sound, store_sound}
use Rattle.heap_objects.proofs.laws.sound_law.Goals as goal

pub returns-clause-start : goal.returns-clause-start
returns-clause-start c = start_sound

pub returns-clause-event : goal.returns-clause-event
returns-clause-event c = event_sound

pub returns-clause-run : goal.returns-clause-run
returns-clause-run c = begun_sound

pub returns-clause-store : goal.returns-clause-store
returns-clause-store c = store_sound

pub returns-clause-item : goal.returns-clause-item
returns-clause-item c = item_sound

pub returns-clause-splice : goal.returns-clause-splice
returns-clause-splice c = splice_sound

pub returns-clause-put : goal.returns-clause-put
returns-clause-put c = put_sound

pub returns-clause-remove : goal.returns-clause-remove
returns-clause-remove c = remove_sound

pub returns-clause-clear : goal.returns-clause-clear
returns-clause-clear c = clear_sound

pub returns-clause-frame : goal.returns-clause-frame
returns-clause-frame c = frame_sound

pub returns-clause-list : goal.returns-clause-list
returns-clause-list c = list_sound

pub returns-clause-dict : goal.returns-clause-dict
returns-clause-dict c = dict_sound

pub returns-clause-instance : goal.returns-clause-instance
returns-clause-instance c = instance_sound

pub returns-clause-class : goal.returns-clause-class
returns-clause-class c = class_sound

pub returns-clause-function : goal.returns-clause-function
returns-clause-function c = function_sound

pub returns-clause-keys : goal.returns-clause-keys
returns-clause-keys c = sound_keys

pub returns-clause-there : goal.returns-clause-there
returns-clause-there c = refers_within

pub returns-clause-full : goal.returns-clause-full
returns-clause-full c = λ rules s h. h.sound
