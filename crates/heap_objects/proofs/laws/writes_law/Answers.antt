use Rattle.heap_objects.proofs.WriteLaws.{attr_wrote, clear_wrote, item_wrote, name_wrote, nothing_wrote, put_wrote, remove_wrote, splice_wrote}
use Rattle.heap_objects.proofs.laws.writes_law.Goals as goal

pub returns-clause-event : goal.returns-clause-event
returns-clause-event c = λ s e. nothing_wrote s e

pub returns-clause-name : goal.returns-clause-name
returns-clause-name c = name_wrote

pub returns-clause-attr : goal.returns-clause-attr
returns-clause-attr c = attr_wrote

pub returns-clause-item : goal.returns-clause-item
returns-clause-item c = item_wrote

pub returns-clause-put : goal.returns-clause-put
returns-clause-put c = put_wrote

pub returns-clause-remove : goal.returns-clause-remove
returns-clause-remove c = remove_wrote

pub returns-clause-splice : goal.returns-clause-splice
returns-clause-splice c = splice_wrote

pub returns-clause-clear : goal.returns-clause-clear
returns-clause-clear c = clear_wrote
