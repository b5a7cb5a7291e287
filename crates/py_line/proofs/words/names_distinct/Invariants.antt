use Rattle.std.proofs.Common.{◌≡◌, drop}
use Rattle.py_grammar.specs.Reading.{is_distinct}
use Rattle.py_line.specs.Joined.{all_new}
use Rattle.py_line.proofs.words.names_distinct.Given as goal

abbrev pub invariant-loop-name : goal.invariant-loop-name
invariant-loop-name l = all_new l.seen (drop l.name-index l.names) ≡ is_distinct l.names
