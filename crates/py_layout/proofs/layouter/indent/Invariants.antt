use Rattle.std.proofs.Common.{◌≡◌, ◌+◌, drop, option_map}
use Rattle.py_layout.specs.Layout.{indent_of}
use Rattle.py_layout.proofs.layouter.indent.Given as goal

abbrev pub invariant-loop-i : goal.invariant-loop-i
invariant-loop-i l = option_map (λ n. l.i + n) (indent_of (drop l.i l.text)) ≡ indent_of l.text
