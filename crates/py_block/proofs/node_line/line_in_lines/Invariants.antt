use Rattle.std.proofs.Common.{drop, map}
use Rattle.py_block.specs.Parsed.{told}
use Rattle.py_block.proofs.Reaching.{IsReached}
use Rattle.py_block.proofs.node_line.line_in_lines.Given as goal

abbrev pub invariant-loop-line : goal.invariant-loop-line
invariant-loop-line l = IsReached l.text l.tokens (map (told l.text l.tokens) l.lines) (drop l.line-index l.lines) l.before l.node
