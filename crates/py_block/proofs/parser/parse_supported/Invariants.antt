use Rattle.std.proofs.Common.{drop, map}
use Rattle.py_block.specs.Parsed.{told}
use Rattle.py_block.proofs.Passing.{IsPassed}
use Rattle.py_block.proofs.parser.parse_supported.Given as goal

abbrev pub invariant-loop-line : goal.invariant-loop-line
invariant-loop-line l = IsPassed l.text l.tokens (map (told l.text l.tokens) l.lines) (drop l.line-index l.lines) l.last l.stage
