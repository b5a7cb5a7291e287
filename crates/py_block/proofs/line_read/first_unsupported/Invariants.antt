use Rattle.std.proofs.Common.{◌≡◌, ℕ, List, drop, map}
use Rattle.py_block.specs.Parsed.{first_number, is_unsupported, told}
use Rattle.py_block.proofs.line_read.first_unsupported.Given as goal

abbrev pub invariant-loop-line : goal.invariant-loop-line
invariant-loop-line l =
    (text : List ℕ) → first_number is_unsupported (map (told text l.tokens) (drop l.line-index l.lines)) ≡ first_number is_unsupported (map (told text l.tokens) l.lines)
