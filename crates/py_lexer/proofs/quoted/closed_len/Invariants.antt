use Rattle.std.proofs.Common.{◌≡◌, ◌≤◌, ◌-◌, length, drop, false}
use Rattle.py_lexer.specs.Scan.{closed_len, longer}
use Rattle.py_lexer.proofs.quoted.closed_len.Given as goal

abbrev pub invariant-loop-at : goal.invariant-loop-at
invariant-loop-at l =
    (l.at ≤ length l.text) × (longer l.at (closed_len l.quotes l.behind (drop l.at l.text)) ≡ closed_len l.quotes false l.text)

abbrev pub decreases-loop-at : goal.decreases-loop-at
decreases-loop-at l = length l.text - l.at
