use Rattle.std.proofs.Common.{◌≡◌, ◌≤◌, ◌-◌, length, drop}
use Rattle.py_scalars.specs.TextForm.{content, before_rest}
use Rattle.py_scalars.proofs.text_form.read_content.Given as goal

abbrev pub invariant-loop-at : goal.invariant-loop-at
invariant-loop-at l = (l.at ≤ length l.text) × (before_rest l.out.items (content l.quotes 0 (drop l.at l.text)) ≡ content l.quotes 0 l.text)

abbrev pub decreases-loop-at : goal.decreases-loop-at
decreases-loop-at l = length l.text - l.at
