use Rattle.std.proofs.Common.{◌≡◌, ◌≤◌, ◌<◌, ◌++◌, ℕ, drop, get_or, false}
use Rattle.std.specs.Char.{is_whitespace}
use Rattle.py_scalars.specs.Search.{words}
use Rattle.py_scalars.proofs.search.split_white.Given as goal

abbrev pub invariant-loop-i : goal.invariant-loop-i
invariant-loop-i l =
    (l.from ≤ l.i) × ((k : ℕ) → l.from ≤ k → k < l.i → is_whitespace (get_or l.t k 0) ≡ false)
    × (l.texts.items ++ words (drop l.from l.t) ≡ words l.t)
