use Rattle.std.proofs.Common.{◌≡◌, ℕ, drop}
use Rattle.std.specs.List.{list_all}
use Rattle.py_grammar.specs.Blocks.{is_allowed}
use Rattle.py_line.specs.Form.{statements_of}
use Rattle.py_block.specs.LevelViews.{place_at}
use Rattle.py_block.proofs.level_parts.may_stand.Given as goal

abbrev pub invariant-loop-statement : goal.invariant-loop-statement
invariant-loop-statement l =
    (deep : ℕ) → list_all (is_allowed (place_at deep l.body)) (statements_of (drop l.statement-index l.statements))
    ≡ list_all (is_allowed (place_at deep l.body)) (statements_of l.statements)
