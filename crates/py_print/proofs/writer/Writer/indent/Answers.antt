use Rattle.std.proofs.Common.{◌++◌, ◌∷◌, [], ℕ, List, ap, ◌∙◌}
use Rattle.py_print.proofs.PrintLists.{four_more}
use Rattle.py_print.proofs.writer.Writer.indent.Goals as goal

pub loop-preserved : goal.loop-preserved
loop-preserved c =
    c.in_ok-extend_from_slice.ensures.items ∙ ap (λ (z : List ℕ). z ++ 32 ∷ 32 ∷ 32 ∷ 32 ∷ []) c.loop.invariant
    ∙ four_more c.self.inside.points.items c.loop.counter
