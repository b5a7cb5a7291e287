use Rattle.std.proofs.Common.{sym, ◌∙◌}
use Rattle.std.proofs.lemmas.Bool.{false≢true}
use Rattle.py_ast.proofs.NodeLists.{counted_is_numbered, counted_is_size, counted_is_some, fewer}
use Rattle.py_ast.proofs.numbering.is_numbered.Goals as goal

pub returns-in-Some : goal.returns-in-Some
returns-in-Some c =
    let is = rw c.as_slice.ensures at c.counted_block.ensures in (
      λ h. counted_is_numbered c.args.c.now c.in-Some.last (sym is ∙ c.in-Some.is) (c.fits.ensures.0 h),
      λ numbered. c.fits.ensures.1 (fewer c.in-Some.last numbered.few (counted_is_size c.args.c.now c.counted_block.result c.in-Some.last numbered is c.in-Some.is)),
    )

pub returns-in-None : goal.returns-in-None
returns-in-None c = (
  λ h. absurd (false≢true h),
  λ numbered. counted_is_some c.args.c.now c.counted_block.result numbered
      (rw c.as_slice.ensures at c.counted_block.ensures) c.in-None.is,
)
