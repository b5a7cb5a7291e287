use Rattle.std.proofs.Common.{take, ◌++◌, ◌∷◌, ◌∙◌, sym, ap, List, ℕ}
use Rattle.std.proofs.Math.Seq.{drop-length}
use Rattle.flow_io.specs.Reader.{Backlog}
use Rattle.flow_io.proofs.Pieces.{line_feed-Some, line_feed-None}
use Rattle.flow_io.proofs.intake.Intake.move_line.Goals as goal

pub returns-in_ok-extend-in-Some-clause-moved : goal.returns-in_ok-extend-in-Some-clause-moved
returns-in_ok-extend-in-Some-clause-moved c = λ begun holds.
    let n = c.in-Some.n in
    let bytes = c.args.self.now.bytes in
    let found = line_feed-Some bytes n cc in (
      take n bytes,
      found.0,
      found.1 ∙ ap (λ (rest : List ℕ). take n bytes ++ 10 ∷ rest) (sym (ap (λ (b : Backlog). b.bytes) c.skip.ensures)),
      rw c.as_slice-in-Some.ensures.value at c.in_ok-extend-in-Some.ensures begun holds,
    )

pub returns-in_ok-extend-in-None-clause-moved : goal.returns-in_ok-extend-in-None-clause-moved
returns-in_ok-extend-in-None-clause-moved c = λ begun holds. (
  line_feed-None c.args.self.now.bytes 0 cc,
  ap (λ (b : Backlog). b.bytes) (rw c.as_slice-in-None-2.ensures.value at c.skip-in-None.ensures) ∙ drop-length c.args.self.now.bytes,
  rw c.as_slice-in-None.ensures.value at c.in_ok-extend-in-None.ensures begun holds,
)
