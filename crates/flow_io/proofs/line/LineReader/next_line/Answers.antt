use Rattle.std.proofs.Common.{◌++◌, ◌∙◌, List, ℕ, ap, subst, refl, inl, inr, true, Ok, IsTrue}
use Rattle.flow_io.specs.Reader.{Reader}
use Rattle.flow_io.specs.Reading.{Reads}
use Rattle.flow_io.proofs.Gathering.{answered}
use Rattle.flow_io.proofs.line.LineReader.next_line.Goals as goal

pub returns-in-Ok-true-clause-reads : goal.returns-in-Ok-true-clause-reads
returns-in-Ok-true-clause-reads g c =
    let gathers = rw c.in-Ok-true.field-0-test at c.in-Ok-true.ensures.gathers in
    let given = gathers.0 in
    let line = gathers.1.gathered in
    let left = g.S.Source.left c.gather.new.source in
    let now : Reader = record { pending = c.gather.new.intake.bytes; taken = c.gather.new.intake.taken; ended = c.self.inside.ended; is_open = c.self.inside.is_open } in
    let is_open = ap (λ (r : Reader). r.is_open) c.self.view_is ∙ c.requires.open in
    subst (λ (old : Reader). (x : List ℕ) × Reads x (g.S.Source.left c.args.source.now) left old now (Ok c.into_line.result)) c.self.view_is (
      given,
      record {
        source = gathers.1.source;
        count = gathers.1.count;
        answer =
            answered c.into_line.result line.0 (c.self.inside.intake.bytes ++ given) left now (c.into_line.ensures line.0 line.3)
            (line.1, inl (line.2, c.if-self.false))
            is_open;
      },
    )

pub returns-else-is_empty-clause-reads : goal.returns-else-is_empty-clause-reads
returns-else-is_empty-clause-reads g c =
    let gathers = rw c.in-Ok-false.field-0-test at c.in-Ok-false.ensures.gathers in
    let given = gathers.0 in
    let bytes = c.self.inside.intake.bytes ++ given in
    let all = gathers.1.gathered in
    let left = g.S.Source.left c.gather.new.source in
    let now : Reader = record { pending = c.gather.new.intake.bytes; taken = c.gather.new.intake.taken; ended = true; is_open = c.self.inside.is_open } in
    let is_open = ap (λ (r : Reader). r.is_open) c.self.view_is ∙ c.requires.open in
    subst (λ (old : Reader). (x : List ℕ) × Reads x (g.S.Source.left c.args.source.now) left old now (Ok c.into_line-in-Ok-false.result)) c.self.view_is (
      given,
      record {
        source = gathers.1.source;
        count = gathers.1.count;
        answer =
            answered c.into_line-in-Ok-false.result bytes bytes left now (c.into_line-in-Ok-false.ensures bytes all.4) (
              all.0,
              inr (
                refl,
                λ e. let yes : IsTrue c.is_empty.result = (c.is_empty.ensures bytes all.4).1 e in cc (yes, c.if-is_empty.false),
                all.1,
                all.2,
                refl,
                all.3,
              ),
            )
            is_open;
      },
    )
