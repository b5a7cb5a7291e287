use Rattle.std.proofs.Common.{◌≡◌, ◌≤◌, [], true}
use Rattle.std.specs.Io.KnownBytes.{IsAtEnd}
use Rattle.flow_io.proofs.tests.answers.Given as goal

abbrev pub invariant-loop : goal.invariant-loop
invariant-loop g l = l.reader.is_open ≡ true → l.reader.ended ≡ true
    → IsAtEnd (g.S.Source.left l.source) × (l.reader.pending ≡ []) × (l.reader.taken ≤ 67_108_864)
