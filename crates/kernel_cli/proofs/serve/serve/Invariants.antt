use Rattle.std.proofs.Common.{◌≡◌, ◌≤◌, ℕ, List, true}
use Rattle.flow_io.specs.Reader.{fuel}
use Rattle.kernel_cli.proofs.Served.{IsServed}
use Rattle.kernel_cli.proofs.serve.serve.Given as goal

abbrev pub invariant-loop-reply : goal.invariant-loop-reply
invariant-loop-reply g l = ((given : List ℕ) × (answered : List (List ℕ))
    × IsServed l.steps given answered (g.S.Source.left l.initial.source) (g.S.Source.left l.source) (g.K.Sink.written l.initial.sink) (g.K.Sink.written l.sink) l.reader l.kernel l.refused)
    × (l.reader.is_open ≡ true)
    × (l.reader.taken ≤ 67_108_865)
    × (g.S.Source.faults l.initial.source ≤ g.S.Source.faults l.source)
    × (g.K.Sink.faults l.initial.sink ≤ g.K.Sink.faults l.sink)

abbrev pub decreases-loop-reply : goal.decreases-loop-reply
decreases-loop-reply g l = fuel l.reader
