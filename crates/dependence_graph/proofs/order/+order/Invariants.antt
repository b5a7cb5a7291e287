use Rattle.std.proofs.Common.{◌≡◌, ◌≤◌, drop, length}
use Rattle.std.specs.Cmp.Lexicographic.{slice_cmp}
use Rattle.trace_events.specs.Order.{key_cmp}
use Rattle.dependence_graph.proofs.order.+order.Given as goal

abbrev pub invariant-compare_parts-loop-i : goal.invariant-compare_parts-loop-i
invariant-compare_parts-loop-i l = record {
  within : l.i ≤ length l.t;
  rest : slice_cmp key_cmp (drop l.i l.s) (drop l.i l.t) ≡ slice_cmp key_cmp l.s l.t;
}
