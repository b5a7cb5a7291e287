use Rattle.std.proofs.Common.{◌∙◌, List, ap}
use Rattle.std.specs.Cmp.Lexicographic.{slice_cmp}
use Rattle.flow_base.specs.declared.key.Key.{Key}
use Rattle.trace_events.specs.Order.{key_cmp}
use Rattle.dependence_graph.proofs.KeyOrder.{parts_less, tuple_cmp}
use Rattle.dependence_graph.proofs.order.+order.Goals as goal

pub compare_keys-returns-in-Tuple-Tuple : goal.compare_keys-returns-in-Tuple-Tuple
compare_keys-returns-in-Tuple-Tuple t c =
    c.compare_parts.ensures
    ∙ ap (λ (l : List Key). slice_cmp key_cmp l c.as_slice-in-Tuple-Tuple.result.now) c.as_slice.ensures
    ∙ ap (slice_cmp key_cmp c.in-Tuple-Tuple.s) c.as_slice-in-Tuple-Tuple.ensures
    ∙ tuple_cmp c.args.a.now c.args.b.now c.in-Tuple-Tuple.s c.in-Tuple-Tuple.t c.in-Tuple-Tuple.is-0 c.in-Tuple-Tuple.is-1

pub compare_parts-returns-then-s-t : goal.compare_parts-returns-then-s-t
compare_parts-returns-then-s-t t c =
    parts_less c.args.s.now c.args.t.now c.loop-i.i c.loop-i-test.false c.if-s-t.true c.loop-i.auto.i-end c.loop-i.invariant.rest
