use Rattle.std.proofs.Common.{◌≡◌, ◌++◌, drop}
use Rattle.interp_ops.proofs.joining.with_values.Given as goal

abbrev pub invariant-loop-v : goal.invariant-loop-v
invariant-loop-v l = l.all.items ++ drop l.v-index l.more ≡ l.fn.begun.items ++ l.more
