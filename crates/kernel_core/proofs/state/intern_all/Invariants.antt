use Rattle.std.proofs.Common.{◌≡◌, drop}
use Rattle.kernel_core.specs.State.{with_names}
use Rattle.kernel_core.proofs.state.intern_all.Given as goal

abbrev pub invariant-loop-text : goal.invariant-loop-text
invariant-loop-text l = with_names l.initial.names l.texts ≡ with_names l.names (drop l.text-index l.texts)
