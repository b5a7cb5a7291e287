use Rattle.std.proofs.Common.{◌≡◌, ◌++◌, take}
use Rattle.dependence_graph.proofs.gather.list_all.Given as goal

abbrev pub invariant-loop-version : goal.invariant-loop-version
invariant-loop-version l = l.found.items ≡ l.fn.found.items ++ take l.version-index l.versions
