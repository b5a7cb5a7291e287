use Rattle.std.proofs.Common.{◌≡◌, ◌++◌, drop}
use Rattle.heap_objects.specs.Names.{holding}
use Rattle.heap_objects.specs.State.{symbol_in}
use Rattle.heap_objects.proofs.object.Cell.symbols.Given as goal

abbrev pub invariant-loop-number : goal.invariant-loop-number
invariant-loop-number l = l.names.items ++ holding (symbol_in l.self) (drop l.number-index l.number-items) ≡ holding (symbol_in l.self) l.number-items
