use Rattle.std.proofs.Common.{sym, subst}
use Rattle.std.specs.Prelude.{None}
use Rattle.heap_objects.specs.Names.{AreNumbers}
use Rattle.heap_objects.proofs.SymbolLaws.{no_names}
use Rattle.heap_objects.proofs.cell.no_numbers.Goals as goal

pub returns : goal.returns
returns c = subst (AreNumbers (λ n. None)) (sym c.new.ensures.items) no_names
