-- Which cells take names and attributes.
use Rattle.std.specs.Prelude.{◌≡◌, ◌==◌, true}
use Rattle.std.specs.List.{list_any}
use Rattle.flow_base.specs.declared.numbers.Sym.{Sym}
use Rattle.heap_objects.specs.declared.object.Cell.{Cell}
use Rattle.heap_objects.specs.declared.object.Cell.TheVariants as cell

-- the global frame takes every name, and the frame of a function those of its slots
abbrev pub HoldsName : Cell → Sym → Type 0
HoldsName (cell.Global names) n = Unit {0}
HoldsName (cell.Frame slots) n = list_any (λ s. s.0.0 == n.0) slots ≡ true
HoldsName _ n = ⊥

-- an instance or a class
abbrev pub HasAttrs : Cell → Type 0
HasAttrs (cell.Attrs names) = Unit {0}
HasAttrs _ = ⊥
