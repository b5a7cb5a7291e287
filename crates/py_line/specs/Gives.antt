-- What the readers of a line answer.
use Rattle.std.specs.Prelude.{◌≡◌, Option, Some, None, Result, Ok, Err}
use Rattle.py_line.specs.declared.fault.ReadFault.{ReadFault}
use Rattle.py_line.specs.declared.fault.ReadFault.TheVariants.{NoLine, NoMemory}

-- a fault tells that nothing is read, unless memory is wanting
abbrev pub Fails : {Y : Type 0} → ReadFault → Option Y → Type 0
Fails NoLine read = read ≡ None
Fails NoMemory read = Unit {0}

-- what is answered, seen by view, is what is read
abbrev pub Gives : {X Y : Type 0} → (X → Y) → Result X ReadFault → Option Y → Type 0
Gives view (Ok x) read = read ≡ Some (view x)
Gives view (Err fault) read = Fails fault read
