-- The loops of a line and of what stands in it, over nestings that do not run out.
use Rattle.std.proofs.Common.{◌≡◌, ℕ, ◌==◌, ◌∙◌, List, [], ◌∷◌, Option, Some, arith}
use Rattle.py_grammar.specs.LineReading.{equals_at, next_simple_at, places_turn, assigned_turn, simples_turn}
use Rattle.py_grammar.specs.Reading.{Reader, next_at, next_name_at, loop, items_turn, param_turn}
use Rattle.py_grammar.specs.declared.sign.Sign.{Sign}
use Rattle.py_grammar.proofs.Steps.{Shrinks}
use Rattle.py_grammar.proofs.Loops.{turn_none}
use Rattle.py_grammar.proofs.SoundLists.{items_shrinks}
use Rattle.py_grammar.proofs.SoundParams.{params_shrinks}
use Rattle.py_line.specs.declared.fault.ReadFault.{ReadFault}
use Rattle.py_line.specs.declared.fault.ReadFault.TheVariants.{NoLine, NoMemory}
use Rattle.py_line.specs.Full.{full}
use Rattle.py_line.specs.Gives.{Fails}
use Rattle.py_line.proofs.FullLines.{places_full, assigned_full, simples_full}
use Rattle.py_line.proofs.Insides.{full_sound}

-- a turn that fails, where the whole reading is the loop from here
pub turn_fails : {S A : Type 0} (operator : Reader A) (turn : S → A → Reader S) → Shrinks operator turn
    → (read : Option (S × List Sign)) (s : S) (rest : List Sign) → read ≡ loop operator turn s rest
    → (o : A × List Sign) → Some o ≡ operator rest → (fault : ReadFault) → Fails fault (turn s o.0 o.1) → Fails fault read
turn_fails operator turn h read s rest before o eo NoLine e = turn_none operator turn h read s rest before o eo e
turn_fails operator turn h read s rest before o eo NoMemory e = tt

-- ---- the loops

pub items_loop : Shrinks next_at (items_turn 60 (full 60))
items_loop = items_shrinks 60 (omega arith) (full 60) (full_sound 60 (omega arith))

pub params_loop : Shrinks next_name_at (param_turn 60 (full 60))
params_loop = params_shrinks 60 (omega arith) (full 60) (full_sound 60 (omega arith))

pub places_loop : Shrinks next_at (places_turn 60 (full 60))
places_loop = places_full 60 (omega arith)

pub assigned_loop : Shrinks equals_at (assigned_turn 60 (full 60))
assigned_loop = assigned_full 60 (omega arith)

pub simples_loop : Shrinks next_simple_at (simples_turn 60 (full 60))
simples_loop = simples_full 60 (omega arith)
