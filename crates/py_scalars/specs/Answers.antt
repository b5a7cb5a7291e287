-- The answers of the reader of text literals.
use Rattle.std.specs.Prelude.{◌≡◌, ℕ, List, ◌++◌, Option, Some, None, Result, Ok, Err}
use Rattle.py_scalars.specs.declared.text_form.TextFault.{TextFault}
use Rattle.py_scalars.specs.declared.text_form.TextFault.TheVariants.{Malformed, NoMemory}

-- the text that a literal stands for, where it is one
abbrev pub IsRead : Option (List ℕ) → Result (List ℕ) TextFault → Type 0
IsRead literal (Ok text) = literal ≡ Some text
IsRead literal (Err Malformed) = literal ≡ None
IsRead literal (Err NoMemory) = Unit {0}

-- an escape of n code points was read, and what it stands for stands behind what was there
abbrev pub IsEscape : Option (ℕ × List ℕ) → List ℕ → List ℕ → Result ℕ TextFault → Type 0
IsEscape escape old new (Ok n) = (what : List ℕ) × (escape ≡ Some (n, what)) × (new ≡ old ++ what)
IsEscape escape old new (Err Malformed) = escape ≡ None
IsEscape escape old new (Err NoMemory) = Unit {0}

-- the content of a literal was read whole
abbrev pub IsContent : Option (List ℕ) → List ℕ → Result (Unit {0}) TextFault → Type 0
IsContent content new (Ok _) = content ≡ Some new
IsContent content new (Err Malformed) = content ≡ None
IsContent content new (Err NoMemory) = Unit {0}
