-- The table of names: a list of texts without repeats. The symbol of a text is its place in the table.
use Rattle.std.specs.Prelude.{ℕ, suc, List, [], ◌∷◌, ◌++◌, Option, Some, None, is_some, if◌then◌else◌}
use Rattle.std.specs.Str.{bytes_eq}
use Rattle.flow_base.specs.declared.numbers.Sym.{Sym}

-- the symbol one further on
abbrev pub next_sym : Option Sym → Option Sym
next_sym None = None
next_sym (Some s) = Some (record { 0 = suc s.0 })

-- the symbol of a text that the table has
abbrev pub symbol_of : List (List ℕ) → List ℕ → Option Sym
symbol_of [] text = None
symbol_of (name ∷ names) text = if bytes_eq name text then Some (record { 0 = 0 }) else next_sym (symbol_of names text)

-- the table with a text: a new one comes last
abbrev pub with_name : List (List ℕ) → List ℕ → List (List ℕ)
with_name names text = if is_some (symbol_of names text) then names else names ++ text ∷ []
