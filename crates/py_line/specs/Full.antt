-- What is nested in a phrase, read with as many nestings as it may have.
use Rattle.std.specs.Prelude.{ℕ, length}
use Rattle.py_grammar.specs.Reading.{Inside, start, row, pair_row, nested}

-- the number is the most levels of a tree that are kept
unfoldable pub full : ℕ → Inside
full most = record {
  tree = λ level tokens. start most level (nested most (length tokens)) tokens;
  row = λ tokens. row most (nested most (length tokens)) tokens;
  pair_row = λ tokens. pair_row most (nested most (length tokens)) tokens;
}
