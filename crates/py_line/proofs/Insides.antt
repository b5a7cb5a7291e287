-- What is nested is read alike to any depth that is enough, and so it is a fixed point.
use Rattle.std.proofs.Common.{◌≡◌, ℕ, zero, suc, ◌≤◌, ◌<◌, List, length, arith}
use Rattle.py_grammar.specs.Grammar.{Level}
use Rattle.py_grammar.specs.Reading.{row, pair_row, start, nested}
use Rattle.py_grammar.specs.declared.sign.Sign.{Sign}
use Rattle.py_grammar.proofs.Phrases.{SoundInside}
use Rattle.py_grammar.proofs.SoundLists.{nested_sound, start_sound, row_sound, pair_row_sound}
use Rattle.py_line.specs.Full.{full}
use Rattle.py_line.proofs.Alike.{Alike}
use Rattle.py_line.proofs.AlikeLists.{start_alike, row_alike, pair_row_alike}

-- the number is the most levels of a tree that are kept
module _ (most : ℕ) (some : 0 < most) where
  -- so many nestings are read alike, however many more there may be
  pub nested_alike : (n m k : ℕ) → n ≤ m → n ≤ k → Alike n (nested most m) (nested most k)
  unfolding nested
  nested_alike zero m k p q = record {
    trees = λ l tokens r. absurd (omega arith);
    rows = λ tokens r. absurd (omega arith);
    pair_rows = λ tokens r. absurd (omega arith);
  }
  nested_alike (suc n) zero k p q = absurd (omega arith)
  nested_alike (suc n) (suc m) zero p q = absurd (omega arith)
  nested_alike (suc n) (suc m) (suc k) p q =
      let s = nested_sound most some m in
      let h = nested_alike n m k (omega arith) (omega arith) in
      record {
        trees = λ l tokens r. start_alike most some (nested most m) (nested most k) s n h l tokens (omega arith);
        rows = λ tokens r. row_alike most some (nested most m) (nested most k) s n h tokens (omega arith);
        pair_rows = λ tokens r. pair_row_alike most some (nested most m) (nested most k) s n h tokens (omega arith);
      }

  -- nestings that do not run out
  pub full_alike : (n m : ℕ) → n ≤ m → Alike n (nested most m) (full most)
  unfolding nested full
  full_alike zero m p = record {
    trees = λ l tokens r. absurd (omega arith);
    rows = λ tokens r. absurd (omega arith);
    pair_rows = λ tokens r. absurd (omega arith);
  }
  full_alike (suc n) zero p = absurd (omega arith)
  full_alike (suc n) (suc m) p =
      let s = nested_sound most some m in
      record {
        trees = λ l tokens r.
            start_alike most some (nested most m) (nested most (length tokens)) s (length tokens)
            (nested_alike (length tokens) m (length tokens) (omega arith) (omega arith)) l tokens (omega arith);
        rows = λ tokens r.
            row_alike most some (nested most m) (nested most (length tokens)) s (length tokens)
            (nested_alike (length tokens) m (length tokens) (omega arith) (omega arith)) tokens (omega arith);
        pair_rows = λ tokens r.
            pair_row_alike most some (nested most m) (nested most (length tokens)) s (length tokens)
            (nested_alike (length tokens) m (length tokens) (omega arith) (omega arith)) tokens (omega arith);
      }

  pub full_sound : SoundInside most (full most)
  unfolding full
  full_sound = record {
    trees = λ l tokens. start_sound most some (nested most (length tokens)) (nested_sound most some (length tokens)) l tokens;
    rows = λ tokens. row_sound most some (nested most (length tokens)) (nested_sound most some (length tokens)) tokens;
    pair_rows = λ tokens. pair_row_sound most some (nested most (length tokens)) (nested_sound most some (length tokens)) tokens;
  }

  -- as many nestings as there are signs are enough
  pub deep_enough : (l : Level) (n : ℕ) (tokens : List Sign) → length tokens ≤ n
      → start most l (nested most n) tokens ≡ start most l (full most) tokens
  deep_enough l n tokens p =
      start_alike most some (nested most n) (full most) (nested_sound most some n) n (full_alike n n (omega arith)) l tokens p

  pub fixed : (l : Level) (tokens : List Sign) → (full most).tree l tokens ≡ start most l (full most) tokens
  unfolding full
  fixed l tokens = deep_enough l (length tokens) tokens (omega arith)

  pub fixed_row : (tokens : List Sign) → (full most).row tokens ≡ row most (full most) tokens
  unfolding full
  fixed_row tokens =
      let n = length tokens in
      row_alike most some (nested most n) (full most) (nested_sound most some n) n (full_alike n n (omega arith)) tokens (omega arith)

  pub fixed_pair_row : (tokens : List Sign) → (full most).pair_row tokens ≡ pair_row most (full most) tokens
  unfolding full
  fixed_pair_row tokens =
      let n = length tokens in
      pair_row_alike most some (nested most n) (full most) (nested_sound most some n) n (full_alike n n (omega arith)) tokens (omega arith)
