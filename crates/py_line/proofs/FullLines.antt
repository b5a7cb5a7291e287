-- The loops of a line, over nestings that do not run out.
use Rattle.std.proofs.Common.{ℕ, suc, ◌<◌, length, ◌∙◌, arith}
use Rattle.py_grammar.specs.Reading.{Reader, next_at, nested}
use Rattle.py_grammar.specs.LineReading.{equals_at, next_simple_at, places_turn, assigned_turn, simples_turn}
use Rattle.py_grammar.proofs.Steps.{Shrinks}
use Rattle.py_grammar.proofs.TargetReading.{places_shrink}
use Rattle.py_grammar.proofs.AssignReading.{assigned_shrink}
use Rattle.py_grammar.proofs.SimpleReading.{simples_shrink}
use Rattle.py_line.specs.Full.{full}
use Rattle.py_line.proofs.Alike.{TurnsAgree}
use Rattle.py_line.proofs.Insides.{full_alike}
use Rattle.py_line.proofs.AlikeLines.{places_turn_alike, assigned_turn_alike, simples_turn_alike}

-- turns that agree, at each depth, with turns that leave no more signs than there were
shrinks_alike : {S A : Type 0} (operator : Reader A) (t : ℕ → S → A → Reader S) (u : S → A → Reader S)
    → ((n : ℕ) → Shrinks operator (t n)) → ((n : ℕ) → TurnsAgree n (t n) u)
    → Shrinks operator u
shrinks_alike operator t u shrinks same = record {
  operators = (shrinks 0).operators;
  turns = λ s a tokens r e.
      let n = suc (length tokens) in
      (shrinks n).turns s a tokens r (same n s a tokens (omega arith) ∙ e);
}

-- the number is the most levels of a tree that are kept
module _ (most : ℕ) (some : 0 < most) where
  pub places_full : Shrinks next_at (places_turn most (full most))
  places_full =
      shrinks_alike next_at (λ n. places_turn most (nested most n)) (places_turn most (full most)) (places_shrink most some)
      (λ n. places_turn_alike most some n (full most) n (full_alike most some n n (omega arith)))

  pub assigned_full : Shrinks equals_at (assigned_turn most (full most))
  assigned_full =
      shrinks_alike equals_at (λ n. assigned_turn most (nested most n)) (assigned_turn most (full most)) (assigned_shrink most some)
      (λ n. assigned_turn_alike most some n (full most) n (full_alike most some n n (omega arith)))

  pub simples_full : Shrinks next_simple_at (simples_turn most (full most))
  simples_full =
      shrinks_alike next_simple_at (λ n. simples_turn most (nested most n)) (simples_turn most (full most)) (simples_shrink most some)
      (λ n. simples_turn_alike most some n (full most) n (full_alike most some n n (omega arith)))
