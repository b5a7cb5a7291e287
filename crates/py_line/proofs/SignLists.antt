-- The last sign before the rest.
use Rattle.std.proofs.Common.{◌≡◌, ℕ, zero, suc, ◌-◌, ◌<◌, List, [], ◌∷◌, length, get_or, take, ap, ◌∙◌, sym, arith}
use Rattle.py_grammar.specs.LineReading.{before, ends_in_close, is_close}
use Rattle.py_grammar.specs.declared.sign.Sign.{Sign}

last_taken : (n : ℕ) (xs : List Sign) (x : Sign) → n < length xs → x ≡ get_or xs n x → is_close x ≡ ends_in_close (take (suc n) xs)
last_taken n [] x h e = absurd (omega arith)
last_taken zero (y ∷ ys) x h e = ap is_close e
last_taken (suc n) (y ∷ []) x h e = absurd (omega arith)
last_taken (suc n) (y ∷ z ∷ zs) x h e = last_taken n (z ∷ zs) x (omega arith) e

pub last_before : (tokens rest : List Sign) (n k : ℕ) (x : Sign) → n ≡ length tokens - length rest → n ≡ suc k → x ≡ get_or tokens k x
    → is_close x ≡ ends_in_close (before tokens rest)
last_before tokens rest n k x is e at =
    last_taken k tokens x (omega arith) at ∙ ap (λ (z : ℕ). ends_in_close (take z tokens)) (sym e ∙ is)
