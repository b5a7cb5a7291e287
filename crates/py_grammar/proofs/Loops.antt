-- A loop of a parser beside a loop of reading: one turn on, a turn that fails, and the end. What was read so far is `read`, and
-- `next` is what is made of the loop's end; without it, the lemmas of the second block.
use Rattle.std.proofs.Common.{◌≡◌, ◌<◌, List, length, Option, Some, None, sym, ap, ◌∙◌, arith}
use Rattle.py_grammar.specs.Reading.{Reader, ◌>>=◌, loop}
use Rattle.py_grammar.specs.declared.sign.Sign.{Sign}
use Rattle.py_grammar.proofs.Steps.{Shrinks, loop_goes, loop_stops}

module _ {S A : Type 0} (operator : Reader A) (turn : S → A → Reader S) (h : Shrinks operator turn) where
  pub turn_smaller : (s : S) (rest : List Sign) (o : A × List Sign) (r : S × List Sign) → Some o ≡ operator rest → turn s o.0 o.1 ≡ Some r
      → length r.1 < length rest
  turn_smaller s rest o r eo e = let less = h.operators rest o (sym eo) in let at_most = h.turns s o.0 o.1 r e in omega arith

  module _ {R : Type 0} (read : Option R) (next : S × List Sign → Option R) (s : S) (rest : List Sign)
      (before : read ≡ (loop operator turn s rest >>= next)) where
    pub goes_then : (o : A × List Sign) (r : S × List Sign) → Some o ≡ operator rest → turn s o.0 o.1 ≡ Some r
        → read ≡ (loop operator turn r.0 r.1 >>= next)
    goes_then o r eo e = before ∙ ap (λ z. z >>= next) (loop_goes operator turn h s rest o (sym eo)
        ∙ ap (λ z. z >>= λ r. loop operator turn r.0 r.1) e)

    pub none_then : (o : A × List Sign) → Some o ≡ operator rest → turn s o.0 o.1 ≡ None → read ≡ None
    none_then o eo e = before ∙ ap (λ z. z >>= next) (loop_goes operator turn h s rest o (sym eo)
        ∙ ap (λ z. z >>= λ r. loop operator turn r.0 r.1) e)

    pub ends_then : None ≡ operator rest → read ≡ next (s, rest)
    ends_then e = before ∙ ap (λ z. z >>= next) (loop_stops operator turn h s rest (sym e))

  module _ (read : Option (S × List Sign)) (s : S) (rest : List Sign) (before : read ≡ loop operator turn s rest) where
    pub turn_goes : (o : A × List Sign) (r : S × List Sign) → Some o ≡ operator rest → turn s o.0 o.1 ≡ Some r
        → read ≡ loop operator turn r.0 r.1
    turn_goes o r eo e = before ∙ loop_goes operator turn h s rest o (sym eo) ∙ ap (λ z. z >>= λ r. loop operator turn r.0 r.1) e

    pub turn_none : (o : A × List Sign) → Some o ≡ operator rest → turn s o.0 o.1 ≡ None → read ≡ None
    turn_none o eo e = before ∙ loop_goes operator turn h s rest o (sym eo) ∙ ap (λ z. z >>= λ r. loop operator turn r.0 r.1) e

    pub turn_ends : None ≡ operator rest → read ≡ Some (s, rest)
    turn_ends e = before ∙ loop_stops operator turn h s rest (sym e)
