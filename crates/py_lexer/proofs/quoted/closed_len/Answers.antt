use Rattle.std.proofs.Common.{◌+◌, drop, false, ap, sym, ◌∙◌, arith}
use Rattle.py_lexer.specs.Scan.{closed_len, longer}
use Rattle.py_lexer.proofs.Quotes.{closed_behind, longer_more}
use Rattle.py_lexer.proofs.quoted.closed_len.Goals as goal

pub loop-at-preserved-then-behind : goal.loop-at-preserved-then-behind
loop-at-preserved-then-behind c =
    let quotes = c.args.quotes.now in
    let text = c.args.text.now in
    let at = c.loop-at.at in (
      omega arith,
      sym (longer_more at (closed_len quotes false (drop (at + 1) text)))
          ∙ ap (longer at) (sym (closed_behind quotes text at c.loop-at-test.true))
          ∙ ap (λ b. longer at (closed_len quotes b (drop at text))) (sym c.if-behind.true)
          ∙ c.loop-at.invariant.1,
    )
