use Rattle.std.proofs.Common.{◌≡◌, IfOk, subst, sym}
use Rattle.py_block.specs.Lexing.{lexed}
use Rattle.py_block.specs.NodeLines.{line_in_tokens}
use Rattle.py_block.specs.Parsed.{of_tokens}
use Rattle.py_block.specs.Pass.{HasNodeIn}
use Rattle.py_block.proofs.Reaching.{line_at_is, text_has}
use Rattle.py_block.proofs.parser.line_of.Goals as goal

pub line_in_text-requires-clause-there : goal.line_in_text-requires-clause-there
line_in_text-requires-clause-there c =
    subst (λ z. HasNodeIn (of_tokens z (lexed z)) c.args.node) (sym c.in_ok-text.ensures.is) (text_has c.args.text.now c.args.node c.requires.there)

pub returns : goal.returns
returns c =
    subst (λ z. IfOk c.line_in_text.result (λ line. line ≡ z)) (sym (line_at_is c.args.text.now c.args.node))
    (subst (λ z. IfOk c.line_in_text.result (λ line. line ≡ line_in_tokens z (lexed z) c.args.node)) c.in_ok-text.ensures.is c.line_in_text.ensures)
