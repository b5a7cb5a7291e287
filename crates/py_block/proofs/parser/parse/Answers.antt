use Rattle.std.proofs.Common.{subst}
use Rattle.py_block.specs.Lexing.{lexed}
use Rattle.py_block.specs.Parsed.{of_tokens}
use Rattle.py_block.specs.Pass.{Answers}
use Rattle.py_block.proofs.Answering.{text_answered, lawful_answer}
use Rattle.py_block.proofs.parser.parse.Goals as goal

pub returns-clause-exact : goal.returns-clause-exact
returns-clause-exact c =
    text_answered c.args.text.now c.parse_text.result
    (subst (λ z. Answers (of_tokens z (lexed z)) c.parse_text.result) c.in_ok-text.ensures.is c.parse_text.ensures)

pub returns-clause-lawful : goal.returns-clause-lawful
returns-clause-lawful c =
    lawful_answer c.args.text.now c.parse_text.result
    (subst (λ z. Answers (of_tokens z (lexed z)) c.parse_text.result) c.in_ok-text.ensures.is c.parse_text.ensures)
