use Rattle.std.proofs.Common.{subst}
use Rattle.py_lexer.specs.Cut.{IsLexed}
use Rattle.py_lexer.proofs.Cutting.{complete, refused}
use Rattle.py_lexer.proofs.lexer.lex.Goals as goal

pub returns-clause-complete : goal.returns-clause-complete
returns-clause-complete c = complete c.args.text.now c.cut.result (subst (λ z. IsLexed z c.cut.result) c.as_slice.ensures c.cut.ensures)

pub returns-clause-refused : goal.returns-clause-refused
returns-clause-refused c = refused c.args.text.now c.cut.result (subst (λ z. IsLexed z c.cut.result) c.as_slice.ensures c.cut.ensures)
