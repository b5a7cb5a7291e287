use Rattle.std.proofs.Common.{arith}
use Rattle.py_grammar.specs.Grammar.{Expr}
use Rattle.py_line.proofs.Insides.{fixed}
use Rattle.py_line.proofs.exprs.default_value.Goals as goal

pub returns : goal.returns
returns c = rw (fixed 60 (omega arith) Expr c.args.tokens.now) c.expr.ensures
