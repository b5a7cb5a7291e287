-- The levels of the printer as those of the grammar.
use Rattle.py_grammar.specs.Grammar as g
use Rattle.py_print.specs.declared.level.Level.{Level}
use Rattle.py_print.specs.declared.level.Level.TheVariants as v

abbrev pub level : Level → g.Level
level v.Atom = g.Atom
level v.Primary = g.Primary
level v.Power = g.Power
level v.Factor = g.Factor
level v.Term = g.Term
level v.Sum = g.Sum
level v.Comparison = g.Comparison
level v.Not = g.Not
level v.And = g.And
level v.Or = g.Or
level v.Expr = g.Expr
