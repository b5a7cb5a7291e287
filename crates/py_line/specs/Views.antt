-- What the program's own values stand for.
use Rattle.py_ast.specs.View.{view, views}
use Rattle.py_grammar.specs.Kept as k
use Rattle.py_grammar.specs.Reading as reading
use Rattle.py_line.specs.declared.kept.Shape.{Shape}
use Rattle.py_line.specs.declared.kept.Shape.TheVariants.{Place, Target, Value}
use Rattle.py_line.specs.declared.kept.Kept.{Kept}
use Rattle.py_line.specs.declared.kept.Kept.TheVariants.{Whole, Deep}
use Rattle.py_line.specs.declared.kept.KeptAll.{KeptAll}
use Rattle.py_line.specs.declared.kept.KeptAll.TheVariants.{All, OneDeep, SomeDeep}
use Rattle.py_line.specs.declared.kept.Chained.{Chained}
use Rattle.py_line.specs.declared.kept.Parameters.{Parameters}

abbrev pub shape_of : Shape → k.Shape
shape_of Place = k.place
shape_of Target = k.target
shape_of Value = k.value

abbrev pub kept_of : Kept → k.Kept
kept_of (Whole e d) = k.whole (view e) d
kept_of (Deep s) = k.deep (shape_of s)

abbrev pub all_of : KeptAll → k.KeptAll
all_of (All es d) = k.all (views es.items) d
all_of (OneDeep s) = k.one_deep (shape_of s)
all_of (SomeDeep b) = k.some_deep b

abbrev pub chained_of : Chained → reading.Chained
chained_of c = (c.ops.items, all_of c.operands)

abbrev pub params_of : Parameters → reading.Parameters
params_of s = (s.names.items, all_of s.defaults)
