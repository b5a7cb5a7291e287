use Rattle.std.proofs.Common.{◌≡◌, ◌+◌, ◌++◌, drop, map}
use Rattle.py_ast.specs.View.{view, views}
use Rattle.py_ast.specs.Nodes.{count_from, nodes_of_all}
use Rattle.py_line.specs.Numbers.{size_of_all}
use Rattle.py_line.specs.Form.{numbers}
use Rattle.py_line.proofs.numbering.+expressions.Given as goal

abbrev pub invariant-numbered_all-loop-e : goal.invariant-numbered_all-loop-e
invariant-numbered_all-loop-e l = record {
  same : map view l.done.items ++ map view (drop l.e-index l.all) ≡ map view l.all;
  in_order : numbers (nodes_of_all l.done.items) ++ count_from l.at (size_of_all (views (drop l.e-index l.all))) ≡ count_from l.next (size_of_all (views l.all));
  after : l.at + size_of_all (views (drop l.e-index l.all)) ≡ l.next + size_of_all (views l.all);
}
