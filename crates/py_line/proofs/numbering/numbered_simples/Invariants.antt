use Rattle.std.proofs.Common.{◌≡◌, ◌+◌, ◌++◌, drop}
use Rattle.py_ast.specs.Nodes.{count_from, nodes_of_block}
use Rattle.py_line.specs.Numbers.{size_of_statements}
use Rattle.py_line.specs.Form.{numbers, raw_simples_of, statements_of}
use Rattle.py_line.proofs.numbering.numbered_simples.Given as goal

abbrev pub invariant-loop-s : goal.invariant-loop-s
invariant-loop-s l = record {
  same : statements_of l.done.items ++ raw_simples_of (drop l.s-index l.all) ≡ raw_simples_of l.all;
  in_order : numbers (nodes_of_block l.done.items) ++ count_from l.at (size_of_statements (raw_simples_of (drop l.s-index l.all))) ≡ count_from l.next (size_of_statements (raw_simples_of l.all));
  after : l.at + size_of_statements (raw_simples_of (drop l.s-index l.all)) ≡ l.next + size_of_statements (raw_simples_of l.all);
}
